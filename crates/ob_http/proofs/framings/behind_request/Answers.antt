use Rattle.std.proofs.Common.{subst}
use Rattle.std.specs.Prelude.{Option, Ok}
use Rattle.ob_http.specs.declared.seen.Seen.{Seen}
use Rattle.ob_http.specs.Request.{Stands}
use Rattle.ob_http.specs.Requests.{front_of}
use Rattle.ob_http.proofs.RequestsLemmas.{seen_stands, some_within, some_shorter, some_before, some_resting, some_faulted}
use Rattle.ob_http.proofs.framings.behind_request.Goals as goal

pub slice_bounds-result-count : goal.slice_bounds-result-count
slice_bounds-result-count c =
    some_within c.args.bytes.now c.in-Ok-Some.seen (seen_stands c.args.bytes.now _ c.in-Ok-Some.seen c.in-Ok-Some.field-0-is c.in-Ok-Some.ensures)

pub slice_bounds-result-start : goal.slice_bounds-result-start
slice_bounds-result-start c =
    some_within c.args.bytes.now c.in-Ok-Some.seen (seen_stands c.args.bytes.now _ c.in-Ok-Some.seen c.in-Ok-Some.field-0-is c.in-Ok-Some.ensures)

pub returns-in-Ok-Some-clause-shorter : goal.returns-in-Ok-Some-clause-shorter
returns-in-Ok-Some-clause-shorter c =
    some_shorter c.args.bytes.now c.in-Ok-Some.seen (seen_stands c.args.bytes.now _ c.in-Ok-Some.seen c.in-Ok-Some.field-0-is c.in-Ok-Some.ensures)

pub returns-in-Ok-Some-clause-some : goal.returns-in-Ok-Some-clause-some
returns-in-Ok-Some-clause-some c =
    some_before c.args.bytes.now c.in-Ok-Some.seen (seen_stands c.args.bytes.now _ c.in-Ok-Some.seen c.in-Ok-Some.field-0-is c.in-Ok-Some.ensures)

pub returns-in-Ok-None-clause-none : goal.returns-in-Ok-None-clause-none
returns-in-Ok-None-clause-none c =
    some_resting c.args.bytes.now (subst (λ (o : Option Seen). Stands c.args.bytes.now (front_of (Ok o))) c.in-Ok-None.field-0-is c.in-Ok-None.ensures)

pub returns-in-Err-clause-none : goal.returns-in-Err-clause-none
returns-in-Err-clause-none c = some_faulted c.args.bytes.now _ c.in-Err.ensures
