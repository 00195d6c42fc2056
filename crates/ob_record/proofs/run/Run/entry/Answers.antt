use Rattle.std.proofs.Common.{◌≡◌, ℕ, Some, sym, subst, arith}
use Rattle.std.specs.Prelude.{slice_get}
use Rattle.std.proofs.lemmas.Option.{slice_get_past}
use Rattle.ob_record.proofs.InPlace.{next_found, next_none, next_stands, none_left, read_entry}
use Rattle.ob_record.proofs.run.Run.entry.Goals as goal

pub returns-in-None : goal.returns-in-None
returns-in-None c = λ run records.
    let n = next_none c.loop-place.rest.now _ c.in-None.is c.in_ok-found.ensures.none in
    let few = none_left run.entries c.loop-place._place c.loop-place.rest.now records.valid.entries (c.loop-place.invariant run records) n in
    sym (slice_get_past run.entries c.args.place (let test = c.loop-place-test.true in omega (arith, test, few)))

pub loop-place-preserved : goal.loop-place-preserved
loop-place-preserved c = λ run records.
    let n = next_found c.loop-place.rest.now _ c.in-Some.found c.in-Some.is c.in_ok-found.ensures.found in
    (next_stands c.text_spells.ensures c.one_document.ensures run.entries c.loop-place._place c.loop-place.rest.now c.in-Some.found.0 c.in-Some.found.1.now
    records.valid.entries (c.loop-place.invariant run records) n.0 n.1).more_is

pub returns-in-Some-2 : goal.returns-in-Some-2
returns-in-Some-2 c = λ run records.
    let n = next_found c.loop-place.rest.now _ c.in-Some-2.found c.in-Some-2.is c.in_ok-found-2.ensures.found in
    let s = next_stands c.text_spells.ensures c.one_document.ensures run.entries c.loop-place._place c.loop-place.rest.now c.in-Some-2.found.0 c.in-Some-2.found.1.now
    records.valid.entries (c.loop-place.invariant run records) n.0 n.1 in
    let same : c.loop-place._place ≡ c.args.place = (let test = c.loop-place-test.false in let end = c.loop-place.auto._place-end in omega (arith, test, end)) in
    subst (λ (k : ℕ). Some c.in-Some-2.found.0 ≡ slice_get run.entries k) same
    (read_entry run.entries c.loop-place._place c.in-Some-2.found.0 c.in-Some-2.found.1.now s)

pub returns-in-None-2 : goal.returns-in-None-2
returns-in-None-2 c = λ run records.
    let n = next_none c.loop-place.rest.now _ c.in-None-2.is c.in_ok-found-2.ensures.none in
    let few = none_left run.entries c.loop-place._place c.loop-place.rest.now records.valid.entries (c.loop-place.invariant run records) n in
    sym (slice_get_past run.entries c.args.place (let end = c.loop-place.auto._place-end in omega (arith, end, few)))
