use Rattle.std.proofs.Common.{◌≡◌, ◌∙◌, List, ℕ, [], ◌++◌, sym, ap, subst, drop, length, arith, append-nil}
use Rattle.std.proofs.lemmas.List.{take-append-drop}
use Rattle.std.proofs.lemmas.Bool.Decides.{nat_tests}
use Rattle.ob_xml.specs.Decoding.{HasRead}
use Rattle.ob_program.proofs.FileLemmas.{empty}
use Rattle.ob_program.proofs.DocumentLemmas.{one_more, cause_stays, cause_at_end}
use Rattle.ob_program.proofs.document.read_document.Goals as goal

pub returns-in-Err-clause-reads : goal.returns-in-Err-clause-reads
returns-in-Err-clause-reads c =
    let front = c.loop-rest.invariant.0 in
    let piece = c.split_at.result.0.now in
    let behind = c.split_at.result.1.now in
    let split : c.loop-rest.rest.now ≡ piece ++ behind =
    sym (take-append-drop c.min.result c.loop-rest.rest.now) ∙ ap (λ (t : List ℕ). t ++ drop c.min.result c.loop-rest.rest.now) (sym c.split_at.ensures.front) ∙ ap (λ (t : List ℕ). piece ++ t) (sym c.split_at.ensures.back) in
    let fed = c.in-Err.ensures.exact front c.loop-rest.invariant.1 in
    c.fault_of.ensures.told c.args.bytes.now
    (cause_stays c.fault_stays.ensures c.args.bytes.now (front ++ piece) behind c.in-Err.refused (one_more c.args.bytes.now front c.loop-rest.rest.now piece behind c.loop-rest.invariant.2 split) fed.1)

pub loop-rest-preserved : goal.loop-rest-preserved
loop-rest-preserved c =
    let front = c.loop-rest.invariant.0 in
    let piece = c.split_at.result.0.now in
    let behind = c.split_at.result.1.now in
    let split : c.loop-rest.rest.now ≡ piece ++ behind =
    sym (take-append-drop c.min.result c.loop-rest.rest.now) ∙ ap (λ (t : List ℕ). t ++ drop c.min.result c.loop-rest.rest.now) (sym c.split_at.ensures.front) ∙ ap (λ (t : List ℕ). piece ++ t) (sym c.split_at.ensures.back) in
    let fed = c.in_default.ensures.exact front c.loop-rest.invariant.1 in
    (front ++ piece, fed.0, one_more c.args.bytes.now front c.loop-rest.rest.now piece behind c.loop-rest.invariant.2 split)

pub returns-in-Err-finish-clause-reads : goal.returns-in-Err-finish-clause-reads
returns-in-Err-finish-clause-reads c =
    let front = c.loop-rest.invariant.0 in
    let zeroth : length c.loop-rest.rest.now ≡ 0 = grind (arith, nat_tests, c.is_empty.ensures, c.loop-rest-test.false) in
    let none : c.loop-rest.rest.now ≡ [] = empty c.loop-rest.rest.now zeroth in
    let whole : front ≡ c.args.bytes.now = sym (c.loop-rest.invariant.2 ∙ ap (λ (t : List ℕ). front ++ t) none ∙ append-nil front) in
    c.fault_of-in-Err-finish.ensures.told c.args.bytes.now
    (cause_at_end c.args.bytes.now c.in-Err-finish.refused
    (c.in-Err-finish.ensures.exact c.args.bytes.now (subst (λ (t : List ℕ). HasRead c.loop-rest.decoder t) whole c.loop-rest.invariant.1)))
