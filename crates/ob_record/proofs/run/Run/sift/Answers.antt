use Rattle.std.proofs.Common.{◌≡◌, ◌++◌, ℕ, List, length, sym, ap, subst, ◌∙◌, arith}
use Rattle.ob_times.specs.Times.{IsMoment}
use Rattle.ob_record.proofs.InPlace.{next_found, next_none}
use Rattle.ob_record.proofs.Sifts.{sifting_taken, sifting_passed, sifted, sifted_measure, front_is}
use Rattle.ob_record.proofs.run.Run.sift.Goals as goal

pub entries-preserved-in_ok-extend_from_slice : goal.entries-preserved-in_ok-extend_from_slice
entries-preserved-in_ok-extend_from_slice g c =
    let rest = c.entries.rest.now in
    let e = c.in-Some.found.0 in
    let more = c.in-Some.found.1.now in
    let n = next_found rest _ c.in-Some.found c.in-Some.is c.in_ok-found.ensures.found in
    sifting_taken c.entries-rest.result.now c.boot-boot.result c.entries.record.items c.entries.len rest e more c.extend_from_slice.new.self.items c.entries.invariant n.0 n.1
    (c.in_ok-extend_from_slice.ensures.items ∙ ap (λ (l : List ℕ). c.entries.record.items ++ l) (front_is rest e more n.1))

pub entries-preserved : goal.entries-preserved
entries-preserved g c =
    let rest = c.entries.rest.now in
    let n = next_found rest _ c.in-Some.found c.in-Some.is c.in_ok-found.ensures.found in
    sifting_passed c.entries-rest.result.now c.boot-boot.result c.entries.record.items c.entries.len rest c.in-Some.found.0 c.in-Some.found.1.now c.entries.invariant n.0 n.1

pub invariant_of-result : goal.invariant_of-result
invariant_of-result g c =
    let run = c.is_record.ensures.0 in
    let records = c.is_record.ensures.1 in
    let len : c.len-first.result ≡ length c.in_ok-record.record.items = omega (arith, c.len-first.ensures) in
    sifted_measure c.entries-rest.result.now c.boot-boot.result c.entries.record.items c.len-first.result c.entries.len c.entries.rest.now
    (subst IsMoment (sym (c.boot-boot.ensures run records)) records.valid.boot)
    (len ∙ ap (λ (l : List ℕ). length l) c.in_ok-record.ensures) c.entries.invariant

pub returns : goal.returns
returns g c = λ run records.
    sifted c.text_spells.ensures c.one_document.ensures c.args.self.now c.entries-rest.result.now run c.boot-boot.result c.entries.record.items c.entries.len c.entries.rest.now records
    (c.boot-boot.ensures run records) (c.entries-rest.ensures run records) (next_none c.entries.rest.now _ c.in_default.is c.in_ok-found.ensures.none) c.entries.invariant
