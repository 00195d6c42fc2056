use Rattle.std.proofs.Common.{◌≡◌, ◌<◌, length, Some, subst, sym, ◌∙◌, arith}
use Rattle.std.specs.Prelude.{find}
use Rattle.ob_object.specs.declared.kind.Kind.{Kind}
use Rattle.ob_contracts.specs.Parts.{gives}
use Rattle.ob_contracts.specs.Places.{places_of, sources_of}
use Rattle.ob_contracts.proofs.Giving.{find_here, find_later, find_past}
use Rattle.ob_contracts.proofs.lookup.Looked.first_giver.Goals as goal
use Rattle.ob_contracts.proofs.lookup.Looked.first_giver.Goals.{in-Some+else-gives, in_default}

pub returns-then-gives : goal.returns-then-gives
returns-then-gives c =
    let s = c.args.self.now.sources in
    let place = c.loop-place.place in
    let inside : place < length (places_of s) = omega arith in
    subst (λ (k : Kind). Some c.in-Some.source.now ≡ find (gives k c.args.part.now) (sources_of s)) c.kind-kind.ensures
    (sym (find_here (gives c.kind-kind.result c.args.part.now) (places_of s) place c.in-Some.source.now inside c.in-Some.ensures (sym c.gives.ensures ∙ c.if-gives.true)) ∙ c.loop-place.invariant)

pub loop-place-preserved : goal.loop-place-preserved
loop-place-preserved c =
    let s = c.args.self.now.sources in
    let place = c.loop-place.place in
    let inside : place < length (places_of s) = omega arith in
    elim c.match-at.branch [
      | in-Some+else-gives w ↦ sym (find_later (gives c.kind-kind.result c.args.part.now) (places_of s) place w.in-Some.source.now inside w.in-Some.ensures (sym w.gives.ensures ∙ w.if-gives.false)) ∙ c.loop-place.invariant
      | in_default w ↦ sym (find_past (gives c.kind-kind.result c.args.part.now) (places_of s) place inside w.in_default.ensures) ∙ c.loop-place.invariant
    ]
