use Rattle.std.proofs.Common.{◌≤◌, ℕ, Ok, length, subst, sym, refl, arith}
use Rattle.std.proofs.Math.Nat.{min-eq_left}
use Rattle.std.proofs.lemmas.Result.{IfOk-weaker}
use Rattle.ob_scan.specs.View.{construct_of, Advances}
use Rattle.ob_scan.specs.declared.piece.Found.TheVariants as finds
use Rattle.ob_object.specs.declared.kind.Kind.{Kind}
use Rattle.ob_xml.specs.Meanings.{Means}
use Rattle.ob_xml.specs.Turning.{Turned}
use Rattle.ob_xml.specs.Views.{meaning_of, state_of}
use Rattle.ob_xml.proofs.Turns.{refused_turn, waiting_turn, waits_there, stepped_turn, misplaced_turn, has_meaning, fault_within, first_within}
use Rattle.ob_xml.proofs.judge.take_turn.Goals as goal

pub returns-in-Err : goal.returns-in-Err
returns-in-Err c = subst (Turned c.args.hand.end c.args.hand.bytes.now c.args.hand.base c.args.state c.args.at) (sym c.told.ensures)
    (refused_turn c.args.hand.end (state_of c.args.state) c.args.hand.bytes.now c.args.hand.base c.args.at _ c.place.result c.in-Err.fault c.cause.result c.requires.unfinished c.place.ensures c.cause.ensures refl (rw (min-eq_left c.requires.inside) at c.in-Err.ensures.found))

pub returns-in-Ok-More : goal.returns-in-Ok-More
returns-in-Ok-More c = (
  refl,
  waiting_turn c.args.hand.end (state_of c.args.state) c.args.hand.bytes.now c.args.at c.place.result c.in-Ok-More.wait c.place.ensures (rw (c.in-Ok-More.field-0-is, min-eq_left c.requires.inside) at c.in-Ok-More.ensures.found),
  waits_there (state_of c.args.state) c.args.hand.bytes.now c.args.at c.place.result c.in-Ok-More.wait c.place.ensures (rw (c.in-Ok-More.field-0-is, min-eq_left c.requires.inside) at c.in-Ok-More.ensures.waits),
)

pub overflow_add-fault_at : goal.overflow_add-fault_at
overflow_add-fault_at c =
    let le : c.in-Err.fault.at ≤ length c.args.hand.bytes.now = fault_within c.args.hand.end c.args.hand.bytes.now c.args.at c.place.result c.in-Err.fault c.requires.inside (rw (min-eq_left c.requires.inside) at c.in-Err.ensures.found) in
    omega (arith, c.requires.small)

pub overflow_add-piece_at : goal.overflow_add-piece_at
overflow_add-piece_at c =
    let le : c.in-Ok-Piece.first ≤ length c.args.hand.bytes.now = first_within c.args.hand.bytes.now c.args.at c.place.result c.in-Ok-Piece.piece c.in-Ok-Piece.first c.in-Ok-Piece.next _ c.requires.inside (rw (c.in-Ok-Piece.field-0-is, min-eq_left c.requires.inside) at c.in-Ok-Piece.ensures.found) in
    omega (arith, c.requires.small)

pub mean-requires : goal.mean-requires
mean-requires c = has_meaning c.in-Ok-Piece.piece c.in-Ok-Piece.first c.in-Ok-Piece.next (rw c.in-Ok-Piece.field-0-is at c.in-Ok-Piece.ensures.values)

pub returns-in-Ok-step : goal.returns-in-Ok-step
returns-in-Ok-step c =
    stepped_turn c.well_found.ensures c.args.hand.end c.args.state (state_of c.in-Ok-step.state) c.args.hand.bytes.now c.args.hand.base c.args.at c.in-Ok-Piece.first c.in-Ok-Piece.next c.place.result c.in-Ok-Piece.piece (meaning_of c.in-Ok.meaning) c.settle.result c.requires.unfinished c.place.ensures
    (rw (c.in-Ok-Piece.field-0-is, min-eq_left c.requires.inside) at c.in-Ok-Piece.ensures.found) (subst (λ (k : ℕ). Advances k (Ok (finds.Piece c.in-Ok-Piece.piece c.in-Ok-Piece.first c.in-Ok-Piece.next))) (min-eq_left c.requires.inside) (rw c.in-Ok-Piece.field-0-is at c.in-Ok-Piece.ensures.advances)) (subst (λ (k : Kind). Means k (construct_of c.in-Ok-Piece.piece) (meaning_of c.in-Ok.meaning)) c.kind.ensures c.in-Ok.ensures) c.in-Ok-step.ensures.exact c.settle.ensures

pub returns-in-Err-step : goal.returns-in-Err-step
returns-in-Err-step c =
    IfOk-weaker c.refuse.result _ _ (λ turn h. misplaced_turn c.args.hand.end c.args.state c.args.hand.bytes.now c.args.hand.base c.args.at c.in-Ok-Piece.first c.in-Ok-Piece.next _ c.place.result c.in-Ok-Piece.piece (meaning_of c.in-Ok.meaning) c.in-Err-step.why turn c.requires.unfinished c.place.ensures refl
    (rw (c.in-Ok-Piece.field-0-is, min-eq_left c.requires.inside) at c.in-Ok-Piece.ensures.found) (subst (λ (k : Kind). Means k (construct_of c.in-Ok-Piece.piece) (meaning_of c.in-Ok.meaning)) c.kind.ensures c.in-Ok.ensures) c.in-Err-step.ensures.exact h) c.refuse.ensures
