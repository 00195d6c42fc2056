use Rattle.std.proofs.Common.{ℕ, List, ap, get_or, length, ◌∙◌, arith}
use Rattle.ob_watch.specs.Tables.{Leased}
use Rattle.ob_watch.proofs.GivingLemmas.{room_end, room_next}
use Rattle.ob_watch.proofs.watches.room_beside.Goals as goal

pub loop-place-preserved : goal.loop-place-preserved
loop-place-preserved c =
    room_next c.args.number c.args.now c.args.held.now.entries c.loop-place.place (get_or c.as_slice-all.result.now c.loop-place.place 0) c.index-watches-place.result c.index-watches-place.result
    c.loop-place.room c.beside_other-room.result
    (omega (arith, ap length c.as_slice-watches.ensures, c.values.ensures.len))
    (ap (λ (ks : List ℕ). get_or ks c.loop-place.place 0) (c.as_slice-all.ensures ∙ c.keys.ensures.rest))
    (c.index-watches-place.is ∙ ap (λ (ws : List Leased). get_or ws c.loop-place.place c.index-watches-place.result) (c.as_slice-watches.ensures ∙ c.values.ensures.rest))
    c.loop-place.invariant c.beside_other-room.ensures

pub returns : goal.returns
returns c =
    room_end c.args.number c.args.now c.args.held.now.entries c.loop-place.place c.loop-place.room (omega (arith, ap length c.as_slice-watches.ensures, c.values.ensures.len)) c.loop-place.invariant
