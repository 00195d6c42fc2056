use Rattle.std.proofs.Common.{ℕ, List, [], ◌∷◌, ◌++◌, ap, cond, get_or, length, not, sym, ◌∙◌, arith}
use Rattle.ob_watch.specs.Tables.{Leased, is_over}
use Rattle.ob_watch.proofs.TableLemmas.{live_next}
use Rattle.ob_watch.proofs.watches.live_numbers.Goals as goal

pub loop-place-preserved : goal.loop-place-preserved
loop-place-preserved c =
    c.in_ok-push_live.ensures
    ∙ ap (λ (ns : List ℕ). ns ++ cond (not (is_over c.args.now c.index-watches-place.result)) (get_or c.as_slice-all.result.now c.loop-place.place 0 ∷ []) []) c.loop-place.invariant
    ∙ sym (live_next c.args.now c.args.held.now.entries c.loop-place.place (get_or c.as_slice-all.result.now c.loop-place.place 0) c.index-watches-place.result c.index-watches-place.result
    (omega (arith, ap length c.as_slice-watches.ensures, c.values.ensures.len))
    (ap (λ (ks : List ℕ). get_or ks c.loop-place.place 0) (c.as_slice-all.ensures ∙ c.keys.ensures.rest))
    (c.index-watches-place.is ∙ ap (λ (ws : List Leased). get_or ws c.loop-place.place c.index-watches-place.result) (c.as_slice-watches.ensures ∙ c.values.ensures.rest)))
