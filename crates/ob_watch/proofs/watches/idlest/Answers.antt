use Rattle.std.proofs.Common.{ℕ, List, ap, get_or, length, sym, ◌∙◌, arith}
use Rattle.std.specs.Prelude.{option_map}
use Rattle.ob_watch.specs.Tables.{Leased}
use Rattle.ob_watch.proofs.GivingLemmas.{idle_next, idlest_end}
use Rattle.ob_watch.proofs.watches.idlest.Goals as goal

pub loop-place-preserved : goal.loop-place-preserved
loop-place-preserved c =
    idle_next c.args.now c.args.held.now.entries c.loop-place.place (get_or c.as_slice-all.result.now c.loop-place.place 0) c.index-watches-place.result c.index-watches-place.result
    c.loop-place.found c.idler-found.result
    (omega (arith, ap length c.as_slice-watches.ensures, c.values.ensures.len))
    (ap (λ (ks : List ℕ). get_or ks c.loop-place.place 0) (c.as_slice-all.ensures ∙ c.keys.ensures.rest))
    (c.index-watches-place.is ∙ ap (λ (ws : List Leased). get_or ws c.loop-place.place c.index-watches-place.result) (c.as_slice-watches.ensures ∙ c.values.ensures.rest))
    c.loop-place.invariant c.idler-found.ensures

pub returns-in_err-number : goal.returns-in_err-number
returns-in_err-number c =
    c.from_residual.ensures ∙ ap (option_map (λ (p : ℕ × ℕ). p.0)) (sym c.in_err-number.was)
    ∙ idlest_end c.args.now c.args.held.now.entries c.loop-place.place c.loop-place.found (omega (arith, ap length c.as_slice-watches.ensures, c.values.ensures.len)) c.loop-place.invariant

pub returns : goal.returns
returns c =
    ap (option_map (λ (p : ℕ × ℕ). p.0)) (sym c.in_ok-number.was)
    ∙ idlest_end c.args.now c.args.held.now.entries c.loop-place.place c.loop-place.found (omega (arith, ap length c.as_slice-watches.ensures, c.values.ensures.len)) c.loop-place.invariant
