use Rattle.std.proofs.Common.{◌≤◌, List, ℕ, length, take, sym, ◌∙◌, ap, subst}
use Rattle.std.proofs.lemmas.List.{take_rest}
use Rattle.ob_journal.proofs.Fronts.{more_blocks}
use Rattle.ob_journal.proofs.opening.blocks_len.Goals as goal

pub loop-n-preserved : goal.loop-n-preserved
loop-n-preserved g c =
    let s = c.in-Some.ensures.some in
    let whole = take_rest c.args.bytes.now c.loop-n.at in
    let within = subst (λ (l : List ℕ). c.in-Some.n ≤ length l) whole s.1 in
    more_blocks g.S.Shape.is_entry c.args.bytes.now c.loop-n.at c.in-Some.n c.loop-n.invariant within s.2.0 s.2.1 (sym (ap (λ (l : List ℕ). take c.in-Some.n l) whole) ∙ s.2.2)
