use Rattle.ob_site_state.proofs.Renewed.{RemadeTo}
use Rattle.ob_site_state.proofs.renewing.remake_marked.Given as goal

-- those before one are made anew
abbrev pub invariant-loop-next : goal.invariant-loop-next
invariant-loop-next g l = RemadeTo l.initial.library l.tree.root l.nodes l.marks l.next l.library
