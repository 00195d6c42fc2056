use Rattle.std.proofs.Common.{◌<◌, ◌^◌, ℕ, List, get_or, subst}
use Rattle.ob_watching.specs.Operations.{OneWatch}
use Rattle.ob_site.proofs.Asked.{beyond, beyond_steps}
use Rattle.ob_site.proofs.Unchanged.{quietly}
use Rattle.ob_site.proofs.quiet.to_no_watch.Goals as goal

pub returns-clause-done : goal.returns-clause-done
returns-clause-done c = λ r n op large.
    let k = c.args.state.now in
    let t = c.args.watches.now in
    let few = subst (λ (ns : List ℕ). (i : ℕ) → get_or ns i 0 < 2 ^ 64) c.numbers.ensures.numbers c.fit_law.ensures in
    quietly k c.end_quietly.new.state t t c.end_quietly.new.watches r (OneWatch n op) c.in_ok-reply.reply c.requires (beyond k t r n op c.in_ok-reply.reply large few c.in_ok-reply.ensures) c.requires.kept c.end_quietly.ensures.state c.end_quietly.ensures.watches

pub returns-clause-none : goal.returns-clause-none
returns-clause-none c = λ n op steps large.
    beyond_steps c.args.state.now c.args.watches.now n op steps large (subst (λ (ns : List ℕ). (i : ℕ) → get_or ns i 0 < 2 ^ 64) c.numbers.ensures.numbers c.fit_law.ensures)
