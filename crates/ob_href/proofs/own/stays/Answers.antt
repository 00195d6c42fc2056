use Rattle.ob_href.proofs.OwnLemmas.{located, resolved}
use Rattle.ob_href.proofs.own.stays.Goals as goal

pub returns-clause-resolved : goal.returns-clause-resolved
returns-clause-resolved c = λ yes. resolved c.args._base.now c.args.text.now c.requires (c.is_own_path.ensures yes)

pub returns-clause-located : goal.returns-clause-located
returns-clause-located c = λ yes. located c.args._base.now c.args.text.now c.requires (c.is_own_path.ensures yes)
