use Rattle.std.proofs.Common.{sym, subst}
use Rattle.ob_site_reads.specs.Parents.{IsParent}
use Rattle.ob_site_reads.proofs.Alone.{no_histories}
use Rattle.ob_site_reads.proofs.places.history_place.Goals as goal

pub returns-in-None : goal.returns-in-None
returns-in-None c = sym (no_histories c.args.path.now c.args.state.now.plan.histories (subst (IsParent c.args.path.now) c.in-None.is c.in_ok-parent.ensures))
