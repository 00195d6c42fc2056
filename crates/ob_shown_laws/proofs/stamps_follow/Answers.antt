use Rattle.ob_shown_laws.proofs.Followed.{stamps_follow}
use Rattle.ob_shown_laws.proofs.stamps_follow.Goals as goal

pub returns : goal.returns
returns c = stamps_follow
