use Rattle.ob_http.specs.Reply.{ReplyStands}
use Rattle.ob_http.specs.Replies.{never_last}
use Rattle.ob_http.proofs.StreamLemmas.{end_stays}
use Rattle.ob_http.proofs.RepliesLemmas.{reply_framing}
use Rattle.ob_http.proofs.laws.reply_end_stays.Goals as goal

pub returns : goal.returns
returns c = end_stays ReplyStands never_last reply_framing 0
