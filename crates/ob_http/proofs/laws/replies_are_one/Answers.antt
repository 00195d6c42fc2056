use Rattle.ob_http.specs.Reply.{ReplyStands}
use Rattle.ob_http.specs.Replies.{never_last}
use Rattle.ob_http.proofs.StreamLemmas.{framed_unique}
use Rattle.ob_http.proofs.RepliesLemmas.{reply_framing}
use Rattle.ob_http.proofs.laws.replies_are_one.Goals as goal

pub returns : goal.returns
returns c = framed_unique ReplyStands never_last reply_framing 0
