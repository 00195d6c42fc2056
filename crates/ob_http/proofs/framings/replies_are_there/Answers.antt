use Rattle.ob_http.proofs.framings.replies_are_there.Goals as goal

pub replies-preserved : goal.replies-preserved
replies-preserved c = λ there. c.replies.invariant (c.in-Some.ensures.some there)
