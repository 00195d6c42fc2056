use Rattle.ob_http.proofs.framings.framing_is_there.Goals as goal

pub requests-preserved : goal.requests-preserved
requests-preserved c = λ there. c.requests.invariant (c.in-Some.ensures.some there)
