use Rattle.std.proofs.Common.{ℕ, List, Err, sym, subst}
use Rattle.ob_io.specs.Links.{inlet}
use Rattle.ob_client.specs.Sessions.{Answers, Reads}
use Rattle.ob_client.proofs.SessionLemmas.{asks_whole, asks_again, reads_from, reads_none, same_inlet, asking_lives}
use Rattle.ob_client.proofs.session.Session.exchange.Goals as goal

pub returns-in-Ok-clause-asks : goal.returns-in-Ok-clause-asks
returns-in-Ok-clause-asks g c = asks_whole _ _ _ _ _ _ c.answer.ensures.apart.0 c.in-Ok.ensures.asks

pub returns-in-Ok-clause-reads : goal.returns-in-Ok-clause-reads
returns-in-Ok-clause-reads g c =
    let old = c.args.self.now.link in
    subst (λ (k : List ℕ). Reads Answers (inlet (g.L.Link.left old) (g.L.Link.taken old)) (inlet (g.L.Link.left c.answer.new.link) (g.L.Link.taken c.answer.new.link)) k c.answer.new.framer c.answer.result) c.ask.ensures.stands.1
    (reads_from Answers _ _ _ _ _ _ (same_inlet _ _ _ _ c.ask.ensures.apart.0 c.ask.ensures.apart.1) c.answer.ensures.reads)

pub returns-in-Err-clause-reads : goal.returns-in-Err-clause-reads
returns-in-Err-clause-reads g c =
    let old = c.args.self.now.link in
    let new = c.ask.new.self.link in
    subst (λ (k : List ℕ). Reads Answers (inlet (g.L.Link.left old) (g.L.Link.taken old)) (inlet (g.L.Link.left new) (g.L.Link.taken new)) c.args.self.now.framer k (Err c.in-Err.fault)) (sym c.ask.ensures.stands.1)
    (reads_none _ _ c.args.self.now.framer c.in-Err.fault (same_inlet _ _ _ _ c.ask.ensures.apart.0 c.ask.ensures.apart.1) c.in-Err.ensures.causes)

pub returns-in-Err-clause-asks : goal.returns-in-Err-clause-asks
returns-in-Err-clause-asks g c = asks_again _ _ _ c.in-Err.fault c.in-Err.ensures.asks

pub returns-in-Err-clause-alive : goal.returns-in-Err-clause-alive
returns-in-Err-clause-alive g c = asking_lives c.in-Err.fault c.in-Err.ensures.causes
