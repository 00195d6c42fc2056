use Rattle.std.proofs.Common.{◌∷◌, [], ℕ, Option, List, ap, subst, ◌∙◌}
use Rattle.ob_io.specs.Told.{Gains}
use Rattle.ob_io.specs.Visits.{Visit, raised}
use Rattle.ob_server.proofs.ExchangeLemmas.{continues_none}
use Rattle.ob_server.proofs.WorkLemmas.{did_nothing, served_one, link_comes}
use Rattle.ob_server.proofs.worker.Worker.serve_next.Goals as goal

pub returns-in_default-clause-did : goal.returns-in_default-clause-did
returns-in_default-clause-did g c =
    did_nothing _ _ _ _ _ _ _ _ c.accept.ensures.apart.1 c.in_default.ensures.handed c.accept.ensures.apart.0

pub returns-in_default-next-clause-did : goal.returns-in_default-next-clause-did
returns-in_default-next-clause-did g c =
    let handed = rw c.in_default-next.is at c.in-Ok.ensures.handed in
    did_nothing _ _ _ _ _ _ _ _ c.accept.ensures.apart.1 handed c.accept.ensures.apart.0

pub returns-clause-did : goal.returns-clause-did
returns-clause-did g c =
    let fresh = rw c.in-Some.is at c.in-Ok.ensures.fresh in
    let handed = rw c.in-Some.is at c.in-Ok.ensures.handed in
    let told = c.back.ensures.visit in
    served_one c.framing_is_one.ensures c.end_stays.ensures _ _ _ _ _ _ _ _ _ _ _ _ _ _ _ _ _ (g.D.Door.handed c.args.self.now.door) _ (g.D.Door.returned c.args.self.now.door) _ (g.D.Door.visits c.args.self.now.door) _ _
    fresh c.serve_link-end.ensures.serves c.serve_link-end.ensures.cause
    (told.0, subst (λ (vs : Option (List Visit)). Gains vs (told.0 ∷ []) (g.D.Door.visits c.back.new.self)) c.accept.ensures.apart.1 told.1, told.2)
    (c.back.ensures.apart.0 ∙ handed)
    (c.back.ensures.returned ∙ ap (λ (n : ℕ). raised n 1) c.accept.ensures.apart.0)

pub returns-clause-comes : goal.returns-clause-comes
returns-clause-comes g c = link_comes _ _ _ _ _ _ _ _ _ _ c.serve_link-end.ensures.cause.rose

pub returns-in_default-clause-pass : goal.returns-in_default-clause-pass
returns-in_default-clause-pass g c = continues_none _ _ _

pub returns-in_default-next-clause-pass : goal.returns-in_default-next-clause-pass
returns-in_default-next-clause-pass g c = continues_none _ _ _
