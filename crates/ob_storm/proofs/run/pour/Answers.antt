use Rattle.std.proofs.Common.{◌≡◌, ◌+◌, ◌%◌, ◌∙◌, ℕ, ap, sym, subst}
use Rattle.ob_site_rules.specs.declared.request.Request.{Request}
use Rattle.ob_storm.specs.Draws.{drawn_at, next_state}
use Rattle.ob_storm.specs.Requests.{request_at}
use Rattle.ob_storm.proofs.RunLemmas.{Pours, pours_more}
use Rattle.ob_storm.proofs.run.pour.Goals as goal

pub loop-place-preserved : goal.loop-place-preserved
loop-place-preserved g c =
    let act = g.M.Machine.act in
    let l = c.loop-place in
    let storm = c.args.storm.now in
    let asked : c.in_ok-request.request ≡ request_at (l.place % storm.clients + 1) (drawn_at (next_state l.state)) =
    c.in_ok-request.ensures ∙ ap (request_at (l.place % storm.clients + 1)) (c.drawn_at.ensures ∙ ap drawn_at c.next_state-state.ensures) in
    subst (λ (x : ℕ). Pours act c.args.first storm.clients storm.requests c.args.clients.now storm.seed c.ask.new.self (l.place + 1) x c.count.new.self)
    (sym c.next_state-state.ensures)
    (pours_more act c.args.first storm.clients storm.requests c.args.clients.now storm.seed l.clients c.ask.new.self l.place l.state l.tally c.count.new.self c.in_ok-reply.reply
    l.invariant c.loop-place-test.true
    (ap (λ (r : Request). act l.clients r (c.args.first + l.place)) (sym asked)
    ∙ ap (λ (at : ℕ). act l.clients c.in_ok-request.request at) (sym c.moment.ensures)
    ∙ c.in_ok-reply.ensures.done)
    c.count.ensures)
