use Rattle.std.proofs.Common.{sym, ap, subst, Err}
use Rattle.std.specs.Option.{option_copied}
use Rattle.ob_asking.specs.Places.{place_at}
use Rattle.ob_super.specs.Trees.{object_at}
use Rattle.ob_super.specs.InHand as in_hand
use Rattle.ob_super.proofs.SuperLemmas.{put_down, is_down}
use Rattle.ob_super.proofs.supervisor.put_or_down.Goals as goal

pub returns-in-Err-clause-puts : goal.returns-in-Err-clause-puts
returns-in-Err-clause-puts g c = λ calls href stands at.
    let before = in_hand.outside (g.W.Dialer.dials c.args.dialer.now) (g.W.Dialer.visits c.args.dialer.now) in
    let mid = in_hand.outside (g.W.Dialer.dials c.put_at.new.dialer) (g.W.Dialer.visits c.put_at.new.dialer) in
    let after = in_hand.outside (g.W.Dialer.dials c.take_down.new.dialer) (g.W.Dialer.visits c.take_down.new.dialer) in
    let up = c.args.followed.now.upstream in
    let live = c.put_at.new.followed.live in
    subst (λ x. in_hand.PutsTo g.W.L.Link.left g.W.L.Link.taken g.W.L.Link.held before after (in_hand.upstream up) calls (object_at up.name c.args.place) (place_at up.lobby.url href) (option_copied c.args.body) x (Err c.in-Err.field-0))
    (sym (ap (λ x. x.live) c.take_down.ensures.down))
    (put_down g.W.L.Link.left g.W.L.Link.taken g.W.L.Link.held g.W.L.Link.read_faults g.W.L.Link.write_faults (in_hand.upstream up) before mid after calls (object_at up.name c.args.place) (place_at up.lobby.url href) (option_copied c.args.body) live c.in-Err.field-0
    (c.in-Err.ensures.puts calls href stands at)
    (is_down g.W.L.Link.left g.W.L.Link.taken g.W.L.Link.held g.W.L.Link.read_faults g.W.L.Link.write_faults live mid after (λ e. ap (λ d. in_hand.outside (g.W.Dialer.dials d) (g.W.Dialer.visits d)) (c.take_down.ensures.none e)) c.take_down.ensures.back c.take_down.ensures.apart))
