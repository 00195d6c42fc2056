use Rattle.std.proofs.Common.{◌∷◌, refl, sym, subst}
use Rattle.std.specs.Option.{option_copied}
use Rattle.ob_super.specs.InHand as in_hand
use Rattle.ob_super.proofs.SuperLemmas.{puts_none, puts_here, puts_past, puts_first, puts_none_here}
use Rattle.ob_super.proofs.supervisor.+put_over.Goals as goal

pub returns-in_default-clause-puts : goal.returns-in_default-clause-puts
returns-in_default-clause-puts g t c =
    puts_none g.W.L.Link.left g.W.L.Link.taken g.W.L.Link.held (in_hand.outside (g.W.Dialer.dials c.args.dialer.now) (g.W.Dialer.visits c.args.dialer.now)) c.args.all.now c.args.path.now (option_copied c.args.body) c.in_default.ensures.cases

pub returns-in-Some-held_place-clause-puts : goal.returns-in-Some-held_place-clause-puts
returns-in-Some-held_place-clause-puts g t c =
    let before = in_hand.outside (g.W.Dialer.dials c.args.dialer.now) (g.W.Dialer.visits c.args.dialer.now) in
    let after = in_hand.outside (g.W.Dialer.dials c.put_or_down.new.dialer) (g.W.Dialer.visits c.put_or_down.new.dialer) in
    let first = c.in-Some.first.now in
    let next = c.put_or_down.new.followed in
    subst (λ x. in_hand.PutsAll g.W.L.Link.left g.W.L.Link.taken g.W.L.Link.held before after x (next ∷ c.in-Some.rest.now) c.args.path.now (option_copied c.args.body) c.put_or_down.result) (sym c.in-Some.ensures.cases.0)
    (puts_here g.W.L.Link.left g.W.L.Link.taken g.W.L.Link.held before after first next c.in-Some.rest.now c.args.path.now (option_copied c.args.body) c.put_or_down.result c.put_or_down.ensures.same
    (puts_first g.W.L.Link.left g.W.L.Link.taken g.W.L.Link.held before after (in_hand.upstream first.upstream) first.live next.live c.in-Some-held_place.place c.args.path.now (option_copied c.args.body) c.put_or_down.result
    (c.in-Some-held_place.ensures.live refl) c.in-Some-held_place.ensures.finds c.put_or_down.ensures.puts))

pub returns-in-None-clause-puts : goal.returns-in-None-clause-puts
returns-in-None-clause-puts g t c =
    let before = in_hand.outside (g.W.Dialer.dials c.args.dialer.now) (g.W.Dialer.visits c.args.dialer.now) in
    let after = in_hand.outside (g.W.Dialer.dials c.put_over.new.dialer) (g.W.Dialer.visits c.put_over.new.dialer) in
    let first = c.in-Some.first.now in
    subst (λ x. in_hand.PutsAll g.W.L.Link.left g.W.L.Link.taken g.W.L.Link.held before after x (first ∷ c.put_over.new.all) c.args.path.now (option_copied c.args.body) c.put_over.result) (sym c.in-Some.ensures.cases.0)
    (puts_past g.W.L.Link.left g.W.L.Link.taken g.W.L.Link.held before after first c.in-Some.rest.now c.put_over.new.all c.args.path.now (option_copied c.args.body) c.put_over.result
    (puts_none_here g.W.L.Link.left g.W.L.Link.taken g.W.L.Link.held (in_hand.upstream first.upstream) first.live c.args.path.now c.in-None.ensures.finds) c.put_over.ensures.puts)
