use Rattle.std.proofs.Common.{ℕ, ◌+◌, List, [], take, Ok, sym, ◌∙◌, subst}
use Rattle.std.proofs.lemmas.List.{take_all}
use Rattle.ob_object.specs.Object.{Object}
use Rattle.ob_requests.specs.Calls.{firsts as firsts_of}
use Rattle.ob_site_rules.specs.Watched.{Asked}
use Rattle.ob_watch.specs.Tables.{live, room_beside}
use Rattle.ob_watching.specs.Tables.{numbers_of}
use Rattle.ob_watching.specs.Watches.{Room}
use Rattle.ob_site_watches.specs.Offered.{IsOffered}
use Rattle.ob_site_watches.specs.Putting.{IsPut, OfHeld}
use Rattle.ob_site_watches.proofs.Grown.{IsOnTheWay, is_held, none_put, way_cut, way_ends, way_more, way_starts, way_stops, way_there}
use Rattle.ob_site_watches.proofs.Put.{all_named, placed}
use Rattle.ob_site_watches.proofs.adding.put_all.Goals as goal

pub returns-in_err-numbers : goal.returns-in_err-numbers
returns-in_err-numbers g c =
    let k = c.args.state.now in
    let n = c.args.adding.now.number in
    let old = c.args.watches.now in
    let undo = c.args.undo.now in
    let ns : List ℕ = numbers_of (live c.args.adding.now.moment old.watches) in
    let room : Room = room_beside n (live c.args.adding.now.moment old.watches) in
    let asked : List Asked = firsts_of c.args.adding.now.asked.now in
    λ w there. none_put n k room ns asked old undo w c.from_residual.result c.from_residual.ensures.0 c.numbers-numbers.ensures.differ there

pub returns-in_err-firsts : goal.returns-in_err-firsts
returns-in_err-firsts g c =
    let k = c.args.state.now in
    let n = c.args.adding.now.number in
    let old = c.args.watches.now in
    let undo = c.args.undo.now in
    let ns : List ℕ = numbers_of (live c.args.adding.now.moment old.watches) in
    let room : Room = room_beside n (live c.args.adding.now.moment old.watches) in
    let asked : List Asked = firsts_of c.args.adding.now.asked.now in
    λ w there. none_put n k room ns asked old undo w c.from_residual-in_err-firsts.result c.from_residual-in_err-firsts.ensures.0 c.numbers-numbers.ensures.differ there

pub loop-a-init : goal.loop-a-init
loop-a-init g c =
    let k = c.args.state.now in
    let n = c.args.adding.now.number in
    let old = c.args.watches.now in
    let undo = c.args.undo.now in
    let ns : List ℕ = numbers_of (live c.args.adding.now.moment old.watches) in
    let room : Room = room_beside n (live c.args.adding.now.moment old.watches) in
    let asked : List Asked = firsts_of c.args.adding.now.asked.now in
    λ w there. subst (λ (es : List Object). IsOnTheWay k ns room [] n old old undo undo es w) (sym c.new-entries.ensures.items)
    (way_starts n k room ns old undo w c.numbers-numbers.ensures.differ there)

pub returns-in_err-offer : goal.returns-in_err-offer
returns-in_err-offer g c =
    let k = c.args.state.now in
    let n = c.args.adding.now.number in
    let old = c.args.watches.now in
    let undo = c.args.undo.now in
    let ns : List ℕ = numbers_of (live c.args.adding.now.moment old.watches) in
    let room : Room = room_beside n (live c.args.adding.now.moment old.watches) in
    let asked : List Asked = firsts_of c.args.adding.now.asked.now in
    let all = c.deref-a-items.result.now in
    let next = c.loop-a.a-index in
    let es = c.loop-a.entries.items in
    λ w there.
    let way = c.loop-a.invariant w there in
    way_stops n k room ns all next old c.loop-a.watches c.loop-a.watches undo c.loop-a.undo c.loop-a.undo es w way asked c.from_residual-in_err-offer.result c.from_residual-in_err-offer.ensures.0

pub put_offer-requires : goal.put_offer-requires
put_offer-requires g c =
    placed c.args.state.now (room_beside c.args.adding.now.number (live c.args.adding.now.moment c.args.watches.now.watches)) c.deref.result.now c.a-item.result c.in_ok-offer.offer c.in_ok-offer.ensures

pub returns-in_err-entry : goal.returns-in_err-entry
returns-in_err-entry g c =
    let k = c.args.state.now in
    let n = c.args.adding.now.number in
    let old = c.args.watches.now in
    let undo = c.args.undo.now in
    let ns : List ℕ = numbers_of (live c.args.adding.now.moment old.watches) in
    let room : Room = room_beside n (live c.args.adding.now.moment old.watches) in
    let asked : List Asked = firsts_of c.args.adding.now.asked.now in
    let all = c.deref-a-items.result.now in
    let next = c.loop-a.a-index in
    let es = c.loop-a.entries.items in
    λ w there.
    let way = c.loop-a.invariant w there in
    way_cut n k room ns all next old c.loop-a.watches c.put_offer.new.watches undo c.loop-a.undo c.put_offer.new.undo es w way asked c.in_ok-offer.offer c.put_offer.result c.from_residual-in_err-entry.result c.from_residual-in_err-entry.ensures.0
    (subst (λ (r : Room). OfHeld n c.loop-a.watches (IsPut k n r c.in_ok-offer.offer c.loop-a.watches c.put_offer.new.watches c.loop-a.undo c.put_offer.new.undo c.put_offer.result)) c.room_beside-room.ensures c.put_offer.ensures way.left (way_there n k room ns all next old c.loop-a.watches c.put_offer.new.watches undo c.loop-a.undo c.put_offer.new.undo es w way there))

pub returns-in_err-push : goal.returns-in_err-push
returns-in_err-push g c =
    let k = c.args.state.now in
    let n = c.args.adding.now.number in
    let old = c.args.watches.now in
    let undo = c.args.undo.now in
    let ns : List ℕ = numbers_of (live c.args.adding.now.moment old.watches) in
    let room : Room = room_beside n (live c.args.adding.now.moment old.watches) in
    let asked : List Asked = firsts_of c.args.adding.now.asked.now in
    let all = c.deref-a-items.result.now in
    let next = c.loop-a.a-index in
    let es = c.loop-a.entries.items in
    λ w there.
    let way = c.loop-a.invariant w there in
    way_cut n k room ns all next old c.loop-a.watches c.put_offer.new.watches undo c.loop-a.undo c.put_offer.new.undo es w way asked c.in_ok-offer.offer c.put_offer.result c.from_residual-in_err-push.result c.from_residual-in_err-push.ensures.0
    (subst (λ (r : Room). OfHeld n c.loop-a.watches (IsPut k n r c.in_ok-offer.offer c.loop-a.watches c.put_offer.new.watches c.loop-a.undo c.put_offer.new.undo c.put_offer.result)) c.room_beside-room.ensures c.put_offer.ensures way.left (way_there n k room ns all next old c.loop-a.watches c.put_offer.new.watches undo c.loop-a.undo c.put_offer.new.undo es w way there))

pub loop-a-preserved : goal.loop-a-preserved
loop-a-preserved g c =
    let k = c.args.state.now in
    let n = c.args.adding.now.number in
    let old = c.args.watches.now in
    let undo = c.args.undo.now in
    let ns : List ℕ = numbers_of (live c.args.adding.now.moment old.watches) in
    let room : Room = room_beside n (live c.args.adding.now.moment old.watches) in
    let asked : List Asked = firsts_of c.args.adding.now.asked.now in
    let all = c.deref-a-items.result.now in
    let next = c.loop-a.a-index in
    let es = c.loop-a.entries.items in
    λ w there.
    let way = c.loop-a.invariant w there in
    subst (λ (fs : List Object). IsOnTheWay k ns room (take (next + 1) all) n old c.put_offer.new.watches undo c.put_offer.new.undo fs w) (sym c.in_ok-push.ensures.items)
    (way_more n k room ns all next old c.loop-a.watches c.put_offer.new.watches undo c.loop-a.undo c.put_offer.new.undo es w way c.a-item.result c.in_ok-offer.offer c.in_ok-entry.entry c.loop-a-test.true c.a-item.is
    (subst (λ (ms : List ℕ). IsOffered k ms c.a-item.result c.in_ok-offer.offer) (c.deref.ensures.value ∙ c.in_ok-numbers.ensures) c.in_ok-offer.ensures)
    (subst (λ (r : Room). OfHeld n c.loop-a.watches (IsPut k n r c.in_ok-offer.offer c.loop-a.watches c.put_offer.new.watches c.loop-a.undo c.put_offer.new.undo (Ok c.in_ok-entry.entry))) c.room_beside-room.ensures c.in_ok-entry.ensures way.left (way_there n k room ns all next old c.loop-a.watches c.put_offer.new.watches undo c.loop-a.undo c.put_offer.new.undo es w way there)))

pub watch_out-requires : goal.watch_out-requires
watch_out-requires g c =
    let k = c.args.state.now in
    let n = c.args.adding.now.number in
    let old = c.args.watches.now in
    let undo = c.args.undo.now in
    let ns : List ℕ = numbers_of (live c.args.adding.now.moment old.watches) in
    let room : Room = room_beside n (live c.args.adding.now.moment old.watches) in
    let asked : List Asked = firsts_of c.args.adding.now.asked.now in
    let all = c.deref-a-items.result.now in
    let next = c.loop-a.a-index in
    let es = c.loop-a.entries.items in
    let held = is_held _ c.requires.held in
    let way = c.loop-a.invariant held.0 held.1 in
    all_named k room ns (take next all) held.0 way.left es way.added

pub returns : goal.returns
returns g c =
    let k = c.args.state.now in
    let n = c.args.adding.now.number in
    let old = c.args.watches.now in
    let undo = c.args.undo.now in
    let ns : List ℕ = numbers_of (live c.args.adding.now.moment old.watches) in
    let room : Room = room_beside n (live c.args.adding.now.moment old.watches) in
    let asked : List Asked = firsts_of c.args.adding.now.asked.now in
    let all = c.deref-a-items.result.now in
    let next = c.loop-a.a-index in
    let es = c.loop-a.entries.items in
    λ w there.
    let way = c.loop-a.invariant w there in
    way_ends n k room ns all next old c.loop-a.watches c.loop-a.watches undo c.loop-a.undo c.loop-a.undo es w way asked c.watch_out.result (take_all next all c.loop-a-test.false ∙ c.deref-a-items.ensures.value ∙ c.in_ok-firsts.ensures) c.watch_out.ensures
