use Rattle.std.proofs.Common.{List, sym, ap, ◌∙◌, subst}
use Rattle.std.proofs.lemmas.Result.{IfOk-weaker}
use Rattle.ob_watching.specs.Operations.{Add}
use Rattle.ob_watching.specs.Tables.{lookup, numbers_of}
use Rattle.ob_watch.specs.declared.item.Item.{Item}
use Rattle.ob_watch.specs.Tables.{IsLease, Leased, live, room_beside}
use Rattle.ob_watch.specs.Undo.{Undoes}
use Rattle.ob_requests.specs.Calls.{firsts as firsts_of}
use Rattle.ob_site_watches.proofs.Answering.{known_there, live_there, none_stands}
use Rattle.ob_site_watches.proofs.Grown.{held_there, one_held}
use Rattle.ob_site_watches.proofs.Put.{added_known, added_stands}
use Rattle.ob_site_watches.proofs.adding.add.Goals as goal

pub returns-in_default-clause-done : goal.returns-in_default-clause-done
returns-in_default-clause-done g c =
    IfOk-weaker c.refusal.result _ _
    (λ o e. none_stands c.args.state.now c.args.adding.now.moment c.args.adding.now.number c.args.watches.now (Add c.args.adding.now.asked.now) o (sym c.in_default.ensures) e) c.refusal.ensures

pub put_or_leave-requires-clause-held : goal.put_or_leave-requires-clause-held
put_or_leave-requires-clause-held g c =
    let n = c.args.adding.now.number in
    let old = c.args.watches.now in
    let w = c.in-Some.watch.now in
    held_there (lookup n old.watches) w (live_there c.args.adding.now.moment n old.watches w c.numbers-numbers.ensures.differ (sym c.in-Some.ensures))

pub put_or_leave-requires-clause-nothing : goal.put_or_leave-requires-clause-nothing
put_or_leave-requires-clause-nothing g c =
    let n = c.args.adding.now.number in
    let old = c.args.watches.now in
    let w = c.in-Some.watch.now in
    λ v there. subst (λ (items : List Item). Undoes c.new-undo.result items items)
    (c.items.ensures.items ∙ ap (λ (u : Leased). u.items) (one_held (lookup n old.watches) w v (live_there c.args.adding.now.moment n old.watches w c.numbers-numbers.ensures.differ (sym c.in-Some.ensures)) there)) c.new-undo.ensures

pub returns-clause-done : goal.returns-clause-done
returns-clause-done g c =
    let now = c.args.adding.now.moment in
    let n = c.args.adding.now.number in
    let old = c.args.watches.now in
    let w = c.in-Some.watch.now in
    let differ = c.numbers-numbers.ensures.differ in
    let there = live_there now n old.watches w differ (sym c.in-Some.ensures) in
    added_stands c.args.state.now now n old c.put_or_leave.new.watches c.touch.new.self c.args.adding.now.asked.now w c.in_ok-reply.reply (c.as_the_site_says.ensures c.args.state.now.plan)
    differ there (sym c.in-Some.ensures) (subst IsLease c.lease-lease.ensures.value c.lease-lease.ensures.bounded) (c.in_ok-reply.ensures.put w there) c.touch.ensures.touched

pub returns-clause-known : goal.returns-clause-known
returns-clause-known g c =
    let k = c.args.state.now in
    let now = c.args.adding.now.moment in
    let n = c.args.adding.now.number in
    let old = c.args.watches.now in
    let w = c.in-Some.watch.now in
    let there = live_there now n old.watches w c.numbers-numbers.ensures.differ (sym c.in-Some.ensures) in
    added_known k now n old c.put_or_leave.new.watches c.touch.new.self (firsts_of c.args.adding.now.asked.now) (numbers_of (live now old.watches)) (room_beside n (live now old.watches)) w c.in_ok-reply.reply there
    c.requires.known (known_there k now n old w c.requires.known (sym c.in-Some.ensures)) (c.in_ok-reply.ensures.put w there) c.touch.ensures.touched
