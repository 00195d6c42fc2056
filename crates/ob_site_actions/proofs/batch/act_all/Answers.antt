use Rattle.std.proofs.Common.{◌≡◌, ◌+◌, List, [], ◌∷◌, ◌++◌, true, drop, ap, sym, ◌∙◌}
use Rattle.std.specs.Prelude.{is_none}
use Rattle.std.specs.List.{list_all}
use Rattle.ob_object.specs.Object.{Object}
use Rattle.ob_site_rules.specs.State.{State}
use Rattle.ob_site_rules.specs.Actions.{item_request, act_item}
use Rattle.ob_site_rules.specs.Locating.{locate}
use Rattle.ob_requests.proofs.Batches.{with_rest, with_more, with_none, one_more}
use Rattle.ob_requests.proofs.Replies.{item_plain}
use Rattle.ob_site_state.specs.Kept.{Kept}
use Rattle.ob_site_actions.proofs.Batched.{stays_on}
use Rattle.ob_site_actions.proofs.batch.act_all.Goals as goal

pub loop-item-preserved : goal.loop-item-preserved
loop-item-preserved g c =
    let k = c.loop-item.state in
    let n = c.item_result.new.state in
    let ns = c.args.numbers.now in
    let made = act_item locate k.plan k.now ns k.time (item_request c.item-item.result) in
    let after = c.in_ok-reply.ensures.ok.after in
    let answer = c.in_ok-reply.ensures.ok.answer in
    let rest = drop (c.loop-item.item-index + 1) c.args.items.now in
    let plain : is_none c.in_ok-reply.reply.head.name ≡ true =
    ap (λ (o : Object). is_none o.head.name) answer ∙ item_plain locate k.plan k.now ns k.time (item_request c.item-item.result) in
    record {
      stays = stays_on c.args.state.now k n made.0 c.loop-item.invariant.stays after;
      nameless = ap (λ (os : List Object). list_all (λ o. is_none o.head.name) os) c.in_ok-put.ensures ∙ one_more c.loop-item.results.items c.in_ok-reply.reply c.loop-item.invariant.nameless plain;
      done = ap (λ (os : List Object). with_rest locate n.plan ns n.time n.now os rest) c.in_ok-put.ensures
          ∙ (ap (λ (x : Kept). with_rest locate x.plan ns x.time x.now (c.loop-item.results.items ++ c.in_ok-reply.reply ∷ []) rest) after
          ∙ (with_more locate k.plan ns k.time k.now c.loop-item.results.items c.args.items.now c.loop-item.item-index c.item-item.result made.0 c.in_ok-reply.reply c.loop-item-test.true c.item-item.is (ap (λ (o : Object). let x : State × Object = (made.0, o) in x) answer) ∙ c.loop-item.invariant.done));
    }

pub returns : goal.returns
returns g c =
    let k = c.loop-item.state in record {
      nameless = c.loop-item.invariant.nameless;
      reply = sym (with_none locate k.plan c.args.numbers.now k.time k.now c.loop-item.results.items c.args.items.now c.loop-item.item-index c.loop-item-test.false) ∙ c.loop-item.invariant.done;
      stays = c.loop-item.invariant.stays;
    }

pub returns-in_err-reply-clause-stays : goal.returns-in_err-reply-clause-stays
returns-in_err-reply-clause-stays g c =
    stays_on c.args.state.now c.loop-item.state c.item_result.new.state c.item_result.new.state.now c.loop-item.invariant.stays c.in_err-reply.ensures.stays

pub returns-in_err-put-clause-stays : goal.returns-in_err-put-clause-stays
returns-in_err-put-clause-stays g c =
    stays_on c.args.state.now c.loop-item.state c.item_result.new.state c.item_result.new.state.now c.loop-item.invariant.stays c.in_ok-reply.ensures.stays
