use Rattle.std.proofs.Common.{◌∷◌, [], List, ap, sym, subst, ◌∙◌, arith, length, length-append}
use Rattle.ob_server.specs.Together.{AreSplit}
use Rattle.ob_server.proofs.TogetherLemmas.{split_none, split_more}
use Rattle.ob_server.proofs.passes.split_passes.Goals as goal

pub loop-init : goal.loop-init
loop-init g c = record {
  split = subst (λ (rs : List _). AreSplit c.args.pass.now c.args.pass.now rs) (sym c.in_ok-passes.ensures.items) (split_none _);
  count = ap (λ (rs : List _). length rs) c.in_ok-passes.ensures.items;
  room = c.in_ok-passes.ensures.exact;
  left = omega arith;
}

pub loop-preserved : goal.loop-preserved
loop-preserved g c =
    let i = c.loop.invariant in
    let items = c.push_reserved.ensures.items in
    record {
      split = subst (λ (rs : List _). AreSplit c.args.pass.now c.split.new.self rs) (sym items)
          (split_more _ _ _ _ _ _ i.split c.split.ensures.kept c.split.ensures.given c.split.ensures.calls.0 c.split.ensures.counts.1);
      count = omega (arith, i.count, ap (λ (rs : List _). length rs) items, length-append c.loop.passes.items (c.split.result ∷ []));
      room = c.push_reserved.ensures.capacity ∙ i.room;
      left = omega (arith, i.left, c.split.ensures.counts.0);
    }

pub split-requires-clause-of : goal.split-requires-clause-of
split-requires-clause-of g c = ap (λ z. z.table) c.loop.invariant.split.same ∙ c.requires.of

pub split-requires-clause-left : goal.split-requires-clause-left
split-requires-clause-left g c = omega (arith, c.loop.invariant.left, c.requires.left, c.loop-test.true)

pub returns-clause-split : goal.returns-clause-split
returns-clause-split g c = c.loop.invariant.split
