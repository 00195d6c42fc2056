use Rattle.std.proofs.Common.{◌≡◌, ◌+◌, true, Some, IfOk, arith, ap, ap₂, sym, ◌∙◌, subst, map, take, drop}
use Rattle.ob_parts.specs.Least.{earlier, least}
use Rattle.ob_parts.specs.Numbered.{Part, numbered_from}
use Rattle.ob_parts.specs.Offences.{each}
use Rattle.ob_parts.proofs.Walk.{taken, walk_more, walk_end}
use Rattle.ob_super.specs.Configs.{Judges, upstream}
use Rattle.ob_super.specs.Upstreams.{configured, offences, upstream_in, upstream_offences, all_of}
use Rattle.ob_super.specs.Names.{are_apart}
use Rattle.ob_super.proofs.ConfigNames.{ok_walk, all_apart}
use Rattle.ob_super.proofs.ConfigLemmas.{upstream_judged, upstreams_more, judge_walk, told_all, take_all}
use Rattle.ob_super.proofs.config.upstreams.Goals as goal

pub loop-object-preserved : goal.loop-object-preserved
loop-object-preserved c =
    let objects = c.children-object-items.result.now in
    let i = c.loop-object.object-index in
    let o = c.object-item.result in
    let p : Part = record { number = c.loop-object.number; object = o } in
    let old = c.loop-object.all.items in
    let new = c.take_in.new.all.items in
    let here = c.loop-object-test.true in
    let offence = c.in_ok-offence.offence in
    let judged = upstream_judged old new p offence c.upstream-upstream.result c.upstream-upstream.ensures c.in_ok-offence.ensures in
    record {
      rest = ap₂ (λ f n. earlier f (least (each upstream_offences (take (i + 1) objects) (numbered_from n (drop (i + 1) objects)))))
          (c.earlier-first.ensures ∙ ap (earlier c.loop-object.first) judged) c.number_behind-number.ensures
          ∙ (walk_more upstream_offences c.loop-object.first c.loop-object.number objects i o here c.object-item.is ∙ c.loop-object.invariant.rest);
      told = λ none. ap (λ l. map upstream_in l) (taken objects i o here c.object-item.is)
          ∙ upstreams_more old new (take i objects) p c.loop-object.first offence c.earlier-first.result c.upstream-upstream.result c.upstream-upstream.ensures c.in_ok-offence.ensures
          c.earlier-first.ensures c.loop-object.invariant.told none;
    }

pub returns-clause-tells : goal.returns-clause-tells
returns-clause-tells c =
    let objects = c.children-object-items.result.now in
    let i = c.loop-object.object-index in
    let past = c.loop-object-test.false in
    let config = c.args.config.now in
    let first_is = sym (walk_end upstream_offences c.loop-object.first c.loop-object.number objects i (omega (arith, past))) ∙ c.loop-object.invariant.rest in
    subst (Judges (offences config) (λ all. configured config ≡ Some (map upstream all.items))) (sym c.unless_any.ensures)
    (judge_walk (offences config) (λ all. configured config ≡ Some (map upstream all.items)) c.loop-object.first c.loop-object.all first_is
    (λ none. ap (λ l. all_of (map upstream_in l)) (sym c.children-object-items.ensures.value ∙ sym (take_all objects i (omega (arith, past))))
    ∙ (ap all_of (c.loop-object.invariant.told none) ∙ told_all c.loop-object.all.items)))

pub returns-clause-apart : goal.returns-clause-apart
returns-clause-apart c =
    let objects = c.children-object-items.result.now in
    let i = c.loop-object.object-index in
    subst (λ r. IfOk r (λ all. are_apart (map (λ u. u.name) all.items) ≡ true)) (sym c.unless_any.ensures)
    (ok_walk (λ all. are_apart (map (λ u. u.name) all.items) ≡ true) c.loop-object.first c.loop-object.all
    (λ none. all_apart objects c.loop-object.all.items (ap (λ l. map upstream_in l) (sym (take_all objects i (omega (arith, c.loop-object-test.false)))) ∙ c.loop-object.invariant.told none)
    c.children-object-items.ensures.names_differ))
