use Rattle.std.proofs.Common.{◌≡◌, ◌++◌, ◌+◌, [], Some, arith, ap, ap₂, sym, ◌∙◌, subst, map, take, drop}
use Rattle.std.specs.List.{list_any}
use Rattle.ob_parts.specs.Least.{earlier, least}
use Rattle.ob_parts.specs.Numbered.{Part, numbered_from, inside}
use Rattle.ob_parts.specs.Offences.{unless, each}
use Rattle.ob_parts.specs.Views.{part_of}
use Rattle.ob_parts.proofs.Walk.{taken, walk_more, walk_end}
use Rattle.ob_super.specs.declared.config_rule.ConfigRule.TheVariants as rule
use Rattle.ob_super.specs.Configs.{Judges, unseen}
use Rattle.ob_super.specs.Upstreams.{is_list, is_text, href_in, hrefs_in, href_offences, all_of}
use Rattle.ob_super.proofs.ConfigLemmas.{unseen_is, href_judged, hrefs_more, seen_more, judge_walk, all_some, take_all}
use Rattle.ob_super.proofs.config.listed_hrefs.Goals as goal

pub loop-object-preserved : goal.loop-object-preserved
loop-object-preserved c =
    let objects = c.children-object-items.result.now in
    let i = c.loop-object.object-index in
    let o = c.object-item.result in
    let p : Part = record { number = c.loop-object.number; object = o } in
    let before = take i objects in
    let keys = c.loop-object.seen.keys in
    let old = c.loop-object.hrefs.items in
    let new = c.take_href.new.hrefs.items in
    let here = c.loop-object-test.true in
    let fresh = unseen_is keys before o c.loop-object.invariant.seen in
    let said = c.in_ok-offence.ensures.taken in
    let judged = href_judged old new p before c.in_ok-offence.offence (unseen keys (href_in o)) fresh said in
    record {
      rest = ap₂ (λ f n. earlier f (least (each href_offences (take (i + 1) objects) (numbered_from n (drop (i + 1) objects)))))
          (c.earlier-first.ensures ∙ ap (earlier c.loop-object.first) judged) c.number_behind-number.ensures
          ∙ (walk_more href_offences c.loop-object.first c.loop-object.number objects i o here c.object-item.is ∙ c.loop-object.invariant.rest);
      seen = λ t. seen_more keys c.take_href.new.seen.keys before o c.loop-object.invariant.seen c.in_ok-offence.ensures.seen t
          ∙ sym (ap (λ l. list_any (λ x. is_text t (href_in x)) l) (taken objects i o here c.object-item.is));
      told = λ none. ap (λ l. map href_in l) (taken objects i o here c.object-item.is)
          ∙ hrefs_more old new p before c.loop-object.first c.in_ok-offence.offence c.earlier-first.result (unseen keys (href_in o)) fresh said c.earlier-first.ensures c.loop-object.invariant.told none;
    }

pub returns : goal.returns
returns c =
    let objects = c.children-object-items.result.now in
    let i = c.loop-object.object-index in
    let past = c.loop-object-test.false in
    let list = c.args.list in
    let offences = unless (is_list 1 2_048 list.object.now) rule.Hrefs (part_of list) ++ each href_offences [] (inside (part_of list)) in
    let first_is = sym (walk_end href_offences c.loop-object.first c.loop-object.number objects i (omega (arith, past))) ∙ c.loop-object.invariant.rest in
    subst (Judges offences (λ texts. hrefs_in list.object.now ≡ Some texts.items)) (sym c.unless_any.ensures)
    (judge_walk offences (λ texts. hrefs_in list.object.now ≡ Some texts.items) c.loop-object.first c.loop-object.hrefs first_is
    (λ none. ap (λ l. all_of (map href_in l)) (sym c.children-object-items.ensures.value ∙ sym (take_all objects i (omega (arith, past))))
    ∙ (ap all_of (c.loop-object.invariant.told none) ∙ all_some c.loop-object.hrefs.items)))
