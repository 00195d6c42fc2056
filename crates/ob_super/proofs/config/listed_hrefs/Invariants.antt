use Rattle.std.proofs.Common.{◌≡◌, ◌++◌, [], map, take, drop, Some, None}
use Rattle.ob_parts.specs.Least.{earlier, least}
use Rattle.ob_parts.specs.Numbered.{numbered_from, inside}
use Rattle.ob_parts.specs.Offences.{unless, each}
use Rattle.ob_parts.specs.Views.{part_of}
use Rattle.ob_super.specs.declared.config_rule.ConfigRule.TheVariants as rule
use Rattle.ob_super.specs.Upstreams.{is_list, href_in, href_offences}
use Rattle.ob_super.proofs.ConfigLemmas.{HasSeen}
use Rattle.ob_super.proofs.config.listed_hrefs.Given as goal

abbrev pub invariant-loop-object : goal.invariant-loop-object
invariant-loop-object l = record {
  rest : earlier l.first (least (each href_offences (take l.object-index l.object-items) (numbered_from l.number (drop l.object-index l.object-items))))
      ≡ least (unless (is_list 1 2_048 l.fn.list.object.now) rule.Hrefs (part_of l.fn.list) ++ each href_offences [] (inside (part_of l.fn.list)));
  seen : HasSeen l.seen.keys (take l.object-index l.object-items);
  told : l.first ≡ None → map href_in (take l.object-index l.object-items) ≡ map Some l.hrefs.items;
}
