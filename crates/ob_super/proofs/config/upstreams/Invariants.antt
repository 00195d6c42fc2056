use Rattle.std.proofs.Common.{◌≡◌, map, take, drop, None}
use Rattle.ob_parts.specs.Least.{earlier, least}
use Rattle.ob_parts.specs.Numbered.{numbered_from}
use Rattle.ob_parts.specs.Offences.{each}
use Rattle.ob_super.specs.Upstreams.{offences, upstream_in, upstream_offences}
use Rattle.ob_super.proofs.ConfigLemmas.{told_of}
use Rattle.ob_super.proofs.config.upstreams.Given as goal

abbrev pub invariant-loop-object : goal.invariant-loop-object
invariant-loop-object l = record {
  rest : earlier l.first (least (each upstream_offences (take l.object-index l.object-items) (numbered_from l.number (drop l.object-index l.object-items)))) ≡ least (offences l.fn.config);
  told : l.first ≡ None → map upstream_in (take l.object-index l.object-items) ≡ told_of l.all.items;
}
