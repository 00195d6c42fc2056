use Rattle.std.proofs.Common.{◌≡◌, map, drop, take, []}
use Rattle.ob_client.specs.Entries.{text_of}
use Rattle.ob_client.proofs.OnceLemmas.{HasTexts, stand_once}
use Rattle.ob_client.proofs.entries.each_once.Given as goal

abbrev pub invariant-loop-entry : goal.invariant-loop-entry
invariant-loop-entry l = record {
  has : HasTexts l.seen (map text_of (take l.entry-index l.entries));
  once : stand_once [] (map text_of l.entries) ≡ stand_once (map text_of (take l.entry-index l.entries)) (map text_of (drop l.entry-index l.entries));
}
