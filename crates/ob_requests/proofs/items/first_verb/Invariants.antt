use Rattle.std.proofs.Common.{◌≡◌, drop}
use Rattle.ob_site_rules.specs.Actions.{first_verb}
use Rattle.ob_requests.proofs.items.first_verb.Given as goal

abbrev pub invariant-loop-word : goal.invariant-loop-word
invariant-loop-word l = first_verb (drop l.word-index l.words) ≡ first_verb l.words
