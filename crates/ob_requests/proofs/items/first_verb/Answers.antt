use Rattle.std.proofs.Common.{sym, ap, ◌∙◌}
use Rattle.std.proofs.lemmas.List.{at_drop_all}
use Rattle.ob_site_rules.specs.Actions.{verb_of, first_verb}
use Rattle.ob_requests.proofs.Verbs.{verb_found, verb_past}
use Rattle.ob_requests.proofs.items.first_verb.Goals as goal

pub returns-then-is_some : goal.returns-then-is_some
returns-then-is_some c =
    sym (verb_found c.args.words.now c.loop-word.word-index c.word-item.result c.verb_of-verb.result c.loop-word-test.true c.word-item.is (c.verb_of-verb.ensures ∙ ap verb_of c.as_str.ensures.value) (sym c.is_some.ensures ∙ c.if-is_some.true))
    ∙ c.loop-word.invariant

pub loop-word-preserved : goal.loop-word-preserved
loop-word-preserved c =
    sym (verb_past c.args.words.now c.loop-word.word-index c.word-item.result c.verb_of-verb.result c.loop-word-test.true c.word-item.is (c.verb_of-verb.ensures ∙ ap verb_of c.as_str.ensures.value) (sym c.is_some.ensures ∙ c.if-is_some.false))
    ∙ c.loop-word.invariant

pub returns : goal.returns
returns c = sym (at_drop_all first_verb c.args.words.now c.loop-word.word-index c.loop-word-test.false) ∙ c.loop-word.invariant
