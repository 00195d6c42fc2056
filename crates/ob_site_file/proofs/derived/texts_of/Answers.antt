use Rattle.std.proofs.Common.{ℕ, List, ap, ◌∙◌, ◌||◌}
use Rattle.std.specs.Prelude.{bytes_eq}
use Rattle.std.proofs.lemmas.List.{take_all}
use Rattle.ob_site_rules.specs.State.{is_among}
use Rattle.ob_site_file.specs.Sizes.{has_text}
use Rattle.ob_site_file.proofs.Counted.{among_first, among_more, text_more}
use Rattle.std.proofs.Common.{sym}
use Rattle.ob_site_file.proofs.derived.texts_of.Goals as goal

pub loop-text-init : goal.loop-text-init
loop-text-init c = λ t. among_first c.args.texts.now c.new-set.result c.new-set.ensures.empty t

pub loop-text-preserved : goal.loop-text-preserved
loop-text-preserved c = λ t.
    text_more c.loop-text.set c.insert.new.self c.as_str.result c.in_ok-insert.ensures.updates t
    ∙ ap (λ (k : List ℕ). has_text c.loop-text.set t || bytes_eq k t) c.as_str.ensures.value
    ∙ ap (λ b. b || bytes_eq c.text-item.result t) (c.loop-text.invariant t)
    ∙ sym (among_more t c.args.texts.now c.loop-text.text-index c.text-item.result c.loop-text-test.true c.text-item.is)

pub returns : goal.returns
returns c = λ t. c.loop-text.invariant t ∙ ap (is_among t) (take_all c.loop-text.text-index c.args.texts.now c.loop-text-test.false)
