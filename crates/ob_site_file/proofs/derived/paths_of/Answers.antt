use Rattle.std.proofs.Common.{ℕ, List, ap, sym, refl, ◌∙◌, ◌||◌, map, is_some}
use Rattle.std.specs.Prelude.{bytes_eq}
use Rattle.std.proofs.lemmas.List.{take_all}
use Rattle.ob_site_rules.specs.State.{at}
use Rattle.ob_plain_state.specs.States.{entry_of}
use Rattle.ob_plain_state.specs.declared.log.OpenedLog.{OpenedLog}
use Rattle.ob_site_file.specs.Sizes.{has_text}
use Rattle.ob_site_file.proofs.Counted.{there_none, there_more, text_more}
use Rattle.ob_site_file.proofs.derived.paths_of.Goals as goal

pub loop-entry-init : goal.loop-entry-init
loop-entry-init c = λ t. there_none entry_of c.args.logs.now c.new-set.result c.new-set.ensures.empty t

pub loop-entry-preserved : goal.loop-entry-preserved
loop-entry-preserved c = λ t.
    text_more c.loop-entry.set c.insert.new.self c.as_str.result c.in_ok-insert.ensures.updates t
    ∙ ap (λ (k : List ℕ). has_text c.loop-entry.set t || bytes_eq k t) c.as_str.ensures.value
    ∙ ap (λ b. b || bytes_eq c.entry-item.result.0 t) (c.loop-entry.invariant t)
    ∙ sym (there_more entry_of (λ e. refl) t c.args.logs.now c.loop-entry.entry-index c.entry-item.result c.loop-entry-test.true c.entry-item.is)

pub returns : goal.returns
returns c = λ t. c.loop-entry.invariant t ∙ ap (λ (l : List (List ℕ × OpenedLog)). is_some (at t (map entry_of l))) (take_all c.loop-entry.entry-index c.args.logs.now c.loop-entry-test.false)
