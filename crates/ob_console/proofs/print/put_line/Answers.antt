use Rattle.std.proofs.Common.{List, ℕ, ◌++◌, ap, ◌∙◌}
use Rattle.std.specs.Prelude.{codes}
use Rattle.ob_values.specs.declared.value.Value.TheVariants as value
use Rattle.ob_values.specs.Spelled.{printed}
use Rattle.ob_encoding.specs.Names.{status_word}
use Rattle.ob_console.specs.Lines.{left_in, slot_text}
use Rattle.ob_console.specs.Screen.{screened}
use Rattle.ob_console.proofs.LineLemmas.{five}
use Rattle.ob_console.proofs.print.put_line.Goals as goal

pub returns : goal.returns
returns c =
    let a = c.args.alarm.now in
    five c.args.out.now.items c.put_left.new.out.items c.put_time.new.out.items c.put_slot.new.out.items c.put_screened.new.out.items c.push.new.self.items
    (left_in 12 (status_word a.state)) (left_in 35 (printed (value.Abstime a.time))) (left_in 21 (slot_text a.value)) (screened a.source) (codes "\n")
    (c.in_ok-put_left.ensures ∙ ap (λ (t : List ℕ). c.args.out.now.items ++ left_in 12 t) (c.as_bytes.ensures.value ∙ c.status_word.ensures))
    c.in_ok-put_time.ensures
    c.in_ok-put_slot.ensures
    (c.in_ok-put_screened.ensures ∙ ap (λ (t : List ℕ). c.put_slot.new.out.items ++ screened t) (c.as_bytes-2.ensures.value ∙ c.as_str.ensures.value))
    c.in_ok-push.ensures.items
