use Rattle.std.proofs.Common.{ℕ, List, Option, Bool, ◌++◌, codes, ap, ◌∙◌, option_map}
use Rattle.std.proofs.lemmas.Result.{on_ok_weaker}
use Rattle.ob_object.specs.declared.status.Status.{Status}
use Rattle.ob_values.specs.declared.value.Value.TheVariants.{Bool as Truth}
use Rattle.ob_values.specs.Spelled.{printed}
use Rattle.ob_encoding.specs.Names.{status_word}
use Rattle.ob_encoding.specs.Canonical.{quoted}
use Rattle.ob_encoding.proofs.Writing.{meaning_written}
use Rattle.ob_encoding.proofs.element.write_meaning.Goals as goal

pub returns-clause-written : goal.returns-clause-written
returns-clause-written c =
    on_ok_weaker c.write_truth.result (λ e. meaning_written c.args.out.now.items c.write_text.new.out.items c.write_status.new.out.items c.write_text-2.new.out.items c.write_text-3.new.out.items c.write_truth.new.out.items c.args.head.now.facets
    (c.in_ok-write_text.ensures.written ∙ ap (λ (t : Option (List ℕ)). c.args.out.now.items ++ quoted (codes " range=\"") t) c.range.ensures)
    (c.in_ok-write_status.ensures.written ∙ ap (λ (t : Option Status). c.write_text.new.out.items ++ quoted (codes " status=\"") (option_map status_word t)) c.status.ensures)
    (c.in_ok-write_text-2.ensures.written ∙ ap (λ (t : Option (List ℕ)). c.write_status.new.out.items ++ quoted (codes " tz=\"") t) c.tz.ensures)
    (c.in_ok-write_text-3.ensures.written ∙ ap (λ (t : Option (List ℕ)). c.write_text-2.new.out.items ++ quoted (codes " unit=\"") t) c.unit.ensures)
    (e ∙ ap (λ (t : Option Bool). c.write_text-3.new.out.items ++ quoted (codes " writable=\"") (option_map (λ b. printed (Truth b)) t)) c.writable.ensures)) c.write_truth.ensures.written
