use Rattle.std.proofs.Common.{◌||◌, Some, ap, ◌∙◌, List, ℕ, Option}
use Rattle.ob_object.specs.WellFormed.{has_name}
use Rattle.ob_site_file.specs.Sizes.{has_text}
use Rattle.ob_site_file.proofs.Counted.{text_more}
use Rattle.ob_site_file.proofs.size.put_name.Goals as goal

pub returns-in_ok-insert-in-Some : goal.returns-in_ok-insert-in-Some
returns-in_ok-insert-in-Some c = λ n.
    text_more c.args.there.now c.insert.new.self c.as_str.result c.in_ok-insert-in-Some.ensures.updates n
    ∙ ap (λ (k : Option (List ℕ)). has_text c.args.there.now n || has_name n k) (ap (λ x. Some x) c.as_str.ensures.value ∙ c.in-Some.ensures)
