use Rattle.std.proofs.Common.{◌||◌, Some, ap, ◌∙◌, List, ℕ, Option}
use Rattle.ob_object.specs.WellFormed.{has_name}
use Rattle.ob_site_file.specs.Sizes.{has_text}
use Rattle.ob_site_file.proofs.Counted.{text_more}
use Rattle.ob_site_file.proofs.size.left_after_new.Goals as goal

pub returns-then-fresh-clause-there : goal.returns-then-fresh-clause-there
returns-then-fresh-clause-there c = λ n.
    text_more c.args.there.now c.insert.new.self c.as_str.result c.in_ok-fresh.ensures.updates n
    ∙ ap (λ (k : Option (List ℕ)). has_text c.args.there.now n || has_name n k) (ap (λ x. Some x) c.as_str.ensures.value ∙ c.in-Some.ensures)

pub returns-else-fresh-clause-there : goal.returns-else-fresh-clause-there
returns-else-fresh-clause-there c = λ n.
    text_more c.args.there.now c.insert.new.self c.as_str.result c.in_ok-fresh.ensures.updates n
    ∙ ap (λ (k : Option (List ℕ)). has_text c.args.there.now n || has_name n k) (ap (λ x. Some x) c.as_str.ensures.value ∙ c.in-Some.ensures)
