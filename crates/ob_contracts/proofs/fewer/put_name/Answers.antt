use Rattle.std.proofs.Common.{◌||◌, Some, ap, ◌∙◌, List, ℕ, Option}
use Rattle.ob_object.specs.WellFormed.{has_name}
use Rattle.ob_contracts.specs.Telling.{has_text}
use Rattle.ob_contracts.proofs.Heads.{text_more}
use Rattle.ob_contracts.proofs.fewer.put_name.Goals as goal

pub returns-clause-names : goal.returns-clause-names
returns-clause-names c = λ n.
    text_more c.args.known.now c.insert.new.self c.as_str.result c.in_ok-new.ensures.updates n
    ∙ ap (λ (k : Option (List ℕ)). has_text c.args.known.now n || has_name n k) (ap (λ x. Some x) c.as_str.ensures.value ∙ c.in-Some.ensures)
