use Rattle.std.proofs.Common.{ℕ, List, sym, ap, ◌∙◌}
use Rattle.std.specs.Prelude.{Option, option_map, option_copied, unwrap_or}
use Rattle.std.proofs.lemmas.Result.{IfOk-weaker}
use Rattle.ob_replies.proofs.fixed.about_text.Goals as goal

pub returns-in-Some : goal.returns-in-Some
returns-in-Some c =
    let there = sym (ap option_copied c.in-Some.is) ∙ c.own_text.ensures in
    IfOk-weaker c.copy.result _ _ (λ t h. h ∙ ap (λ (o : Option (List ℕ × List ℕ)). unwrap_or (option_map (λ x. x.1) o) c.args.default.now) there) c.copy.ensures

pub returns-in-None : goal.returns-in-None
returns-in-None c =
    let none = sym (ap option_copied c.in-None.is) ∙ c.own_text.ensures in
    IfOk-weaker c.from_ascii.result _ _ (λ t h. h ∙ ap (λ (o : Option (List ℕ × List ℕ)). unwrap_or (option_map (λ x. x.1) o) c.args.default.now) none) c.from_ascii.ensures
