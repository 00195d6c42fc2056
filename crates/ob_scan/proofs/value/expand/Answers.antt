use Rattle.std.proofs.Common.{◌≡◌, ℕ, List, Option, Some, None, cond, Ok, sym, ap, subst, ◌∙◌, inl}
use Rattle.ob_scan.specs.Expansion.{is_plain, Expands}
use Rattle.ob_scan.proofs.Meanings.{one_text}
use Rattle.ob_scan.proofs.PlainTexts.{given_plain}
use Rattle.ob_scan.proofs.value.expand.Goals as goal

made : (raw text out : List ℕ) → Some text ≡ cond (is_plain raw) (Some raw) None → out ≡ text → Expands raw out
made raw text out e same = subst (Expands raw) (sym same) (given_plain raw text e).expands

pub returns-in-Some-clause-exact : goal.returns-in-Some-clause-exact
returns-in-Some-clause-exact c = made c.args.raw.now c.in-Some.text.now c.in_ok-text.text c.in-Some.ensures.value (c.in_ok-text.ensures ∙ c.in_ok-from_str.ensures.ok)

pub returns-in-Some-clause-only : goal.returns-in-Some-clause-only
returns-in-Some-clause-only c = λ text h.
    inl (ap Ok (one_text c.args.raw.now c.in_ok-text.text text (made c.args.raw.now c.in-Some.text.now c.in_ok-text.text c.in-Some.ensures.value (c.in_ok-text.ensures ∙ c.in_ok-from_str.ensures.ok)) h))
