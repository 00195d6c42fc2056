use Rattle.std.proofs.Common.{◌≡◌, ℕ, Bool, List, ◌-◌, ◌∷◌, length, get_or, take, drop, ap, sym, ◌∙◌, subst}
use Rattle.std.proofs.lemmas.Bool.{both_ways}
use Rattle.std.proofs.lemmas.List.{take_rest}
use Rattle.std.proofs.lemmas.Option.{IfSome_then}
use Rattle.ob_spelling.specs.Numeral.{IsNumeral, number, capped, is_negative, after_sign}
use Rattle.ob_spelling.proofs.FrontLemmas.{head_and_tail}
use Rattle.ob_spelling.proofs.OptionLemmas.{none_then}
use Rattle.ob_values.specs.Integer.{IsSplitInteger}
use Rattle.ob_values.specs.Real.{IsExponent}
use Rattle.ob_values.proofs.RealLemmas.{exponent_read, power_text}
use Rattle.ob_values.proofs.real.read_exponent.Goals as goal

pub returns-then-not-is_mark-clause-none : goal.returns-then-not-is_mark-clause-none
returns-then-not-is_mark-clause-none c = λ negative digits h.
    let text = c.args.text.now in
    let r = exponent_read (get_or text 0 0) (drop 1 text) negative digits (subst (λ (t : List ℕ). IsExponent t negative digits) (head_and_tail text c.in-len1-up.len_at_least) h) in
    both_ways c.is_mark.result c.if-not-is_mark.true (c.is_mark.ensures.1 r.mark)

pub returns-else-not-is_mark-clause-some : goal.returns-else-not-is_mark-clause-some
returns-else-not-is_mark-clause-some c =
    let text = c.args.text.now in
    let rest = drop 1 text in
    IfSome_then _ {Q = λ (e : Bool × ℕ). (digits : List ℕ) × IsExponent c.args.text.now e.0 digits × (e.1 ≡ capped (number digits))} c.split_integer.ensures.some (λ (e : Bool × ℕ) (split : IsSplitInteger (take (length c.args.text.now - 1) (drop 1 c.args.text.now)) e.0 e.1).
    let cut = take_rest text 1 in
    let numeral : IsNumeral (after_sign rest) = subst (λ (t : List ℕ). IsNumeral (after_sign t)) cut split.numeral in
    let named = power_text (get_or text 0 0) rest (c.is_mark.ensures.0 c.if-not-is_mark.false) numeral in
    let minus = subst (λ (b : Bool). IsExponent (get_or text 0 0 ∷ rest) b (after_sign rest)) (sym (split.sign ∙ ap is_negative cut)) named in (
      after_sign rest,
      subst (λ (t : List ℕ). IsExponent t e.0 (after_sign rest)) (sym (head_and_tail text c.in-len1-up.len_at_least)) minus,
      split.digits ∙ ap (λ (t : List ℕ). capped (number (after_sign t))) cut,
    ))

pub returns-else-not-is_mark-clause-none : goal.returns-else-not-is_mark-clause-none
returns-else-not-is_mark-clause-none c =
    let text = c.args.text.now in
    none_then _ {Q = (negative : Bool) (digits : List ℕ) → ¬ (IsExponent c.args.text.now negative digits)} c.split_integer.ensures.none (λ none negative digits h.
    let r = exponent_read (get_or text 0 0) (drop 1 text) negative digits (subst (λ (t : List ℕ). IsExponent t negative digits) (head_and_tail text c.in-len1-up.len_at_least) h) in
    none (subst IsNumeral (sym (ap after_sign (take_rest text 1) ∙ r.digits_are)) r.numeral))
