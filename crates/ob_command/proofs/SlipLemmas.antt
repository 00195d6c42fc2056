-- Where no argument offends, the words are a command.
use Rattle.std.proofs.Common.{arith, if◌then◌else◌, ◌≡◌, ℕ, Bool, true, false, ◌&&◌, ◌||◌, List, [], ◌∷◌, ◌++◌, length, map, nat_lt, Option, Some, None, refl, ap, sym, ◌∙◌, subst}
use Rattle.std.specs.Prelude.{⊤, bytes_eq}
use Rattle.std.specs.List.{list_all, list_any}
use Rattle.std.proofs.lemmas.Bool.Decides.{nat_tests}
use Rattle.ob_command.specs.Arguments.{Argument, operand, option, bare, operands, values, is_allowed}
use Rattle.ob_command.specs.Forms.{Asked, Form, asked_name}
use Rattle.ob_command.proofs.ValueLemmas.{same_bytes, values_append}
use Rattle.ob_command.specs.Slips.{Slip, twice, unfit, miscounted, fits, fit_slip, asked_as, operand_slip, option_slip, bare_slip, wanted_after, is_done, or_slip, first_slip}

some_none : {A : Type 0} {x : A} → Some x ≡ None → ⊥
some_none e = cc

pub true_false : {b : Bool} → b ≡ true → b ≡ false → ⊥
true_false holds fails = cc

or_none : (a b : Option Slip) → or_slip a b ≡ None → (a ≡ None) × (b ≡ None)
or_none None b e = (refl, e)
or_none (Some s) b e = absurd (some_none e)

fit_none : (server : List ℕ) (asked : Asked) (word : List ℕ) → fit_slip server asked word ≡ None → fits server asked word ≡ true
fit_none server asked word e =
    elim (fits server asked word) as (λ t. (if t then None else Some (unfit asked word)) ≡ None → t ≡ true) [
      | true ↦ λ h. refl
      | false ↦ λ h. absurd (some_none h)
    ] e

-- what is asked for by a name has that name
among : (name : List ℕ) (options : List Asked) (asked : Asked) → asked_as name options ≡ Some asked → list_any (λ other. bytes_eq other name) (map asked_name options) ≡ true
among name [] asked e = absurd (some_none (sym e))
among name (o ∷ os) asked e =
    elim (bytes_eq (asked_name o) name) as (λ t. (if t then Some o else asked_as name os) ≡ Some asked → (t || list_any (λ other. bytes_eq other name) (map asked_name os)) ≡ true) [
      | true ↦ λ h. refl
      | false ↦ λ h. among name os asked h
    ] e

-- ---- operands that are what is asked for

abbrev pub fit_operands : (server : List ℕ) → List Asked → List (List ℕ) → Bool
fit_operands server [] [] = true
fit_operands server [] (word ∷ words) = false
fit_operands server (asked ∷ wanted) [] = is_done (asked ∷ wanted)
fit_operands server (asked ∷ wanted) (word ∷ words) = fits server asked word && fit_operands server (wanted_after (asked ∷ wanted)) words

-- no value, or one that fits
abbrev pub AtMostOne : (List ℕ → Bool) → List (List ℕ) → Type 0
AtMostOne p [] = ⊤
AtMostOne p (value ∷ []) = p value ≡ true
AtMostOne p (value ∷ (other ∷ more)) = ⊥

module _ (asking : Form) (server : List ℕ) where
  done : (wanted : List Asked) → (if is_done wanted then None else Some (miscounted asking.usage)) ≡ None → fit_operands server wanted [] ≡ true
  done [] e = refl
  done (asked ∷ wanted) e =
      elim (is_done (asked ∷ wanted)) as (λ t. (if t then None else Some (miscounted asking.usage)) ≡ None → t ≡ true) [
        | true ↦ λ h. refl
        | false ↦ λ h. absurd (some_none h)
      ] e

  pub operands_fit : (before : List Argument) (wanted : List Asked) (rest : List Argument) → first_slip asking server before wanted rest ≡ None → fit_operands server wanted (operands rest) ≡ true
  operands_fit before wanted [] e = done wanted e
  operands_fit before wanted (option name value ∷ rest) e = operands_fit (before ++ option name value ∷ []) wanted rest (or_none _ _ e).1
  operands_fit before wanted (bare name ∷ rest) e = operands_fit (before ++ bare name ∷ []) wanted rest (or_none _ _ e).1
  operands_fit before [] (operand word ∷ rest) e = absurd (some_none (or_none (operand_slip asking server [] word) (first_slip asking server (before ++ operand word ∷ []) [] rest) e).0)
  operands_fit before (asked ∷ wanted) (operand word ∷ rest) e =
      let parts = or_none (fit_slip server asked word) _ e in
      rw (fit_none server asked word parts.0) (operands_fit (before ++ operand word ∷ []) (wanted_after (asked ∷ wanted)) rest parts.1)

  -- there is no other option
  pub only_options : (before : List Argument) (wanted : List Asked) (rest : List Argument) → first_slip asking server before wanted rest ≡ None
      → list_all (is_allowed (map asked_name asking.options)) rest ≡ true
  only_options before wanted [] e = refl
  only_options before wanted (operand word ∷ rest) e = only_options (before ++ operand word ∷ []) (wanted_after wanted) rest (or_none (operand_slip asking server wanted word) _ e).1
  only_options before wanted (option name value ∷ rest) e =
      let parts = or_none (option_slip asking server before name value (asked_as name asking.options)) _ e in
      let more = only_options (before ++ option name value ∷ []) wanted rest parts.1 in
      elim (asked_as name asking.options) as (λ o. asked_as name asking.options ≡ o → option_slip asking server before name value o ≡ None → list_all (is_allowed (map asked_name asking.options)) (option name value ∷ rest) ≡ true) [
        | Some asked ↦ λ is h. rw (among name asking.options asked is) more
        | None ↦ λ is h. absurd (some_none h)
      ] refl parts.0
  only_options before wanted (bare name ∷ rest) e =
      elim (asked_as name asking.options) as (λ o. bare_slip asking name o ≡ None → list_all (is_allowed (map asked_name asking.options)) (bare name ∷ rest) ≡ true) [
        | Some asked ↦ λ h. absurd (some_none h)
        | None ↦ λ h. absurd (some_none h)
      ] (or_none (bare_slip asking name (asked_as name asking.options)) _ e).0

  module _ (name : List ℕ) (asked : Asked) (is : asked_as name asking.options ≡ Some asked) where
    grows : (before more : List Argument) → nat_lt 0 (length (values name before)) ≡ true → nat_lt 0 (length (values name (before ++ more))) ≡ true
    grows before more some =
        rw (values_append name before more)
        (elim (values name before) as (λ vs. nat_lt 0 (length vs) ≡ true → nat_lt 0 (length (vs ++ values name more)) ≡ true) [
          | [] ↦ λ h. absurd (true_false h refl)
          | v ∷ vs ↦ λ h. grind (arith, nat_tests)
        ] some)

    -- an option that doesn't offend is the first one of its name, and its value fits
    unoffending : (before : List Argument) (value : List ℕ) → option_slip asking server before name value (asked_as name asking.options) ≡ None
        → (nat_lt 0 (length (values name before)) ≡ false) × (fits server asked value ≡ true)
    unoffending before value none =
        elim (nat_lt 0 (length (values name before))) as (λ t. (if t then Some (twice name) else fit_slip server asked value) ≡ None → (t ≡ false) × (fits server asked value ≡ true)) [
          | true ↦ λ h. absurd (some_none h)
          | false ↦ λ h. (refl, fit_none server asked value h)
        ] (subst (λ (o : Option Asked). option_slip asking server before name value o ≡ None) is none)

    unoffending_as : (before : List Argument) (other value : List ℕ) → other ≡ name → option_slip asking server before other value (asked_as other asking.options) ≡ None
        → (nat_lt 0 (length (values name before)) ≡ false) × (fits server asked value ≡ true)
    unoffending_as before other value same none = unoffending before value (subst (λ (n : List ℕ). option_slip asking server before n value (asked_as n asking.options) ≡ None) same none)

    -- of an option that stands before there is no further one
    past : (before : List Argument) (wanted : List Asked) (rest : List Argument) → first_slip asking server before wanted rest ≡ None
        → nat_lt 0 (length (values name before)) ≡ true → values name rest ≡ []
    past before wanted [] e some = refl
    past before wanted (operand word ∷ rest) e some =
        past (before ++ operand word ∷ []) (wanted_after wanted) rest (or_none (operand_slip asking server wanted word) _ e).1 (grows before (operand word ∷ []) some)
    past before wanted (bare other ∷ rest) e some =
        past (before ++ bare other ∷ []) wanted rest (or_none (bare_slip asking other (asked_as other asking.options)) _ e).1 (grows before (bare other ∷ []) some)
    past before wanted (option other value ∷ rest) e some =
        let parts = or_none (option_slip asking server before other value (asked_as other asking.options)) _ e in
        let more = past (before ++ option other value ∷ []) wanted rest parts.1 (grows before (option other value ∷ []) some) in
        elim (bytes_eq other name) as (λ t. bytes_eq other name ≡ t → (if t then value ∷ values name rest else values name rest) ≡ []) [
          | true ↦ λ same. absurd (true_false some (unoffending_as before other value (same_bytes other name same) parts.0).0)
          | false ↦ λ differs. more
        ] refl

    -- the values after an option more
    one_more : (before : List Argument) (other value : List ℕ) → values name before ≡ [] → values name (before ++ option other value ∷ []) ≡ (if bytes_eq other name then value ∷ [] else [])
    one_more before other value none = values_append name before (option other value ∷ []) ∙ ap (λ (vs : List (List ℕ)). vs ++ (if bytes_eq other name then value ∷ [] else [])) none

    none_more : (before more : List Argument) → values name before ≡ [] → values name more ≡ [] → values name (before ++ more) ≡ []
    none_more before more none none' = values_append name before more ∙ ap (λ (vs : List (List ℕ)). vs ++ values name more) none ∙ none'

    one_left : (value : List ℕ) (vs : List (List ℕ)) → vs ≡ [] → fits server asked value ≡ true → AtMostOne (fits server asked) (value ∷ vs)
    one_left value vs none fit = subst (λ (ws : List (List ℕ)). AtMostOne (fits server asked) (value ∷ ws)) (sym none) fit

    -- an option stands once at most, with a value that fits
    pub once : (before : List Argument) (wanted : List Asked) (rest : List Argument) → first_slip asking server before wanted rest ≡ None
        → values name before ≡ [] → AtMostOne (fits server asked) (values name rest)
    once before wanted [] e none = tt
    once before wanted (operand word ∷ rest) e none =
        once (before ++ operand word ∷ []) (wanted_after wanted) rest (or_none (operand_slip asking server wanted word) _ e).1 (none_more before (operand word ∷ []) none refl)
    once before wanted (bare other ∷ rest) e none =
        once (before ++ bare other ∷ []) wanted rest (or_none (bare_slip asking other (asked_as other asking.options)) _ e).1 (none_more before (bare other ∷ []) none refl)
    once before wanted (option other value ∷ rest) e none =
        let parts = or_none (option_slip asking server before other value (asked_as other asking.options)) _ e in
        let values' = one_more before other value none in
        elim (bytes_eq other name) as (λ t. bytes_eq other name ≡ t → values name (before ++ option other value ∷ []) ≡ (if t then value ∷ [] else []) → AtMostOne (fits server asked) (if t then value ∷ values name rest else values name rest)) [
          | true ↦ λ same here.
              let later = past (before ++ option other value ∷ []) wanted rest parts.1 (subst (λ (vs : List (List ℕ)). nat_lt 0 (length vs) ≡ true) (sym here) refl) in
              one_left value (values name rest) later (unoffending_as before other value (same_bytes other name same) parts.0).1
          | false ↦ λ differs here. once (before ++ option other value ∷ []) wanted rest parts.1 here
        ] refl values'
