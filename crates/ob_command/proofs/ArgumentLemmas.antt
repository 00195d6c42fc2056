-- What is wrong with one argument.
use Rattle.std.proofs.Common.{if◌then◌else◌, ◌≡◌, ℕ, Bool, true, false, ◌||◌, List, [], ◌∷◌, ◌++◌, length, nat_lt, Option, Some, None, refl, ap, sym, ◌∙◌, subst, append_assoc}
use Rattle.std.specs.Prelude.{bytes_eq, Result, Ok, Err, IfErr}
use Rattle.std.specs.List.{list_any}
use Rattle.ob_command.specs.Arguments.{Argument, operand, option, bare, operands, values}
use Rattle.ob_command.specs.Forms.{Asked, text, texts, number, url, place, Form, asked_name}
use Rattle.ob_command.specs.Slips.{Slip, twice, miscounted, is_done, form_slip, first_of, fit_slip, asked_as, option_slip, argument_slip, still_wanted, or_slip, first_slip, takes_memory, reads_memory}

module _ (asking : Form) (server : List ℕ) (before : List Argument) (name value : List ℕ) (o : Option Asked) (asked : Asked) (found : o ≡ Some asked) where
  pub twice_told : nat_lt 0 (length (values name before)) ≡ true → Some (twice name) ≡ option_slip asking server before name value o
  twice_told stands =
      subst (λ (x : Option Asked). Some (twice name) ≡ option_slip asking server before name value x) (sym found)
      (ap (λ (t : Bool). if t then Some (twice name) else fit_slip server asked value) (sym stands))

  pub fit_told : nat_lt 0 (length (values name before)) ≡ false → fit_slip server asked value ≡ option_slip asking server before name value o
  fit_told first =
      subst (λ (x : Option Asked). fit_slip server asked value ≡ option_slip asking server before name value x) (sym found)
      (ap (λ (t : Bool). if t then Some (twice name) else fit_slip server asked value) (sym first))

or_true : (a b : Bool) → b ≡ true → (a || b) ≡ true
or_true true b e = refl
or_true false b e = e

-- an option that reads a URL is one of those that are asked for
among_options : (name : List ℕ) (options : List Asked) (asked : Asked) → asked_as name options ≡ Some asked → takes_memory asked ≡ true → list_any takes_memory options ≡ true
among_options name [] asked found takes = absurd cc
among_options name (o ∷ os) asked found takes =
    elim (bytes_eq (asked_name o) name) as (λ t. (if t then Some o else asked_as name os) ≡ Some asked → (takes_memory o || list_any takes_memory os) ≡ true) [
      | true ↦ λ h. subst (λ (x : Asked). (takes_memory x || list_any takes_memory os) ≡ true) (of_some asked o (sym h)) (ap (λ (t : Bool). t || list_any takes_memory os) takes)
      | false ↦ λ h. or_true (takes_memory o) (list_any takes_memory os) (among_options name os asked h takes)
    ] found
  where
    of_some : (a b : Asked) → Some a ≡ Some b → a ≡ b
    of_some a b e = cc

pub option_reads : (asking : Form) (wanted : List Asked) (name : List ℕ) (asked : Asked) → asked_as name asking.options ≡ Some asked → takes_memory asked ≡ true → reads_memory asking wanted ≡ true
option_reads asking wanted name asked found takes = or_true (list_any takes_memory wanted) (list_any takes_memory asking.options) (among_options name asking.options asked found takes)

-- ---- one argument after the other

-- The arguments `rest` are left, the operands `wanted` are asked for, and nothing offended so far.
abbrev pub Walked : Form → (server : List ℕ) → (given : List Argument) → (wanted : List Asked) → (rest : List Argument) → Type 0
Walked asking server given wanted rest =
    (before : List Argument) × (given ≡ before ++ rest) × (first_slip asking server before wanted rest ≡ form_slip asking given)

module _ (asking : Form) (server : List ℕ) (given : List Argument) where
  pub walk_begins : server ≡ first_of (operands given) → Walked asking server given asking.operands given
  walk_begins first = ([], refl, ap (λ (u : List ℕ). first_slip asking u [] asking.operands given) first)

  module _ (wanted : List Asked) (rest : List Argument) (argument : Argument) (more : List Argument) (next : rest ≡ argument ∷ more) (walked : Walked asking server given wanted rest) where
    -- an argument that offends is the first one
    pub first_offends : (slip : Slip) → ((before : List Argument) → given ≡ before ++ rest → Some slip ≡ argument_slip asking server before wanted argument)
        → Some slip ≡ form_slip asking given
    first_offends slip offends =
        let before = walked.0 in
        ap (λ (o : Option Slip). or_slip o (first_slip asking server (before ++ argument ∷ []) (still_wanted wanted argument) more)) (offends before walked.1)
        ∙ ap (λ (r : List Argument). first_slip asking server before wanted r) (sym next) ∙ walked.2

    -- one that doesn't is passed
    pub walked_on : (wanted' : List Asked) → wanted' ≡ still_wanted wanted argument
        → ((before : List Argument) → given ≡ before ++ rest → None ≡ argument_slip asking server before wanted argument) → Walked asking server given wanted' more
    walked_on wanted' still good =
        let before = walked.0 in (
          before ++ argument ∷ [],
          walked.1 ∙ ap (λ (r : List Argument). before ++ r) next ∙ sym (append_assoc before (argument ∷ []) more),
          ap (λ (w : List Asked). first_slip asking server (before ++ argument ∷ []) w more) still
              ∙ ap (λ (o : Option Slip). or_slip o (first_slip asking server (before ++ argument ∷ []) (still_wanted wanted argument) more)) (good before walked.1)
              ∙ ap (λ (r : List Argument). first_slip asking server before wanted r) (sym next) ∙ walked.2,
        )

  pub walk_ends : (wanted : List Asked) (rest : List Argument) → rest ≡ [] → Walked asking server given wanted rest
      → (if is_done wanted then None else Some (miscounted asking.usage)) ≡ form_slip asking given
  walk_ends wanted rest none walked = ap (λ (r : List Argument). first_slip asking server walked.0 wanted r) (sym none) ∙ walked.2

-- what is asked for later was asked for before
pub later_reads : (wanted : List Asked) (argument : Argument) → list_any takes_memory (still_wanted wanted argument) ≡ true → list_any takes_memory wanted ≡ true
later_reads wanted (option name value) e = e
later_reads wanted (bare name) e = e
later_reads [] (operand word) e = e
later_reads (text name ∷ wanted) (operand word) e = e
later_reads (texts name ∷ wanted) (operand word) e = e
later_reads (number name least most ∷ wanted) (operand word) e = e
later_reads (url name ∷ wanted) (operand word) e = refl
later_reads (place name ∷ wanted) (operand word) e = refl

pub err_then : {T E : Type 0} {P Q : E → Type 0} (r : Result T E) → IfErr r P → ((x : E) → P x → Q x) → IfErr r Q
err_then (Ok x) h f = tt
err_then (Err e) h f = f e h
