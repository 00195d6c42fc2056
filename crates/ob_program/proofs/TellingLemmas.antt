-- What is told on `errors`.
use Rattle.std.proofs.Common.{◌≡◌, ◌⊎◌, inl, inr, Bool, true, false, sym, ◌∙◌, ap, subst, List, [], ◌++◌, ℕ, Option, Result, Ok, Err}
use Rattle.std.specs.Prelude.{codes, if◌then◌else◌}
use Rattle.ob_io.specs.Faults.{Rose, HasCause}
use Rattle.ob_io.specs.Told.{Sends}
use Rattle.ob_program.specs.declared.exit.Exit.{Exit}
use Rattle.ob_program.specs.Telling.{ErrorsTold, lead, has_words, line, short, Tells}

-- bytes were sent whole where the count didn't rise
sent_whole : {T E : Type 0} (held held' : Option (List ℕ)) (faults faults' : ℕ) (r : Result T E) (bytes : List ℕ) (s : Sends held held' r bytes) → HasCause faults faults' r
    → ¬ (Rose faults faults') → s.sent ≡ bytes
sent_whole held held' faults faults' (Ok x) bytes s cause calm = s.whole
sent_whole held held' faults faults' (Err e) bytes s cause calm = absurd (calm cause.failed)

told : {T E : Type 0} (e e' : ErrorsTold) (exit : Exit) (words text : List ℕ) (r : Result T E) → (text ≡ line exit words) ⊎ ((has_words exit ≡ true) × (text ≡ short exit))
    → Sends e.held e'.held r text → HasCause e.faults e'.faults r → Tells e e' exit words
told e e' exit words text r is s cause = record {
  text = text;
  line_is = is;
  written = s.sent;
  gained = s.gained;
  front = s.front;
  whole = sent_whole e.held e'.held e.faults e'.faults r text s cause;
}

plain_line : (exit : Exit) (words : List ℕ) → has_words exit ≡ false → lead exit ≡ line exit words
plain_line exit words plain = sym (ap (λ (b : Bool). if b then lead exit ++ (words ++ codes "\n") else lead exit) plain)

-- a line without words was sent
pub plain_told : {T E : Type 0} (e e' : ErrorsTold) (exit : Exit) (words text : List ℕ) (r : Result T E) → has_words exit ≡ false → text ≡ lead exit
    → Sends e.held e'.held r text → HasCause e.faults e'.faults r → Tells e e' exit words
plain_told e e' exit words text r plain is s cause = told e e' exit words text r (inl (is ∙ plain_line exit words plain)) s cause

-- there was no memory for it
pub wanting_told : {T E : Type 0} (e e' : ErrorsTold) (exit : Exit) (words text : List ℕ) (r : Result T E) → has_words exit ≡ true → text ≡ short exit
    → Sends e.held e'.held r text → HasCause e.faults e'.faults r → Tells e e' exit words
wanting_told e e' exit words text r worded is s cause = told e e' exit words text r (inr (worded, is)) s cause

-- what is so of what was told is so of what the outside tells
pub of_two : {A B : Type 0} (P : A → B → Type 0) (a a' : A) (b b' : B) → a ≡ a' → b ≡ b' → P a b → P a' b'
of_two {A} {B} P a a' b b' e f is = subst (λ (x : A). P x b') e (subst (λ (y : B). P a y) f is)

pub of_three : {A B C : Type 0} (P : A → B → C → Type 0) (a a' : A) (b b' : B) (c c' : C) → a ≡ a' → b ≡ b' → c ≡ c' → P a b c → P a' b' c'
of_three {A} {B} {C} P a a' b b' c c' e f h is = subst (λ (z : C). P a' b' z) h (of_two (λ (x : A) (y : B). P x y c) a a' b b' e f is)
