-- Few words tell the same, of what roles ask for.
use Rattle.std.proofs.Common.{◌≡◌, ℕ, ◌+◌, ◌<◌, ◌≤◌, Bool, true, false, cond, ◌||◌, codes, List, [], ◌∷◌, ◌++◌, length, take, get_or, Option, Some, None, refl, sym, ap, ap₂, ◌∙◌, subst, true≢false}
use Rattle.std.specs.Option.{option_copied}
use Rattle.std.proofs.lemmas.List.{take_more, take_all}
use Rattle.ob_contracts.specs.Inherit.{Contracts, Words, present, or_else}
use Rattle.ob_contracts.specs.Ancestry.{is_a}
use Rattle.ob_roles.specs.declared.ancestors.Ancestors.{Ancestors}
use Rattle.ob_roles.specs.declared.few.Firsts.{Firsts}
use Rattle.ob_roles.specs.Few.{first_that, few_words, AreFirst}
use Rattle.ob_roles.specs.Kinds.{Are}
use Rattle.ob_roles.proofs.Flags.{is_append}

or_self : (a : Bool) → (a || a) ≡ a
or_self true = refl
or_self false = refl

or_past : (x p a : Bool) → (x || a) ≡ a → (x || (p || a)) ≡ (p || a)
or_past true p true e = or_end p
  where
    or_end : (b : Bool) → true ≡ (b || true)
    or_end true = refl
    or_end false = refl
or_past true p false e = absurd (true≢false e)
or_past false p a e = refl

or_twice : (p a : Bool) → (p || (p || a)) ≡ (p || a)
or_twice true a = refl
or_twice false a = refl

module _ (lib : Contracts) (asked : List ℕ) where
  -- the first word that is one is one where one of the words is
  pub found_is : (ws : Words) → is_a lib (present (first_that lib ws asked ∷ [])) asked ≡ is_a lib ws asked
  found_is [] = refl
  found_is (w ∷ ws) = go (is_a lib (w ∷ []) asked) refl (found_is ws)
    where
      go : (b : Bool) → is_a lib (w ∷ []) asked ≡ b → is_a lib (present (first_that lib ws asked ∷ [])) asked ≡ is_a lib ws asked
          → is_a lib (present (first_that lib (w ∷ ws) asked ∷ [])) asked ≡ is_a lib (w ∷ ws) asked
      go true e behind =
          ap (λ b. is_a lib (present (cond b (Some w) (first_that lib ws asked) ∷ [])) asked) e ∙ e
          ∙ sym (is_append lib (w ∷ []) ws asked ∙ ap (λ b. b || is_a lib ws asked) e)
      go false e behind =
          ap (λ b. is_a lib (present (cond b (Some w) (first_that lib ws asked) ∷ [])) asked) e ∙ behind
          ∙ sym (is_append lib (w ∷ []) ws asked ∙ ap (λ b. b || is_a lib ws asked) e)

  -- the first word that is another is one only where one of the words is
  pub other_is : (other : List ℕ) (ws : Words) → (is_a lib (present (first_that lib ws other ∷ [])) asked || is_a lib ws asked) ≡ is_a lib ws asked
  other_is other [] = or_self (is_a lib [] asked)
  other_is other (w ∷ ws) = go (is_a lib (w ∷ []) other) refl (other_is other ws)
    where
      go : (b : Bool) → is_a lib (w ∷ []) other ≡ b → (is_a lib (present (first_that lib ws other ∷ [])) asked || is_a lib ws asked) ≡ is_a lib ws asked
          → (is_a lib (present (first_that lib (w ∷ ws) other ∷ [])) asked || is_a lib (w ∷ ws) asked) ≡ is_a lib (w ∷ ws) asked
      go true e behind =
          ap (λ b. is_a lib (present (cond b (Some w) (first_that lib ws other) ∷ [])) asked || is_a lib (w ∷ ws) asked) e
          ∙ ap (λ a. is_a lib (w ∷ []) asked || a) (is_append lib (w ∷ []) ws asked)
          ∙ or_twice (is_a lib (w ∷ []) asked) (is_a lib ws asked)
          ∙ sym (is_append lib (w ∷ []) ws asked)
      go false e behind =
          ap (λ b. is_a lib (present (cond b (Some w) (first_that lib ws other) ∷ [])) asked || is_a lib (w ∷ ws) asked) e
          ∙ ap (λ a. is_a lib (present (first_that lib ws other ∷ [])) asked || a) (is_append lib (w ∷ []) ws asked)
          ∙ or_past (is_a lib (present (first_that lib ws other ∷ [])) asked) (is_a lib (w ∷ []) asked) (is_a lib ws asked) behind
          ∙ sym (is_append lib (w ∷ []) ws asked)

-- one of four is the whole, and none is more
whole_of : (a b c d y : Bool) → (a || y) ≡ y → (b || y) ≡ y → (c || y) ≡ y → (d || y) ≡ y → (y ≡ true → (((a || b) || c) || d) ≡ true) → (((a || b) || c) || d) ≡ y
whole_of a b c d true ea eb ec ed h = h refl
whole_of true b c d false ea eb ec ed h = absurd (true≢false ea)
whole_of false true c d false ea eb ec ed h = absurd (true≢false eb)
whole_of false false true d false ea eb ec ed h = absurd (true≢false ec)
whole_of false false false true false ea eb ec ed h = absurd (true≢false ed)
whole_of false false false false false ea eb ec ed h = refl

first_true : (a b c d : Bool) → a ≡ true → (((a || b) || c) || d) ≡ true
first_true a b c d e = ap (λ x. ((x || b) || c) || d) e

second_true : (a b c d : Bool) → b ≡ true → (((a || b) || c) || d) ≡ true
second_true true b c d e = refl
second_true false b c d e = ap (λ x. (x || c) || d) e

third_true : (a b c d : Bool) → c ≡ true → (((a || b) || c) || d) ≡ true
third_true a b c d e = ap (λ x. ((a || b) || x) || d) e ∙ go (a || b)
  where
    go : (p : Bool) → ((p || true) || d) ≡ true
    go true = refl
    go false = refl

fourth_true : (a b c d : Bool) → d ≡ true → (((a || b) || c) || d) ≡ true
fourth_true a b c d e = ap (λ x. ((a || b) || c) || x) e ∙ go ((a || b) || c)
  where
    go : (p : Bool) → (p || true) ≡ true
    go true = refl
    go false = refl

module _ (lib : Contracts) (ws : Words) where
  -- what the first word that is one of some contract is
  abbrev of_first : List ℕ → List ℕ → Bool
  of_first other asked = is_a lib (present (first_that lib ws other ∷ [])) asked

  apart : (asked : List ℕ) → is_a lib (few_words lib ws) asked ≡ (((of_first (codes "obix:Lobby") asked || of_first (codes "obix:WritablePoint") asked) || of_first (codes "obix:History") asked) || of_first (codes "obix:AlarmSubject") asked)
  unfolding few_words
  apart asked =
      let a = present (first_that lib ws (codes "obix:Lobby") ∷ []) in
      let b = present (first_that lib ws (codes "obix:WritablePoint") ∷ []) in
      let c = present (first_that lib ws (codes "obix:History") ∷ []) in
      let d = present (first_that lib ws (codes "obix:AlarmSubject") ∷ []) in
      is_append lib ((a ++ b) ++ c) d asked
      ∙ ap (λ x. x || is_a lib d asked) (is_append lib (a ++ b) c asked ∙ ap (λ x. x || is_a lib c asked) (is_append lib a b asked))

  few_are : (asked : List ℕ)
      → (is_a lib ws asked ≡ true → (((of_first (codes "obix:Lobby") asked || of_first (codes "obix:WritablePoint") asked) || of_first (codes "obix:History") asked) || of_first (codes "obix:AlarmSubject") asked) ≡ true)
      → is_a lib (few_words lib ws) asked ≡ is_a lib ws asked
  few_are asked h =
      apart asked
      ∙ whole_of (of_first (codes "obix:Lobby") asked) (of_first (codes "obix:WritablePoint") asked) (of_first (codes "obix:History") asked) (of_first (codes "obix:AlarmSubject") asked) (is_a lib ws asked)
      (other_is lib asked (codes "obix:Lobby") ws) (other_is lib asked (codes "obix:WritablePoint") ws) (other_is lib asked (codes "obix:History") ws) (other_is lib asked (codes "obix:AlarmSubject") ws) h

  pub few_lobby : is_a lib (few_words lib ws) (codes "obix:Lobby") ≡ is_a lib ws (codes "obix:Lobby")
  few_lobby = few_are (codes "obix:Lobby") (λ e. first_true _ _ _ _ (found_is lib (codes "obix:Lobby") ws ∙ e))

  pub few_point : is_a lib (few_words lib ws) (codes "obix:WritablePoint") ≡ is_a lib ws (codes "obix:WritablePoint")
  few_point = few_are (codes "obix:WritablePoint") (λ e. second_true (of_first (codes "obix:Lobby") (codes "obix:WritablePoint")) _ _ _ (found_is lib (codes "obix:WritablePoint") ws ∙ e))

  pub few_history : is_a lib (few_words lib ws) (codes "obix:History") ≡ is_a lib ws (codes "obix:History")
  few_history = few_are (codes "obix:History") (λ e. third_true (of_first (codes "obix:Lobby") (codes "obix:History")) (of_first (codes "obix:WritablePoint") (codes "obix:History")) _ _ (found_is lib (codes "obix:History") ws ∙ e))

  pub few_subject : is_a lib (few_words lib ws) (codes "obix:AlarmSubject") ≡ is_a lib ws (codes "obix:AlarmSubject")
  few_subject =
      few_are (codes "obix:AlarmSubject")
      (λ e. fourth_true (of_first (codes "obix:Lobby") (codes "obix:AlarmSubject")) (of_first (codes "obix:WritablePoint") (codes "obix:AlarmSubject")) (of_first (codes "obix:History") (codes "obix:AlarmSubject")) _ (found_is lib (codes "obix:AlarmSubject") ws ∙ e))

-- the first that is one, with one word more
next_that : (lib : Contracts) (ws : Words) (w asked : List ℕ) → first_that lib (ws ++ w ∷ []) asked ≡ or_else (first_that lib ws asked) (cond (is_a lib (w ∷ []) asked) (Some w) None)
next_that lib [] w asked = refl
next_that lib (v ∷ ws) w asked = go (is_a lib (v ∷ []) asked) (next_that lib ws w asked)
  where
    go : (b : Bool) → first_that lib (ws ++ w ∷ []) asked ≡ or_else (first_that lib ws asked) (cond (is_a lib (w ∷ []) asked) (Some w) None)
        → cond b (Some v) (first_that lib (ws ++ w ∷ []) asked) ≡ or_else (cond b (Some v) (first_that lib ws asked)) (cond (is_a lib (w ∷ []) asked) (Some w) None)
    go true e = refl
    go false e = e

step : (lib : Contracts) (ws : Words) (w asked : List ℕ) (old new : Option (List ℕ)) (b : Bool) → new ≡ or_else old (cond b (Some w) None) → old ≡ first_that lib ws asked → b ≡ is_a lib (w ∷ []) asked → new ≡ first_that lib (ws ++ w ∷ []) asked
step lib ws w asked old new b put held is =
    put ∙ ap₂ (λ o c. or_else o (cond c (Some w) None)) held is ∙ sym (next_that lib ws w asked)

pub firsts_more : (lib : Contracts) (ws : Words) (w : List ℕ) (f g : Firsts) (a : Ancestors) → option_copied g.lobby ≡ or_else (option_copied f.lobby) (cond a.lobby (Some w) None)
    → option_copied g.point ≡ or_else (option_copied f.point) (cond a.point (Some w) None) → option_copied g.history ≡ or_else (option_copied f.history) (cond a.history (Some w) None)
    → option_copied g.subject ≡ or_else (option_copied f.subject) (cond a.subject (Some w) None) → AreFirst f lib ws → Are a lib (w ∷ []) → AreFirst g lib (ws ++ w ∷ [])
firsts_more lib ws w f g a e1 e2 e3 e4 held is = record {
  lobby = step lib ws w (codes "obix:Lobby") (option_copied f.lobby) (option_copied g.lobby) a.lobby e1 held.lobby is.lobby;
  point = step lib ws w (codes "obix:WritablePoint") (option_copied f.point) (option_copied g.point) a.point e2 held.point is.point;
  history = step lib ws w (codes "obix:History") (option_copied f.history) (option_copied g.history) a.history e3 held.history is.history;
  subject = step lib ws w (codes "obix:AlarmSubject") (option_copied f.subject) (option_copied g.subject) a.subject e4 held.subject is.subject;
}

pub firsts_next : (lib : Contracts) (ws : Words) (i : ℕ) (w : List ℕ) (g : Firsts) → i < length ws → w ≡ get_or ws i w → AreFirst g lib (take i ws ++ w ∷ []) → AreFirst g lib (take (i + 1) ws)
firsts_next lib ws i w g h is held = subst (AreFirst g lib) (sym (take_more ws i w h ∙ ap (λ y. take i ws ++ y ∷ []) (sym is))) held

pub firsts_all : (lib : Contracts) (ws : Words) (i : ℕ) (g : Firsts) → length ws ≤ i → AreFirst g lib (take i ws) → AreFirst g lib ws
firsts_all lib ws i g h held = subst (AreFirst g lib) (take_all i ws h) held

-- few words from the first of each
pub few_put : (lib : Contracts) (ws : Words) (f : Firsts) → AreFirst f lib ws
    → ((present (option_copied f.lobby ∷ []) ++ present (option_copied f.point ∷ [])) ++ present (option_copied f.history ∷ [])) ++ present (option_copied f.subject ∷ []) ≡ few_words lib ws
unfolding few_words
few_put lib ws f held =
    let one : Option (List ℕ) → Words = λ o. present (o ∷ []) in
    ap₂ (λ x y. x ++ y) (ap₂ (λ x y. x ++ y) (ap₂ (λ x y. x ++ y) (ap one held.lobby) (ap one held.point)) (ap one held.history)) (ap one held.subject)
