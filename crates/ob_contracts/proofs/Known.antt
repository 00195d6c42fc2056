-- Words that are put to those that are known.
use Rattle.std.proofs.Common.{◌≡◌, ℕ, ◌+◌, ◌<◌, Bool, true, false, ◌||◌, List, [], ◌∷◌, ◌++◌, drop, length, get_or, refl, sym, ap, ◌∙◌}
use Rattle.std.specs.Prelude.{String}
use Rattle.std.proofs.lemmas.Bool.Decides.{same_from_decides}
use Rattle.std.specs.Str.{bytes_eq}
use Rattle.std.specs.BTreeSet.{BTreeSet, contains_text}
use Rattle.std.proofs.lemmas.Slice.Eq.{bytes_eq-Decides}
use Rattle.ob_values.proofs.Bools.{or_first, or_second}
use Rattle.ob_object.specs.declared.head.Head.{Head}
use Rattle.ob_object.specs.Object.{Object, in_row, children, in_row-listed}
use Rattle.ob_contracts.specs.Inherit.{Contracts, words_in}
use Rattle.ob_contracts.specs.Adding.{is_among, head_names, row_names, names_word, library_names}
use Rattle.ob_contracts.specs.Named.{HasAll, KeepsKnown, HasNamed}
use Rattle.ob_contracts.proofs.Names.{row_names-cons}

pub either : (a b c : Bool) → (a ≡ true → c ≡ true) → (b ≡ true → c ≡ true) → (a || b) ≡ true → c ≡ true
either true b c f g h = f refl
either false b c f g h = g h

same_or : (m e : Bool) → (e ≡ true → m ≡ true) → m ≡ (m || (e || false))
same_or true e h = refl
same_or false true h = h refl
same_or false false h = refl

pub step : (before after here rest : Bool) → (before ≡ true → after ≡ true) → (here ≡ true → after ≡ true) → (before || (here || rest)) ≡ true → (after || rest) ≡ true
step true after here rest f g h = or_first after rest (f refl)
step false after true rest f g h = or_first after rest (g refl)
step false after false rest f g h = or_second after rest h

regroup : (a b c : Bool) → ((a || (b || false)) || c) ≡ (a || (b || c))
regroup true b c = refl
regroup false true c = refl
regroup false false c = refl

turned_eq : (xs ys : List ℕ) → bytes_eq xs ys ≡ bytes_eq ys xs
turned_eq xs ys = same_from_decides (bytes_eq xs ys) (bytes_eq ys xs) (bytes_eq-Decides xs ys) (λ e. sym ((bytes_eq-Decides ys xs).0 e), λ e. (bytes_eq-Decides ys xs).1 (sym e))

module _ {Y : Type 0} where
  -- a word that is known is known
  pub there_already : (known : BTreeSet (String Y)) (word asked : List ℕ) → contains_text known word ≡ true → contains_text known asked ≡ (contains_text known asked || is_among asked (word ∷ []))
  there_already known word asked h =
      same_or (contains_text known asked) (bytes_eq word asked) (λ e. ap (contains_text known) (sym ((bytes_eq-Decides word asked).0 e)) ∙ h)

  -- where some words more are known, none is lost
  pub kept_by : (before after : BTreeSet (String Y)) (more : List ℕ → Bool) → ((asked : List ℕ) → contains_text after asked ≡ (contains_text before asked || more asked)) → KeepsKnown before after
  kept_by before after more is = λ word h. is word ∙ or_first (contains_text before word) (more word) h

  pub kept_twice : (first second third : BTreeSet (String Y)) → KeepsKnown first second → KeepsKnown second third → KeepsKnown first third
  kept_twice first second third f g = λ word h. g word (f word h)

  -- the words of an `is`, and then those of an `of`
  pub head_known : (first second : BTreeSet (String Y)) (h : Head) → KeepsKnown first second
      → HasAll first (λ word. is_among word (words_in h.is)) → HasAll second (λ word. is_among word (words_in h.of)) → HasAll second (λ word. head_names word h)
  head_known first second h keeps is of = λ word named.
      either (is_among word (words_in h.is)) (is_among word (words_in h.of)) (contains_text second word) (λ e. keeps word (is word e)) (of word) named

  -- what is known, and what the children from a place on name
  abbrev pub IsLeft : BTreeSet (String Y) → Object → List Object → Type 0
  IsLeft known o os = (word : List ℕ) → names_word word o ≡ true → (contains_text known word || row_names word (in_row os)) ≡ true

  pub left_begun : (known : BTreeSet (String Y)) (o : Object) (h : Head) (os : List Object) → h ≡ o.head → os ≡ children o → HasAll known (λ word. head_names word h) → IsLeft known o os
  left_begun known o h os is cs all = λ word named.
      either (head_names word o.head) (row_names word o.inner) (contains_text known word || row_names word (in_row os))
      (λ e. or_first (contains_text known word) (row_names word (in_row os)) (all word (ap (head_names word) is ∙ e)))
      (λ e. or_second (contains_text known word) (row_names word (in_row os)) (ap (λ l. row_names word (in_row l)) cs ∙ ap (row_names word) (in_row-listed o.inner) ∙ e))
      named

  pub left_next : (before after : BTreeSet (String Y)) (o : Object) (os : List Object) (i : ℕ) (x : Object) → i < length os → x ≡ get_or os i x → KeepsKnown before after → HasAll after (λ word. names_word word x)
      → IsLeft before o (drop i os) → IsLeft after o (drop (i + 1) os)
  left_next before after o os i x h is keeps all left = λ word named.
      step (contains_text before word) (contains_text after word) (names_word word x) (row_names word (in_row (drop (i + 1) os))) (keeps word) (all word)
      (ap (λ b. contains_text before word || b) (sym (row_names-cons word os i x h is)) ∙ left word named)

  pub left_none : (known : BTreeSet (String Y)) (o : Object) (os : List Object) → os ≡ [] → IsLeft known o os → HasAll known (λ word. names_word word o)
  left_none known o os none left = λ word named.
      sym (or_nothing (contains_text known word))
      ∙ ap (λ l. contains_text known word || row_names word (in_row l)) (sym none)
      ∙ left word named
    where
      or_nothing : (a : Bool) → (a || false) ≡ a
      or_nothing true = refl
      or_nothing false = refl

  -- what a library with one contract more names is known
  pub library_known : (before after : BTreeSet (String Y)) (cs new : Contracts) (c : List ℕ × Object) → new ≡ cs ++ c ∷ [] → KeepsKnown before after → HasAll after (λ word. names_word word c.1) → HasNamed before cs → HasNamed after new
  library_known before after cs new c is keeps all held = λ word named.
      either (library_names word cs) (names_word word c.1) (contains_text after word) (λ e. keeps word (held word e)) (all word)
      (sym (named_more word cs c) ∙ ap (library_names word) (sym is) ∙ named)
    where
      or_nothing : (a : Bool) → (a || false) ≡ a
      or_nothing true = refl
      or_nothing false = refl

      or_joined : (a b c : Bool) → (a || (b || c)) ≡ ((a || b) || c)
      or_joined true b c = refl
      or_joined false b c = refl

      named_more : (word : List ℕ) (cs : Contracts) (c : List ℕ × Object) → library_names word (cs ++ c ∷ []) ≡ (library_names word cs || names_word word c.1)
      named_more word [] c = or_nothing (names_word word c.1)
      named_more word (d ∷ cs) c =
          ap (λ b. names_word word d.1 || b) (named_more word cs c) ∙ or_joined (names_word word d.1) (library_names word cs) (names_word word c.1)
