-- Places that are put to a row, and the contracts that are marked by rows.
use Rattle.std.proofs.Common.{◌≡◌, ℕ, zero, suc, ◌+◌, ◌-◌, ◌<◌, ◌≤◌, Bool, true, false, ◌||◌, ◌⊎◌, inl, inr, List, [], ◌∷◌, ◌++◌, drop, length, get_or, Some, None, refl, sym, ap, ◌∙◌, true≢false, subst, arith, add-one}
use Rattle.std.specs.Prelude.{nat_eq, slice_get, replicate}
use Rattle.std.specs.List.{list_any}
use Rattle.std.specs.Str.{bytes_eq}
use Rattle.std.proofs.Math.Seq.{drop-cons}
use Rattle.std.proofs.lemmas.Bool.{eq-eqb, eqb-true}
use Rattle.std.proofs.lemmas.Slice.Eq.{bytes_eq-Decides}
use Rattle.ob_values.proofs.Bools.{or_false, or_first, or_second}
use Rattle.ob_object.specs.declared.head.Head.{Head}
use Rattle.ob_object.specs.Object.{Object, in_row, children, in_row-listed}
use Rattle.ob_contracts.specs.Adding.{is_among, head_names, row_names, names_word}
use Rattle.ob_contracts.specs.Index.{place_of}
use Rattle.ob_contracts.specs.Inherit.{Contracts, Words, words_in}
use Rattle.ob_contracts.specs.Ties.{AreMarked, HasPlaces, KeepsPlaces, has_place, is_marked}
use Rattle.ob_contracts.proofs.Known.{either, step}
use Rattle.ob_contracts.proofs.Names.{row_names-cons}

same_number : (n : ℕ) → nat_eq n n ≡ true
same_number n = eq-eqb n n refl

has_last : (i : ℕ) (row : List ℕ) → has_place i (row ++ i ∷ []) ≡ true
has_last i [] = or_first (nat_eq i i) false (same_number i)
has_last i (x ∷ xs) = or_second (nat_eq i x) (has_place i (xs ++ i ∷ [])) (has_last i xs)

pub keeps_last : (row : List ℕ) (p : ℕ) → KeepsPlaces row (row ++ p ∷ [])
keeps_last [] p i e = absurd (true≢false (sym e))
keeps_last (x ∷ xs) p i e =
    either (nat_eq i x) (has_place i xs) (nat_eq i x || has_place i (xs ++ p ∷ [])) (or_first (nat_eq i x) (has_place i (xs ++ p ∷ [])))
    (λ h. or_second (nat_eq i x) (has_place i (xs ++ p ∷ [])) (keeps_last xs p i h)) e

pub keeps_twice : (first second third : List ℕ) → KeepsPlaces first second → KeepsPlaces second third → KeepsPlaces first third
keeps_twice first second third f g = λ i e. g i (f i e)

module _ (lib : Contracts) where
  -- the place of a word that has one
  pub word_put : (row : List ℕ) (word : List ℕ) (p : ℕ) → place_of word lib ≡ Some p → HasPlaces lib (row ++ p ∷ []) (λ w. is_among w (word ∷ []))
  word_put row word p at = λ w e i there.
      let same : word ≡ w = (bytes_eq-Decides word w).0 (sym (or_false (bytes_eq word w)) ∙ e) in
      let number : Some p ≡ Some i = sym at ∙ ap (λ v. place_of v lib) same ∙ there in
      let is : p ≡ i = cc in
      subst (λ n. has_place i (row ++ n ∷ []) ≡ true) (sym is) (has_last i row)

  pub word_none : (row : List ℕ) (word : List ℕ) → place_of word lib ≡ None → HasPlaces lib row (λ w. is_among w (word ∷ []))
  word_none row word gone = λ w e i there.
      let same : word ≡ w = (bytes_eq-Decides word w).0 (sym (or_false (bytes_eq word w)) ∙ e) in
      let both : None ≡ Some i = sym gone ∙ ap (λ v. place_of v lib) same ∙ there in
      absurd cc

  pub no_words : (row : List ℕ) → HasPlaces lib row (λ w. is_among w [])
  no_words row = λ w e. absurd (true≢false (sym e))

  -- the words of an `is`, and then those of an `of`
  pub head_put : (first second : List ℕ) (h : Head) → KeepsPlaces first second → HasPlaces lib first (λ w. is_among w (words_in h.is)) → HasPlaces lib second (λ w. is_among w (words_in h.of))
      → HasPlaces lib second (λ w. head_names w h)
  head_put first second h keeps is of = λ w e i at.
      either (is_among w (words_in h.is)) (is_among w (words_in h.of)) (has_place i second) (λ b. keeps i (is w b i at)) (λ b. of w b i at) e

  -- the places that are there, and the words from a place on
  abbrev pub WordsLeft : List ℕ → Words → Words → Type 0
  WordsLeft row ws rest = (w : List ℕ) → is_among w ws ≡ true → (i : ℕ) → place_of w lib ≡ Some i → (has_place i row || is_among w rest) ≡ true

  pub words_begun : (row : List ℕ) (ws : Words) → WordsLeft row ws ws
  words_begun row ws = λ w e i at. or_second (has_place i row) (is_among w ws) e

  pub words_next : (before after : List ℕ) (ws : Words) (j : ℕ) (x : List ℕ) → j < length ws → x ≡ get_or ws j x → KeepsPlaces before after → HasPlaces lib after (λ w. is_among w (x ∷ []))
      → WordsLeft before ws (drop j ws) → WordsLeft after ws (drop (j + 1) ws)
  words_next before after ws j x h is keeps has left = λ w e i at.
      step (has_place i before) (has_place i after) (bytes_eq x w) (is_among w (drop (j + 1) ws)) (keeps i) (λ b. has w (or_first (bytes_eq x w) false b) i at)
      (ap (λ l. has_place i before || is_among w l) dropped ∙ left w e i at)
    where
      dropped : x ∷ drop (j + 1) ws ≡ drop j ws
      dropped = sym (drop-cons ws j x h ∙ ap (λ y. y ∷ drop (suc j) ws) (sym is) ∙ rw add-one)

  pub words_none : (row : List ℕ) (ws rest : Words) → rest ≡ [] → WordsLeft row ws rest → HasPlaces lib row (λ w. is_among w ws)
  words_none row ws rest none left = λ w e i at. sym (or_false (has_place i row)) ∙ ap (λ l. has_place i row || is_among w l) (sym none) ∙ left w e i at

  -- and the children from a place on
  abbrev pub ChildrenLeft : List ℕ → Object → List Object → Type 0
  ChildrenLeft row o os = (w : List ℕ) → names_word w o ≡ true → (i : ℕ) → place_of w lib ≡ Some i → (has_place i row || row_names w (in_row os)) ≡ true

  pub children_begun : (row : List ℕ) (o : Object) (h : Head) (os : List Object) → h ≡ o.head → os ≡ children o → HasPlaces lib row (λ w. head_names w h) → ChildrenLeft row o os
  children_begun row o h os is cs has = λ w e i at.
      either (head_names w o.head) (row_names w o.inner) (has_place i row || row_names w (in_row os))
      (λ b. or_first (has_place i row) (row_names w (in_row os)) (has w (ap (head_names w) is ∙ b) i at))
      (λ b. or_second (has_place i row) (row_names w (in_row os)) (ap (λ l. row_names w (in_row l)) cs ∙ ap (row_names w) (in_row-listed o.inner) ∙ b))
      e

  pub children_next : (before after : List ℕ) (o : Object) (os : List Object) (j : ℕ) (x : Object) → j < length os → x ≡ get_or os j x → KeepsPlaces before after → HasPlaces lib after (λ w. names_word w x)
      → ChildrenLeft before o (drop j os) → ChildrenLeft after o (drop (j + 1) os)
  children_next before after o os j x h is keeps has left = λ w e i at.
      step (has_place i before) (has_place i after) (names_word w x) (row_names w (in_row (drop (j + 1) os))) (keeps i) (λ b. has w b i at)
      (ap (λ b. has_place i before || b) (sym (row_names-cons w os j x h is)) ∙ left w e i at)

  pub children_none : (row : List ℕ) (o : Object) (os : List Object) → os ≡ [] → ChildrenLeft row o os → HasPlaces lib row (λ w. names_word w o)
  children_none row o os none left = λ w e i at.
      sym (or_false (has_place i row)) ∙ ap (λ l. has_place i row || row_names w (in_row l)) (sym none) ∙ left w e i at

-- one mark more
pub length_last : {A : Type 0} (xs : List A) (x : A) → length (xs ++ x ∷ []) ≡ length xs + 1
length_last [] x = refl
length_last (y ∷ ys) x = omega (arith, length_last ys x)

pub marked_before : (ms : List Bool) (b : Bool) (i : ℕ) → i < length ms → is_marked i (ms ++ b ∷ []) ≡ is_marked i ms
marked_before [] b i h = absurd (omega (arith, h))
marked_before (m ∷ ms) b zero h = refl
marked_before (m ∷ ms) b (suc i) h = marked_before ms b i (omega (arith, h))

pub marked_last : (ms : List Bool) (b : Bool) (i : ℕ) → i ≡ length ms → is_marked i (ms ++ b ∷ []) ≡ b
marked_last [] b zero e = refl
marked_last [] b (suc i) e = absurd (omega (arith, e))
marked_last (m ∷ ms) b zero e = absurd (omega (arith, e))
marked_last (m ∷ ms) b (suc i) e = marked_last ms b i (omega (arith, e))

row_before : (rows : List (List ℕ)) (row : List ℕ) (j : ℕ) → j < length rows → slice_get (rows ++ row ∷ []) j ≡ slice_get rows j
row_before [] row j h = absurd (omega (arith, h))
row_before (r ∷ rs) row zero h = refl
row_before (r ∷ rs) row (suc j) h = row_before rs row j (omega (arith, h))

row_last : (rows : List (List ℕ)) (row one : List ℕ) (j : ℕ) → length rows ≤ j → slice_get (rows ++ row ∷ []) j ≡ Some one → (j ≡ length rows) × (row ≡ one)
row_last [] row one zero h e = (refl, cc)
row_last [] row one (suc j) h e = absurd cc
row_last (r ∷ rs) row one zero h e = absurd (omega (arith, h))
row_last (r ∷ rs) row one (suc j) h e = let more = row_last rs row one j (omega (arith, h)) e in (omega (arith, more.0), more.1)

grow : (m n : ℕ) → (m < n) ⊎ (m ≡ n) → (suc m < suc n) ⊎ (suc m ≡ suc n)
grow m n (inl f) = inl (omega (arith, f))
grow m n (inr e) = inr (ap suc e)

pub split : (m n : ℕ) → m ≤ n → (m < n) ⊎ (m ≡ n)
split zero zero h = inr refl
split zero (suc n) h = inl (omega arith)
split (suc m) zero h = absurd (omega (arith, h))
split (suc m) (suc n) h = grow m n (split m n (omega (arith, h)))

row_within : (rows : List (List ℕ)) (row one : List ℕ) (j : ℕ) → slice_get (rows ++ row ∷ []) j ≡ Some one → j ≤ length rows
row_within [] row one zero e = omega arith
row_within [] row one (suc j) e = absurd cc
row_within (r ∷ rs) row one zero e = omega arith
row_within (r ∷ rs) row one (suc j) e = omega (arith, row_within rs row one j e)

-- where none of a row is marked, none is that it has
none_marked : (ms : List Bool) (row : List ℕ) → list_any (λ i. is_marked i ms) row ≡ false → (i : ℕ) → has_place i row ≡ true → is_marked i ms ≡ false
none_marked ms [] e i h = absurd (true≢false (sym h))
none_marked ms (x ∷ xs) e i h = go (is_marked x ms) refl e (nat_eq i x) refl h (none_marked ms xs)
  where
    go : (m : Bool) → is_marked x ms ≡ m → (m || list_any (λ k. is_marked k ms) xs) ≡ false → (n : Bool) → nat_eq i x ≡ n → (n || has_place i xs) ≡ true
        → (list_any (λ k. is_marked k ms) xs ≡ false → (k : ℕ) → has_place k xs ≡ true → is_marked k ms ≡ false) → is_marked i ms ≡ false
    go true is f n at g more = absurd (true≢false f)
    go false is f true at g more = ap (λ k. is_marked k ms) (eqb-true i x at) ∙ is
    go false is f false at g more = more f i g

-- before the first row
marks_none : (n i : ℕ) → is_marked i (replicate n false) ≡ false
marks_none zero i = refl
marks_none (suc n) zero = refl
marks_none (suc n) (suc i) = marks_none n i

length_none : (n : ℕ) → length (replicate n false) ≡ n
length_none zero = refl
length_none (suc n) = ap suc (length_none n)

pub marks_begun : (first : ℕ) (written marks : List Bool) → marks ≡ replicate first false → AreMarked first written [] marks
marks_begun first written marks is = record {
  len = omega (arith, ap length is, length_none first);
  before = λ i h. ap (is_marked i) is ∙ marks_none first i;
  itself = λ j within. absurd (omega (arith, within));
  closed = λ j row e. absurd cc;
}

-- and behind one more
pub marks_more : (first : ℕ) (written : List Bool) (rows : List (List ℕ)) (row : List ℕ) (marks : List Bool) (b : Bool) → b ≡ (is_marked (length marks - first) written || list_any (λ i. is_marked i marks) row)
    → AreMarked first written rows marks → AreMarked first written (rows ++ row ∷ []) (marks ++ b ∷ [])
marks_more first written rows row marks b is h = record {
  len = omega (arith, length_last marks b, length_last rows row, h.len);
  before = λ i f. marked_before marks b i (omega (arith, f, h.len)) ∙ h.before i f;
  itself = λ j within is_written. ours j is_written (split j (length rows) (omega (arith, within, length_last rows row)));
  closed = λ j one at unmarked i has f. behind j one at unmarked i has f (split j (length rows) (row_within rows row one j at));
}
  where
    ours : (j : ℕ) → is_marked j written ≡ true → (j < length rows) ⊎ (j ≡ length rows) → is_marked (first + j) (marks ++ b ∷ []) ≡ true
    ours j is_written (inl f) = marked_before marks b (first + j) (omega (arith, f, h.len)) ∙ h.itself j f is_written
    ours j is_written (inr e) =
        let here : length marks - first ≡ j = omega (arith, e, h.len) in
        marked_last marks b (first + j) (omega (arith, e, h.len)) ∙ is
        ∙ or_first (is_marked (length marks - first) written) (list_any (λ i. is_marked i marks) row) (ap (λ n. is_marked n written) here ∙ is_written)

    unmarked_row : b ≡ false → list_any (λ i. is_marked i marks) row ≡ false
    unmarked_row e = second (is_marked (length marks - first) written) (sym is ∙ e)
      where
        second : (a : Bool) → (a || list_any (λ i. is_marked i marks) row) ≡ false → list_any (λ i. is_marked i marks) row ≡ false
        second true f = absurd (true≢false f)
        second false f = f

    behind : (j : ℕ) (one : List ℕ) → slice_get (rows ++ row ∷ []) j ≡ Some one → is_marked (first + j) (marks ++ b ∷ []) ≡ false → (i : ℕ) → has_place i one ≡ true → i < first + j
        → (j < length rows) ⊎ (j ≡ length rows) → is_marked i (marks ++ b ∷ []) ≡ false
    behind j one at unmarked i has f (inl before) =
        marked_before marks b i (omega (arith, f, before, h.len))
        ∙ h.closed j one (sym (row_before rows row j before) ∙ at) (sym (marked_before marks b (first + j) (omega (arith, before, h.len))) ∙ unmarked) i has f
    behind j one at unmarked i has f (inr last) =
        let same : row ≡ one = (row_last rows row one j (omega (arith, last)) at).1 in
        let here : b ≡ false = sym (marked_last marks b (first + j) (omega (arith, last, h.len))) ∙ unmarked in
        marked_before marks b i (omega (arith, f, last, h.len))
        ∙ none_marked marks row (unmarked_row here) i (subst (λ r. has_place i r ≡ true) (sym same) has)
