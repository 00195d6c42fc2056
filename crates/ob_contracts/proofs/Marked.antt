-- Contracts that aren't marked name such alone.
use Rattle.std.proofs.Common.{◌≡◌, ℕ, zero, suc, ◌+◌, ◌<◌, ◌≤◌, Bool, true, false, not, ◌||◌, ◌⊎◌, inl, inr, cond, List, [], ◌∷◌, ◌++◌, map, length, take, drop, Option, Some, None, option_map, refl, sym, ap, ap₂, ◌∙◌, true≢false, subst, arith}
use Rattle.std.specs.Prelude.{find, is_some, slice_get}
use Rattle.std.specs.Str.{bytes_eq}
use Rattle.std.proofs.lemmas.Slice.Eq.{bytes_eq-Decides}
use Rattle.ob_values.proofs.Bools.{or_first, or_second}
use Rattle.ob_object.specs.Kinds.{has_of}
use Rattle.ob_object.specs.Object.{Objects, none, node, Object, children, listed, in_row}
use Rattle.ob_contracts.specs.Adding.{is_among, head_names, row_names, names_word, library_names}
use Rattle.ob_contracts.specs.Index.{place_of}
use Rattle.ob_contracts.specs.Inherit.{Contracts, Words, words_in, contract_of, or_else, only_if, first_given, overridden, missing, bare, sources, implied_by, inherited_head, row_results, result_of}
use Rattle.ob_contracts.specs.Standard.{with_added}
use Rattle.ob_contracts.specs.Renewing.{AreTaken, Closed, MayName, NamesOnly, results, uris}
use Rattle.ob_contracts.specs.Ties.{AreMarked, AreTied, HasPlaces, has_place, is_marked, is_marked_at, is_unmarked}
use Rattle.ob_contracts.proofs.Indexed.{without_place}
use Rattle.ob_contracts.proofs.Known.{either}
use Rattle.ob_contracts.proofs.Renewing.{row_followed}
use Rattle.ob_contracts.proofs.Renewed.{new_word, none_behind, none_by_uris, none_later}
use Rattle.ob_contracts.proofs.RenewedTo.{added_results, added_split, drop_here, length_added, taken_from, uris_results}

-- What an object names itself, its result names.
of_kept : (w : List ℕ) (own other : Option Words) → is_among w (words_in own) ≡ true → is_among w (words_in (or_else own other)) ≡ true
of_kept w None other e = absurd (true≢false (sym e))
of_kept w (Some ws) other e = e

module _ (lib : Contracts) (w : List ℕ) where
  rows_keep : (implied : Option Words) (above : List Object) (r : Objects) → row_names w r ≡ true → row_names w (row_results lib implied above r) ≡ true
  rows_keep implied above none e = e
  rows_keep implied above (node h below rest) e =
      let from = sources lib h implied (overridden h.name above) in
      let made = inherited_head h from in
      let within = row_results lib (implied_by made) from below in
      let all = in_row (listed within ++ map bare (missing (listed below) from)) in
      let after = row_names w (row_results lib implied above rest) in
      let own : head_names w h ≡ true → head_names w made ≡ true = λ b.
      either (is_among w (words_in h.is)) (is_among w (words_in h.of)) (head_names w made)
      (λ c. or_first (is_among w (words_in h.is)) (is_among w (words_in made.of)) c)
      (λ c. or_second (is_among w (words_in h.is)) (is_among w (words_in made.of)) (of_kept w h.of (first_given (λ s. only_if (has_of h.kind) s.head.of) from) c)) b in
      let inside : row_names w below ≡ true → row_names w all ≡ true = λ b. row_followed w within (map bare (missing (listed below) from)) (rows_keep (implied_by made) from below b) in
      either (head_names w h || row_names w below) (row_names w rest) ((head_names w made || row_names w all) || after)
      (λ a. or_first (head_names w made || row_names w all) after
      (either (head_names w h) (row_names w below) (head_names w made || row_names w all)
      (λ b. or_first (head_names w made) (row_names w all) (own b))
      (λ b. or_second (head_names w made) (row_names w all) (inside b))
      a))
      (λ a. or_second (head_names w made || row_names w all) after (rows_keep implied above rest a))
      e

  pub result_keeps : (o : Object) → names_word w o ≡ true → names_word w (result_of lib o None None) ≡ true
  unfolding result_of
  result_keeps o e =
      let from = sources lib o.head None None in
      let made = inherited_head o.head from in
      let within = row_results lib (implied_by made) from o.inner in
      let all = in_row (listed within ++ map bare (missing (children o) from)) in
      either (head_names w o.head) (row_names w o.inner) (head_names w made || row_names w all)
      (λ b. or_first (head_names w made) (row_names w all)
      (either (is_among w (words_in o.head.is)) (is_among w (words_in o.head.of)) (head_names w made)
      (λ c. or_first (is_among w (words_in o.head.is)) (is_among w (words_in made.of)) c)
      (λ c. or_second (is_among w (words_in o.head.is)) (is_among w (words_in made.of)) (of_kept w o.head.of (first_given (λ s. only_if (has_of o.head.kind) s.head.of) from) c)) b))
      (λ b. or_second (head_names w made) (row_names w all) (row_followed w within (map bare (missing (children o) from)) (rows_keep (implied_by made) from o.inner b)))
      e

-- places of words
pub place_by_uris : (was now : Contracts) → uris was ≡ uris now → (w : List ℕ) → place_of w was ≡ place_of w now
place_by_uris [] [] e w = refl
place_by_uris [] (b ∷ now) e w = absurd cc
place_by_uris (a ∷ was) [] e w = absurd cc
place_by_uris (a ∷ was) (b ∷ now) e w =
    let first : a.0 ≡ b.0 = cc in
    let rest : uris was ≡ uris now = cc in
    ap₂ (λ (v : List ℕ) (o : Option ℕ). cond (bytes_eq v w) (Some 0) (option_map suc o)) first (place_by_uris was now rest w)

suc_of : (o : Option ℕ) (i : ℕ) → option_map suc o ≡ Some (suc i) → o ≡ Some i
suc_of None i e = absurd cc
suc_of (Some k) i e = cc

no_zero : (o : Option ℕ) → option_map suc o ≡ Some 0 → ⊥
no_zero None e = cc
no_zero (Some k) e = cc

-- a word that none behind has stands before them
before_them : (first behind : Contracts) (w : List ℕ) (i : ℕ) → place_of w (first ++ behind) ≡ Some i → contract_of behind w ≡ None → i < length first
before_them [] behind w i at gone =
    let nowhere : place_of w behind ≡ None = without_place w behind (ap is_some gone) in
    let both : None ≡ Some i = sym nowhere ∙ at in
    absurd cc
before_them (c ∷ cs) behind w zero at gone = omega arith
before_them (c ∷ cs) behind w (suc i) at gone = go (bytes_eq c.0 w) at (before_them cs behind w i)
  where
    go : (b : Bool) → cond b (Some 0) (option_map suc (place_of w (cs ++ behind))) ≡ Some (suc i) → (place_of w (cs ++ behind) ≡ Some i → contract_of behind w ≡ None → i < length cs) → suc i < length (c ∷ cs)
    go true e more = absurd cc
    go false e more = omega (arith, more (suc_of (place_of w (cs ++ behind)) i e) gone)

-- and one that those before haven't, at their end
at_end : (first rest : Contracts) (u : List ℕ) (o : Object) → is_some (contract_of first u) ≡ false → place_of u (first ++ (u, o) ∷ rest) ≡ Some (length first)
at_end [] rest u o e = ap (λ (b : Bool). cond b (Some 0) (option_map suc (place_of u rest))) ((bytes_eq-Decides u u).1 refl)
at_end (c ∷ cs) rest u o e = go (bytes_eq c.0 u) e (at_end cs rest u o)
  where
    go : (b : Bool) → is_some (option_map (λ (x : List ℕ × Object). x.1) (cond b (Some c) (find (λ x. bytes_eq x.0 u) cs))) ≡ false
        → (is_some (contract_of cs u) ≡ false → place_of u (cs ++ (u, o) ∷ rest) ≡ Some (length cs))
        → cond b (Some 0) (option_map suc (place_of u (cs ++ (u, o) ∷ rest))) ≡ Some (suc (length cs))
    go true h more = absurd (true≢false h)
    go false h more = ap (option_map suc) (more h)

-- a contract of a library is named there
named_there : (lib : Contracts) (v : List ℕ) (good : List ℕ → Bool) → ((w : List ℕ) → library_names w lib ≡ true → good w ≡ true) → MayName good (contract_of lib v)
named_there [] v good h = tt
named_there (c ∷ cs) v good h =
    elim (bytes_eq c.0 v) as (λ b. MayName good (option_map (λ (x : List ℕ × Object). x.1) (cond b (Some c) (find (λ x. bytes_eq x.0 v) cs)))) [
      | true ↦ λ w e. h w (or_first (names_word w c.1) (library_names w cs) e)
      | false ↦ named_there cs v good (λ w e. h w (or_second (names_word w c.1) (library_names w cs) e))
    ]

module _ (base own lib : Contracts) (marks : List Bool) (taken : AreTaken base own) (words : uris lib ≡ uris (with_added base own)) where
  place_here : (w : List ℕ) → place_of w lib ≡ place_of w (with_added base own)
  place_here w = place_by_uris lib (with_added base own) words w

  good_at : (o : Option ℕ) → ((i : ℕ) → o ≡ Some i → is_marked i marks ≡ false) → not (is_marked_at o marks) ≡ true
  good_at None h = refl
  good_at (Some i) h = ap not (h i refl)

  -- those that were there before name no marked one
  pub base_closed : ((i : ℕ) → i < length base → is_marked i marks ≡ false) → Closed (is_unmarked lib marks) base
  base_closed before = λ v g.
      named_there base v (is_unmarked lib marks) (λ w e.
      good_at (place_of w lib) (λ i at.
      before i (before_them base (results base own) w i
      (sym (ap (place_of w) (added_results base own)) ∙ sym (place_here w) ∙ at)
      (none_by_uris own (results base own) (sym (uris_results base own)) w (none_later base own taken w e)))))

  module _ (first : ℕ) (written : List Bool) (j : ℕ) (rows : List (List ℕ)) (row : List ℕ) (c : List ℕ × Object) (m : AreMarked first written rows marks) (len : first ≡ length base) (at_row : slice_get rows j ≡ Some row)
      (at_own : slice_get own j ≡ Some c) (has : HasPlaces lib row (λ w. names_word w c.1)) (within : j ≤ length own) where
    abbrev made : Contracts
    made = with_added base (take j own)

    abbrev behind : Contracts
    behind = results made (drop j own)

    both : with_added base own ≡ made ++ behind
    both = added_split base own j ∙ added_results made (drop j own)

    those : AreTaken made (c ∷ drop (suc j) own)
    those = subst (AreTaken made) (drop_here own j c at_own) (taken_from base own j taken)

    -- a contract stands at its place
    pub here : place_of c.0 lib ≡ Some (first + j)
    here =
        place_here c.0
        ∙ ap (place_of c.0) (both ∙ ap (λ (l : Contracts). made ++ results made l) (drop_here own j c at_own))
        ∙ at_end made (results (made ++ (c.0, result_of made c.1 None None) ∷ []) (drop (suc j) own)) c.0 (result_of made c.1 None None) (new_word made _ c.0 c.1 those.0)
        ∙ ap (λ (n : ℕ). Some n) (length_added base own j within ∙ ap (λ (n : ℕ). n + j) (sym len))

    -- and one that isn't marked names none that is
    pub names_unmarked : is_marked (first + j) marks ≡ false → NamesOnly (is_unmarked lib marks) c.1
    names_unmarked unmarked = λ w e.
        good_at (place_of w lib) (λ i at.
        m.closed j row at_row unmarked i (has w e i at)
        (omega (
          arith,
          len,
          length_added base own j within,
          before_them made behind w i (sym (ap (place_of w) both) ∙ sym (place_here w) ∙ at)
              (none_by_uris (drop j own) behind (sym (uris_results made (drop j own))) w
              (ap (λ (l : Contracts). contract_of l w) (drop_here own j c at_own)
              ∙ none_behind made (drop (suc j) own) c those w (result_keeps made w c.1 e))),
        )))
