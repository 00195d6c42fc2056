-- What an object inherits is decided by the contracts that its result names.
use Rattle.std.proofs.Common.{◌≡◌, ℕ, Bool, true, false, ◌||◌, cond, List, [], ◌∷◌, ◌++◌, map, Option, Some, None, refl, sym, ap, ap₂, ◌∙◌, true≢false}
use Rattle.std.specs.Str.{bytes_eq}
use Rattle.std.proofs.lemmas.Slice.Eq.{bytes_eq-Decides}
use Rattle.ob_values.proofs.Bools.{or_first, or_second}
use Rattle.ob_object.specs.declared.head.Head.{Head}
use Rattle.ob_object.specs.Kinds.{is_ref, has_of}
use Rattle.ob_object.specs.Object.{Objects, none, node, Object, listed, in_row, children}
use Rattle.ob_contracts.specs.Adding.{is_among, head_names, row_names, names_word}
use Rattle.ob_contracts.specs.Inherit.{Contracts, Words, words_in, contract_of, present, or_else, only_if, overridden, missing, bare, sources, implied_by, inherited_head, row_results, result_of}
use Rattle.ob_contracts.specs.Renewing.{Agree}
use Rattle.ob_contracts.proofs.Known.{either}

-- a row's words are there where objects follow it
pub row_followed : (w : List ℕ) (r : Objects) (os : List Object) → row_names w r ≡ true → row_names w (in_row (listed r ++ os)) ≡ true
row_followed w none os e = absurd (true≢false (sym e))
row_followed w (node h below rest) os e =
    let here : Bool = head_names w h || row_names w below in
    let after : Bool = row_names w (in_row (listed rest ++ os)) in
    either here (row_names w rest) (here || after) (λ a. or_first here after a) (λ b. or_second here after (row_followed w rest os b)) e

-- the words that a list or a feed gives are among its own
pub implied_among : (w : List ℕ) (b : Bool) (ws : Option Words) → is_among w (words_in (only_if b ws)) ≡ true → is_among w (words_in ws) ≡ true
implied_among w true ws e = e
implied_among w false ws e = absurd (true≢false (sym e))

module _ (lib new : Contracts) where
  pub same_words : (ws : Words) → Agree lib new (λ w. is_among w ws) → map (contract_of new) ws ≡ map (contract_of lib) ws
  same_words [] a = refl
  same_words (w ∷ ws) a =
      ap₂ (λ (x : Option Object) (xs : List (Option Object)). x ∷ xs)
      (a w (or_first (bytes_eq w w) (is_among w ws) ((bytes_eq-Decides w w).1 refl)))
      (same_words ws (λ v e. a v (or_second (bytes_eq w v) (is_among v ws) e)))

  agree_or : (own implied : Option Words) → Agree lib new (λ w. is_among w (words_in own)) → Agree lib new (λ w. is_among w (words_in implied))
      → Agree lib new (λ w. is_among w (words_in (or_else own implied)))
  agree_or None implied a b = b
  agree_or (Some ws) implied a b = a

  same_sources : (h : Head) (implied : Option Words) (over : Option Object) → Agree lib new (λ w. is_among w (words_in h.is)) → Agree lib new (λ w. is_among w (words_in implied))
      → sources new h implied over ≡ sources lib h implied over
  same_sources h implied over a b =
      ap (λ (os : List (Option Object)). present (cond (is_ref h.kind) [] (os ++ over ∷ []))) (same_words (words_in (or_else h.is implied)) (agree_or h.is implied a b))

  -- So where each word of the results of a row, and each that is given to it, names the same contract in both.
  same_rows : (implied : Option Words) (above : List Object) (r : Objects) → Agree lib new (λ w. is_among w (words_in implied)) → Agree lib new (λ w. row_names w (row_results lib implied above r))
      → row_results new implied above r ≡ row_results lib implied above r
  same_rows implied above none a b = refl
  same_rows implied above (node h below rest) a b =
      ap (λ (ss : List Object). whole ss (row_results new (implied_by (inherited_head h ss)) ss below) (row_results new implied above rest))
      (same_sources h implied (overridden h.name above) (λ w e. b w (of_head w (or_first (is_among w (words_in h.is)) (is_among w (words_in made.of)) e))) a)
      ∙ ap₂ (λ (inner after : Objects). whole from inner after)
      (same_rows (implied_by made) from below
      (λ w e. b w (of_head w (or_second (is_among w (words_in h.is)) (is_among w (words_in made.of)) (implied_among w (has_of h.kind) made.of e))))
      (λ w e. b w (of_here w (or_second (head_names w made) (row_names w (in_row all)) (row_followed w within (map bare (missing (listed below) from)) e)))))
      (same_rows implied above rest a (λ w e. b w (or_second (head_names w made || row_names w (in_row all)) (row_names w later) e)))
    where
      from : List Object
      from = sources lib h implied (overridden h.name above)

      made : Head
      made = inherited_head h from

      within : Objects
      within = row_results lib (implied_by made) from below

      later : Objects
      later = row_results lib implied above rest

      all : List Object
      all = listed within ++ map bare (missing (listed below) from)

      whole : List Object → Objects → Objects → Objects
      whole ss inner after = node (inherited_head h ss) (in_row (listed inner ++ map bare (missing (listed below) ss))) after

      of_here : (w : List ℕ) → (head_names w made || row_names w (in_row all)) ≡ true → row_names w (row_results lib implied above (node h below rest)) ≡ true
      of_here w e = or_first (head_names w made || row_names w (in_row all)) (row_names w later) e

      of_head : (w : List ℕ) → head_names w made ≡ true → row_names w (row_results lib implied above (node h below rest)) ≡ true
      of_head w e = of_here w (or_first (head_names w made) (row_names w (in_row all)) e)

  pub same_result : (o : Object) (implied : Option Words) (over : Option Object) → Agree lib new (λ w. is_among w (words_in implied)) → Agree lib new (λ w. names_word w (result_of lib o implied over))
      → result_of new o implied over ≡ result_of lib o implied over
  unfolding result_of
  same_result o implied over a b =
      ap (λ (ss : List Object). whole ss (row_results new (implied_by (inherited_head o.head ss)) ss o.inner))
      (same_sources o.head implied over (λ w e. b w (of_head w (or_first (is_among w (words_in o.head.is)) (is_among w (words_in made.of)) e))) a)
      ∙ ap (whole from)
      (same_rows (implied_by made) from o.inner
      (λ w e. b w (of_head w (or_second (is_among w (words_in o.head.is)) (is_among w (words_in made.of)) (implied_among w (has_of o.head.kind) made.of e))))
      (λ w e. b w (or_second (head_names w made) (row_names w (in_row all)) (row_followed w within (map bare (missing (children o) from)) e))))
    where
      from : List Object
      from = sources lib o.head implied over

      made : Head
      made = inherited_head o.head from

      within : Objects
      within = row_results lib (implied_by made) from o.inner

      all : List Object
      all = listed within ++ map bare (missing (children o) from)

      whole : List Object → Objects → Object
      whole ss inner = record { head = inherited_head o.head ss; inner = in_row (listed inner ++ map bare (missing (children o) ss)) }

      of_head : (w : List ℕ) → head_names w made ≡ true → names_word w (result_of lib o implied over) ≡ true
      of_head w e = or_first (head_names w made) (row_names w (in_row all)) e
