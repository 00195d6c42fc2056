-- What an object with all that it inherits names, it names itself, or its sources do.
use Rattle.std.proofs.Common.{◌≡◌, ℕ, Bool, true, false, not, ◌||◌, cond, List, [], ◌∷◌, ◌++◌, map, filter, Option, Some, None, refl, sym, ap, ◌∙◌, true≢false, subst}
use Rattle.std.specs.Prelude.{find, option_map, String}
use Rattle.std.specs.Str.{bytes_eq}
use Rattle.std.proofs.lemmas.Slice.Eq.{bytes_eq-Decides}
use Rattle.std.specs.BTreeSet.{BTreeSet, contains_text}
use Rattle.ob_object.specs.declared.head.Head.{Head}
use Rattle.ob_object.specs.Kinds.{is_ref, has_of}
use Rattle.ob_object.specs.Object.{Objects, none, node, Object, listed, in_row, children}
use Rattle.ob_object.specs.WellFormed.{has_name, named}
use Rattle.ob_contracts.specs.Adding.{is_among, head_names, row_names, names_word, library_names}
use Rattle.ob_contracts.specs.Inherit.{Contracts, Words, words_in, contract_of, present, or_else, only_if, first_given, overridden, is_new, missing, bare, bare_row, sources, implied_by, inherited_head, row_results, result_of}
use Rattle.ob_contracts.specs.Renewing.{Closed, MayName, NamesOnly}
use Rattle.ob_contracts.specs.Named.{HasAll, KeepsKnown, HasNamed}
use Rattle.ob_values.proofs.Bools.{or_first, or_second}
use Rattle.ob_contracts.proofs.Known.{either}

module _ (good : List ℕ → Bool) where
  abbrev WordsGood : Option Words → Type 0
  WordsGood ws = (w : List ℕ) → is_among w (words_in ws) ≡ true → good w ≡ true

  abbrev HeadGood : Head → Type 0
  HeadGood h = (w : List ℕ) → head_names w h ≡ true → good w ≡ true

  abbrev RowGood : Objects → Type 0
  RowGood r = (w : List ℕ) → row_names w r ≡ true → good w ≡ true

  abbrev AllName : List Object → Type 0
  AllName [] = Unit {0}
  AllName (o ∷ os) = NamesOnly good o × AllName os

  abbrev AllMayName : List (Option Object) → Type 0
  AllMayName [] = Unit {0}
  AllMayName (o ∷ os) = MayName good o × AllMayName os

  row_name : (r : Objects) → RowGood r → AllName (listed r)
  row_name none t = tt
  row_name (node h below rest) t =
      (λ w e. t w (or_first (head_names w h || row_names w below) (row_names w rest) e), row_name rest (λ w e. t w (or_second (head_names w h || row_names w below) (row_names w rest) e)))

  in_row_names : (os : List Object) → AllName os → RowGood (in_row os)
  in_row_names [] t w e = absurd (true≢false (sym e))
  in_row_names (o ∷ os) t w e = either (names_word w o) (row_names w (in_row os)) (good w) (t.0 w) (in_row_names os t.1 w) e

  all_append : (os ps : List Object) → AllName os → AllName ps → AllName (os ++ ps)
  all_append [] ps t u = u
  all_append (o ∷ os) ps t u = (t.0, all_append os ps t.1 u)

  children_name : (o : Object) → NamesOnly good o → AllName (children o)
  children_name o t = row_name o.inner (λ w e. t w (or_second (head_names w o.head) (row_names w o.inner) e))

  found_names : (f : Object → Bool) (os : List Object) → AllName os → MayName good (find f os)
  found_names f [] t = tt
  found_names f (o ∷ os) t = elim (f o) as (λ b. MayName good (cond b (Some o) (find f os))) [ true ↦ t.0 | false ↦ found_names f os t.1 ]

  contracts_name : (lib : Contracts) (words : Words) (over : Option Object) → Closed good lib → WordsGood (Some words) → MayName good over → AllMayName (map (contract_of lib) words ++ over ∷ [])
  contracts_name lib [] over t ws u = (u, tt)
  contracts_name lib (word ∷ words) over t ws u = (
    t word (ws word (or_first (bytes_eq word word) (is_among word words) ((bytes_eq-Decides word word).1 refl))),
    contracts_name lib words over t (λ w e. ws w (or_second (bytes_eq word w) (is_among w words) e)) u,
  )

  present_name : (os : List (Option Object)) → AllMayName os → AllName (present os)
  present_name [] t = tt
  present_name (None ∷ os) t = present_name os t.1
  present_name (Some o ∷ os) t = (t.0, present_name os t.1)

  words_or : (ws vs : Option Words) → WordsGood ws → WordsGood vs → WordsGood (or_else ws vs)
  words_or None vs t u = u
  words_or (Some ws) vs t u = t

  sources_name : (lib : Contracts) (h : Head) (implied : Option Words) (over : Option Object) → Closed good lib → WordsGood h.is → WordsGood implied → MayName good over → AllName (sources lib h implied over)
  sources_name lib h implied over t own given u =
      elim (is_ref h.kind) as (λ b. AllName (present (cond b [] (map (contract_of lib) (words_in (or_else h.is implied)) ++ over ∷ [])))) [
        | true ↦ tt
        | false ↦ present_name _ (contracts_name lib (words_in (or_else h.is implied)) over t (words_or h.is implied own given) u)
      ]

  words_if : (b : Bool) (ws : Option Words) → WordsGood ws → WordsGood (only_if b ws)
  words_if true ws t = t
  words_if false ws t = λ w e. absurd (true≢false (sym e))

  given_name : (b : Bool) (ss : List Object) → AllName ss → WordsGood (first_given (λ s. only_if b s.head.of) ss)
  given_name b [] t = λ w e. absurd (true≢false (sym e))
  given_name b (s ∷ ss) t =
      words_or (only_if b s.head.of) (first_given (λ x. only_if b x.head.of) ss)
      (words_if b s.head.of (λ w e. t.0 w (or_first (head_names w s.head) (row_names w s.inner) (or_second (is_among w (words_in s.head.is)) (is_among w (words_in s.head.of)) e))))
      (given_name b ss t.1)

  own_is : (h : Head) → HeadGood h → WordsGood h.is
  own_is h t w e = t w (or_first (is_among w (words_in h.is)) (is_among w (words_in h.of)) e)

  own_of : (h : Head) → HeadGood h → WordsGood h.of
  own_of h t w e = t w (or_second (is_among w (words_in h.is)) (is_among w (words_in h.of)) e)

  head_name : (h : Head) (ss : List Object) → HeadGood h → AllName ss → HeadGood (inherited_head h ss)
  head_name h ss t u w e =
      either (is_among w (words_in h.is)) (is_among w (words_in (or_else h.of (first_given (λ s. only_if (has_of h.kind) s.head.of) ss)))) (good w)
      (own_is h t w)
      (words_or h.of (first_given (λ s. only_if (has_of h.kind) s.head.of) ss) (own_of h t) (given_name (has_of h.kind) ss u) w)
      e

  may_or : (o p : Option Object) → MayName good o → MayName good p → MayName good (or_else o p)
  may_or None p t u = u
  may_or (Some o) p t u = t

  over_names : (name : Option (List ℕ)) (ss : List Object) → AllName ss → MayName good (overridden name ss)
  over_names None ss t = tt
  over_names (Some n) [] t = tt
  over_names (Some n) (s ∷ ss) t =
      may_or (named n (children s)) (first_given (λ x. named n (children x)) ss) (found_names (λ o. has_name n o.head.name) (children s) (children_name s t.0)) (over_names (Some n) ss t.1)

  filter_names : (f : Object → Bool) (os : List Object) → AllName os → AllName (filter f os)
  filter_names f [] t = tt
  filter_names f (o ∷ os) t = elim (f o) as (λ b. AllName (cond b (o ∷ filter f os) (filter f os))) [ true ↦ (t.0, filter_names f os t.1) | false ↦ filter_names f os t.1 ]

  missing_name : (there ss : List Object) → AllName ss → AllName (missing there ss)
  missing_name there [] t = tt
  missing_name there (s ∷ ss) t =
      all_append _ _ (filter_names (is_new there) (children s) (children_name s t.0)) (missing_name (there ++ children s) ss t.1)

  bare_names : (w : List ℕ) (r : Objects) → row_names w (bare_row r) ≡ row_names w r
  bare_names w none = refl
  bare_names w (node h below rest) = rw (bare_names w below, bare_names w rest)

  bare_name : (os : List Object) → AllName os → AllName (map bare os)
  bare_name [] t = tt
  bare_name (o ∷ os) t = (λ w e. t.0 w (ap (λ b. head_names w o.head || b) (sym (bare_names w o.inner)) ∙ e), bare_name os t.1)

  rows_name : (lib : Contracts) (implied : Option Words) (above : List Object) (r : Objects) → Closed good lib → WordsGood implied → AllName above → RowGood r
      → RowGood (row_results lib implied above r)
  rows_name lib implied above none l i a t = t
  rows_name lib implied above (node h below rest) l i a t =
      let from = sources lib h implied (overridden h.name above) in
      let own : HeadGood h = λ w e. t w (or_first (head_names w h || row_names w below) (row_names w rest) (or_first (head_names w h) (row_names w below) e)) in
      let inside : RowGood below = λ w e. t w (or_first (head_names w h || row_names w below) (row_names w rest) (or_second (head_names w h) (row_names w below) e)) in
      let fromname = sources_name lib h implied (overridden h.name above) l (own_is h own) i (over_names h.name above a) in
      let made : HeadGood (inherited_head h from) = head_name h from own fromname in
      let within = row_results lib (implied_by (inherited_head h from)) from below in
      let all : RowGood (in_row (listed within ++ map bare (missing (listed below) from))) =
      in_row_names (listed within ++ map bare (missing (listed below) from))
      (all_append _ _ (row_name within (rows_name lib (implied_by (inherited_head h from)) from below l (words_if (has_of h.kind) (inherited_head h from).of (own_of (inherited_head h from) made)) fromname inside))
      (bare_name _ (missing_name (listed below) from fromname))) in
      let after : RowGood (row_results lib implied above rest) = rows_name lib implied above rest l i a (λ w e. t w (or_second (head_names w h || row_names w below) (row_names w rest) e)) in
      λ w e.
      either (head_names w (inherited_head h from) || row_names w (in_row (listed within ++ map bare (missing (listed below) from)))) (row_names w (row_results lib implied above rest)) (good w)
      (either (head_names w (inherited_head h from)) (row_names w (in_row (listed within ++ map bare (missing (listed below) from)))) (good w) (made w) (all w))
      (after w)
      e

  pub result_names : (lib : Contracts) (o : Object) → Closed good lib → NamesOnly good o → NamesOnly good (result_of lib o None None)
  unfolding result_of
  result_names lib o l t =
      let from = sources lib o.head None None in
      let own : HeadGood o.head = λ w e. t w (or_first (head_names w o.head) (row_names w o.inner) e) in
      let fromname = sources_name lib o.head None None l (own_is o.head own) (λ w e. absurd (true≢false (sym e))) tt in
      let made : HeadGood (inherited_head o.head from) = head_name o.head from own fromname in
      let within = row_results lib (implied_by (inherited_head o.head from)) from o.inner in
      let all : RowGood (in_row (listed within ++ map bare (missing (children o) from))) =
      in_row_names (listed within ++ map bare (missing (children o) from))
      (all_append _ _ (row_name within (rows_name lib (implied_by (inherited_head o.head from)) from o.inner l (words_if (has_of o.head.kind) (inherited_head o.head from).of (own_of (inherited_head o.head from) made)) fromname (λ w e. t w (or_second (head_names w o.head) (row_names w o.inner) e))))
      (bare_name _ (missing_name (children o) from fromname))) in
      λ w e. either (head_names w (inherited_head o.head from)) (row_names w (in_row (listed within ++ map bare (missing (children o) from)))) (good w) (made w) (all w) e

module _ (w : List ℕ) (k : Bool) where
  -- a word is another one, or k
  abbrev other : List ℕ → Bool
  other v = not (bytes_eq v w) || k

  abbrev pub Tells : Object → Type 0
  Tells o = names_word w o ≡ true → k ≡ true

  by_word : (o : Object) → Tells o → NamesOnly other o
  by_word o t v e = go (bytes_eq v w) refl
    where
      go : (b : Bool) → bytes_eq v w ≡ b → (not b || k) ≡ true
      go false is = refl
      go true is = t (subst (λ (x : List ℕ). names_word x o ≡ true) ((bytes_eq-Decides v w).0 is) e)

  contract_tells : (lib : Contracts) (word : List ℕ) → (library_names w lib ≡ true → k ≡ true) → MayName other (contract_of lib word)
  contract_tells [] word t = tt
  contract_tells (c ∷ lib) word t =
      elim (bytes_eq c.0 word) as (λ b. MayName other (option_map (λ (d : List ℕ × Object). d.1) (cond b (Some c) (find (λ (d : List ℕ × Object). bytes_eq d.0 word) lib)))) [
        | true ↦ by_word c.1 (λ e. t (or_first (names_word w c.1) (library_names w lib) e))
        | false ↦ contract_tells lib word (λ e. t (or_second (names_word w c.1) (library_names w lib) e))
      ]

  pub result_tells : (lib : Contracts) (o : Object) → (library_names w lib ≡ true → k ≡ true) → Tells o → Tells (result_of lib o None None)
  result_tells lib o l t e = itself (result_names other lib o (λ v g. contract_tells lib v l) (by_word o t) w e)
    where
      itself : other w ≡ true → k ≡ true
      itself h = sym (ap (λ b. not b || k) ((bytes_eq-Decides w w).1 refl)) ∙ h

-- Where the words of a contract are put to those that a library names, so are those of all that it inherits.
pub result_known : {Y : Type 0} (before after : BTreeSet (String Y)) (lib : Contracts) (o : Object) → KeepsKnown before after → HasNamed before lib → HasAll after (λ word. names_word word o)
    → HasAll after (λ word. names_word word (result_of lib o None None))
result_known before after lib o keeps held all = λ word named. result_tells word (contains_text after word) lib o (λ e. keeps word (held word e)) (all word) named
