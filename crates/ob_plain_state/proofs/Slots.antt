-- Whether contracts are taken doesn't depend on the values in them.
use Rattle.std.proofs.Common.{◌≡◌, ℤ, ◌+◌, Bool, true, false, not, ◌&&◌, ◌||◌, cond, List, [], ◌∷◌, ◌++◌, map, filter, Option, Some, None, option_map, refl, sym, ap, ◌∙◌}
use Rattle.std.specs.Prelude.{is_some, find, filter_map, unwrap_or, nat_lt, codes, Result, Ok, Err}
use Rattle.std.specs.List.{cons_option}
use Rattle.std.specs.Str.{bytes_eq}
use Rattle.std.proofs.lemmas.List.{map-append}
use Rattle.ob_values.specs.declared.value.Value.{Value}
use Rattle.ob_object.specs.declared.status.Status.{Status}
use Rattle.ob_object.specs.declared.head.Head.{Head}
use Rattle.ob_object.specs.declared.head.Slot.TheVariants.{Absent}
use Rattle.ob_object.specs.Kinds.{is_ref, has_of}
use Rattle.ob_object.specs.Object.{Object, Objects, none, node, listed, in_row, children, count, parts}
use Rattle.ob_object.specs.WellFormed.{named}
use Rattle.ob_object.specs.Paths.{node_path}
use Rattle.ob_contracts.specs.Inherit.{Contracts, Words, contract_of, or_else, words_in, present, places, sources, first_given, only_if, inherited_head, overridden, implied_by, bare, bare_row, is_new, missing, row_results, result_of}
use Rattle.ob_contracts.specs.Adding.{head_names, row_names, names_word, library_names, added}
use Rattle.ob_contracts.specs.declared.adding.LibFault.{LibFault}
use Rattle.ob_contracts.specs.declared.adding.LibFault.TheVariants.{Twice, Later, Large}
use Rattle.ob_contracts.proofs.Children.{named-map}
use Rattle.ob_site_rules.specs.Build.{Path, child}
use Rattle.ob_site_rules.specs.Writes.{site_contracts}
use Rattle.ob_contracts.specs.Renewing.{AreTaken}
use Rattle.ob_plain_state.proofs.Keeping.{names_of, taken_among, taken-among}

-- objects without their slots
abbrev pub unslotted_row : Objects → Objects
unslotted_row none = none
unslotted_row (node h inner rest) = node (record h { slot = Absent }) (unslotted_row inner) (unslotted_row rest)

abbrev pub unslotted : Object → Object
unslotted o = record { head = record o.head { slot = Absent }; inner = unslotted_row o.inner }

abbrev off : Head → Head
off h = record h { slot = Absent }

listed-off : (r : Objects) → listed (unslotted_row r) ≡ map unslotted (listed r)
listed-off none = refl
listed-off (node h below rest) = ap (λ l. unslotted (record { head = h; inner = below }) ∷ l) (listed-off rest)

in_row-off : (os : List Object) → unslotted_row (in_row os) ≡ in_row (map unslotted os)
in_row-off [] = refl
in_row-off (o ∷ os) = ap (λ r. node (off o.head) (unslotted_row o.inner) r) (in_row-off os)

pub or_map : {A B : Type 0} (f : A → B) (a b : Option A) → or_else (option_map f a) (option_map f b) ≡ option_map f (or_else a b)
or_map f None b = refl
or_map f (Some x) b = refl

first-map : {A : Type 0} (g : Object → Option A) (ss : List Object) → first_given g (map unslotted ss) ≡ first_given (λ s. g (unslotted s)) ss
first-map g [] = refl
first-map g (s ∷ ss) = ap (or_else (g (unslotted s))) (first-map g ss)

first_child : (n : Path) (ss : List Object) → first_given (λ s. named n (children s)) (map unslotted ss) ≡ option_map unslotted (first_given (λ s. named n (children s)) ss)
first_child n [] = refl
first_child n (s ∷ ss) =
    ap (λ o. or_else o (first_given (λ s. named n (children s)) (map unslotted ss))) (ap (named n) (listed-off s.inner) ∙ named-map unslotted (λ o. refl) n (children s))
    ∙ ap (or_else (option_map unslotted (named n (children s)))) (first_child n ss)
    ∙ or_map unslotted (named n (children s)) (first_given (λ s. named n (children s)) ss)

overridden-off : (name : Option Path) (ss : List Object) → overridden name (map unslotted ss) ≡ option_map unslotted (overridden name ss)
overridden-off None ss = refl
overridden-off (Some n) ss = first_child n ss

-- contracts without their slots
abbrev pub lib_off : Contracts → Contracts
lib_off lib = map (λ c. (c.0, unslotted c.1)) lib

contract-off : (lib : Contracts) (w : Path) → contract_of (lib_off lib) w ≡ option_map unslotted (contract_of lib w)
contract-off [] w = refl
contract-off (c ∷ cs) w = pick (bytes_eq c.0 w) (contract-off cs w)
  where
    pick : (b : Bool) → contract_of (lib_off cs) w ≡ option_map unslotted (contract_of cs w)
        → option_map (λ x. x.1) (cond b (Some (c.0, unslotted c.1)) (find (λ x. bytes_eq x.0 w) (lib_off cs))) ≡ option_map unslotted (option_map (λ x. x.1) (cond b (Some c) (find (λ x. bytes_eq x.0 w) cs)))
    pick true e = refl
    pick false e = e

contracts-off : (lib : Contracts) (ws : Words) → map (contract_of (lib_off lib)) ws ≡ map (λ o. option_map unslotted o) (map (contract_of lib) ws)
contracts-off lib [] = refl
contracts-off lib (w ∷ ws) =
    ap (λ o. o ∷ map (contract_of (lib_off lib)) ws) (contract-off lib w)
    ∙ ap (λ os. option_map unslotted (contract_of lib w) ∷ os) (contracts-off lib ws)

places_if : (b : Bool) (xs ys : List (Option Object)) (o : Option Object) → xs ≡ map (λ p. option_map unslotted p) ys
    → cond b [] (xs ++ option_map unslotted o ∷ []) ≡ map (λ p. option_map unslotted p) (cond b [] (ys ++ o ∷ []))
places_if true xs ys o e = refl
places_if false xs ys o e =
    ap (λ l. l ++ option_map unslotted o ∷ []) e ∙ sym (map-append (λ (p : Option Object). option_map unslotted p) ys (o ∷ []))

present-off : (ps : List (Option Object)) → present (map (λ p. option_map unslotted p) ps) ≡ map unslotted (present ps)
present-off [] = refl
present-off (None ∷ ps) = present-off ps
present-off (Some x ∷ ps) = ap (λ l. unslotted x ∷ l) (present-off ps)

sources-off : (lib : Contracts) (h : Head) (implied : Option Words) (over : Option Object) → sources (lib_off lib) (off h) implied (option_map unslotted over) ≡ map unslotted (sources lib h implied over)
sources-off lib h implied over =
    ap present (places_if (is_ref h.kind) _ (map (contract_of lib) (words_in (or_else h.is implied))) over (contracts-off lib (words_in (or_else h.is implied))))
    ∙ present-off (places lib h implied over)

head-off : (h : Head) (ss : List Object) → off (inherited_head (off h) (map unslotted ss)) ≡ off (inherited_head h ss)
head-off h ss = simp (first-map {A = Words}, first-map {A = Path}, first-map {A = Value}, first-map {A = ℤ}, first-map {A = Status}, first-map {A = Bool})

words-off : (h : Head) (ss : List Object) → implied_by (inherited_head (off h) (map unslotted ss)) ≡ implied_by (inherited_head h ss)
words-off h ss = ap (λ o. only_if (has_of h.kind) (or_else h.of o)) (first-map (λ s. only_if (has_of h.kind) s.head.of) ss)

names-off : (os : List Object) → names_of (map unslotted os) ≡ names_of os
names-off [] = refl
names-off (o ∷ os) = ap (λ ns. o.head.name ∷ ns) (names-off os)

new-off : (there : List Object) (o : Object) → is_new (map unslotted there) (unslotted o) ≡ is_new there o
new-off there o =
    ap (λ b. is_some o.head.name && not b)
    (taken-among o.head.name (map unslotted there) ∙ ap (taken_among o.head.name) (names-off there) ∙ sym (taken-among o.head.name there))

filter-off : (there os : List Object) → filter (is_new (map unslotted there)) (map unslotted os) ≡ map unslotted (filter (is_new there) os)
filter-off there [] = refl
filter-off there (o ∷ os) =
    ap (λ b. cond b (unslotted o ∷ filter (is_new (map unslotted there)) (map unslotted os)) (filter (is_new (map unslotted there)) (map unslotted os))) (new-off there o)
    ∙ keep (is_new there o) (filter-off there os)
  where
    keep : (b : Bool) → filter (is_new (map unslotted there)) (map unslotted os) ≡ map unslotted (filter (is_new there) os)
        → cond b (unslotted o ∷ filter (is_new (map unslotted there)) (map unslotted os)) (filter (is_new (map unslotted there)) (map unslotted os)) ≡ map unslotted (cond b (o ∷ filter (is_new there) os) (filter (is_new there) os))
    keep true e = ap (λ l. unslotted o ∷ l) e
    keep false e = e

missing-off : (there ss : List Object) → missing (map unslotted there) (map unslotted ss) ≡ map unslotted (missing there ss)
missing-off there [] = refl
missing-off there (s ∷ ss) =
    ap (λ cs. filter (is_new (map unslotted there)) cs ++ missing (map unslotted there ++ cs) (map unslotted ss)) (listed-off s.inner)
    ∙ ap (λ l. l ++ missing (map unslotted there ++ map unslotted (children s)) (map unslotted ss)) (filter-off there (children s))
    ∙ ap (λ t. map unslotted (filter (is_new there) (children s)) ++ missing t (map unslotted ss)) (sym (map-append unslotted there (children s)))
    ∙ ap (λ l. map unslotted (filter (is_new there) (children s)) ++ l) (missing-off (there ++ children s) ss)
    ∙ sym (map-append unslotted (filter (is_new there) (children s)) (missing (there ++ children s) ss))

bare_row-off : (r : Objects) → unslotted_row (bare_row (unslotted_row r)) ≡ unslotted_row (bare_row r)
bare_row-off none = refl
bare_row-off (node h below rest) =
    ap (λ r. node (off (record h { href = None })) r (unslotted_row (bare_row (unslotted_row rest)))) (bare_row-off below)
    ∙ ap (λ r. node (off (record h { href = None })) (unslotted_row (bare_row below)) r) (bare_row-off rest)

bares-off : (os : List Object) → map unslotted (map bare (map unslotted os)) ≡ map unslotted (map bare os)
bares-off [] = refl
bares-off (o ∷ os) =
    ap (λ r. (let x : Object = record { head = off (record o.head { href = None }); inner = r } in x) ∷ map unslotted (map bare (map unslotted os))) (bare_row-off o.inner)
    ∙ ap (λ l. unslotted (bare o) ∷ l) (bares-off os)

-- a row of own results and inherited copies, without slots
rows-off : (own : Objects) (more : List Object) → unslotted_row (in_row (listed own ++ map bare more)) ≡ in_row (listed (unslotted_row own) ++ map unslotted (map bare more))
rows-off own more =
    in_row-off (listed own ++ map bare more)
    ∙ ap in_row (map-append unslotted (listed own) (map bare more) ∙ ap (λ l. l ++ map unslotted (map bare more)) (sym (listed-off own)))

rows_same : (own mine : Objects) (below : Objects) (from : List Object) → unslotted_row mine ≡ unslotted_row own
    → unslotted_row (in_row (listed mine ++ map bare (missing (listed (unslotted_row below)) (map unslotted from)))) ≡ unslotted_row (in_row (listed own ++ map bare (missing (listed below) from)))
rows_same own mine below from e =
    rows-off mine (missing (listed (unslotted_row below)) (map unslotted from))
    ∙ ap (λ r. in_row (listed r ++ map unslotted (map bare (missing (listed (unslotted_row below)) (map unslotted from))))) e
    ∙ ap (λ l. in_row (listed (unslotted_row own) ++ map unslotted (map bare l)))
    (ap (λ l. missing l (map unslotted from)) (listed-off below) ∙ missing-off (listed below) from)
    ∙ ap (λ l. in_row (listed (unslotted_row own) ++ l)) (bares-off (missing (listed below) from))
    ∙ sym (rows-off own (missing (listed below) from))

-- what an object comes to that has these sources
abbrev pub made_by : Contracts → Head → Objects → List Object → Object
made_by lib h below from = record {
  head = inherited_head h from;
  inner = in_row (listed (row_results lib (implied_by (inherited_head h from)) from below) ++ map bare (missing (listed below) from));
}

abbrev pub whole : Head → Objects → Object
whole h r = record { head = h; inner = r }

made-off : (lib : Contracts) (h : Head) (below : Objects) (from ss : List Object) → ss ≡ map unslotted from
    → unslotted_row (row_results (lib_off lib) (implied_by (inherited_head h from)) (map unslotted from) (unslotted_row below)) ≡ unslotted_row (row_results lib (implied_by (inherited_head h from)) from below)
    → unslotted (made_by (lib_off lib) (off h) (unslotted_row below) ss) ≡ unslotted (made_by lib h below from)
made-off lib h below from ss e inner =
    let rows : Option Words → Objects =
    λ ws. unslotted_row (in_row (listed (row_results (lib_off lib) ws (map unslotted from) (unslotted_row below)) ++ map bare (missing (listed (unslotted_row below)) (map unslotted from)))) in
    ap (λ (l : List Object). unslotted (made_by (lib_off lib) (off h) (unslotted_row below) l)) e
    ∙ ap (λ (k : Head). whole k (rows (implied_by (inherited_head (off h) (map unslotted from))))) (head-off h from)
    ∙ ap (λ ws. whole (off (inherited_head h from)) (rows ws)) (words-off h from)
    ∙ ap (whole (off (inherited_head h from)))
    (rows_same (row_results lib (implied_by (inherited_head h from)) from below) (row_results (lib_off lib) (implied_by (inherited_head h from)) (map unslotted from) (unslotted_row below)) below from inner)

row-off : (lib : Contracts) (implied : Option Words) (above : List Object) (r : Objects) → unslotted_row (row_results (lib_off lib) implied (map unslotted above) (unslotted_row r)) ≡ unslotted_row (row_results lib implied above r)
row-off lib implied above none = refl
row-off lib implied above (node h below rest) =
    let from : List Object = sources lib h implied (overridden h.name above) in
    let e : sources (lib_off lib) (off h) implied (overridden h.name (map unslotted above)) ≡ map unslotted from =
    ap (sources (lib_off lib) (off h) implied) (overridden-off h.name above) ∙ sources-off lib h implied (overridden h.name above) in
    let others : Objects = unslotted_row (row_results (lib_off lib) implied (map unslotted above) (unslotted_row rest)) in
    let made : Object = unslotted (made_by lib h below from) in
    ap (λ (o : Object). node o.head o.inner others) (made-off lib h below from _ e (row-off lib (implied_by (inherited_head h from)) from below))
    ∙ ap (λ r. node made.head made.inner r) (row-off lib implied above rest)

-- what an object comes to, without slots
result-off : (lib : Contracts) (o : Object) → unslotted (result_of (lib_off lib) (unslotted o) None None) ≡ unslotted (result_of lib o None None)
unfolding result_of
result-off lib o =
    let from : List Object = sources lib o.head None None in
    made-off lib o.head o.inner from _ (sources-off lib o.head None None) (row-off lib (implied_by (inherited_head o.head from)) from o.inner)

count-off : (r : Objects) → count (unslotted_row r) ≡ count r
count-off none = refl
count-off (node h below rest) = ap (λ n. n + count (unslotted_row rest) + 1) (count-off below) ∙ ap (λ n. count below + n + 1) (count-off rest)

names_word-off : (w : Path) (r : Objects) → row_names w (unslotted_row r) ≡ row_names w r
names_word-off w none = refl
names_word-off w (node h below rest) =
    ap (λ b. (head_names w h || b) || row_names w (unslotted_row rest)) (names_word-off w below)
    ∙ ap (λ b. (head_names w h || row_names w below) || b) (names_word-off w rest)

library_names-off : (w : Path) (lib : Contracts) → library_names w (lib_off lib) ≡ library_names w lib
library_names-off w [] = refl
library_names-off w (c ∷ cs) =
    ap (λ b. (head_names w c.1.head || b) || library_names w (lib_off cs)) (names_word-off w c.1.inner)
    ∙ ap (λ b. names_word w c.1 || b) (library_names-off w cs)

is_some-map : (f : Object → Object) (o : Option Object) → is_some (option_map f o) ≡ is_some o
is_some-map f None = refl
is_some-map f (Some x) = refl

-- the three tests of a contract that is added
abbrev stands : Contracts → Path → Bool
stands lib uri = is_some (contract_of lib uri)

abbrev is_named : Contracts → Path → Object → Bool
is_named lib uri c = names_word uri c || library_names uri lib

abbrev is_large : Contracts → Object → Bool
is_large lib c = nat_lt 512 (parts (result_of lib c None None))

stands-off : (lib : Contracts) (uri : Path) → stands (lib_off lib) uri ≡ stands lib uri
stands-off lib uri = ap is_some (contract-off lib uri) ∙ is_some-map unslotted (contract_of lib uri)

is_named-off : (lib : Contracts) (uri : Path) (c : Object) → is_named (lib_off lib) uri (unslotted c) ≡ is_named lib uri c
is_named-off lib uri c =
    ap (λ b. (head_names uri c.head || b) || library_names uri (lib_off lib)) (names_word-off uri c.inner)
    ∙ ap (λ b. names_word uri c || b) (library_names-off uri lib)

is_large-off : (lib : Contracts) (c : Object) → is_large (lib_off lib) (unslotted c) ≡ is_large lib c
is_large-off lib c =
    let made : Object = result_of (lib_off lib) (unslotted c) None None in
    let same : unslotted made ≡ unslotted (result_of lib c None None) = result-off lib c in
    ap (nat_lt 512) (ap (λ n. n + 1) (sym (count-off made.inner)) ∙ ap parts same ∙ ap (λ n. n + 1) (count-off (result_of lib c None None).inner))

abbrev by_tests : Bool → Bool → Bool → Path → Contracts → Result Contracts LibFault
by_tests twice later large uri more = cond twice (Err (Twice uri)) (cond later (Err (Later uri)) (cond large (Err (Large uri)) (Ok more)))

none_holds : (a b c : Bool) (uri : Path) (more made : Contracts) → by_tests a b c uri more ≡ Ok made → (a ≡ false) × (b ≡ false) × (c ≡ false)
none_holds true b c uri more made e = absurd cc
none_holds false true c uri more made e = absurd cc
none_holds false false true uri more made e = absurd cc
none_holds false false false uri more made e = (refl, refl, refl)

added_when : (lib : Contracts) (uri : Path) (c : Object) → stands lib uri ≡ false → is_named lib uri c ≡ false → is_large lib c ≡ false → added lib uri c ≡ Ok (lib ++ (uri, result_of lib c None None) ∷ [])
added_when lib uri c f g h =
    let more : Contracts = lib ++ (uri, result_of lib c None None) ∷ [] in
    ap (λ b. by_tests b (is_named lib uri c) (is_large lib c) uri more) f
    ∙ ap (λ b. by_tests false b (is_large lib c) uri more) g
    ∙ ap (λ b. by_tests false false b uri more) h

added-same : (lib lib' : Contracts) (uri uri' : Path) (c c' : Object) → lib_off lib ≡ lib_off lib' → uri ≡ uri' → unslotted c ≡ unslotted c'
    → added lib uri c ≡ Ok (lib ++ (uri, result_of lib c None None) ∷ []) → added lib' uri' c' ≡ Ok (lib' ++ (uri', result_of lib' c' None None) ∷ [])
added-same lib lib' uri uri' c c' same key values taken =
    let tests = none_holds (stands lib uri) (is_named lib uri c) (is_large lib c) uri _ _ taken in
    added_when lib' uri' c'
    (sym (stands-off lib' uri') ∙ ap (λ l. stands l uri') (sym same) ∙ ap (stands (lib_off lib)) (sym key) ∙ stands-off lib uri ∙ tests.0)
    (sym (is_named-off lib' uri' c') ∙ ap (λ l. is_named l uri' (unslotted c')) (sym same) ∙ ap (λ u. is_named (lib_off lib) u (unslotted c')) (sym key) ∙ ap (is_named (lib_off lib) uri) (sym values) ∙ is_named-off lib uri c ∙ tests.1)
    (sym (is_large-off lib' c') ∙ ap (λ l. is_large l (unslotted c')) (sym same) ∙ ap (is_large (lib_off lib)) (sym values) ∙ is_large-off lib c ∙ tests.2)

more-same : (lib lib' : Contracts) (uri uri' : Path) (c c' : Object) → lib_off lib ≡ lib_off lib' → uri ≡ uri' → unslotted c ≡ unslotted c'
    → lib_off (lib ++ (uri, result_of lib c None None) ∷ []) ≡ lib_off (lib' ++ (uri', result_of lib' c' None None) ∷ [])
more-same lib lib' uri uri' c c' same key values =
    let F : Path × Object → Path × Object = λ e. (e.0, unslotted e.1) in
    let result : unslotted (result_of lib c None None) ≡ unslotted (result_of lib' c' None None) =
    sym (result-off lib c) ∙ ap (λ l. unslotted (result_of l (unslotted c) None None)) same ∙ ap (λ o. unslotted (result_of (lib_off lib') o None None)) values ∙ result-off lib' c' in
    map-append F lib ((uri, result_of lib c None None) ∷ [])
    ∙ ap (λ l. l ++ (uri, unslotted (result_of lib c None None)) ∷ []) same
    ∙ ap (λ u. lib_off lib' ++ (u, unslotted (result_of lib c None None)) ∷ []) key
    ∙ ap (λ o. lib_off lib' ++ (uri', o) ∷ []) result
    ∙ sym (map-append F lib' ((uri', result_of lib' c' None None) ∷ []))

abbrev pub first_of : Path × Object → Contracts → Path × Object
first_of e [] = e
first_of e (c ∷ cs) = c

abbrev pub rest_of : Contracts → Contracts
rest_of [] = []
rest_of (c ∷ cs) = cs

-- contracts that are the same but for slots are taken alike
AreTaken-same : (lib lib' cs cs' : Contracts) → lib_off lib ≡ lib_off lib' → lib_off cs ≡ lib_off cs' → AreTaken lib cs → AreTaken lib' cs'
AreTaken-same lib lib' [] [] same e t = tt
AreTaken-same lib lib' [] (c ∷ cs) same e t = absurd cc
AreTaken-same lib lib' (c ∷ cs) [] same e t = absurd cc
AreTaken-same lib lib' (c ∷ cs) (d ∷ ds) same e t =
    let first : (c.0, unslotted c.1) ≡ (d.0, unslotted d.1) = ap (first_of (c.0, unslotted c.1)) e in
    let key : c.0 ≡ d.0 = ap (λ (x : Path × Object). x.0) first in
    let values : unslotted c.1 ≡ unslotted d.1 = ap (λ (x : Path × Object). x.1) first in (
      added-same lib lib' c.0 d.0 c.1 d.1 same key values t.0,
      AreTaken-same (lib ++ (c.0, result_of lib c.1 None None) ∷ []) (lib' ++ (d.0, result_of lib' d.1 None None) ∷ []) cs ds (more-same lib lib' c.0 d.0 c.1 d.1 same key values) (ap rest_of e) t.1,
    )

abbrev pub nodes : List Object → Contracts
nodes os = filter_map (λ o. option_map (λ p. (p, o)) (node_path o.head)) os

site-filter : (os : List Object) → nodes (map unslotted os) ≡ lib_off (nodes os)
site-filter [] = refl
site-filter (o ∷ os) = go (node_path o.head) (site-filter os)
  where
    go : (path : Option Path) → nodes (map unslotted os) ≡ lib_off (nodes os)
        → cons_option (option_map (λ p. (p, unslotted o)) path) (nodes (map unslotted os)) ≡ lib_off (cons_option (option_map (λ p. (p, o)) path) (nodes os))
    go None e = e
    go (Some p) e = ap (λ l. (p, unslotted o) ∷ l) e

children_if : (o : Option Object) → unwrap_or (option_map children (option_map unslotted o)) [] ≡ map unslotted (unwrap_or (option_map children o) [])
children_if None = refl
children_if (Some x) = listed-off x.inner

site-off : (t : Object) → site_contracts (unslotted t) ≡ lib_off (site_contracts t)
site-off t =
    ap (λ o. nodes (unwrap_or (option_map children o) []))
    (ap (named (codes "contracts")) (listed-off t.inner) ∙ named-map unslotted (λ o. refl) (codes "contracts") (children t))
    ∙ ap nodes (children_if (child (codes "contracts") t))
    ∙ site-filter (unwrap_or (option_map children (child (codes "contracts") t)) [])

-- a library takes a site's contracts whatever the values in them
pub taken_whatever : (lib : Contracts) (t u : Object) → unslotted t ≡ unslotted u → AreTaken lib (site_contracts t) → AreTaken lib (site_contracts u)
taken_whatever lib t u same taken =
    AreTaken-same lib lib (site_contracts t) (site_contracts u) refl (sym (site-off t) ∙ ap site_contracts same ∙ site-off u) taken
