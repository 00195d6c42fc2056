-- Objects and contracts without their slots. What is inherited doesn't depend on slots but for slots.
use Rattle.std.proofs.Common.{◌≡◌, ℤ, Bool, true, false, not, ◌&&◌, cond, List, [], ◌∷◌, ◌++◌, map, filter, Option, Some, None, option_map, refl, sym, ap, ◌∙◌}
use Rattle.std.specs.Prelude.{is_some, find, unwrap_or, codes}
use Rattle.std.specs.List.{cons_option}
use Rattle.std.specs.Str.{bytes_eq}
use Rattle.std.proofs.lemmas.List.{map-append}
use Rattle.ob_values.specs.declared.value.Value.{Value}
use Rattle.ob_object.specs.declared.status.Status.{Status}
use Rattle.ob_object.specs.declared.head.Head.{Head}
use Rattle.ob_object.specs.Kinds.{is_ref, has_of}
use Rattle.ob_object.specs.Object.{Object, Objects, none, node, listed, in_row, children}
use Rattle.ob_object.specs.WellFormed.{named}
use Rattle.ob_object.specs.Paths.{node_path}
use Rattle.ob_contracts.specs.Inherit.{Contracts, Words, contract_of, or_else, words_in, present, places, sources, first_given, only_if, inherited_head, overridden, implied_by, bare, bare_row, is_new, missing, row_results, result_of}
use Rattle.ob_contracts.specs.Standard.{standard, with_added}
use Rattle.ob_contracts.proofs.Children.{named-map}
use Rattle.ob_site_rules.specs.Build.{Path, child}
use Rattle.ob_site_rules.specs.Writes.{site_contracts}
use Rattle.ob_plain_state.proofs.Keeping.{names_of, taken_among, taken-among}
use Rattle.ob_plain_state.proofs.Slots.{or_map, made_by, whole, first_of, rest_of, nodes}
use Rattle.ob_shown_laws.specs.Alike.{without_slot}
use Rattle.ob_step_laws.specs.Defaults.{unslotted_row, unslotted, defaults_off, DefaultsDiffer}

abbrev pub off : Head → Head
off h = without_slot h

listed-off : (r : Objects) → listed (unslotted_row r) ≡ map unslotted (listed r)
listed-off none = refl
listed-off (node h below rest) = ap (λ l. unslotted (record { head = h; inner = below }) ∷ l) (listed-off rest)

in_row-off : (os : List Object) → unslotted_row (in_row os) ≡ in_row (map unslotted os)
in_row-off [] = refl
in_row-off (o ∷ os) = ap (λ r. node (off o.head) (unslotted_row o.inner) r) (in_row-off os)

pub first-map : {A : Type 0} (g : Object → Option A) (ss : List Object) → first_given g (map unslotted ss) ≡ first_given (λ s. g (unslotted s)) ss
first-map g [] = refl
first-map g (s ∷ ss) = ap (or_else (g (unslotted s))) (first-map g ss)

first_child : (n : Path) (ss : List Object) → first_given (λ s. named n (children s)) (map unslotted ss) ≡ option_map unslotted (first_given (λ s. named n (children s)) ss)
first_child n [] = refl
first_child n (s ∷ ss) =
    ap (λ o. or_else o (first_given (λ s. named n (children s)) (map unslotted ss))) (ap (named n) (listed-off s.inner) ∙ named-map unslotted (λ o. refl) n (children s))
    ∙ ap (or_else (option_map unslotted (named n (children s)))) (first_child n ss)
    ∙ or_map unslotted (named n (children s)) (first_given (λ s. named n (children s)) ss)

pub overridden-off : (name : Option Path) (ss : List Object) → overridden name (map unslotted ss) ≡ option_map unslotted (overridden name ss)
overridden-off None ss = refl
overridden-off (Some n) ss = first_child n ss

contract-off : (lib : Contracts) (w : Path) → contract_of (defaults_off lib) w ≡ option_map unslotted (contract_of lib w)
contract-off [] w = refl
contract-off (c ∷ cs) w = pick (bytes_eq c.0 w) (contract-off cs w)
  where
    pick : (b : Bool) → contract_of (defaults_off cs) w ≡ option_map unslotted (contract_of cs w)
        → option_map (λ x. x.1) (cond b (Some (c.0, unslotted c.1)) (find (λ x. bytes_eq x.0 w) (defaults_off cs))) ≡ option_map unslotted (option_map (λ x. x.1) (cond b (Some c) (find (λ x. bytes_eq x.0 w) cs)))
    pick true e = refl
    pick false e = e

contracts-off : (lib : Contracts) (ws : Words) → map (contract_of (defaults_off lib)) ws ≡ map (λ o. option_map unslotted o) (map (contract_of lib) ws)
contracts-off lib [] = refl
contracts-off lib (w ∷ ws) =
    ap (λ o. o ∷ map (contract_of (defaults_off lib)) ws) (contract-off lib w)
    ∙ ap (λ os. option_map unslotted (contract_of lib w) ∷ os) (contracts-off lib ws)

places_if : (b : Bool) (xs ys : List (Option Object)) (o : Option Object) → xs ≡ map (λ p. option_map unslotted p) ys
    → cond b [] (xs ++ option_map unslotted o ∷ []) ≡ map (λ p. option_map unslotted p) (cond b [] (ys ++ o ∷ []))
places_if true xs ys o e = refl
places_if false xs ys o e =
    ap (λ l. l ++ option_map unslotted o ∷ []) e ∙ sym (map-append (λ (p : Option Object). option_map unslotted p) ys (o ∷ []))

present-off : (ps : List (Option Object)) → present (map (λ p. option_map unslotted p) ps) ≡ map unslotted (present ps)
present-off [] = refl
present-off (None ∷ ps) = present-off ps
present-off (Some x ∷ ps) = ap (λ l. unslotted x ∷ l) (present-off ps)

pub sources-off : (lib : Contracts) (h : Head) (implied : Option Words) (over : Option Object) → sources (defaults_off lib) (off h) implied (option_map unslotted over) ≡ map unslotted (sources lib h implied over)
sources-off lib h implied over =
    ap present (places_if (is_ref h.kind) _ (map (contract_of lib) (words_in (or_else h.is implied))) over (contracts-off lib (words_in (or_else h.is implied))))
    ∙ present-off (places lib h implied over)

head-off : (h : Head) (ss : List Object) → off (inherited_head (off h) (map unslotted ss)) ≡ off (inherited_head h ss)
head-off h ss = simp (first-map {A = Words}, first-map {A = Path}, first-map {A = Value}, first-map {A = ℤ}, first-map {A = Status}, first-map {A = Bool})

pub words-off : (h : Head) (ss : List Object) → implied_by (inherited_head (off h) (map unslotted ss)) ≡ implied_by (inherited_head h ss)
words-off h ss = ap (λ o. only_if (has_of h.kind) (or_else h.of o)) (first-map (λ s. only_if (has_of h.kind) s.head.of) ss)

names-off : (os : List Object) → names_of (map unslotted os) ≡ names_of os
names-off [] = refl
names-off (o ∷ os) = ap (λ ns. o.head.name ∷ ns) (names-off os)

new-off : (there : List Object) (o : Object) → is_new (map unslotted there) (unslotted o) ≡ is_new there o
new-off there o =
    ap (λ b. is_some o.head.name && not b)
    (taken-among o.head.name (map unslotted there) ∙ ap (taken_among o.head.name) (names-off there) ∙ sym (taken-among o.head.name there))

filter-off : (there os : List Object) → filter (is_new (map unslotted there)) (map unslotted os) ≡ map unslotted (filter (is_new there) os)
filter-off there [] = refl
filter-off there (o ∷ os) =
    ap (λ b. cond b (unslotted o ∷ filter (is_new (map unslotted there)) (map unslotted os)) (filter (is_new (map unslotted there)) (map unslotted os))) (new-off there o)
    ∙ keep (is_new there o) (filter-off there os)
  where
    keep : (b : Bool) → filter (is_new (map unslotted there)) (map unslotted os) ≡ map unslotted (filter (is_new there) os)
        → cond b (unslotted o ∷ filter (is_new (map unslotted there)) (map unslotted os)) (filter (is_new (map unslotted there)) (map unslotted os)) ≡ map unslotted (cond b (o ∷ filter (is_new there) os) (filter (is_new there) os))
    keep true e = ap (λ l. unslotted o ∷ l) e
    keep false e = e

missing-off : (there ss : List Object) → missing (map unslotted there) (map unslotted ss) ≡ map unslotted (missing there ss)
missing-off there [] = refl
missing-off there (s ∷ ss) =
    ap (λ cs. filter (is_new (map unslotted there)) cs ++ missing (map unslotted there ++ cs) (map unslotted ss)) (listed-off s.inner)
    ∙ ap (λ l. l ++ missing (map unslotted there ++ map unslotted (children s)) (map unslotted ss)) (filter-off there (children s))
    ∙ ap (λ t. map unslotted (filter (is_new there) (children s)) ++ missing t (map unslotted ss)) (sym (map-append unslotted there (children s)))
    ∙ ap (λ l. map unslotted (filter (is_new there) (children s)) ++ l) (missing-off (there ++ children s) ss)
    ∙ sym (map-append unslotted (filter (is_new there) (children s)) (missing (there ++ children s) ss))

bare_row-off : (r : Objects) → unslotted_row (bare_row (unslotted_row r)) ≡ unslotted_row (bare_row r)
bare_row-off none = refl
bare_row-off (node h below rest) =
    ap (λ r. node (off (record h { href = None })) r (unslotted_row (bare_row (unslotted_row rest)))) (bare_row-off below)
    ∙ ap (λ r. node (off (record h { href = None })) (unslotted_row (bare_row below)) r) (bare_row-off rest)

bares-off : (os : List Object) → map unslotted (map bare (map unslotted os)) ≡ map unslotted (map bare os)
bares-off [] = refl
bares-off (o ∷ os) =
    ap (λ r. (let x : Object = record { head = off (record o.head { href = None }); inner = r } in x) ∷ map unslotted (map bare (map unslotted os))) (bare_row-off o.inner)
    ∙ ap (λ l. unslotted (bare o) ∷ l) (bares-off os)

-- a row of own results and inherited copies, without slots
rows-off : (own : Objects) (more : List Object) → unslotted_row (in_row (listed own ++ map bare more)) ≡ in_row (listed (unslotted_row own) ++ map unslotted (map bare more))
rows-off own more =
    in_row-off (listed own ++ map bare more)
    ∙ ap in_row (map-append unslotted (listed own) (map bare more) ∙ ap (λ l. l ++ map unslotted (map bare more)) (sym (listed-off own)))

rows_same : (own mine : Objects) (below : Objects) (from : List Object) → unslotted_row mine ≡ unslotted_row own
    → unslotted_row (in_row (listed mine ++ map bare (missing (listed (unslotted_row below)) (map unslotted from)))) ≡ unslotted_row (in_row (listed own ++ map bare (missing (listed below) from)))
rows_same own mine below from e =
    rows-off mine (missing (listed (unslotted_row below)) (map unslotted from))
    ∙ ap (λ r. in_row (listed r ++ map unslotted (map bare (missing (listed (unslotted_row below)) (map unslotted from))))) e
    ∙ ap (λ l. in_row (listed (unslotted_row own) ++ map unslotted (map bare l)))
    (ap (λ l. missing l (map unslotted from)) (listed-off below) ∙ missing-off (listed below) from)
    ∙ ap (λ l. in_row (listed (unslotted_row own) ++ l)) (bares-off (missing (listed below) from))
    ∙ sym (rows-off own (missing (listed below) from))

made-off : (lib : Contracts) (h : Head) (below : Objects) (from ss : List Object) → ss ≡ map unslotted from
    → unslotted_row (row_results (defaults_off lib) (implied_by (inherited_head h from)) (map unslotted from) (unslotted_row below)) ≡ unslotted_row (row_results lib (implied_by (inherited_head h from)) from below)
    → unslotted (made_by (defaults_off lib) (off h) (unslotted_row below) ss) ≡ unslotted (made_by lib h below from)
made-off lib h below from ss e inner =
    let rows : Option Words → Objects =
    λ ws. unslotted_row (in_row (listed (row_results (defaults_off lib) ws (map unslotted from) (unslotted_row below)) ++ map bare (missing (listed (unslotted_row below)) (map unslotted from)))) in
    ap (λ (l : List Object). unslotted (made_by (defaults_off lib) (off h) (unslotted_row below) l)) e
    ∙ ap (λ (k : Head). whole k (rows (implied_by (inherited_head (off h) (map unslotted from))))) (head-off h from)
    ∙ ap (λ ws. whole (off (inherited_head h from)) (rows ws)) (words-off h from)
    ∙ ap (whole (off (inherited_head h from)))
    (rows_same (row_results lib (implied_by (inherited_head h from)) from below) (row_results (defaults_off lib) (implied_by (inherited_head h from)) (map unslotted from) (unslotted_row below)) below from inner)

row-off : (lib : Contracts) (implied : Option Words) (above : List Object) (r : Objects) → unslotted_row (row_results (defaults_off lib) implied (map unslotted above) (unslotted_row r)) ≡ unslotted_row (row_results lib implied above r)
row-off lib implied above none = refl
row-off lib implied above (node h below rest) =
    let from : List Object = sources lib h implied (overridden h.name above) in
    let e : sources (defaults_off lib) (off h) implied (overridden h.name (map unslotted above)) ≡ map unslotted from =
    ap (sources (defaults_off lib) (off h) implied) (overridden-off h.name above) ∙ sources-off lib h implied (overridden h.name above) in
    let others : Objects = unslotted_row (row_results (defaults_off lib) implied (map unslotted above) (unslotted_row rest)) in
    let made : Object = unslotted (made_by lib h below from) in
    ap (λ (o : Object). node o.head o.inner others) (made-off lib h below from _ e (row-off lib (implied_by (inherited_head h from)) from below))
    ∙ ap (λ r. node made.head made.inner r) (row-off lib implied above rest)

-- what an object comes to, without slots
result-off : (lib : Contracts) (o : Object) → unslotted (result_of (defaults_off lib) (unslotted o) None None) ≡ unslotted (result_of lib o None None)
unfolding result_of
result-off lib o =
    let from : List Object = sources lib o.head None None in
    made-off lib o.head o.inner from _ (sources-off lib o.head None None) (row-off lib (implied_by (inherited_head o.head from)) from o.inner)

more-same : (lib lib' : Contracts) (uri uri' : Path) (c c' : Object) → defaults_off lib ≡ defaults_off lib' → uri ≡ uri' → unslotted c ≡ unslotted c'
    → defaults_off (lib ++ (uri, result_of lib c None None) ∷ []) ≡ defaults_off (lib' ++ (uri', result_of lib' c' None None) ∷ [])
more-same lib lib' uri uri' c c' same key values =
    let F : Path × Object → Path × Object = λ e. (e.0, unslotted e.1) in
    let result : unslotted (result_of lib c None None) ≡ unslotted (result_of lib' c' None None) =
    sym (result-off lib c) ∙ ap (λ l. unslotted (result_of l (unslotted c) None None)) same ∙ ap (λ o. unslotted (result_of (defaults_off lib') o None None)) values ∙ result-off lib' c' in
    map-append F lib ((uri, result_of lib c None None) ∷ [])
    ∙ ap (λ l. l ++ (uri, unslotted (result_of lib c None None)) ∷ []) same
    ∙ ap (λ u. defaults_off lib' ++ (u, unslotted (result_of lib c None None)) ∷ []) key
    ∙ ap (λ o. defaults_off lib' ++ (uri', o) ∷ []) result
    ∙ sym (map-append F lib' ((uri', result_of lib' c' None None) ∷ []))

site-filter : (os : List Object) → nodes (map unslotted os) ≡ defaults_off (nodes os)
site-filter [] = refl
site-filter (o ∷ os) = go (node_path o.head) (site-filter os)
  where
    go : (path : Option Path) → nodes (map unslotted os) ≡ defaults_off (nodes os)
        → cons_option (option_map (λ p. (p, unslotted o)) path) (nodes (map unslotted os)) ≡ defaults_off (cons_option (option_map (λ p. (p, o)) path) (nodes os))
    go None e = e
    go (Some p) e = ap (λ l. (p, unslotted o) ∷ l) e

children_if : (o : Option Object) → unwrap_or (option_map children (option_map unslotted o)) [] ≡ map unslotted (unwrap_or (option_map children o) [])
children_if None = refl
children_if (Some x) = listed-off x.inner

site-off : (t : Object) → site_contracts (unslotted t) ≡ defaults_off (site_contracts t)
site-off t =
    ap (λ o. nodes (unwrap_or (option_map children o) []))
    (ap (named (codes "contracts")) (listed-off t.inner) ∙ named-map unslotted (λ o. refl) (codes "contracts") (children t))
    ∙ ap nodes (children_if (child (codes "contracts") t))
    ∙ site-filter (unwrap_or (option_map children (child (codes "contracts") t)) [])

-- libraries to which the same contracts are added, but for slots
same_added : (lib new cs ds : Contracts) → defaults_off lib ≡ defaults_off new → defaults_off cs ≡ defaults_off ds → defaults_off (with_added lib cs) ≡ defaults_off (with_added new ds)
same_added lib new [] [] same e = same
same_added lib new [] (d ∷ ds) same e = absurd cc
same_added lib new (c ∷ cs) [] same e = absurd cc
same_added lib new (c ∷ cs) (d ∷ ds) same e =
    let first : (c.0, unslotted c.1) ≡ (d.0, unslotted d.1) = ap (first_of (c.0, unslotted c.1)) e in
    let key : c.0 ≡ d.0 = ap (λ (x : Path × Object). x.0) first in
    let values : unslotted c.1 ≡ unslotted d.1 = ap (λ (x : Path × Object). x.1) first in
    same_added (lib ++ (c.0, result_of lib c.1 None None) ∷ []) (new ++ (d.0, result_of new d.1 None None) ∷ []) cs ds (more-same lib new c.0 d.0 c.1 d.1 same key values) (ap rest_of e)

pub defaults_differ : DefaultsDiffer
defaults_differ t u same =
    same_added standard standard (site_contracts t) (site_contracts u) refl (sym (site-off t) ∙ ap site_contracts same ∙ site-off u)
