-- Tables of contracts, into which one after the other is put.
use Rattle.std.proofs.Common.{◌≡◌, ℕ, ◌+◌, ◌<◌, ◌≤◌, Bool, true, false, cond, List, [], ◌∷◌, ◌++◌, length, take, drop, get_or, Option, Some, None, option_map, find, bytes_eq, refl, sym, ap, ap₂, ◌∙◌, subst, arith}
use Rattle.std.specs.Prelude.{is_some}
use Rattle.std.specs.Ordering.{nat_cmp}
use Rattle.std.specs.Cmp.Lexicographic.{slice_cmp}
use Rattle.std.specs.BTreeMap.{BTreeMap, get_by, get, Updates}
use Rattle.std.proofs.lemmas.List.{take_more, take_all}
use Rattle.std.proofs.lemmas.Map.Text.{is_eq-slice_cmp}
use Rattle.std.proofs.lemmas.Slice.Eq.{bytes_eq-Decides}
use Rattle.ob_object.specs.Object.{Object}
use Rattle.ob_object.specs.Paths.{node_path}
use Rattle.ob_contracts.specs.Inherit.{Contracts, contract_of}
use Rattle.ob_site_rules.specs.Roles.{worded, worded_contracts}
use Rattle.ob_site_rules.specs.Build.{Path}
use Rattle.ob_roles.specs.Few.{brief_contracts}
use Rattle.ob_roles.specs.Sums.{nodes_of}
use Rattle.ob_roles.specs.Tables.{Holds}
use Rattle.ob_values.proofs.Lists.{drop_all}
use Rattle.ob_roles.proofs.Sums.{nodes_past, nodes_here, rest_more}

abbrev pub Table : Type 0
Table = BTreeMap (List ℕ) Object

-- the contract of a word where one more stands behind
behind : (lib : Contracts) (u : List ℕ) (o : Object) (w : List ℕ) → contract_of (lib ++ (u, o) ∷ []) w ≡ cond (is_some (contract_of lib w)) (contract_of lib w) (cond (bytes_eq u w) (Some o) None)
behind [] u o w = go (bytes_eq u w)
  where
    go : (b : Bool) → option_map (λ (c : List ℕ × Object). c.1) (cond b (Some (u, o)) None) ≡ cond b (Some o) None
    go true = refl
    go false = refl
behind (c ∷ lib) u o w = go (behind lib u o w) (bytes_eq c.0 w)
  where
    go : contract_of (lib ++ (u, o) ∷ []) w ≡ cond (is_some (contract_of lib w)) (contract_of lib w) (cond (bytes_eq u w) (Some o) None) → (b : Bool) → option_map (λ (c : List ℕ × Object). c.1) (cond b (Some c) (find (λ c. bytes_eq c.0 w) (lib ++ (u, o) ∷ [])))
        ≡ cond (is_some (option_map (λ (c : List ℕ × Object). c.1) (cond b (Some c) (find (λ c. bytes_eq c.0 w) lib)))) (option_map (λ (c : List ℕ × Object). c.1) (cond b (Some c) (find (λ c. bytes_eq c.0 w) lib))) (cond (bytes_eq u w) (Some o) None)
    go rest true = refl
    go rest false = rest

-- a word that is there keeps its contract
kept_at : (o : Option Object) (x : Object) (b : Bool) → is_some o ≡ true → o ≡ cond (is_some o) o (cond b (Some x) None)
kept_at None x b h = cc
kept_at (Some y) x b h = refl

-- a table into which nothing was put, since the word is there
pub holds_there : (table : Table) (lib : Contracts) (u : List ℕ) (o : Object) → is_some (get_by (slice_cmp nat_cmp u) table) ≡ true → Holds table lib → Holds table (lib ++ (u, o) ∷ [])
holds_there table lib u o h holds = λ w. go w (bytes_eq u w) refl
  where
    some : is_some (contract_of lib u) ≡ true
    some = ap is_some (sym (holds u)) ∙ h

    other : (w : List ℕ) (p : Option Object) → p ≡ cond (is_some p) p None
    other w None = refl
    other w (Some x) = refl

    go : (w : List ℕ) (b : Bool) → bytes_eq u w ≡ b → get_by (slice_cmp nat_cmp w) table ≡ contract_of (lib ++ (u, o) ∷ []) w
    go w true e =
        let same : u ≡ w = (bytes_eq-Decides u w).0 e in
        holds w ∙ kept_at (contract_of lib w) o (bytes_eq u w) (ap (λ v. is_some (contract_of lib v)) (sym same) ∙ some) ∙ sym (behind lib u o w)
    go w false e =
        holds w ∙ other w (contract_of lib w) ∙ ap (λ b. cond (is_some (contract_of lib w)) (contract_of lib w) (cond b (Some o) None)) (sym e) ∙ sym (behind lib u o w)

none_some : (p : Option Object) → is_some p ≡ false → p ≡ None
none_some None h = refl
none_some (Some x) h = cc

-- a table into which a contract was put under a new word
pub holds_more : (table new : Table) (lib : Contracts) (u : List ℕ) (o : Object) → is_some (get_by (slice_cmp nat_cmp u) table) ≡ false → Updates (slice_cmp nat_cmp) table new u (Some o) → Holds table lib → Holds new (lib ++ (u, o) ∷ [])
holds_more table new lib u o h up holds = λ w. go w (bytes_eq u w) refl
  where
    no : contract_of lib u ≡ None
    no = sym (holds u) ∙ none_some (get_by (slice_cmp nat_cmp u) table) h

    other : (p : Option Object) → p ≡ cond (is_some p) p None
    other None = refl
    other (Some x) = refl

    go : (w : List ℕ) (b : Bool) → bytes_eq u w ≡ b → get_by (slice_cmp nat_cmp w) new ≡ contract_of (lib ++ (u, o) ∷ []) w
    go w true e =
        let same : u ≡ w = (bytes_eq-Decides u w).0 e in
        up.0 w ∙ ap (λ b. cond b (Some o) (get (slice_cmp nat_cmp) table w)) (is_eq-slice_cmp u w ∙ e)
        ∙ sym (behind lib u o w ∙ ap (λ p. cond (is_some p) p (cond (bytes_eq u w) (Some o) None)) (ap (contract_of lib) (sym same) ∙ no) ∙ ap (λ b. cond b (Some o) None) e)
    go w false e =
        up.0 w ∙ ap (λ b. cond b (Some o) (get (slice_cmp nat_cmp) table w)) (is_eq-slice_cmp u w ∙ e) ∙ holds w
        ∙ other (contract_of lib w) ∙ ap (λ b. cond (is_some (contract_of lib w)) (contract_of lib w) (cond b (Some o) None)) (sym e) ∙ sym (behind lib u o w)

-- contracts with their words, and one more
pub worded_behind : (lib cs : Contracts) (c : List ℕ × Object) → worded_contracts lib (cs ++ c ∷ []) ≡ worded_contracts lib cs ++ (c.0, worded (worded_contracts lib cs) c.1) ∷ []
worded_behind lib [] c = refl
worded_behind lib (d ∷ cs) c = worded_behind (lib ++ (d.0, worded lib d.1) ∷ []) cs c

pub holds_taken : (whole : Contracts) (new : Table) (cs : Contracts) (i : ℕ) (c : List ℕ × Object) → i < length cs → c ≡ get_or cs i c
    → Holds new (brief_contracts whole (worded_contracts [] (take i cs) ++ (c.0, worded (worded_contracts [] (take i cs)) c.1) ∷ [])) → Holds new (brief_contracts whole (worded_contracts [] (take (i + 1) cs)))
holds_taken whole new cs i c h is holds =
    subst (λ (l : Contracts). Holds new (brief_contracts whole l)) (sym (ap (worded_contracts []) (take_more cs i c h ∙ ap (λ y. take i cs ++ y ∷ []) (sym is)) ∙ worded_behind [] (take i cs) c)) holds

-- the nodes among objects, from a place on
pub nodes_left : (all : List Object) (i : ℕ) (x : Object) (p : Path) (lib : Contracts) → i < length all → x ≡ get_or all i x → node_path x.head ≡ Some p
    → worded_contracts lib (nodes_of (drop i all)) ≡ worded_contracts (lib ++ (p, worded lib x) ∷ []) (nodes_of (drop (i + 1) all))
nodes_left all i x p lib h is at = ap (λ l. worded_contracts lib (nodes_of l)) (rest_more all i x h is) ∙ ap (worded_contracts lib) (nodes_here x (drop (i + 1) all) p at)

pub nodes_passed : (all : List Object) (i : ℕ) (x : Object) (lib : Contracts) → i < length all → x ≡ get_or all i x → node_path x.head ≡ None
    → worded_contracts lib (nodes_of (drop i all)) ≡ worded_contracts lib (nodes_of (drop (i + 1) all))
nodes_passed all i x lib h is at = ap (λ l. worded_contracts lib (nodes_of l)) (rest_more all i x h is) ∙ ap (worded_contracts lib) (nodes_past x (drop (i + 1) all) at)

pub nodes_done : (all : List Object) (i : ℕ) (lib : Contracts) → length all ≤ i → worded_contracts lib (nodes_of (drop i all)) ≡ lib
nodes_done all i lib h = ap (λ l. worded_contracts lib (nodes_of l)) (drop_all all i h)
