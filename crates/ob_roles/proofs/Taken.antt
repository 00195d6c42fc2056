-- What an object takes from.
use Rattle.std.proofs.Common.{◌≡◌, ℕ, zero, suc, ◌+◌, ◌<◌, ◌≤◌, Bool, true, false, ◌&&◌, codes, List, [], ◌∷◌, ◌++◌, map, length, take, drop, get_or, Option, Some, None, refl, sym, ap, ◌∙◌, arith, add-one}
use Rattle.std.specs.Prelude.{is_some}
use Rattle.std.proofs.Math.Seq.{drop-cons}
use Rattle.std.proofs.lemmas.List.{append-nil, take_more, take_all}
use denote.Ref.{Bor}
use Rattle.ob_object.specs.declared.head.Head.{Head}
use Rattle.ob_object.specs.Kinds.{has_of, has_values}
use Rattle.ob_object.specs.Object.{Object}
use Rattle.ob_object.specs.Object.{children}
use Rattle.ob_object.specs.WellFormed.{named}
use Rattle.ob_object.specs.Kinds.{same_kind}
use Rattle.ob_object.specs.Paths.{node_path}
use Rattle.ob_object.specs.declared.kind.Kind.TheVariants as kind
use Rattle.ob_site_rules.specs.declared.roles.Roles.{Roles}
use Rattle.ob_site_rules.specs.Roles.{roles_of}
use Rattle.ob_roles.specs.declared.ancestors.Ancestors.{Ancestors}
use Rattle.ob_roles.specs.Kinds.{Are}
use Rattle.ob_contracts.specs.Found.{Names, found, lent}
use Rattle.ob_contracts.specs.Inherit.{Contracts, Words, contract_of, present, or_else, only_if, first_given, words_in, overridden, implied_by, inherited_head}
use Rattle.ob_contracts.specs.Ancestry.{is_a}
use Rattle.ob_contracts.proofs.Found.{lent-append}

pub put_some : (xs new : List (Bor Object)) (r : Bor Object) (o : Option Object) → new ≡ xs ++ r ∷ [] → o ≡ Some r.now → lent new ≡ lent xs ++ present (o ∷ [])
put_some xs new r o e is = ap lent e ∙ lent-append xs (r ∷ []) ∙ ap (λ q. lent xs ++ present (q ∷ [])) (sym is)

pub put_none : (xs : List (Bor Object)) (o : Option Object) → o ≡ None → lent xs ≡ lent xs ++ present (o ∷ [])
put_none xs o is = sym (append-nil (lent xs)) ∙ ap (λ q. lent xs ++ present (q ∷ [])) (sym is)

pub present_behind : (xs : List (Option Object)) (o : Option Object) → present (xs ++ o ∷ []) ≡ present xs ++ present (o ∷ [])
present_behind [] o = refl
present_behind (None ∷ xs) o = present_behind xs o
present_behind (Some x ∷ xs) o = ap (λ l. x ∷ l) (present_behind xs o)

map_behind : (lib : Contracts) (ws : Words) (w : List ℕ) → map (contract_of lib) (ws ++ w ∷ []) ≡ map (contract_of lib) ws ++ contract_of lib w ∷ []
map_behind lib [] w = refl
map_behind lib (v ∷ ws) w = ap (λ l. contract_of lib v ∷ l) (map_behind lib ws w)

-- one word more
pub found_more : (lib : Contracts) (ws : Words) (i : ℕ) (w : List ℕ) (xs new : List (Bor Object)) → i < length ws → w ≡ get_or ws i w → lent xs ≡ present (map (contract_of lib) (take i ws)) → lent new ≡ lent xs ++ present (contract_of lib w ∷ [])
    → lent new ≡ present (map (contract_of lib) (take (i + 1) ws))
found_more lib ws i w xs new h is held put =
    put ∙ ap (λ l. l ++ present (contract_of lib w ∷ [])) held
    ∙ sym (present_behind (map (contract_of lib) (take i ws)) (contract_of lib w))
    ∙ ap present (sym (map_behind lib (take i ws) w))
    ∙ ap (λ l. present (map (contract_of lib) l)) (sym (take_more ws i w h ∙ ap (λ y. take i ws ++ y ∷ []) (sym is)))

pub found_all : (lib : Contracts) (ws : Words) (i : ℕ) (xs : List (Bor Object)) → length ws ≤ i → lent xs ≡ present (map (contract_of lib) (take i ws)) → lent xs ≡ present (map (contract_of lib) ws)
found_all lib ws i xs h held = held ∙ ap (λ l. present (map (contract_of lib) l)) (take_all i ws h)

-- and the child that is overridden
pub found_over : (lib : Contracts) (ws : Words) (over : Option Object) (xs new : List (Bor Object)) → lent xs ≡ present (map (contract_of lib) ws) → lent new ≡ lent xs ++ present (over ∷ [])
    → lent new ≡ present (map (contract_of lib) ws ++ over ∷ [])
found_over lib ws over xs new held put =
    put ∙ ap (λ l. l ++ present (over ∷ [])) held ∙ sym (present_behind (map (contract_of lib) ws) over)

implied_if : (b : Bool) (of : Option Words) (ss : List Object) → only_if b (or_else of (first_given (λ s. only_if b s.head.of) ss)) ≡ only_if b (or_else of (first_given (λ s. s.head.of) ss))
implied_if true of ss = refl
implied_if false of ss = refl

-- what an object gives to its children, by its own words and those of its sources
pub implied_is : (h : Head) (ss : List Object) → implied_by (inherited_head h ss) ≡ only_if (has_of h.kind) (or_else h.of (first_given (λ s. s.head.of) ss))
implied_is h ss = implied_if (has_of h.kind) h.of ss

pub rest_more : (xs : List (Bor Object)) (i : ℕ) (x : Bor Object) → i < length xs → x ≡ get_or xs i x → drop i xs ≡ x ∷ drop (i + 1) xs
rest_more xs i x h is = drop-cons xs i x h ∙ ap (λ y. y ∷ drop (suc i) xs) (sym is) ∙ rw add-one refl

pub rest_past : (xs : List (Bor Object)) (i : ℕ) → length xs ≤ i → drop i xs ≡ []
rest_past [] zero h = refl
rest_past [] (suc i) h = refl
rest_past (x ∷ xs) zero h = absurd (omega arith)
rest_past (x ∷ xs) (suc i) h = rest_past xs i (omega arith)

abbrev pub First : List (Bor Object) → Option Words
First xs = first_given (λ s. s.head.of) (lent xs)

pub first_past : (xs : List (Bor Object)) (i : ℕ) → length xs ≤ i → First xs ≡ First (drop i xs) → None ≡ First xs
first_past xs i h e = sym (e ∙ ap First (rest_past xs i h))

else_assoc : {A : Type 0} (a b c : Option A) → or_else (or_else a b) c ≡ or_else a (or_else b c)
else_assoc None b c = refl
else_assoc (Some x) b c = refl

pub else_none : {A : Type 0} (a : Option A) → or_else a None ≡ a
else_none None = refl
else_none (Some x) = refl

-- the children of one source more
pub named_more : (all : List (Bor Object)) (i : ℕ) (s : Bor Object) (old new : Names) (n : List ℕ) → i < length all → s ≡ get_or all i s → found new n ≡ or_else (found old n) (named n (children s.now))
    → or_else (found old n) (overridden (Some n) (lent (drop i all))) ≡ overridden (Some n) (lent all)
    → or_else (found new n) (overridden (Some n) (lent (drop (i + 1) all))) ≡ overridden (Some n) (lent all)
named_more all i s old new n h is put held =
    ap (λ o. or_else o (overridden (Some n) (lent (drop (i + 1) all)))) put
    ∙ else_assoc (found old n) (named n (children s.now)) (overridden (Some n) (lent (drop (i + 1) all)))
    ∙ ap (λ l. or_else (found old n) (overridden (Some n) (lent l))) (sym (rest_more all i s h is))
    ∙ held

pub named_all : (all : List (Bor Object)) (i : ℕ) (names : Names) (n : List ℕ) → length all ≤ i → or_else (found names n) (overridden (Some n) (lent (drop i all))) ≡ overridden (Some n) (lent all) → found names n ≡ overridden (Some n) (lent all)
named_all all i names n h held = sym (else_none (found names n)) ∙ ap (λ l. or_else (found names n) (overridden (Some n) (lent l))) (sym (rest_past all i h)) ∙ held

-- the roles of an object, by what it is
pub roles_are : (lib : Contracts) (root : Bool) (h : Head) (ws : Option Words) (a : Ancestors) (r : Roles) → Are a lib (words_in ws) → r.root ≡ root → r.lobby ≡ (root && a.lobby)
    → r.point ≡ (is_some (node_path h) && (has_values h.kind && a.point)) → r.history ≡ (is_some (node_path h) && (same_kind h.kind kind.Obj && a.history))
    → r.subject ≡ (is_some (node_path h) && (same_kind h.kind kind.Obj && a.subject)) → r ≡ roles_of lib root h ws
roles_are lib root h ws a r are e1 e2 e3 e4 e5 =
    let R : Bool → Bool → Bool → Bool → Bool → Roles = λ v w x y z. record { root = v; lobby = w; point = x; history = y; subject = z } in
    let f2 = e2 ∙ ap (λ b. root && b) are.lobby in
    let f3 = e3 ∙ ap (λ b. is_some (node_path h) && (has_values h.kind && b)) are.point in
    let f4 = e4 ∙ ap (λ b. is_some (node_path h) && (same_kind h.kind kind.Obj && b)) are.history in
    let f5 = e5 ∙ ap (λ b. is_some (node_path h) && (same_kind h.kind kind.Obj && b)) are.subject in
    let w2 = root && is_a lib (words_in ws) (codes "obix:Lobby") in
    let w3 = is_some (node_path h) && (has_values h.kind && is_a lib (words_in ws) (codes "obix:WritablePoint")) in
    let w4 = is_some (node_path h) && (same_kind h.kind kind.Obj && is_a lib (words_in ws) (codes "obix:History")) in
    ap (λ v. R v r.lobby r.point r.history r.subject) e1
    ∙ ap (λ w. R root w r.point r.history r.subject) f2
    ∙ ap (λ x. R root w2 x r.history r.subject) f3
    ∙ ap (λ y. R root w2 w3 y r.subject) f4
    ∙ ap (λ z. R root w2 w3 w4 z) f5
