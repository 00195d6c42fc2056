-- Which names the children have that an own node is shown with.
use Rattle.std.proofs.Common.{◌≡◌, ℕ, ◌+◌, Bool, true, false, ◌||◌, cond, List, [], ◌∷◌, ◌++◌, map, Option, Some, None, option_map, refl, sym, ap, ap₂, ◌∙◌}
use Rattle.std.specs.Prelude.{is_some, option_and_then}
use Rattle.ob_object.specs.declared.head.Head.{Head}
use Rattle.ob_object.specs.Object.{Objects, none, node, Object, count, listed, in_row, children, listed-in_row}
use Rattle.ob_object.specs.WellFormed.{has_name, named}
use Rattle.ob_object.specs.Paths.{node_path}
use Rattle.ob_contracts.specs.Inherit.{Contracts, Words, implied_by, inherited_head, missing, bare, overridden, result_of, row_results, sources, with_defaults}
use Rattle.ob_contracts.proofs.Children.{listed-row_results, listed-row_with_defaults, named-append, named-map, named-missing}
use Rattle.ob_site_rules.specs.Build.{Path, child}
use Rattle.ob_plain_state.proofs.Kept.{some_either}
use Rattle.ob_site_rules.specs.Shown.{derived, rule_of, with_roles, with_status, with_status_at, with_status_by}
use Rattle.ob_site_rules.specs.State.{State}
use Rattle.ob_site_rules.specs.declared.plan.Plan.{Plan}
use Rattle.ob_tree.specs.Contexts.{Context, comes_to, sources_in}
use Rattle.ob_shown_laws.specs.Own.{derived_own}
use Rattle.ob_tree.specs.Children.{named_from, child_at}
use Rattle.ob_tree.specs.Laid.{head_at, leaf}
use Rattle.ob_tree.specs.Shown.{part_at, standing_at}
use Rattle.ob_shown_laws.specs.OwnTree.{own_shown_at}
use Rattle.ob_shown_laws.proofs.Owned.{part_there}
use Rattle.ob_site_reads.proofs.OwnHeads.{leaf_there}

some_mapped : {A B : Type 0} (f : A → B) (o : Option A) → is_some (option_map f o) ≡ is_some o
some_mapped f None = refl
some_mapped f (Some x) = refl

some_unless : (a b : Option Object) → (is_some a || is_some (cond (is_some a) None b)) ≡ (is_some a || is_some b)
some_unless None b = refl
some_unless (Some x) b = refl

-- an object is shown with a child of each name that its own children have, and of each that its sources have
shown_names : (n : List ℕ) (c : Context) (d : Object) → is_some (named n (children (comes_to c d))) ≡ (is_some (named n (children d)) || is_some (overridden (Some n) (sources_in c d.head)))
unfolding result_of
shown_names n c d =
    let from : List Object = sources_in c d.head in
    let implied : Option Words = implied_by (inherited_head d.head from) in
    let own : List Object = listed (row_results c.library implied from d.inner) in
    let others : List Object = map bare (missing (children d) from) in
    let made : Object = result_of c.library d c.implied c.over in
    ap (λ (os : List Object). is_some (named n os)) (listed-row_with_defaults made.inner)
    ∙ ap is_some (named-map with_defaults (λ o. refl) n (children made))
    ∙ some_mapped with_defaults (named n (children made))
    ∙ ap (λ (os : List Object). is_some (named n os)) (listed-in_row (own ++ others))
    ∙ ap is_some (named-append n own others)
    ∙ some_either (named n own) (named n others)
    ∙ ap₂ (λ (a b : Bool). a || b)
    (ap (λ (os : List Object). is_some (named n os)) (listed-row_results c.library implied from d.inner)
    ∙ ap is_some (named-map (λ o. result_of c.library o implied (overridden o.head.name from)) (λ o. refl) n (children d))
    ∙ some_mapped (λ o. result_of c.library o implied (overridden o.head.name from)) (named n (children d)))
    (ap is_some (named-map bare (λ o. refl) n (missing (children d) from))
    ∙ some_mapped bare (named n (missing (children d) from))
    ∙ ap is_some (named-missing n (children d) from))
    ∙ some_unless (named n (children d)) (overridden (Some n) from)

-- statuses leave names and sources
name_by : (plan : Plan) (s : State) (h : Head) (r : Option ℕ) → (with_status_by plan s h r).name ≡ h.name
name_by plan s h None = refl
name_by plan s h (Some rule) = refl

name_at : (plan : Plan) (s : State) (h : Head) (o : Option Path) → (with_status_at plan s h o).name ≡ h.name
name_at plan s h None = refl
name_at plan s h (Some p) = name_by plan s h (rule_of plan p)

sources_by : (plan : Plan) (s : State) (c : Context) (h : Head) (r : Option ℕ) → sources_in c (with_status_by plan s h r) ≡ sources_in c h
sources_by plan s c h None = refl
sources_by plan s c h (Some rule) = refl

sources_at : (plan : Plan) (s : State) (c : Context) (h : Head) (o : Option Path) → sources_in c (with_status_at plan s h o) ≡ sources_in c h
sources_at plan s c h None = refl
sources_at plan s c h (Some p) = sources_by plan s c h (rule_of plan p)

some_if : (b : Bool) (x y : Object) (r q : Option Object) → is_some r ≡ is_some q → is_some (cond b (Some x) r) ≡ is_some (cond b (Some y) q)
some_if true x y r q e = refl
some_if false x y r q e = e

dressed_names : (plan : Plan) (s : State) (n : List ℕ) (os : Objects) → is_some (named n (listed (with_roles plan s os))) ≡ is_some (named n (listed os))
dressed_names plan s n none = refl
dressed_names plan s n (node h inner rest) =
    let x : Object = record { head = with_status plan s h; inner = in_row (listed (with_roles plan s inner) ++ derived plan s (node_path h)) } in
    ap (λ (m : Option (List ℕ)). is_some (cond (has_name n m) (Some x) (named n (listed (with_roles plan s rest))))) (name_at plan s h (node_path h))
    ∙ some_if (has_name n h.name) x (record { head = h; inner = inner }) (named n (listed (with_roles plan s rest))) (named n (listed rest)) (dressed_names plan s n rest)

-- the children of an own object by their numbers
number_if : (b : Bool) (k : ℕ) (x : Object) (r : Option ℕ) (q : Option Object) → is_some r ≡ is_some q → is_some (cond b (Some k) r) ≡ is_some (cond b (Some x) q)
number_if true k x r q e = refl
number_if false k x r q e = e

numbered_names : (n : List ℕ) (from : ℕ) (os : Objects) → is_some (named_from from n os) ≡ is_some (named n (listed os))
numbered_names n from none = refl
numbered_names n from (node h inner rest) =
    number_if (has_name n h.name) from (record { head = h; inner = inner }) (named_from (from + (count inner + 1)) n rest) (named n (listed rest)) (numbered_names n (from + (count inner + 1)) rest)

-- An own node is shown with a child of each name that its own children have, that its roles derive, and that its own head
-- inherits.
pub shows_names : (plan : Plan) (s : State) (k : ℕ) (c : Context) (own seen : Object) (n : List ℕ) → Some c ≡ standing_at s.library k s.tree → Some own ≡ option_map leaf (head_at k s.tree) → seen ≡ comes_to c own
    → option_map (λ (o : Object). is_some (child n o)) (own_shown_at plan s k)
    ≡ Some ((is_some (child_at k n s.tree) || is_some (named n (derived plan s (node_path own.head)))) || is_some (named n (children seen)))
shows_names plan s k c own seen n stands lent sees =
    let part = part_there k s.tree own.head (leaf_there (head_at k s.tree) own lent) in
    let x : Object = part.0 in
    let d : Object = derived_own plan s x in
    let roles : List Object = derived plan s (node_path x.head) in
    let inner : List Object = listed (with_roles plan s x.inner) in
    let numbered : is_some (child_at k n s.tree) ≡ is_some (named n (children x)) =
    ap (λ (q : Option Object). is_some (option_and_then (λ p. named_from (k + 1) n p.inner) q)) part.1 ∙ numbered_names n (k + 1) x.inner in
    let owned : is_some (named n (children d)) ≡ (is_some (child_at k n s.tree) || is_some (named n (derived plan s (node_path own.head)))) =
    ap (λ (os : List Object). is_some (named n os)) (listed-in_row (inner ++ roles))
    ∙ ap is_some (named-append n inner roles)
    ∙ some_either (named n inner) (named n roles)
    ∙ ap₂ (λ (a b : Bool). a || b) (dressed_names plan s n x.inner ∙ sym numbered) (ap (λ (h : Head). is_some (named n (derived plan s (node_path h)))) part.2) in
    let inherited : is_some (overridden (Some n) (sources_in c d.head)) ≡ is_some (named n (children seen)) =
    ap (λ (os : List Object). is_some (overridden (Some n) os)) (sources_at plan s c x.head (node_path x.head))
    ∙ ap (λ (h : Head). is_some (overridden (Some n) (sources_in c h))) part.2
    ∙ sym (ap (λ (o : Object). is_some (named n (children o))) sees ∙ shown_names n c own ∙ no_own (head_at k s.tree) lent) in
    ap₂ (λ (i : Option Context) (j : Option Object). option_map (λ (o : Object). is_some (child n o)) (option_and_then (λ c. option_map (λ o. comes_to c (derived_own plan s o)) j) i)) (sym stands) part.1
    ∙ ap (λ (b : Bool). Some b) (shown_names n c d ∙ ap₂ (λ (a b : Bool). a || b) owned inherited)
  where
    some_same : {a b : Object} → Some a ≡ Some b → a ≡ b
    some_same f = cc

    no_own : (q : Option Head) → Some own ≡ option_map leaf q
        → (is_some (named n (children own)) || is_some (overridden (Some n) (sources_in c own.head))) ≡ is_some (overridden (Some n) (sources_in c own.head))
    no_own None e = absurd cc
    no_own (Some h) e = ap (λ (o : Object). is_some (named n (children o)) || is_some (overridden (Some n) (sources_in c own.head))) (some_same e)

-- what is told by one of the three
pub by_own : (a b d : Bool) → a ≡ true → ((a || b) || d) ≡ true
by_own a b d e = ap (λ (x : Bool). (x || b) || d) e

pub by_source : (a b d : Bool) → d ≡ true → ((a || b) || d) ≡ true
by_source true b d e = refl
by_source false true d e = refl
by_source false false d e = e

pub by_role : (a b d : Bool) → a ≡ false → d ≡ false → ((a || b) || d) ≡ b
by_role a true d e f = ap (λ (x : Bool). (x || true) || d) e
by_role a false d e f = ap (λ (x : Bool). (x || false) || d) e ∙ f

-- whether something is found, by what is lent of it
pub told : {A B : Type 0} (f : A → B) (r : Option A) (F : List ℕ → Option B) (m n : List ℕ) (b : Bool) → m ≡ n → option_map f r ≡ F m → b ≡ is_some r → is_some (F n) ≡ b
told f r F m n b same is found =
    sym (ap (λ (x : List ℕ). is_some (F x)) same) ∙ sym (ap is_some is) ∙ some_mapped f r ∙ sym found
