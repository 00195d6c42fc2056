-- What roles derive finds its names free among what is kept.
use Rattle.std.proofs.Common.{◌≡◌, ℕ, ◌+◌, Bool, true, false, cond, not, ◌&&◌, ◌||◌, bytes_eq, List, [], ◌∷◌, ◌++◌, map, Option, Some, None, refl, sym, ap, ◌∙◌, true≢false}
use Rattle.std.specs.Prelude.{is_some}
use Rattle.std.specs.List.{AllByRecursion, list_any}
use Rattle.ob_object.specs.declared.head.Head.{Head}
use Rattle.ob_object.specs.Object.{Object, Objects, none, node, count, listed}
use Rattle.ob_object.specs.WellFormed.{NamesDiffer, is_taken, has_name}
use Rattle.ob_object.specs.Paths.{node_path}
use Rattle.ob_contracts.proofs.Missing.{taken-append}
use Rattle.ob_site_rules.specs.Build.{Text}
use Rattle.ob_site_rules.specs.Shown.{derived}
use Rattle.ob_site_rules.specs.State.{State, is_among}
use Rattle.ob_site_rules.specs.declared.plan.Plan.{Plan}
use Rattle.ob_plain_state.specs.States.{NamesAreFree}
use Rattle.ob_plain_state.proofs.Keeping.{names_of, taken_among, taken-among}
use Rattle.ob_site_rules.specs.declared.roles.Roles.{Roles}
use Rattle.ob_site_rules.specs.Roles.{derived_names, name_among, is_dropped, holds_contracts, role_at}
use Rattle.ob_site_rules.specs.Loading.{Part, parts_of, kept_row}
use Rattle.ob_step_laws.proofs.Lists.{each_first, each_second}
use Rattle.ob_values.proofs.Bools.{neither_left, neither_right, both_false}
use Rattle.ob_step_laws.proofs.Names.{distinct}
use Rattle.ob_step_laws.proofs.Sound.{Sound}
use Rattle.ob_step_laws.proofs.Walk.{part_here}

taken_both : (n : Option Text) (xs ys : List Object) → is_taken n (xs ++ ys) ≡ (is_taken n xs || is_taken n ys)
taken_both None xs ys = refl
taken_both (Some n) xs ys = taken-append n xs ys

any_names : (n : Text) (ns : List Text) → list_any (has_name n) (map Some ns) ≡ is_among n ns
any_names n [] = refl
any_names n (m ∷ ns) = ap (λ b. bytes_eq m n || b) (any_names n ns)

-- which names objects of these names take
names_taken : (n : Option Text) (os : List Object) (ns : List Text) → names_of os ≡ map Some ns → is_taken n os ≡ name_among ns n
names_taken None os ns e = refl
names_taken (Some n) os ns e = taken-among (Some n) os ∙ ap (taken_among (Some n)) e ∙ any_names n ns

and_first : (a b : Bool) → (not a && b) ≡ true → (a ≡ false) × (b ≡ true)
and_first true b h = absurd (true≢false (sym h))
and_first false b h = (refl, h)

-- objects of distinct names
names_differ : (os : List Object) (ns : List Text) → names_of os ≡ map Some ns → distinct ns ≡ true → NamesDiffer os
names_differ [] ns e d = tt
names_differ (o ∷ os) [] e d = absurd (let f : o.head.name ∷ names_of os ≡ [] = e in cc)
names_differ (o ∷ os) (n ∷ ns) e d =
    let f : o.head.name ∷ names_of os ≡ Some n ∷ map Some ns = e in
    let first : o.head.name ≡ Some n = cc in
    let rest : names_of os ≡ map Some ns = cc in
    let two = and_first (is_among n ns) (distinct ns) d in
    (names_taken o.head.name os ns rest ∙ ap (name_among ns) first ∙ two.0, names_differ os ns rest two.1)

one_if : (b : Bool) (o : Object) → is_some {T = Object} (cond b (Some o) None) ≡ b
one_if true o = refl
one_if false o = refl

-- a name is taken by the first object, or by one behind it
taken_first : (n : Option Text) (o : Object) (os : List Object) → is_taken n (o ∷ os) ≡ (is_taken n (o ∷ []) || is_taken n os)
taken_first n o os = taken_both n (o ∷ []) os

same_one : (n : Option Text) (h : Head) (a b : Objects) → is_taken n (record { head = h; inner = a } ∷ []) ≡ is_taken n (record { head = h; inner = b } ∷ [])
same_one None h a b = refl
same_one (Some n) h a b = one_if (has_name n h.name) (record { head = h; inner = a }) ∙ sym (one_if (has_name n h.name) (record { head = h; inner = b }))

module _ (rs : List Roles) (own : Roles) where
  not_kept : (n : ℕ) (name : Option Text) (r : Objects) → is_taken name (listed r) ≡ false → is_taken name (listed (kept_row rs n own r)) ≡ false
  not_kept n name none h = h
  not_kept n name (node k inner rest) h =
      go (is_dropped own k) (not_kept (n + 1 + count inner) name rest (neither_right (is_taken name (record { head = k; inner = inner } ∷ [])) (is_taken name (listed rest)) (sym (taken_first name (record { head = k; inner = inner }) (listed rest)) ∙ h)))
    where
      both : (is_taken name (record { head = k; inner = inner } ∷ []) || is_taken name (listed rest)) ≡ false
      both = sym (taken_first name (record { head = k; inner = inner }) (listed rest)) ∙ h

      go : (b : Bool) → is_taken name (listed (kept_row rs (n + 1 + count inner) own rest)) ≡ false → is_taken name (listed (cond b (kept_row rs (n + 1 + count inner) own rest) (node k (kept_row rs (n + 1) (role_at rs n) inner) (kept_row rs (n + 1 + count inner) own rest)))) ≡ false
      go true more = more
      go false more =
          let kept : Objects = kept_row rs (n + 1) (role_at rs n) inner in
          let others : Objects = kept_row rs (n + 1 + count inner) own rest in
          taken_first name (record { head = k; inner = kept }) (listed others)
          ∙ both_false (is_taken name (record { head = k; inner = kept } ∷ [])) (is_taken name (listed others))
          (same_one name k kept inner ∙ neither_left (is_taken name (record { head = k; inner = inner } ∷ [])) (is_taken name (listed rest)) both) more

  -- kept children, and objects of the names that the roles of their parent derive
  free_behind : (n : ℕ) (r : Objects) (os : List Object) → names_of os ≡ map Some (derived_names own) → NamesDiffer os → NamesDiffer (listed r) → NamesDiffer (listed (kept_row rs n own r) ++ os)
  free_behind n none os e d differ = d
  free_behind n (node k inner rest) os e d differ = go (is_dropped own k) refl (free_behind (n + 1 + count inner) rest os e d differ.1)
    where
      go : (b : Bool) → is_dropped own k ≡ b → NamesDiffer (listed (kept_row rs (n + 1 + count inner) own rest) ++ os) → NamesDiffer (listed (cond b (kept_row rs (n + 1 + count inner) own rest) (node k (kept_row rs (n + 1) (role_at rs n) inner) (kept_row rs (n + 1 + count inner) own rest))) ++ os)
      go true is more = more
      go false is more =
          let others : Objects = kept_row rs (n + 1 + count inner) own rest in (
            taken_both k.name (listed others) os
                ∙ both_false (is_taken k.name (listed others)) (is_taken k.name os)
                (not_kept (n + 1 + count inner) k.name rest differ.0)
                (names_taken k.name os (derived_names own) e ∙ neither_left (name_among (derived_names own) k.name) _ is),
            more,
          )

-- what the roles of a part derive has the names that they derive, and no two have one name
pub record IsNamed (plan : Plan) (s : State) (q : Part) : Type 0 where
  pub names : names_of (derived plan s (node_path q.own.head)) ≡ map Some (derived_names q.roles)
  pub distinct : distinct (derived_names q.roles) ≡ true

-- so in each row that is kept the names are free
pub names_free : (plan : Plan) (s : State) (rs : List Roles) (n : ℕ) (inside : Bool) (above : Roles) (r : Objects) → Sound r → AllByRecursion (IsNamed plan s) (parts_of rs n inside above r)
    → NamesAreFree plan s (kept_row rs n above r)
names_free plan s rs n inside above none sound each = tt
names_free plan s rs n inside above (node h inner rest) sound each =
    go (is_dropped above h) each
    (λ e. names_free plan s rs (n + 1) (inside || holds_contracts above.root h) (role_at rs n) inner sound.2 e)
    (λ e. names_free plan s rs (n + 1 + count inner) inside above rest sound.3 e)
  where
    go : (b : Bool) → AllByRecursion (IsNamed plan s) (cond b [] (part_here rs n inside h inner ∷ parts_of rs (n + 1) (inside || holds_contracts above.root h) (role_at rs n) inner) ++ parts_of rs (n + 1 + count inner) inside above rest)
        → (AllByRecursion (IsNamed plan s) (parts_of rs (n + 1) (inside || holds_contracts above.root h) (role_at rs n) inner) → NamesAreFree plan s (kept_row rs (n + 1) (role_at rs n) inner))
        → (AllByRecursion (IsNamed plan s) (parts_of rs (n + 1 + count inner) inside above rest) → NamesAreFree plan s (kept_row rs (n + 1 + count inner) above rest))
        → NamesAreFree plan s (cond b (kept_row rs (n + 1 + count inner) above rest) (node h (kept_row rs (n + 1) (role_at rs n) inner) (kept_row rs (n + 1 + count inner) above rest)))
    go true e within later = later e
    go false e within later =
        let first = parts_of rs (n + 1) (inside || holds_contracts above.root h) (role_at rs n) inner in
        let second = parts_of rs (n + 1 + count inner) inside above rest in
        let new : List Object = derived plan s (node_path h) in (
          free_behind rs (role_at rs n) (n + 1) inner new e.0.names (names_differ new (derived_names (role_at rs n)) e.0.names e.0.distinct) sound.1,
          within (each_first (IsNamed plan s) first second e.1),
          later (each_second (IsNamed plan s) first second e.1),
        )
