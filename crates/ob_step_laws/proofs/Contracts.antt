-- The contracts of a kept root are those of the root.
use Rattle.std.proofs.Common.{◌≡◌, ℕ, ◌+◌, Bool, true, false, cond, codes, List, [], filter_map, option_map, Option, Some, refl, sym, ap, ap₂, ◌∙◌, subst}
use Rattle.std.specs.Prelude.{unwrap_or}
use Rattle.ob_object.specs.Object.{Object, Objects, none, node, count, listed, children}
use Rattle.ob_object.specs.WellFormed.{has_name, named}
use Rattle.ob_object.specs.Paths.{node_path}
use Rattle.ob_site_rules.specs.Writes.{site_contracts}
use Rattle.ob_site_rules.specs.declared.roles.Roles.{Roles}
use Rattle.ob_site_rules.specs.Roles.{no_roles, is_dropped, role_at}
use Rattle.ob_site_rules.specs.Loading.{kept_row, kept_root}
use Rattle.ob_step_laws.proofs.Fit.{Fit}
use Rattle.ob_step_laws.proofs.Walk.{none_dropped}
use Rattle.ob_step_laws.proofs.Names.{contracts_stay}

-- inside the contracts of a site nothing is dropped
kept_same : (rs : List Roles) (n : ℕ) (root under : Bool) (above : Roles) (r : Objects) → above ≡ no_roles → Fit rs n root under true r → kept_row rs n above r ≡ r
kept_same rs n root under above none e f = refl
kept_same rs n root under above (node h inner rest) e f =
    let others : Objects = kept_row rs (n + 1 + count inner) above rest in
    let kept : Objects = node h (kept_row rs (n + 1) (role_at rs n) inner) others in
    let stays : is_dropped above h ≡ false = ap (λ (x : Roles). is_dropped x h) e ∙ none_dropped h in
    ap (λ b. cond b others kept) stays
    ∙ ap₂ (λ i r. node h i r)
    (kept_same rs (n + 1) false root (role_at rs n) inner (f.0.plain refl) f.1)
    (kept_same rs (n + 1 + count inner) root under above rest e f.2)

-- the children of the first child `contracts`
abbrev contracts_in : Objects → Option (List Object)
contracts_in r = option_map children (named (codes "contracts") (listed r))

same_contracts : (rs : List Roles) (n : ℕ) (above : Roles) (r : Objects) → Fit rs n false true false r → contracts_in (kept_row rs n above r) ≡ contracts_in r
same_contracts rs n above none f = refl
same_contracts rs n above (node h inner rest) f = by_name (has_name (codes "contracts") h.name) refl (same_contracts rs (n + 1 + count inner) above rest f.2)
  where
    skip : (d : Bool) (own others : Objects) → has_name (codes "contracts") h.name ≡ false → contracts_in (cond d others (node h own others)) ≡ contracts_in others
    skip true own others e = refl
    skip false own others e = ap (λ b. option_map children (cond b (Some (record { head = h; inner = own })) (named (codes "contracts") (listed others)))) e

    first : (own others : Objects) → has_name (codes "contracts") h.name ≡ true → contracts_in (node h own others) ≡ Some (listed own)
    first own others e = ap (λ b. option_map children (cond b (Some (record { head = h; inner = own })) (named (codes "contracts") (listed others)))) e

    by_name : (b : Bool) → has_name (codes "contracts") h.name ≡ b → contracts_in (kept_row rs (n + 1 + count inner) above rest) ≡ contracts_in rest → contracts_in (kept_row rs n above (node h inner rest)) ≡ contracts_in (node h inner rest)
    by_name true e later =
        let own : Objects = kept_row rs (n + 1) (role_at rs n) inner in
        let others : Objects = kept_row rs (n + 1 + count inner) above rest in
        let same : own ≡ inner = kept_same rs (n + 1) false false (role_at rs n) inner (f.0.plain e) (subst (λ (b : Bool). Fit rs (n + 1) false false b inner) e f.1) in
        ap (λ b. contracts_in (cond b others (node h own others))) (contracts_stay above h e)
        ∙ first own others e ∙ ap (λ (x : Objects). Some (listed x)) same ∙ sym (first inner rest e)
    by_name false e later =
        skip (is_dropped above h) (kept_row rs (n + 1) (role_at rs n) inner) (kept_row rs (n + 1 + count inner) above rest) e
        ∙ later
        ∙ sym (skip false inner rest e)

pub contracts_same : (rs : List Roles) (o : Object) → Fit rs 1 false true false o.inner → site_contracts (kept_root rs o) ≡ site_contracts o
contracts_same rs o f =
    ap (λ (x : Option (List Object)). filter_map (λ (c : Object). option_map (λ p. (p, c)) (node_path c.head)) (unwrap_or x [])) (same_contracts rs 1 (role_at rs 0) o.inner f)
