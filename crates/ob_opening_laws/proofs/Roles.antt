-- The paths of the rules' sources and of the subject of an opened state.
use Rattle.std.proofs.Common.{◌≡◌, ℕ, Bool, true, false, cond, not, ◌&&◌, ◌||◌, bytes_eq, codes, List, [], ◌∷◌, map, filter_map, flat_map, find, option_map, option_and_then, Option, Some, None, refl, sym, ap, ◌∙◌, subst, true≢false}
use Rattle.std.specs.Prelude.{is_none, is_some, unwrap_or}
use Rattle.std.specs.List.{AllByRecursion}
use Rattle.std.proofs.lemmas.Slice.Eq.{bytes_eq-Decides}
use Rattle.url.specs.Parts.{Parts}
use Rattle.ob_object.specs.declared.kind.Kind.{Kind}
use Rattle.ob_object.specs.declared.kind.Kind.TheVariants as kind
use Rattle.ob_object.specs.Kinds.{same_kind}
use Rattle.ob_object.specs.Object.{Object}
use Rattle.ob_object.specs.Paths.{is_path, node_path}
use Rattle.ob_contracts.specs.Inherit.{Contracts}
use Rattle.ob_alarms.specs.declared.rule.Num.{Num}
use Rattle.ob_alarms.specs.Limits.{is_below}
use Rattle.ob_hrefs.specs.Hrefs.{site_path, made_object}
use Rattle.ob_site_rules.specs.Build.{Path}
use Rattle.ob_site_rules.specs.State.{is_among}
use Rattle.ob_site_rules.specs.declared.plan.PointRule.{PointRule}
use Rattle.ob_site_rules.specs.Sites.{SiteState}
use Rattle.ob_site_rules.specs.declared.roles.Roles.{Roles}
use Rattle.ob_site_rules.specs.Roles.{no_roles, all_roles}
use Rattle.ob_site_rules.specs.Opening.{standard_words}
use Rattle.ob_site_rules.specs.Loading.{Part, row_of, kept_root, parts_of, path_of, listed_path, items_of, source_ref, node_there, is_number_kind, own_number, truth_in, child_of, rule_from, rule_on, rule_in, subjects, opened}
use Rattle.ob_step_laws.specs.Laws.{row_paths}
use Rattle.ob_step_laws.proofs.Lists.{each_flat_map, each_filter_map, each_more}
use Rattle.ob_values.proofs.Bools.{or_true}
use Rattle.ob_step_laws.proofs.OneKind.{among_append, listed_is}
use Rattle.ob_values.proofs.Lists.{bytes_itself}
use Rattle.ob_step_laws.proofs.Kept.{part_paths, root_paths}
use Rattle.ob_step_laws.proofs.Fit.{all_fit}
use Rattle.ob_step_laws.proofs.Found.{IsNodeIf}
use Rattle.ob_step_laws.proofs.Roled.{is_subject, IsPlaced, all_placed}
use Rattle.ob_step_laws.proofs.Begins.{Begins, begins, words_of}
use Rattle.ob_step_laws.proofs.Inverted.{Opens}
use Rattle.ob_opening_laws.specs.Roles.{OpensRoles}

no_rule : (r : PointRule) → None ≡ Some r → ⊥
no_rule r e = cc

-- the source of a rule is the path that it was made from
made_if : (b : Bool) (q r : PointRule) → cond b None (Some q) ≡ Some r → q ≡ r
made_if true q r h = absurd (no_rule r h)
made_if false q r h = let e : Some q ≡ Some r = h in cc

from_path : (p : Option Path) (low high : Option Num) (needs : Option Bool) (r : PointRule) → rule_from p low high needs ≡ Some r → p ≡ Some r.source
from_path None low high needs r h = absurd (no_rule r h)
from_path (Some p) None high needs r h = absurd (no_rule r h)
from_path (Some p) (Some low) None needs r h = absurd (no_rule r h)
from_path (Some p) (Some low) (Some high) None r h = absurd (no_rule r h)
from_path (Some p) (Some low) (Some high) (Some needs) r h =
    let made : PointRule = record { source = p; low = low; high = high; needs_ack = needs } in
    ap (λ (x : PointRule). Some x.source) (made_if (is_below high low) made r h)

on_found : (p : Option Path) (source : Option Object) (o : Object) (r : PointRule) → rule_on p source o ≡ Some r → (p ≡ Some r.source) × (is_none source ≡ false)
on_found p None o r h = absurd (no_rule r h)
on_found p (Some source) o r h = (
  from_path p (own_number (codes "low") source.head.kind o) (own_number (codes "high") source.head.kind o)
      (option_and_then (λ (c : Object). truth_in c.head.slot) (child_of (codes "needsAck") kind.Bool o)) r h,
  refl,
)

abbrev named_source : Object → Option Path
named_source o = option_and_then (λ (x : Object). x.head.href) (source_ref o)

rule_found : (ps : List Part) (o : Object) (r : PointRule) → rule_in ps o ≡ Some r → is_none (node_there is_number_kind ps r.source) ≡ false
rule_found ps o r h = go (same_kind o.head.kind kind.Obj) h
  where
    go : (b : Bool) → cond b (rule_on (named_source o) (option_and_then (node_there is_number_kind ps) (named_source o)) o) None ≡ Some r
        → is_none (node_there is_number_kind ps r.source) ≡ false
    go true g =
        let both = on_found (named_source o) (option_and_then (node_there is_number_kind ps) (named_source o)) o r g in
        sym (ap (λ (x : Option Path). is_none (option_and_then (node_there is_number_kind ps) x)) both.0) ∙ both.1
    go false g = absurd (no_rule r g)

-- what is found at a path is a part of that path
and_last : (a b c : Bool) → (a && (b && c)) ≡ true → c ≡ true
and_last true true c h = h
and_last true false c h = absurd (true≢false (sym h))
and_last false b c h = absurd (true≢false (sym h))

here_among : (p : Path) (q : Part) (ps : List Part) → is_path p (node_path q.own.head) ≡ true → is_among p (part_paths (q ∷ ps)) ≡ true
here_among p q ps h =
    among_append p (listed_path (node_path q.own.head)) (part_paths ps)
    ∙ ap (λ b. b || is_among p (part_paths ps)) (listed_is p (node_path q.own.head) ∙ h)

later_among : (p : Path) (q : Part) (ps : List Part) → is_among p (part_paths ps) ≡ true → is_among p (part_paths (q ∷ ps)) ≡ true
later_among p q ps h =
    among_append p (listed_path (node_path q.own.head)) (part_paths ps)
    ∙ ap (λ b. is_among p (listed_path (node_path q.own.head)) || b) h
    ∙ or_true (is_among p (listed_path (node_path q.own.head)))

there_among : (fits : Kind → Bool) (ps : List Part) (p : Path) → is_none (node_there fits ps p) ≡ false → is_among p (part_paths ps) ≡ true
there_among fits [] p h = absurd (true≢false h)
there_among fits (q ∷ ps) p h = go (not q.inside && (fits q.own.head.kind && is_path p (node_path q.own.head))) refl h (λ g. there_among fits ps p g)
  where
    go : (b : Bool) → (not q.inside && (fits q.own.head.kind && is_path p (node_path q.own.head))) ≡ b
        → is_none (option_map (λ (x : Part). x.own) (cond b (Some q) (find (λ (x : Part). not x.inside && (fits x.own.head.kind && is_path p (node_path x.own.head))) ps))) ≡ false
        → (is_none (node_there fits ps p) ≡ false → is_among p (part_paths ps) ≡ true) → is_among p (part_paths (q ∷ ps)) ≡ true
    go true is g later = here_among p q ps (and_last (not q.inside) (fits q.own.head.kind) (is_path p (node_path q.own.head)) is)
    go false is g later = later_among p q ps (later g)

-- the sources of rules are among the paths of parts
abbrev HasPart : List Part → PointRule → Type 0
HasPart ps r = is_among r.source (part_paths ps) ≡ true

each_is : {A : Type 0} (P : A → Type 0) (xs : List A) → ((x : A) → P x) → AllByRecursion P xs
each_is P [] f = tt
each_is P (x ∷ xs) f = (f x, each_is P xs f)

rules_among : (ps qs : List Part)
    → AllByRecursion (HasPart ps) (flat_map (λ (q : Part). filter_map (λ (i : ℕ × Object). rule_in ps i.1) (items_of (codes "rules") q)) qs)
rules_among ps qs =
    each_flat_map (HasPart ps) (λ (q : Part). filter_map (λ (i : ℕ × Object). rule_in ps i.1) (items_of (codes "rules") q)) qs
    (each_is (λ (q : Part). AllByRecursion (HasPart ps) (filter_map (λ (i : ℕ × Object). rule_in ps i.1) (items_of (codes "rules") q))) qs of_part)
  where
    of_part : (q : Part) → AllByRecursion (HasPart ps) (filter_map (λ (i : ℕ × Object). rule_in ps i.1) (items_of (codes "rules") q))
    of_part q =
        each_filter_map (HasPart ps) (λ (i : ℕ × Object). rule_in ps i.1) (items_of (codes "rules") q)
        (each_is (λ (i : ℕ × Object). (r : PointRule) → rule_in ps i.1 ≡ Some r → HasPart ps r) (items_of (codes "rules") q)
        (λ i r h. there_among is_number_kind ps r.source (rule_found ps i.1 r h)))

source_among : (ps : List Part) (p : Path) (rules : List PointRule) → AllByRecursion (HasPart ps) rules → is_among p (map (λ (r : PointRule). r.source) rules) ≡ true
    → is_among p (part_paths ps) ≡ true
source_among ps p [] e h = absurd (true≢false (sym h))
source_among ps p (r ∷ rules) e h = go (bytes_eq r.source p) refl h (λ g. source_among ps p rules e.1 g)
  where
    go : (b : Bool) → bytes_eq r.source p ≡ b → (b || is_among p (map (λ (x : PointRule). x.source) rules)) ≡ true
        → (is_among p (map (λ (x : PointRule). x.source) rules) ≡ true → is_among p (part_paths ps) ≡ true) → is_among p (part_paths ps) ≡ true
    go true is g later = subst (λ (x : Path). is_among x (part_paths ps) ≡ true) ((bytes_eq-Decides r.source p).0 is) e.0
    go false is g later = later g

-- so is the path of the subject
path_there : (o : Option Path) → is_some o ≡ true → is_path (unwrap_or o []) o ≡ true
path_there None h = absurd (true≢false (sym h))
path_there (Some p) h = bytes_itself p

no_path : (p : Path) → None ≡ Some p → ⊥
no_path p e = cc

found_among : (F : Part → Bool) (ps : List Part) (p : Path) → AllByRecursion (IsNodeIf F) ps → option_map path_of (find F ps) ≡ Some p → is_among p (part_paths ps) ≡ true
found_among F [] p e h = absurd (no_path p h)
found_among F (q ∷ ps) p e h = go (F q) refl h (λ g. found_among F ps p e.1 g)
  where
    go : (b : Bool) → F q ≡ b → option_map path_of (cond b (Some q) (find F ps)) ≡ Some p
        → (option_map path_of (find F ps) ≡ Some p → is_among p (part_paths ps) ≡ true) → is_among p (part_paths (q ∷ ps)) ≡ true
    go true is g later =
        let same : Some (path_of q) ≡ Some p = g in
        let path : path_of q ≡ p = cc in
        here_among p q ps (subst (λ (x : Path). is_path x (node_path q.own.head) ≡ true) path (path_there (node_path q.own.head) (e.0 is)))
    go false is g later = later_among p q ps (later g)

-- own nodes of a state
pub record NamesNodes (st : SiteState) (p : Path) : Type 0 where
  pub rules : is_among p (map (λ (r : PointRule). r.source) st.plan.rules) ≡ true → is_among p (row_paths (row_of st.world.site.tree)) ≡ true
  pub subject : st.plan.subject ≡ Some p → is_among p (row_paths (row_of st.world.site.tree)) ≡ true

module _ (base : Parts) (r : Path) (boot : ℕ) (lib words : Contracts) (root : Object) where
  abbrev rs : List Roles
  rs = all_roles words root

  abbrev ps : List Part
  ps = parts_of rs 0 false no_roles (row_of root)

  abbrev made : SiteState
  made = opened base r boot lib root (kept_root rs root) ps

  made_names : (p : Path) → NamesNodes made p
  made_names p =
      let placed : AllByRecursion (IsNodeIf is_subject) ps = each_more IsPlaced (IsNodeIf is_subject) ps (λ q t. t.subject) (all_placed rs root (all_fit words root)) in
      let of_parts : is_among p (part_paths ps) ≡ true → is_among p (row_paths (row_of (kept_root rs root))) ≡ true = λ h. ap (is_among p) (root_paths rs root) ∙ h in
      record {
        rules = λ h. of_parts (source_among ps p made.plan.rules (rules_among ps (subjects ps)) h);
        subject = λ h. of_parts (found_among is_subject ps p placed h);
      }

  pub opened_names : (st : SiteState) → Opens base r boot lib words root st → (p : Path) → NamesNodes st p
  opened_names st o p = subst (λ (x : SiteState). NamesNodes x p) o.is (made_names p)

pub opens_roles : OpensRoles
opens_roles root boot st h p =
    let b : Begins root boot st = begins root boot st h in
    let m : Object = made_object (site_path b.base) (Some b.base.path) root in
    let names : NamesNodes st p = opened_names b.base b.base.path boot b.lib (words_of standard_words m) m st b.opens p in
    (names.rules, names.subject)
