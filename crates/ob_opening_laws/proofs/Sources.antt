-- The sources of the histories of an opened state.
use Rattle.std.proofs.Common.{◌≡◌, ℕ, Bool, true, false, cond, not, ◌&&◌, ◌||◌, bytes_eq, codes, List, [], ◌∷◌, ◌++◌, map, flat_map, find, option_map, option_and_then, Option, Some, None, refl, sym, ap, ◌∙◌, subst, true≢false}
use Rattle.std.specs.Prelude.{is_none, unwrap_or}
use Rattle.std.specs.List.{AllByRecursion}
use Rattle.std.proofs.lemmas.Slice.Eq.{bytes_eq-Decides}
use Rattle.url.specs.Parts.{Parts}
use Rattle.ob_object.specs.declared.kind.Kind.{Kind}
use Rattle.ob_object.specs.Object.{Object}
use Rattle.ob_parts.specs.declared.offence.Offence.{Offence}
use Rattle.ob_object.specs.Paths.{is_path, node_path}
use Rattle.ob_object.specs.Kinds.{has_values}
use Rattle.ob_contracts.specs.Inherit.{Contracts}
use Rattle.ob_hrefs.specs.Hrefs.{site_path, made_object}
use Rattle.ob_site_rules.specs.Build.{Path}
use Rattle.ob_site_rules.specs.State.{at, source_of}
use Rattle.ob_site_rules.specs.Shown.{node_in, node_of}
use Rattle.ob_site_rules.specs.Sites.{SiteState}
use Rattle.ob_plain_state.specs.States.{IsOfKindAt, NodesAre}
use Rattle.ob_site_rules.specs.declared.roles.Roles.{Roles}
use Rattle.ob_site_rules.specs.Roles.{no_roles, all_roles}
use Rattle.ob_site_rules.specs.Opening.{standard_words}
use Rattle.ob_site_rules.specs.Loading.{Part, row_of, kept_root, kept_row, parts_of, paths_in, path_of, histories_in, source_ref, node_there, has_bad_source, has_bad_capacity, bad_history, bad_part, bad_records, items_of, taken_twice, opened, breaks, setting_rule}
use Rattle.ob_site_rules.specs.declared.site_rule.SiteRule.{SiteRule}
use Rattle.ob_step_laws.specs.Laws.{Apart, row_paths, kind_or_obj}
use Rattle.ob_step_laws.proofs.Lists.{each_found}
use Rattle.ob_values.proofs.Bools.{neither_left}
use Rattle.ob_step_laws.proofs.Once.{taken_once}
use Rattle.ob_step_laws.proofs.OneKind.{apart_are_of_one_kind}
use Rattle.ob_step_laws.proofs.Walk.{root_kept}
use Rattle.ob_step_laws.proofs.Kept.{root_apart}
use Rattle.ob_step_laws.proofs.Rules.{IsKind, parts_kinds}
use Rattle.ob_step_laws.proofs.Records.{none_if}
use Rattle.ob_step_laws.proofs.Begins.{Begins, begins, words_of}
use Rattle.ob_step_laws.proofs.Inverted.{Opens, all_good, first_none, second_none}
use Rattle.ob_opening_laws.specs.Sources.{OpensSources}

none_some : (p : Path) → None ≡ Some p → ⊥
none_some p e = cc

-- a history that isn't bad has no source, or one that names a node with a value
abbrev own_source : Part → Option Path
own_source q = option_and_then (λ (s : Object). s.head.href) (source_ref q.own)

abbrev HasGoodSource : List Part → Part → Type 0
HasGoodSource ps q = (p : Path) → own_source q ≡ Some p → is_none (node_there has_values ps p) ≡ false

source_there : (ps : List Part) (r : Option Object) → unwrap_or (option_map (λ (s : Object). is_none (option_and_then (node_there has_values ps) s.head.href)) r) false ≡ false
    → (p : Path) → option_and_then (λ (s : Object). s.head.href) r ≡ Some p → is_none (node_there has_values ps p) ≡ false
source_there ps None h p e = absurd (none_some p e)
source_there ps (Some r) h p e = sym (ap (λ o. is_none (option_and_then (node_there has_values ps) o)) e) ∙ h

good_source : (ps : List Part) (q : Part) → bad_history ps q ≡ [] → q.roles.history ≡ true → HasGoodSource ps q
good_source ps q h is =
    let wrong : List (Offence SiteRule) = cond (has_bad_source ps q || has_bad_capacity q) (breaks (setting_rule ps q) q.number ∷ []) [] in
    let items : List (Offence SiteRule) = bad_records None (items_of (codes "data") q) in
    let both : wrong ++ items ≡ [] = subst (λ (b : Bool). cond b (wrong ++ items) [] ≡ []) is h in
    source_there ps (source_ref q.own)
    (neither_left (has_bad_source ps q) (has_bad_capacity q) (none_if (has_bad_source ps q || has_bad_capacity q) (breaks (setting_rule ps q) q.number) (first_none wrong items both)))

good_sources : (ps qs : List Part) → flat_map (bad_history ps) qs ≡ [] → AllByRecursion (HasGoodSource ps) (histories_in qs)
good_sources ps [] e = tt
good_sources ps (q ∷ qs) e = go q.roles.history refl (good_sources ps qs (second_none (bad_history ps q) (flat_map (bad_history ps) qs) e))
  where
    go : (b : Bool) → q.roles.history ≡ b → AllByRecursion (HasGoodSource ps) (histories_in qs) → AllByRecursion (HasGoodSource ps) (cond b (q ∷ histories_in qs) (histories_in qs))
    go true is rest = (good_source ps q (first_none (bad_history ps q) (flat_map (bad_history ps) qs) e) is, rest)
    go false is rest = rest

-- what holds of the source of each history holds of the one that is looked up
looked_up : (G : Path → Type 0) (h q : Path) (hs : List Part) → AllByRecursion (λ (x : Part). (p : Path) → own_source x ≡ Some p → G p) hs
    → option_and_then (λ (o : Option Path). o) (at h (map (λ x. (path_of x, own_source x)) hs)) ≡ Some q → G q
looked_up G h q [] each e = absurd (none_some q e)
looked_up G h q (x ∷ hs) each e = go (bytes_eq (path_of x) h) e (λ f. looked_up G h q hs each.1 f)
  where
    go : (b : Bool)
        → option_and_then (λ (o : Option Path). o) (option_map (λ (e : Path × Option Path). e.1) (cond b (Some (path_of x, own_source x)) (find (λ (e : Path × Option Path). bytes_eq e.0 h) (map (λ x. (path_of x, own_source x)) hs)))) ≡ Some q
        → (option_and_then (λ (o : Option Path). o) (at h (map (λ x. (path_of x, own_source x)) hs)) ≡ Some q → G q) → G q
    go true f later = each.0 q f
    go false f later = later f

and_both : (a b c : Bool) → (a && (b && c)) ≡ true → (b ≡ true) × (c ≡ true)
and_both true true c h = (refl, h)
and_both true false c h = absurd (true≢false (sym h))
and_both false b c h = absurd (true≢false (sym h))

kind_there : (kind_at : Path → Kind) (p : Path) (o : Option Path) (k : Kind) → IsOfKindAt kind_at o k → is_path p o ≡ true → k ≡ kind_at p
kind_there kind_at p None k is h = absurd (true≢false (sym h))
kind_there kind_at p (Some q) k is h = is ∙ ap kind_at ((bytes_eq-Decides q p).0 h)

-- where a node with a value has a path, the path is of a kind that has values
value_there : (kind_at : Path → Kind) (ps : List Part) (p : Path) → AllByRecursion (IsKind kind_at) ps → is_none (node_there has_values ps p) ≡ false → has_values (kind_at p) ≡ true
value_there kind_at ps p ks h = go (find (λ (q : Part). not q.inside && (has_values q.own.head.kind && is_path p (node_path q.own.head))) ps) refl h
  where
    go : (o : Option Part) → find (λ (q : Part). not q.inside && (has_values q.own.head.kind && is_path p (node_path q.own.head))) ps ≡ o
        → is_none (option_map (λ (q : Part). q.own) o) ≡ false → has_values (kind_at p) ≡ true
    go None e g = absurd (true≢false g)
    go (Some q) e g =
        let there = each_found (IsKind kind_at) (λ (q : Part). not q.inside && (has_values q.own.head.kind && is_path p (node_path q.own.head))) ps q ks e in
        let both = and_both (not q.inside) (has_values q.own.head.kind) (is_path p (node_path q.own.head)) there.1 in
        ap has_values (sym (kind_there kind_at p (node_path q.own.head) q.own.head.kind there.0 both.1)) ∙ both.0

module _ (base : Parts) (r : Path) (boot : ℕ) (lib words : Contracts) (root : Object) where
  abbrev rs : List Roles
  rs = all_roles words root

  abbrev ps : List Part
  ps = parts_of rs 0 false no_roles (row_of root)

  abbrev tree : Object
  tree = kept_root rs root

  abbrev made : SiteState
  made = opened base r boot lib root tree ps

  abbrev kind_at : Path → Kind
  kind_at p = kind_or_obj (node_in p (row_of tree))

  made_sources : taken_twice r [] (paths_in rs 0 no_roles (row_of root)) ≡ None → bad_part ps ≡ None → (h q : Path) (o : Object)
      → source_of made.plan h ≡ Some q → node_of q tree ≡ Some o → has_values o.head.kind ≡ true
  made_sources once good h q o source here =
      let nodes : Apart (row_paths (row_of tree)) = root_apart rs root (taken_once r (paths_in rs 0 no_roles (row_of root)) once) in
      let kinds : NodesAre kind_at (row_of tree) = apart_are_of_one_kind (row_of tree) nodes in
      let kept : NodesAre kind_at (kept_row rs 0 no_roles (row_of root)) = subst (NodesAre kind_at) (sym (root_kept rs root)) kinds in
      let there : is_none (node_there has_values ps q) ≡ false =
      looked_up (λ p. is_none (node_there has_values ps p) ≡ false) h q (histories_in ps) (good_sources ps ps (all_good ps good).histories) source in
      ap (λ (x : Option Object). has_values (kind_or_obj x)) (sym here)
      ∙ value_there kind_at ps q (parts_kinds kind_at rs 0 false no_roles (row_of root) kept) there

  pub opened_sources : (st : SiteState) → Opens base r boot lib words root st → (h q : Path) (o : Object)
      → source_of st.plan h ≡ Some q → node_of q st.world.site.tree ≡ Some o → has_values o.head.kind ≡ true
  opened_sources st opens h q o source here =
      made_sources opens.once opens.good h q o
      (ap (λ (x : SiteState). source_of x.plan h) opens.is ∙ source)
      (ap (λ (x : SiteState). node_of q x.world.site.tree) opens.is ∙ here)

pub opens_sources : OpensSources
opens_sources root boot st h q o opens source here =
    let b : Begins root boot st = begins root boot st opens in
    let m : Object = made_object (site_path b.base) (Some b.base.path) root in
    opened_sources b.base b.base.path boot b.lib (words_of standard_words m) m st b.opens h q o source here
