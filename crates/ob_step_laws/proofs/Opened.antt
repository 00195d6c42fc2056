-- A state that a document opens is consistent.
use Rattle.std.proofs.Common.{◌≡◌, ℕ, ◌<◌, ◌^◌, Bool, true, false, ◌&&◌, bytes_eq, IsTrue, List, map, filter, Option, Some, None, refl, sym, ap, ◌∙◌, subst, arith}
use Rattle.std.specs.Prelude.{is_some, Ok}
use Rattle.std.specs.List.{AllByRecursion}
use Rattle.url.specs.Parts.{Parts}
use Rattle.ob_object.specs.declared.kind.Kind.{Kind}
use Rattle.ob_object.specs.Object.{Object, count, parts}
use Rattle.ob_object.specs.WellFormed.{IsWellFormed}
use Rattle.ob_object.specs.Paths.{node_path}
use Rattle.ob_contracts.specs.Inherit.{Contracts}
use Rattle.ob_contracts.specs.Standard.{standard, with_added}
use Rattle.ob_hrefs.specs.Hrefs.{site_path, made_object}
use Rattle.ob_site_rules.specs.Build.{Text, Path}
use Rattle.ob_site_rules.specs.State.{is_among, rolled}
use Rattle.ob_site_rules.specs.Shown.{node_in, node_of}
use Rattle.ob_site_rules.specs.Writes.{site_contracts}
use Rattle.ob_site_rules.specs.Sites.{SiteState}
use Rattle.ob_contracts.specs.Renewing.{AreTaken}
use Rattle.ob_plain_state.specs.States.{AreCounted, NamesAreFree, NodesAre}
use Rattle.ob_site_rules.specs.declared.roles.Roles.{Roles}
use Rattle.ob_site_rules.specs.Roles.{no_roles, all_roles, role_at, worded_contracts}
use Rattle.ob_site_rules.specs.Opening.{standard_words}
use Rattle.ob_site_rules.specs.Loading.{Part, row_of, kept_root, parts_of, kept_row, paths_in, path_of, histories_in, subjects, root_lobby, add_contracts, opened}
use Rattle.ob_step_laws.specs.Laws.{Apart, row_paths, kind_or_obj}
use Rattle.ob_step_laws.specs.Opens.{IsOpened, OpensConsistent, OpensCounted}
use Rattle.ob_step_laws.proofs.Lists.{each_more, each_two, each_filter}
use Rattle.ob_step_laws.proofs.Once.{taken_once}
use Rattle.ob_step_laws.proofs.OneKind.{apart_are_of_one_kind, there}
use Rattle.ob_step_laws.proofs.Taking.{added_are_taken}
use Rattle.ob_step_laws.proofs.Fit.{Fit, all_fit}
use Rattle.ob_step_laws.proofs.Walk.{part_here, root_parts, root_kept}
use Rattle.ob_step_laws.proofs.Contracts.{contracts_same}
use Rattle.ob_step_laws.proofs.Kept.{part_paths, root_paths, root_apart}
use Rattle.ob_step_laws.proofs.Found.{IsNodeIf, IsTold, part_at, some_at, holds, flag, all_told}
use Rattle.ob_step_laws.proofs.Sound.{Sound, formed_sound, made_sound, made_differ, made_count, slot_fits}
use Rattle.ob_step_laws.proofs.Rules.{IsFit, parts_sound, parts_kinds, rules_fit, limits_are, all_rules}
use Rattle.ob_step_laws.proofs.Roled.{is_lobby, is_point, is_history, is_subject, IsPlaced, NotBoth, all_placed, none_lobby, none_both, root_placed}
use Rattle.ob_step_laws.proofs.Free.{IsNamed, names_free}
use Rattle.ob_step_laws.proofs.Flags.{IsOneAtMost, lobby_flag, history_flag, subject_flag, is_named}
use Rattle.ob_step_laws.proofs.Counts.{IsSmall, all_small, log_of, logs_counted}
use Rattle.ob_step_laws.proofs.Begins.{Begins, begins}
use Rattle.ob_step_laws.proofs.Inverted.{Opens, all_good, one_subject}

held : (F : Part → Bool) (o : Option Part) → holds F o ≡ true → is_some o ≡ true
held F None h = absurd (let e : false ≡ true = h in cc)
held F (Some q) h = refl

-- the roles of a root, whatever the library, its parts and what is kept of it
module _ (base : Parts) (r : Path) (boot : ℕ) (lib words : Contracts) (root : Object) where
  abbrev rs : List Roles
  rs = all_roles words root

  abbrev ps : List Part
  ps = parts_of rs 0 false no_roles (row_of root)

  abbrev tree : Object
  tree = kept_root rs root

  abbrev made : SiteState
  made = opened base r boot lib root tree ps

  abbrev kind_there : Path → Kind
  kind_there p = kind_or_obj (node_in p (row_of tree))

  fits : Fit rs 0 true false false (row_of root)
  fits = all_fit words root

  parts_apart : Apart (row_paths (row_of tree)) → Apart (part_paths ps)
  parts_apart a = subst Apart (root_paths rs root) a

  points_there : Apart (part_paths ps) → (p : Path) → is_among p made.plan.points ≡ true → IsTrue (is_some (node_of p tree))
  points_there a p h =
      let nodes : AllByRecursion (IsNodeIf is_point) ps = each_more IsPlaced (IsNodeIf is_point) ps (λ q t. t.point) (all_placed rs root fits) in
      let here : is_some (part_at p ps) ≡ true = held is_point (part_at p ps) (sym (flag is_point p ps nodes a) ∙ h) in
      there p (row_of tree) ∙ ap (is_among p) (root_paths rs root) ∙ sym (some_at p ps) ∙ here

  lobby_told : node_path root.head ≡ Some r → (p : Path) → (root_lobby ps && bytes_eq p r) ≡ is_among p (map path_of (filter is_lobby ps))
  lobby_told is p =
      let rest : List Part = parts_of rs 1 false (role_at rs 0) root.inner in
      let first : Part = part_here rs 0 false root.head root.inner in
      ap (λ l. root_lobby l && bytes_eq p r) (root_parts rs root)
      ∙ lobby_flag r first rest p is (none_lobby rs 1 false (role_at rs 0) root.inner true false fits.1)
      ∙ ap (λ l. is_among p (map path_of (filter is_lobby l))) (sym (root_parts rs root))

  abbrev Known : Part → Type 0
  Known q = (IsNodeIf is_lobby q × IsPlaced q) × (NotBoth rs q × ((IsTold is_lobby ps q × IsTold is_point ps q) × (IsTold is_history ps q × IsTold is_subject ps q)))

  all_known : node_path root.head ≡ Some r → Apart (paths_in rs 0 no_roles (row_of root)) → Apart (part_paths ps) → AllByRecursion Known ps
  all_known is once apart =
      let placed : AllByRecursion IsPlaced ps = all_placed rs root fits in
      let lobby : AllByRecursion (IsNodeIf is_lobby) ps = root_placed rs root r is fits in
      each_two (λ q. IsNodeIf is_lobby q × IsPlaced q) (λ q. NotBoth rs q × ((IsTold is_lobby ps q × IsTold is_point ps q) × (IsTold is_history ps q × IsTold is_subject ps q))) ps
      (each_two (IsNodeIf is_lobby) IsPlaced ps lobby placed)
      (each_two (NotBoth rs) (λ q. (IsTold is_lobby ps q × IsTold is_point ps q) × (IsTold is_history ps q × IsTold is_subject ps q)) ps (none_both rs root fits once)
      (each_two (λ q. IsTold is_lobby ps q × IsTold is_point ps q) (λ q. IsTold is_history ps q × IsTold is_subject ps q) ps
      (each_two (IsTold is_lobby ps) (IsTold is_point ps) ps (all_told is_lobby ps lobby apart) (all_told is_point ps (each_more IsPlaced (IsNodeIf is_point) ps (λ q t. t.point) placed) apart))
      (each_two (IsTold is_history ps) (IsTold is_subject ps) ps (all_told is_history ps (each_more IsPlaced (IsNodeIf is_history) ps (λ q t. t.history) placed) apart)
      (all_told is_subject ps (each_more IsPlaced (IsNodeIf is_subject) ps (λ q t. t.subject) placed) apart))))

  named : node_path root.head ≡ Some r → IsOneAtMost (subjects ps) → (q : Part) → Known q → IsNamed made.plan made.world.site q
  named is one q k =
      is_named made.plan made.world.site q k.0.0 k.0.1 k.1.0
      (λ p e. record {
        lobby = lobby_told is p ∙ k.1.1.0.0 p e;
        point = k.1.1.0.1 p e;
        history = history_flag (λ q. rolled (log_of q)) p (histories_in ps) ∙ k.1.1.1.0 p e;
        subject = subject_flag p ps one ∙ k.1.1.1.1 p e;
      })

  consistent : node_path root.head ≡ Some r → Sound (row_of root) → AreCounted made.world.site.logs → add_contracts (Ok standard) (site_contracts root) ≡ Ok lib
      → Apart (paths_in rs 0 no_roles (row_of root)) → IsOneAtMost (subjects ps) → IsOpened made
  consistent is sound counted added once one =
      let nodes : Apart (row_paths (row_of tree)) = root_apart rs root once in
      let apart : Apart (part_paths ps) = parts_apart nodes in
      let kinds : NodesAre kind_there (row_of tree) = apart_are_of_one_kind (row_of tree) nodes in
      let kept_kinds : NodesAre kind_there (kept_row rs 0 no_roles (row_of root)) = subst (NodesAre kind_there) (sym (root_kept rs root)) kinds in
      let fit : AllByRecursion (IsFit kind_there) made.plan.rules =
      rules_fit kind_there ps (parts_kinds kind_there rs 0 false no_roles (row_of root) kept_kinds) (parts_sound rs 0 false no_roles (row_of root) sound) in
      let each : AllByRecursion (IsNamed made.plan made.world.site) ps = each_more Known (IsNamed made.plan made.world.site) ps (λ q k. named is one q k) (all_known is once apart) in
      let free : NamesAreFree made.plan made.world.site (row_of tree) =
      subst (NamesAreFree made.plan made.world.site) (root_kept rs root) (names_free made.plan made.world.site rs 0 false no_roles (row_of root) sound each) in
      let taken : AreTaken standard (site_contracts root) × (lib ≡ with_added standard (site_contracts root)) = added_are_taken standard lib (site_contracts root) added in
      let same : site_contracts tree ≡ site_contracts root = contracts_same rs root fits.1 in
      record {
        consistent = record {
          names_free = free;
          kind_at = kind_there;
          kinds = kinds;
          limits = limits_are kind_there made.plan fit;
          points = points_there apart;
          taken = subst (AreTaken standard) (sym same) taken.0;
          counted = counted;
        };
        rules = all_rules kind_there made.plan.rules fit;
        library = taken.1 ∙ ap (with_added standard) (sym same);
        alarms = refl;
        events = refl;
      }

  pub opened_consistent : (st : SiteState) → node_path root.head ≡ Some r → Sound (row_of root) → AreCounted st.world.site.logs → add_contracts (Ok standard) (site_contracts root) ≡ Ok lib
      → Opens base r boot lib words root st → IsOpened st
  opened_consistent st is sound counted added o =
      subst IsOpened o.is
      (consistent is sound (subst (λ (x : SiteState). AreCounted x.world.site.logs) (sym o.is) counted) added (taken_once r (paths_in rs 0 no_roles (row_of root)) o.once) (one_subject ps (subjects ps) (all_good ps o.good).subjects))

row_sound : (resolve : Text → Option Path) (href : Option Path) (root : Object) → IsWellFormed root → Sound (row_of (made_object resolve href root))
row_sound resolve href root w = (slot_fits root.head w.head_fits, made_differ resolve root.inner w.names_differ, made_sound resolve root.inner (formed_sound root.inner w.row), tt)

row_small : (resolve : Text → Option Path) (href : Option Path) (root : Object) (limit : ℕ) → parts root < limit → count (row_of (made_object resolve href root)) < limit
row_small resolve href root limit h = omega (arith, h, made_count resolve root.inner)

pub opens_consistent : OpensConsistent
opens_consistent root boot st w counted h =
    let b : Begins root boot st = begins root boot st h in
    let m : Object = made_object (site_path b.base) (Some b.base.path) root in
    opened_consistent b.base b.base.path boot b.lib (worded_contracts standard_words (site_contracts m)) m st b.path
    (row_sound (site_path b.base) (Some b.base.path) root w) counted b.added b.opens

-- the events of histories can be counted where the parts of the root can
made_counted : (base : Parts) (r : Path) (boot : ℕ) (lib words : Contracts) (root : Object) → count (row_of root) < 2 ^ 63 → AreCounted (made base r boot lib words root).world.site.logs
made_counted base r boot lib words root small =
    let rs : List Roles = all_roles words root in
    let ps : List Part = parts_of rs 0 false no_roles (row_of root) in
    logs_counted (histories_in ps) (each_filter (IsSmall (2 ^ 63)) is_history ps (all_small (2 ^ 63) rs 0 false no_roles (row_of root) small))

pub opens_counted : OpensCounted
opens_counted root boot st small h =
    let b : Begins root boot st = begins root boot st h in
    let m : Object = made_object (site_path b.base) (Some b.base.path) root in
    let words : Contracts = worded_contracts standard_words (site_contracts m) in
    subst (λ (x : SiteState). AreCounted x.world.site.logs) b.opens.is
    (made_counted b.base b.base.path boot b.lib words m (row_small (site_path b.base) (Some b.base.path) root (2 ^ 63) small))
