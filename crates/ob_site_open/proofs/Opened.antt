-- What stands opened is what a state in place asks for.
use Rattle.std.proofs.Common.{◌≡◌, ℕ, List, [], map, replicate, None, sym, ap, ◌∙◌, subst}
use Rattle.std.specs.Prelude.{Ok}
use Rattle.std.specs.List.{All, AllByRecursion}
use Rattle.ob_object.specs.Object.{Object, parts}
use Rattle.ob_contracts.specs.Inherit.{Contracts}
use Rattle.ob_alarms.specs.Changes.{State as Board}
use Rattle.ob_tree.specs.Trees.{Stamped}
use Rattle.ob_object.specs.WellFormed.{IsWellFormed}
use Rattle.ob_alarms.specs.Limits.{IsRule}
use Rattle.ob_tree.specs.Laid.{paths}
use Rattle.ob_tree.specs.Paths.{first_twice}
use Rattle.ob_site_rules.specs.Build.{Path}
use Rattle.ob_site_rules.specs.declared.plan.Plan.{Plan}
use Rattle.ob_site_rules.specs.State.{State, Log, numbered_from, rolled_logs, roll}
use Rattle.ob_site_rules.specs.Shown.{dressed}
use Rattle.ob_site_rules.specs.Sites.{SiteState}
use Rattle.ob_site_laws.proofs.Rolling.{rolls_once}
use Rattle.ob_site_rules.specs.Opening.{opening}
use Rattle.ob_plain_state.specs.States.{AreCounted, entry_of}
use Rattle.ob_plain_state.proofs.Keeping.{rolled_counted}
use Rattle.ob_step_laws.specs.Consistent.{IsConsistent}
use Rattle.ob_step_laws.specs.Given.{IsMade}
use Rattle.ob_step_laws.specs.Laws.{Apart}
use Rattle.ob_step_laws.specs.Opens.{IsOpened}
use Rattle.ob_step_laws.specs.Ordered.{IsBy, IsOrdered}
use Rattle.ob_step_laws.proofs.Opened.{opens_consistent}
use Rattle.ob_step_laws.proofs.Ordered.{opens_ordered}
use Rattle.ob_shown_laws.specs.Alike.{row}
use Rattle.ob_shown_laws.specs.Changed.{PathsDiffer}
use Rattle.ob_step_laws.proofs.Apart.{opens_apart}
use Rattle.ob_opening_laws.specs.Records.{EachLog}
use Rattle.ob_opening_laws.proofs.Records.{opens_records}
use Rattle.ob_opening_laws.proofs.Sources.{opens_sources}
use Rattle.ob_opening_laws.proofs.Roles.{opens_roles}
use Rattle.ob_site_file.specs.Opened.{site_of, state_with}
use Rattle.ob_site_file.specs.declared.document.Opened.{Opened}
use Rattle.ob_site_state.specs.declared.contents.Contents.{Contents}
use Rattle.ob_site_state.specs.Contents.{state_in}
use Rattle.ob_site_state.specs.Standing.{RolesStand}
use Rattle.ob_site_state.specs.Kept.{LogsAreBy, IsSoundFor, keys, entry_of as entry_in}
use Rattle.ob_site_open.specs.Logs.{CanStand, HaveNanos}
use Rattle.ob_site_state.specs.Tallies.{capacities_of}
use Rattle.ob_site_open.proofs.Paths.{tree_differs, has_place}
use Rattle.ob_site_open.proofs.Standing.{logs_stand, logs_by}

-- the alarms of a plan, none yet
abbrev pub none_yet : Plan → Board
none_yet p = record { root = p.root; rules = numbered_from 0 p.rules; alarms = []; events = []; spare = 0 }

-- The contents that are filled with what stands opened.
pub record Fills (o : Opened) (c : Contents) : Type 0 where
  pub library : c.ground.library ≡ o.library
  pub tree : c.ground.tree ≡ record { root = o.tree; stamps = replicate (parts o.tree) 0; steps = 0 }
  pub logs : map entry_in c.logs.items ≡ rolled_logs (map entry_of o.logs.items)
  pub nanos : EachLog HaveNanos (map entry_in c.logs.items)
  pub board : c.board ≡ none_yet o.plan

-- the state that they make
filled : (o : Opened) (c : Contents) → Fills o c → state_in c ≡ (site_of o).world.site
filled o c f =
    ap (λ (l : Contracts). let s : State = record (state_in c) { library = l } in s) f.library
    ∙ ap (λ (t : Stamped). let s : State = record { library = o.library; tree = t.root; logs = map entry_in c.logs.items; alarms = c.board.alarms; events = c.board.events } in s) f.tree
    ∙ ap (λ (ls : List (Path × Log)). let s : State = record { library = o.library; tree = o.tree; logs = ls; alarms = c.board.alarms; events = c.board.events } in s) f.logs
    ∙ ap (λ (b : Board). let s : State = record { library = o.library; tree = o.tree; logs = rolled_logs (map entry_of o.logs.items); alarms = b.alarms; events = b.events } in s) f.board

module _ (root : Object) (boot : ℕ) (o : Opened) (formed : IsWellFormed root) (counted : AreCounted (map entry_of o.logs.items)) (h : opening root boot ≡ Ok (site_of o)) where
  abbrev st : SiteState
  st = site_of o

  is_opened : IsOpened st
  is_opened = opens_consistent root boot st formed (rolled_counted (map entry_of o.logs.items) counted) h

  pub consistent : IsConsistent st.plan st.world.site
  consistent = is_opened.consistent

  -- the library is what the site's contracts make of the built-in one
  pub library_made : (c : Contents) → Fills o c → IsMade (state_in c)
  library_made c f = subst (λ (s : State). IsMade s) (sym (filled o c f)) is_opened.library

  pub rules_fit : All IsRule (numbered_from 0 o.plan.rules)
  rules_fit = is_opened.rules

  ordered : IsOrdered st
  ordered = opens_ordered root boot st h

  pub shown_differ : PathsDiffer (row (dressed st.plan st.world.site))
  shown_differ = opens_apart root boot st h

  pub tree_differ : first_twice [] (paths o.tree) ≡ None
  tree_differ = tree_differs o.tree ordered.apart

  pub stand : EachLog CanStand (rolled_logs (map entry_of o.logs.items))
  stand = logs_stand boot st (opens_records root boot st formed h)

  pub apart : Apart (map (λ h. h.0) o.plan.histories)
  apart = ordered.histories

  roles : RolesStand st.plan st.world.site
  roles = record {
    histories = λ p named. has_place p o.tree (ordered.nodes p named);
    rules = λ p named. has_place p o.tree ((opens_roles root boot st h p).0 named);
    subject = λ p named. has_place p o.tree ((opens_roles root boot st h p).1 named);
    values = λ history p x source found. opens_sources root boot st history p x h source found;
  }

  -- what fills a state
  module _ (c : Contents) (f : Fills o c) where
    state_is : state_in c ≡ st.world.site
    state_is = filled o c f

    pub histories : keys (state_in c).logs ≡ map (λ h. h.0) o.plan.histories
    histories = ap (λ (s : State). keys s.logs) state_is ∙ ordered.logs

    pub differ : first_twice [] (paths c.ground.tree.root) ≡ None
    differ = ap (λ (t : Stamped). first_twice [] (paths t.root)) f.tree ∙ tree_differ

    pub in_time : (time : ℕ) → time ≡ st.world.time → LogsAreBy time (state_in c).logs
    in_time time e =
        subst (λ t. LogsAreBy t (state_in c).logs) (sym e)
        (logs_by st.world.time (map entry_in c.logs.items) (subst (EachLog (λ l. AllByRecursion (IsBy st.world.time) l.kept)) (sym f.logs) ordered.in_time) f.nanos)

    pub rolled : roll (state_in c) ≡ state_in c
    rolled = ap roll state_is ∙ rolls_once (state_with o.library o.tree (map entry_of o.logs.items)) ∙ sym state_is

    pub sound : IsSoundFor o.plan (state_in c)
    sound = subst (IsSoundFor o.plan) (sym state_is) (record { consistent = consistent; paths_differ = shown_differ; roles = roles })

    pub capacities : capacities_of (state_in c).logs ≡ capacities_of st.world.site.logs
    capacities = ap (λ (s : State). capacities_of s.logs) state_is
