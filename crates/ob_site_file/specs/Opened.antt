-- What the parts of a document's root open, in which no part breaks a rule of the roles.
use Rattle.std.specs.Prelude.{ℕ, codes, List, [], map, filter, find, Option, Some, None, option_map, option_and_then, ◌≡◌, Result, Ok}
use Rattle.std.specs.List.{filter_map}
use Rattle.url.specs.Parts.{Parts}
use Rattle.ob_object.specs.Object.{Object}
use Rattle.ob_contracts.specs.Inherit.{Contracts}
use Rattle.ob_contracts.specs.Standard.{standard}
use Rattle.ob_site_rules.specs.Build.{Path}
use Rattle.ob_site_rules.specs.declared.plan.PointRule.{PointRule}
use Rattle.ob_site_rules.specs.declared.plan.Plan.{Plan}
use Rattle.ob_site_rules.specs.State.{Log, State, roll}
use Rattle.ob_site_rules.specs.Sites.{SiteState}
use Rattle.ob_site_rules.specs.Writes.{site_contracts}
use Rattle.ob_site_rules.specs.Opening.{standard_words}
use Rattle.ob_site_rules.specs.Loading.{Part, path_of, capacity_of, records_of, histories_in, source_ref, items_of, rule_in, about_texts, root_lobby, kept_root, add_contracts, opened_by, LoadFault}
use Rattle.ob_step_laws.specs.Ordered.{opening_time}
use Rattle.ob_plain_state.specs.States.{entry_of, AreCounted}
use Rattle.ob_site_file.specs.Passes.{site_roles, site_parts}
use Rattle.ob_site_file.specs.declared.document.Opened.{Opened}

-- a history and its source
abbrev pub history_entry : Part → Path × Option Path
history_entry p = (path_of p, option_and_then (λ s. s.head.href) (source_ref p.own))

-- its log with all of its records
abbrev pub whole_log : Part → Path × Log
whole_log p = (path_of p, record { capacity = capacity_of p; gone = 0; kept = records_of p })

-- the rules of the alarm subject, if there is one
abbrev pub rules_at : List Part → Option Part → List PointRule
rules_at ps None = []
rules_at ps (Some p) = filter_map (λ i. rule_in ps i.1) (items_of (codes "rules") p)

abbrev pub subject_of : List Part → Option Part
subject_of ps = find (λ p. p.roles.subject) ps

-- what is fixed of the site
abbrev pub plan_with : Parts → ℕ → Object → List Part → Plan
plan_with base boot root ps = record {
  base = base;
  root = base.path;
  boot = boot;
  lobby = root_lobby ps;
  points = map path_of (filter (λ p. p.roles.point) ps);
  histories = map history_entry (histories_in ps);
  subject = option_map path_of (subject_of ps);
  rules = rules_at ps (subject_of ps);
  about = about_texts root;
}

-- what changes of a site with these logs, before the oldest records of each history roll off
abbrev pub state_with : Contracts → Object → List (Path × Log) → State
state_with lib tree logs = record { library = lib; tree = tree; logs = logs; alarms = []; events = [] }

-- the site of a plan and of what changes, as it is opened
abbrev pub site_with : Plan → State → SiteState
site_with plan s = record {
  plan = plan;
  world = record { time = opening_time plan.boot s.logs; site = roll s; watches = []; next = 1 };
}

-- the site that stands opened
abbrev pub site_of : Opened → SiteState
site_of o = site_with o.plan (state_with o.library o.tree (map entry_of o.logs.items))

-- what stands opened of a root with this library, as far as it is planned
pub record Plans (base : Parts) (boot : ℕ) (root : Object) (lib : Contracts) (o : Opened) : Type 0 where
  pub library : o.library ≡ lib
  pub plan : o.plan ≡ plan_with base boot root (site_parts root)
  pub tree : o.tree ≡ kept_root (site_roles root) root
  pub logs : map entry_of o.logs.items ≡ map whole_log (histories_in (site_parts root))
  pub counted : AreCounted (map entry_of o.logs.items)

-- what a root with paths opens, by the definition
abbrev pub opened_made : Parts → ℕ → Object → Result SiteState LoadFault
opened_made base boot root = opened_by base base.path boot (add_contracts (Ok standard) (site_contracts root)) standard_words root
