-- The site that a document opens, or why it opens none. Source: oBIX 1.1, chapters 5 to 7 and 13 to 15; the form of the site
-- file, its refusals and their order are this profile's own.
use Rattle.std.specs.Prelude.{ℕ, ℤ, pos, ◌+◌, ◌*◌, ◌/◌, max, Bool, true, false, cond, not, ◌&&◌, ◌||◌, nat_lt, nat_le, int_lt, codes, List, [], ◌∷◌, ◌++◌, map, filter, filter_map, flat_map, find, length, Option, Some, None, is_some, is_none, unwrap_or, option_map, option_and_then, Result, Ok, Err}
use Rattle.url.specs.Parts.{Parts}
use Rattle.ob_times.specs.Times.{Instant, instant, moment_instant}
use Rattle.ob_values.specs.declared.value.Value.TheVariants as value
use Rattle.ob_object.specs.declared.kind.Kind.{Kind}
use Rattle.ob_object.specs.declared.kind.Kind.TheVariants as kind
use Rattle.ob_object.specs.declared.head.Slot.{Slot}
use Rattle.ob_object.specs.declared.head.Slot.TheVariants.{Is}
use Rattle.ob_object.specs.Kinds.{same_kind, has_values}
use Rattle.ob_object.specs.Object.{Objects, none, node, Object, children, count, parts}
use Rattle.ob_object.specs.Paths.{is_path, node_path}
use Rattle.ob_parts.specs.declared.offence.Offence.{Offence}
use Rattle.ob_parts.specs.Least.{least}
use Rattle.ob_contracts.specs.Inherit.{Contracts, slot_or_default}
use Rattle.ob_contracts.specs.Adding.{added}
use Rattle.ob_contracts.specs.declared.adding.LibFault.{LibFault}
use Rattle.ob_history.specs.declared.records.Record.{Record}
use Rattle.ob_href.specs.Href.{is_root_url}
use Rattle.ob_hrefs.specs.Hrefs.{bad_href, made_object}
use Rattle.ob_alarms.specs.declared.rule.Num.{Num}
use Rattle.ob_alarms.specs.Limits.{is_below}
use Rattle.ob_site_rules.specs.Build.{Text, Path, child}
use Rattle.ob_site_rules.specs.State.{is_among, rolled}
use Rattle.ob_site_rules.specs.declared.plan.PointRule.{PointRule}
use Rattle.ob_site_rules.specs.declared.site_rule.SiteRule.{SiteRule}
use Rattle.ob_site_rules.specs.declared.site_rule.SiteRule.TheVariants as site_rule
use Rattle.ob_site_rules.specs.Paths.{below, behind}
use Rattle.ob_site_rules.specs.Shown.{shown_root}
use Rattle.ob_site_rules.specs.Writes.{number_in, site_contracts, stored_in}
use Rattle.ob_site_rules.specs.Sites.{SiteState}
use Rattle.ob_site_rules.specs.declared.roles.Roles.{Roles}
use Rattle.ob_site_rules.specs.Roles.{no_roles, is_dropped, is_part, holds_contracts, role_at, all_roles, worded_contracts}

-- Why a document opens no site, in the order in which the refusals are looked for; a part is told by its number in the order
-- of the document, the root being 0, and with it the rule that it breaks.
pub data LoadFault : Type 0 where
  RootHref : LoadFault
  Href : (part : ℕ) → LoadFault
  Contract : (fault : LibFault) → LoadFault
  PathTwice : (path : Path) → LoadFault
  BadRule : (offence : Offence SiteRule) → LoadFault
  Size : LoadFault

-- one more contract is added, unless one before it wasn't taken
abbrev pub and_add : Result Contracts LibFault → Text → Object → Result Contracts LibFault
and_add (Err fault) uri contract = Err fault
and_add (Ok lib) uri contract = added lib uri contract

-- the library with contracts added in order, or the first that isn't taken
abbrev pub add_contracts : Result Contracts LibFault → Contracts → Result Contracts LibFault
add_contracts lib [] = lib
add_contracts lib (c ∷ cs) = add_contracts (and_add lib c.0 c.1) cs

-- An own object that is kept: its number, itself, its roles, and whether it is inside `contracts`.
pub record Part : Type 0 where
  pub number : ℕ
  pub own : Object
  pub roles : Roles
  pub inside : Bool

-- The parts of a row in order, their numbers from n on, by the roles of all objects.
abbrev pub parts_of : List Roles → ℕ → Bool → Roles → Objects → List Part
parts_of rs n inside above none = []
parts_of rs n inside above (node h inner rest) =
    cond (is_dropped above h) []
    (record { number = n; own = record { head = h; inner = inner }; roles = role_at rs n; inside = inside }
    ∷ parts_of rs (n + 1) (inside || holds_contracts above.root h) (role_at rs n) inner)
    ++ parts_of rs (n + 1 + count inner) inside above rest

-- the row without what is dropped or taken out
abbrev pub kept_row : List Roles → ℕ → Roles → Objects → Objects
kept_row rs n above none = none
kept_row rs n above (node h inner rest) =
    let others : Objects = kept_row rs (n + 1 + count inner) above rest in
    cond (is_dropped above h) others (node h (kept_row rs (n + 1) (role_at rs n) inner) others)

-- the paths that a node's roles derive
abbrev pub derived_paths : Roles → Option Path → List Path
derived_paths r None = []
derived_paths r (Some p) =
    cond r.point (below p (codes "writePoint") ∷ []) []
    ++ (cond r.history (below p (codes "query") ∷ below p (codes "feed") ∷ []) []
    ++ cond r.subject (below p (codes "query") ∷ below p (codes "feed") ∷ []) [])

-- a path, if there is one, as a list
abbrev pub listed_path : Option Path → List Path
listed_path None = []
listed_path (Some p) = p ∷ []

-- all paths in the order of the document, the derived ones behind what is in their node
abbrev pub paths_in : List Roles → ℕ → Roles → Objects → List Path
paths_in rs n above none = []
paths_in rs n above (node h inner rest) =
    cond (is_dropped above h) []
    (listed_path (node_path h) ++ (paths_in rs (n + 1) (role_at rs n) inner ++ derived_paths (role_at rs n) (node_path h)))
    ++ paths_in rs (n + 1 + count inner) above rest

-- the paths that the root's path computes
abbrev pub is_computed : Path → Path → Bool
is_computed r p =
    is_among p ((r ++ codes "about") ∷ (r ++ codes "batch") ∷ (r ++ codes "watchService") ∷ (r ++ codes "watchService/make") ∷ [])
    || (is_some (behind (r ++ codes "watch/") p) || is_some (behind (r ++ codes "alarm/") p))

-- the first path that is computed, or stood before
abbrev pub taken_twice : Path → List Path → List Path → Option Path
taken_twice r seen [] = None
taken_twice r seen (p ∷ ps) = cond (is_computed r p || is_among p seen) (Some p) (taken_twice r (p ∷ seen) ps)

-- the children of an object, with their numbers
abbrev pub numbered : ℕ → List Object → List (ℕ × Object)
numbered n [] = []
numbered n (o ∷ os) = (n, o) ∷ numbered (n + parts o) os

-- the items of an own list of this name
abbrev pub items_of : Text → Part → List (ℕ × Object)
items_of name p =
    flat_map (λ c. cond (is_part name kind.List c.1.head) (numbered (c.0 + 1) (children c.1)) []) (numbered (p.number + 1) (children p.own))

-- the time of a slot that is an abstime
abbrev pub time_of : Slot → Option Instant
time_of (Is (value.Abstime t)) = Some t
time_of _ = None

-- an object, if it is of a kind
abbrev pub of_kind : Kind → Object → Option Object
of_kind k o = cond (same_kind o.head.kind k) (Some o) None

-- the child of a name, if it is of a kind
abbrev pub child_of : Text → Kind → Object → Option Object
child_of n k o = option_and_then (of_kind k) (child n o)

-- the child `value` of a record, if its kind has values
abbrev pub value_of_record : Object → Option Object
value_of_record o = option_and_then (λ v. cond (has_values v.head.kind) (Some v) None) (child (codes "value") o)

-- the record of a time and a value, if both are there; a value that is left out is its kind's default
abbrev pub record_from : Option Instant → Option Object → Option Record
record_from None v = None
record_from (Some t) None = None
record_from (Some t) (Some v) = Some (record { time = t; kind = v.head.kind; slot = slot_or_default v.head.kind v.head.slot })

-- the time of a record, which an item has as its own child
abbrev pub time_of_record : Object → Option Instant
time_of_record o = option_and_then (λ t. time_of t.head.slot) (child_of (codes "timestamp") kind.Abstime o)

-- the record that an item of `data` is, if it is one: by its own children alone
abbrev pub record_in : Object → Option Record
record_in o = cond (same_kind o.head.kind kind.Obj) (record_from (time_of_record o) (value_of_record o)) None

-- the last moment that a site may begin at: the end of the year 9999, in milliseconds
abbrev pub last_moment : ℕ
last_moment = 253_402_300_799_999

-- whether a time is before another
abbrev pub is_earlier : Instant → Instant → Bool
is_earlier a b = int_lt (instant a) (instant b)

-- a record that is earlier than the one before it, or after the last moment
abbrev pub is_late : Option Instant → Record → Bool
is_late None r = is_earlier (moment_instant last_moment) r.time
is_late (Some before) r = is_earlier r.time before || is_earlier (moment_instant last_moment) r.time

-- the time that the next record mustn't be before
abbrev pub after_item : Option Instant → Option Record → Option Instant
after_item before None = before
after_item before (Some r) = Some r.time

-- whether an item is no record, or out of order
abbrev pub is_bad_item : Option Instant → Option Record → Bool
is_bad_item before None = true
is_bad_item before (Some r) = is_late before r

-- whether a record is earlier than the one before it
abbrev pub falls : Option Instant → Record → Bool
falls None r = false
falls (Some before) r = is_earlier r.time before

-- the first rule of records that an item breaks which is none, or is out of order
abbrev pub record_rule : Option Instant → Object → Option Record → SiteRule
record_rule before o None = cond (same_kind o.head.kind kind.Obj) (cond (is_none (time_of_record o)) site_rule.Timestamp site_rule.Value) site_rule.Kind
record_rule before o (Some r) = cond (falls before r) site_rule.Order site_rule.Late

-- the part of a number breaks a rule
abbrev pub breaks : SiteRule → ℕ → Offence SiteRule
breaks rule n = record { part = n; rule = rule }

-- the items of `data` that are no records, or out of order, each with the rule that it breaks
abbrev pub bad_records : Option Instant → List (ℕ × Object) → List (Offence SiteRule)
bad_records before [] = []
bad_records before (i ∷ items) =
    cond (is_bad_item before (record_in i.1)) (breaks (record_rule before i.1 (record_in i.1)) i.0 ∷ []) []
    ++ bad_records (after_item before (record_in i.1)) items

-- the records that a history's `data` gives
abbrev pub records_of : Part → List Record
records_of p = filter_map (λ i. record_in i.1) (items_of (codes "data") p)

-- the capacity that an int says: 1 to 1,000,000
abbrev pub capacity_by : Kind → Slot → Option ℕ
capacity_by kind.Int (Is (value.Int (pos n))) = cond (nat_le 1 n && nat_le n 1_000_000) (Some n) None
capacity_by _ _ = None

-- the own child `capacity` of a history: an int from 1 to 1,000,000
abbrev pub capacity_of : Part → Option ℕ
capacity_of p = option_and_then (λ o. capacity_by o.head.kind o.head.slot) (child (codes "capacity") p.own)

-- a child `capacity` that says none
abbrev pub has_bad_capacity : Part → Bool
has_bad_capacity p = is_some (child (codes "capacity") p.own) && is_none (capacity_of p)

-- the first history with which capacities, and the records of histories without one, are more than 1,000,000 together
abbrev pub overfull : ℕ → List Part → List (Offence SiteRule)
overfull sum [] = []
overfull sum (p ∷ ps) =
    let more : ℕ = sum + stored_in (capacity_of p) (length (records_of p)) in
    cond (nat_lt 1_000_000 more) (breaks site_rule.Total p.number ∷ []) (overfull more ps)

-- a node outside `contracts` with this path and a kind that passes
abbrev pub node_there : (Kind → Bool) → List Part → Path → Option Object
node_there fits ps p = option_map (λ q. q.own) (find (λ q. not q.inside && (fits q.own.head.kind && is_path p (node_path q.own.head))) ps)

-- the own child `source`, if it is a ref
abbrev pub source_ref : Object → Option Object
source_ref o = child_of (codes "source") kind.Ref o

-- a history whose `source` names no node of a value kind
abbrev pub has_bad_source : List Part → Part → Bool
has_bad_source ps p =
    unwrap_or (option_map (λ r. is_none (option_and_then (node_there has_values ps) r.head.href)) (source_ref p.own)) false

-- the first of the two rules that a history breaks itself
abbrev pub setting_rule : List Part → Part → SiteRule
setting_rule ps p = cond (has_bad_source ps p) site_rule.Source site_rule.Capacity

-- what is wrong with a part that is a history: with itself, and with the items of its `data`
abbrev pub bad_history : List Part → Part → List (Offence SiteRule)
bad_history ps p =
    cond p.roles.history
    (cond (has_bad_source ps p || has_bad_capacity p) (breaks (setting_rule ps p) p.number ∷ []) []
    ++ bad_records None (items_of (codes "data") p)) []

-- the number of the child of a name, if it is of this kind
abbrev pub own_number : Text → Kind → Object → Option Num
own_number n k o = option_and_then (λ c. number_in c.head.slot) (child_of n k o)

-- the truth of a slot that is a bool
abbrev pub truth_in : Slot → Option Bool
truth_in (Is (value.Bool b)) = Some b
truth_in _ = None

-- whether a kind is int or real
abbrev pub is_number_kind : Kind → Bool
is_number_kind k = same_kind k kind.Int || same_kind k kind.Real

-- the rule of a source with limits, if all are there and the high one isn't below the low one
abbrev pub rule_from : Option Path → Option Num → Option Num → Option Bool → Option PointRule
rule_from (Some p) (Some low) (Some high) (Some needs) =
    cond (is_below high low) None (Some (record { source = p; low = low; high = high; needs_ack = needs }))
rule_from _ _ _ _ = None

-- the rule that an item is on its source, if the source is there
abbrev pub rule_on : Option Path → Option Object → Object → Option PointRule
rule_on p None o = None
rule_on p (Some source) o =
    rule_from p (own_number (codes "low") source.head.kind o) (own_number (codes "high") source.head.kind o)
    (option_and_then (λ c. truth_in c.head.slot) (child_of (codes "needsAck") kind.Bool o))

-- the path that an own `source` leads to
abbrev pub source_path : Object → Option Path
source_path o = option_and_then (λ r. r.head.href) (source_ref o)

-- the rule that an item of `rules` is, if it is one
abbrev pub rule_in : List Part → Object → Option PointRule
rule_in ps o =
    let p : Option Path = source_path o in
    cond (same_kind o.head.kind kind.Obj) (rule_on p (option_and_then (node_there is_number_kind ps) p) o) None

-- whether an item is no rule, or has the source of an earlier one
abbrev pub is_bad_rule : List Path → Option PointRule → Bool
is_bad_rule seen None = true
is_bad_rule seen (Some r) = is_among r.source seen

-- the sources that the next rule mustn't have
abbrev pub after_rule : List Path → Option PointRule → List Path
after_rule seen None = seen
after_rule seen (Some r) = r.source ∷ seen

-- the first rule that limits break which aren't all there, or of which the high one is below the low one
abbrev pub limits_rule : Option Num → Option Num → SiteRule
limits_rule None high = site_rule.Low
limits_rule (Some low) None = site_rule.High
limits_rule (Some low) (Some high) = cond (is_below high low) site_rule.Bounds site_rule.NeedsAck

-- the first rule that an obj breaks on its source, if the source is there
abbrev pub source_rule : Option Object → Object → SiteRule
source_rule None o = site_rule.Source
source_rule (Some source) o =
    limits_rule (own_number (codes "low") source.head.kind o) (own_number (codes "high") source.head.kind o)

-- the first rule that an item of `rules` breaks which is none, or has the source of an earlier one
abbrev pub alarm_rule : List Part → Object → Option PointRule → SiteRule
alarm_rule ps o None =
    cond (same_kind o.head.kind kind.Obj) (source_rule (option_and_then (node_there is_number_kind ps) (source_path o)) o) site_rule.Kind
alarm_rule ps o (Some r) = site_rule.SourceTwice

-- the items of `rules` that are no rules, or have the source of an earlier one, each with the rule that it breaks
abbrev pub bad_rules : List Part → List Path → List (ℕ × Object) → List (Offence SiteRule)
bad_rules ps seen [] = []
bad_rules ps seen (i ∷ items) =
    cond (is_bad_rule seen (rule_in ps i.1)) (breaks (alarm_rule ps i.1 (rule_in ps i.1)) i.0 ∷ []) []
    ++ bad_rules ps (after_rule seen (rule_in ps i.1)) items

-- the parts that are alarm subjects
abbrev pub subjects : List Part → List Part
subjects ps = filter (λ p. p.roles.subject) ps

-- what is wrong with the rules of the first alarm subject, and each further one
abbrev pub bad_subjects : List Part → List Part → List (Offence SiteRule)
bad_subjects ps [] = []
bad_subjects ps (p ∷ others) = bad_rules ps [] (items_of (codes "rules") p) ++ map (λ q. breaks site_rule.SecondSubject q.number) others

-- the path of a part; one with a role has one
abbrev pub path_of : Part → Path
path_of p = unwrap_or (node_path p.own.head) []

-- the parts that are histories
abbrev pub histories_in : List Part → List Part
histories_in ps = filter (λ p. p.roles.history) ps

-- the part that breaks a rule of the roles, of several the first in the document; and the rule, of several at one part the first
-- in this order: a history's source, its capacity, what all histories keep together
abbrev pub bad_part : List Part → Option (Offence SiteRule)
bad_part ps = least (flat_map (bad_history ps) ps ++ (overfull 0 (histories_in ps) ++ bad_subjects ps (subjects ps)))

-- a time in milliseconds, rounded up
abbrev pub ms_up : Instant → ℕ
ms_up t = in_ms t.seconds t.nanos
  where
    in_ms : ℤ → ℕ → ℕ
    in_ms (pos s) nanos = s * 1000 + (nanos + 999_999) / 1_000_000
    in_ms _ nanos = 0

-- the greatest of these numbers and one more
abbrev pub greatest : ℕ → List ℕ → ℕ
greatest n [] = n
greatest n (k ∷ ks) = greatest (max n k) ks

-- the text of a slot that is a str or a uri
abbrev pub text_in : Slot → Option Text
text_in (Is (value.Str t)) = Some t
text_in (Is (value.Uri t)) = Some t
text_in _ = None

-- the kind of a text of About
abbrev pub about_kind : Text → Kind
about_kind n = cond (is_among n (codes "vendorUrl" ∷ codes "productUrl" ∷ [])) kind.Uri kind.Str

-- the texts that the root's own `about` gives
abbrev pub about_texts : Object → List (Text × Text)
about_texts root =
    filter_map
    (λ o. option_and_then (λ n. option_map (λ t. (n, t)) (cond (same_kind o.head.kind (about_kind n)) (text_in o.head.slot) None)) o.head.name)
    (unwrap_or (option_map children (child_of (codes "about") kind.Obj root)) [])

-- whether the root, which is the first part, is a lobby
abbrev pub root_lobby : List Part → Bool
root_lobby [] = false
root_lobby (p ∷ ps) = p.roles.lobby

-- the state that the parts of a root make, with this library and this tree
abbrev pub opened : Parts → Path → ℕ → Contracts → Object → Object → List Part → SiteState
opened base r boot lib root tree ps = record {
  plan = record {
    base = base;
    root = r;
    boot = boot;
    lobby = root_lobby ps;
    points = map path_of (filter (λ p. p.roles.point) ps);
    histories = map (λ p. (path_of p, option_and_then (λ s. s.head.href) (source_ref p.own))) (histories_in ps);
    subject = option_map path_of (find (λ p. p.roles.subject) ps);
    rules = flat_map (λ p. filter_map (λ i. rule_in ps i.1) (items_of (codes "rules") p)) (subjects ps);
    about = about_texts root;
  };
  world = record {
    time = greatest boot (map (λ x. ms_up x.time) (flat_map records_of (histories_in ps)));
    site = record {
      library = lib;
      tree = tree;
      logs = map (λ p. (path_of p, rolled (record { capacity = capacity_of p; gone = 0; kept = records_of p }))) (histories_in ps);
      alarms = [];
      events = [];
    };
    watches = [];
    next = 1;
  };
}

-- an object as a row of one
abbrev pub row_of : Object → Objects
row_of o = node o.head o.inner none

-- the root without what is dropped or taken out
abbrev pub kept_root : List Roles → Object → Object
kept_root rs root = record { head = root.head; inner = kept_row rs 1 (role_at rs 0) root.inner }

-- the refusal for a path that stands twice, before the next one
abbrev pub or_twice : Option Path → Result SiteState LoadFault → Result SiteState LoadFault
or_twice None next = next
or_twice (Some p) next = Err (PathTwice p)

-- the refusal for a part, before the next one
abbrev pub or_bad : {A : Type 0} → (A → LoadFault) → Option A → Result SiteState LoadFault → Result SiteState LoadFault
or_bad fault None next = next
or_bad fault (Some part) next = Err (fault part)

-- the refusal of a site that shows more than 200,000 parts
abbrev pub within_size : SiteState → Result SiteState LoadFault
within_size st = cond (nat_lt 200_000 (parts (shown_root st.plan st.world.site))) (Err Size) (Ok st)

-- `words` is the library with words, which tells the roles
abbrev pub opened_with : Parts → Path → ℕ → Contracts → Contracts → Object → Result SiteState LoadFault
opened_with base r boot lib words root =
    let rs : List Roles = all_roles words root in
    let ps : List Part = parts_of rs 0 false no_roles (row_of root) in
    or_twice (taken_twice r [] (paths_in rs 0 no_roles (row_of root)))
    (or_bad BadRule (bad_part ps) (within_size (opened base r boot lib root (kept_root rs root) ps)))

-- what is opened where the contracts were taken, or else their refusal
abbrev pub opened_by : Parts → Path → ℕ → Result Contracts LibFault → Contracts → Object → Result SiteState LoadFault
opened_by base r boot (Err fault) words root = Err (Contract fault)
opened_by base r boot (Ok lib) words root = opened_with base r boot lib (worded_contracts words (site_contracts root)) root

-- `root_url` is the URL that a text spells, if it is one of the web without a fragment; `resolve` is the path with its query
-- that a text leads to at the root's origin, if it leads there and has no fragment; `standard` is the library of the built-in
-- contracts, and `words` the same with their words.
module _ (root_url : Text → Option Parts) (resolve : Parts → Text → Option Path) (standard words : Contracts) where
  -- the URL of the root: an obj with an href whose path ends with a slash, without a query
  abbrev pub root_of : Object → Option Parts
  root_of o =
      cond (same_kind o.head.kind kind.Obj)
      (option_and_then (λ u. cond (is_root_url u) (Some u) None) (option_and_then root_url o.head.href)) None

  -- the root with paths in place of texts; its own path isn't resolved again
  abbrev pub made_root : Parts → Object → Object
  made_root u o = made_object (resolve u) (Some u.path) o

  -- what is opened under the URL of a root, if it has one
  abbrev pub opening_at : Object → ℕ → Option Parts → Result SiteState LoadFault
  opening_at o boot None = Err RootHref
  opening_at o boot (Some u) =
      or_bad Href (bad_href (resolve u) 1 o.inner)
      (opened_by u u.path boot (add_contracts (Ok standard) (site_contracts (made_root u o))) words (made_root u o))

  -- the state that a document's root opens at a moment, or the first refusal in order
  abbrev pub opening_of : Object → ℕ → Result SiteState LoadFault
  opening_of o boot = opening_at o boot (root_of o)
