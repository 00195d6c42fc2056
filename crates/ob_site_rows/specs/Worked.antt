-- Sites on which requests are worked.
use Rattle.std.specs.Prelude.{ℕ, ◌+◌, ◌*◌, ◌^◌, pos, true, false, cond, ◌==◌, codes, List, [], ◌∷◌, ◌++◌, Option, Some, None, option_map, option_and_then}
use Rattle.url.specs.Parts.{Parts}
use Rattle.url.specs.declared.host.Host.TheVariants.{Domain}
use Rattle.ob_times.specs.Times.{Instant}
use Rattle.ob_values.specs.declared.value.Value.{Value}
use Rattle.ob_values.specs.declared.value.Value.TheVariants as value
use Rattle.ob_values.specs.declared.verb.Verb.TheVariants.{Get, Put, Post}
use Rattle.ob_object.specs.declared.kind.Kind.{Kind}
use Rattle.ob_object.specs.declared.kind.Kind.TheVariants as kind
use Rattle.ob_object.specs.declared.head.Slot.TheVariants.{Is}
use Rattle.ob_object.specs.declared.head.Head.{Head}
use Rattle.ob_object.specs.Facets.{no_facets}
use Rattle.ob_object.specs.Object.{Object, empty_head}
use Rattle.ob_contracts.specs.Standard.{with_added, standard}
use Rattle.ob_history.specs.declared.records.Record.{Record}
use Rattle.ob_alarms.specs.declared.rule.Num.TheVariants as num
use Rattle.ob_site_rules.specs.declared.request.Request.{Request}
use Rattle.ob_site_rules.specs.Build.{Text, Path, whole, leaf, word, number_slot, ref_to}
use Rattle.ob_site_rules.specs.declared.plan.Plan.{Plan}
use Rattle.ob_site_rules.specs.State.{Log}
use Rattle.ob_site_rules.specs.Paths.{behind, behind_slash}
use Rattle.ob_site_rules.specs.Writes.{site_contracts}
use Rattle.ob_site_rules.specs.Sites.{SiteState, step}

-- `http://h/obix/`
abbrev pub base : Parts
base = record {
  scheme = codes "http";
  username = [];
  password = [];
  host = Some (Domain (codes "h"));
  port = None;
  path = codes "/obix/";
  query = None;
  fragment = None;
}

-- a path as it stands, or that of an http URL
abbrev pub locate : Parts → Text → Option Path
locate from [] = None
locate from (c ∷ cs) =
    cond (c == 47) (Some (c ∷ cs)) (option_map (λ t. 47 ∷ t) (option_and_then behind_slash (behind (codes "http://") (c ∷ cs))))

abbrev pub number : ℕ → Option Value
number n = Some (value.Int (pos n))

abbrev pub real : ℕ → Value
real n = value.Real (pos (n * 10 ^ 18))

abbrev pub int_child : Text → ℕ → Option Value → Option Value → Object
int_child n k low high = leaf (record (empty_head kind.Int) { name = Some n; slot = number_slot k; facets = record no_facets { min = low; max = high } })

abbrev node_head : Kind → Text → Head
node_head k n = record (empty_head k) { name = Some n; href = Some (codes "/obix/" ++ n) }

abbrev a : Text
a = codes "/obix/def/A"

abbrev b : Text
b = codes "/obix/def/B"

abbrev contract_a : Object
contract_a = whole (record (empty_head kind.Obj) { href = Some a }) (int_child (codes "x") 1 (number 0) None ∷ [])

-- the same, with a part that can be written
abbrev contract_with_node : Object
contract_with_node =
    whole (record (empty_head kind.Obj) { href = Some a })
    (leaf (record (empty_head kind.Int) { name = Some (codes "x"); href = Some (codes "/obix/def/A/x"); slot = number_slot 1; facets = record no_facets { min = number 0; writable = Some true } })
    ∷ [])

abbrev contract_b : Object
contract_b = whole (record (empty_head kind.Obj) { href = Some b }) (int_child (codes "x") 2 (number 5) (number 9) ∷ int_child (codes "y") 3 None None ∷ [])

-- the plant's site, by its first contract and the children of its history
abbrev tree : Object → List Object → Object
tree first of_history =
    whole (record (empty_head kind.Obj) { href = Some (codes "/obix/"); is = word (codes "obix:Lobby") })
    (whole (record (empty_head kind.List) { name = Some (codes "contracts") }) (first ∷ contract_b ∷ [])
    ∷ leaf (record (node_head kind.Obj (codes "p")) { is = Some (a ∷ b ∷ []) })
    ∷ leaf (record (node_head kind.Obj (codes "q")) { is = Some (b ∷ a ∷ []) })
    ∷ whole (record (node_head kind.List (codes "l")) { of = word b }) (leaf (empty_head kind.Obj) ∷ [])
    ∷ whole (record (node_head kind.Obj (codes "r")) { is = word b }) (int_child (codes "x") 6 None None ∷ [])
    ∷ leaf (record (node_head kind.Int (codes "n")) { slot = number_slot 7; facets = record no_facets { min = number 0; max = number 10; writable = Some true } })
    ∷ leaf (record (node_head kind.Int (codes "k")) { slot = number_slot 1 })
    ∷ leaf (record (node_head kind.Real (codes "t")) { is = word (codes "obix:WritablePoint"); slot = Is (real 20); facets = record no_facets { writable = Some true } })
    ∷ whole (record (node_head kind.Obj (codes "h")) { is = word (codes "obix:History") }) of_history
    ∷ leaf (record (node_head kind.Obj (codes "alarms")) { is = word (codes "obix:AlarmSubject") })
    ∷ [])

-- 2026-01-05T07:00:00Z, and seconds after it
abbrev pub seven : ℕ → Instant
seven s = record { seconds = pos (1_767_596_400 + s); nanos = 0; offset = pos 0 }

abbrev first : ℕ → ℕ → Record
first s n = record { time = seven s; kind = kind.Real; slot = Is (real n) }

abbrev pub plan : Plan
plan = record {
  base = base;
  root = codes "/obix/";
  boot = 1_767_600_000_000;
  lobby = true;
  points = codes "/obix/t" ∷ [];
  histories = (codes "/obix/h", Some (codes "/obix/t")) ∷ [];
  subject = Some (codes "/obix/alarms");
  rules = record { source = codes "/obix/t"; low = num.Real (pos (10 * 10 ^ 18)); high = num.Real (pos (30 * 10 ^ 18)); needs_ack = true } ∷ [];
  about = [];
}

-- a state without watches and alarms
abbrev pub state : Plan → ℕ → Object → List (Path × Log) → SiteState
state plan now root logs = record {
  plan = plan;
  world = record {
    time = now;
    site = record {
      library = with_added standard (site_contracts root);
      tree = root;
      logs = logs;
      alarms = [];
      events = [];
    };
    watches = [];
    next = 1;
  };
}

abbrev source : Object
source = ref_to (codes "source") (codes "/obix/t") None

-- a plant: contracts, objects of them, an int, a writable point, its history, and the subject of its alarms
abbrev pub plant : SiteState
plant = state plan 1_767_600_000_000 (tree contract_a (source ∷ []))
    ((codes "/obix/h", record { capacity = None; gone = 0; kept = first 0 20 ∷ first 600 21 ∷ first 600 22 ∷ first 1200 23 ∷ [] }) ∷ [])

-- the same, with a history that keeps two records
abbrev pub rolling : SiteState
rolling = state plan 1_767_600_000_000 (tree contract_a (int_child (codes "capacity") 2 None None ∷ source ∷ []))
    ((codes "/obix/h", record { capacity = Some 2; gone = 2; kept = first 600 22 ∷ first 1200 23 ∷ [] }) ∷ [])

-- the same as the plant, with a contract of which a part can be written
abbrev pub with_default : SiteState
with_default = state plan 1_767_600_000_000 (tree contract_with_node (source ∷ []))
    ((codes "/obix/h", record { capacity = None; gone = 0; kept = [] }) ∷ [])

-- a site with nothing but nodes, and perhaps a history
abbrev pub bare_plan : List (Path × Option Path) → Plan
bare_plan histories = record {
  base = base;
  root = codes "/obix/";
  boot = 0;
  lobby = false;
  points = [];
  histories = histories;
  subject = None;
  rules = [];
  about = [];
}

abbrev root_with : List Object → Object
root_with os = whole (record (empty_head kind.Obj) { href = Some (codes "/obix/") }) os

-- a site of one node, opened at moment 0
abbrev pub small : SiteState
small = state (bare_plan []) 0 (root_with (leaf (record (empty_head kind.Int) { href = Some (codes "/obix/n"); slot = number_slot 7 }) ∷ [])) []

abbrev writable : Kind → Text → Head
writable k p = record (empty_head k) { href = Some p; facets = record no_facets { writable = Some true } }

-- an int without a value of its own, and its history
abbrev pub unset : SiteState
unset = state (bare_plan ((codes "/obix/g", Some (codes "/obix/d")) ∷ [])) 0
    (root_with (
    leaf (writable kind.Int (codes "/obix/d"))
    ∷ leaf (record (empty_head kind.Obj) { href = Some (codes "/obix/g"); is = word (codes "obix:History") })
    ∷ []
    ))
    ((codes "/obix/g", record { capacity = None; gone = 0; kept = [] }) ∷ [])

-- a point inside two objects, beside another one
abbrev pub nested : SiteState
nested = state (bare_plan []) 0
    (root_with (
    whole (record (empty_head kind.Obj) { href = Some (codes "/obix/a") })
    (whole (record (empty_head kind.Obj) { href = Some (codes "/obix/a/b") }) (leaf (writable kind.Int (codes "/obix/a/b/v")) ∷ []) ∷ [])
    ∷ leaf (writable kind.Int (codes "/obix/w"))
    ∷ []
    )) []

-- the replies to requests, a second apart
abbrev pub replies_from : ℕ → SiteState → List Request → List Object
replies_from moment s [] = []
replies_from moment s (r ∷ rs) =
    let done : SiteState × Object = step locate s r moment in
    done.1 ∷ replies_from (moment + 1000) done.0 rs

-- the first of them at the moment of the site
abbrev pub replies : SiteState → List Request → List Object
replies s rs = replies_from s.world.time s rs

-- the same at given moments
abbrev pub replies_at : SiteState → List (ℕ × Request) → List Object
replies_at s [] = []
replies_at s (r ∷ rs) =
    let done : SiteState × Object = step locate s r.1 r.0 in
    done.1 ∷ replies_at done.0 rs

abbrev pub get : Text → Request
get t = record { verb = Get; target = t; body = None }

abbrev pub put : Text → Object → Request
put t o = record { verb = Put; target = t; body = Some o }

abbrev pub post : Text → Object → Request
post t o = record { verb = Post; target = t; body = Some o }

abbrev pub call : Text → Request
call t = record { verb = Post; target = t; body = None }
