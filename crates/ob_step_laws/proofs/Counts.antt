-- The events of each history of a root whose parts can be counted can be counted.
use Rattle.std.proofs.Common.{ℕ, ◌+◌, ◌≤◌, ◌<◌, ◌^◌, Bool, true, false, cond, codes, List, [], ◌∷◌, map, length, filter_map, flat_map, Option, Some, None, length-append, arith}
use Rattle.std.specs.List.{AllByRecursion, cons_option}
use Rattle.ob_object.specs.declared.kind.Kind.TheVariants as kind
use Rattle.ob_object.specs.Object.{Object, Objects, none, node, count, listed, children, parts}
use Rattle.ob_history.specs.declared.records.Record.{Record}
use Rattle.ob_site_rules.specs.Build.{Text}
use Rattle.ob_site_rules.specs.State.{Log, rolled}
use Rattle.ob_plain_state.specs.States.{AreCounted}
use Rattle.ob_plain_state.proofs.Keeping.{rolled_counted}
use Rattle.ob_site_rules.specs.declared.roles.Roles.{Roles}
use Rattle.ob_site_rules.specs.Roles.{is_part}
use Rattle.ob_site_rules.specs.Loading.{Part, parts_of, numbered, items_of, record_in, records_of, capacity_of, path_of}
use Rattle.ob_step_laws.proofs.Walk.{Walks, each_part}

-- what is in a part is less than so many
abbrev pub IsSmall : ℕ → Part → Type 0
IsSmall limit q = count q.own.inner < limit

pub all_small : (limit : ℕ) (rs : List Roles) (n : ℕ) (inside : Bool) (above : Roles) (r : Objects) → count r < limit → AllByRecursion (IsSmall limit) (parts_of rs n inside above r)
all_small limit rs n inside above r s = each_part rs (IsSmall limit) (λ m up row. count row < limit) walk n inside above r s
  where
    walk : Walks rs (IsSmall limit) (λ m up row. count row < limit)
    walk = record {
      here = λ m up within h inner rest d f. omega (arith, f);
      below = λ m up h inner rest d f. omega (arith, f);
      later = λ m up h inner rest f. omega (arith, f);
    }

numbered_long : (n : ℕ) (r : Objects) → length (numbered n (listed r)) ≤ count r
numbered_long n none = omega arith
numbered_long n (node h inner rest) = omega (arith, numbered_long (n + parts (record { head = h; inner = inner })) rest)

abbrev item_row : Text → ℕ × Object → List (ℕ × Object)
item_row name c = cond (is_part name kind.List c.1.head) (numbered (c.0 + 1) (children c.1)) []

item_row_long : (name : Text) (c : ℕ × Object) → length (item_row name c) ≤ count c.1.inner
item_row_long name c = go (is_part name kind.List c.1.head)
  where
    go : (b : Bool) → length (cond b (numbered (c.0 + 1) (children c.1)) []) ≤ count c.1.inner
    go true = numbered_long (c.0 + 1) c.1.inner
    go false = omega arith

items_long : (name : Text) (n : ℕ) (r : Objects) → length (flat_map (item_row name) (numbered n (listed r))) ≤ count r
items_long name n none = omega arith
items_long name n (node h inner rest) =
    let o : Object = record { head = h; inner = inner } in
    let later = flat_map (item_row name) (numbered (n + parts o) (listed rest)) in
    omega (arith, length-append (item_row name (n, o)) later, item_row_long name (n, o), items_long name (n + parts o) rest)

map_long : (f : ℕ × Object → Option Record) (xs : List (ℕ × Object)) → length (filter_map f xs) ≤ length xs
map_long f [] = omega arith
map_long f (x ∷ xs) = go (f x) (map_long f xs)
  where
    go : (o : Option Record) → length (filter_map f xs) ≤ length xs → length (cons_option o (filter_map f xs)) ≤ length (x ∷ xs)
    go None h = omega (arith, h)
    go (Some y) h = omega (arith, h)

records_long : (q : Part) → length (records_of q) ≤ count q.own.inner
records_long q =
    let a : length (records_of q) ≤ length (items_of (codes "data") q) = map_long (λ (i : ℕ × Object). record_in i.1) (items_of (codes "data") q) in
    let b : length (items_of (codes "data") q) ≤ count q.own.inner = items_long (codes "data") (q.number + 1) q.own.inner in
    omega (arith, a, b)

between : (a b c : ℕ) → a ≤ b → b < c → 0 + a < c
between a b c h k = omega (arith, h, k)

-- the log of a history before it rolls
abbrev pub log_of : Part → Log
log_of q = record { capacity = capacity_of q; gone = 0; kept = records_of q }

pub logs_counted : (hs : List Part) → AllByRecursion (IsSmall (2 ^ 63)) hs → AreCounted (map (λ q. (path_of q, rolled (log_of q))) hs)
logs_counted [] s = tt
logs_counted (q ∷ hs) s =
    let once : AreCounted ((path_of q, log_of q) ∷ []) = (between (length (records_of q)) (count q.own.inner) (2 ^ 63) (records_long q) s.0, tt) in
    ((rolled_counted ((path_of q, log_of q) ∷ []) once).0, logs_counted hs s.1)
