-- The words of an object, what it is by them, and its roles. Source: oBIX 1.1, chapter 7 (Contracts), and for what the roles
-- are chapters 5, 13, 14 and 15. Roles, and what they derive, are this profile's own.
use Rattle.std.specs.Prelude.{ℕ, Bool, true, false, cond, ◌&&◌, ◌||◌, codes, List, [], ◌∷◌, ◌++◌, Option, Some, None, is_some, unwrap_or, slice_get}
use Rattle.ob_object.specs.declared.kind.Kind.{Kind}
use Rattle.ob_object.specs.declared.kind.Kind.TheVariants as kind
use Rattle.ob_object.specs.declared.head.Head.{Head}
use Rattle.ob_object.specs.Kinds.{same_kind, has_values}
use Rattle.ob_object.specs.Object.{Objects, none, node, Object, empty_head, listed, in_row}
use Rattle.ob_object.specs.WellFormed.{has_name}
use Rattle.ob_object.specs.Paths.{node_path}
use Rattle.ob_contracts.specs.Inherit.{Contracts, Words, words_in, sources, overridden, inherited_head, implied_by, missing}
use Rattle.ob_contracts.specs.Ancestry.{is_a, own_words}
use Rattle.ob_site_rules.specs.declared.roles.Roles.{Roles}
use Rattle.ob_site_rules.specs.Build.{Text}
use Rattle.ob_site_rules.specs.State.{is_among}

-- a kind, a name, words as `is`, and the words that a list or a feed gives; nothing else tells roles
abbrev pub thin : Head → Option Words → Option Words → Head
thin h ws gives = record (empty_head h.kind) { name = h.name; is = ws; of = gives }

-- The results of a row, each with its words as `is`, where those in the library have theirs. So the words of a child that
-- another one overrides are known.
abbrev pub worded_row : Contracts → Option Words → List Object → Objects → Objects
worded_row lib implied above none = none
worded_row lib implied above (node h below rest) =
    let from = sources lib h implied (overridden h.name above) in
    node
    (thin h (own_words h implied (overridden h.name above)) (implied_by (inherited_head h from)))
    (in_row (listed (worded_row lib (implied_by (inherited_head h from)) from below) ++ missing (listed below) from))
    (worded_row lib implied above rest)

-- a contract with its words at every depth
abbrev pub worded : Contracts → Object → Object
worded lib o = first_or o (listed (worded_row lib None [] (node o.head o.inner none)))
  where
    first_or : Object → List Object → Object
    first_or o [] = o
    first_or o (p ∷ ps) = p

-- the contracts, each with its words at every depth
abbrev pub worded_contracts : Contracts → List (Text × Object) → Contracts
worded_contracts lib [] = lib
worded_contracts lib (c ∷ cs) = worded_contracts (lib ++ (c.0, worded lib c.1) ∷ []) cs

-- no role
abbrev pub no_roles : Roles
no_roles = record { root = false; lobby = false; point = false; history = false; subject = false }

-- the roles of an object with these words
abbrev pub roles_of : Contracts → Bool → Head → Option Words → Roles
roles_of lib root h ws = record {
  root = root;
  lobby = root && is_a lib (words_in ws) (codes "obix:Lobby");
  point = is_some (node_path h) && (has_values h.kind && is_a lib (words_in ws) (codes "obix:WritablePoint"));
  history = is_some (node_path h) && (same_kind h.kind kind.Obj && is_a lib (words_in ws) (codes "obix:History"));
  subject = is_some (node_path h) && (same_kind h.kind kind.Obj && is_a lib (words_in ws) (codes "obix:AlarmSubject"));
}

-- the names that roles derive
abbrev pub derived_names : Roles → List Text
derived_names r =
    cond r.lobby (codes "about" ∷ codes "batch" ∷ codes "watchService" ∷ []) []
    ++ (cond r.point (codes "writePoint" ∷ []) []
    ++ (cond r.history (codes "count" ∷ codes "start" ∷ codes "end" ∷ codes "query" ∷ codes "feed" ∷ []) []
    ++ cond r.subject (codes "count" ∷ codes "query" ∷ codes "feed" ∷ []) []))

-- whether a head has this name and this kind
abbrev pub is_part : Text → Kind → Head → Bool
is_part n k h = has_name n h.name && same_kind h.kind k

-- whether a name, if there is one, is one of these
abbrev pub name_among : List Text → Option Text → Bool
name_among ns None = false
name_among ns (Some n) = is_among n ns

-- an own child that is dropped or taken out
abbrev pub is_dropped : Roles → Head → Bool
is_dropped r h =
    name_among (derived_names r) h.name
    || ((r.history && is_part (codes "data") kind.List h)
    || ((r.subject && is_part (codes "rules") kind.List h)
    || (r.root && is_part (codes "about") kind.Obj h)))

-- whether what is in a child of an object is inside the contracts of the site
abbrev pub holds_contracts : Bool → Head → Bool
holds_contracts root h = root && has_name (codes "contracts") h.name

-- the roles of an object, which inside the contracts of the site has none
abbrev pub roles_there : Contracts → Bool → Bool → Head → Option Words → Roles
roles_there lib root inside h ws = cond inside no_roles (roles_of lib root h ws)

-- The roles of the objects of a row, and of those in them, in the order of the document. The row is the root alone, or is in
-- the root, or is inside the contracts of the site; a list or a feed round it gives words, and the object round it has sources.
-- The root's own child `contracts` has no role, and neither has what is in it.
abbrev pub row_roles : Contracts → Bool → Bool → Bool → Option Words → List Object → Objects → List Roles
row_roles lib root under inside implied above none = []
row_roles lib root under inside implied above (node h inner rest) =
    let from = sources lib h implied (overridden h.name above) in
    (roles_there lib root (inside || holds_contracts under h) h (own_words h implied (overridden h.name above))
    ∷ row_roles lib false root (inside || holds_contracts under h) (implied_by (inherited_head h from)) from inner)
    ++ row_roles lib root under inside implied above rest

-- the roles of a root and of what is in it
abbrev pub all_roles : Contracts → Object → List Roles
all_roles lib root = row_roles lib true false false None [] (node root.head root.inner none)

-- the roles of the object of a number
abbrev pub role_at : List Roles → ℕ → Roles
role_at rs n = unwrap_or (slice_get rs n) no_roles
