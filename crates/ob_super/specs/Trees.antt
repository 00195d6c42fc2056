-- The tree that a supervisor shows, and its places.
use Rattle.std.specs.Prelude.{ℕ, ◌+◌, Bool, true, false, bytes_eq, codes, decimal, find, List, [], ◌∷◌, ◌++◌, map, Option, Some, None, option_map}
use Rattle.std.specs.List.{flat_map}
use Rattle.std.specs.Option.{option_map_or}
use Rattle.ob_object.specs.declared.kind.Kind.TheVariants as kind
use Rattle.ob_object.specs.declared.status.Status.{Status}
use Rattle.ob_object.specs.declared.status.Status.TheVariants as status
use Rattle.ob_object.specs.declared.head.Head.{Head}
use Rattle.ob_object.specs.Facets.{no_facets}
use Rattle.ob_object.specs.Object.{Objects, none, node, Object, empty_head, in_row, children}
use Rattle.ob_watching.specs.WatchOuts.{Text, Held, without_name}
use Rattle.ob_client.specs.Mirrors.{found}
use Rattle.ob_client.specs.Shown.{shown}
use Rattle.ob_super.specs.Upstreams.{Upstream}
use Rattle.ob_super.specs.Turns.{Standing, Down, Up, held_of}

-- nothing in these has an href
abbrev pub bare : Objects → Objects
bare none = none
bare (node h below rest) = node (record h { href = None }) (bare below) (bare rest)

-- nor has the object itself one
abbrev pub bare_one : Object → Object
bare_one o = record { head = record o.head { href = None }; inner = bare o.inner }

-- an object at a place: under its path, without a name, and with no hrefs inside
abbrev pub placed : Text → Object → Object
placed path o = record { head = record o.head { name = None; href = Some path }; inner = bare o.inner }

abbrev pub root_path : Text
root_path = codes "/obix/"

-- the path of the list of an upstream of this name, and that of the object of its href at a place, from 0
abbrev pub list_at : Text → Text
list_at name = codes "/obix/" ++ (name ++ codes "/")

abbrev pub object_at : Text → ℕ → Text
object_at name i = codes "/obix/" ++ (name ++ (codes "/" ++ decimal i))

abbrev pub list_path : Upstream → Text
list_path u = list_at u.name

abbrev pub object_path : Upstream → ℕ → Text
object_path u i = object_at u.name i

-- an object that is held, the href that was asked for it, and its path in the tree
pub record Entry : Type 0 where
  pub path : Text
  pub asked : Text
  pub object : Object

-- the entry of the href at a place, under which this is held
abbrev pub the_entry : Upstream → ℕ → Text → Held → Entry
the_entry u i href h = record { path = object_path u i; asked = href; object = placed (object_path u i) (shown h) }

abbrev pub with_entry : Upstream → ℕ → Text → Option Held → List Entry → List Entry
with_entry u i href None entries = entries
with_entry u i href (Some h) entries = the_entry u i href h ∷ entries

-- what is held, in the order of the hrefs, of which the first has this place
abbrev pub entries_from : Upstream → ℕ → List Text → List Held → List Entry
entries_from u i [] held = []
entries_from u i (href ∷ hrefs) held = with_entry u i href (found href held) (entries_from u (i + 1) hrefs held)

abbrev pub entries : Upstream → List Held → List Entry
entries u held = entries_from u 0 u.hrefs held

abbrev pub status_of : Bool → Status
status_of true = status.Ok
status_of false = status.Down

-- the list of an upstream of this name
abbrev pub list_head : Text → Bool → Head
list_head name up =
    record (empty_head kind.List) { name = Some name; href = Some (list_at name); facets = record no_facets { status = Some (status_of up) } }

-- an upstream, and what is held of it, if it is up
abbrev pub View : Type 0
View = Upstream × Option (List Held)

-- the objects that are held of an upstream, at their places
abbrev pub objects : Upstream → List Held → List Object
objects u held = map (λ e. e.object) (entries u held)

-- what an upstream shows: the objects that are held, or nothing where it is down
abbrev pub subtree : View → Object
subtree (u, None) = record { head = list_head u.name false; inner = none }
subtree (u, Some held) = record { head = list_head u.name true; inner = in_row (objects u held) }

-- the tree of all upstreams
abbrev pub tree : List View → Object
tree views = record { head = record (empty_head kind.Obj) { href = Some root_path }; inner = in_row (map subtree views) }

-- ---- places

-- a list, and the objects in it
abbrev pub with_children : Object → List Object
with_children o = o ∷ children o

-- the root, the lists, and the objects in them
abbrev pub places : Object → List Object
places t = t ∷ flat_map with_children (children t)

abbrev pub has_href : Text → Object → Bool
has_href path o = option_map_or (λ href. bytes_eq href path) o.head.href false

-- what one of these shows at a path: the place that has it as its href, without a name
abbrev pub shown_among : List Object → Text → Option Object
shown_among os path = option_map without_name (find (has_href path) os)

-- what the tree shows at a path
abbrev pub shown_in : List View → Text → Option Object
shown_in views path = shown_among (places (tree views)) path

-- ---- by standings

abbrev pub view_of : Upstream → Standing → View
view_of u Down = (u, None)
view_of u (Up calls) = (u, Some (held_of u (Up calls)))

abbrev pub views_of : List Upstream → List Standing → List View
views_of (u ∷ us) (s ∷ ss) = view_of u s ∷ views_of us ss
views_of _ _ = []

-- what is shown at a path after the calls that the standings tell
abbrev pub shown_at : List Upstream → List Standing → Text → Option Object
shown_at us ss path = shown_in (views_of us ss) path

-- the first object at a path of those that are held
abbrev pub entry_in : Upstream → List Held → Text → Option Entry
entry_in u held path = find (λ e. bytes_eq e.path path) (entries u held)

-- the object that is held at a path
abbrev pub entry_at : Upstream → Standing → Text → Option Entry
entry_at u s path = entry_in u (held_of u s) path
