-- Objects that are shown, part by part.
use Rattle.std.proofs.Common.{◌≡◌, ℕ, ◌+◌, ◌<◌, ◌≤◌, Bool, true, false, cond, List, [], ◌∷◌, ◌++◌, map, length, take, drop, get_or, Option, Some, None, refl, sym, ap, ◌∙◌, append_assoc, append-nil, add-one, drop-cons}
use Rattle.std.specs.Prelude.{bytes_eq, find, is_some, option_map, option_and_then, slice_get, unwrap_or}
use Rattle.std.specs.List.{flat_map}
use Rattle.std.specs.Option.{option_or}
use Rattle.std.proofs.lemmas.List.{take_more, take_all, map-append, at_drop_all}
use Rattle.std.proofs.lemmas.List.Folds.{find-append}
use Rattle.std.proofs.lemmas.Option.{slice_get-get_or}
use Rattle.ob_object.specs.declared.head.Head.{Head}
use Rattle.ob_object.specs.Object.{Objects, node, Object, listed, in_row, children, listed-in_row, in_row-listed}
use Rattle.ob_object.specs.WellFormed.{has_name, named, is_taken, NamesDiffer, with_child}
use Rattle.ob_contracts.proofs.Distinct.{free_at}
use Rattle.ob_watching.specs.WatchOuts.{Text, Held, without_name}
use Rattle.ob_super.specs.Upstreams.{Upstream}
use Rattle.ob_client.specs.Mirrors.{found}
use Rattle.ob_super.specs.Trees.{bare, bare_one, root_path, list_at, object_path, Entry, the_entry, with_entry, entries_from, entry_in, objects, View, subtree, tree, with_children, has_href, shown_among, shown_in}
use Rattle.ob_super.proofs.PlaceLemmas.{at_in, at_empty, left_at, get_same}
use Rattle.ob_super.specs.declared.upstream.Followed.{Followed}
use Rattle.ob_super.specs.InHand.{entry_of, view, views, shown_over}

-- ---- without hrefs

bare_row : (os : List Object) → bare (in_row os) ≡ in_row (map bare_one os)
bare_row [] = refl
bare_row (o ∷ os) = ap (node (bare_one o).head (bare o.inner)) (bare_row os)

pub bare_children : (o : Object) → bare o.inner ≡ in_row (map bare_one (children o))
bare_children o = sym (ap bare (in_row-listed o.inner)) ∙ bare_row (children o)

-- names stay
bare_named : (n : List ℕ) (os : List Object) → is_some (named n (map bare_one os)) ≡ is_some (named n os)
bare_named n [] = refl
bare_named n (o ∷ os) = of (has_name n o.head.name) (bare_named n os)
  where
    of : (b : Bool) → is_some (named n (map bare_one os)) ≡ is_some (named n os) → is_some (cond b (Some (bare_one o)) (named n (map bare_one os))) ≡ is_some (cond b (Some o) (named n os))
    of true e = refl
    of false e = e

bare_taken : (n : Option (List ℕ)) (os : List Object) → is_taken n (map bare_one os) ≡ is_taken n os
bare_taken None os = refl
bare_taken (Some n) os = bare_named n os

-- what was copied of an object's children
abbrev pub IsCopied : Object → Head → ℕ → Object → Type 0
IsCopied made head i object = made ≡ (let o : Object = record { head = head; inner = in_row (map bare_one (take i (children object))) } in o)

pub copied_free : (made object : Object) (head : Head) (i : ℕ) (child copy : Object) → IsCopied made head i object → NamesDiffer (children object) → i < length (children object)
    → child ≡ get_or (children object) i child → copy ≡ bare_one child → is_taken copy.head.name (children made) ≡ false
copied_free made object head i child copy is differ lt at same =
    ap (λ (o : Object). is_taken copy.head.name (children o)) is
    ∙ ap (is_taken copy.head.name) (listed-in_row (map bare_one (take i (children object))))
    ∙ ap (λ (o : Object). is_taken o.head.name (map bare_one (take i (children object)))) same
    ∙ bare_taken child.head.name (take i (children object))
    ∙ free_at (children object) i child differ (ap (λ (o : Object). Some o) at ∙ sym (slice_get-get_or (children object) i child lt))

bare_more : (os : List Object) (i : ℕ) (o : Object) → i < length os → o ≡ get_or os i o → map bare_one (take i os) ++ bare_one o ∷ [] ≡ map bare_one (take (i + 1) os)
bare_more os i o lt at = sym (map-append bare_one (take i os) (o ∷ [])) ∙ ap (λ (x : Object). map bare_one (take i os ++ x ∷ [])) at ∙ sym (ap (map bare_one) (take_more os i o lt))

pub copied_more : (made new object : Object) (head : Head) (i : ℕ) (child copy : Object) → IsCopied made head i object → i < length (children object)
    → child ≡ get_or (children object) i child → copy ≡ bare_one child → new ≡ with_child made copy → IsCopied new head (i + 1) object
copied_more made new object head i child copy is lt at same put =
    put ∙ ap (λ (o : Object). with_child o copy) is
    ∙ ap (λ (os : List Object). let o : Object = record { head = head; inner = in_row (os ++ copy ∷ []) } in o) (listed-in_row (map bare_one (take i (children object))))
    ∙ ap (λ (c : Object). let o : Object = record { head = head; inner = in_row (map bare_one (take i (children object)) ++ c ∷ []) } in o) same
    ∙ ap (λ (os : List Object). let o : Object = record { head = head; inner = in_row os } in o) (bare_more (children object) i child lt at)

pub copied_all : (made object : Object) (i : ℕ) → IsCopied made (record object.head { href = None }) i object → length (children object) ≤ i → made ≡ bare_one object
copied_all made object i is le =
    is ∙ ap (λ (os : List Object). let o : Object = record { head = record object.head { href = None }; inner = in_row (map bare_one os) } in o) (take_all i (children object) le)
    ∙ ap (λ (r : Objects). let o : Object = record { head = record object.head { href = None }; inner = r } in o) (sym (bare_children object))

-- ---- what is shown of one upstream

abbrev object_of : Entry → Object
object_of e = e.object

entry_shown : (u : Upstream) (path : Text) (i : ℕ) (href : Text) (h : Option Held) (es : List Entry)
    → shown_among (map object_of es) path ≡ option_map object_of (find (λ (e : Entry). bytes_eq e.path path) es)
    → shown_among (map object_of (with_entry u i href h es)) path ≡ option_map object_of (find (λ (e : Entry). bytes_eq e.path path) (with_entry u i href h es))
entry_shown u path i href None es e = e
entry_shown u path i href (Some h) es e = of (bytes_eq (object_path u i) path)
  where
    of : (b : Bool) → option_map without_name (cond b (Some (the_entry u i href h).object) (find (has_href path) (map object_of es)))
        ≡ option_map object_of (cond b (Some (the_entry u i href h)) (find (λ (e : Entry). bytes_eq e.path path) es))
    of true = refl
    of false = e

objects_shown : (u : Upstream) (held : List Held) (path : Text) (i : ℕ) (hrefs : List Text) → shown_among (map object_of (entries_from u i hrefs held)) path ≡ option_map object_of (at_in u held path i hrefs)
objects_shown u held path i [] = refl
objects_shown u held path i (href ∷ hrefs) =
    entry_shown u path i href (found href held) (entries_from u (i + 1) hrefs held) (objects_shown u held path (i + 1) hrefs)

-- ---- what is put in a list

abbrev left : Upstream → List Held → ℕ → List Object
left u held i = map object_of (entries_from u i (drop i u.hrefs) held)

abbrev in_front_of : Option Object → List Object → List Object
in_front_of None os = os
in_front_of (Some o) os = o ∷ os

entry_left : (u : Upstream) (held : List Held) (i : ℕ) → i < length u.hrefs → left u held i ≡ in_front_of (option_map object_of (entry_of u held i)) (left u held (i + 1))
entry_left u held i lt =
    let blank : Text = [] in
    let x = get_or u.hrefs i blank in
    ap (λ (hs : List Text). map object_of (entries_from u i hs held)) (left_at u.hrefs i x lt (get_same u.hrefs i blank x lt))
    ∙ of x (found x held)
    ∙ ap (λ (h : Option Text). in_front_of (option_map object_of (option_and_then (λ (href : Text). option_map (λ (one : Held). the_entry u i href one) (found href held)) h)) (left u held (i + 1))) (sym (slice_get-get_or u.hrefs i blank lt))
  where
    of : (x : Text) (h : Option Held) → map object_of (with_entry u i x h (entries_from u (i + 1) (drop (i + 1) u.hrefs) held)) ≡ in_front_of (option_map object_of (option_map (λ (one : Held). the_entry u i x one) h)) (left u held (i + 1))
    of x None = refl
    of x (Some one) = refl

-- the list has what is held of the hrefs before a place
pub record IsPut (u : Upstream) (held : List Held) (head : Head) (i : ℕ) (list : Object) : Type 0 where
  pub head_is : list.head ≡ head
  pub rest : objects u held ≡ children list ++ left u held i

pub put_first : (u : Upstream) (held : List Held) (list : Object) → children list ≡ [] → IsPut u held list.head 0 list
put_first u held list empty = record { head_is = refl; rest = ap (λ (os : List Object). os ++ objects u held) (sym empty) }

pub put_none : (u : Upstream) (held : List Held) (head : Head) (i : ℕ) (list : Object) → i < length u.hrefs → None ≡ option_map object_of (entry_of u held i) → IsPut u held head i list → IsPut u held head (i + 1) list
put_none u held head i list lt e put = record {
  head_is = put.head_is;
  rest = put.rest ∙ ap (λ (os : List Object). children list ++ os) (entry_left u held i lt ∙ ap (λ (o : Option Object). in_front_of o (left u held (i + 1))) (sym e));
}

pub put_some : (u : Upstream) (held : List Held) (head : Head) (i : ℕ) (list new copy : Object) → i < length u.hrefs → Some copy ≡ option_map object_of (entry_of u held i) → new ≡ with_child list copy
    → IsPut u held head i list → IsPut u held head (i + 1) new
put_some u held head i list new copy lt e is put = record {
  head_is = ap (λ (o : Object). o.head) is ∙ put.head_is;
  rest = put.rest ∙ ap (λ (os : List Object). children list ++ os) (entry_left u held i lt ∙ ap (λ (o : Option Object). in_front_of o (left u held (i + 1))) (sym e))
      ∙ sym (append_assoc (children list) (copy ∷ []) (left u held (i + 1)))
      ∙ ap (λ (os : List Object). os ++ left u held (i + 1)) (sym (listed-in_row (children list ++ copy ∷ [])) ∙ ap (λ (o : Object). children o) (sym is));
}

pub put_all : (u : Upstream) (held : List Held) (head : Head) (i : ℕ) (list : Object) → length u.hrefs ≤ i → IsPut u held head i list → list ≡ (let o : Object = record { head = head; inner = in_row (objects u held) } in o)
put_all u held head i list le put =
    ap (λ (r : Objects). let o : Object = record { head = list.head; inner = r } in o) (sym (in_row-listed list.inner)
    ∙ ap in_row (sym (put.rest ∙ ap (λ (os : List Object). children list ++ os) (at_drop_all (λ (hs : List Text). map object_of (entries_from u i hs held)) u.hrefs i le) ∙ append-nil (children list))))
    ∙ ap (λ (h : Head). let o : Object = record { head = h; inner = in_row (objects u held) } in o) put.head_is

pub no_name : (u : Upstream) (held : List Held) (i : ℕ) (copy : Object) → Some copy ≡ option_map object_of (entry_of u held i) → copy.head.name ≡ None
no_name u held i copy e = of (slice_get u.hrefs i) e
  where
    held_name : (href : Text) (h : Option Held) → Some copy ≡ option_map object_of (option_map (λ (one : Held). the_entry u i href one) h) → copy.head.name ≡ None
    held_name href None e = absurd (let x : Some copy ≡ None = e in cc)
    held_name href (Some one) e = ap (λ (o : Object). o.head.name) (let x : copy ≡ (the_entry u i href one).object = cc in x)

    of : (h : Option Text) → Some copy ≡ option_map object_of (option_and_then (λ (href : Text). option_map (λ (one : Held). the_entry u i href one) (found href held)) h) → copy.head.name ≡ None
    of None e = absurd (let x : Some copy ≡ None = e in cc)
    of (Some href) e = held_name href (found href held) e

-- ---- what is shown of its objects

-- what is held of one that is up, or down
abbrev pub held_of_view : Option (List Held) → List Held
held_of_view held = unwrap_or held []

-- the list of an upstream stands at its path
pub list_shown : (v : View) (path : Text) → bytes_eq (list_at v.0.name) path ≡ true → shown_among (with_children (subtree v)) path ≡ Some (without_name (subtree v))
list_shown (u, None) path e = ap (λ b. option_map without_name (cond b (Some (subtree (u, None))) None)) e
list_shown (u, Some held) path e =
    ap (λ b. option_map without_name (cond b (Some (subtree (u, Some held))) (find (has_href path) (listed (in_row (objects u held)))))) e

-- its objects at theirs
pub object_shown : (v : View) (path : Text) → bytes_eq (list_at v.0.name) path ≡ false
    → shown_among (with_children (subtree v)) path ≡ option_map object_of (entry_in v.0 (held_of_view v.1) path)
object_shown (u, None) path e =
    ap (λ b. option_map without_name (cond b (Some (subtree (u, None))) None)) e ∙ sym (ap (option_map object_of) (at_empty u path 0 u.hrefs))
object_shown (u, Some held) path e =
    ap (λ b. option_map without_name (cond b (Some (subtree (u, Some held))) (find (has_href path) (listed (in_row (objects u held)))))) e
    ∙ ap (λ (os : List Object). shown_among os path) (listed-in_row (objects u held))
    ∙ objects_shown u held path 0 u.hrefs

-- ---- upstream by upstream

map_or : (f : Object → Object) (a b : Option Object) → option_map f (option_or a b) ≡ option_or (option_map f a) (option_map f b)
map_or f None b = refl
map_or f (Some x) b = refl

shown_both : (xs ys : List Object) (path : Text) → shown_among (xs ++ ys) path ≡ option_or (shown_among xs path) (shown_among ys path)
shown_both xs ys path = ap (option_map without_name) (find-append (has_href path) xs ys) ∙ map_or without_name (find (has_href path) xs) (find (has_href path) ys)

abbrev pub among_lists : List View → Text → Option Object
among_lists views path = shown_among (flat_map with_children (map subtree views)) path

pub lists_next : (v : View) (vs : List View) (path : Text) → among_lists (v ∷ vs) path ≡ option_or (shown_among (with_children (subtree v)) path) (among_lists vs path)
lists_next v vs path = shown_both (with_children (subtree v)) (flat_map with_children (map subtree vs)) path

-- the first that has a place of the path shows it
pub lists_here : (v : View) (vs : List View) (path : Text) (o : Object) → Some o ≡ shown_among (with_children (subtree v)) path → among_lists (v ∷ vs) path ≡ Some o
lists_here v vs path o e = lists_next v vs path ∙ ap (λ (x : Option Object). option_or x (among_lists vs path)) (sym e)

pub lists_past : (v : View) (vs : List View) (path : Text) → None ≡ shown_among (with_children (subtree v)) path → among_lists (v ∷ vs) path ≡ among_lists vs path
lists_past v vs path e = lists_next v vs path ∙ ap (λ (x : Option Object). option_or x (among_lists vs path)) (sym e)

-- ---- the whole tree

pub root_shown : (vs : List View) (path : Text) → bytes_eq root_path path ≡ true → shown_in vs path ≡ Some (tree vs)
root_shown vs path e = ap (λ b. option_map without_name (cond b (Some (tree vs)) (find (has_href path) (flat_map with_children (children (tree vs)))))) e

pub below_shown : (vs : List View) (path : Text) → bytes_eq root_path path ≡ false → shown_in vs path ≡ among_lists vs path
below_shown vs path e =
    ap (λ b. option_map without_name (cond b (Some (tree vs)) (find (has_href path) (flat_map with_children (children (tree vs)))))) e
    ∙ ap (λ (os : List Object). shown_among (flat_map with_children os) path) (listed-in_row (map subtree vs))

-- ---- upstream by upstream, as a loop goes

module _ {L : Type 0} where
  rest_at : (all : List (Followed L)) (i : ℕ) (f : Followed L) → i < length all → f ≡ get_or all i f → drop i all ≡ f ∷ drop (i + 1) all
  rest_at all i f lt is =
      drop-cons all i f lt ∙ ap (λ (n : ℕ). get_or all i f ∷ drop n all) (sym (add-one i)) ∙ ap (λ (y : Followed L). y ∷ drop (i + 1) all) (sym is)

  pub over_here : (all : List (Followed L)) (i : ℕ) (f : Followed L) (path : Text) (o : Object) → i < length all → f ≡ get_or all i f → Some o ≡ shown_among (with_children (subtree (view f))) path
      → shown_over all path ≡ shown_over (drop i all) path → shown_over all path ≡ Some o
  over_here all i f path o lt is here so = so ∙ ap (λ (fs : List (Followed L)). shown_over fs path) (rest_at all i f lt is) ∙ lists_here (view f) (views (drop (i + 1) all)) path o here

  pub over_past : (all : List (Followed L)) (i : ℕ) (f : Followed L) (path : Text) → i < length all → f ≡ get_or all i f → None ≡ shown_among (with_children (subtree (view f))) path
      → shown_over all path ≡ shown_over (drop i all) path → shown_over all path ≡ shown_over (drop (i + 1) all) path
  over_past all i f path lt is past so = so ∙ ap (λ (fs : List (Followed L)). shown_over fs path) (rest_at all i f lt is) ∙ lists_past (view f) (views (drop (i + 1) all)) path past

  pub over_none : (all : List (Followed L)) (i : ℕ) (path : Text) → length all ≤ i → shown_over all path ≡ shown_over (drop i all) path → shown_over all path ≡ None
  over_none all i path le so = so ∙ at_drop_all (λ (fs : List (Followed L)). shown_over fs path) all i le

  -- the tree of those before a place
  abbrev pub tree_to : ℕ → List (Followed L) → Object
  tree_to i all = tree (views (take i all))

  lists_more : (all : List (Followed L)) (i : ℕ) (f : Followed L) → i < length all → f ≡ get_or all i f → map subtree (views (take i all)) ++ subtree (view f) ∷ [] ≡ map subtree (views (take (i + 1) all))
  lists_more all i f lt is =
      sym (map-append subtree (views (take i all)) (view f ∷ []))
      ∙ ap (map subtree) (sym (map-append view (take i all) (f ∷ [])))
      ∙ ap (λ (x : Followed L). map subtree (views (take i all ++ x ∷ []))) is
      ∙ sym (ap (λ (fs : List (Followed L)). map subtree (views fs)) (take_more all i f lt))

  pub tree_more : (all : List (Followed L)) (i : ℕ) (f : Followed L) (root new list : Object) → i < length all → f ≡ get_or all i f → root ≡ tree_to i all → list ≡ subtree (view f) → new ≡ with_child root list
      → new ≡ tree_to (i + 1) all
  tree_more all i f root new list lt is at same put =
      put ∙ ap (λ (r : Object). with_child r list) at
      ∙ ap (λ (os : List Object). let o : Object = record { head = (tree_to i all).head; inner = in_row (os ++ list ∷ []) } in o) (listed-in_row (map subtree (views (take i all))))
      ∙ ap (λ (c : Object). let o : Object = record { head = (tree_to i all).head; inner = in_row (map subtree (views (take i all)) ++ c ∷ []) } in o) same
      ∙ ap (λ (os : List Object). let o : Object = record { head = (tree_to i all).head; inner = in_row os } in o) (lists_more all i f lt is)

  pub tree_all : (all : List (Followed L)) (i : ℕ) (root : Object) → length all ≤ i → root ≡ tree_to i all → root ≡ tree (views all)
  tree_all all i root le at = at ∙ ap (λ (fs : List (Followed L)). tree (views fs)) (take_all i all le)

  -- the children of the tree so far
  pub tree_children : (all : List (Followed L)) (i : ℕ) (root : Object) → root ≡ tree_to i all → children root ≡ map subtree (views (take i all))
  tree_children all i root at = ap (λ (r : Object). children r) at ∙ listed-in_row (map subtree (views (take i all)))
