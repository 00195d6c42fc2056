-- A tree in document order is the site's.
use Rattle.std.proofs.Common.{ℕ, ◌≡◌, zero, suc, ◌+◌, ◌-◌, ◌<◌, ◌≤◌, Bool, true, false, ◌&&◌, ◌||◌, cond, List, [], ◌∷◌, ◌++◌, Option, Some, None, option_map, refl, sym, ap, ap₂, ◌∙◌, arith}
use Rattle.std.specs.Prelude.{is_some, nat_lt, nat_le, option_and_then}
use Rattle.std.proofs.lemmas.Bool.Decides.{nat_tests}
use Rattle.std.proofs.lemmas.List.{map-append}
use Rattle.ob_values.proofs.Bools.{neither}
use Rattle.ob_object.specs.declared.head.Head.{Head}
use Rattle.ob_object.specs.declared.head.Slot.{Slot}
use Rattle.ob_object.specs.Object.{Objects, none, node, Object, count, parts}
use Rattle.ob_object.specs.Paths.{is_path, node_path}
use Rattle.ob_site_rules.specs.Build.{Path}
use Rattle.ob_site_rules.specs.Shown.{dressed}
use Rattle.ob_site_rules.specs.Writes.{with_slot, with_slot_in}
use Rattle.ob_tree.specs.Contexts.{HandedDown, handed_down, under}
use Rattle.ob_shown_laws.specs.Standing.{Standing, effective, root_standing}
use Rattle.ob_shown_laws.specs.Changed.{is_in, is_round, PathsDiffer}
use Rattle.ob_shown_laws.specs.Numbered.{number_in, numbered, root_row}
use Rattle.ob_shown_laws.proofs.Standings.{node_of-effective}
use Rattle.ob_shown_laws.proofs.Reaching.{at_row}
use Rattle.ob_shown_laws.proofs.Numbering.{Found, Here, Below, Behind, found, number_there, number_less, numbers_tell}
use Rattle.ob_tree.specs.Shown.{row, part_in, at_top, handed, handed_in, effective_in, shown_at}
use Rattle.ob_tree.specs.Laid.{heads, changed_in, changed}
use Rattle.ob_tree.specs.Paths.{place_of, first_twice}
use Rattle.ob_shown_laws.specs.Bridges.{TreeShows, PathsAreDifferent, SlotIsSet, NodesAreNumbered}
use Rattle.ob_shown_laws.proofs.Places.{row_paths, paths_by_row, number_place, place_at, has, has-append, in_parts, apart}

numbered_shown : (r : HandedDown) (n : ℕ) (os : Objects) → option_map effective (numbered n r os) ≡ option_map (effective_in (handed_in r n os)) (part_in n os)
numbered_shown r n none = refl
numbered_shown r zero (node h inner rest) = refl
numbered_shown r (suc n) (node h inner rest) =
    go (nat_lt n (count inner)) (numbered_shown (handed r h) n inner) (numbered_shown r (n - count inner) rest)
  where
    go : (b : Bool)
        → option_map effective (numbered n (handed r h) inner) ≡ option_map (effective_in (handed_in (handed r h) n inner)) (part_in n inner)
        → option_map effective (numbered (n - count inner) r rest) ≡ option_map (effective_in (handed_in r (n - count inner) rest)) (part_in (n - count inner) rest)
        → option_map effective (cond b (numbered n (handed r h) inner) (numbered (n - count inner) r rest))
        ≡ option_map (effective_in (cond b (handed_in (handed r h) n inner) (handed_in r (n - count inner) rest))) (cond b (part_in n inner) (part_in (n - count inner) rest))
    go true deep later = deep
    go false deep later = later

then_each : {A B : Type 0} (f : A → B) (g : ℕ → Option A) (h : ℕ → Option B) → ((n : ℕ) → option_map f (g n) ≡ h n) → (o : Option ℕ) → option_map f (option_and_then g o) ≡ option_and_then h o
then_each f g h each None = refl
then_each f g h each (Some n) = each n

pub tree_shows : TreeShows
tree_shows plan s p =
    let o : Object = dressed plan s in
    node_of-effective p (root_standing plan s)
    ∙ ap (option_map effective) (at_row plan s p ∙ (numbers_tell (root_row s.library) (row o)).found p)
    ∙ then_each effective (λ n. numbered n (root_row s.library) (row o)) (λ n. shown_at s.library n o) (λ n. numbered_shown (at_top s.library) n (row o)) (number_in p (row o))
    ∙ ap (option_and_then (λ n. shown_at s.library n o)) (sym (place_at p o))

-- nodes of different paths
is_there : (p : Path) (os : Objects) → has p (row_paths os) ≡ is_in p os
is_there p os = ap is_some (number_place p os) ∙ number_there p os

pub one_path : (p : Path) (q : Option Path) → is_path p q ≡ true → has p (q ∷ []) ≡ true
one_path p q e = ap (λ b. is_some (cond b (Some 0) (option_map suc (place_of p [])))) e

row_differs : (os : Objects) (before : List (Option Path)) → first_twice before (row_paths os) ≡ None → PathsDiffer os
row_differs none before e = tt
row_differs (node h inner rest) before e =
    let all : first_twice before ((node_path h ∷ []) ++ (row_paths inner ++ row_paths rest)) ≡ None =
    ap (λ (l : List (Option Path)). first_twice before (node_path h ∷ l)) (sym (map-append node_path (heads inner) (heads rest))) ∙ e in
    let first = in_parts before (node_path h ∷ []) (row_paths inner ++ row_paths rest) all in
    let second = in_parts (before ++ node_path h ∷ []) (row_paths inner) (row_paths rest) first.1 in (
      λ p is.
          sym (ap₂ (λ a b. a || b) (is_there p inner) (is_there p rest)) ∙ sym (has-append p (row_paths inner) (row_paths rest))
          ∙ apart p (before ++ node_path h ∷ []) (row_paths inner ++ row_paths rest) first.1 (has-append p before (node_path h ∷ []) ∙ second_true (has p before) (has p (node_path h ∷ [])) (one_path p (node_path h) is)),
      λ p there.
          sym (is_there p rest)
          ∙ apart p ((before ++ node_path h ∷ []) ++ row_paths inner) (row_paths rest) second.1
          (has-append p (before ++ node_path h ∷ []) (row_paths inner) ∙ second_true (has p (before ++ node_path h ∷ [])) (has p (row_paths inner)) (is_there p inner ∙ there)),
      row_differs inner (before ++ node_path h ∷ []) second.0,
      row_differs rest ((before ++ node_path h ∷ []) ++ row_paths inner) second.1,
    )
  where
    second_true : (a b : Bool) → b ≡ true → (a || b) ≡ true
    second_true true b e = refl
    second_true false b e = e

pub paths_differ : PathsAreDifferent
paths_differ o e = row_differs (row o) [] (ap (first_twice []) (sym (paths_by_row o)) ∙ e)

pub slot_off : (p : Path) (slot : Slot) (r : Objects) → is_in p r ≡ false → with_slot_in p slot r ≡ r
slot_off p slot none e = refl
slot_off p slot (node h inner rest) e =
    let own = neither (is_path p (node_path h)) (is_in p inner || is_in p rest) e in
    let others = neither (is_in p inner) (is_in p rest) own.1 in
    ap (λ b. node (cond b (record h { slot = slot }) h) (with_slot_in p slot inner) (with_slot_in p slot rest)) own.0
    ∙ ap₂ (λ (x y : Objects). node h x y) (slot_off p slot inner others.0) (slot_off p slot rest others.1)

pub lt_true : (a b : ℕ) → a < b → nat_lt a b ≡ true
lt_true a b h = grind (arith, nat_tests)

lt_false : (a b : ℕ) → b ≤ a → nat_lt a b ≡ false
lt_false a b h = grind (arith, nat_tests)

slot_set : (p : Path) (slot : Slot) (os : Objects) (n : ℕ) → PathsDiffer os → number_in p os ≡ Some n → changed_in (λ h. record h { slot = slot }) n os ≡ with_slot_in p slot os
slot_set p slot none n d e = absurd cc
slot_set p slot (node h inner rest) n d e =
    go (found p h inner rest n e) (λ m f. slot_set p slot inner m d.2 f) (λ m f. slot_set p slot rest m d.3 f)
  where
    f : Head → Head
    f k = record k { slot = slot }

    there : (m : ℕ) (os : Objects) → number_in p os ≡ Some m → is_in p os ≡ true
    there m os g = sym (number_there p os) ∙ ap is_some g

    nowhere : (os : Objects) → number_in p os ≡ None → is_in p os ≡ false
    nowhere os g = sym (number_there p os) ∙ ap is_some g

    go : Found p h inner rest n → ((m : ℕ) → number_in p inner ≡ Some m → changed_in f m inner ≡ with_slot_in p slot inner) → ((m : ℕ) → number_in p rest ≡ Some m → changed_in f m rest ≡ with_slot_in p slot rest)
        → changed_in f n (node h inner rest) ≡ node (cond (is_path p (node_path h)) (record h { slot = slot }) h) (with_slot_in p slot inner) (with_slot_in p slot rest)
    go (Here a b) deep later =
        let off = neither (is_in p inner) (is_in p rest) (d.0 p a) in
        ap (λ m. changed_in f m (node h inner rest)) b
        ∙ sym (ap (λ c. node (cond c (record h { slot = slot }) h) (with_slot_in p slot inner) (with_slot_in p slot rest)) a
        ∙ ap₂ (λ (x y : Objects). node (record h { slot = slot }) x y) (slot_off p slot inner off.0) (slot_off p slot rest off.1))
    go (Below m a b c) deep later =
        let one : n ≡ suc m = omega (arith, c) in
        ap (λ m. changed_in f m (node h inner rest)) one
        ∙ ap (λ t. cond t (node h (changed_in f m inner) rest) (node h inner (changed_in f (m - count inner) rest))) (lt_true m (count inner) (number_less p inner m b))
        ∙ ap (λ (x : Objects). node h x rest) (deep m b)
        ∙ sym (ap (λ c. node (cond c (record h { slot = slot }) h) (with_slot_in p slot inner) (with_slot_in p slot rest)) a
        ∙ ap (node h (with_slot_in p slot inner)) (slot_off p slot rest (d.1 p (there m inner b))))
    go (Behind m a b c e) deep later =
        let one : n ≡ suc (m + count inner) = omega (arith, e) in
        let off : m + count inner - count inner ≡ m = omega arith in
        ap (λ m. changed_in f m (node h inner rest)) one
        ∙ ap (λ t. cond t (node h (changed_in f (m + count inner) inner) rest) (node h inner (changed_in f (m + count inner - count inner) rest))) (lt_false (m + count inner) (count inner) (omega arith))
        ∙ ap (λ k. node h inner (changed_in f k rest)) off
        ∙ ap (node h inner) (later m c)
        ∙ sym (ap (λ c. node (cond c (record h { slot = slot }) h) (with_slot_in p slot inner) (with_slot_in p slot rest)) a
        ∙ ap (λ (x : Objects). node h x (with_slot_in p slot rest)) (slot_off p slot inner (nowhere inner b)))

not_lt : (a b : ℕ) → nat_lt a b ≡ false → b ≤ a
not_lt a b h = grind (arith, nat_tests)

-- no object has a number past the last
past : (f : Head → Head) (os : Objects) (n : ℕ) → count os ≤ n → changed_in f n os ≡ os
past f none n h = refl
past f (node h inner rest) zero le = absurd (omega arith)
past f (node h inner rest) (suc n) le =
    ap (λ t. cond t (node h (changed_in f n inner) rest) (node h inner (changed_in f (n - count inner) rest))) (lt_false n (count inner) (omega arith))
    ∙ ap (node h inner) (past f rest (n - count inner) (omega arith))

abbrev pub first_of : Object → Objects → Object
first_of o none = o
first_of o (node h inner rest) = record { head = h; inner = inner }

in_row_of : (f : Head → Head) (n : ℕ) (o : Object) → row (changed f n o) ≡ changed_in f n (row o)
in_row_of f zero o = refl
in_row_of f (suc n) o = go (nat_lt n (count o.inner)) refl
  where
    go : (b : Bool) → nat_lt n (count o.inner) ≡ b → node o.head (changed_in f n o.inner) none ≡ cond b (node o.head (changed_in f n o.inner) none) (node o.head o.inner (changed_in f (n - count o.inner) none))
    go true e = refl
    go false e = ap (λ (r : Objects). node o.head r none) (past f o.inner n (not_lt n (count o.inner) e))

pub slot_is_set : SlotIsSet
slot_is_set o p n slot e at =
    let same : row (changed (λ h. record h { slot = slot }) n o) ≡ row (with_slot p slot o) =
    in_row_of (λ h. record h { slot = slot }) n o ∙ slot_set p slot (row o) n (paths_differ o e) (sym (place_at p o) ∙ at) in
    object_of_row same
  where
    object_of_row : {x y : Object} → row x ≡ row y → x ≡ y
    object_of_row {x} f = ap (first_of x) f

part_numbered : (r : HandedDown) (n : ℕ) (os : Objects) (x : Object) → part_in n os ≡ Some x → (y : Standing) × (numbered n r os ≡ Some y) × (y.object ≡ x)
part_numbered r n none x e = absurd cc
part_numbered r zero (node h inner rest) x e = (record { context = under r h.name; object = record { head = h; inner = inner } }, refl, same e)
  where
    same : {a b : Object} → Some a ≡ Some b → a ≡ b
    same e = cc
part_numbered r (suc n) (node h inner rest) x e =
    go (nat_lt n (count inner)) e (λ f. part_numbered (handed_down (under r h.name) h) n inner x f) (λ f. part_numbered r (n - count inner) rest x f)
  where
    go : (b : Bool) → cond b (part_in n inner) (part_in (n - count inner) rest) ≡ Some x
        → (part_in n inner ≡ Some x → (y : Standing) × (numbered n (handed_down (under r h.name) h) inner ≡ Some y) × (y.object ≡ x))
        → (part_in (n - count inner) rest ≡ Some x → (y : Standing) × (numbered (n - count inner) r rest ≡ Some y) × (y.object ≡ x))
        → (y : Standing) × (cond b (numbered n (handed_down (under r h.name) h) inner) (numbered (n - count inner) r rest) ≡ Some y) × (y.object ≡ x)
    go true e deep later = deep e
    go false e deep later = later e

pub nodes_numbered : NodesAreNumbered
nodes_numbered o x p n k e at here =
    let y = part_numbered (root_row []) k (row o) x here in
    ap (is_round p) (sym y.2)
    ∙ (numbers_tell (root_row []) (row o)).round (paths_differ o e) p n k y.0 (sym (place_at p o) ∙ at) y.1
    ∙ ap (λ (z : Object). nat_le k n && nat_lt n (k + parts z)) y.2
