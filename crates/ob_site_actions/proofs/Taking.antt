-- The node of a path takes a slot.
use Rattle.std.proofs.Common.{◌≡◌, ℕ, zero, suc, ◌-◌, ◌<◌, ◌≤◌, Bool, true, false, cond, List, [], ◌∷◌, ◌++◌, length, map, Option, Some, None, option_map, refl, sym, ap, ◌∙◌, subst, arith, IsTrue}
use Rattle.std.specs.Prelude.{slice_get, nat_lt}
use Rattle.std.proofs.lemmas.Bool.{ltb-true, ltb-false}
use Rattle.ob_object.specs.declared.head.Head.{Head}
use Rattle.ob_object.specs.declared.head.Slot.{Slot}
use Rattle.ob_object.specs.Fits.{fits_slot}
use Rattle.ob_object.specs.Object.{Objects, none, node, Object, count, parts}
use Rattle.ob_object.specs.Paths.{is_path, node_path}
use Rattle.ob_site_rules.specs.Build.{Path}
use Rattle.ob_plain_state.specs.Fitting.{NodesTake}
use Rattle.ob_tree.specs.Laid.{heads, heads_of, head_at, paths}
use Rattle.ob_tree.specs.Paths.{place_of}
use Rattle.ob_tree.proofs.Changing.{length-heads, got_left, got_right}

-- what stands at a place has the path
pub placed_by : (p : Path) (g h : Head) (hs : List Head) (b : Bool) (o : Option ℕ) (n : ℕ) → is_path p (node_path g) ≡ b → cond b (Some 0) (option_map suc o) ≡ Some n → slice_get (g ∷ hs) n ≡ Some h
    → ((m : ℕ) → o ≡ Some m → slice_get hs m ≡ Some h → is_path p (node_path h) ≡ true) → is_path p (node_path h) ≡ true
placed_by p g h hs true o n is e f later =
    let here : 0 ≡ n = cc in
    let first : slice_get (g ∷ hs) 0 ≡ Some h = ap (λ (m : ℕ). slice_get (g ∷ hs) m) here ∙ f in
    let same : g ≡ h = cc in
    ap (λ (x : Head). is_path p (node_path x)) (sym same) ∙ is
placed_by p g h hs false None n is e f later = absurd cc
placed_by p g h hs false (Some m) n is e f later =
    let next : suc m ≡ n = cc in
    later m refl (ap (λ (k : ℕ). slice_get (g ∷ hs) k) next ∙ f)

pub placed : (p : Path) (hs : List Head) (n : ℕ) (h : Head) → place_of p (map node_path hs) ≡ Some n → slice_get hs n ≡ Some h → is_path p (node_path h) ≡ true
placed p [] n h e f = absurd cc
placed p (g ∷ hs) n h e f = placed_by p g h hs (is_path p (node_path g)) (place_of p (map node_path hs)) n refl e f (λ m at is. placed p hs m h at is)

-- and the place is one
there_by : (b : Bool) (o : Option ℕ) (n len : ℕ) → cond b (Some 0) (option_map suc o) ≡ Some n → ((m : ℕ) → o ≡ Some m → m < len) → n < suc len
there_by true o n len e later = let here : 0 ≡ n = cc in omega arith
there_by false None n len e later = absurd cc
there_by false (Some m) n len e later =
    let next : suc m ≡ n = cc in
    let less : m < len = later m refl in
    omega arith

there : (p : Path) (hs : List Head) (n : ℕ) → place_of p (map node_path hs) ≡ Some n → n < length hs
there p [] n e = absurd cc
there p (g ∷ hs) n e = there_by (is_path p (node_path g)) (place_of p (map node_path hs)) n (length hs) e (λ m at. there p hs m at)

pub node_within : (o : Object) (p : Path) (n : ℕ) → place_of p (paths o) ≡ Some n → n < parts o
node_within o p n e = omega (arith, there p (heads_of o) n e, length-heads o.inner)

takes_by : (h : Head) (slot : Slot) (inner rest : Objects) (n : ℕ) (b : Bool) → nat_lt n (count inner) ≡ b → slice_get (heads inner ++ heads rest) n ≡ Some h
    → ((m : ℕ) → slice_get (heads inner) m ≡ Some h → IsTrue (fits_slot h.kind slot)) → ((m : ℕ) → slice_get (heads rest) m ≡ Some h → IsTrue (fits_slot h.kind slot)) → IsTrue (fits_slot h.kind slot)
takes_by h slot inner rest n true lt e left right =
    let within : n < length (heads inner) = omega (arith, ltb-true n (count inner) lt, length-heads inner) in
    left n (sym (got_left (heads inner) (heads rest) n within) ∙ e)
takes_by h slot inner rest n false lt e left right =
    let past : length (heads inner) ≤ n = omega (arith, ltb-false n (count inner) lt, length-heads inner) in
    right (n - length (heads inner)) (sym (got_right (heads inner) (heads rest) n past) ∙ e)

takes_in : (p : Path) (slot : Slot) (r : Objects) (n : ℕ) (h : Head) → NodesTake p slot r → slice_get (heads r) n ≡ Some h → is_path p (node_path h) ≡ true → IsTrue (fits_slot h.kind slot)
takes_in p slot none n h takes e is = absurd cc
takes_in p slot (node g inner rest) zero h takes e is =
    let same : g ≡ h = cc in
    subst (λ (x : Head). IsTrue (fits_slot x.kind slot)) same (takes.0 (ap (λ (x : Head). is_path p (node_path x)) same ∙ is))
takes_in p slot (node g inner rest) (suc n) h takes e is =
    takes_by h slot inner rest n (nat_lt n (count inner)) refl e (λ m at. takes_in p slot inner m h takes.1 at is) (λ m at. takes_in p slot rest m h takes.2 at is)

-- so the object of the node's number does
pub node_takes : (o : Object) (p : Path) (n : ℕ) (slot : Slot) (h : Head) → NodesTake p slot (node o.head o.inner none) → place_of p (paths o) ≡ Some n → head_at n o ≡ Some h → IsTrue (fits_slot h.kind slot)
node_takes o p n slot h takes place is = go n is (placed p (heads_of o) n h place is)
  where
    go : (n : ℕ) → head_at n o ≡ Some h → is_path p (node_path h) ≡ true → IsTrue (fits_slot h.kind slot)
    go zero is at =
        let same : o.head ≡ h = cc in
        subst (λ (x : Head). IsTrue (fits_slot x.kind slot)) same (takes.0 (ap (λ (x : Head). is_path p (node_path x)) same ∙ at))
    go (suc n) is at = takes_in p slot o.inner n h takes.1 is at
