-- The own slots of nodes, where slots are set.
use Rattle.std.proofs.Common.{◌≡◌, Bool, true, false, Option, Some, None, option_map, refl, sym, ap, ◌∙◌, true≢false}
use Rattle.ob_values.proofs.Bools.{is_false}
use Rattle.ob_contracts.specs.Inherit.{or_else, only_if}
use Rattle.ob_object.specs.declared.head.Slot.{Slot}
use Rattle.ob_object.specs.declared.head.Head.{Head}
use Rattle.ob_object.specs.Object.{Objects, none, node, Object}
use Rattle.ob_object.specs.Paths.{is_path, node_path}
use Rattle.ob_site_laws.proofs.Same.{tells_text}
use Rattle.ob_site_rules.specs.Build.{Path}
use Rattle.ob_site_rules.specs.Shown.{node_in}
use Rattle.ob_site_rules.specs.Writes.{with_slot_in}
use Rattle.ob_shown_laws.specs.Alike.{row, DifferInSlots}
use Rattle.ob_step_laws.proofs.Slotted.{set_if, path_if}

-- nodes that differ in slots, or none in both
abbrev pub AreSame : Option Object → Option Object → Type 0
AreSame None None = Unit {0}
AreSame None (Some b) = ⊥
AreSame (Some a) None = ⊥
AreSame (Some a) (Some b) = DifferInSlots (row a) (row b)

both_found : (b c : Bool) (x y : Object) (u v i j : Option Object) → b ≡ c → DifferInSlots (row x) (row y) → AreSame u v → AreSame i j
    → AreSame (or_else (only_if b (Some x)) (or_else u i)) (or_else (only_if c (Some y)) (or_else v j))
both_found true true x y u v i j e same g h = same
both_found true false x y u v i j e same g h = absurd (true≢false e)
both_found false true x y u v i j e same g h = absurd (true≢false (sym e))
both_found false false x y None None i j e same g h = h
both_found false false x y None (Some d) i j e same g h = absurd g
both_found false false x y (Some c) None i j e same g h = absurd g
both_found false false x y (Some c) (Some d) i j e same g h = g

-- at one path of rows that differ in slots
pub nodes_same : (p : Path) (os qs : Objects) → DifferInSlots os qs → AreSame (node_in p os) (node_in p qs)
nodes_same p none none d = tt
nodes_same p none (node k inner more) d = absurd d
nodes_same p (node h below rest) none d = absurd d
nodes_same p (node h below rest) (node k inner more) d =
    both_found (is_path p (node_path h)) (is_path p (node_path k)) _ _ (node_in p below) (node_in p inner) (node_in p rest) (node_in p more)
    (ap (λ (u : Head). is_path p (node_path u)) d.0) (d.0, d.1, d.2, tt) (nodes_same p below inner d.2) (nodes_same p rest more d.3)

slot_if : (b : Bool) (slot : Slot) (h : Head) → b ≡ true → (set_if b slot h).slot ≡ slot
slot_if true slot h e = refl
slot_if false slot h e = absurd (true≢false (sym e))

keep_if : (b : Bool) (slot : Slot) (h : Head) → b ≡ false → (set_if b slot h).slot ≡ h.slot
keep_if true slot h e = absurd (true≢false e)
keep_if false slot h e = refl

-- where the heads of found nodes agree wherever they are found
found_where : (p : Path) (slot : Slot) (b c : Bool) (x y : Object) (u v i j : Option Object) → b ≡ c → (b ≡ true → x.head.slot ≡ slot)
    → option_map (λ o. o.head.slot) u ≡ option_map (λ _. slot) v → option_map (λ o. o.head.slot) i ≡ option_map (λ _. slot) j
    → option_map (λ o. o.head.slot) (or_else (only_if b (Some x)) (or_else u i)) ≡ option_map (λ _. slot) (or_else (only_if c (Some y)) (or_else v j))
found_where p slot true true x y u v i j e same g h = ap Some (same refl)
found_where p slot true false x y u v i j e same g h = absurd (true≢false e)
found_where p slot false true x y u v i j e same g h = absurd (true≢false (sym e))
found_where p slot false false x y None None i j e same g h = h
found_where p slot false false x y None (Some d) i j e same g h = absurd cc
found_where p slot false false x y (Some c) None i j e same g h = absurd cc
found_where p slot false false x y (Some c) (Some d) i j e same g h = g

-- the node at the path has the slot that is set
pub slot_set : (p : Path) (slot : Slot) (os : Objects) → option_map (λ o. o.head.slot) (node_in p (with_slot_in p slot os)) ≡ option_map (λ _. slot) (node_in p os)
slot_set p slot none = refl
slot_set p slot (node h below rest) =
    found_where p slot (is_path p (node_path (set_if b slot h))) b _ _ (node_in p (with_slot_in p slot below)) (node_in p below) (node_in p (with_slot_in p slot rest)) (node_in p rest)
    (ap (is_path p) (path_if b slot h)) (λ e. slot_if b slot h (sym (ap (is_path p) (path_if b slot h)) ∙ e)) (slot_set p slot below) (slot_set p slot rest)
  where
    b : Bool
    b = is_path p (node_path h)

one_path : (p q : Path) (o : Option Path) → is_path p o ≡ true → is_path q o ≡ true → p ≡ q
one_path p q None e f = absurd (true≢false (sym e))
one_path p q (Some r) e f = sym (tells_text.equal r p e) ∙ tells_text.equal r q f

found_other : (b c : Bool) (x y : Object) (u v i j : Option Object) → b ≡ c → (c ≡ true → x.head.slot ≡ y.head.slot)
    → option_map (λ o. o.head.slot) u ≡ option_map (λ o. o.head.slot) v → option_map (λ o. o.head.slot) i ≡ option_map (λ o. o.head.slot) j
    → option_map (λ o. o.head.slot) (or_else (only_if b (Some x)) (or_else u i)) ≡ option_map (λ o. o.head.slot) (or_else (only_if c (Some y)) (or_else v j))
found_other true true x y u v i j e same g h = ap Some (same refl)
found_other true false x y u v i j e same g h = absurd (true≢false e)
found_other false true x y u v i j e same g h = absurd (true≢false (sym e))
found_other false false x y None None i j e same g h = h
found_other false false x y None (Some d) i j e same g h = absurd cc
found_other false false x y (Some c) None i j e same g h = absurd cc
found_other false false x y (Some c) (Some d) i j e same g h = g

-- and the nodes at other paths what they had
pub slot_kept : (p q : Path) (slot : Slot) (os : Objects) → (p ≡ q → ⊥) → option_map (λ o. o.head.slot) (node_in q (with_slot_in p slot os)) ≡ option_map (λ o. o.head.slot) (node_in q os)
slot_kept p q slot none apart = refl
slot_kept p q slot (node h below rest) apart =
    found_other (is_path q (node_path (set_if b slot h))) (is_path q (node_path h)) _ _ (node_in q (with_slot_in p slot below)) (node_in q below) (node_in q (with_slot_in p slot rest)) (node_in q rest)
    (ap (is_path q) (path_if b slot h)) (λ e. keep_if b slot h (is_false b (λ f. apart (one_path p q (node_path h) f e)))) (slot_kept p q slot below apart) (slot_kept p q slot rest apart)
  where
    b : Bool
    b = is_path p (node_path h)
