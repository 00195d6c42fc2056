-- What roles name stays where it is: no step moves an own node, or makes another kind of one.
use Rattle.std.proofs.Common.{◌≡◌, Bool, true, false, cond, List, ◌∷◌, ◌++◌, Option, Some, None, option_map, refl, sym, ap, ap₂, ◌∙◌}
use Rattle.std.specs.Prelude.{is_some}
use Rattle.std.proofs.lemmas.List.{map-append}
use Rattle.ob_object.specs.declared.kind.Kind.{Kind}
use Rattle.ob_object.specs.declared.head.Head.{Head}
use Rattle.ob_object.specs.declared.head.Slot.{Slot}
use Rattle.ob_object.specs.Object.{Objects, none, node, Object}
use Rattle.ob_object.specs.Paths.{is_path, node_path}
use Rattle.ob_object.specs.Kinds.{has_values}
use Rattle.ob_contracts.specs.Inherit.{or_else, only_if}
use Rattle.ob_tree.specs.Paths.{place_of}
use Rattle.ob_tree.specs.Laid.{heads, paths}
use Rattle.ob_site_rules.specs.Build.{Path}
use Rattle.ob_site_rules.specs.Shown.{node_in, node_of}
use Rattle.ob_site_rules.specs.State.{State}
use Rattle.ob_site_rules.specs.declared.plan.Plan.{Plan}
use Rattle.ob_site_rules.specs.Writes.{with_slot_in, with_slot}
use Rattle.ob_plain_state.proofs.Kept.{slot_path, slot_kind}
use Rattle.ob_shown_laws.proofs.Places.{row_paths}
use Rattle.ob_site_state.specs.Standing.{RolesStand}

-- a slot that is set moves no node
paths_slotted : (p : Path) (slot : Slot) (r : Objects) → row_paths (with_slot_in p slot r) ≡ row_paths r
paths_slotted p slot none = refl
paths_slotted p slot (node h inner rest) =
    ap₂ (λ (q : Option Path) (qs : List (Option Path)). q ∷ qs) (slot_path (is_path p (node_path h)) h slot)
    (map-append node_path (heads (with_slot_in p slot inner)) (heads (with_slot_in p slot rest))
    ∙ ap₂ (λ (xs ys : List (Option Path)). xs ++ ys) (paths_slotted p slot inner) (paths_slotted p slot rest)
    ∙ sym (map-append node_path (heads inner) (heads rest)))

pub paths_with_slot : (p : Path) (slot : Slot) (o : Object) → paths (with_slot p slot o) ≡ paths o
paths_with_slot p slot o =
    ap₂ (λ (q : Option Path) (qs : List (Option Path)). q ∷ qs) (slot_path (is_path p (node_path o.head)) o.head slot) (paths_slotted p slot o.inner)

-- the kind of what is found
abbrev kind_of : Option Object → Option Kind
kind_of o = option_map (λ (x : Object). x.head.kind) o

kind_either : (a b : Option Object) → kind_of (or_else a b) ≡ or_else (kind_of a) (kind_of b)
kind_either None b = refl
kind_either (Some x) b = refl

kind_if : (b : Bool) (x : Object) → kind_of (only_if b (Some x)) ≡ only_if b (Some x.head.kind)
kind_if true x = refl
kind_if false x = refl

row_kind : (q : Path) (h : Head) (inner rest : Objects)
    → kind_of (node_in q (node h inner rest)) ≡ or_else (only_if (is_path q (node_path h)) (Some h.kind)) (or_else (kind_of (node_in q inner)) (kind_of (node_in q rest)))
row_kind q h inner rest =
    kind_either (only_if (is_path q (node_path h)) (Some (record { head = h; inner = inner }))) (or_else (node_in q inner) (node_in q rest))
    ∙ ap₂ (λ (a b : Option Kind). or_else a b) (kind_if (is_path q (node_path h)) (record { head = h; inner = inner })) (kind_either (node_in q inner) (node_in q rest))

-- a slot that is set makes no other kind of a node
kind_slotted : (q p : Path) (slot : Slot) (r : Objects) → kind_of (node_in q (with_slot_in p slot r)) ≡ kind_of (node_in q r)
kind_slotted q p slot none = refl
kind_slotted q p slot (node h inner rest) =
    let b : Bool = is_path p (node_path h) in
    let g : Head = cond b (record h { slot = slot }) h in
    row_kind q g (with_slot_in p slot inner) (with_slot_in p slot rest)
    ∙ ap₂ (λ (path : Option Path) (k : Kind). or_else (only_if (is_path q path) (Some k)) (or_else (kind_of (node_in q (with_slot_in p slot inner))) (kind_of (node_in q (with_slot_in p slot rest))))) (slot_path b h slot) (slot_kind b h slot)
    ∙ ap₂ (λ (i l : Option Kind). or_else (only_if (is_path q (node_path h)) (Some h.kind)) (or_else i l)) (kind_slotted q p slot inner) (kind_slotted q p slot rest)
    ∙ sym (row_kind q h inner rest)

found_of_kind : (o : Option Object) (k : Kind) → kind_of o ≡ Some k → (x : Object) × (o ≡ Some x) × (x.head.kind ≡ k)
found_of_kind None k e = absurd cc
found_of_kind (Some x) k e =
    let same : x.head.kind ≡ k = cc in
    (x, refl, same)

-- where own nodes have the same paths and are of the same kinds, roles stand on the same
roles_stay : (plan : Plan) (s t : State) → paths t.tree ≡ paths s.tree → ((q : Path) → kind_of (node_of q t.tree) ≡ kind_of (node_of q s.tree)) → RolesStand plan s → RolesStand plan t
roles_stay plan s t same kinds stand = record {
  histories = λ p named. there p (stand.histories p named);
  rules = λ p named. there p (stand.rules p named);
  subject = λ p named. there p (stand.subject p named);
  values = λ history q o source found.
      let was = found_of_kind (node_of q s.tree) o.head.kind (sym (kinds q) ∙ ap kind_of found) in
      ap has_values (sym was.2) ∙ stand.values history q was.0 source was.1;
}
  where
    there : (p : Path) → is_some (place_of p (paths s.tree)) ≡ true → is_some (place_of p (paths t.tree)) ≡ true
    there p h = ap (λ (ps : List (Option Path)). is_some (place_of p ps)) same ∙ h

-- after a slot is set
pub roles_slotted : (plan : Plan) (s : State) (p : Path) (slot : Slot) → RolesStand plan s → RolesStand plan (record s { tree = with_slot p slot s.tree })
roles_slotted plan s p slot stand =
    roles_stay plan s (record s { tree = with_slot p slot s.tree }) (paths_with_slot p slot s.tree) (λ q. kind_slotted q p slot (node s.tree.head s.tree.inner none)) stand

-- and over the same own objects
pub roles_over : (plan : Plan) (s t : State) → t.tree ≡ s.tree → RolesStand plan s → RolesStand plan t
roles_over plan s t same stand = roles_stay plan s t (ap paths same) (λ q. ap (λ (o : Object). kind_of (node_of q o)) same) stand
