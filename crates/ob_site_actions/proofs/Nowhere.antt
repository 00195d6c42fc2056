-- Where no own node has a path: nothing there is written to, and no contract has it.
use Rattle.std.proofs.Common.{◌≡◌, ℕ, Bool, true, false, ◌||◌, cond, List, [], Option, Some, None, option_map, refl, sym, ap, ap₂, ◌∙◌}
use Rattle.std.specs.Prelude.{is_some, codes}
use Rattle.std.specs.List.{list_any}
use Rattle.ob_values.proofs.Bools.{neither}
use Rattle.ob_object.specs.declared.kind.Kind.{Kind}
use Rattle.ob_object.specs.declared.head.Head.{Head}
use Rattle.ob_object.specs.declared.head.Slot.{Slot}
use Rattle.ob_object.specs.Object.{Objects, none, node, Object, listed, children}
use Rattle.ob_object.specs.WellFormed.{has_name, named}
use Rattle.ob_object.specs.Paths.{is_path, node_path}
use Rattle.ob_contracts.specs.Inherit.{Contracts}
use Rattle.ob_contracts.specs.Standard.{with_added, standard}
use Rattle.ob_site_rules.specs.Build.{Path, child}
use Rattle.ob_site_rules.specs.State.{with_board}
use Rattle.ob_site_rules.specs.Shown.{node_of}
use Rattle.ob_site_rules.specs.Writes.{with_slot, with_slot_in, site_contracts, is_in_contract, library_after, recorded, board_after, write}
use Rattle.ob_shown_laws.specs.Changed.{is_in}
use Rattle.ob_shown_laws.proofs.Numbering.{number_there}
use Rattle.ob_tree.specs.Laid.{paths}
use Rattle.ob_tree.specs.Paths.{place_of}
use Rattle.ob_tree.specs.Shown.{row}
use Rattle.ob_tree.specs.declared.node.NodeId.{NodeId}
use Rattle.ob_shown_laws.proofs.Places.{place_at}
use Rattle.ob_shown_laws.proofs.Contracting.{found_in}
use Rattle.ob_site_state.specs.Kept.{Kept}
use Rattle.ob_site_state.proofs.Contracted.{contracts_some, contracts_none, none_in}
use Rattle.ob_site_actions.proofs.Steps.{with_records, with_alarms}

-- and so where it has a place
pub is_there : (p : Path) (o : Object) → is_some (node_of p o) ≡ is_some (place_of p (paths o))
is_there p o = found_in p (row o) ∙ sym (number_there p (row o)) ∙ ap is_some (sym (place_at p o))

-- a number that is found is that of a node
pub numbered_there : (found : Option NodeId) (place : Option ℕ) → option_map (λ (id : NodeId). id.number) found ≡ place → is_some found ≡ is_some place
numbered_there None place e = ap is_some e
numbered_there (Some id) place e = ap is_some e

nowhere : (p : Path) (o : Object) → place_of p (paths o) ≡ None → is_in p (row o) ≡ false
nowhere p o off = sym (number_there p (row o)) ∙ ap is_some (sym (place_at p o) ∙ off)

-- a slot at a path that no node has is set nowhere
same_row : (p : Path) (slot : Slot) (r : Objects) → is_in p r ≡ false → with_slot_in p slot r ≡ r
same_row p slot none e = refl
same_row p slot (node h inner rest) e =
    let own = neither (is_path p (node_path h)) (is_in p inner || is_in p rest) e in
    let below = neither (is_in p inner) (is_in p rest) own.1 in
    ap (λ (b : Bool). node (cond b (record h { slot = slot }) h) (with_slot_in p slot inner) (with_slot_in p slot rest)) own.0
    ∙ ap₂ (λ (i r : Objects). node h i r) (same_row p slot inner below.0) (same_row p slot rest below.1)

same_object : (p : Path) (slot : Slot) (o : Object) → place_of p (paths o) ≡ None → with_slot p slot o ≡ o
same_object p slot o off =
    let round = neither (is_path p (node_path o.head)) (is_in p o.inner || false) (nowhere p o off) in
    let inner = neither (is_in p o.inner) false round.1 in
    ap (λ (b : Bool). let x : Object = record { head = cond b (record o.head { slot = slot }) o.head; inner = with_slot_in p slot o.inner } in x) round.0
    ∙ ap (λ (r : Objects). let x : Object = record { head = o.head; inner = r } in x) (same_row p slot o.inner inner.0)

-- and then none of the children of a child of a row has it
abbrev HasNot : Path → Option Object → Type 0
HasNot p None = Unit {0}
HasNot p (Some x) = is_in p x.inner ≡ false

child_off : (p : Path) (name : List ℕ) (r : Objects) → is_in p r ≡ false → HasNot p (named name (listed r))
child_off p name none e = tt
child_off p name (node h inner rest) e =
    let own = neither (is_path p (node_path h)) (is_in p inner || is_in p rest) e in
    let below = neither (is_in p inner) (is_in p rest) own.1 in
    go (has_name name h.name) below.0 (child_off p name rest below.1)
  where
    go : (b : Bool) → is_in p inner ≡ false → HasNot p (named name (listed rest)) → HasNot p (cond b (Some (record { head = h; inner = inner })) (named name (listed rest)))
    go true here later = here
    go false here later = later

no_contract : (p : Path) (o : Object) → place_of p (paths o) ≡ None → is_in_contract p o ≡ false
no_contract p o off =
    let round = neither (is_path p (node_path o.head)) (is_in p o.inner || false) (nowhere p o off) in
    let inner = neither (is_in p o.inner) false round.1 in
    go (child (codes "contracts") o) refl (child_off p (codes "contracts") o.inner inner.0)
  where
    go : (c : Option Object) → child (codes "contracts") o ≡ c → HasNot p c → is_in_contract p o ≡ false
    go None is off = ap (λ (cs : Contracts). list_any (λ c. is_some (node_of p c.1)) cs) (contracts_none o is)
    go (Some x) is off = ap (λ (cs : Contracts). list_any (λ c. is_some (node_of p c.1)) cs) (contracts_some o x is) ∙ none_in p x.inner off

-- so a write there is the records of the histories and the act of the rule alone
pub derived_written : (p : Path) (kind : Kind) (slot : Slot) (k records new : Kept) → place_of p (paths k.now.tree) ≡ None
    → records ≡ with_records p kind slot k → new ≡ with_alarms p slot records → new ≡ record k { now = write k.plan k.time p kind slot k.now }
derived_written p kind slot k records new off is then =
    let lib : Contracts = with_added standard (site_contracts k.now.tree) in
    let made : Object → Contracts → Kept = λ o l. record k {
      now = with_board (record k.now { library = l; tree = o; logs = recorded k.plan k.time p kind slot k.now.logs }) (board_after k.plan k.now k.time p slot);
    } in
    then
    ∙ ap (with_alarms p slot) is
    ∙ ap (λ (b : Bool). made k.now.tree (cond b lib k.now.library)) (sym (no_contract p k.now.tree off))
    ∙ ap (λ (o : Object). made o (library_after p o k.now.library)) (sym (same_object p slot k.now.tree off))
