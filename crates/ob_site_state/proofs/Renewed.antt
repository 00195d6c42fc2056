-- A slot that is set in a state whose contracts are in place.
use Rattle.std.proofs.Common.{◌≡◌, ℕ, zero, suc, ◌+◌, ◌<◌, ◌≤◌, Bool, true, false, List, [], ◌∷◌, ◌++◌, length, take, drop, get_or, Some, None, refl, sym, ap, ◌∙◌, subst, arith}
use Rattle.std.specs.Prelude.{slice_get}
use Rattle.ob_object.specs.declared.head.Slot.{Slot}
use Rattle.ob_object.specs.Object.{Object, parts}
use Rattle.ob_contracts.specs.Inherit.{Contracts, result_of}
use Rattle.ob_contracts.specs.Standard.{with_added, standard}
use Rattle.ob_contracts.specs.Ties.{AreMarked, AreTied, is_marked}
use Rattle.ob_contracts.specs.Renewing.{AreTaken, MayRenew, results, with_contract}
use Rattle.ob_contracts.proofs.OneByOne.{same_length, RenewedTo, renew_begins, renew_stays, renew_made, renew_small, renew_ends}
use Rattle.ob_contracts.proofs.RenewedTo.{length_added}
use Rattle.ob_contracts.proofs.Tied.{length_last}
use Rattle.ob_tree.specs.declared.node.NodeId.{NodeId}
use Rattle.ob_tree.specs.Shown.{part_at}
use Rattle.ob_tree.specs.Laid.{changed, paths}
use Rattle.ob_tree.specs.Paths.{place_of, first_twice}
use Rattle.ob_site_rules.specs.Build.{Path}
use Rattle.ob_site_rules.specs.State.{State}
use Rattle.ob_site_rules.specs.Writes.{with_slot, site_contracts, is_in_contract}
use Rattle.ob_shown_laws.proofs.Bridging.{slot_is_set}
use Rattle.ob_site_state.specs.declared.own_contracts.OwnContracts.{OwnContracts}
use Rattle.ob_site_state.specs.OwnContracts.{AreWritten, CanRemake, IsBound, StandAt, with_slot_at}
use Rattle.ob_site_state.proofs.OwnContracts.{bound_after, made_alone, may_renew, stand_after, tied_after}
use Rattle.ob_site_state.proofs.OwnRows.{stand_length, stand_there}
use Rattle.ob_site_state.proofs.Rewinding.{set_to}

module _ (own : OwnContracts) (s : State) (n : ℕ) (slot : Slot) (p : Path) (b : IsBound own s) (differ : first_twice [] (paths s.tree) ≡ None) (place : place_of p (paths s.tree) ≡ Some n) where
  abbrev root : Object
  root = changed (set_to slot) n s.tree

  root_is : root ≡ with_slot p slot s.tree
  root_is = slot_is_set s.tree p n slot differ place

  -- it stays bound
  pub set_bound : (t : State) → t ≡ with_slot_at n slot s → IsBound own t
  set_bound t e =
      bound_after p slot own s t b (ap (λ (x : State). x.tree) e ∙ root_is)
      (ap (λ (x : State). x.library) e ∙ sym (ap (λ (x : State). with_added standard (site_contracts x.tree)) e))

  -- where the node is in no contract, the library stays
  pub alone_set : (t : State) → t ≡ record s { tree = root } → is_in_contract p s.tree ≡ false → t ≡ with_slot_at n slot s
  alone_set t e out =
      e
      ∙ ap (λ (l : Contracts). let x : State = record s { library = l; tree = root } in x)
      (made_alone p slot s b.made out ∙ ap (λ (o : Object). with_added standard (site_contracts o)) (sym root_is))

  -- and else it may be made anew
  module _ (library : Contracts) (tree : Object) (same : library ≡ s.library) (set : tree ≡ root) where
    set_is : with_slot p slot s.tree ≡ tree
    set_is = sym (set ∙ root_is)

    pub can_renew : (written : List Bool) → AreWritten n s.tree own.nodes.items written → AreTaken standard (site_contracts tree) → MayRenew standard library (site_contracts tree) (length standard) written
    can_renew written out taken =
        subst (λ (l : Contracts). MayRenew standard l (site_contracts tree) (length standard) written) (sym same)
        (subst (λ (o : Object). MayRenew standard s.library (site_contracts o) (length standard) written) set_is
        (may_renew p slot own s n written b differ place out (subst (λ (o : Object). AreTaken standard (site_contracts o)) (sym set_is) taken)))

    pub can_tie : AreTied library own.ties (site_contracts tree)
    can_tie =
        subst (λ (l : Contracts). AreTied l own.ties (site_contracts tree)) (sym same)
        (subst (λ (o : Object). AreTied s.library own.ties (site_contracts o)) set_is (tied_after p slot own s b))

    pub can_stand : StandAt tree own.nodes.items (site_contracts tree)
    can_stand = subst (λ (o : Object). StandAt o own.nodes.items (site_contracts o)) set_is (stand_after p slot own s b)

-- A library whose marked contracts are made anew up to one.
pub record RemadeTo (lib : Contracts) (root : Object) (nodes : List NodeId) (marks : List Bool) (i : ℕ) (now : Contracts) : Type 0 where
  pub can : CanRemake lib root nodes marks
  pub so_far : RenewedTo standard lib (site_contracts root) (length standard) can.written can.rows marks can.may can.marked can.tied i now

pub remade_none : (lib : Contracts) (root : Object) (nodes : List NodeId) (marks : List Bool) → CanRemake lib root nodes marks → RemadeTo lib root nodes marks 0 lib
remade_none lib root nodes marks can = record {
  can = can;
  so_far = renew_begins standard lib (site_contracts root) (length standard) can.written can.rows marks can.may can.marked can.tied;
}

-- where the marks of the site's contracts begin
pub first_is : (lib : Contracts) (root : Object) (nodes : List NodeId) (marks : List Bool) → CanRemake lib root nodes marks → (length marks ≡ length standard + length nodes) × (length nodes ≡ length (site_contracts root))
first_is lib root nodes marks can =
    let same = stand_length root nodes (site_contracts root) can.stand in (omega (arith, can.marked.len, can.tied.0, same), same)

module _ (lib : Contracts) (root : Object) (nodes : List NodeId) (marks : List Bool) (i : ℕ) (now : Contracts) (r : RemadeTo lib root nodes marks i now) (h : i < length nodes) where
  within : i < length (site_contracts root)
  within = omega (arith, h, (first_is lib root nodes marks r.can).1)

  pub remade_stays : is_marked (length standard + i) marks ≡ false → RemadeTo lib root nodes marks (i + 1) now
  remade_stays off =
      let more : suc i ≡ i + 1 = omega arith in
      subst (λ (n : ℕ). RemadeTo lib root nodes marks n now) more (record {
        can = r.can;
        so_far = renew_stays standard lib (site_contracts root) (length standard) r.can.written r.can.rows marks r.can.may r.can.marked r.can.tied i now within off r.so_far;
      })

  module _ (x : NodeId) (is : x ≡ get_or nodes i x) where
    -- the own object at a node
    pub node_there : (c : List ℕ × Object) × (slice_get (site_contracts root) i ≡ Some c) × (part_at x.number root ≡ Some c.1)
    node_there = stand_there root nodes (site_contracts root) r.can.stand i x h is

    pub remade_small : (o : Object) → part_at x.number root ≡ Some o → parts (result_of now o None None) ≤ 512
    remade_small o at =
        let f = node_there in
        let there : part_at x.number root ≡ Some f.0.1 = f.2 in
        let same : f.0.1 ≡ o = cc in
        subst (λ (y : Object). parts (result_of now y None None) ≤ 512) same
        (renew_small standard lib (site_contracts root) (length standard) r.can.written r.can.rows marks r.can.may r.can.marked r.can.tied i now f.0 f.1 within r.so_far)

    pub remade_more : (place : ℕ) (new : Contracts) → place ≡ length standard + i → is_marked place marks ≡ true
        → ((o : Object) → part_at x.number root ≡ Some o → new ≡ with_contract place (result_of now o None None) now) → RemadeTo lib root nodes marks (i + 1) new
    remade_more place new at on made =
        let f = node_there in
        let more : suc i ≡ i + 1 = omega arith in
        let all : new ≡ with_contract (length standard + i) (result_of now f.0.1 None None) now =
        made f.0.1 f.2 ∙ ap (λ (n : ℕ). with_contract n (result_of now f.0.1 None None) now) at in
        subst (λ (n : ℕ). RemadeTo lib root nodes marks n new) more (record {
          can = r.can;
          so_far =
              subst (RenewedTo standard lib (site_contracts root) (length standard) r.can.written r.can.rows marks r.can.may r.can.marked r.can.tied (suc i)) (sym all)
              (renew_made standard lib (site_contracts root) (length standard) r.can.written r.can.rows marks r.can.may r.can.marked r.can.tied i now f.0 f.1 within r.so_far (ap (λ (n : ℕ). is_marked n marks) (sym at) ∙ on));
        })

pub remade_all : (lib : Contracts) (root : Object) (nodes : List NodeId) (marks : List Bool) (i : ℕ) (now : Contracts) → RemadeTo lib root nodes marks i now → i ≡ length nodes → now ≡ with_added standard (site_contracts root)
remade_all lib root nodes marks i now r e =
    let all : i ≡ length (site_contracts root) = e ∙ (first_is lib root nodes marks r.can).1 in
    renew_ends standard lib (site_contracts root) (length standard) r.can.written r.can.rows marks r.can.may r.can.marked r.can.tied now
    (subst (λ (n : ℕ). RenewedTo standard lib (site_contracts root) (length standard) r.can.written r.can.rows marks r.can.may r.can.marked r.can.tied n now) all r.so_far)

-- how many contracts a library has with those that are added
pub added_length : (lib cs : Contracts) → length (with_added lib cs) ≡ length lib + length cs
added_length lib [] = omega arith
added_length lib (c ∷ cs) =
    omega (arith, added_length (lib ++ (c.0, result_of lib c.1 None None) ∷ []) cs, length_last lib (c.0, result_of lib c.1 None None))

length_both : (xs ys : Contracts) → length (xs ++ ys) ≡ length xs + length ys
length_both [] ys = omega arith
length_both (x ∷ xs) ys = omega (arith, length_both xs ys)

length_results : (lib cs : Contracts) → length (results lib cs) ≡ length cs
length_results lib [] = refl
length_results lib (c ∷ cs) = ap suc (length_results (lib ++ (c.0, result_of lib c.1 None None) ∷ []) cs)

length_left : (cs : Contracts) (i : ℕ) → i ≤ length cs → length (drop i cs) + i ≡ length cs
length_left [] zero h = refl
length_left [] (suc i) h = absurd (omega (arith, h))
length_left (c ∷ cs) zero h = omega arith
length_left (c ∷ cs) (suc i) h = omega (arith, length_left cs i (omega (arith, h)))

pub remade_length : (lib : Contracts) (root : Object) (nodes : List NodeId) (marks : List Bool) (i : ℕ) (now : Contracts) → RemadeTo lib root nodes marks i now → i < length nodes → length now ≡ length standard + length nodes
remade_length lib root nodes marks i now r h =
    let new : Contracts = site_contracts root in
    let old : Contracts = r.can.may.old in
    let many : length nodes ≡ length new = (first_is lib root nodes marks r.can).1 in
    let both : length old ≡ length new = same_length old new r.can.may.words in
    let before : Contracts = with_added standard (take i new) in
    let behind : Contracts = results (with_added standard (take i old)) (drop i old) in
    ap (λ (l : Contracts). length l) r.so_far.stands
    ∙ length_both before behind
    ∙ omega (
      arith,
      many,
      both,
      h,
      length_added standard new i (omega (arith, h, many)),
      length_results (with_added standard (take i old)) (drop i old),
      length_left old i (omega (arith, h, many, both)),
    )

-- where the marks begin, by the library that is there
pub first_read : (lib : Contracts) (root : Object) (nodes : List NodeId) (written : List Bool) → MayRenew standard lib (site_contracts root) (length standard) written → StandAt root nodes (site_contracts root) → length lib ≡ length standard + length nodes
first_read lib root nodes written may stand =
    ap (λ (l : Contracts). length l) may.made
    ∙ added_length standard may.old
    ∙ omega (arith, same_length may.old (site_contracts root) may.words, stand_length root nodes (site_contracts root) stand)

pub can_remake : (lib now : Contracts) (root tree : Object) (nodes ns : List NodeId) (marks ms : List Bool) (first : ℕ) (written : List Bool) (rows : List (List ℕ)) → now ≡ lib → tree ≡ root → ns ≡ nodes → ms ≡ marks → first ≡ length standard
    → MayRenew standard lib (site_contracts root) (length standard) written → AreTied lib rows (site_contracts root) → StandAt root nodes (site_contracts root) → AreMarked first written rows marks → CanRemake now tree ns ms
can_remake lib now root tree nodes ns marks ms first written rows a b c d e may tied stand marked =
    subst (λ (l : Contracts). CanRemake l tree ns ms) (sym a)
    (subst (λ (o : Object). CanRemake lib o ns ms) (sym b)
    (subst (λ (l : List NodeId). CanRemake lib root l ms) (sym c)
    (subst (CanRemake lib root nodes) (sym d)
    (record { written = written; rows = rows; may = may; marked = subst (λ (n : ℕ). AreMarked n written rows marks) e marked; tied = tied; stand = stand }))))
