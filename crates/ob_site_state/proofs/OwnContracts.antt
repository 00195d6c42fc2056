-- The contracts of a site stay where they are, and name what they named, where a slot is set.
use Rattle.std.proofs.Common.{◌≡◌, ℕ, zero, suc, ◌+◌, ◌-◌, Bool, true, false, ◌||◌, cond, List, [], ◌∷◌, map, length, Option, Some, None, option_map, refl, sym, ap, ap₂, ◌∙◌, subst, arith}
use Rattle.std.specs.Prelude.{slice_get, nat_lt, is_some}
use Rattle.std.specs.List.{list_any}
use Rattle.std.proofs.lemmas.List.{length-map}
use Rattle.ob_values.proofs.Bools.{neither, or_false}
use Rattle.ob_object.specs.declared.head.Head.{Head}
use Rattle.ob_object.specs.declared.head.Slot.{Slot}
use Rattle.ob_object.specs.Object.{Objects, none, node, Object, count}
use Rattle.ob_object.specs.Paths.{is_path, node_path}
use Rattle.ob_contracts.specs.Inherit.{Contracts}
use Rattle.ob_contracts.specs.Adding.{head_names, row_names, names_word}
use Rattle.ob_contracts.specs.Standard.{with_added, standard}
use Rattle.ob_contracts.specs.Ties.{AreTied, HasPlaces, is_marked}
use Rattle.ob_contracts.specs.Renewing.{AreTaken, MayRenew, uris}
use Rattle.ob_contracts.proofs.Marked.{place_by_uris}
use Rattle.ob_contracts.proofs.OneByOne.{uris_added}
use Rattle.ob_tree.specs.declared.node.NodeId.{NodeId}
use Rattle.ob_tree.specs.Laid.{paths}
use Rattle.ob_tree.specs.Paths.{place_of, first_twice}
use Rattle.ob_tree.specs.Shown.{row, part_in, part_at}
use Rattle.ob_site_rules.specs.Build.{Path}
use Rattle.ob_site_rules.specs.State.{State}
use Rattle.ob_site_rules.specs.Writes.{with_slot_in, with_slot, site_contracts, is_in_contract}
use Rattle.ob_site_rules.specs.Shown.{node_of}
use Rattle.ob_shown_laws.specs.Changed.{is_in, is_round}
use Rattle.ob_shown_laws.specs.Contracted.{is_within, is_inside}
use Rattle.ob_shown_laws.proofs.Bridging.{first_of, slot_off, nodes_numbered}
use Rattle.ob_shown_laws.proofs.Contracting.{found_in}
use Rattle.ob_step_laws.specs.Given.{IsMade}
use Rattle.ob_step_laws.proofs.Slotted.{set_if, contracts_slotted}
use Rattle.ob_site_state.specs.declared.own_contracts.OwnContracts.{OwnContracts}
use Rattle.ob_site_state.specs.OwnContracts.{AreWritten, IsBound, StandAt}

module _ (p : Path) (slot : Slot) where
  abbrev after : Object → Object
  after = with_slot p slot

  abbrev after_both : List ℕ × Object → List ℕ × Object
  after_both c = (c.0, after c.1)

  -- the object of a number
  count_slotted : (r : Objects) → count (with_slot_in p slot r) ≡ count r
  count_slotted none = refl
  count_slotted (node h inner rest) = omega (arith, count_slotted inner, count_slotted rest)

  part_slotted : (n : ℕ) (r : Objects) → part_in n (with_slot_in p slot r) ≡ option_map after (part_in n r)
  part_slotted n none = refl
  part_slotted zero (node h inner rest) = refl
  part_slotted (suc n) (node h inner rest) =
      ap (λ (k : ℕ). cond (nat_lt n k) (part_in n (with_slot_in p slot inner)) (part_in (n - k) (with_slot_in p slot rest))) (count_slotted inner)
      ∙ go (nat_lt n (count inner)) (part_slotted n inner) (part_slotted (n - count inner) rest)
    where
      go : (b : Bool) → part_in n (with_slot_in p slot inner) ≡ option_map after (part_in n inner)
          → part_in (n - count inner) (with_slot_in p slot rest) ≡ option_map after (part_in (n - count inner) rest)
          → cond b (part_in n (with_slot_in p slot inner)) (part_in (n - count inner) (with_slot_in p slot rest)) ≡ option_map after (cond b (part_in n inner) (part_in (n - count inner) rest))
      go true deep later = deep
      go false deep later = later

  stands_slotted : (root : Object) (nodes : List NodeId) (own : Contracts) → StandAt root nodes own → StandAt (after root) nodes (map after_both own)
  stands_slotted root [] [] e = refl
  stands_slotted root [] (c ∷ cs) e = absurd cc
  stands_slotted root (n ∷ ns) [] e = absurd cc
  stands_slotted root (n ∷ ns) (c ∷ cs) e =
      let here : part_at n.number root ≡ Some c.1 = cc in
      let later : StandAt root ns cs = cc in
      ap₂ (λ (x : Option Object) (l : List (Option Object)). x ∷ l) (part_slotted n.number (row root) ∙ ap (option_map after) here) (stands_slotted root ns cs later)

  -- the words that it names
  names_head : (w : List ℕ) (b : Bool) (h : Head) → head_names w (set_if b slot h) ≡ head_names w h
  names_head w true h = refl
  names_head w false h = refl

  names_row : (w : List ℕ) (r : Objects) → row_names w (with_slot_in p slot r) ≡ row_names w r
  names_row w none = refl
  names_row w (node h inner rest) =
      ap₂ (λ (a b : Bool). a || b) (ap₂ (λ (a b : Bool). a || b) (names_head w (is_path p (node_path h)) h) (names_row w inner)) (names_row w rest)

  names_after : (w : List ℕ) (o : Object) → names_word w (after o) ≡ names_word w o
  names_after w o = ap₂ (λ (a b : Bool). a || b) (names_head w (is_path p (node_path o.head)) o.head) (names_row w o.inner)

  uris_after : (own : Contracts) → uris (map after_both own) ≡ uris own
  uris_after [] = refl
  uris_after (c ∷ cs) = ap (λ l. c.0 ∷ l) (uris_after cs)

  -- what stood at a place
  stood : (own : Contracts) (j : ℕ) (d : List ℕ × Object) → slice_get (map after_both own) j ≡ Some d → (c : List ℕ × Object) × (slice_get own j ≡ Some c) × (after_both c ≡ d)
  stood [] j d e = absurd cc
  stood (c ∷ cs) zero d e = let same : after_both c ≡ d = cc in (c, refl, same)
  stood (c ∷ cs) (suc j) d e = stood cs j d e

  tied_slotted : (lib now : Contracts) (rows : List (List ℕ)) (own : Contracts) → uris now ≡ uris lib → AreTied lib rows own → AreTied now rows (map after_both own)
  tied_slotted lib now rows own same tied = (
    tied.0 ∙ sym (length-map own after_both),
    λ j some d at_row at_own.
        let f = stood own j d at_own in λ w names i at.
        tied.1 j some f.0 at_row f.1 w (sym (names_after w f.0.1) ∙ ap (λ (c : List ℕ × Object). names_word w c.1) f.2 ∙ names) i (place_by_uris lib now (sym same) w ∙ at),
  )

  own_after : (s : State) → uris (site_contracts (after s.tree)) ≡ uris (site_contracts s.tree)
  own_after s = ap uris (contracts_slotted p slot s.tree) ∙ uris_after (site_contracts s.tree)

  -- so they stay bound
  pub bound_after : (c : OwnContracts) (s t : State) → IsBound c s → t.tree ≡ after s.tree → IsMade t → IsBound c t
  bound_after c s t b tree made = record {
    made = made;
    stand =
        subst (λ (o : Object). StandAt o c.nodes.items (site_contracts o)) (sym tree)
        (subst (StandAt (after s.tree) c.nodes.items) (sym (contracts_slotted p slot s.tree)) (stands_slotted s.tree c.nodes.items (site_contracts s.tree) b.stand));
    tied =
        subst (λ (o : Object). AreTied t.library c.ties (site_contracts o)) (sym tree)
        (subst (AreTied t.library c.ties) (sym (contracts_slotted p slot s.tree)) (tied_slotted s.library t.library c.ties (site_contracts s.tree) same b.tied));
  }
    where
      same : uris t.library ≡ uris s.library
      same =
          ap uris made
          ∙ uris_added standard standard (site_contracts t.tree) (site_contracts s.tree) refl (ap (λ (o : Object). uris (site_contracts o)) tree ∙ own_after s)
          ∙ sym (ap uris b.made)

  -- A contract in which the node isn't stays as it was.
  off_round : (x : Object) → is_round p x ≡ false → after x ≡ x
  off_round x e =
      ap (λ (r : Objects). first_of x r) (slot_off p slot (row x) (ap (λ (b : Bool). is_path p (node_path x.head) || b) (or_false (is_in p x.inner)) ∙ e))

  -- so where it is in none
  found_round : (x : Object) → is_some (node_of p x) ≡ is_round p x
  found_round x = found_in p (row x) ∙ ap (λ (b : Bool). is_path p (node_path x.head) || b) (or_false (is_in p x.inner))

  alone_stay : (cs : Contracts) → list_any (λ c. is_some (node_of p c.1)) cs ≡ false → map after_both cs ≡ cs
  alone_stay [] e = refl
  alone_stay (c ∷ cs) e =
      let two = neither (is_some (node_of p c.1)) (list_any (λ x. is_some (node_of p x.1)) cs) e in
      ap₂ (λ (x : Object) (l : Contracts). (c.0, x) ∷ l) (off_round c.1 (sym (found_round c.1) ∙ two.0)) (alone_stay cs two.1)

  pub made_alone : (s : State) → IsMade s → is_in_contract p s.tree ≡ false → s.library ≡ with_added standard (site_contracts (after s.tree))
  made_alone s made out = made ∙ ap (with_added standard) (sym (contracts_slotted p slot s.tree ∙ alone_stay (site_contracts s.tree) out))

  module _ (root : Object) (n : ℕ) (apart : first_twice [] (paths root) ≡ None) (place : place_of p (paths root) ≡ Some n) where
    off_inside : (k : ℕ) (x : Object) → part_at k root ≡ Some x → is_inside n k root ≡ false → after x ≡ x
    off_inside k x at out = off_round x (nodes_numbered root x p n k apart place at ∙ sym (ap (is_within n k) at) ∙ out)

    others_stay : (test : ℕ → Bool) (nodes : List NodeId) (own : Contracts) → StandAt root nodes own
        → ((j : ℕ) (k : NodeId) → slice_get nodes j ≡ Some k → test j ≡ false → is_inside n k.number root ≡ false)
        → (j : ℕ) → test j ≡ false → slice_get own j ≡ slice_get (map after_both own) j
    others_stay test [] [] e out j off = refl
    others_stay test [] (c ∷ cs) e out j off = absurd cc
    others_stay test (k ∷ ks) [] e out j off = absurd cc
    others_stay test (k ∷ ks) (c ∷ cs) e out zero off =
        let here : part_at k.number root ≡ Some c.1 = cc in
        ap (λ (x : Object). Some (c.0, x)) (sym (off_inside k.number c.1 here (out zero k refl off)))
    others_stay test (k ∷ ks) (c ∷ cs) e out (suc j) off =
        let later : StandAt root ks cs = cc in
        others_stay (λ i. test (suc i)) ks cs later (λ i m at. out (suc i) m at) j off

  -- A library whose contracts stand where they are bound may be made anew.
  pub may_renew : (c : OwnContracts) (s : State) (n : ℕ) (written : List Bool) → IsBound c s → first_twice [] (paths s.tree) ≡ None → place_of p (paths s.tree) ≡ Some n
      → AreWritten n s.tree c.nodes.items written → AreTaken standard (site_contracts (after s.tree)) → MayRenew standard s.library (site_contracts (after s.tree)) (length standard) written
  may_renew c s n written b apart place out taken = record {
    old = site_contracts s.tree;
    made = b.made;
    len = refl;
    words = sym (own_after s);
    taken = taken;
    others = λ j off.
        others_stay s.tree n apart place (λ i. is_marked i written) c.nodes.items (site_contracts s.tree) b.stand out j off
        ∙ ap (λ (l : Contracts). slice_get l j) (sym (contracts_slotted p slot s.tree));
  }

  -- and they are tied and stand where they did
  pub tied_after : (c : OwnContracts) (s : State) → IsBound c s → AreTied s.library c.ties (site_contracts (after s.tree))
  tied_after c s b =
      subst (AreTied s.library c.ties) (sym (contracts_slotted p slot s.tree)) (tied_slotted s.library s.library c.ties (site_contracts s.tree) refl b.tied)

  pub stand_after : (c : OwnContracts) (s : State) → IsBound c s → StandAt (after s.tree) c.nodes.items (site_contracts (after s.tree))
  stand_after c s b = subst (StandAt (after s.tree) c.nodes.items) (sym (contracts_slotted p slot s.tree)) (stands_slotted s.tree c.nodes.items (site_contracts s.tree) b.stand)

-- where the library and the tree stay
pub bound_as : (c : OwnContracts) (s t : State) → t.library ≡ s.library → t.tree ≡ s.tree → IsBound c s → IsBound c t
bound_as c s t library tree b = record {
  made = library ∙ b.made ∙ sym (ap (λ (o : Object). with_added standard (site_contracts o)) tree);
  stand = subst (λ (o : Object). StandAt o c.nodes.items (site_contracts o)) (sym tree) b.stand;
  tied = subst (λ (l : Contracts). AreTied l c.ties (site_contracts t.tree)) (sym library) (subst (λ (o : Object). AreTied s.library c.ties (site_contracts o)) (sym tree) b.tied);
}
