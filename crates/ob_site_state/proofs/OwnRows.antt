-- The nodes of a site's contracts, the rows of those that they name, and those that are written, one after another.
use Rattle.std.proofs.Common.{◌≡◌, ℕ, zero, suc, ◌+◌, ◌-◌, ◌<◌, ◌≤◌, Bool, true, false, ◌⊎◌, inl, inr, cond, List, [], ◌∷◌, ◌++◌, map, take, length, get_or, Option, Some, None, option_map, refl, sym, ap, ap₂, ◌∙◌, true≢false, subst, arith}
use Rattle.std.specs.Prelude.{slice_get, slice_index_or, filter, is_some, codes}
use Rattle.std.specs.List.{cons_option}
use Rattle.ob_object.specs.Object.{Object, parts, children}
use Rattle.ob_object.specs.Paths.{node_path}
use Rattle.ob_contracts.specs.Inherit.{Contracts}
use Rattle.ob_contracts.specs.Adding.{names_word}
use Rattle.ob_contracts.specs.Ties.{AreTied, HasOneMore, HasPlaces, is_marked}
use Rattle.ob_contracts.proofs.Tied.{length_last, marked_before, marked_last, split}
use Rattle.ob_tree.specs.declared.node.NodeId.{NodeId}
use Rattle.ob_tree.specs.Children.{child_at, is_node, AreChildNodes}
use Rattle.ob_tree.specs.Shown.{row, part_at}
use Rattle.ob_tree.proofs.Growing.{grows}
use Rattle.ob_tree.proofs.Named.{child_within}
use Rattle.ob_shown_laws.proofs.Followed.{part_less}
use Rattle.ob_site_rules.specs.Build.{Path}
use Rattle.ob_site_rules.specs.Writes.{site_contracts}
use Rattle.ob_shown_laws.specs.Contracted.{is_inside}
use Rattle.ob_site_state.specs.OwnContracts.{AreWritten, StandAt}
use Rattle.ob_site_state.specs.Parts.{contracts_in}
use Rattle.ob_site_state.proofs.ChildNamed.{child_is, child_not}
use Rattle.ob_site_state.proofs.Contracted.{contracts_some, contracts_none}

-- a contract and its node stand at the same place
pub stand_there : (root : Object) (nodes : List NodeId) (own : Contracts) → StandAt root nodes own → (k : ℕ) (x : NodeId) → k < length nodes → x ≡ get_or nodes k x
    → (c : List ℕ × Object) × (slice_get own k ≡ Some c) × (part_at x.number root ≡ Some c.1)
stand_there root [] own e k x h is = absurd (omega (arith, h))
stand_there root (n ∷ ns) [] e k x h is = absurd cc
stand_there root (n ∷ ns) (c ∷ cs) e zero x h is =
    let here : part_at n.number root ≡ Some c.1 = cc in (c, refl, ap (λ (m : NodeId). part_at m.number root) is ∙ here)
stand_there root (n ∷ ns) (c ∷ cs) e (suc k) x h is = let later : StandAt root ns cs = cc in stand_there root ns cs later k x (omega (arith, h)) is

pub item_is : (nodes : List NodeId) (i : ℕ) (d : NodeId) → i < length nodes → slice_index_or nodes i d ≡ get_or nodes i (slice_index_or nodes i d)
item_is [] i d h = absurd (omega (arith, h))
item_is (n ∷ ns) zero d h = refl
item_is (n ∷ ns) (suc i) d h = item_is ns i d (omega (arith, h))

pub mark_is : (marks : List Bool) (i : ℕ) → slice_index_or marks i false ≡ is_marked i marks
mark_is [] i = refl
mark_is (m ∷ ms) zero = refl
mark_is (m ∷ ms) (suc i) = mark_is ms i

pub stand_length : (root : Object) (nodes : List NodeId) (own : Contracts) → StandAt root nodes own → length nodes ≡ length own
stand_length root [] [] e = refl
stand_length root [] (c ∷ cs) e = absurd cc
stand_length root (n ∷ ns) [] e = absurd cc
stand_length root (n ∷ ns) (c ∷ cs) e = let later : StandAt root ns cs = cc in ap suc (stand_length root ns cs later)

pub part_within : (o x : Object) (n : ℕ) → part_at n o ≡ Some x → n < parts o
part_within o x n is = omega (arith, part_less (row o) n x is)

-- the nodes among the children of an object
nodes_filtered : (os : List Object) → map (λ x. Some x) (filter is_node os) ≡ map (λ c. Some c.1) (contracts_in os)
nodes_filtered [] = refl
nodes_filtered (o ∷ os) = go (node_path o.head) (nodes_filtered os)
  where
    go : (q : Option Path) → map (λ x. Some x) (filter is_node os) ≡ map (λ c. Some c.1) (contracts_in os)
        → map (λ (x : Object). Some x) (cond (is_some q) (o ∷ filter is_node os) (filter is_node os)) ≡ map (λ (c : Path × Object). Some c.1) (cons_option (option_map (λ p. (p, o)) q) (contracts_in os))
    go None later = later
    go (Some q) later = ap (λ (l : List (Option Object)). Some o ∷ l) later

pub nodes_stand : (o : Object) (k : ℕ) (nodes : List NodeId) → Some k ≡ child_at 0 (codes "contracts") o → AreChildNodes k o nodes → StandAt o nodes (site_contracts o)
nodes_stand o k nodes at are =
    let g = grows o k (child_within o 0 (codes "contracts") k (omega arith) (sym at)) in
    are g.0 g.1.is ∙ nodes_filtered (children g.0) ∙ ap (map (λ (c : Path × Object). Some c.1)) (sym (contracts_some o g.0 (child_is o g.0 (codes "contracts") k at g.1.is)))

pub none_stand : (o : Object) (nodes : List NodeId) → None ≡ child_at 0 (codes "contracts") o → nodes ≡ [] → StandAt o nodes (site_contracts o)
none_stand o nodes at none =
    ap (map (λ n. part_at n.number o)) none ∙ ap (map (λ (c : Path × Object). Some c.1)) (sym (contracts_none o (child_not o (codes "contracts") at)))

-- one row more
take_last : {A : Type 0} (xs : List A) (k : ℕ) (x : A) → slice_get xs k ≡ Some x → take (suc k) xs ≡ take k xs ++ x ∷ []
take_last [] k x e = absurd cc
take_last (y ∷ ys) zero x e = let same : y ≡ x = cc in ap (λ z. z ∷ []) same
take_last (y ∷ ys) (suc k) x e = ap (λ l. y ∷ l) (take_last ys k x e)

module _ (lib : Contracts) where
  abbrev Has : List ℕ → List ℕ × Object → Type 0
  Has row c = HasPlaces lib row (λ w. names_word w c.1)

  each_more : (rows : List (List ℕ)) (cs : Contracts) (row : List ℕ) (c : List ℕ × Object) → length rows ≡ length cs
      → ((j : ℕ) (r : List ℕ) (d : List ℕ × Object) → slice_get rows j ≡ Some r → slice_get cs j ≡ Some d → Has r d) → Has row c
      → (j : ℕ) (r : List ℕ) (d : List ℕ × Object) → slice_get (rows ++ row ∷ []) j ≡ Some r → slice_get (cs ++ c ∷ []) j ≡ Some d → Has r d
  each_more [] [] row c e f has zero r d a b =
      let one : row ≡ r = cc in
      let other : c ≡ d = cc in
      subst (Has r) other (subst (λ (x : List ℕ). Has x c) one has)
  each_more [] [] row c e f has (suc j) r d a b = absurd cc
  each_more [] (y ∷ ys) row c e f has j r d a b = absurd (omega (arith, e))
  each_more (x ∷ xs) [] row c e f has j r d a b = absurd (omega (arith, e))
  each_more (x ∷ xs) (y ∷ ys) row c e f has zero r d a b = f zero r d a b
  each_more (x ∷ xs) (y ∷ ys) row c e f has (suc j) r d a b = each_more xs ys row c (omega (arith, e)) (λ i. f (suc i)) has j r d a b

  pub tied_none : (rows : List (List ℕ)) (own : Contracts) → rows ≡ [] → AreTied lib rows (take 0 own)
  tied_none rows own e = subst (λ (l : List (List ℕ)). AreTied lib l (take 0 own)) (sym e) (refl, λ j r d a b. absurd cc)

  pub tied_more : (rows new : List (List ℕ)) (own : Contracts) (k : ℕ) (c : List ℕ × Object) → slice_get own k ≡ Some c → AreTied lib rows (take k own) → HasOneMore lib c.1 rows new
      → AreTied lib new (take (k + 1) own)
  tied_more rows new own k c at tied one =
      let more : suc k ≡ k + 1 = omega arith in
      let all : take k own ++ c ∷ [] ≡ take (k + 1) own = sym (take_last own k c at) ∙ ap (λ (n : ℕ). take n own) more in
      subst (AreTied lib new) all
      (subst (λ (l : List (List ℕ)). AreTied lib l (take k own ++ c ∷ [])) (sym one.last) (
        omega (arith, length_last rows one.row, length_last (take k own) c, tied.0),
        each_more rows (take k own) one.row c tied.0 tied.1 one.has,
      ))

-- of so many contracts it is told whether a node may be in them
pub record AreWrittenTo (n : ℕ) (root : Object) (nodes : List NodeId) (i : ℕ) (written : List Bool) : Type 0 where
  pub len : length written ≡ i
  pub out : (j : ℕ) (k : NodeId) → j < i → slice_get nodes j ≡ Some k → is_marked j written ≡ false → is_inside n k.number root ≡ false

pub written_none : (n : ℕ) (root : Object) (nodes : List NodeId) (written : List Bool) → written ≡ [] → AreWrittenTo n root nodes 0 written
written_none n root nodes written e = record { len = ap (λ (l : List Bool). length l) e; out = λ j k h. absurd (omega (arith, h)) }

got_item : (nodes : List NodeId) (i : ℕ) (x k : NodeId) → i < length nodes → x ≡ get_or nodes i x → slice_get nodes i ≡ Some k → k ≡ x
got_item [] i x k h is at = absurd (omega (arith, h))
got_item (n ∷ ns) zero x k h is at = let same : n ≡ k = cc in sym same ∙ sym is
got_item (n ∷ ns) (suc i) x k h is at = got_item ns i x k (omega (arith, h)) is at

pub written_more : (n : ℕ) (root : Object) (nodes : List NodeId) (i : ℕ) (written new : List Bool) (x : NodeId) (b : Bool) → i < length nodes → x ≡ get_or nodes i x
    → (b ≡ false → is_inside n x.number root ≡ false) → new ≡ written ++ b ∷ [] → AreWrittenTo n root nodes i written → AreWrittenTo n root nodes (i + 1) new
written_more n root nodes i written new x b h is out all w = record {
  len = omega (arith, ap (λ (l : List Bool). length l) all, length_last written b, w.len);
  out = λ j k less at off. go j k at off (split j i (omega (arith, less)));
}
  where
    go : (j : ℕ) (k : NodeId) → slice_get nodes j ≡ Some k → is_marked j new ≡ false → (j < i) ⊎ (j ≡ i) → is_inside n k.number root ≡ false
    go j k at off (inl less) = w.out j k less at (sym (ap (is_marked j) all ∙ marked_before written b j (omega (arith, less, w.len))) ∙ off)
    go j k at off (inr same) =
        let one : k ≡ x = got_item nodes i x k h is (ap (λ (m : ℕ). slice_get nodes m) (sym same) ∙ at) in
        ap (λ (m : NodeId). is_inside n m.number root) one
        ∙ out (sym (ap (is_marked j) all ∙ marked_last written b j (same ∙ sym w.len)) ∙ off)

pub written_all : (n : ℕ) (root : Object) (nodes : List NodeId) (i : ℕ) (written : List Bool) → length nodes ≤ i → AreWrittenTo n root nodes i written → AreWritten n root nodes written
written_all n root nodes i written h w = λ j k at off. w.out j k (omega (arith, h, there nodes j k at)) at off
  where
    there : (ns : List NodeId) (j : ℕ) (k : NodeId) → slice_get ns j ≡ Some k → j < length ns
    there [] j k e = absurd cc
    there (m ∷ ms) zero k e = omega arith
    there (m ∷ ms) (suc j) k e = omega (arith, there ms j k e)
