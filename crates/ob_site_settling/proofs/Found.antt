-- The nodes that are found one after the other.
use Rattle.std.proofs.Common.{ℕ, ◌≡◌, ◌+◌, ◌<◌, ◌≤◌, Bool, true, false, List, [], ◌∷◌, ◌++◌, length, All, refl, ap, ◌∙◌, subst, arith}
use Rattle.std.specs.Prelude.{nat_lt, Contains}
use Rattle.std.proofs.lemmas.Bool.{ltb-true, ltb-false}
use Rattle.std.proofs.lemmas.List.{map-append, get_or-map, length-map}
use Rattle.std.proofs.lemmas.List.Elements.{All-weaker}
use Rattle.ob_object.specs.Object.{parts}
use Rattle.ob_contracts.specs.Inherit.{Contracts}
use Rattle.ob_site_rules.specs.declared.plan.Plan.{Plan}
use Rattle.ob_site_rules.specs.State.{State}
use Rattle.ob_tree.specs.declared.node.NodeId.{NodeId}
use Rattle.ob_tree.proofs.Collecting.{Collected, none_yet, takes, leaves}
use Rattle.ob_site_state.proofs.Stepping.{numbers_of}
use Rattle.ob_site_settling.specs.Otherwise.{IsOtherwise, AreOtherwise, AreOtherwiseBelow}

collected : (plan : Plan) (s : State) (new : Contracts) (n : ℕ) (ns : List ℕ) → AreOtherwiseBelow plan s new n ns → Collected (IsOtherwise plan s new) n ns
collected plan s new n ns found = record { those = found.differ; all = found.all; in_order = found.in_order }

found_below : (plan : Plan) (s : State) (new : Contracts) (n : ℕ) (ns : List ℕ) → Collected (IsOtherwise plan s new) n ns → AreOtherwiseBelow plan s new n ns
found_below plan s new n ns c = record { differ = c.those; all = c.all; in_order = c.in_order }

pub none_below : (plan : Plan) (s : State) (new : Contracts) → AreOtherwiseBelow plan s new 0 []
none_below plan s new = found_below plan s new 0 [] (none_yet (IsOtherwise plan s new))

-- one that is shown otherwise
pub one_more : (plan : Plan) (s : State) (new : Contracts) (node : NodeId) (nodes all : List NodeId) → AreOtherwiseBelow plan s new node.number (numbers_of nodes) → IsOtherwise plan s new node.number
    → all ≡ nodes ++ node ∷ [] → AreOtherwiseBelow plan s new (node.number + 1) (numbers_of all)
one_more plan s new node nodes all found on is =
    found_below plan s new (node.number + 1) (numbers_of all)
    (takes (IsOtherwise plan s new) node.number (numbers_of nodes) (numbers_of all) (collected plan s new node.number (numbers_of nodes) found) on
    (ap numbers_of is ∙ map-append (λ (x : NodeId). x.number) nodes (node ∷ [])))

-- one that isn't
pub one_less : (plan : Plan) (s : State) (new : Contracts) (n : ℕ) (ns : List ℕ) → AreOtherwiseBelow plan s new n ns → (IsOtherwise plan s new n → ⊥) → AreOtherwiseBelow plan s new (n + 1) ns
one_less plan s new n ns found off = found_below plan s new (n + 1) ns (leaves (IsOtherwise plan s new) n ns ns (collected plan s new n ns found) off refl)

-- and several of which none is
pub none_more : (plan : Plan) (s : State) (new : Contracts) (n end : ℕ) (ns : List ℕ) → AreOtherwiseBelow plan s new n ns → n ≤ end → ((m : ℕ) → n ≤ m → m < end → IsOtherwise plan s new m → ⊥)
    → AreOtherwiseBelow plan s new end ns
none_more plan s new n end ns found more off = record {
  differ = All-weaker (λ m. (m < n) × IsOtherwise plan s new m) (λ m. (m < end) × IsOtherwise plan s new m) (λ m p. (omega (arith, p.0, more), p.1)) ns found.differ;
  all = λ m lt is. go m lt is (nat_lt m n) refl;
  in_order = found.in_order;
}
  where
    go : (m : ℕ) → m < end → IsOtherwise plan s new m → (b : Bool) → nat_lt m n ≡ b → Contains ns m
    go m lt is true e = found.all m (ltb-true m n e) is
    go m lt is false e = absurd (off m (ltb-false m n e) lt is)

-- they are nodes of the tree
pub within_all : (plan : Plan) (s : State) (new : Contracts) (nodes : List NodeId) → AreOtherwise plan s new (numbers_of nodes) → All (λ node. node.number < parts s.tree) nodes
within_all plan s new nodes are = λ k d h.
    (let there : k < length (numbers_of nodes) = omega (arith, h, length-map nodes (λ (x : NodeId). x.number)) in
    (subst (λ (n : ℕ). (n < parts s.tree) × IsOtherwise plan s new n) (get_or-map (λ (x : NodeId). x.number) nodes k d d.number h) (are.differ k d.number there)).0)
