-- Whether a node is in a contract is told by numbers.
use Rattle.std.proofs.Common.{ℕ, ◌≡◌, suc, ◌+◌, ◌-◌, ◌<◌, ◌≤◌, Bool, true, false, ◌||◌, cond, List, [], ◌∷◌, ◌++◌, Option, Some, None, option_map, refl, sym, ap, ap₂, ◌∙◌, arith}
use Rattle.std.specs.Prelude.{is_some, codes, filter_map, unwrap_or}
use Rattle.std.specs.List.{cons_option, list_any}
use Rattle.std.proofs.lemmas.Bool.{le-ltb}
use Rattle.ob_values.proofs.Bools.{or_false}
use Rattle.ob_object.specs.declared.head.Head.{Head}
use Rattle.ob_object.specs.Object.{Objects, none, node, Object, count, listed, children}
use Rattle.ob_object.specs.WellFormed.{has_name, named}
use Rattle.ob_object.specs.Paths.{is_path, node_path}
use Rattle.ob_contracts.specs.Inherit.{Contracts, or_else, only_if}
use Rattle.ob_site_rules.specs.Build.{Text, Path, child}
use Rattle.ob_site_rules.specs.Shown.{node_in, node_of}
use Rattle.ob_shown_laws.specs.Changed.{is_in, is_round}
use Rattle.ob_tree.specs.Children.{named_from, child_at}
use Rattle.ob_tree.specs.Laid.{paths}
use Rattle.ob_tree.specs.Paths.{place_of, first_twice}
use Rattle.ob_tree.specs.Shown.{row, part_in, part_at}
use Rattle.ob_tree.proofs.Growing.{Grows, grows_for}
use Rattle.ob_shown_laws.specs.Contracted.{nodes_from, nodes_in, nodes_below, is_within, is_inside, ContractsAreNumbered}
use Rattle.ob_shown_laws.proofs.Bridging.{nodes_numbered}
use Rattle.ob_shown_laws.proofs.Followed.{part_less}

-- a node is found in a row exactly where it is in it
some_either : (a b : Option Object) → is_some (or_else a b) ≡ (is_some a || is_some b)
some_either None b = refl
some_either (Some x) b = refl

some_if : (b : Bool) (x : Object) → is_some (only_if b (Some x)) ≡ b
some_if true x = refl
some_if false x = refl

pub found_in : (p : Path) (os : Objects) → is_some (node_in p os) ≡ is_in p os
found_in p none = refl
found_in p (node h inner rest) =
    some_either (only_if (is_path p (node_path h)) (Some (record { head = h; inner = inner }))) (or_else (node_in p inner) (node_in p rest))
    ∙ ap₂ (λ a b. a || b) (some_if (is_path p (node_path h)) (record { head = h; inner = inner }))
    (some_either (node_in p inner) (node_in p rest) ∙ ap₂ (λ a b. a || b) (found_in p inner) (found_in p rest))

found_round : (p : Path) (x : Object) → is_some (node_of p x) ≡ is_round p x
found_round p x = found_in p (row x) ∙ ap (λ b. is_path p (node_path x.head) || b) (or_false (is_in p x.inner))

-- the objects of a row are those of a tree from a number on
abbrev Lies : Object → ℕ → Objects → Type 0
Lies o at r = (i : ℕ) → i < count r → part_at (at + i) o ≡ part_in i r

lies_first : (o : Object) (at : ℕ) (h : Head) (inner rest : Objects) → Lies o at (node h inner rest) → part_at at o ≡ Some (record { head = h; inner = inner })
lies_first o at h inner rest lies =
    let here : at ≡ at + 0 = omega arith in ap (λ (m : ℕ). part_at m o) here ∙ lies 0 (omega arith)

lies_rest : (o : Object) (at : ℕ) (h : Head) (inner rest : Objects) → Lies o at (node h inner rest) → Lies o (at + (count inner + 1)) rest
lies_rest o at h inner rest lies i lt =
    let one : at + (count inner + 1) + i ≡ at + suc (count inner + i) = omega arith in
    let past : count inner ≤ count inner + i = omega arith in
    let off : count inner + i - count inner ≡ i = omega arith in
    ap (λ (m : ℕ). part_at m o) one
    ∙ lies (suc (count inner + i)) (omega (arith, lt))
    ∙ ap (λ (b : Bool). cond b (part_in (count inner + i) inner) (part_in (count inner + i - count inner) rest)) (le-ltb (count inner + i) (count inner) past)
    ∙ ap (λ (m : ℕ). part_in m rest) off

abbrev nodes : List Object → Contracts
nodes os = filter_map (λ o. option_map (λ p. (p, o)) (node_path o.head)) os

module _ (o : Object) (p : Path) (n : ℕ) (apart : first_twice [] (paths o) ≡ None) (at_n : place_of p (paths o) ≡ Some n) where
  any_node : (at : ℕ) (r : Objects) → Lies o at r → list_any (λ c. is_some (node_of p c.1)) (nodes (listed r)) ≡ list_any (λ k. is_inside n k o) (nodes_from at r)
  any_node at none lies = refl
  any_node at (node h inner rest) lies =
      go (node_path h)
      (found_round p (record { head = h; inner = inner }) ∙ nodes_numbered o (record { head = h; inner = inner }) p n at apart at_n (lies_first o at h inner rest lies)
      ∙ sym (ap (is_within n at) (lies_first o at h inner rest lies)))
      (any_node (at + (count inner + 1)) rest (lies_rest o at h inner rest lies))
    where
      go : (q : Option Path) → is_some (node_of p (record { head = h; inner = inner })) ≡ is_inside n at o
          → list_any (λ c. is_some (node_of p c.1)) (nodes (listed rest)) ≡ list_any (λ k. is_inside n k o) (nodes_from (at + (count inner + 1)) rest)
          → list_any (λ c. is_some (node_of p c.1)) (cons_option (option_map (λ (q : Path). (q, record { head = h; inner = inner })) q) (nodes (listed rest)))
          ≡ list_any (λ k. is_inside n k o) (cond (is_some q) (at ∷ []) [] ++ nodes_from (at + (count inner + 1)) rest)
      go None own later = later
      go (Some q) own later = ap₂ (λ a b. a || b) own later

-- the first object of a name in a row, and its number
abbrev Named : Object → ℕ → Option ℕ → Option Object → Type 0
Named o at None None = Unit {0}
Named o at None (Some x) = ⊥
Named o at (Some k) None = ⊥
Named o at (Some k) (Some x) = part_at k o ≡ Some x

named_in : (o : Object) (name : Text) (at : ℕ) (r : Objects) → Lies o at r → Named o at (named_from at name r) (named name (listed r))
named_in o name at none lies = tt
named_in o name at (node h inner rest) lies = go (has_name name h.name) (named_in o name (at + (count inner + 1)) rest (lies_rest o at h inner rest lies))
  where
    go : (b : Bool) → Named o (at + (count inner + 1)) (named_from (at + (count inner + 1)) name rest) (named name (listed rest))
        → Named o at (cond b (Some at) (named_from (at + (count inner + 1)) name rest)) (cond b (Some (record { head = h; inner = inner })) (named name (listed rest)))
    go true later = lies_first o at h inner rest lies
    go false later = same (named_from (at + (count inner + 1)) name rest) (named name (listed rest)) later
      where
        same : (k : Option ℕ) (x : Option Object) → Named o (at + (count inner + 1)) k x → Named o at k x
        same None None e = tt
        same None (Some x) e = e
        same (Some k) None e = e
        same (Some k) (Some x) e = e

-- the children of an object lie behind it
lies_below : (o x : Object) (k : ℕ) → part_at k o ≡ Some x → Lies o (k + 1) x.inner
lies_below o x k is i lt =
    let g : Grows o k x = grows_for o x k (omega (arith, part_less (row o) k x is)) is in
    g.inside i (k + 1 + i) (omega arith) lt

pub contracts_numbered : ContractsAreNumbered
contracts_numbered o p n apart at_n = go (child_at 0 (codes "contracts") o) (child (codes "contracts") o) (named_in o (codes "contracts") 1 o.inner lies)
  where
    lies : Lies o 1 o.inner
    lies = lies_below o o 0 refl

    go : (k : Option ℕ) (x : Option Object) → Named o 1 k x
        → list_any (λ c. is_some (node_of p c.1)) (nodes (unwrap_or (option_map children x) [])) ≡ list_any (λ k. is_inside n k o) (nodes_below o k)
    go None None e = refl
    go None (Some x) e = absurd e
    go (Some k) None e = absurd e
    go (Some k) (Some x) e =
        any_node o p n apart at_n (k + 1) x.inner (lies_below o x k e)
        ∙ sym (ap (λ (q : Option Object). list_any (λ k. is_inside n k o) (nodes_in k q)) e)
