-- Whether a node is in a contract, by the object in which the contracts stand.
use Rattle.std.proofs.Common.{ℕ, ◌≡◌, ◌<◌, false, ◌||◌, [], Option, Some, None, option_map, refl, sym, ap, ◌∙◌, arith}
use Rattle.std.specs.Prelude.{is_some, codes, unwrap_or}
use Rattle.std.specs.List.{cons_option, list_any}
use Rattle.ob_values.proofs.Bools.{neither, or_false, both_false}
use Rattle.ob_object.specs.Object.{Objects, none, node, Object, parts, listed, children}
use Rattle.ob_object.specs.Paths.{is_path, node_path}
use Rattle.ob_contracts.specs.Inherit.{Contracts}
use Rattle.ob_site_rules.specs.Build.{Path, child}
use Rattle.ob_site_rules.specs.Shown.{node_of}
use Rattle.ob_site_rules.specs.Writes.{site_contracts, is_in_contract}
use Rattle.ob_shown_laws.specs.Changed.{is_in, is_round}
use Rattle.ob_tree.specs.Children.{child_at}
use Rattle.ob_tree.specs.Laid.{paths}
use Rattle.ob_tree.specs.Paths.{place_of, first_twice}
use Rattle.ob_tree.specs.Shown.{row, part_at}
use Rattle.ob_tree.proofs.Growing.{grows}
use Rattle.ob_tree.proofs.Named.{child_within}
use Rattle.ob_shown_laws.specs.Contracted.{is_within, is_inside}
use Rattle.ob_shown_laws.proofs.Bridging.{nodes_numbered}
use Rattle.ob_shown_laws.proofs.Contracting.{found_in}
use Rattle.ob_site_state.specs.Parts.{contracts_in}
use Rattle.ob_site_state.proofs.ChildNamed.{child_is, child_not}

-- the site's contracts are the nodes among the children of the root's own child `contracts`
pub contracts_some : (o x : Object) → child (codes "contracts") o ≡ Some x → site_contracts o ≡ contracts_in (children x)
contracts_some o x is = ap (λ (c : Option Object). contracts_in (unwrap_or (option_map children c) [])) is

pub contracts_none : (o : Object) → child (codes "contracts") o ≡ None → site_contracts o ≡ []
contracts_none o is = ap (λ (c : Option Object). contracts_in (unwrap_or (option_map children c) [])) is

-- where a node isn't in a row, it is in none of its objects
pub none_in : (p : Path) (r : Objects) → is_in p r ≡ false → list_any (λ c. is_some (node_of p c.1)) (contracts_in (listed r)) ≡ false
none_in p none e = refl
none_in p (node h inner rest) e =
    let own = neither (is_path p (node_path h)) (is_in p inner || is_in p rest) e in
    let below = neither (is_in p inner) (is_in p rest) own.1 in
    let x : Object = record { head = h; inner = inner } in
    let here : is_some (node_of p x) ≡ false = found_in p (row x) ∙ ap (λ b. is_path p (node_path h) || b) (or_false (is_in p inner)) ∙ both_false (is_path p (node_path h)) (is_in p inner) own.0 below.0 in
    go (node_path h) here (none_in p rest below.1)
  where
    go : (q : Option Path) → is_some (node_of p (record { head = h; inner = inner })) ≡ false → list_any (λ c. is_some (node_of p c.1)) (contracts_in (listed rest)) ≡ false
        → list_any (λ c. is_some (node_of p c.1)) (cons_option (option_map (λ (q : Path). (q, record { head = h; inner = inner })) q) (contracts_in (listed rest))) ≡ false
    go None here later = later
    go (Some q) here later = both_false (is_some (node_of p (record { head = h; inner = inner }))) (list_any (λ c. is_some (node_of p c.1)) (contracts_in (listed rest))) here later

-- so a node that isn't in the object of the contracts is in no contract
outside_of : (o x : Object) (k n : ℕ) (p : Path) → Some k ≡ child_at 0 (codes "contracts") o → part_at k o ≡ Some x → is_inside n k o ≡ false
    → first_twice [] (paths o) ≡ None → place_of p (paths o) ≡ Some n → is_in_contract p o ≡ false
outside_of o x k n p at there out differ place =
    let round : is_round p x ≡ false = nodes_numbered o x p n k differ place there ∙ sym (ap (is_within n k) there) ∙ out in
    let within = neither (is_path p (node_path x.head)) (is_in p x.inner) round in
    ap (λ (cs : Contracts). list_any (λ c. is_some (node_of p c.1)) cs) (contracts_some o x (child_is o x (codes "contracts") k at there))
    ∙ none_in p x.inner within.1

pub not_inside : (o : Object) (k n : ℕ) (p : Path) → Some k ≡ child_at 0 (codes "contracts") o → k < parts o → is_inside n k o ≡ false
    → first_twice [] (paths o) ≡ None → place_of p (paths o) ≡ Some n → is_in_contract p o ≡ false
not_inside o k n p at within out differ place = let g = grows o k within in outside_of o g.0 k n p at g.1.is out differ place

-- where there are no contracts, no node is in one
pub no_contracts : (o : Object) (p : Path) → None ≡ child_at 0 (codes "contracts") o → is_in_contract p o ≡ false
no_contracts o p at =
    ap (λ (cs : Contracts). list_any (λ c. is_some (node_of p c.1)) cs) (contracts_none o (child_not o (codes "contracts") at))

-- where a node isn't in the root's own child of that name, if there is one, it is in no contract
pub none_round : (o : Object) (n : ℕ) (p : Path) → ((k : ℕ) → Some k ≡ child_at 0 (codes "contracts") o → is_inside n k o ≡ false)
    → first_twice [] (paths o) ≡ None → place_of p (paths o) ≡ Some n → is_in_contract p o ≡ false
none_round o n p out differ place = go (child_at 0 (codes "contracts") o) refl
  where
    go : (c : Option ℕ) → c ≡ child_at 0 (codes "contracts") o → is_in_contract p o ≡ false
    go None e = no_contracts o p e
    go (Some k) e = not_inside o k n p e (child_within o 0 (codes "contracts") k (omega arith) (sym e)) (out k e) differ place
