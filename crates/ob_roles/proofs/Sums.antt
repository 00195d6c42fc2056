-- Contracts that are added one after another.
use Rattle.std.proofs.Common.{◌≡◌, ℕ, suc, ◌+◌, ◌<◌, ◌≤◌, List, [], ◌∷◌, ◌++◌, length, drop, get_or, Option, Some, None, option_map, refl, sym, ap, ◌∙◌, subst, inl, inr, add-one, ⊎_elim}
use Rattle.std.specs.Prelude.{◌⊎◌, Result, Ok, Err}
use Rattle.std.specs.List.{cons_option}
use Rattle.std.proofs.Math.Seq.{drop-cons}
use Rattle.ob_values.proofs.Lists.{drop_all}
use Rattle.ob_object.specs.Object.{Object}
use Rattle.ob_object.specs.Paths.{node_path}
use Rattle.ob_contracts.specs.Inherit.{Contracts, result_of}
use Rattle.ob_contracts.specs.Adding.{added}
use Rattle.ob_contracts.specs.declared.adding.LibFault.{LibFault}
use Rattle.ob_contracts.specs.declared.adding.LibFault.TheVariants.{Memory}
use Rattle.ob_site_rules.specs.Loading.{add_contracts, and_add}
use Rattle.ob_site_rules.specs.Build.{Path}
use Rattle.ob_roles.specs.Sums.{nodes_of, Gives, IsAddedIf}

pub nodes_past : (o : Object) (os : List Object) → node_path o.head ≡ None → nodes_of (o ∷ os) ≡ nodes_of os
nodes_past o os is = ap (λ (q : Option Path). cons_option (option_map (λ p. (p, o)) q) (nodes_of os)) is

pub nodes_here : (o : Object) (os : List Object) (p : Path) → node_path o.head ≡ Some p → nodes_of (o ∷ os) ≡ (p, o) ∷ nodes_of os
nodes_here o os p is = ap (λ (q : Option Path). cons_option (option_map (λ p. (p, o)) q) (nodes_of os)) is

-- a refusal stays
refused_stays : (fault : LibFault) (cs : Contracts) → add_contracts (Err fault) cs ≡ Err fault
refused_stays fault [] = refl
refused_stays fault (c ∷ cs) = refused_stays fault cs

pub rest_more : (xs : List Object) (i : ℕ) (x : Object) → i < length xs → x ≡ get_or xs i x → drop i xs ≡ x ∷ drop (i + 1) xs
rest_more xs i x h is = drop-cons xs i x h ∙ ap (λ y. y ∷ drop (suc i) xs) (sym is) ∙ rw add-one refl

abbrev pub Sum : Contracts → List Object → Result Contracts LibFault
Sum lib os = add_contracts (Ok lib) (nodes_of os)

step_at : (lib new : Contracts) (o : Object) (os : List Object) (path : Option Path) → node_path o.head ≡ path → IsAddedIf lib new o path (Ok tt) → Sum lib (o ∷ os) ≡ Sum new os
step_at lib new o os None is e = ap (add_contracts (Ok lib)) (nodes_past o os is) ∙ ap (λ l. Sum l os) (sym e)
step_at lib new o os (Some p) is e = ap (add_contracts (Ok lib)) (nodes_here o os p is) ∙ ap (λ r. add_contracts r (nodes_of os)) e

fault_at : (lib new : Contracts) (o : Object) (os : List Object) (path : Option Path) (fault : LibFault) → node_path o.head ≡ path → IsAddedIf lib new o path (Err fault) → Gives (Err fault) (Sum lib (o ∷ os))
fault_at lib new o os None fault is e = inr e
fault_at lib new o os (Some p) fault is e =
    ⊎_elim (λ f. inl (ap (add_contracts (Ok lib)) (nodes_here o os p is) ∙ ap (λ r. add_contracts r (nodes_of os)) f ∙ refused_stays fault (nodes_of os))) (λ m. inr m) e

-- one object more is looked at
pub sum_more : (all : List Object) (first lib new : Contracts) (i : ℕ) (o : Object) → i < length all → o ≡ get_or all i o → IsAddedIf lib new o (node_path o.head) (Ok tt)
    → Sum first all ≡ Sum lib (drop i all) → Sum first all ≡ Sum new (drop (i + 1) all)
sum_more all first lib new i o h is e p = p ∙ ap (Sum lib) (rest_more all i o h is) ∙ step_at lib new o (drop (i + 1) all) (node_path o.head) refl e

pub sum_refused : (all : List Object) (first lib new : Contracts) (i : ℕ) (o : Object) (fault : LibFault) → i < length all → o ≡ get_or all i o → IsAddedIf lib new o (node_path o.head) (Err fault)
    → Sum first all ≡ Sum lib (drop i all) → Gives (Err fault) (Sum first all)
sum_refused all first lib new i o fault h is e p =
    subst (Gives (Err fault)) (sym (p ∙ ap (Sum lib) (rest_more all i o h is))) (fault_at lib new o (drop (i + 1) all) (node_path o.head) fault refl e)

pub sum_all : (all : List Object) (first lib : Contracts) (i : ℕ) → length all ≤ i → Sum first all ≡ Sum lib (drop i all) → Gives (Ok lib) (Sum first all)
sum_all all first lib i h p = p ∙ ap (Sum lib) (drop_all all i h)
