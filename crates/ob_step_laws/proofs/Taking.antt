-- Contracts that are added one after another.
use Rattle.std.proofs.Common.{◌≡◌, ℕ, Bool, true, false, ◌||◌, cond, List, [], ◌∷◌, ◌++◌, None, refl, sym, ap, ◌∙◌, subst}
use Rattle.std.specs.Prelude.{is_some, nat_lt, Result, Ok, Err}
use Rattle.ob_object.specs.Object.{Object, parts}
use Rattle.ob_contracts.specs.Inherit.{Contracts, contract_of, result_of}
use Rattle.ob_contracts.specs.Adding.{added, names_word, library_names}
use Rattle.ob_contracts.specs.Standard.{with_added}
use Rattle.ob_contracts.specs.declared.adding.LibFault.{LibFault}
use Rattle.ob_contracts.specs.declared.adding.LibFault.TheVariants.{Twice, Later, Large}
use Rattle.ob_site_rules.specs.Loading.{add_contracts}
use Rattle.ob_contracts.specs.Renewing.{AreTaken}
use Rattle.ob_step_laws.specs.Laws.{AddedAreTaken}

one_is : (a b c : Bool) (e f g : LibFault) (more new : Contracts) → cond a (Err e) (cond b (Err f) (cond c (Err g) (Ok more))) ≡ Ok new → more ≡ new
one_is true b c e f g more new h = cc
one_is false true c e f g more new h = cc
one_is false false true e f g more new h = cc
one_is false false false e f g more new h = cc

-- a library that took a contract has it last, with all that it inherits
new_is : (lib new : Contracts) (p : List ℕ) (o : Object) → added lib p o ≡ Ok new → lib ++ (p, result_of lib o None None) ∷ [] ≡ new
new_is lib new p o h =
    one_is (is_some (contract_of lib p)) (names_word p o || library_names p lib) (nat_lt 512 (parts (result_of lib o None None))) (Twice p) (Later p) (Large p) (lib ++ (p, result_of lib o None None) ∷ []) new h

stays : (fault : LibFault) (cs : Contracts) → add_contracts (Err fault) cs ≡ Err fault
stays fault [] = refl
stays fault (c ∷ cs) = stays fault cs

err_is_no_ok : (fault : LibFault) (new : Contracts) → Err fault ≡ Ok new → ⊥
err_is_no_ok fault new h = cc

same_ok : (a b : Contracts) (r : Result Contracts LibFault) → r ≡ Ok a → r ≡ Ok b → a ≡ b
same_ok a b r e h = cc

step : (lib new : Contracts) (p : List ℕ) (o : Object) (cs : Contracts) (r : Result Contracts LibFault) → added lib p o ≡ r → add_contracts r cs ≡ Ok new
    → ((more : Contracts) → add_contracts (Ok more) cs ≡ Ok new → AreTaken more cs × (new ≡ with_added more cs))
    → AreTaken lib ((p, o) ∷ cs) × (new ≡ with_added lib ((p, o) ∷ cs))
step lib new p o cs (Err fault) is h more = absurd (err_is_no_ok fault new (sym (stays fault cs) ∙ h))
step lib new p o cs (Ok lib2) is h more =
    let e : lib ++ (p, result_of lib o None None) ∷ [] ≡ lib2 = new_is lib lib2 p o is in
    let rest : AreTaken lib2 cs × (new ≡ with_added lib2 cs) = more lib2 h in
    ((is ∙ ap (λ (l : Contracts). Ok l) (sym e), subst (λ (l : Contracts). AreTaken l cs) (sym e) rest.0), rest.1 ∙ ap (λ (l : Contracts). with_added l cs) (sym e))

pub added_are_taken : AddedAreTaken
added_are_taken lib new [] h = (tt, sym (same_ok lib new (Ok lib) refl h))
added_are_taken lib new (c ∷ cs) h = step lib new c.0 c.1 cs (added lib c.0 c.1) refl h (λ more k. added_are_taken more new cs k)
