-- Upstreams that are followed, and down.
use Rattle.std.proofs.Common.{◌≡◌, ℕ, List, [], ◌∷◌, ◌++◌, map, true, None, Some, refl, ap, sym, subst, ◌∙◌}
use Rattle.std.specs.List.{AllByRecursion}
use Rattle.std.proofs.lemmas.List.{map-append}
use Rattle.ob_object.specs.Object.{Object}
use Rattle.ob_watching.specs.WatchOuts.{Text}
use Rattle.ob_super.specs.declared.upstream.Upstream.{Upstream}
use Rattle.ob_super.specs.declared.upstream.Followed.{Followed}
use Rattle.ob_super.specs.Upstreams as spec
use Rattle.ob_super.specs.Upstreams.{IsConfig, configured, offences}
use Rattle.ob_super.specs.Configs.{Judges}
use Rattle.ob_super.specs.declared.config_fault.ConfigFault.{ConfigFault}
use Rattle.ob_super.specs.declared.config_fault.ConfigFault.TheVariants.{Shape, Memory}
use Rattle.ob_parts.proofs.Earliest.{least_some}
use Rattle.std.specs.declared.result.Result.TheVariants.{Err}
use Rattle.ob_super.specs.Names.{are_apart, names}
use Rattle.ob_super.specs.InHand.{upstream, upstreams, AreDown, AllWait, down, Configures}

same_all : {A : Type 0} (xs : List A) → map (λ x. x) xs ≡ xs
same_all [] = refl
same_all (x ∷ xs) = ap (λ ys. x ∷ ys) (same_all xs)

module _ {L : Type 0} (wait_ms : ℕ) where
  -- those that were yielded are followed, and at the end all of them
  pub down_more : (us : List Upstream) (u : Upstream) (old new : List (Followed L)) → new ≡ old ++ down wait_ms u ∷ [] → old ≡ map (down wait_ms) us → new ≡ map (down wait_ms) (us ++ u ∷ [])
  down_more us u old new e f = e ∙ (ap (λ xs. xs ++ down wait_ms u ∷ []) f ∙ sym (map-append (down wait_ms) us (u ∷ [])))

  pub down_end : (yielded us : List Upstream) (all : List (Followed L)) → map (λ x. x) yielded ≡ us → all ≡ map (down wait_ms) yielded → AreDown wait_ms us all
  down_end yielded us all e f = f ∙ ap (map (down wait_ms)) (sym (same_all yielded) ∙ e)

module _ (L : Type 0) (wait_ms : ℕ) where
  abbrev downs : List Upstream → List (Followed L)
  downs us = map (down {L = L} wait_ms) us

  names_down : (us : List Upstream) → names (downs us) ≡ map (λ (u : Upstream). u.name) us
  names_down [] = refl
  names_down (u ∷ us) = ap (λ (ns : List Text). u.name ∷ ns) (names_down us)

  upstreams_down : (us : List Upstream) → upstreams (downs us) ≡ map upstream us
  upstreams_down [] = refl
  upstreams_down (u ∷ us) = ap (λ (vs : List spec.Upstream). upstream u ∷ vs) (upstreams_down us)

  all_are : (us : List Upstream) → AllByRecursion (λ (f : Followed L). (f.live ≡ None) × (f.failed ≡ 0)) (downs us)
  all_are [] = tt
  all_are (u ∷ us) = ((refl, refl), all_are us)

  all_wait : (us : List Upstream) → AllWait wait_ms (downs us)
  all_wait [] = tt
  all_wait (u ∷ us) = (refl, all_wait us)

-- what a config tells is followed
pub new_ok : {L : Type 0} (config : Object) (wait_ms : ℕ) (us : List Upstream) (all : List (Followed L)) → offences config ≡ [] → configured config ≡ Some (map upstream us) → AreDown wait_ms us all
    → IsConfig config × (configured config ≡ Some (upstreams all)) × ((let zero : ℕ = 0 in zero ≡ 0) × AllByRecursion (λ (f : Followed L). (f.live ≡ None) × (f.failed ≡ 0)) all) × AllWait wait_ms all
new_ok {L = L} config wait_ms us all none told e = (
  none,
  told ∙ ap Some (sym (ap upstreams e ∙ upstreams_down L wait_ms us)),
  (refl, subst (AllByRecursion (λ (f : Followed L). (f.live ≡ None) × (f.failed ≡ 0))) (sym e) (all_are L wait_ms us)),
  subst (λ (fs : List (Followed L)). AllWait wait_ms fs) (sym e) (all_wait L wait_ms us),
)

pub new_apart : {L : Type 0} (wait_ms : ℕ) (us : List Upstream) (all : List (Followed L)) → are_apart (map (λ (u : Upstream). u.name) us) ≡ true → AreDown wait_ms us all → are_apart (names all) ≡ true
new_apart {L = L} wait_ms us all apart e = ap are_apart (ap names e ∙ names_down L wait_ms us) ∙ apart

-- a refusal names the first part that offends
pub new_err : {A : Type 0} (L : Type 0) (config : Object) (wait_ms : ℕ) (P : A → Type 0) (f : ConfigFault) → Judges (offences config) P (Err f) → Configures {L = L} config wait_ms (Err f)
new_err L config wait_ms P (Shape offence) h = least_some (offences config) offence h
new_err L config wait_ms P Memory h = tt
