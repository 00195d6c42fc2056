-- A library of which a contract is another.
use Rattle.std.proofs.Common.{◌≡◌, ℕ, zero, suc, ◌<◌, Bool, true, false, ◌||◌, cond, List, [], ◌∷◌, length, get_or, set, Option, Some, option_map, refl, sym, ap, ◌∙◌, true≢false, arith}
use Rattle.std.specs.Prelude.{slice_get, String}
use Rattle.std.specs.Str.{bytes_eq}
use Rattle.std.specs.BTreeSet.{BTreeSet}
use Rattle.ob_values.proofs.Bools.{or_first, or_second}
use Rattle.ob_object.specs.Object.{Object}
use Rattle.ob_contracts.specs.Adding.{names_word, library_names}
use Rattle.ob_contracts.specs.Index.{at_place, place_of}
use Rattle.ob_contracts.specs.Inherit.{Contracts}
use Rattle.ob_contracts.specs.Named.{HasAll, HasNamed, KeepsKnown}
use Rattle.ob_contracts.specs.Renewing.{with_contract}
use Rattle.ob_contracts.specs.Sound.{AllSound, IsSound}
use Rattle.ob_contracts.proofs.Known.{either}

pub found_at : (lib : Contracts) (i : ℕ) (x : List ℕ × Object) → i < length lib → x ≡ get_or lib i x → slice_get lib i ≡ Some x
found_at [] i x h e = absurd (omega (arith, h))
found_at (c ∷ cs) zero x h e = ap Some (sym e)
found_at (c ∷ cs) (suc i) x h e = found_at cs i x (omega (arith, h)) e

pub set_there : (lib : Contracts) (i : ℕ) (x : List ℕ × Object) (made : Object) → slice_get lib i ≡ Some x → set lib i (x.0, made) ≡ with_contract i made lib
set_there [] i x made e = absurd cc
set_there (c ∷ cs) zero x made e = let same : c ≡ x = cc in ap (λ (y : List ℕ × Object). (y.0, made) ∷ cs) (sym same)
set_there (c ∷ cs) (suc i) x made e = ap (λ l. c ∷ l) (set_there cs i x made e)

pub sound_there : (lib : Contracts) (i : ℕ) (made : Object) → AllSound lib → IsSound made → AllSound (with_contract i made lib)
sound_there [] i made a s = a
sound_there (c ∷ cs) zero made a s = (s, a.1)
sound_there (c ∷ cs) (suc i) made a s = (a.0, sound_there cs i made a.1 s)

pub place_there : (w : List ℕ) (lib : Contracts) (i : ℕ) (made : Object) → place_of w (with_contract i made lib) ≡ place_of w lib
place_there w [] i made = refl
place_there w (c ∷ cs) zero made = refl
place_there w (c ∷ cs) (suc i) made = ap (λ (o : Option ℕ). cond (bytes_eq c.0 w) (Some 0) (option_map suc o)) (place_there w cs i made)

names_there : (w : List ℕ) (k : Bool) (lib : Contracts) (i : ℕ) (made : Object) → (names_word w made ≡ true → k ≡ true) → (library_names w lib ≡ true → k ≡ true) → library_names w (with_contract i made lib) ≡ true → k ≡ true
names_there w k [] i made f g e = absurd (true≢false (sym e))
names_there w k (c ∷ cs) zero made f g e =
    either (names_word w made) (library_names w cs) k f (λ h. g (or_second (names_word w c.1) (library_names w cs) h)) e
names_there w k (c ∷ cs) (suc i) made f g e =
    either (names_word w c.1) (library_names w (with_contract i made cs)) k (λ h. g (or_first (names_word w c.1) (library_names w cs) h))
    (names_there w k cs i made f (λ h. g (or_second (names_word w c.1) (library_names w cs) h))) e

module _ {Y : Type 0} where
  pub known_there : (before after : BTreeSet (String Y)) (lib : Contracts) (i : ℕ) (made : Object) → KeepsKnown before after → HasAll after (λ w. names_word w made) → HasNamed before lib
      → HasNamed after (with_contract i made lib)
  known_there before after lib i made keeps all held = λ w e. names_there w _ lib i made (all w) (λ h. keeps w (held w h)) e

  -- where another contract names what the library does
  pub named_there : (known : BTreeSet (String Y)) (lib : Contracts) (i : ℕ) (made : Object) → ((w : List ℕ) → names_word w made ≡ true → library_names w lib ≡ true) → HasNamed known lib → HasNamed known (with_contract i made lib)
  named_there known lib i made same held = λ w e. names_there w _ lib i made (λ h. held w (same w h)) (held w) e
