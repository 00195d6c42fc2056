-- What parts give to a plan, one part after another.
use Rattle.std.proofs.Common.{◌≡◌, ℕ, ◌+◌, ◌^◌, ◌<◌, ◌≤◌, Bool, true, false, cond, List, [], ◌∷◌, ◌++◌, map, filter, length, drop, get_or, Option, Some, None, refl, sym, ap, ◌∙◌, append_assoc}
use Rattle.std.specs.List.{cons_option}
use Rattle.std.proofs.lemmas.List.{append-nil}
use Rattle.ob_object.specs.Object.{Object}
use Rattle.ob_site_rules.specs.Loading.{Part}
use Rattle.ob_roles.specs.SiteParts.{part as site_part}
use Rattle.ob_roles.specs.declared.part.Part.{Part as OwnPart}
use Rattle.ob_site_rules.specs.Build.{Path, Text}
use Rattle.ob_site_rules.specs.State.{Log}
use Rattle.ob_plain_state.specs.States.{AreCounted}
use Rattle.ob_site_rules.specs.Writes.{events_ever}
use Rattle.ob_site_file.specs.Abouts.{texts_in}
use Rattle.ob_values.proofs.Lists.{drop_all}
use Rattle.ob_site_file.proofs.Rests.{rest_more}

-- what is given so far, and what is left, is what there was, and what all give
module _ {B : Type 0} (give : Part → B) (asked : Part → Bool) where
  abbrev given : List Part → List B
  given ps = map give (filter asked ps)

  given_cons : (p : Part) (ps : List Part) → given (p ∷ ps) ≡ given (p ∷ []) ++ given ps
  given_cons p ps = go (asked p)
    where
      go : (b : Bool) → map give (cond b (p ∷ filter asked ps) (filter asked ps)) ≡ map give (cond b (p ∷ []) []) ++ given ps
      go true = refl
      go false = refl

  abbrev pub Gives : List OwnPart → ℕ → List B → List B → Type 0
  Gives all i old new = new ++ given (map site_part (drop i all)) ≡ old ++ given (map site_part all)

  pub gives_more : (all : List OwnPart) (i : ℕ) (x : OwnPart) (old new last : List B) → i < length all → x ≡ get_or all i x → last ≡ new ++ given (site_part x ∷ []) → Gives all i old new → Gives all (i + 1) old last
  gives_more all i x old new last h is put p =
      let rest = given (map site_part (drop (i + 1) all)) in
      ap (λ l. l ++ rest) put
      ∙ append_assoc new (given (site_part x ∷ [])) rest
      ∙ ap (λ l. new ++ l) (sym (ap (λ l. given (map site_part l)) (rest_more all i x h is) ∙ given_cons (site_part x) (map site_part (drop (i + 1) all))))
      ∙ p

  pub gives_all : (all : List OwnPart) (i : ℕ) (old new : List B) → length all ≤ i → Gives all i old new → new ≡ old ++ given (map site_part all)
  gives_all all i old new h p = sym (append-nil new) ∙ ap (λ l. new ++ given (map site_part l)) (sym (drop_all all i h)) ∙ p

  -- one that is asked for, and one that isn't
  pub gives_one : (p : Part) (old new : List B) → asked p ≡ true → new ≡ old ++ give p ∷ [] → new ≡ old ++ given (p ∷ [])
  gives_one p old new a put = put ∙ ap (λ b. old ++ map give (cond b (p ∷ []) [])) (sym a)

  pub gives_none : (p : Part) (old : List B) → asked p ≡ false → old ≡ old ++ given (p ∷ [])
  gives_none p old a = sym (append-nil old) ∙ ap (λ b. old ++ map give (cond b (p ∷ []) [])) (sym a)

-- the texts of an About object
abbrev pub Says : List Object → ℕ → List (Text × Text) → List (Text × Text) → Type 0
Says all i old new = new ++ texts_in (drop i all) ≡ old ++ texts_in all

cons_is : {A : Type 0} (o : Option A) (xs : List A) → cons_option o xs ≡ cons_option o [] ++ xs
cons_is None xs = refl
cons_is (Some x) xs = refl

pub says_more : (all : List Object) (i : ℕ) (x : Object) (old new last : List (Text × Text)) → i < length all → x ≡ get_or all i x → last ≡ new ++ texts_in (x ∷ []) → Says all i old new → Says all (i + 1) old last
says_more all i x old new last h is put p =
    let rest = texts_in (drop (i + 1) all) in
    ap (λ l. l ++ rest) put ∙ append_assoc new (texts_in (x ∷ [])) rest
    ∙ ap (λ l. new ++ l) (sym (ap texts_in (rest_more all i x h is) ∙ cons_is _ rest))
    ∙ p

pub says_all : (all : List Object) (i : ℕ) (old new : List (Text × Text)) → length all ≤ i → Says all i old new → new ≡ old ++ texts_in all
says_all all i old new h p = sym (append-nil new) ∙ ap (λ l. new ++ texts_in l) (sym (drop_all all i h)) ∙ p

-- logs that can be counted, and one more
pub counted_more : (ls : List (Path × Log)) (l : Path × Log) → events_ever l.1 < 2 ^ 63 → AreCounted ls → AreCounted (ls ++ l ∷ [])
counted_more [] l h c = (h, tt)
counted_more (k ∷ ls) l h c = (c.0, counted_more ls l h c.1)
