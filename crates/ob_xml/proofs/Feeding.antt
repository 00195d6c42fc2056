-- What a decoder answers of all the bytes that it was fed.
use Rattle.std.proofs.Common.{◌≡◌, ℕ, ◌+◌, ◌<◌, ◌≤◌, Bool, true, false, List, ◌++◌, length, take, Result, Ok, Err, ◌⊎◌, inl, inr, refl, subst, ◌∙◌, arith, length-append}
use Rattle.std.specs.Prelude.{nat_le}
use Rattle.std.proofs.lemmas.Bool.Decides.{nat_tests}
use Rattle.std.proofs.lemmas.Grind.{common_steps}
use Rattle.ob_xml.specs.declared.doc.Doc.{Doc}
use Rattle.ob_xml.specs.declared.reading.Reading.{Reading}
use Rattle.ob_xml.specs.declared.refused.Refused.{Refused}
use Rattle.ob_xml.specs.declared.refused.Why.{Why}
use Rattle.ob_xml.specs.declared.refused.Why.TheVariants.{Markup, Element, Mismatch, Twice, SameName, Value, Text, Deep, Big, Ended, Memory}
use Rattle.ob_xml.specs.Structure.{beginning}
use Rattle.ob_xml.specs.Judged.{pending, document, fault, is_open, Judges, max_len, Judged}
use Rattle.ob_xml.specs.Views.{state_of}
use Rattle.ob_xml.specs.Decoding.{HasTaken, Takes, Ends, Finishes, IsCause}
use Rattle.ob_xml.specs.Refusals.{of_why, told_at}
use Rattle.ob_xml.proofs.Takings.{length_is, pending_so_far, judged_short, judged_long, front_is}

pub take_lost : (r : Reading) (bytes piece : List ℕ) (whole : ℕ) → HasTaken r bytes → whole ≡ r.base + length r.kept.items + length piece → Takes (bytes ++ piece) (Err (record { at = whole; why = Memory }))
take_lost r bytes piece whole h e = inl (refl, e ∙ length_is r bytes piece h)

pub read_on : (r : Reading) (bytes : List ℕ) → HasTaken r bytes → is_open (state_of r.state) ≡ true → Judged bytes false pending
read_on r bytes h still = judged_short bytes false pending h.short (pending_so_far r bytes h still)

pub too_long : (r : Reading) (bytes piece : List ℕ) (room : ℕ) → HasTaken r (bytes ++ take room piece) → is_open (state_of r.state) ≡ true → length bytes + room ≡ max_len → room < length piece
    → Judged (bytes ++ piece) false (fault max_len Big)
too_long r bytes piece room h still e lt =
    judged_long (bytes ++ piece) (bytes ++ take room piece) false pending (omega (arith, length-append bytes piece)) (front_is bytes piece room e) (pending_so_far r (bytes ++ take room piece) h still)

pub refused_whole : (bytes piece : List ℕ) (at : ℕ) (why : Why) → length (bytes ++ piece) ≤ max_len → Judges false beginning 0 (bytes ++ piece) (fault at why) → Judged (bytes ++ piece) false (fault at why)
refused_whole bytes piece at why le j = judged_short (bytes ++ piece) false (fault at why) le j

pub refused_front : (bytes piece : List ℕ) (room at : ℕ) (why : Why) → length bytes + room ≡ max_len → room < length piece → Judges false beginning 0 (bytes ++ take room piece) (fault at why) → Judged (bytes ++ piece) false (fault at why)
refused_front bytes piece room at why e lt j = judged_long (bytes ++ piece) (bytes ++ take room piece) false (fault at why) (omega (arith, length-append bytes piece)) (front_is bytes piece room e) j

-- want of memory, or the refusal of the bytes
abbrev pub Cause : List ℕ → List ℕ → Refused → Type 0
Cause front bytes r = ((r.why ≡ Memory) × (r.at ≡ length front)) ⊎ Judges false beginning 0 front (fault r.at r.why)

cause_by : (why : Why) (r : Refused) (front bytes : List ℕ) (all : ℕ) → r.why ≡ why → all ≡ length bytes → (Judges false beginning 0 front (fault r.at r.why) → Judged bytes false (fault r.at r.why)) → Cause front bytes r → IsCause bytes false (of_why why r all)
cause_by Memory r front bytes all e a j s = inl (refl, a)
cause_by Markup r front bytes all e a j (inl m) = absurd cc
cause_by Markup r front bytes all e a j (inr x) = inr (j x)
cause_by Element r front bytes all e a j (inl m) = absurd cc
cause_by Element r front bytes all e a j (inr x) = inr (j x)
cause_by Mismatch r front bytes all e a j (inl m) = absurd cc
cause_by Mismatch r front bytes all e a j (inr x) = inr (j x)
cause_by Twice r front bytes all e a j (inl m) = absurd cc
cause_by Twice r front bytes all e a j (inr x) = inr (j x)
cause_by SameName r front bytes all e a j (inl m) = absurd cc
cause_by SameName r front bytes all e a j (inr x) = inr (j x)
cause_by (Value f) r front bytes all e a j (inl m) = absurd cc
cause_by (Value f) r front bytes all e a j (inr x) = inr (j x)
cause_by Text r front bytes all e a j (inl m) = absurd cc
cause_by Text r front bytes all e a j (inr x) = inr (j x)
cause_by Deep r front bytes all e a j (inl m) = absurd cc
cause_by Deep r front bytes all e a j (inr x) = inr (j x)
cause_by Big r front bytes all e a j (inl m) = absurd cc
cause_by Big r front bytes all e a j (inr x) = inr (j x)
cause_by Ended r front bytes all e a j (inl m) = absurd cc
cause_by Ended r front bytes all e a j (inr x) = inr (j x)

pub cause_told : (r : Refused) (front bytes : List ℕ) (all : ℕ) → all ≡ length bytes → (Judges false beginning 0 front (fault r.at r.why) → Judged bytes false (fault r.at r.why)) → Cause front bytes r → IsCause bytes false (told_at r all)
cause_told r front bytes all a j s = cause_by r.why r front bytes all refl a j s

-- ---- a piece of which there is room for the front

whole_front : (piece : List ℕ) (room : ℕ) → length piece ≤ room → take room piece ≡ piece
whole_front piece room le = grind (arith, common_steps)

pub feeds_whole : (r : Reading) (bytes piece front : List ℕ) (room : ℕ) → HasTaken r (bytes ++ front) → front ≡ take room piece → length piece ≤ room → HasTaken r (bytes ++ piece)
feeds_whole r bytes piece front room h f le = subst (λ (xs : List ℕ). HasTaken r (bytes ++ xs)) (f ∙ whole_front piece room le) h

pub feeds_front : (r : Reading) (bytes piece front : List ℕ) (room : ℕ) → HasTaken r (bytes ++ front) → front ≡ take room piece → HasTaken r (bytes ++ take room piece)
feeds_front r bytes piece front room h f = subst (λ (xs : List ℕ). HasTaken r (bytes ++ xs)) f h

fault_of_front : (bytes piece : List ℕ) (room at : ℕ) (why : Why) → length bytes + room ≡ max_len → Judges false beginning 0 (bytes ++ take room piece) (fault at why) → Judged (bytes ++ piece) false (fault at why)
fault_of_front bytes piece room at why e j = by (nat_le (length piece) room) refl
  where
    by : (b : Bool) → nat_le (length piece) room ≡ b → Judged (bytes ++ piece) false (fault at why)
    by true i =
        let le : length piece ≤ room = grind (arith, nat_tests) in
        refused_whole bytes piece at why (omega (arith, e, le, length-append bytes piece)) (subst (λ (xs : List ℕ). Judges false beginning 0 (bytes ++ xs) (fault at why)) (whole_front piece room le) j)
    by false i =
        let lt : room < length piece = grind (arith, nat_tests) in
        refused_front bytes piece room at why e lt j

pub feeds_refused : (bytes piece front : List ℕ) (room all : ℕ) (r : Refused) → front ≡ take room piece → length bytes + room ≡ max_len → all ≡ length (bytes ++ piece) → Takes (bytes ++ front) (Err r) → IsCause (bytes ++ piece) false (told_at r all)
feeds_refused bytes piece front room all r f e a t =
    cause_told r (bytes ++ front) (bytes ++ piece) all a
    (λ j. fault_of_front bytes piece room r.at r.why e (subst (λ (xs : List ℕ). Judges false beginning 0 (bytes ++ xs) (fault r.at r.why)) f j)) t

pub ends_finishes : (bytes : List ℕ) (answer : Result Doc Refused) → length bytes ≤ max_len → Ends bytes answer → Finishes bytes answer
ends_finishes bytes (Ok doc) le j = judged_short bytes true (document doc) le j
ends_finishes bytes (Err r) le (inl m) = inl m
ends_finishes bytes (Err r) le (inr j) = inr (judged_short bytes true (fault r.at r.why) le j)
