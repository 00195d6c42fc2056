-- A document fed piece by piece.
use Rattle.std.proofs.Common.{◌≡◌, ℕ, Bool, true, false, inl, inr, List, ◌++◌, sym, ap, subst, ◌∙◌, append_assoc}
use Rattle.ob_xml.specs.declared.refused.Refused.{Refused}
use Rattle.ob_xml.specs.declared.refused.Why.{Why}
use Rattle.ob_xml.specs.Judged.{fault, Judged}
use Rattle.ob_xml.specs.Decoding.{IsCause}
use Rattle.ob_program.specs.Reading.{IsCauseOf}

-- the bytes so far, and a piece more
pub one_more : (bytes front rest piece behind : List ℕ) → bytes ≡ front ++ rest → rest ≡ piece ++ behind → bytes ≡ (front ++ piece) ++ behind
one_more bytes front rest piece behind whole split = whole ∙ ap (λ (t : List ℕ). front ++ t) split ∙ sym (append_assoc front piece behind)

pub cause_stays : (stays : (bytes tail : List ℕ) (ended : Bool) (at : ℕ) (why : Why) → Judged bytes false (fault at why) → Judged (bytes ++ tail) ended (fault at why)) (bytes front behind : List ℕ) (r : Refused)
    → bytes ≡ front ++ behind → IsCause front false r → IsCauseOf bytes r
cause_stays stays bytes front behind r e (inl memory) = inl memory.0
cause_stays stays bytes front behind r e (inr judged) = inr (subst (λ (t : List ℕ). Judged t true (fault r.at r.why)) (sym e) (stays front behind true r.at r.why judged))

pub cause_at_end : (bytes : List ℕ) (r : Refused) → IsCause bytes true r → IsCauseOf bytes r
cause_at_end bytes r (inl memory) = inl memory.0
cause_at_end bytes r (inr judged) = inr judged
