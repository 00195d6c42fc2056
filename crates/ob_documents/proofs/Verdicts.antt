-- What a decoder that was fed a whole text answers.
use Rattle.std.proofs.Common.{◌≡◌, ◌≢◌, ℕ, Bool, true, false, List, [], ◌++◌, Option, Result, Ok, Err, inl, inr, subst}
use Rattle.std.specs.Prelude.{IfOk, IfErr}
use Rattle.std.proofs.lemmas.List.{append-nil}
use Rattle.ob_object.specs.Object.{Object}
use Rattle.ob_documents.specs.Spelling.{Spells}
use Rattle.ob_xml.specs.declared.doc.Doc.{Doc}
use Rattle.ob_xml.specs.declared.refused.Refused.{Refused}
use Rattle.ob_xml.specs.declared.refused.Why.{Why}
use Rattle.ob_xml.specs.declared.refused.Why.TheVariants.{Memory}
use Rattle.ob_xml.specs.Judged.{Verdict, document, fault, Judged}
use Rattle.ob_xml.specs.Decoding.{IsCause, Finishes}

abbrev pub OneVerdict : Type 0
OneVerdict = (bytes : List ℕ) (ended : Bool) (v w : Verdict) → Judged bytes ended v → Judged bytes ended w → v ≡ w

abbrev pub FaultStays : Type 0
FaultStays = (bytes tail : List ℕ) (ended : Bool) (at : ℕ) (why : Why) → Judged bytes false (fault at why) → Judged (bytes ++ tail) ended (fault at why)

abbrev pub IsJudgedSo : Type 0
IsJudgedSo = (bytes : List ℕ) (ns : Option (List ℕ)) (o : Object) → Spells bytes ns o → Judged bytes true (document (record { ns = ns; root = o }))

-- what is refused before the end is refused at the end
pub cause_stays : (stays : FaultStays) (text : List ℕ) (r : Refused) → IsCause text false r → IsCause text true r
cause_stays stays text r (inl m) = inl m
cause_stays stays text r (inr j) = inr (subst (λ (xs : List ℕ). Judged xs true (fault r.at r.why)) (append-nil text) (stays text [] true r.at r.why j))

-- what is refused spells nothing
pub spells_nothing : (one : OneVerdict) (so : IsJudgedSo) (text : List ℕ) (r : Refused) → IsCause text true r → r.why ≢ Memory → (ns : Option (List ℕ)) (o : Object) → Spells text ns o → ⊥
spells_nothing one so text r (inl m) n ns o s = absurd (n m.0)
spells_nothing one so text r (inr j) n ns o s =
    let same : document (record { ns = ns; root = o }) ≡ fault r.at r.why = one text true (document (record { ns = ns; root = o })) (fault r.at r.why) (so text ns o s) j in
    absurd cc

abbrev pub IsSpelledSo : Type 0
IsSpelledSo = (bytes : List ℕ) (d : Doc) → Judged bytes true (document d) → Spells bytes d.ns d.root

pub finish_spells : (so : IsSpelledSo) (text : List ℕ) (answer : Result Doc Refused) → Finishes text answer → IfOk answer (λ doc. Spells text doc.ns doc.root)
finish_spells so text (Ok doc) j = so text doc j
finish_spells so text (Err r) j = tt

pub finish_refuses : (text : List ℕ) (answer : Result Doc Refused) → Finishes text answer → IfErr answer (λ r. IsCause text true r)
finish_refuses text (Ok doc) j = tt
finish_refuses text (Err r) j = j

pub finish_spells_nothing : (one : OneVerdict) (so : IsJudgedSo) (text : List ℕ) (answer : Result Doc Refused) → Finishes text answer → IfErr answer (λ r. r.why ≢ Memory → (ns : Option (List ℕ)) (o : Object) → Spells text ns o → ⊥)
finish_spells_nothing one so text (Ok doc) j = tt
finish_spells_nothing one so text (Err r) j = spells_nothing one so text r j
