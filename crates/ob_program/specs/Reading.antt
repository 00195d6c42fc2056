-- What is read of a file that is to hold a document.
use Rattle.std.specs.Prelude.{◌≡◌, ◌⊎◌, ℕ, true, List, Result, Ok, Err, IfSome}
use Rattle.std.specs.declared.option.Option.{Option}
use Rattle.ob_xml.specs.declared.doc.Doc.{Doc}
use Rattle.ob_xml.specs.declared.refused.Refused as refused
use Rattle.ob_xml.specs.declared.refused.Why.{Why}
use Rattle.ob_xml.specs.declared.refused.Why.TheVariants as whys
use Rattle.ob_xml.specs.Judged.{Judged, document, fault}
use Rattle.ob_program.specs.declared.document.DocumentFault.{DocumentFault}
use Rattle.ob_program.specs.declared.document.DocumentFault.TheVariants.{Refused, Failed, Memory}

-- The bytes are no document, for the first of their constructs that is refused.
abbrev pub IsFaulty : List ℕ → Type 0
IsFaulty bytes = (at : ℕ) × (why : Why) × Judged bytes true (fault at why)

-- memory was wanting, or that construct is the first refused one
abbrev pub IsCauseOf : List ℕ → refused.Refused → Type 0
IsCauseOf bytes r = (r.why ≡ whys.Memory) ⊎ Judged bytes true (fault r.at r.why)

-- the document that the bytes spell, or the first refused construct
abbrev pub Reads : List ℕ → Result Doc DocumentFault → Type 0
Reads bytes (Ok doc) = Judged bytes true (document doc)
Reads bytes (Err (Refused r)) = Judged bytes true (fault r.at r.why)
Reads bytes (Err Failed) = Unit {0}
Reads bytes (Err Memory) = Unit {0}

-- of the bytes of a file, which are its content where that is told
pub record ReadsFile (content : Option (List ℕ)) (result : Result Doc DocumentFault) : Type 0 where
  pub bytes : List ℕ
  pub read : Reads bytes result
  pub told : IfSome content (λ whole. Reads whole result)
