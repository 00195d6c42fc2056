-- The document that a file of a form of its own spells.
use Rattle.std.proofs.Common.{◌≡◌, ℕ, true, List, Option, Result, Ok, Err, refl, ap}
use Rattle.std.specs.Prelude.{IfSome}
use Rattle.ob_documents.specs.Spelling.{Spells}
use Rattle.ob_object.specs.Object.{Object}
use Rattle.ob_xml.specs.Judged.{Judged, document}
use Rattle.ob_xml.specs.declared.doc.Doc.{Doc}
use Rattle.ob_program.specs.Form.{end_of_document}
use Rattle.ob_program.specs.Reading.{ReadsFile}
use Rattle.ob_program.specs.declared.document.DocumentFault.{DocumentFault}
use Rattle.ob_program.specs.declared.document.DocumentFault.TheVariants as documents
use Rattle.ob_program.specs.declared.form.FormEnd.TheVariants.{Stdio}
use Rattle.ob_program.specs.declared.stdio.StdioEnd.TheVariants.{ReadFault}
use Rattle.ob_program.proofs.FileLemmas.{IsOnce, if_told}

-- what bytes are judged to be, they spell
abbrev pub IsSpelled : Type 0
IsSpelled = (bytes : List ℕ) (d : Doc) → Judged bytes true (document d) → Spells bytes d.ns d.root

-- what bytes spell, they are judged to be
abbrev pub IsOnly : Type 0
IsOnly = (bytes : List ℕ) (ns : Option (List ℕ)) (o : Object) → Spells bytes ns o → Judged bytes true (document (record { ns = ns; root = o }))

pub spells_file : (spelled : IsSpelled) (file : Option (List ℕ)) (doc : Doc) → ReadsFile file (Ok doc) → IfSome file (λ whole. Spells whole doc.ns doc.root)
spells_file spelled file doc reads = if_told file _ _ (λ bytes judged. spelled bytes doc judged) reads.told

pub unread_rose : (why : DocumentFault) (A : Type 0) → (why ≡ documents.Failed → A) → end_of_document why ≡ Stdio ReadFault → A
unread_rose (documents.Refused refusal) A h is = absurd (cc is)
unread_rose documents.Failed A h is = h refl
unread_rose documents.Memory A h is = absurd (cc is)

-- bytes spell one object
pub one_root : (only : IsOnly) (once : IsOnce) (bytes : List ℕ) (ns ns' : Option (List ℕ)) (o o' : Object) → Spells bytes ns o → Spells bytes ns' o' → o ≡ o'
one_root only once bytes ns ns' o o' s s' =
    let d : Doc = record { ns = ns; root = o } in
    let d' : Doc = record { ns = ns'; root = o' } in
    let same : document d ≡ document d' = once bytes true (document d) (document d') (only bytes ns o s) (only bytes ns' o' s') in
    let docs : d ≡ d' = cc in
    ap (λ (x : Doc). x.root) docs
