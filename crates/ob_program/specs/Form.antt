-- The ends of a command that reads a file of a form of its own.
use Rattle.std.specs.Prelude.{ℕ, true, List, Option, IfSome}
use Rattle.ob_site_file.specs.declared.fault.LoadFault.TheVariants as faults
use Rattle.ob_xml.specs.Judged.{Judged, fault}
use Rattle.ob_xml.specs.declared.refused.Refused as refused
use Rattle.ob_program.specs.declared.document.DocumentFault.{DocumentFault}
use Rattle.ob_program.specs.declared.document.DocumentFault.TheVariants as documents
use Rattle.ob_program.specs.declared.form.FormEnd.{FormEnd}
use Rattle.ob_program.specs.declared.form.FormEnd.TheVariants.{Stdio, NoDocument, Config, Schedule}
use Rattle.ob_program.specs.declared.stdio.StdioEnd.{StdioEnd}
use Rattle.ob_program.specs.declared.stdio.StdioEnd.TheVariants.{Refused, ReadFault, Memory}

-- The end of `stdio` that has its exit and its cause: a file of another form is refused as a site file is of which the root is none.
abbrev pub plain : FormEnd → StdioEnd
plain (Stdio end) = end
plain (NoDocument refusal) = Refused (faults.Document refusal)
plain (Config offence) = Refused faults.RootHref
plain (Schedule offence) = Refused faults.RootHref

-- where the file gives no document
abbrev pub end_of_document : DocumentFault → FormEnd
end_of_document (documents.Refused refusal) = NoDocument refusal
end_of_document documents.Failed = Stdio ReadFault
end_of_document documents.Memory = Stdio Memory

-- The file, where it is told, is no document, and this is its first construct that is refused.
abbrev pub IsUnspelled : Option (List ℕ) → refused.Refused → Type 0
IsUnspelled file refusal = IfSome file (λ whole. Judged whole true (fault refusal.at refusal.why))
