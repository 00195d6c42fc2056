-- What checking a document's file comes to.
use Rattle.std.specs.Prelude.{◌≡◌, ◌⊎◌, ⊤, ℕ, true, List, [], ◌∷◌, ◌++◌, IfSome}
use Rattle.std.specs.declared.option.Option.{Option}
use Rattle.ob_encoding.specs.Canonical.{canonical_text}
use Rattle.ob_documents.specs.Spelling.{Spells}
use Rattle.ob_io.specs.Faults.{Rose}
use Rattle.ob_io.specs.Told.{Gains, IsFront}
use Rattle.ob_xml.specs.declared.doc.Doc.{Doc}
use Rattle.ob_xml.specs.Judged.{Judged, document, fault}
use Rattle.ob_io.specs.declared.cause.RefusedFile.{RefusedFile}
use Rattle.ob_program.specs.declared.check.CheckEnd.{CheckEnd}
use Rattle.ob_program.specs.declared.check.CheckEnd.TheVariants as ends
use Rattle.ob_program.specs.declared.exit.Exit.{Exit}
use Rattle.ob_program.specs.declared.exit.Exit.TheVariants as exits
use Rattle.ob_program.specs.Reading.{IsFaulty}
use Rattle.ob_program.specs.Telling.{ErrorsTold, Tells}
use Rattle.ob_program.specs.Words.{check_words}

-- the canonical document and a line feed
abbrev pub printed : Doc → List ℕ
printed doc = canonical_text doc.ns doc.root ++ 10 ∷ []

-- How the file's bytes and what was written go with the exit.
abbrev pub Checks : List ℕ → (before after : Option (List ℕ)) → Exit → Type 0
Checks bytes before after exits.Ok = (doc : Doc) × Judged bytes true (document doc) × Gains before (printed doc) after
Checks bytes before after exits.Refused = IsFaulty bytes × (after ≡ before)
Checks bytes before after exits.WriteFault =
    (doc : Doc) × Judged bytes true (document doc) × ((written : List ℕ) × IsFront written (printed doc) × Gains before written after)
Checks bytes before after exits.ReadFault = after ≡ before
Checks bytes before after exits.Memory = after ≡ before
Checks bytes before after _ = ⊥

abbrev pub exit_of_check : CheckEnd → Exit
exit_of_check ends.Printed = exits.Ok
exit_of_check (ends.Refused r) = exits.Refused
exit_of_check ends.ReadFault = exits.ReadFault
exit_of_check ends.WriteFault = exits.WriteFault
exit_of_check ends.Memory = exits.Memory

-- The same of a file, whose bytes are its content where that is told.
pub record ChecksFile (content before after : Option (List ℕ)) (end : CheckEnd) : Type 0 where
  pub bytes : List ℕ
  pub checks : Checks bytes before after (exit_of_check end)
  pub told : IfSome content (λ whole. Checks whole before after (exit_of_check end))

-- A construct that is refused is the first such one of the file's bytes, where they are told.
abbrev pub HasFault : (content : Option (List ℕ)) → CheckEnd → Type 0
HasFault content (ends.Refused r) = IfSome content (λ bytes. Judged bytes true (fault r.at r.why))
HasFault content _ = ⊤

-- The check came to some end, which is the exit, and it is told on `errors`.
pub record CheckSays (content : Option (List ℕ)) (refused : Option RefusedFile) (e e' : ErrorsTold) (exit : Exit) : Type 0 where
  pub end : CheckEnd
  pub exit_is : exit ≡ exit_of_check end
  pub judged : HasFault content end
  pub tells : Tells e e' exit (check_words refused end)

-- The check came to this exit. Where the file is told, its bytes were written in their canonical form or refused: with status
-- 0 it is the document that they spell by the grammar; bytes that are no document are refused, and one that they are is
-- written, where nothing fails. A fault has its cause in a count.
pub record CheckRan (content : Option (List ℕ)) (files files' : ℕ) (before after : Option (List ℕ)) (writes writes' : ℕ) (refused : Option RefusedFile) (e e' : ErrorsTold) (exit : Exit) : Type 0 where
  pub some_bytes : (bytes : List ℕ) × Checks bytes before after exit
  pub checks : IfSome content (λ bytes. Checks bytes before after exit)
  pub spells : IfSome content (λ bytes. exit ≡ exits.Ok → (doc : Doc) × Spells bytes doc.ns doc.root × Gains before (printed doc) after)
  pub refuses : IfSome content (λ bytes. IsFaulty bytes → (Rose files files' → ⊥) → (exit ≡ exits.Refused) ⊎ (exit ≡ exits.Memory))
  pub complete : IfSome content (λ bytes. (doc : Doc) → Judged bytes true (document doc) → (Rose files files' → ⊥) → (Rose writes writes' → ⊥)
      → (exit ≡ exits.Ok) ⊎ (exit ≡ exits.Memory))
  pub read : exit ≡ exits.ReadFault → Rose files files'
  pub write : exit ≡ exits.WriteFault → Rose writes writes'
  pub says : CheckSays content refused e e' exit
