-- Checking a file.
use Rattle.std.proofs.Common.{◌≡◌, ◌≢◌, ℕ, true, ◌⊎◌, inl, inr, refl, sym, subst, ◌∙◌, ap, List, Option, Some, None, Result, Ok, Err}
use Rattle.std.specs.Prelude.{IfSome}
use Rattle.ob_io.specs.Faults.{Rose}
use Rattle.ob_io.specs.Told.{Gains, IsFront}
use Rattle.ob_documents.specs.Spelling.{Spells}
use Rattle.ob_xml.specs.declared.doc.Doc.{Doc}
use Rattle.ob_xml.specs.declared.refused.Refused as refused
use Rattle.ob_xml.specs.Judged.{document, fault, Judged}
use Rattle.ob_io.specs.declared.cause.RefusedFile.{RefusedFile}
use Rattle.ob_program.specs.declared.document.DocumentFault.{DocumentFault}
use Rattle.ob_program.specs.declared.document.DocumentFault.TheVariants as faults
use Rattle.ob_program.specs.declared.check.CheckEnd.{CheckEnd}
use Rattle.ob_program.specs.declared.check.CheckEnd.TheVariants.{Printed, Refused, ReadFault, WriteFault, Memory}
use Rattle.ob_program.specs.declared.exit.Exit.{Exit}
use Rattle.ob_program.specs.declared.exit.Exit.TheVariants as exits
use Rattle.ob_program.specs.Reading.{IsFaulty, Reads, ReadsFile}
use Rattle.ob_program.specs.Check.{Checks, ChecksFile, HasFault, CheckRan, printed, exit_of_check}
use Rattle.ob_program.specs.Telling.{ErrorsTold, Tells}
use Rattle.ob_program.specs.Words.{check_words}
use Rattle.ob_program.proofs.FileLemmas.{IsOnce, if_told}

checked : (content before after : Option (List ℕ)) (result : Result Doc DocumentFault) (end : CheckEnd) → ReadsFile content result → ((bytes : List ℕ) → Reads bytes result → Checks bytes before after (exit_of_check end))
    → ChecksFile content before after end
checked content before after result end f h = record {
  bytes = f.bytes;
  checks = h f.bytes f.read;
  told = if_told content (λ bytes. Reads bytes result) (λ bytes. Checks bytes before after (exit_of_check end)) h f.told;
}

pub check_refused : (content before : Option (List ℕ)) (r : refused.Refused) → ReadsFile content (Err (faults.Refused r)) → ChecksFile content before before (Refused r)
check_refused content before r f = checked content before before (Err (faults.Refused r)) (Refused r) f (λ bytes j. ((r.at, r.why, j), refl))

pub check_failed : (content before : Option (List ℕ)) → ReadsFile content (Err faults.Failed) → ChecksFile content before before ReadFault
check_failed content before f = checked content before before (Err faults.Failed) ReadFault f (λ bytes j. refl)

pub check_memory : (content before : Option (List ℕ)) (result : Result Doc DocumentFault) → ReadsFile content result → ChecksFile content before before Memory
check_memory content before result f = checked content before before result Memory f (λ bytes j. refl)

pub check_printed : (content before after : Option (List ℕ)) (doc : Doc) → ReadsFile content (Ok doc) → Gains before (printed doc) after → ChecksFile content before after Printed
check_printed content before after doc f gained = checked content before after (Ok doc) Printed f (λ bytes j. (doc, j, gained))

pub check_broken : (content before after : Option (List ℕ)) (doc : Doc) (sent : List ℕ) → ReadsFile content (Ok doc) → IsFront sent (printed doc) → Gains before sent after → ChecksFile content before after WriteFault
check_broken content before after doc sent f front gained = checked content before after (Ok doc) WriteFault f (λ bytes j. (doc, j, (sent, front, gained)))

-- a text is a document or has a fault
one_or_other : (once : IsOnce) (bytes : List ℕ) (doc : Doc) → Judged bytes true (document doc) → IsFaulty bytes → ⊥
one_or_other once bytes doc j f = let e : document doc ≡ fault f.0 f.1 = once bytes true (document doc) (fault f.0 f.1) j f.2 in absurd cc

pub refuses_check : (once : IsOnce) (content before after : Option (List ℕ)) (end : CheckEnd) (exit : Exit) (Rises : Type 0) → exit ≡ exit_of_check end → (end ≡ ReadFault → Rises) → IfSome content (λ bytes. Checks bytes before after (exit_of_check end))
    → IfSome content (λ bytes. IsFaulty bytes → (Rises → ⊥) → (exit ≡ exits.Refused) ⊎ (exit ≡ exits.Memory))
refuses_check once None before after end exit Rises e rises c = tt
refuses_check once (Some bytes) before after Printed exit Rises e rises c = λ f no. absurd (one_or_other once bytes c.0 c.1 f)
refuses_check once (Some bytes) before after (Refused r) exit Rises e rises c = λ f no. inl e
refuses_check once (Some bytes) before after ReadFault exit Rises e rises c = λ f no. absurd (no (rises refl))
refuses_check once (Some bytes) before after WriteFault exit Rises e rises c = λ f no. absurd (one_or_other once bytes c.0 c.1 f)
refuses_check once (Some bytes) before after Memory exit Rises e rises c = λ f no. inr e

pub complete_check : (once : IsOnce) (content before after : Option (List ℕ)) (end : CheckEnd) (exit : Exit) (FileRises SinkRises : Type 0) → exit ≡ exit_of_check end → (end ≡ ReadFault → FileRises) → (end ≡ WriteFault → SinkRises)
    → IfSome content (λ bytes. Checks bytes before after (exit_of_check end))
    → IfSome content (λ bytes. (doc : Doc) → Judged bytes true (document doc) → (FileRises → ⊥) → (SinkRises → ⊥) → (exit ≡ exits.Ok) ⊎ (exit ≡ exits.Memory))
complete_check once None before after end exit F K e file sink c = tt
complete_check once (Some bytes) before after Printed exit F K e file sink c = λ doc j no_file no_sink. inl e
complete_check once (Some bytes) before after (Refused r) exit F K e file sink c = λ doc j no_file no_sink. absurd (one_or_other once bytes doc j c.0)
complete_check once (Some bytes) before after ReadFault exit F K e file sink c = λ doc j no_file no_sink. absurd (no_file (file refl))
complete_check once (Some bytes) before after WriteFault exit F K e file sink c = λ doc j no_file no_sink. absurd (no_sink (sink refl))
complete_check once (Some bytes) before after Memory exit F K e file sink c = λ doc j no_file no_sink. inr e

pub not_printed : (end : CheckEnd) → exit_of_check end ≡ exits.Refused → (end ≢ Printed) × (end ≢ WriteFault)
not_printed end e = (λ is. (let f = sym e ∙ ap exit_of_check is in cc), λ is. (let f = sym e ∙ ap exit_of_check is in cc))

pub read_failed : (end : CheckEnd) → exit_of_check end ≡ exits.ReadFault → end ≡ ReadFault
read_failed Printed e = cc
read_failed (Refused r) e = cc
read_failed ReadFault e = refl
read_failed WriteFault e = cc
read_failed Memory e = cc

pub write_failed : (end : CheckEnd) → exit_of_check end ≡ exits.WriteFault → end ≡ WriteFault
write_failed Printed e = cc
write_failed (Refused r) e = cc
write_failed ReadFault e = cc
write_failed WriteFault e = refl
write_failed Memory e = cc

-- what the bytes are judged to be, they spell
pub spells_check : (spelled : (bytes : List ℕ) (d : Doc) → Judged bytes true (document d) → Spells bytes d.ns d.root) (content before after : Option (List ℕ)) (end : CheckEnd) (exit : Exit) → exit ≡ exit_of_check end
    → IfSome content (λ bytes. Checks bytes before after (exit_of_check end)) → IfSome content (λ bytes. exit ≡ exits.Ok → (doc : Doc) × Spells bytes doc.ns doc.root × Gains before (printed doc) after)
spells_check spelled None before after end exit e c = tt
spells_check spelled (Some bytes) before after Printed exit e c = λ ok. (c.0, spelled bytes c.0 c.1, c.2)
spells_check spelled (Some bytes) before after (Refused r) exit e c = λ ok. (let f = sym ok ∙ e in cc)
spells_check spelled (Some bytes) before after ReadFault exit e c = λ ok. (let f = sym ok ∙ e in cc)
spells_check spelled (Some bytes) before after WriteFault exit e c = λ ok. (let f = sym ok ∙ e in cc)
spells_check spelled (Some bytes) before after Memory exit e c = λ ok. (let f = sym ok ∙ e in cc)

-- the check came to this end, which is the exit
pub check_ran : (once : IsOnce) (spelled : (bytes : List ℕ) (d : Doc) → Judged bytes true (document d) → Spells bytes d.ns d.root)
    (content : Option (List ℕ)) (files files' : ℕ) (before after : Option (List ℕ)) (writes writes' : ℕ) (refused : Option RefusedFile) (e e' : ErrorsTold) (end : CheckEnd) (exit : Exit) → exit ≡ exit_of_check end
    → ChecksFile content before after end → (end ≡ ReadFault → Rose files files') → (end ≡ WriteFault → Rose writes writes')
    → HasFault content end → Tells e e' exit (check_words refused end)
    → CheckRan content files files' before after writes writes' refused e e' exit
check_ran once spelled content files files' before after writes writes' refused e e' end exit is c file sink has says = record {
  some_bytes = (c.bytes, subst (λ (x : Exit). Checks c.bytes before after x) (sym is) c.checks);
  checks = if_told content (λ bytes. Checks bytes before after (exit_of_check end)) (λ bytes. Checks bytes before after exit) (λ bytes k. subst (λ (x : Exit). Checks bytes before after x) (sym is) k) c.told;
  spells = spells_check spelled content before after end exit is c.told;
  refuses = refuses_check once content before after end exit (Rose files files') is file c.told;
  complete = complete_check once content before after end exit (Rose files files') (Rose writes writes') is file sink c.told;
  read = λ ended. file (read_failed end (sym is ∙ ended));
  write = λ ended. sink (write_failed end (sym is ∙ ended));
  says = record { end = end; exit_is = is; judged = has; tells = says };
}
