-- The cause of an exit in the counts of faults.
use Rattle.std.specs.Prelude.{◌≡◌, ◌⊎◌, ⊤, ℕ, true}
use Rattle.ob_io.specs.Faults.{Rose}
use Rattle.ob_program.specs.declared.exit.Exit.{Exit}
use Rattle.ob_program.specs.declared.exit.Exit.TheVariants as exits
use Rattle.ob_program.specs.Outside.{Streams, ClockTold, PortTold, Dialled}

-- A fault comes only where the count of that part of the outside rose; a link's fault, besides, where the last call of the
-- dialer failed.
abbrev pub CauseOf : Exit → (files files' : ℕ) → (s s' : Streams) → (p p' : PortTold) → (d d' : Dialled) → (t t' : ClockTold) → (records records' : ℕ) → Type 0
CauseOf exits.ReadFault files files' s s' p p' d d' t t' records records' = Rose files files' ⊎ Rose s.reads s'.reads
CauseOf exits.WriteFault files files' s s' p p' d d' t t' records records' = Rose s.writes s'.writes
CauseOf exits.LinkFault files files' s s' p p' d d' t t' records records' = Rose d.faults d'.faults × (d'.rose ≡ true)
CauseOf exits.PortFault files files' s s' p p' d d' t t' records records' = Rose p.faults p'.faults
CauseOf exits.ClockFault files files' s s' p p' d d' t t' records records' = Rose t.faults t'.faults
CauseOf exits.RecordFault files files' s s' p p' d d' t t' records records' = Rose records records'
CauseOf _ files files' s s' p p' d d' t t' records records' = ⊤
