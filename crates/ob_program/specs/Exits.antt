-- The numbers that a program ends with.
use Rattle.std.specs.Prelude.{ℕ}
use Rattle.ob_program.specs.declared.exit.Exit.{Exit}
use Rattle.ob_program.specs.declared.exit.Exit.TheVariants as exits

abbrev pub status_of : Exit → ℕ
status_of exits.Ok = 0
status_of exits.Usage = 1
status_of exits.Refused = 2
status_of exits.ReadFault = 3
status_of exits.WriteFault = 4
status_of exits.Frame = 5
status_of exits.Truncated = 6
status_of exits.LinkFault = 7
status_of exits.Peer = 8
status_of exits.PortFault = 9
status_of exits.ClockFault = 10
status_of exits.Budget = 11
status_of exits.Memory = 12
status_of exits.Illegal = 13
status_of exits.IllegalRecord = 13
status_of exits.RecordFault = 14
