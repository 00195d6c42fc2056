-- What a file in memory holds.
use Rattle.std.specs.Prelude.{ℕ, List}
use Rattle.ob_journal.specs.declared.memory.MemDevice.{MemDevice}

-- its bytes
abbrev pub device_bytes : MemDevice → List ℕ
device_bytes m = m.bytes.items
