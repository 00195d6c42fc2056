-- The blocks of a run, and the file at rest that says them.
use Rattle.std.specs.Prelude.{◌≡◌, ℕ, List, [], ◌∷◌, ◌++◌, map, Option, Some, None}
use Rattle.std.specs.List.{AllByRecursion}
use Rattle.ob_journal.specs.Journal.{front}
use Rattle.ob_record.specs.declared.run.Entry.{Entry}
use Rattle.ob_record.specs.Blocks.{IsBlock, block_text}
use Rattle.ob_record.specs.Runs.{IsRun, boot_line, parts_of, run_text}

-- the line of an opening at a moment; nothing where there is none
abbrev pub opening_line : Option ℕ → List ℕ
opening_line None = []
opening_line (Some boot) = boot_line boot

-- the block of an entry behind the first
abbrev pub later_block : Entry → List ℕ
later_block e = block_text None (parts_of e)

-- the blocks of a run: that of its first entry has the moment of its opening
abbrev pub run_blocks : ℕ → List Entry → List (List ℕ)
run_blocks boot [] = []
run_blocks boot (e ∷ es) = block_text (Some boot) (parts_of e) ∷ map later_block es

-- A run that has an entry is blocks, and its record is the front of a file that says them and a line feed: that file at rest
-- has the byte 0 in the place of this line feed.
pub record IsRecordAtRest (boot : ℕ) (e : Entry) (es : List Entry) : Type 0 where
  pub blocks : AllByRecursion IsBlock (run_blocks boot (e ∷ es))
  pub text : run_text (record { boot = boot; entries = e ∷ es }) ≡ front (run_blocks boot (e ∷ es)) ++ 10 ∷ []

abbrev pub RecordAtRest : Type 0
RecordAtRest = (boot : ℕ) (e : Entry) (es : List Entry) → IsRun (record { boot = boot; entries = e ∷ es }) → IsRecordAtRest boot e es
