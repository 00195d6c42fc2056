-- Blocks: what stands in a record between two line feeds at which it may be cut. A block is an entry without its last line
-- feed; the first of a record has the second line in front. So a record is its first line and, behind a line feed each, its
-- blocks, and a last line feed.
use Rattle.std.specs.Prelude.{◌≡◌, ℕ, ◌<◌, ◌^◌, List, ◌++◌, Option, Some, None, IfSome}
use Rattle.ob_record.specs.Parts.{Parts, open_text, AreSmall}
use Rattle.ob_record.specs.Runs.{boot_line}

-- the text of an entry's parts without the last line feed, behind the line of an opening where there is one
abbrev pub block_text : Option ℕ → Parts → List ℕ
block_text None p = open_text p
block_text (Some boot) p = boot_line boot ++ open_text p

-- the bytes are a block
pub record IsBlock (block : List ℕ) : Type 0 where
  pub boot : Option ℕ
  pub parts : Parts
  pub boot_small : IfSome boot (λ ms. ms < 2 ^ 63)
  pub small : AreSmall parts
  pub text : block ≡ block_text boot parts
