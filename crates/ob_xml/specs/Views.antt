-- What the code holds, as contracts see it.
use Rattle.std.specs.Prelude.{ℕ, List, reverse}
use Rattle.ob_scan.specs.declared.piece.Piece.{Piece}
use Rattle.ob_scan.specs.declared.piece.Piece.TheVariants as pieces
use Rattle.ob_scan.specs.Expansion.{Expands}
use Rattle.ob_xml.specs.declared.meaning.Meaning.{Meaning}
use Rattle.ob_xml.specs.declared.meaning.Meaning.TheVariants as meant
use Rattle.ob_xml.specs.declared.state.State.{State}
use Rattle.ob_xml.specs.declared.state.State.TheVariants as code
use Rattle.ob_xml.specs.Meanings as meanings
use Rattle.ob_xml.specs.Structure as structure

abbrev pub meaning_of : Meaning → meanings.Meaning
meaning_of (meant.Open name) = meanings.opening name.now
meaning_of (meant.Attr name said) = meanings.attribute name.now said
meaning_of meant.TagEnd = meanings.tag_end
meaning_of meant.EmptyEnd = meanings.empty_end
meaning_of (meant.Close name) = meanings.closing name.now
meaning_of meant.Skipped = meanings.skipped
meaning_of meant.End = meanings.ending
meaning_of meant.Mark = meanings.mark

-- the code keeps the open elements with the innermost last
abbrev pub state_of : State → structure.State
state_of code.Start = structure.start
state_of code.Marked = structure.marked
state_of (code.Between outer) = structure.between outer.value.ns (reverse outer.value.elements.items)
state_of (code.InTag tag outer) = structure.in_tag outer.value.ns tag.value.names tag.value.head (reverse outer.value.elements.items)
state_of (code.Behind doc) = structure.behind doc.value
state_of (code.Whole doc) = structure.whole doc.value

-- the value of an attribute stands for a text
abbrev pub HasMeaning : Piece → Type 0
HasMeaning (pieces.Open name) = Unit {0}
HasMeaning (pieces.Attr name raw) = (text : List ℕ) × Expands raw.now text
HasMeaning pieces.TagEnd = Unit {0}
HasMeaning pieces.EmptyEnd = Unit {0}
HasMeaning (pieces.Close name) = Unit {0}
HasMeaning pieces.Skipped = Unit {0}
HasMeaning pieces.End = Unit {0}
HasMeaning pieces.Mark = Unit {0}
