-- The words of a list that is shared by copies or not.
use Rattle.std.specs.Prelude.{ℕ, List}
use Rattle.std.specs.Arc.{arc_slice_items}
use Rattle.ob_object.specs.declared.words.Kept.{Kept}
use Rattle.ob_object.specs.declared.words.Kept.TheVariants.{Own, Shared}

-- the words, in order
abbrev pub kept_words : Kept → List (List ℕ)
kept_words (Own words) = words.items
kept_words (Shared words) = arc_slice_items words
