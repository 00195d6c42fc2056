use Rattle.std.proofs.Common.{drop}
use Rattle.std.specs.List.{AllByRecursion}
use Rattle.ob_values.specs.XmlText.{IsXmlText}
use Rattle.ob_documents.proofs.held.words_held.Given as goal

abbrev pub invariant-loop-word : goal.invariant-loop-word
invariant-loop-word l = AllByRecursion IsXmlText (drop l.word-index l.word-items) → AllByRecursion IsXmlText l.word-items
