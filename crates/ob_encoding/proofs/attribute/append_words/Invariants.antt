use Rattle.std.proofs.Common.{◌≡◌, ◌++◌, drop}
use Rattle.ob_encoding.specs.Escaped.{escaped}
use Rattle.ob_encoding.specs.Canonical.{joined}
use Rattle.ob_encoding.specs.Written.{IsFront}
use Rattle.ob_encoding.proofs.Joining.{behind}
use Rattle.ob_encoding.proofs.attribute.append_words.Given as goal

abbrev pub invariant-loop-word : goal.invariant-loop-word
invariant-loop-word l = record {
  front : IsFront l.fn.out.items l.out.items;
  whole : l.out.items ++ behind (drop l.word-index l.others) ≡ l.fn.out.items ++ escaped (joined l.fn.words);
}
