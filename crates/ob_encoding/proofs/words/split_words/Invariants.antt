use Rattle.std.proofs.Common.{◌≡◌, ◌++◌, length, drop, not, true}
use Rattle.std.specs.Prelude.{string_bytes}
use Rattle.std.specs.Str.{chars}
use Rattle.std.specs.List.{list_all}
use Rattle.ob_values.specs.XmlText.{IsXmlText}
use Rattle.ob_object.specs.Words.{is_white}
use Rattle.ob_encoding.specs.WordLists.{words_from, words_of}
use Rattle.ob_encoding.proofs.words.split_words.Given as goal

abbrev pub invariant-loop-c : goal.invariant-loop-c
invariant-loop-c l = record {
  xml : IsXmlText (string_bytes l.word);
  clean : list_all (λ c. not (is_white c)) (string_bytes l.word) ≡ true;
  rest : l.words ++ words_from (string_bytes l.word) (drop (length l.yielded) (chars l.text)) ≡ words_of l.text;
}
