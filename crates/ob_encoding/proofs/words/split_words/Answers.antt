use Rattle.std.proofs.Common.{◌≡◌, ℕ, ◌+◌, List, [], ◌∷◌, ◌++◌, length, drop, not, true, false, refl, sym, ap, subst, ◌∙◌}
use Rattle.std.specs.Prelude.{string_bytes, encode_utf8}
use Rattle.std.specs.Str.{chars}
use Rattle.std.specs.List.{list_all}
use Rattle.std.proofs.lemmas.List.{length_push}
use Rattle.std.proofs.lemmas.Result.{IfOk-weaker}
use Rattle.std.proofs.lemmas.Iterator.{YieldsList-from_chars}
use Rattle.std.proofs.lemmas.Iterator.Consumers.{YieldsList-turn, YieldsList-end}
use Rattle.ob_values.specs.XmlText.{IsXmlText}
use Rattle.ob_object.specs.Words.{is_white}
use Rattle.ob_encoding.specs.WordLists.{words_from, words_of, ended}
use Rattle.ob_encoding.proofs.WordRuns.{turn, xml_none, xml_more, clean_more, at_blank, at_letter, at_end, none_left}
use Rattle.ob_encoding.proofs.words.split_words.Goals as goal

pub loop-c-preserved : goal.loop-c-preserved
loop-c-preserved c =
    let t = YieldsList-turn (YieldsList-from_chars c.args.text.now c.utf8.text cc) c.loop-c.yielded _ c.loop-c.yielded_by _ _ c.in-Some.c c.in-Some.is c.next.ensures.steps in
    let u = turn c.args.text.now (length c.loop-c.yielded) c.in-Some.c c.requires t.0 t.1 in
    let letter = sym c.is_blank.ensures ∙ c.if-is_blank.false in
    let one = length_push c.loop-c.yielded c.in-Some.c in
    record {
      xml = subst IsXmlText (sym c.in_ok-push.ensures.bytes) (xml_more (string_bytes c.loop-c.word) c.in-Some.c c.loop-c.invariant.xml u.xml);
      clean = subst (λ (bs : List ℕ). list_all (λ b. not (is_white b)) bs ≡ true) (sym c.in_ok-push.ensures.bytes) (clean_more (string_bytes c.loop-c.word) c.in-Some.c c.loop-c.invariant.clean letter);
      rest = subst (λ (k : ℕ). c.loop-c.words ++ words_from (string_bytes c.push.new.self) (drop k (chars c.args.text.now)) ≡ words_of c.args.text.now) (sym one)
          (subst (λ (bs : List ℕ). c.loop-c.words ++ words_from bs (drop (length c.loop-c.yielded + 1) (chars c.args.text.now)) ≡ words_of c.args.text.now) (sym c.in_ok-push.ensures.bytes)
          (at_letter c.loop-c.words (string_bytes c.loop-c.word) c.in-Some.c (drop (length c.loop-c.yielded + 1) (chars c.args.text.now)) (drop (length c.loop-c.yielded) (chars c.args.text.now)) (words_of c.args.text.now) letter u.rest c.loop-c.invariant.rest));
    }

pub loop-c-preserved-then-is_blank : goal.loop-c-preserved-then-is_blank
loop-c-preserved-then-is_blank c =
    let t = YieldsList-turn (YieldsList-from_chars c.args.text.now c.utf8.text cc) c.loop-c.yielded _ c.loop-c.yielded_by _ _ c.in-Some.c c.in-Some.is c.next.ensures.steps in
    let u = turn c.args.text.now (length c.loop-c.yielded) c.in-Some.c c.requires t.0 t.1 in
    let blank = sym c.is_blank.ensures ∙ c.if-is_blank.true in
    let one = length_push c.loop-c.yielded c.in-Some.c in
    let empty : string_bytes c.new-word-then-is_blank.result ≡ [] = c.new-word-then-is_blank.ensures.bytes in
    record {
      xml = subst IsXmlText (sym empty) xml_none;
      clean = subst (λ (bs : List ℕ). list_all (λ b. not (is_white b)) bs ≡ true) (sym empty) refl;
      rest = subst (λ (k : ℕ). c.in_ok-words.words ++ words_from (string_bytes c.new-word-then-is_blank.result) (drop k (chars c.args.text.now)) ≡ words_of c.args.text.now) (sym one)
          (subst (λ (bs : List ℕ). c.in_ok-words.words ++ words_from bs (drop (length c.loop-c.yielded + 1) (chars c.args.text.now)) ≡ words_of c.args.text.now) (sym empty)
          (subst (λ (ws : List (List ℕ)). ws ++ words_from [] (drop (length c.loop-c.yielded + 1) (chars c.args.text.now)) ≡ words_of c.args.text.now) (sym c.in_ok-words.ensures)
          (at_blank c.loop-c.words (string_bytes c.loop-c.word) c.in-Some.c (drop (length c.loop-c.yielded + 1) (chars c.args.text.now)) (drop (length c.loop-c.yielded) (chars c.args.text.now)) (words_of c.args.text.now) blank u.rest c.loop-c.invariant.rest)));
    }

pub returns : goal.returns
returns c =
    let t = YieldsList-end (YieldsList-from_chars c.args.text.now c.utf8.text cc) c.loop-c.yielded _ c.loop-c.yielded_by _ _ c.in-None.is c.next.ensures.steps in
    IfOk-weaker c.with_word-2.result _ _
    (λ ws h. h ∙ at_end c.loop-c.words (string_bytes c.loop-c.word) (drop (length c.loop-c.yielded) (chars c.args.text.now)) (words_of c.args.text.now) (none_left (chars c.args.text.now) (length c.loop-c.yielded) t.1) c.loop-c.invariant.rest) c.with_word-2.ensures

pub with_word-requires-clause-text : goal.with_word-requires-clause-text
with_word-requires-clause-text c = c.loop-c.invariant.xml
