use Rattle.std.proofs.Common.{◌≡◌, ℕ, ◌+◌, ◌≤◌, length, take, ap, sym, ◌∙◌, subst, arith, rules}
use Rattle.std.specs.Prelude.{encode_utf8}
use Rattle.std.specs.Str.{chars, encode_utf8_all}
use Rattle.std.specs.List.{AllByRecursion}
use Rattle.std.proofs.lemmas.Bool.{both_ways}
use Rattle.std.proofs.lemmas.List.{length_push, length-append}
use Rattle.std.proofs.lemmas.Iterator.{YieldsList-from_chars}
use Rattle.std.proofs.lemmas.Iterator.Consumers.{YieldsList-turn, YieldsList-end}
use Rattle.ob_values.specs.XmlText.{IsXmlChar}
use Rattle.ob_values.proofs.XmlTextLemmas.{NextChar, next_char, first_bad, place_within, all_more, all_good}
use Rattle.ob_values.proofs.text.first_not_xml.Goals as goal

next : (c : goal.After-len_utf8-at) → NextChar (chars c.args.text.now) (length c.loop-character.yielded) c.in-Some.character
next c =
    let t = YieldsList-turn (YieldsList-from_chars c.args.text.now c.utf8.text cc) c.loop-character.yielded _ c.loop-character.yielded_by _ _ c.in-Some.character c.in-Some.is c.next.ensures.steps in
    next_char (chars c.args.text.now) (length c.loop-character.yielded) c.in-Some.character t.0 t.1

place : (c : goal.After-len_utf8-at) → c.loop-character.at + c.len_utf8-at.result ≡ length (encode_utf8_all (take (length c.loop-character.yielded + 1) (chars c.args.text.now)))
place c =
    omega (arith, c.loop-character.invariant.place, c.len_utf8-at.ensures.len, ap length (next c).front, length-append (encode_utf8_all (take (length c.loop-character.yielded) (chars c.args.text.now))) (encode_utf8 c.in-Some.character))

pub overflow_add-at : goal.overflow_add-at
overflow_add-at c =
    let at = place c in
    let within = place_within c.args.text.now (length c.loop-character.yielded + 1) c.utf8.text in
    let total : c.loop-character.at + c.len_utf8-at.result ≤ length c.args.text.now = omega arith in
    search rules

pub returns-then-not-is_xml_char : goal.returns-then-not-is_xml_char
returns-then-not-is_xml_char c =
    let t = YieldsList-turn (YieldsList-from_chars c.args.text.now c.utf8.text cc) c.loop-character.yielded _ c.loop-character.yielded_by _ _ c.in-Some.character c.in-Some.is c.next.ensures.steps in
    let here = next_char (chars c.args.text.now) (length c.loop-character.yielded) c.in-Some.character t.0 t.1 in
    record {
      some = first_bad c.args.text.now (length c.loop-character.yielded) c.in-Some.character c.loop-character.at c.utf8.text here c.loop-character.invariant.place c.loop-character.invariant.good
          (λ is. both_ways c.is_xml_char.result c.if-not-is_xml_char.true (c.is_xml_char.ensures.1 is))
          (search rules);
      none = tt;
    }

pub loop-character-preserved : goal.loop-character-preserved
loop-character-preserved c =
    let one = length_push c.loop-character.yielded c.in-Some.character in
    let n = length c.loop-character.yielded in
    let text = chars c.args.text.now in
    let good : AllByRecursion IsXmlChar (take (n + 1) text) =
    subst (AllByRecursion IsXmlChar) (sym (next c).cut) (all_more IsXmlChar (take n text) c.in-Some.character c.loop-character.invariant.good (c.is_xml_char.ensures.0 c.if-not-is_xml_char.false)) in
    record {
      place = place c ∙ ap (λ (k : ℕ). length (encode_utf8_all (take k (chars c.args.text.now)))) (sym one);
      good = subst (λ (k : ℕ). AllByRecursion IsXmlChar (take k (chars c.args.text.now))) (sym one) good;
    }

pub returns-clause-none : goal.returns-clause-none
returns-clause-none c =
    let t = YieldsList-end (YieldsList-from_chars c.args.text.now c.utf8.text cc) c.loop-character.yielded _ c.loop-character.yielded_by _ _ c.in-None.is c.next.ensures.steps in
    all_good c.args.text.now (length c.loop-character.yielded) c.utf8.text t.1 c.loop-character.invariant.good
