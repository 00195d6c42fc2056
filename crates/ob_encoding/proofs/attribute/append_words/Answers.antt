use Rattle.std.proofs.Common.{◌++◌, ℕ, List, ap, ◌∙◌}
use Rattle.ob_encoding.specs.Escaped.{escaped}
use Rattle.ob_encoding.proofs.Joining.{first_word, next_word, words_done}
use Rattle.ob_encoding.proofs.Fronts.{front_then}
use Rattle.ob_encoding.proofs.attribute.append_words.Goals as goal

pub loop-word-init : goal.loop-word-init
loop-word-init c =
    let text = c.as_bytes.ensures.value ∙ c.as_str.ensures.value in
    record {
      front = c.append_escaped.ensures.front;
      whole = first_word c.args.out.now.items c.append_escaped.new.out.items c.args.words.now c.in-Some.first.now c.in-Some.others.now c.in-Some.ensures.cases.0 (c.in_ok-append_escaped.ensures.written ∙ ap (λ (t : List ℕ). c.args.out.now.items ++ escaped t) text);
    }

pub returns-in_err-append-clause-front : goal.returns-in_err-append-clause-front
returns-in_err-append-clause-front c = front_then c.args.out.now.items c.loop-word.out.items c.append.new.out.items c.loop-word.invariant.front c.append.ensures.front

pub loop-word-preserved : goal.loop-word-preserved
loop-word-preserved c =
    let old = c.loop-word.out.items in
    let one = c.append.new.out.items in
    let two = c.append_escaped-in-loop-word.new.out.items in
    record {
      front = front_then c.args.out.now.items old two c.loop-word.invariant.front (front_then old one two c.append.ensures.front c.append_escaped-in-loop-word.ensures.front);
      whole = next_word old one two _ c.in-Some.others.now c.loop-word.word-index c.word-item.result _ c.loop-word-test.true c.word-item.is (c.as_bytes-in-loop-word.ensures.value ∙ c.as_str-in-loop-word.ensures.value) c.in_ok-append.ensures.written c.in_ok-append_escaped-2.ensures.written c.loop-word.invariant.whole;
    }

pub returns-in_err-append_escaped-clause-front : goal.returns-in_err-append_escaped-clause-front
returns-in_err-append_escaped-clause-front c = c.append_escaped.ensures.front

pub returns-in_err-append_escaped-2-clause-front : goal.returns-in_err-append_escaped-2-clause-front
returns-in_err-append_escaped-2-clause-front c =
    let old = c.loop-word.out.items in
    let one = c.append.new.out.items in
    let two = c.append_escaped-in-loop-word.new.out.items in
    front_then c.args.out.now.items old two c.loop-word.invariant.front (front_then old one two c.append.ensures.front c.append_escaped-in-loop-word.ensures.front)

pub returns : goal.returns
returns c = record {
  written = words_done c.loop-word.out.items _ c.in-Some.others.now c.loop-word.word-index c.loop-word-test.false c.loop-word.invariant.whole;
  front = c.loop-word.invariant.front;
}
