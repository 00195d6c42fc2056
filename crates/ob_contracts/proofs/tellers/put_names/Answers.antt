use Rattle.std.proofs.Common.{List, Some, None, cond, ap, ◌∙◌}
use Rattle.std.proofs.lemmas.List.{take_all}
use Rattle.std.specs.BTreeMap.{get_by_text}
use Rattle.ob_object.specs.Object.{Object}
use Rattle.ob_object.specs.WellFormed.{is_taken}
use Rattle.ob_contracts.specs.Inherit.{or_else}
use Rattle.ob_contracts.proofs.Taught.{words_start, words_next, words_pass}
use Rattle.ob_contracts.proofs.tellers.put_names.Goals as goal
use Rattle.ob_contracts.proofs.tellers.put_names.Goals.{in-Some+in_ok-put_word_for, in_default}

pub loop-child-init : goal.loop-child-init
loop-child-init c = λ n. words_start (get_by_text c.args.names.now n) c.args.word.now

pub loop-child-preserved : goal.loop-child-preserved
loop-child-preserved c = λ n.
    let old = get_by_text c.args.names.now n in
    let now = get_by_text c.loop-child.names n in
    let cs = c.args.children.now in
    let i = c.loop-child.child-index in
    elim c.match-name.branch [
      | in-Some+in_ok-put_word_for w ↦ ap (λ m. get_by_text m n) w.names-is
          ∙ w.in_ok-put_word_for.ensures n
          ∙ words_next old now c.args.word.now n cs i c.child-item.result w.in-Some.name.now c.loop-child-test.true c.child-item.is (w.in-Some.ensures) (c.loop-child.invariant n)
      | in_default w ↦ ap (λ m. get_by_text m n) w.names-is
          ∙ words_pass old now c.args.word.now n cs i c.child-item.result c.loop-child-test.true c.child-item.is (w.in_default.ensures) (c.loop-child.invariant n)
    ]

pub returns : goal.returns
returns c = λ n.
    c.loop-child.invariant n
    ∙ ap (λ (l : List Object). or_else (get_by_text c.args.names.now n) (cond (is_taken (Some n) l) (Some c.args.word.now) None)) (take_all c.loop-child.child-index c.args.children.now c.loop-child-test.false)
