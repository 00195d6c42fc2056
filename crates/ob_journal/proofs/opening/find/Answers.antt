use Rattle.std.proofs.Common.{◌+◌, refl, sym, ◌∙◌, subst, arith}
use Rattle.std.proofs.lemmas.List.{take_rest}
use Rattle.ob_journal.specs.Journal.{IsTail, at_start}
use Rattle.ob_journal.proofs.Fronts.{front_of, broken_at, not_says}
use Rattle.ob_journal.proofs.opening.find.Goals as goal

pub returns-in_default-clause-none : goal.returns-in_default-clause-none
returns-in_default-clause-none g c =
    not_says g.S.Shape.is_entry g.met.S.Shape.one_first g.met.S.Shape.some_byte c.args.bytes.now 0 (at_start refl (λ unmade. omega (arith, unmade, c.if-bytes.false)) c.in_default.ensures.none)

pub returns-then-not-is_tail-clause-place : goal.returns-then-not-is_tail-clause-place
returns-then-not-is_tail-clause-place g c =
    let IsEntry = g.S.Shape.is_entry in
    let rest = c.in-Some.rest.now in
    let n = c.blocks_len-len.result in
    broken_at IsEntry c.args.bytes.now rest n c.in-Some.ensures.some c.blocks_len-len.ensures.0 c.blocks_len-len.ensures.1
    (λ tail. cc (sym c.if-not-is_tail.true ∙ c.is_tail.ensures.1 (subst (IsTail IsEntry) (sym (take_rest rest n)) tail)))

pub returns-then-not-is_tail-clause-none : goal.returns-then-not-is_tail-clause-none
returns-then-not-is_tail-clause-none g c =
    let IsEntry = g.S.Shape.is_entry in
    let rest = c.in-Some.rest.now in
    let n = c.blocks_len-len.result in
    not_says IsEntry g.met.S.Shape.one_first g.met.S.Shape.some_byte c.args.bytes.now (13 + n)
    (broken_at IsEntry c.args.bytes.now rest n c.in-Some.ensures.some c.blocks_len-len.ensures.0 c.blocks_len-len.ensures.1
    (λ tail. cc (sym c.if-not-is_tail.true ∙ c.is_tail.ensures.1 (subst (IsTail IsEntry) (sym (take_rest rest n)) tail))))

pub returns-clause-extent : goal.returns-clause-extent
returns-clause-extent g c =
    let rest = c.in-Some.rest.now in
    let n = c.blocks_len-len.result in
    front_of g.S.Shape.is_entry c.args.bytes.now rest n c.in-Some.ensures.some c.blocks_len-len.ensures.0 (subst (IsTail g.S.Shape.is_entry) (take_rest rest n) (c.is_tail.ensures.0 c.if-not-is_tail.false))
