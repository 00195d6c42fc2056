use Rattle.std.proofs.Common.{◌≡◌, ap, ◌∙◌, ◌++◌, List, ℕ, true, false, arith}
use Rattle.ob_client.specs.Entries.{is_err}
use Rattle.ob_dialogue.specs.Printing.{line}
use Rattle.ob_dialogue.proofs.PartLemmas.{errs_more, errs_same}
use Rattle.ob_dialogue.proofs.lines.err_lines.Goals.{then-same+in_ok-line, else-same}
use Rattle.ob_dialogue.proofs.lines.err_lines.Goals as goal

pub loop-entry-preserved : goal.loop-entry-preserved
loop-entry-preserved c =
    let es = c.args.entries.now in
    let i = c.loop-entry.entry-index in
    let e = c.entry-item.result in
    elim c.if-same.branch [
      | then-same+in_ok-line w ↦
          let err : is_err e ≡ true = cc (c.same.ensures, c.kind.ensures, w.if-same.true) in
          rw w.out-is (w.in_ok-line.ensures ∙ ap (λ (t : List ℕ). t ++ line e) c.loop-entry.invariant ∙ errs_more es i e (omega arith) c.entry-item.is err)
      | else-same w ↦
          let other : is_err e ≡ false = cc (c.same.ensures, c.kind.ensures, w.if-same.false) in
          rw w.out-is (c.loop-entry.invariant ∙ errs_same es i e (omega arith) c.entry-item.is other)
    ]
