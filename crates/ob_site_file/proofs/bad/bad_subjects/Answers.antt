use Rattle.std.proofs.Common.{◌+◌, true, sym, subst}
use Rattle.ob_site_file.proofs.Worst.{SubjectsLeft, numbered_at, subjects_more, subjects_past}
use Rattle.ob_site_file.proofs.bad.bad_subjects.Goals as goal
use Rattle.ob_site_file.proofs.bad.bad_subjects.Goals.{then-part+in_ok-bad, else-part}

pub bad_subject-requires : goal.bad_subject-requires
bad_subject-requires c = numbered_at c.args.parts.now c.loop-part.part-index c.part-item.result c.loop-part-test.true c.part-item.is c.requires

pub loop-part-preserved : goal.loop-part-preserved
loop-part-preserved c = λ ps sees.
    let all = c.args.parts.now in
    let i = c.loop-part.part-index in
    let x = c.part-item.result in
    elim c.if-part.branch [
      | then-part+in_ok-bad w ↦ subst (λ b. SubjectsLeft ps all (i + 1) b c.if-part.first) (sym w.found-is)
          (subst (λ o. SubjectsLeft ps all (i + 1) true o) (sym w.first-is)
          (subjects_more ps all i x c.loop-part.found c.loop-part.first w.in_ok-bad.bad w.earlier-first.result c.loop-part-test.true c.part-item.is w.if-part.true (w.in_ok-bad.ensures ps sees) w.earlier-first.ensures (c.loop-part.invariant ps sees)))
      | else-part w ↦ subst (λ b. SubjectsLeft ps all (i + 1) b c.if-part.first) (sym w.found-is)
          (subst (λ o. SubjectsLeft ps all (i + 1) c.loop-part.found o) (sym w.first-is)
          (subjects_past ps all i x c.loop-part.found c.loop-part.first c.loop-part-test.true c.part-item.is w.if-part.false (c.loop-part.invariant ps sees)))
    ]
