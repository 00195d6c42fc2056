use Rattle.std.proofs.Common.{ℕ, List, sym, ap, subst, ◌∙◌}
use Rattle.ob_record.specs.Runs.{Recorded, Records}
use Rattle.ob_record.proofs.RunLaws.{one_run}
use Rattle.ob_record.proofs.run.Run.boot.Goals as goal

pub returns : goal.returns
returns c = λ run records.
    let m = c.self.invariant in
    sym m.boot_is
    ∙ ap (λ (r : Recorded). r.boot)
    (one_run c.text_spells.ensures c.one_document.ensures _ m.run run (subst (λ (l : List ℕ). Records l m.run) c.self.view_is m.records) records)
