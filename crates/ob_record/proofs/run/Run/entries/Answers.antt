use Rattle.std.proofs.Common.{◌≡◌, ℕ, List, drop, ap, subst, ◌∙◌}
use Rattle.std.proofs.lemmas.List.{take_rest}
use Rattle.std.specs.List.{flat_map}
use Rattle.ob_record.specs.Runs.{Recorded, Records, entry_text}
use Rattle.ob_record.proofs.InPlace.{entries_from, same_run}
use Rattle.ob_record.proofs.run.Run.entries.Goals as goal

pub returns : goal.returns
returns c = λ run records.
    let m = c.self.invariant in
    let bytes = c.deref.result.now in
    let same : m.run ≡ run =
    same_run c.text_spells.ensures c.one_document.ensures _ m.run run (subst (λ (l : List ℕ). Records l m.run) c.self.view_is m.records) records in
    take_rest bytes c.self.inside.first
    ∙ ap (λ (l : List ℕ). drop c.self.inside.first l) c.deref.ensures.value
    ∙ entries_from _ m.run c.self.inside.first m.records m.first_is
    ∙ ap (λ (r : Recorded). flat_map entry_text r.entries) same
