use Rattle.std.proofs.Common.{◌≡◌, ◌-◌, ℕ, List, [], ◌∷◌, ◌++◌, length, take, Some, refl, sym, ap, ◌∙◌, subst, rules}
use Rattle.std.specs.Prelude.{IfOk}
use Rattle.ob_journal.specs.Journal.{at_rest}
use Rattle.ob_record.specs.Runs.{Recorded, Records}
use Rattle.ob_record_journal.specs.Runs.{run_blocks}
use Rattle.ob_record_journal.proofs.Whole.{whole_if, whole_none, whole_some}
use Rattle.ob_record_journal.proofs.writing.whole_text.Goals as goal

pub returns-then-len-eq0-clause-whole : goal.returns-then-len-eq0-clause-whole
returns-then-len-eq0-clause-whole c =
    let none : IfOk c.to_vec-then-len-eq0.result (λ v. v.items ≡ at_rest []) = search rules in
    let empty : (run : Recorded) → Records c.in-Some.run'.now run → at_rest [] ≡ at_rest (run_blocks run.boot run.entries)
    = λ run records. whole_none (at_rest []) refl run.boot run.entries (sym (c.len.ensures run records) ∙ c.if-len-eq0.true) in
    rw c.in-Some.is (whole_if c.to_vec-then-len-eq0.result (λ v. v.items) (Some c.in-Some.run'.now) (at_rest []) none empty)

pub returns-clause-whole : goal.returns-clause-whole
returns-clause-whole c =
    let text = c.as_slice-record.result.now in
    let front : c.in_ok-text.text.items ≡ take (length text - 1) text = c.in_ok-text.ensures.items_if_clones_equal (λ x y same. same) in
    let is : c.push.new.self.items ≡ take (length text - 1) text ++ 0 ∷ [] = c.in_ok-push.ensures.items ∙ ap (λ (l : List ℕ). l ++ 0 ∷ []) front in
    rw c.in-Some.is
    (λ run records. is ∙ whole_some c.record_at_rest.ensures run text (subst (λ (l : List ℕ). Records l run) (sym c.as_slice-record.ensures) records)
    (λ none. c.if-len-eq0.false (c.len.ensures run records ∙ none)))
