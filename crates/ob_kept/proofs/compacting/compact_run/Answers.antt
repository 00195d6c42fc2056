use Rattle.std.proofs.Common.{◌≡◌, ℕ, List, Option, sym, subst, ◌∙◌}
use Rattle.std.proofs.lemmas.Result.{err_from_is_err_and}
use Rattle.ob_record.specs.Runs.{Recorded, Records}
use Rattle.ob_kept.specs.declared.fault.ReopenFault.TheVariants as reopens
use Rattle.ob_kept.specs.Compacting.{IsAlike, IsUntried}
use Rattle.ob_kept.specs.Reopening.{IsOpenedAt}
use Rattle.ob_kept.proofs.Reading.{unready_undone}
use Rattle.ob_kept.proofs.Shorter.{compacted_new, compacted_same, unready_untried}
use Rattle.ob_kept.proofs.compacting.compact_run.Goals as goal

pub returns-then-branch-clause-compacts : goal.returns-then-branch-clause-compacts
returns-then-branch-clause-compacts g c = λ recorded records.
    let name = c.args.name.now in
    let done = c.in_ok-done.done in
    let is = c.in_ok-done.ensures.redone recorded records in
    let s = c.in_ok-shorter.ensures recorded records in
    let shorter : Recorded = record { boot = recorded.boot; entries = s.entries } in
    let alike : IsAlike (g.F.Files.content c.ready_redone.new.files name) done.site shorter = c.in_ok-leads_alike.ensures.alike c.if-branch.true shorter s.records in
    compacted_new c.one_document.ensures recorded done.boot done.ns done.opening.value done.site is.boot_is (g.F.Files.content c.args.files.now name) c.in_ok-shorter.shorter c.in_ok-done.ensures.opened is s
    (subst (λ (content : Option (List ℕ)). IsAlike content done.site shorter) (c.ready_redone.ensures.same name) alike)

pub returns-clause-compacts : goal.returns-clause-compacts
returns-clause-compacts g c = λ recorded records.
    let done = c.in_ok-done.done in
    let is = c.in_ok-done.ensures.redone recorded records in
    compacted_same c.one_document.ensures recorded done.boot done.ns done.opening.value done.site is.boot_is (g.F.Files.content c.args.files.now c.args.name.now) c.in_ok-copy.field-0 c.in_ok-done.ensures.opened is
    c.in_ok-done.ensures.begun.2 (subst (λ (l : List ℕ). Records l recorded) (sym c.in_ok-copy.ensures) records)

pub returns-in_err-shorter-clause-refused : goal.returns-in_err-shorter-clause-refused
returns-in_err-shorter-clause-refused g c =
    let p = err_from_is_err_and c.from_residual-in_err-shorter.result c.from_residual-in_err-shorter.ensures.1 in
    let wanting : p.0 ≡ reopens.Memory = cc p.2 in
    let done = c.in_ok-done.done in
    rw (p.1, wanting)
    (λ recorded records. unready_undone (g.F.Files.content c.args.files.now c.args.name.now) recorded done.boot done.ns done.opening.value reopens.Memory (c.in_ok-done.ensures.redone recorded records).boot_is
    c.in_ok-done.ensures.opened tt)

pub returns-in_err-copy-clause-refused : goal.returns-in_err-copy-clause-refused
returns-in_err-copy-clause-refused g c =
    let p = err_from_is_err_and c.from_residual-in_err-copy.result c.from_residual-in_err-copy.ensures.1 in
    let wanting : p.0 ≡ reopens.Memory = cc p.2 in
    let done = c.in_ok-done.done in
    rw (p.1, wanting)
    (λ recorded records. unready_undone (g.F.Files.content c.args.files.now c.args.name.now) recorded done.boot done.ns done.opening.value reopens.Memory (c.in_ok-done.ensures.redone recorded records).boot_is
    c.in_ok-done.ensures.opened tt)

pub returns-in_err-leads_alike-clause-refused : goal.returns-in_err-leads_alike-clause-refused
returns-in_err-leads_alike-clause-refused g c =
    let name = c.args.name.now in
    let content = g.F.Files.content c.args.files.now name in
    let fault = c.in_err-leads_alike.field-0.0 in
    let p = err_from_is_err_and c.from_residual-in_err-leads_alike.result c.from_residual-in_err-leads_alike.ensures.1 in
    let fault_is : p.0 ≡ fault = cc p.2 in
    let done = c.in_ok-done.done in
    rw (p.1, fault_is)
    (λ recorded records.
    let s = c.in_ok-shorter.ensures recorded records in
    let shorter : Recorded = record { boot = recorded.boot; entries = s.entries } in
    let none : IsUntried content recorded.boot fault =
    subst (λ (o : Option (List ℕ)). IsUntried o recorded.boot fault) (c.ready_redone.ensures.same name) (c.in_err-leads_alike.ensures.untried shorter s.records) in
    unready_untried content recorded done.ns done.opening.value fault (subst (λ (b : ℕ). IsOpenedAt content b done.ns done.opening.value) (c.in_ok-done.ensures.redone recorded records).boot_is c.in_ok-done.ensures.opened) none)

pub returns-in_err-copy-clause-same : goal.returns-in_err-copy-clause-same
returns-in_err-copy-clause-same g c = λ n. c.leads_alike.ensures.same n ∙ c.ready_redone.ensures.same n

pub returns-clause-same : goal.returns-clause-same
returns-clause-same g c = λ n. c.leads_alike.ensures.same n ∙ c.ready_redone.ensures.same n
