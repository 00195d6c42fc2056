use Rattle.std.proofs.Common.{◌≡◌, ℕ, ◌+◌, List, Option, Ok, take, drop, sym, ap, subst, ◌∙◌, arith, length-take}
use Rattle.std.proofs.lemmas.List.{take_all}
use Rattle.ob_record.specs.declared.run.Entry.{Entry}
use Rattle.ob_record.specs.Legal.{StepsEntry, IsLegalRun, after_entries}
use Rattle.ob_record.proofs.AuditLaws.{Audited, audited_more, audited_differs, audited_wanting, around, one_more}
use Rattle.ob_record.proofs.InPlace.{next_found, next_none, next_stands, none_left}
use Rattle.ob_record.proofs.auditing.audit.Goals as goal

pub unreachable-requires : goal.unreachable-requires
unreachable-requires g c =
    let run = c.is_record.ensures.0 in
    let records = c.is_record.ensures.1 in
    let n = next_none c.entries.rest.now _ (c.in_default.is) c.in_ok-found.ensures.none in
    let few = none_left run.entries c.entries.place c.entries.rest.now records.valid.entries (c.entries.invariant run records).0 n in
    let len = c.len-entries.ensures run records in
    let test = c.entries-test.true in
    absurd (omega (arith, few, len, test))

pub returns-in-Ok-Some : goal.returns-in-Ok-Some
returns-in-Ok-Some g c = λ run records.
    let entries = run.entries in
    let place = c.entries.place in
    let e = c.in-Some.found.0 in
    let so_far = c.entries.invariant run records in
    let n = next_found c.entries.rest.now _ c.in-Some.found c.in-Some.is c.in_ok-found.ensures.found in
    let s = next_stands c.text_spells.ensures c.one_document.ensures entries place c.entries.rest.now e c.in-Some.found.1.now records.valid.entries so_far.0 n.0 n.1 in
    audited_differs g.M.Machine.act c.args.machine.now c.entries.machine c.step_entry-stepped.new.machine (take place entries) e (drop (place + 1) entries) entries place c.in-Ok-Some.expected
    (around entries place e s.below s.at_place) (omega (arith, s.below, length-take place entries)) so_far.1
    (subst (λ (o : Option (List ℕ)). StepsEntry g.M.Machine.act c.entries.machine c.step_entry-stepped.new.machine e (Ok o)) c.in-Ok-Some.field-0-is c.in-Ok-Some.ensures)

pub returns-in-Err : goal.returns-in-Err
returns-in-Err g c = λ run records.
    let entries = run.entries in
    let place = c.entries.place in
    let e = c.in-Some.found.0 in
    let so_far = c.entries.invariant run records in
    let n = next_found c.entries.rest.now _ c.in-Some.found c.in-Some.is c.in_ok-found.ensures.found in
    let s = next_stands c.text_spells.ensures c.one_document.ensures entries place c.entries.rest.now e c.in-Some.found.1.now records.valid.entries so_far.0 n.0 n.1 in
    audited_wanting g.M.Machine.act c.args.machine.now c.entries.machine c.step_entry-stepped.new.machine entries place e s.below s.at_place so_far.1 c.in-Err.ensures

pub entries-preserved : goal.entries-preserved
entries-preserved g c = λ run records.
    let entries = run.entries in
    let place = c.entries.place in
    let e = c.in-Some.found.0 in
    let so_far = c.entries.invariant run records in
    let n = next_found c.entries.rest.now _ c.in-Some.found c.in-Some.is c.in_ok-found.ensures.found in
    let s = next_stands c.text_spells.ensures c.one_document.ensures entries place c.entries.rest.now e c.in-Some.found.1.now records.valid.entries so_far.0 n.0 n.1 in (
      s.more_is,
      subst (λ (l : List Entry). Audited g.M.Machine.act c.args.machine.now c.step_entry-stepped.new.machine l) (sym (one_more entries place e s.below s.at_place))
          (audited_more g.M.Machine.act c.args.machine.now c.entries.machine c.step_entry-stepped.new.machine (take place entries) e so_far.1
          (subst (λ (o : Option (List ℕ)). StepsEntry g.M.Machine.act c.entries.machine c.step_entry-stepped.new.machine e (Ok o)) c.in-Ok-None.field-0-is c.in-Ok-None.ensures)),
    )

pub returns : goal.returns
returns g c = λ run records.
    let entries = run.entries in
    let place = c.entries.place in
    let so_far = (c.entries.invariant run records).1 in
    let len = c.len-entries.ensures run records in
    let all : take place entries ≡ entries = take_all place entries (let test = c.entries-test.false in omega (arith, test, len)) in (
      subst (λ (l : List Entry). IsLegalRun g.M.Machine.act c.args.machine.now l) all so_far.legal,
      len,
      so_far.after ∙ ap (λ (l : List Entry). after_entries g.M.Machine.act c.args.machine.now l) all,
    )
