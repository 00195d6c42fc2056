use Rattle.std.proofs.Common.{◌≡◌, ◌-◌, true, false, length, refl, sym, arith}
use Rattle.ob_record.proofs.Reading.{no_second_line, no_moment, behind_within, measured, record_broken}
use Rattle.ob_record.proofs.read.measure.Goals as goal

pub returns-in_default-take_boot-clause-broken : goal.returns-in_default-take_boot-clause-broken
returns-in_default-take_boot-clause-broken c = no_second_line c.args.bytes.now c.in-Some.rest.now (sym c.in-Some.ensures) (sym c.in_default-take_boot.ensures)

pub returns-in_default-new-clause-broken : goal.returns-in_default-new-clause-broken
returns-in_default-new-clause-broken c =
    no_moment c.args.bytes.now c.in-Some.rest.now c.in-Some-take_boot.head.0 c.in-Some-take_boot.head.1.now (sym c.in-Some.ensures) (sym c.in-Some-take_boot.ensures)
    (λ moment. absurd (let no : false ≡ true = c.in_default-new.ensures.some.1 moment in cc))

pub count_entries-requires : goal.count_entries-requires
count_entries-requires c =
    behind_within c.args.bytes.now c.in-Some.rest.now c.in-Some-take_boot.head.0 c.in-Some-take_boot.head.1.now (sym c.in-Some.ensures) (sym c.in-Some-take_boot.ensures)

pub overflow_sub-first : goal.overflow_sub-first
overflow_sub-first c =
    behind_within c.args.bytes.now c.in-Some.rest.now c.in-Some-take_boot.head.0 c.in-Some-take_boot.head.1.now (sym c.in-Some.ensures) (sym c.in-Some-take_boot.ensures)

pub returns-in-Ok-clause-run : goal.returns-in-Ok-clause-run
returns-in-Ok-clause-run c =
    let bytes = c.args.bytes.now in
    let behind = c.in-Some-take_boot.head.1.now in
    let within = behind_within bytes c.in-Some.rest.now c.in-Some-take_boot.head.0 behind (sym c.in-Some.ensures) (sym c.in-Some-take_boot.ensures) in
    measured bytes c.in-Some.rest.now c.in-Some-take_boot.head.0 c.in-Some-new.boot behind (length bytes - length behind) c.in-Ok.len
    (sym c.in-Some.ensures) (sym c.in-Some-take_boot.ensures) (c.in-Some-new.ensures.some.0 refl) c.in-Some-new.ensures.value
    (omega (arith, within)) c.in-Ok.ensures.found

pub returns-in-Err-clause-broken : goal.returns-in-Err-clause-broken
returns-in-Err-clause-broken c =
    record_broken c.args.bytes.now c.in-Some.rest.now c.in-Some-take_boot.head.0 c.in-Some-take_boot.head.1.now c.in-Err.fault
    (sym c.in-Some.ensures) (sym c.in-Some-take_boot.ensures) (c.in-Some-new.ensures.some.0 refl) c.in-Err.ensures.broken
