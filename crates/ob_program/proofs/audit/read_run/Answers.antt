use Rattle.std.proofs.Common.{◌≤◌, ◌<◌, length, arith}
use Rattle.ob_program.specs.Audit.{most_bytes}
use Rattle.ob_program.proofs.AuditLemmas.{too_long, runs_told, runs_none}
use Rattle.ob_program.proofs.audit.read_run.Goals as goal

pub returns-then-len-gt-MOST_BYTES-clause-none : goal.returns-then-len-gt-MOST_BYTES-clause-none
returns-then-len-gt-MOST_BYTES-clause-none g c =
    let long : most_bytes < length c.in-Ok.bytes.items = (let test = c.if-len-gt-MOST_BYTES.true in let len = c.len.ensures in omega (arith, test, len)) in
    too_long (g.F.Files.content c.args.files.now c.args.name.now) c.in-Ok.bytes.items c.in-Ok.ensures.bytes long

pub returns-clause-run : goal.returns-clause-run
returns-clause-run g c =
    let short : length c.in-Ok.bytes.items ≤ most_bytes = (let test = c.if-len-gt-MOST_BYTES.false in let len = c.len.ensures in omega (arith, test, len)) in
    runs_told (g.F.Files.content c.args.files.now c.args.name.now) c.in-Ok.bytes.items c.run_of.result c.in-Ok.ensures.bytes short
    c.run_of.ensures.run

pub returns-clause-none : goal.returns-clause-none
returns-clause-none g c =
    let short : length c.in-Ok.bytes.items ≤ most_bytes = (let test = c.if-len-gt-MOST_BYTES.false in let len = c.len.ensures in omega (arith, test, len)) in
    runs_none (g.F.Files.content c.args.files.now c.args.name.now) c.in-Ok.bytes.items c.run_of.result c.in-Ok.ensures.bytes short
    c.run_of.ensures.none
