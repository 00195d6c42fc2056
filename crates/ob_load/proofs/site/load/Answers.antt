use Rattle.std.proofs.Common.{◌≡◌}
use Rattle.std.proofs.lemmas.Result.{err_from_is_err_and}
use Rattle.ob_load.proofs.Contents.{told_of, told_site}
use Rattle.ob_load.proofs.site.load.Goals as goal

pub returns-in_err-loaded-clause-refused : goal.returns-in_err-loaded-clause-refused
returns-in_err-loaded-clause-refused g c =
    let f = c.in_err-loaded.field-0.0 in
    let e = told_of (g.F.Files.content c.args.files.now c.args.name.now) c.in_ok-bytes.bytes.items c.args.boot f c.in_ok-bytes.ensures.bytes c.in_err-loaded.ensures.refused in
    let p = err_from_is_err_and c.from_residual-in_err-loaded.result c.from_residual-in_err-loaded.ensures.1 in
    let q : p.0 ≡ f = cc p.2 in
    rw (p.1, q) e

pub returns-clause-site : goal.returns-clause-site
returns-clause-site g c =
    let l = c.in_ok-loaded.loaded in
    told_site (g.F.Files.content c.args.files.now c.args.name.now) c.in_ok-bytes.bytes.items c.args.boot l.ns l.site c.in_ok-bytes.ensures.bytes c.in_ok-loaded.ensures.site
