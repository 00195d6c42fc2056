use Rattle.std.proofs.Common.{◌≡◌}
use Rattle.std.proofs.lemmas.Result.{err_from_is_err_and}
use Rattle.ob_site_file.specs.declared.fault.LoadFault.TheVariants as loads
use Rattle.ob_kept.specs.declared.fault.ReopenFault.TheVariants as faults
use Rattle.ob_kept.proofs.Reading.{redone_so, undone_site, unready_opened, unready_undone}
use Rattle.ob_kept.proofs.reopening.ready_redone.Goals as goal

pub returns-in_err-ns-clause-refused : goal.returns-in_err-ns-clause-refused
returns-in_err-ns-clause-refused g c =
    let f = c.in_err-ns.field-0.0 in
    let p = err_from_is_err_and c.from_residual.result c.from_residual.ensures.1 in
    let q : p.0 ≡ f = cc p.2 in
    rw (p.1, q)
    (λ recorded records. unready_opened (g.F.Files.content c.args.files.now c.args.name.now) recorded c.boot-boot.result f (c.boot-boot.ensures recorded records) c.in_err-ns.ensures.refused)

pub returns-in_err-site-clause-cause : goal.returns-in_err-site-clause-cause
returns-in_err-site-clause-cause g c =
    let f = c.in_err-site.field-0.0 in
    let p = err_from_is_err_and c.from_residual-in_err-site.result c.from_residual-in_err-site.ensures.1 in
    let q : p.0 ≡ f = cc p.2 in
    let run = c.is_record.ensures in
    record {
      later = c.open_site.ensures.cause.later;
      failed = λ is. (
          let same : f ≡ faults.Site loads.Read = cc (is, p.1, q) in
          absurd (undone_site c.in_ok-ns.field-0.site run.0.entries f loads.Read same (c.in_err-site.ensures.undone run.0 run.1))
          );
    }

pub returns-in_err-site-clause-refused : goal.returns-in_err-site-clause-refused
returns-in_err-site-clause-refused g c =
    let f = c.in_err-site.field-0.0 in
    let p = err_from_is_err_and c.from_residual-in_err-site.result c.from_residual-in_err-site.ensures.1 in
    let q : p.0 ≡ f = cc p.2 in
    rw (p.1, q)
    (λ recorded records. unready_undone (g.F.Files.content c.args.files.now c.args.name.now) recorded c.boot-boot.result c.in_ok-ns.field-0.ns c.in_ok-ns.field-0.site f (c.boot-boot.ensures recorded records)
    c.in_ok-ns.ensures.opened (c.in_err-site.ensures.undone recorded records))

pub returns-clause-redone : goal.returns-clause-redone
returns-clause-redone g c = λ recorded records.
    redone_so recorded _ _ _ _ (c.boot-boot.ensures recorded records) c.of-opening.ensures (c.in_ok-site.ensures.done recorded records)
