use Rattle.std.proofs.Common.{◌≡◌}
use Rattle.ob_site.specs.Views.{without_watches}
use Rattle.ob_kept.proofs.Reopens.{opened_at}
use Rattle.ob_kept.proofs.reopening.open_site.Goals as goal

pub returns-in-Ok-clause-opened : goal.returns-in-Ok-clause-opened
returns-in-Ok-clause-opened g c =
    let left : c.restart.new.self ≡ without_watches c.in-Ok.field-0.site 0 = cc c.restart.ensures in
    opened_at (g.F.Files.content c.args.files.now c.args.name.now) c.args.boot c.in-Ok.field-0.ns c.in-Ok.field-0.site c.restart.new.self c.in-Ok.ensures.site left c.sound_law.ensures
