use Rattle.std.proofs.Common.{ap, ◌∙◌}
use Rattle.ob_kept.specs.Redone.{numbers_noted}
use Rattle.ob_kept.proofs.Doing.{pass_so}
use Rattle.ob_kept.proofs.redone.Redone.pass_numbers.Goals as goal

pub returns : goal.returns
returns c =
    pass_so c.self.inside.site c.restart.new.self c.next_number-next.result c.more_numbers.result c.restart.ensures c.more_numbers.ensures c.next_number-next.ensures ∙ ap numbers_noted c.self.view_is
