use Rattle.std.proofs.Common.{◌∙◌}
use Rattle.std.proofs.lemmas.Bool.Decides.{when_false}
use Rattle.ob_site_reads.proofs.paths.is_ended.Goals as goal

pub returns : goal.returns
returns c = λ e front f. when_false _ _ e c.ends_with.ensures.cases front (c.as_str.ensures.value ∙ f)
