use Rattle.ob_site.proofs.site.Site.step_kept.Given as goal

abbrev pub ghosts-step_by : goal.ghosts-step_by
ghosts-step_by g a = record { name = a.blank.name; parts = a.blank.parts }
