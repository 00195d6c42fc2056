use Rattle.ob_site.proofs.site.Site.passes.Given as goal

abbrev pub ghosts-passes_by : goal.ghosts-passes_by
ghosts-passes_by a = record { name = a.blank.name; parts = a.blank.parts }
