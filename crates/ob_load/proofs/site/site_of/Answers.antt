use Rattle.std.proofs.Common.{ap, ◌∙◌}
use Rattle.ob_site_file.specs.Opened.{site_of}
use Rattle.ob_site.specs.Views.{opened}
use Rattle.ob_load.proofs.site.site_of.Goals as goal

pub open-requires : goal.open-requires
open-requires c = record {
  root = c.requires.opens.from.root;
  boot = c.requires.opens.from.boot;
  well_formed = c.requires.opens.from.well_formed;
  shallow = c.requires.opens.shallow;
  opens = record { site = site_of c.args.opened; opens = c.requires.opens.from.opens; is = c.in_ok-state.ensures };
}

pub returns : goal.returns
returns c = c.open.ensures ∙ ap opened c.in_ok-state.ensures
