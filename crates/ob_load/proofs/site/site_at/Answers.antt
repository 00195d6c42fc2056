use Rattle.ob_load.proofs.site.site_at.Goals as goal

pub site_of-requires-clause-opens : goal.site_of-requires-clause-opens
site_of-requires-clause-opens c = record {
  from = record { root = c.args.root; boot = c.args.boot; well_formed = c.head-head.ensures.well_formed; opens = c.in_ok-opened.ensures.opened };
  shallow = c.requires;
}
