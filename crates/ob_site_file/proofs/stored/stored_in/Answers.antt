use Rattle.std.proofs.Common.{ℕ, codes, length, ap, ◌∙◌}
use Rattle.std.specs.Prelude.{Option}
use Rattle.std.specs.List.{filter_map}
use Rattle.ob_site_rules.specs.Writes.{stored_in}
use Rattle.ob_site_rules.specs.Loading.{record_in, records_of, items_of}
use Rattle.ob_roles.specs.SiteParts.{part as site_part}
use Rattle.ob_site_file.proofs.Rests.{filter_map-map}
use Rattle.ob_site_file.proofs.stored.stored_in.Goals as goal

pub returns-in-None : goal.returns-in-None
returns-in-None c =
    let p = site_part c.args.part.now in
    c.record_count.ensures ∙ ap (λ os. length (filter_map record_in os)) c.items_of.ensures.objects
    ∙ ap length (filter_map-map record_in (λ i. i.1) (items_of (codes "data") p))
    ∙ ap (λ (k : Option ℕ). stored_in k (length (records_of p))) c.in-None.ensures
