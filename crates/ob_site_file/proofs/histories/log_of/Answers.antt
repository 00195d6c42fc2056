use Rattle.std.proofs.Common.{◌≡◌, ℕ, codes, List, Option, ap, ◌∙◌}
use Rattle.std.specs.List.{filter_map}
use Rattle.ob_history.specs.declared.records.Record.{Record}
use Rattle.ob_object.specs.Object.{Object}
use Rattle.ob_site_rules.specs.Loading.{capacity_of, items_of, record_in, records_of}
use Rattle.ob_roles.specs.SiteParts.{part as site_part}
use Rattle.ob_site_rules.specs.State.{Log}
use Rattle.ob_site_file.proofs.Rests.{filter_map-map}
use Rattle.ob_site_file.proofs.histories.log_of.Goals as goal

pub returns-clause-log : goal.returns-clause-log
returns-clause-log c =
    let p = site_part c.args.part.now in
    let kept : c.in_ok-kept.kept.items ≡ records_of p =
    c.in_ok-kept.ensures.records ∙ ap (λ (l : List Object). filter_map record_in l) c.items_of-items.ensures.objects ∙ filter_map-map record_in (λ i. i.1) (items_of (codes "data") p) in
    ap (λ (n : Option ℕ). let l : Log = record { capacity = n; gone = 0; kept = c.in_ok-kept.kept.items } in l) c.capacity_of.ensures
    ∙ ap (λ (rs : List Record). let l : Log = record { capacity = capacity_of p; gone = 0; kept = rs } in l) kept
