use Rattle.std.proofs.Common.{ap, sym, ◌∙◌}
use Rattle.std.specs.Prelude.{codes, is_some, option_map}
use Rattle.ob_parts.specs.Views.{part_of}
use Rattle.ob_parts.proofs.Needed.{needs_some, said_some, unless_right}
use Rattle.ob_super.specs.declared.config_rule.ConfigRule.TheVariants as rule
use Rattle.ob_super.specs.Upstreams.{lobby_in}
use Rattle.ob_super.proofs.config.lobby.Goals as goal

pub returns-in-Some-2 : goal.returns-in-Some-2
returns-in-Some-2 c =
    let p = part_of c.args.part in
    let url = part_of c.in-Some.url in
    let there = sym c.child.ensures ∙ ap (option_map part_of) c.in-Some.is in
    let leads = sym c.in_ok-place.ensures ∙ c.in-Some-2.is in
    (needs_some (codes "url") (λ _. rule.Url) (λ o. is_some (lobby_in o)) p url there ∙ unless_right (is_some (lobby_in url.object)) rule.Url url (ap is_some leads), said_some (codes "url") lobby_in p url there ∙ leads)
