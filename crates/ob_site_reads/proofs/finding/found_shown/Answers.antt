use Rattle.std.proofs.Common.{sym, ◌∙◌}
use Rattle.ob_requests.specs.Calls.{found as found_of}
use Rattle.ob_site_rules.specs.Shown.{shown}
use Rattle.ob_site_reads.proofs.FoundKinds.{node_found}
use Rattle.ob_site_reads.proofs.finding.found_shown.Goals as goal

pub returns-in-Some : goal.returns-in-Some
returns-in-Some g c =
    node_found c.args.state.now.plan c.args.numbers.now c.args.path c.in-Some.kind (shown c.args.state.now.plan c.args.state.now.now c.args.path)
    (found_of c.found_node.result) (sym c.in-Some.is ∙ c.in_ok-kind.ensures) c.found_node.ensures
