use Rattle.std.proofs.Common.{sym, subst}
use Rattle.ob_site_watches.specs.Watched.{IsOwnFound}
use Rattle.ob_requests.specs.Calls.{found as found_of}
use Rattle.ob_site_watches.specs.Offered.{IsFor}
use Rattle.ob_site_watches.proofs.Found.{refusal_offered}
use Rattle.ob_site_watches.proofs.offering.offered.Goals as goal

pub item_for-requires-clause-own : goal.item_for-requires-clause-own
item_for-requires-clause-own g c =
    subst (IsOwnFound c.args.state.now.plan c.args.state.now.now.tree) (sym c.in_ok-found.ensures) (c.watched_are_own.ensures c.args.state.now.plan c.args.state.now.now c.args.numbers.now c.args.asked.now.0 c.args.asked.now.1)

pub returns-in_ok-entry-in-Err : goal.returns-in_ok-entry-in-Err
returns-in_ok-entry-in-Err g c =
    refusal_offered c.args.state.now c.args.numbers.now c.args.asked.now c.in_ok-text.text (found_of c.in_ok-found.found) c.in-Err.fault c.in_ok-entry-in-Err.entry c.in_ok-text.ensures
    c.in_ok-found.ensures (subst (IsFor c.args.state.now c.in_ok-text.text (found_of c.in_ok-found.found)) c.in-Err.is c.in_ok-item.ensures) c.in_ok-entry-in-Err.ensures
