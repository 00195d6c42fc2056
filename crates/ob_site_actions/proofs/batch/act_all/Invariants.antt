use Rattle.std.proofs.Common.{◌≡◌, true, drop}
use Rattle.std.specs.Prelude.{is_none}
use Rattle.std.specs.List.{list_all}
use Rattle.ob_site_rules.specs.Actions.{act_all}
use Rattle.ob_site_rules.specs.Locating.{locate}
use Rattle.ob_requests.proofs.Batches.{with_rest}
use Rattle.ob_site_actions.proofs.batch.act_all.Given as goal

abbrev pub invariant-loop-item : goal.invariant-loop-item
invariant-loop-item g l = record {
  stays : l.state ≡ record l.fn.state { now = l.state.now };
  nameless : list_all (λ o. is_none o.head.name) l.results.items ≡ true;
  done : with_rest locate l.state.plan l.numbers l.state.time l.state.now l.results.items (drop l.item-index l.items) ≡ act_all locate l.fn.state.plan l.fn.state.now l.numbers l.fn.state.time l.items;
}
