use Rattle.std.proofs.Common.{refl}
use Rattle.ob_site_settling.specs.declared.seen.Seen.{Seen}
use Rattle.ob_site_settling.proofs.Looping.{node_first, place_first, rule_first, node_now, place_now, rule_now, library_now}
use Rattle.ob_site_settling.proofs.seen.Seen.is_first.Goals as goal

pub returns-in-Slot-clause-first : goal.returns-in-Slot-clause-first
returns-in-Slot-clause-first c = node_first c.is_new.result c.args.change.now c.in-Slot.node c.in-Slot.slot c.args.self.now c.in-Slot.is c.is_new.ensures.new

pub returns-in-Slot-clause-seen : goal.returns-in-Slot-clause-seen
returns-in-Slot-clause-seen c =
    let new : Seen = record { nodes = c.is_new.new.seen; places = c.args.self.now.places; rules = c.args.self.now.rules } in
    node_now c.is_new.result c.args.change.now c.in-Slot.node c.in-Slot.slot c.args.self.now new c.in-Slot.is c.is_new.ensures.seen refl refl

pub returns-in-Records-clause-first : goal.returns-in-Records-clause-first
returns-in-Records-clause-first c = place_first c.is_new-in-Records.result c.args.change.now c.in-Records.place c.in-Records.len c.args.self.now c.in-Records.is c.is_new-in-Records.ensures.new

pub returns-in-Records-clause-seen : goal.returns-in-Records-clause-seen
returns-in-Records-clause-seen c =
    let new : Seen = record { nodes = c.args.self.now.nodes; places = c.is_new-in-Records.new.seen; rules = c.args.self.now.rules } in
    place_now c.is_new-in-Records.result c.args.change.now c.in-Records.place c.in-Records.len c.args.self.now new c.in-Records.is c.is_new-in-Records.ensures.seen refl refl

pub returns-in-Event-clause-first : goal.returns-in-Event-clause-first
returns-in-Event-clause-first c = rule_first c.is_new-in-Event.result c.args.change.now c.in-Event.rule c.in-Event.status c.args.self.now c.in-Event.is c.is_new-in-Event.ensures.new

pub returns-in-Event-clause-seen : goal.returns-in-Event-clause-seen
returns-in-Event-clause-seen c =
    let new : Seen = record { nodes = c.args.self.now.nodes; places = c.args.self.now.places; rules = c.is_new-in-Event.new.seen } in
    rule_now c.is_new-in-Event.result c.args.change.now c.in-Event.rule c.in-Event.status c.args.self.now new c.in-Event.is c.is_new-in-Event.ensures.seen refl refl

pub returns-in-Contracts-clause-seen : goal.returns-in-Contracts-clause-seen
returns-in-Contracts-clause-seen c = library_now c.args.change.now c.in-Contracts.told c.args.self.now c.in-Contracts.is
