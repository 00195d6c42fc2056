use Rattle.ob_watch.proofs.GivingLemmas.{gone_held, part_stands, swept_held}
use Rattle.ob_watch.proofs.TableLemmas.{numbered_filter}
use Rattle.ob_watch.proofs.watches.Watches.give_way.Goals as goal

pub invariant_of-self : goal.invariant_of-self
invariant_of-self c = (
  numbered_filter c.self.inside.next c.self.inside.map.entries c.give_way.ensures.part.keeps c.give_way.new.held.entries c.give_way.ensures.part.kept c.self.invariant.0,
  part_stands c.self.inside.soonest c.self.inside.map.entries c.give_way.new.held.entries c.give_way.ensures.part c.self.invariant.1,
)

pub returns : goal.returns
returns c = record {
  gone = gone_held c.args.now c.args.self.now c.sweep.new.self c.sweep.ensures c.self.inside.map.entries c.self.inside.next c.self.view_is c.give_way.new.held.entries c.give_way.ensures.gone;
  swept = swept_held c.args.now c.args.self.now c.sweep.new.self c.sweep.ensures c.self.inside.map.entries c.self.inside.next c.self.view_is c.give_way.new.held.entries c.give_way.ensures.part;
}
