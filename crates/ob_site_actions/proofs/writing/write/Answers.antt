use Rattle.std.proofs.Common.{◌≡◌, ℕ, Some, IsTrue, sym, ap, ◌∙◌, subst}
use Rattle.std.proofs.lemmas.Result.{IfOk-weaker}
use Rattle.ob_times.specs.Times.{moment_instant}
use Rattle.ob_object.specs.declared.head.Slot.{Slot}
use Rattle.ob_object.specs.Fits.{fits_slot}
use Rattle.ob_history.specs.declared.records.Record.{Record}
use Rattle.ob_site_rules.specs.State.{numbered_from, with_board}
use Rattle.ob_site_rules.specs.Shown.{rule_of}
use Rattle.ob_site_rules.specs.Writes.{board_after, write}
use Rattle.ob_plain_state.specs.Fitting.{TakesIfRule}
use Rattle.ob_site_state.specs.Kept.{Kept}
use Rattle.ob_site_state.specs.Recorded.{TakesRecord}
use Rattle.ob_site_actions.proofs.Taking.{node_within, node_takes}
use Rattle.ob_site_actions.proofs.Counting.{counts_more}
use Rattle.ob_site_actions.proofs.Steps.{renewed, all_recorded, turned}
use Rattle.ob_site_actions.proofs.writing.write.Goals as goal

pub set_slot-requires-clause-node : goal.set_slot-requires-clause-node
set_slot-requires-clause-node g c = (c.args.at.path.now, c.requires.node)

pub set_slot-requires-clause-within : goal.set_slot-requires-clause-within
set_slot-requires-clause-within g c = node_within c.args.state.now.now.tree c.args.at.path.now c.args.at.node.number c.requires.node

pub set_slot-requires-clause-fits : goal.set_slot-requires-clause-fits
set_slot-requires-clause-fits g c = λ h at.
    subst (λ (v : Slot). IsTrue (fits_slot h.kind v)) (sym c.in_ok-copy.ensures)
    (node_takes c.args.state.now.now.tree c.args.at.path.now c.args.at.node.number c.args.slot.now h c.requires.can.nodes c.requires.node at)

pub record_all-requires : goal.record_all-requires
record_all-requires g c =
    let k = c.args.state.now in
    let p = c.args.at.path.now in
    let is = renewed p k c.set_slot.new.self c.args.at.node.number c.in_ok-copy.copy c.sound_law.ensures.made c.sound_law.ensures.differ c.requires.node c.in_ok-set_slot.ensures.ok in
    subst (λ (x : Kept). (place : ℕ) → let r : Record = record { time = moment_instant x.time; kind = c.args.kind; slot = c.args.slot.now } in TakesRecord x.plan r p x.now.logs place) (sym is)
    (λ place l e has. (counts_more k.plan p k.now.logs place l c.requires.counts e has, c.requires.can.is_record l.0 has k.time))

pub act-requires : goal.act-requires
act-requires g c =
    let k = c.args.state.now in
    let p = c.args.at.path.now in
    let is = renewed p k c.set_slot.new.self c.args.at.node.number c.in_ok-copy.copy c.sound_law.ensures.made c.sound_law.ensures.differ c.requires.node c.in_ok-set_slot.ensures.ok in
    let all = all_recorded p c.args.kind c.args.slot.now k c.set_slot.new.self c.record_all.new.self c.args.at.node.number c.in_ok-copy.copy is c.in_ok-record_all.ensures.ok in
    subst (λ (x : Kept). TakesIfRule (numbered_from 0 x.plan.rules) (rule_of x.plan p) c.args.slot.now) (sym all) c.requires.can.rule

pub returns-clause-ok : goal.returns-clause-ok
returns-clause-ok g c =
    let k = c.args.state.now in
    let p = c.args.at.path.now in
    let is = renewed p k c.set_slot.new.self c.args.at.node.number c.in_ok-copy.copy c.sound_law.ensures.made c.sound_law.ensures.differ c.requires.node c.in_ok-set_slot.ensures.ok in
    let all = all_recorded p c.args.kind c.args.slot.now k c.set_slot.new.self c.record_all.new.self c.args.at.node.number c.in_ok-copy.copy is c.in_ok-record_all.ensures.ok in
    let after : Kept → Kept = λ x. record x { now = with_board x.now (board_after x.plan x.now x.time p c.args.slot.now) } in
    IfOk-weaker c.act.result (λ _. c.act.new.self ≡ after c.record_all.new.self) (λ _. c.act.new.self ≡ record k { now = write k.plan k.time p c.args.kind c.args.slot.now k.now })
    (λ _ e. turned p c.args.kind c.args.slot.now k c.record_all.new.self c.act.new.self c.args.at.node.number c.in_ok-copy.copy c.in_ok-copy.ensures c.sound_law.ensures.differ c.requires.node all e) c.act.ensures.ok
