use Rattle.ob_dialogue.specs.InHand as in_hand
use Rattle.ob_dialogue.proofs.StageLemmas.{taken_near}
use Rattle.ob_dialogue.proofs.talk.Talk.on_link.Goals as goal

pub turns-smaller : goal.turns-smaller
turns-smaller g c =
    let on = c.in-Next.ensures.onward in
    taken_near c.args.self.now.plan.now (in_hand.stage c.turns.stage) on.1.0 (in_hand.stage c.in-Next.next) on.0 on.1.1
