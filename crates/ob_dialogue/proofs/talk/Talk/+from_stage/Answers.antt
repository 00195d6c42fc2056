use Rattle.std.proofs.Common.{◌≡◌, Ok, refl, inl, inr, subst}
use Rattle.ob_dialogue.specs.Legs.{Failed, Cut}
use Rattle.ob_dialogue.specs.Links.{Outside, TalksFrom}
use Rattle.ob_dialogue.specs.Stages.{Stage}
use Rattle.ob_dialogue.specs.declared.ending.Ending.{Ending}
use Rattle.ob_dialogue.specs.declared.talk.Talk.{Talk}
use Rattle.ob_dialogue.specs.InHand as in_hand
use Rattle.ob_dialogue.proofs.TalkLemmas.{talks_once, talks_more}
use Rattle.ob_dialogue.proofs.talk.Talk.+from_stage.Goals as goal

-- what a dialogue does is told by its plan and by how many polls may be mended
talks_with : (t u : Talk) (s : Stage) (old new : Outside) (e : Ending) → t ≡ u → TalksFrom t.plan.now t.retries (Ok s) old new e → TalksFrom u.plan.now u.retries (Ok s) old new e
talks_with t u s old new e same talks = subst (λ (v : Talk). TalksFrom v.plan.now v.retries (Ok s) old new e) same talks

pub returns-in-Ended-clause-talks : goal.returns-in-Ended-clause-talks
returns-in-Ended-clause-talks g t c =
    talks_once c.args.self.plan.now c.args.self.retries (in_hand.stage c.args.stage) _ _ c.in-Ended.ending c.in-Ended.ensures.visits

pub returns-in-Failed-clause-talks : goal.returns-in-Failed-clause-talks
returns-in-Failed-clause-talks g t c =
    talks_more c.args.self.plan.now c.args.self.retries (in_hand.stage c.args.stage) (in_hand.stage c.in-Failed.next) _ _ _ (Failed (in_hand.stage c.in-Failed.next)) c.from_stage.result
    (inl refl) c.in-Failed.ensures.visits
    (talks_with c.mended.result _ (in_hand.stage c.in-Failed.next) _ _ c.from_stage.result c.mended.ensures c.from_stage.ensures.talks)

pub returns-in-Cut-clause-talks : goal.returns-in-Cut-clause-talks
returns-in-Cut-clause-talks g t c =
    talks_more c.args.self.plan.now c.args.self.retries (in_hand.stage c.args.stage) (in_hand.stage c.in-Cut.next) _ _ _ (Cut (in_hand.stage c.in-Cut.next)) c.from_stage-in-Cut.result
    (inr refl) c.in-Cut.ensures.visits
    (talks_with c.mended-in-Cut.result _ (in_hand.stage c.in-Cut.next) _ _ c.from_stage-in-Cut.result c.mended-in-Cut.ensures c.from_stage-in-Cut.ensures.talks)
