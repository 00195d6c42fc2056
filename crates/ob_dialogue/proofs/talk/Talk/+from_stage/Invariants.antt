use Rattle.ob_dialogue.proofs.talk.Talk.+from_stage.Given as goal

abbrev pub decreases-from_stage : goal.decreases-from_stage
decreases-from_stage g l = l.self.retries
