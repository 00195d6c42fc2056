use Rattle.std.proofs.Common.{arith, ◌≡◌, Option, Some, None, Ok, Err, refl, ap, sym, ◌∙◌, inl, inr, []}
use Rattle.std.specs.Prelude.{option_map}
use Rattle.ob_dialogue.specs.Plans.{DialoguePlan, Place, place_at}
use Rattle.ob_dialogue.specs.Stages.{Stage, Lobby}
use Rattle.ob_dialogue.specs.Turns.{begins}
use Rattle.ob_dialogue.specs.InHand as in_hand
use Rattle.ob_dialogue.specs.declared.ending.Peer.TheVariants as peer
use Rattle.ob_dialogue.proofs.CompleteLemmas.{completes_begun}
use Rattle.ob_dialogue.proofs.TalkLemmas.{talks_none}
use Rattle.ob_dialogue.proofs.driver.converse.Goals as goal

-- without a lobby a dialogue ends by shape
begins_none : (p : DialoguePlan) → None ≡ in_hand.lobby (place_at p.url []) → begins p ≡ Err peer.Shape
begins_none p is = of (place_at p.url []) refl
  where
    of : (o : Option Place) → place_at p.url [] ≡ o → begins p ≡ Err peer.Shape
    of None e = grind (arith, e)
    of (Some q) e = absurd (let wrong : None ≡ in_hand.lobby (Some q) = is ∙ ap in_hand.lobby e in cc)

-- with one it begins there
begins_some : (p : DialoguePlan) (s : Stage) → Some s ≡ in_hand.lobby (place_at p.url []) → begins p ≡ Ok s
begins_some p s is = of (place_at p.url []) refl
  where
    of : (o : Option Place) → place_at p.url [] ≡ o → begins p ≡ Ok s
    of None e = absurd (let wrong : Some s ≡ in_hand.lobby None = is ∙ ap in_hand.lobby e in cc)
    of (Some q) e = let same : Some s ≡ Some (Lobby q) = is ∙ ap in_hand.lobby e in grind (arith, e, same)

pub returns-in_default-clause-talks : goal.returns-in_default-clause-talks
returns-in_default-clause-talks g c = talks_none _ _ _ _ _ (inl refl)

pub returns-in-None-clause-talks : goal.returns-in-None-clause-talks
returns-in-None-clause-talks g c = talks_none _ _ _ _ _ (inr (refl, begins_none c.args.plan.now (sym (ap (λ o. option_map in_hand.stage o) c.in-None.is) ∙ c.in-Ok.ensures)))

pub returns-in-Some-clause-complete : goal.returns-in-Some-clause-complete
returns-in-Some-clause-complete g c =
    completes_begun c.completes.ensures c.args.plan.now c.args.plan.now.retries (begins c.args.plan.now) (Ok (in_hand.stage c.in-Some.stage))
    (g.W.Dialer.dials c.args.dialer.now) (g.W.Dialer.dials c.from_stage.new.dialer) (g.W.Dialer.visits c.args.dialer.now) (g.W.Dialer.visits c.from_stage.new.dialer)
    (g.K.Sink.held c.args.sink.now) (g.K.Sink.held c.from_stage.new.sink) c.from_stage.result
    (g.W.Dialer.faults c.args.dialer.now) (g.W.Dialer.faults c.from_stage.new.dialer) (g.K.Sink.faults c.args.sink.now) (g.K.Sink.faults c.from_stage.new.sink)
    (g.W.Dialer.rose c.from_stage.new.dialer)
    (begins_some c.args.plan.now (in_hand.stage c.in-Some.stage) (sym (ap (λ o. option_map in_hand.stage o) c.in-Some.is) ∙ c.in-Ok.ensures))
    c.from_stage.ensures.talks c.from_stage.ensures.link c.from_stage.ensures.sink
