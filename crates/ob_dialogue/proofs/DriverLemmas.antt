-- What a link that was dialled and given back shows.
use Rattle.std.proofs.Common.{◌≡◌, ◌⊎◌, ℕ, Bool, false, List, [], ◌∷◌, Option, Ok, sym, subst}
use Rattle.std.specs.Prelude.{IsSome}
use Rattle.ob_io.specs.Dials.{Dial, Visit, IsVisit}
use Rattle.ob_io.specs.Faults.{Rose}
use Rattle.ob_io.specs.Links.{IsFresh}
use Rattle.ob_io.specs.Told.{Gains}
use Rattle.ob_http.specs.Replies.{AreTaken}
use Rattle.ob_watching.specs.WatchOuts.{Text}
use Rattle.ob_dialogue.specs.Plans.{DialoguePlan, host_of, port_in, host_field}
use Rattle.ob_dialogue.specs.Stages.{Stage}
use Rattle.ob_dialogue.specs.Links.{outside}
use Rattle.ob_dialogue.specs.Legs.{Pause, ending_of, Had, Leg, Visits}
use Rattle.ob_dialogue.specs.declared.ending.Ending.TheVariants as ending
use Rattle.ob_dialogue.proofs.TalkLemmas.{is_link, visits_had}

-- the dialogue on a link to this host, which was given back
pub visits_link : (p : DialoguePlan) (mends : Bool) (s : Stage) (host : Text) (dials dialled dials' : Option (List Dial)) (visits mid visits' : Option (List Visit)) (h i : Had) (pause : Pause) (d : Dial) (v : Visit)
    (reads writes reads' writes' : ℕ) → host ≡ host_field p.url → Leg p host mends (Ok s) h i pause
    → IsFresh h.inlet.taken h.sent reads writes → AreTaken [] [] h.kept
    → (ending_of pause ≡ ending.Link → Rose reads reads' ⊎ Rose writes writes')
    → (IsSome visits' → IsVisit v i.inlet.left i.inlet.taken i.sent reads' writes')
    → Gains dials (d ∷ []) dialled → dials' ≡ dialled → d.failed ≡ false → d.host ≡ host_of p.url → d.port ≡ port_in p.url → mid ≡ visits → Gains mid (v ∷ []) visits'
    → Visits p mends s (outside dials visits h.printed) (outside dials' visits' i.printed) pause
visits_link p mends s host dials dialled dials' visits mid visits' h i pause d v reads writes reads' writes' is leg fresh kept link visit gained apart given at port same back =
    let leg' : Leg p (host_field p.url) mends (Ok s) h i pause = subst (λ (x : Text). Leg p x mends (Ok s) h i pause) is leg in
    visits_had p mends s dials dials' visits mid visits' h i pause d v leg'
    (λ told. is_link p mends (Ok s) h i pause leg' reads writes reads' writes' fresh kept link v (visit told))
    (subst (λ (x : Option (List Dial)). Gains dials (d ∷ []) x) (sym apart) gained) given at port same back
