-- How a dialogue with a server ends.
use Rattle.std.proofs.Common.{◌≡◌, ℕ, true, refl, sym, ◌∙◌, List, Option}
use Rattle.ob_dialogue.specs.declared.plan.DialoguePlan.{DialoguePlan}
use Rattle.ob_dialogue.specs.Turns.{begins}
use Rattle.ob_dialogue.specs.Links.{TalksFrom, outside}
use Rattle.ob_dialogue.specs.Completes.{Completes}
use Rattle.ob_dialogue.specs.declared.ending.Ending.{Ending}
use Rattle.ob_dialogue.specs.declared.ending.Ending.TheVariants as endings
use Rattle.ob_io.specs.Faults.{Rose}
use Rattle.ob_program.specs.declared.exit.Exit.{Exit}
use Rattle.ob_program.specs.declared.exit.Exit.TheVariants as exits
use Rattle.ob_program.specs.Client.{exit_of_dialogue, ClientRan}
use Rattle.ob_program.specs.Outside.{Dialled}
use Rattle.ob_program.specs.Telling.{ErrorsTold, Tells}
use Rattle.ob_program.specs.Words.{dialogue_words}

link_failed : (ending : Ending) → exit_of_dialogue ending ≡ exits.LinkFault → ending ≡ endings.Link
link_failed endings.Done e = cc
link_failed endings.Link e = refl
link_failed (endings.Peer peer) e = cc
link_failed endings.Write e = cc
link_failed endings.Memory e = cc

write_failed : (ending : Ending) → exit_of_dialogue ending ≡ exits.WriteFault → ending ≡ endings.Write
write_failed endings.Done e = cc
write_failed endings.Link e = cc
write_failed (endings.Peer peer) e = cc
write_failed endings.Write e = refl
write_failed endings.Memory e = cc

-- the dialogue came to this ending, which is the exit
pub client_ran : (p : DialoguePlan) (held held' : Option (List ℕ)) (writes writes' : ℕ) (d d' : Dialled) (e e' : ErrorsTold) (ending : Ending) (exit : Exit) → exit ≡ exit_of_dialogue ending
    → TalksFrom p p.retries (begins p) (outside d.dials d.visits held) (outside d'.dials d'.visits held') ending
    → (ending ≡ endings.Link → Rose d.faults d'.faults × (d'.rose ≡ true)) → (ending ≡ endings.Write → Rose writes writes')
    → Completes p (begins p) d.visits d'.visits d.faults d'.faults writes writes' ending
    → Tells e e' exit (dialogue_words ending)
    → ClientRan p held held' writes writes' d d' e e' exit
client_ran p held held' writes writes' d d' e e' ending exit is talks link write complete says = record {
  ending = ending;
  exit_is = is;
  talks = talks;
  link = λ ended. link (link_failed ending (sym is ∙ ended));
  write = λ ended. write (write_failed ending (sym is ∙ ended));
  complete = complete;
  says = says;
}
