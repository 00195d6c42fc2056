-- What a dialogue with a server comes to.
use Rattle.std.specs.Prelude.{◌≡◌, ℕ, true, List, Option}
use Rattle.ob_command.specs.declared.client.Watch.{Watch}
use Rattle.ob_command.specs.declared.client.Console.{Console}
use Rattle.ob_dialogue.specs.declared.plan.DialoguePlan.{DialoguePlan}
use Rattle.ob_dialogue.specs.declared.plan.Topic.TheVariants as topics
use Rattle.ob_dialogue.specs.Turns.{begins}
use Rattle.ob_dialogue.specs.Links.{TalksFrom, outside}
use Rattle.ob_dialogue.specs.Completes.{Completes}
use Rattle.ob_dialogue.specs.declared.ending.Ending.{Ending}
use Rattle.ob_dialogue.specs.declared.ending.Ending.TheVariants as endings
use Rattle.ob_io.specs.Faults.{Rose}
use Rattle.ob_program.specs.declared.exit.Exit.{Exit}
use Rattle.ob_program.specs.declared.exit.Exit.TheVariants as exits
use Rattle.ob_program.specs.Outside.{Dialled}
use Rattle.ob_program.specs.Telling.{ErrorsTold, Tells}
use Rattle.ob_program.specs.Words.{dialogue_words}

abbrev pub watched : Watch → DialoguePlan
watched watch = record { url = watch.url; topic = topics.Watch watch.hrefs.items; polls = watch.polls; retries = watch.retries }

abbrev pub alarms : Console → DialoguePlan
alarms console = record { url = console.url; topic = topics.Console console.subject console.ack console.user; polls = console.polls; retries = 0 }

abbrev pub exit_of_dialogue : Ending → Exit
exit_of_dialogue endings.Done = exits.Ok
exit_of_dialogue endings.Link = exits.LinkFault
exit_of_dialogue (endings.Peer peer) = exits.Peer
exit_of_dialogue endings.Write = exits.WriteFault
exit_of_dialogue endings.Memory = exits.Memory

-- The dialogue ended so, which is the exit. A link's fault comes only where the dialer's count rose, by its last call, and a
-- write fault where the sink's rose. A dialogue that was served ended with Ok or for want of memory, where no count rose. The ending is told on `errors`.
pub record ClientRan (p : DialoguePlan) (held held' : Option (List ℕ)) (writes writes' : ℕ) (d d' : Dialled) (e e' : ErrorsTold) (exit : Exit) : Type 0 where
  pub ending : Ending
  pub exit_is : exit ≡ exit_of_dialogue ending
  pub talks : TalksFrom p p.retries (begins p) (outside d.dials d.visits held) (outside d'.dials d'.visits held') ending
  pub link : exit ≡ exits.LinkFault → Rose d.faults d'.faults × (d'.rose ≡ true)
  pub write : exit ≡ exits.WriteFault → Rose writes writes'
  pub complete : Completes p (begins p) d.visits d'.visits d.faults d'.faults writes writes' ending
  pub says : Tells e e' exit (dialogue_words ending)
