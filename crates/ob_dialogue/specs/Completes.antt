-- When a dialogue has to come to its end.
use Rattle.std.specs.Prelude.{◌≡◌, ◌⊎◌, ℕ, List, [], ◌∷◌, ◌++◌, IsSome, Option, Ok}
use Rattle.ob_io.specs.Dials.{Visit}
use Rattle.ob_io.specs.Faults.{Rose}
use Rattle.ob_io.specs.Told.{Gains}
use Rattle.ob_object.specs.Object.{Object}
use Rattle.ob_http.specs.Reply.{Response}
use Rattle.ob_http.specs.Replies.{Replied}
use Rattle.ob_http.specs.Stream.{End}
use Rattle.ob_dialogue.specs.Plans.{DialoguePlan}
use Rattle.ob_dialogue.specs.Stages.{Over}
use Rattle.ob_dialogue.specs.Turns.{Reached, after, IsAsking}
use Rattle.ob_dialogue.specs.Links.{AreReplies, Outside, TalksFrom}
use Rattle.ob_dialogue.specs.declared.ending.Ending.{Ending}
use Rattle.ob_dialogue.specs.declared.ending.Ending.TheVariants as ending

-- The bytes are framed as replies of which the first lead the dialogue from here to its end: each has the status 200 and spells
-- an object; none is an err; and each child, href, entry and alarm that is needed is there, since what they give isn't `shape`.
pub record LeadOn (p : DialoguePlan) (at : Reached) (bytes : List ℕ) : Type 0 where
  pub first : List Response
  pub later : List Response
  pub end : End
  pub framed : Replied bytes (first ++ later) end
  pub replies : List Object
  pub are : AreReplies first replies
  pub over : after p at replies ≡ Ok Over

-- The first link that came back had such bytes, taken from it or left in it, and no fault. Where none came back there is
-- something to be asked.
abbrev pub AreServed : DialoguePlan → Reached → List Visit → Type 0
AreServed p at [] = IsAsking at
AreServed p at (v ∷ vs) = LeadOn p at (v.taken ++ v.left) × (v.reads ≡ 0) × (v.writes ≡ 0)

-- Where no count of dialer or sink rose, and what the dialer tells shows that it was served, the dialogue came to its end, but
-- for want of memory.
abbrev pub Completes : DialoguePlan → Reached → (old new : Option (List Visit)) → (dials dials' writes writes' : ℕ) → Ending → Type 0
Completes p at old new dials dials' writes writes' e =
    IsSome new → (Rose dials dials' → ⊥) → (Rose writes writes' → ⊥) →
    (visits : List Visit) → Gains old visits new → AreServed p at visits → (e ≡ ending.Done) ⊎ (e ≡ ending.Memory)

-- It follows from what a dialogue does, and from the causes of its faults.
abbrev pub DialoguesComplete : Type 0
DialoguesComplete = (p : DialoguePlan) (retries : ℕ) (at : Reached) (old new : Outside) (e : Ending)
    (dials dials' writes writes' : ℕ) →
    TalksFrom p retries at old new e → (e ≡ ending.Link → Rose dials dials') → (e ≡ ending.Write → Rose writes writes') →
    Completes p at old.visits new.visits dials dials' writes writes' e
