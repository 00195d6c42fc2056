-- What the service of a link by a supervisor comes to.
use Rattle.std.specs.Prelude.{◌≡◌, ◌⊎◌, ℕ, List, [], map, Option, Some, None}
use Rattle.ob_io.specs.Dials.{Dial, Visit}
use Rattle.ob_io.specs.Links.{Inlet}
use Rattle.ob_object.specs.Object.{Object}
use Rattle.ob_machine.specs.declared.call.Answer.{Answer}
use Rattle.ob_machine.specs.declared.call.Answer.TheVariants.{Done, NoMemory}
use Rattle.ob_site_rules.specs.declared.request.Request.{Request as Framed}
use Rattle.ob_asking.specs.declared.request.Request.{Request}
use Rattle.ob_server.specs.Answered.{Serves}
use Rattle.ob_server.specs.Answering.{AreDone}
use Rattle.ob_server.specs.Exchange.{Call, had}
use Rattle.ob_server.specs.declared.end.LinkEnd.{LinkEnd}
use Rattle.ob_server.specs.declared.end.LinkEnd.TheVariants as ends
use Rattle.ob_super.specs.Upstreams.{Upstream}
use Rattle.ob_super.specs.Supervised.{Asked}
use Rattle.ob_super.specs.InHand.{Outside, outside, asked, upstreams, AnswersAll, SupervisesAll, RunsAll, StopsAll}
use Rattle.ob_super.specs.declared.state.Super.{Super}
use Rattle.ob_supervising.specs.declared.supervising.Supervising.{Supervising}

-- ---- calls

abbrev pub request_of : Framed → Request
request_of q = record { verb = q.verb; target = q.target; body = q.body }

abbrev pub reply_of : Answer Object → Option Object
reply_of (Done reply) = Some reply
reply_of NoMemory = None

-- what was asked in a call
abbrev pub asked_in : Call → Asked
asked_in call = asked (request_of call.request) (reply_of call.answer)

abbrev pub all_asked : List Call → List Asked
all_asked calls = map asked_in calls

-- ---- one call

-- A supervisor with what it dials made this of it in a call.
module _ {L W : Type 0} (left taken held : L → Option (List ℕ)) (dials : W → Option (List Dial)) (visits : W → Option (List Visit)) where
  abbrev pub told_by : W → Outside
  told_by w = outside (dials w) (visits w)

  abbrev pub Asks : Supervising L × W → Supervising L × W → Call → Type 0
  Asks before after call =
      (upstreams after.0.upstreams.followed.items ≡ upstreams before.0.upstreams.followed.items)
      × AnswersAll left taken held (told_by before.1) (told_by after.1) before.0.upstreams after.0.upstreams (request_of call.request) (reply_of call.answer)

module _ {L : Type 0} (left taken held : L → Option (List ℕ)) where
  -- A link's requests were answered by a supervisor, from the one to the other of what it follows.
  pub record AnswersLink (before after : Outside) (old new : Super L) (link link' : Inlet) (sent sent' : Option (List ℕ)) (end : LinkEnd) : Type 0 where
    pub calls : List Call
    pub given : Option (List ℕ)
    pub serves : Serves None link link' (had sent (Some []) []) (had sent' given calls) end
    pub memory : (end ≡ ends.Memory) ⊎ AreDone calls
    pub same : upstreams new.followed.items ≡ upstreams old.followed.items
    pub supervises : SupervisesAll left taken held before after old new (all_asked calls)

-- ---- a link

-- Behind so many rounds its requests were answered by the replies of a supervisor of these upstreams, whose moments count from 0 and
-- are not told, and at the end every link to them came back. A call without a reply ends it for want of memory.
pub record ServesSupervised (us : List Upstream) (rounds : ℕ) (before after : Outside) (link link' : Inlet) (held held' : Option (List ℕ)) (end : LinkEnd) : Type 0 where
  pub calls : List Call
  pub given : Option (List ℕ)
  pub serves : Serves None link link' (had held (Some []) []) (had held' given calls) end
  pub memory : (end ≡ ends.Memory) ⊎ AreDone calls
  pub runs : RunsAll before after us rounds (all_asked calls)

-- Memory was wanting in those rounds: nothing was taken from the link or written to it, and every link to the upstreams came back.
pub record ServesNone (us : List Upstream) (rounds : ℕ) (before after : Outside) (link link' : Inlet) (held held' : Option (List ℕ)) (end : LinkEnd) : Type 0 where
  pub memory : end ≡ ends.Memory
  pub link_is : link' ≡ link
  pub held_is : held' ≡ held
  pub stops : StopsAll before after us rounds

abbrev pub SupervisesLink : List Upstream → ℕ → Outside → Outside → Inlet → Inlet → (held held' : Option (List ℕ)) → LinkEnd → Type 0
SupervisesLink us rounds before after link link' held held' end =
    ServesSupervised us rounds before after link link' held held' end ⊎ ServesNone us rounds before after link link' held held' end
