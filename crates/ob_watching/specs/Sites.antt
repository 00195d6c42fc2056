-- A site as the watches see it, and what the laws of watches ask of it.
use Rattle.std.specs.Prelude.{◌≡◌, ℕ, ◌+◌, ◌^◌, ◌<◌, ◌≤◌, Bool, List, ◌++◌, length, drop, Result, ◌≢◌}
use Rattle.std.specs.List.{AllByRecursion}
use Rattle.std.specs.Bool.{Decides}
use Rattle.ob_watching.specs.Operations.{Operation, Remove, PollChanges, Target, Found, Shows, Lists, Refuses, ReadingOf, ReplyOf, Told, Out, Nil, Refused, HeardOf, Values, Nothing, Other, GivesOut}

-- A site apart from its watches: what its own requests do to it, and what can be watched in it.
pub record Site : Type 1 where
  pub State : Type 0
  pub Request : Type 0
  -- the site's own replies
  pub Reply : Type 0
  -- an href as it is asked, and what may stand beside it (the child `in`)
  pub Text : Type 0
  pub Input : Type 0
  pub Path : Type 0
  pub Filter : Type 0
  pub Object : Type 0
  pub Event : Type 0
  pub Fault : Type 0
  -- what a client holds of an err
  pub Err : Type 0
  -- the parts of a Watch that can be asked for: the Watch itself, its lease, its ops
  pub Part : Type 0
  pub whole : Part
  pub lease : Part
  -- whom a request is for, by its form alone
  pub target : Request → Target Text Input Part Fault
  -- what an asked href names, with what stands beside it, where the Watches of these numbers stand
  pub find : State → List ℕ → Text → Input → Found Path Filter Fault
  -- what the site's own request leaves, and its reply, where the Watches of these numbers stand, at a moment
  pub act : State → List ℕ → Request → ℕ → State × Reply
  -- what is left once every history has dropped its oldest records down to its capacity
  pub roll : State → State
  -- the object at a path, as a Watch reports it
  pub shown : State → Path → Object
  -- the events that the feed at a path keeps, the oldest first, and how many older ones have rolled off
  pub events : State → Path → List Event
  pub gone : State → Path → ℕ
  pub passes : Filter → Event → Bool
  -- the feed at a path, without events
  pub feed : Path → Object
  -- the lease that is asked for, in nanoseconds
  pub lease_asked : State → Input → Result ℕ Fault
  -- a refusal and a reply as they are sent, and what a client reads in the reply to an operation
  pub Sent : Type 0
  pub err : Fault → Err
  pub sent : ReplyOf Reply Part Text Object Event Err Fault → Sent
  pub heard : Operation Text Input Part Fault → Sent → HeardOf Text Object Event Err
  pub same_text : Text → Text → Bool
  -- how many bytes an asked href has
  pub size : Text → ℕ
  pub same : Object → Object → Bool
  -- BadUriErr: there is no such object
  pub not_found : Fault
  pub too_many_watches : Fault
  -- of one watch
  pub too_many_items : Fault
  -- of all watches together: their items, and the bytes of the hrefs of these
  pub too_many_in_all : Fault
  pub too_many_bytes : Fault

-- The feed at a path lost so many events, its oldest, and counts them.
pub record HasRolled (Event : Type 0) (gone left : ℕ) (before after : List Event) : Type 0 where
  pub lost : ℕ
  pub were_there : lost ≤ length before
  pub kept : after ≡ drop lost before
  pub counted : left ≡ gone + lost

-- What the laws of watches ask of a site.
pub record IsLawful (m : Site) : Type 1 where
  pub same_text : (a b : m.Text) → Decides (m.same_text a b) (a ≡ b)
  pub same : (a b : m.Object) → Decides (m.same a b) (a ≡ b)
  -- a WatchOut whose entries are readable in the reply to an operation is read back as it was made
  pub Readable : Operation m.Text m.Input m.Part m.Fault → ReadingOf m.Text m.Object m.Event m.Err → Type 0
  pub heard_out : (op : Operation m.Text m.Input m.Part m.Fault) → GivesOut op → (readings : List (ReadingOf m.Text m.Object m.Event m.Err)) → AllByRecursion (λ r. Readable op r) readings → m.heard op (m.sent (Out readings)) ≡ Values readings
  -- and all entries that a watch gives are readable, where each event of the site is such an event
  pub readable_object : (op : Operation m.Text m.Input m.Part m.Fault) (s : m.State) (text : m.Text) (path : m.Path) → Readable op (record { text = text; content = Shows (m.shown s path) })
  pub IsEvent : m.Event → Type 0
  pub events_are : (s : m.State) (path : m.Path) → AllByRecursion (λ e. IsEvent e) (m.events s path)
  pub readable_events : (op : Operation m.Text m.Input m.Part m.Fault) (text : m.Text) (path : m.Path) (events : List m.Event) → AllByRecursion (λ e. IsEvent e) events → Readable op (record { text = text; content = Lists (m.feed path) 0 events })
  -- in a pollChanges also those of a feed that dropped events
  pub readable_changes : (text : m.Text) (path : m.Path) (dropped : ℕ) (events : List m.Event) → AllByRecursion (λ e. IsEvent e) events → Readable PollChanges (record { text = text; content = Lists (m.feed path) dropped events })
  pub readable_fault : (op : Operation m.Text m.Input m.Part m.Fault) (fault : m.Fault) (text : m.Text) → Readable op (record { text = text; content = Refuses (m.err fault) })
  -- Nil tells that a remove was done, and an err is neither values nor that
  pub heard_nil : (texts : List m.Text) → m.heard (Remove texts) (m.sent Nil) ≡ Nothing
  pub heard_refused : (op : Operation m.Text m.Input m.Part m.Fault) (fault : m.Fault) → m.heard op (m.sent (Refused fault)) ≡ Other
  -- a Watch tells its number, and isn't an err
  pub told : (j k a b : ℕ) → j < 2 ^ 64 → k < 2 ^ 64 → m.sent (Told j a m.whole) ≡ m.sent (Told k b m.whole) → j ≡ k
  pub told_refused : (n lease : ℕ) (fault : m.Fault) → m.sent (Told n lease m.whole) ≢ m.sent (Refused fault)
  -- a request takes no event back and counts none as gone
  pub grows : (s : m.State) (numbers : List ℕ) (r : m.Request) (now : ℕ) (p : m.Path) → (more : List m.Event) × (m.events (m.act s numbers r now).0 p ≡ m.events s p ++ more)
  pub counts : (s : m.State) (numbers : List ℕ) (r : m.Request) (now : ℕ) (p : m.Path) → m.gone (m.act s numbers r now).0 p ≡ m.gone s p
  -- rolling drops the oldest events of a feed and counts them; where it was done it does nothing
  pub rolls : (s : m.State) (p : m.Path) → HasRolled m.Event (m.gone s p) (m.gone (m.roll s) p) (m.events s p) (m.events (m.roll s) p)
  pub rolls_once : (s : m.State) → m.roll (m.roll s) ≡ m.roll s
