-- What a dialogue does to its links and to what it prints on, and how it ends.
use Rattle.std.specs.Prelude.{◌≡◌, ◌≢◌, ◌⊎◌, ℕ, ◌+◌, ◌-◌, ◌<◌, Bool, true, false, cond, List, [], ◌∷◌, length, Option, IsSome, Ok, Err}
use Rattle.ob_io.specs.Dials.{Dial, Visit}
use Rattle.ob_io.specs.Told.{Gains, IsFront}
use Rattle.ob_object.specs.Object.{Object}
use Rattle.ob_http.specs.Reply.{Response}
-- the texts of requests, and the objects of replies
pub use Rattle.ob_asking.specs.Wires.{texts, AreReplies}
use Rattle.ob_asking.specs.Wires.{ComesWith, ComesRefused, GoesWrong, EndsThere, Comes}
use Rattle.ob_dialogue.specs.Plans.{DialoguePlan, host_of, port_in, host_field}
use Rattle.ob_dialogue.specs.Stages.{Over}
use Rattle.ob_dialogue.specs.Turns.{Reached, Turn, on_links, asked, after, IsAsking, AreAnswers, polls, resumed, lines}
use Rattle.ob_dialogue.specs.declared.ending.Peer.TheVariants as peer
use Rattle.ob_dialogue.specs.declared.ending.Ending.{Ending}
use Rattle.ob_dialogue.specs.declared.ending.Ending.TheVariants as ending

-- ---- bytes of a link

-- why no object comes behind these replies of the bytes, where the ending says so
abbrev pub HasNext : List ℕ → List Response → Ending → Type 0
HasNext bytes rs (ending.Peer (peer.Status n)) = ComesWith bytes rs n
HasNext bytes rs (ending.Peer (peer.Document f)) = ComesRefused bytes rs f
HasNext bytes rs (ending.Peer (peer.Frame f)) = GoesWrong bytes rs f
HasNext bytes rs (ending.Peer peer.Ended) = EndsThere bytes rs
HasNext bytes rs _ = Unit {0}

-- the objects are those of the bytes' first replies, behind these that were taken before, and the ending is told by what follows
abbrev pub Came : List ℕ → List Response → List Object → Ending → Type 0
Came bytes before replies e = Comes bytes before replies (λ b rs. HasNext b rs e)

-- ---- one link

-- how far the dialogue had come where it ended so: a fault of the link, and what is no reply's object, only where a request was
-- asked
abbrev pub EndsAt : Reached → Ending → Type 0
EndsAt at ending.Done = at ≡ Ok Over
EndsAt at (ending.Peer (peer.Err o)) = at ≡ Err (peer.Err o)
EndsAt at (ending.Peer peer.Shape) = at ≡ Err peer.Shape
EndsAt at (ending.Peer (peer.Status n)) = IsAsking at
EndsAt at (ending.Peer (peer.Document f)) = IsAsking at
EndsAt at (ending.Peer (peer.Frame f)) = IsAsking at
EndsAt at (ending.Peer peer.Ended) = IsAsking at
EndsAt at ending.Link = IsAsking at
EndsAt at ending.Write = Unit {0}
EndsAt at ending.Memory = Unit {0}

-- the link broke before a reply came
abbrev pub is_break : Ending → Bool
is_break ending.Link = true
is_break (ending.Peer peer.Ended) = true
is_break _ = false

-- all lines of the replies that came were printed
abbrev pub is_printed : Ending → Bool
is_printed ending.Write = false
is_printed ending.Memory = false
is_printed _ = true

-- a link that came back: what was written to it and taken from it, and its faults
pub record IsLink (p : DialoguePlan) (at : Reached) (replies : List Object) (e : Ending) (v : Visit) : Type 0 where
  pub front : IsFront v.written (texts (host_field p.url) (asked p at replies))
  pub whole : e ≡ ending.Done → v.written ≡ texts (host_field p.url) (asked p at replies)
  pub came : Came v.taken [] replies e
  pub at_end : e ≡ ending.Peer peer.Ended → v.left ≡ []
  pub failed : e ≡ ending.Link → (v.reads ≢ 0) ⊎ (v.writes ≢ 0)

-- the last link
pub record IsLast (Told : Type 0) (p : DialoguePlan) (retries : ℕ) (at : Reached) (replies : List Object) (v : Visit) (e : Ending) : Type 0 where
  pub answered : AreAnswers p at replies
  pub ends : EndsAt (after p at replies) e
  -- a poll is broken for good only where no more are to be mended
  pub spent : is_break e ≡ true → polls (after p at replies) ≡ true → retries ≡ 0
  pub link : Told → IsLink p at replies e v

-- a link on which a poll was broken that is mended on the next one
pub record IsMended (Told : Type 0) (p : DialoguePlan) (retries : ℕ) (at : Reached) (replies : List Object) (v : Visit) : Type 0 where
  pub some : 0 < retries
  pub answered : AreAnswers p at replies
  pub polled : polls (after p at replies) ≡ true
  pub link : Told → IsLink p at replies ending.Link v ⊎ IsLink p at replies (ending.Peer peer.Ended) v

-- no link was had: a dial failed, or there was no memory, or the URL leads nowhere
abbrev pub HasNoLink : Reached → List Object → Ending → Type 0
HasNoLink at replies e =
    (replies ≡ []) × ((e ≡ ending.Link) ⊎ ((e ≡ ending.Memory) ⊎ ((e ≡ ending.Peer peer.Shape) × (at ≡ Err peer.Shape))))

-- ---- all links

-- These replies came on these links, of which each but the last broke at a poll, so many of which are mended. A last one may
-- be lacking.
abbrev pub AreLinks : Type 0 → DialoguePlan → ℕ → Reached → List (List Object) → List Visit → Ending → Type 0
AreLinks Told p retries at (os ∷ []) [] e = HasNoLink at os e
AreLinks Told p retries at (os ∷ []) (v ∷ []) e = IsLast Told p retries at os v e
AreLinks Told p retries at (os ∷ (ps ∷ links)) (v ∷ vs) e =
    IsMended Told p retries at os v × AreLinks Told p (retries - 1) (resumed (after p at os)) (ps ∷ links) vs e
AreLinks Told p retries at _ _ e = ⊥

-- each dial is of the URL's host and port
abbrev pub AreOf : DialoguePlan → List Dial → Type 0
AreOf p [] = Unit {0}
AreOf p (d ∷ ds) = ((d.host ≡ host_of p.url) × (d.port ≡ port_in p.url)) × AreOf p ds

abbrev pub counted : Bool → ℕ → ℕ
counted failed n = cond failed n (n + 1)

-- how many dials gave a link
abbrev pub dialled : List Dial → ℕ
dialled [] = 0
dialled (d ∷ ds) = counted d.failed (dialled ds)

-- What a dialogue from here on did, of which so many broken polls may be mended: `before` and `after` are what the dialer
-- and the sink told.
pub record Outside : Type 0 where
  pub dials : Option (List Dial)
  pub visits : Option (List Visit)
  pub held : Option (List ℕ)

pub record TalksFrom (p : DialoguePlan) (retries : ℕ) (at : Reached) (old new : Outside) (e : Ending) : Type 0 where
  -- the turns that were had
  pub turns : List Turn
  -- the links that came back, as many as were dialled, each at the URL's host and port
  pub visits : List Visit
  pub dials : List Dial
  pub back : Gains old.visits visits new.visits
  pub dialled_are : Gains old.dials dials new.dials
  pub places : AreOf p dials
  pub all_back : dialled dials ≡ length visits
  pub are : AreLinks (IsSome new.visits) p retries at (on_links turns) visits e
  -- what was printed is a front of the lines; it is all of them but where the sink failed or memory was wanting
  pub text : List ℕ
  pub printed : Gains old.held text new.held
  pub front : IsFront text (lines p at (on_links turns))
  pub whole : is_printed e ≡ true → text ≡ lines p at (on_links turns)

abbrev pub outside : Option (List Dial) → Option (List Visit) → Option (List ℕ) → Outside
outside dials visits held = record { dials = dials; visits = visits; held = held }
