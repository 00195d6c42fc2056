-- A dialogue on one link, put together from its turns.
use Rattle.std.proofs.Common.{◌≡◌, ◌⊎◌, ℕ, Bool, true, false, List, [], ◌∷◌, ◌++◌, Option, Some, None, Ok, Err, refl, sym, ap, subst, ◌∙◌, append_assoc, append-nil, inl, inr}
use Rattle.std.specs.Prelude.{is_some}
use Rattle.ob_io.specs.Links.{Inlet, Takes, Takes-none, Takes-then}
use Rattle.ob_io.specs.Told.{Gains, IsFront, Gains-none, Gains-then}
use Rattle.ob_object.specs.Object.{Object}
use Rattle.ob_http.specs.Reply.{Response}
use Rattle.ob_http.specs.Replies.{AreFirstReplies, AreTaken}
use Rattle.ob_watching.specs.WatchOuts.{Text}
use Rattle.ob_client.specs.Sessions.{Answers, Asks, Reads}
use Rattle.ob_client.specs.declared.call_fault.CallFault.{CallFault}
use Rattle.ob_client.proofs.SessionLemmas.{never}
use Rattle.ob_client.specs.declared.call_fault.CallFault.TheVariants as fault
use Rattle.ob_asking.specs.Wires.{text_of}
use Rattle.ob_asking.proofs.WireLemmas.{front_along, front_behind, first_of_taken, first_more, whole_sent}
use Rattle.ob_dialogue.specs.Plans.{DialoguePlan, Request}
use Rattle.ob_dialogue.specs.Stages.{Stage, Over, Lobby, Service, Make, Subject, Adding, Acking, Polling, Mending, Deleting, request_at}
use Rattle.ob_dialogue.specs.Taking.{taken}
use Rattle.ob_dialogue.specs.Turns.{Reached, asked, shown, after, IsAsking, AreAnswers, with_request}
use Rattle.ob_dialogue.specs.Links.{texts, HasNext, Came, EndsAt, is_break, is_printed}
use Rattle.ob_dialogue.specs.Legs.{Pause, Ended, ending_of, ended_by, Goes, Had, Leg}
use Rattle.ob_dialogue.specs.declared.ending.Peer.TheVariants as peer
use Rattle.ob_dialogue.specs.declared.ending.Ending.{Ending}
use Rattle.ob_dialogue.specs.declared.ending.Ending.TheVariants as ending

-- ---- fronts

pub none_front : {A : Type 0} (xs : List A) → IsFront [] xs
none_front xs = (xs, refl)

-- ---- what is asked and printed

pub shown_none : (p : DialoguePlan) (at : Reached) → shown p at [] ≡ []
shown_none p (Ok s) = refl
shown_none p (Err e) = refl

pub answers_none : (p : DialoguePlan) (at : Reached) → AreAnswers p at []
answers_none p (Ok s) = tt
answers_none p (Err e) = tt

pub after_none : (p : DialoguePlan) (at : Reached) → after p at [] ≡ at
after_none p (Ok s) = refl
after_none p (Err e) = refl

pub texts_asked : (host : Text) (r : Option Request) (q : Request) (qs : List Request) → r ≡ Some q → texts host (with_request r qs) ≡ text_of host q ++ texts host qs
texts_asked host r q qs is = ap (λ x. texts host (with_request x qs)) is

-- ---- endings

next_of : (stream : List ℕ) (rs : List Response) (kept : List ℕ) (f : CallFault) → Answers stream rs kept (Err f) → HasNext stream rs (ended_by f)
next_of stream rs kept fault.Link a = tt
next_of stream rs kept (fault.PeerStatus n) (r, taken, gives) = (r, taken.0, gives.0, gives.1)
next_of stream rs kept (fault.PeerDocument f) (r, taken, gives) = (r, taken.0, gives.0, gives.1)
next_of stream rs kept (fault.PeerFrame f) a = a
next_of stream rs kept fault.Ended a = (kept, a)
next_of stream rs kept fault.Dead a = tt
next_of stream rs kept fault.Memory a = tt

ends_of : (s : Stage) (f : CallFault) → IsAsking (Ok s) → EndsAt (Ok s) (ended_by f)
ends_of s fault.Link asks = asks
ends_of s (fault.PeerStatus n) asks = asks
ends_of s (fault.PeerDocument f) asks = asks
ends_of s (fault.PeerFrame f) asks = asks
ends_of s fault.Ended asks = asks
ends_of s fault.Dead asks = tt
ends_of s fault.Memory asks = tt

not_done : (f : CallFault) → ended_by f ≡ ending.Done → ⊥
not_done fault.Link e = let g : ending.Link ≡ ending.Done = e in cc
not_done (fault.PeerStatus n) e = let g : ending.Peer (peer.Status n) ≡ ending.Done = e in cc
not_done (fault.PeerDocument f) e = let g : ending.Peer (peer.Document f) ≡ ending.Done = e in cc
not_done (fault.PeerFrame f) e = let g : ending.Peer (peer.Frame f) ≡ ending.Done = e in cc
not_done fault.Ended e = let g : ending.Peer peer.Ended ≡ ending.Done = e in cc
not_done fault.Dead e = let g : ending.Memory ≡ ending.Done = e in cc
not_done fault.Memory e = let g : ending.Memory ≡ ending.Done = e in cc

only_ended : (f : CallFault) → ended_by f ≡ ending.Peer peer.Ended → f ≡ fault.Ended
only_ended fault.Link e = absurd (let g : ending.Link ≡ ending.Peer peer.Ended = e in cc)
only_ended (fault.PeerStatus n) e = absurd (let g : ending.Peer (peer.Status n) ≡ ending.Peer peer.Ended = e in cc)
only_ended (fault.PeerDocument f) e = absurd (let g : ending.Peer (peer.Document f) ≡ ending.Peer peer.Ended = e in cc)
only_ended (fault.PeerFrame f) e = absurd (let g : ending.Peer (peer.Frame f) ≡ ending.Peer peer.Ended = e in cc)
only_ended fault.Ended e = refl
only_ended fault.Dead e = absurd (let g : ending.Memory ≡ ending.Peer peer.Ended = e in cc)
only_ended fault.Memory e = absurd (let g : ending.Memory ≡ ending.Peer peer.Ended = e in cc)

-- nothing follows the replies that the ending speaks of
abbrev IsQuiet : Ending → Type 0
IsQuiet e = (stream : List ℕ) (rs : List Response) → HasNext stream rs e

abbrev not_the_end : Ending → Type 0
not_the_end e = e ≡ ending.Peer peer.Ended → ⊥

pub came_none : (stream more : List ℕ) (before : List Response) (kept : List ℕ) (e : Ending) → AreTaken stream before kept → HasNext (stream ++ more) before e → Came (stream ++ more) before [] e
came_none stream more before kept e t next = record {
  rs = [];
  are = tt;
  first = subst (λ (rs : List Response). AreFirstReplies (stream ++ more) rs) (sym (append-nil before)) (first_more stream more before (first_of_taken stream before kept t));
  next = subst (λ (rs : List Response). HasNext (stream ++ more) rs e) (sym (append-nil before)) next;
}

-- ---- one link

-- the dialogue ends without a further call
still : (p : DialoguePlan) (host : Text) (mends : Bool) (at : Reached) (h : Had) (e : Ending) → (e ≡ ending.Done → [] ≡ texts host (asked p at []))
    → EndsAt at e → (is_break e ≡ true → ⊥) → IsQuiet e → not_the_end e → Leg p host mends at h h (Ended e)
still p host mends at h e whole ends unbroken quiet going = record {
  replies = [];
  written = [];
  wrote = Gains-none h.sent;
  front = none_front (texts host (asked p at []));
  whole = whole;
  text = [];
  printed = Gains-none h.printed;
  begun = none_front (shown p at []);
  all = λ _. sym (shown_none p at);
  taken = [];
  takes = Takes-none h.inlet;
  came = λ stream before t. came_none stream [] before h.kept e t (quiet (stream ++ []) before);
  answered = answers_none p at;
  ends = subst (λ (x : Reached). EndsAt x e) (sym (after_none p at)) ends;
  goes = λ b. absurd (unbroken b);
  at_end = λ f. absurd (going f);
}

pub leg_memory : (p : DialoguePlan) (host : Text) (mends : Bool) (at : Reached) (h : Had) → Leg p host mends at h h (Ended ending.Memory)
leg_memory p host mends at h =
    still p host mends at h ending.Memory (λ e. absurd (let g : ending.Memory ≡ ending.Done = e in cc)) tt (λ b. never b) (λ stream rs. tt)
    (λ e. let g : ending.Memory ≡ ending.Peer peer.Ended = e in cc)

over_of : (s : Stage) → request_at s ≡ None → s ≡ Over
over_of Over e = refl
over_of (Lobby a) e = never (sym (ap is_some e))
over_of (Service a) e = never (sym (ap is_some e))
over_of (Make a) e = never (sym (ap is_some e))
over_of (Subject o a) e = never (sym (ap is_some e))
over_of (Adding w) e = never (sym (ap is_some e))
over_of (Acking w t b) e = never (sym (ap is_some e))
over_of (Polling w) e = never (sym (ap is_some e))
over_of (Mending w) e = never (sym (ap is_some e))
over_of (Deleting w) e = never (sym (ap is_some e))

pub leg_done : (p : DialoguePlan) (host : Text) (mends : Bool) (s : Stage) (h : Had) → request_at s ≡ None → Leg p host mends (Ok s) h h (Ended ending.Done)
leg_done p host mends s h none =
    still p host mends (Ok s) h ending.Done (λ e. sym (ap (λ r. texts host (with_request r [])) none)) (ap (λ (x : Stage). let at : Reached = Ok x in at) (over_of s none)) (λ b. never b) (λ stream rs. tt)
    (λ e. let g : ending.Done ≡ ending.Peer peer.Ended = e in cc)

-- a reply is an err, or of a wrong form
pub leg_err : (p : DialoguePlan) (host : Text) (mends : Bool) (o : Object) (h : Had) → Leg p host mends (Err (peer.Err o)) h h (Ended (ending.Peer (peer.Err o)))
leg_err p host mends o h =
    still p host mends (Err (peer.Err o)) h (ending.Peer (peer.Err o)) (λ e. refl) refl (λ b. never b) (λ stream rs. tt)
    (λ e. let g : ending.Peer (peer.Err o) ≡ ending.Peer peer.Ended = e in cc)

pub leg_shape : (p : DialoguePlan) (host : Text) (mends : Bool) (h : Had) → Leg p host mends (Err peer.Shape) h h (Ended (ending.Peer peer.Shape))
leg_shape p host mends h =
    still p host mends (Err peer.Shape) h (ending.Peer peer.Shape) (λ e. refl) refl (λ b. never b) (λ stream rs. tt)
    (λ e. let g : ending.Peer peer.Shape ≡ ending.Peer peer.Ended = e in cc)

-- a call gave no object
pub leg_fault : (p : DialoguePlan) (host : Text) (mends : Bool) (s : Stage) (q : Request) (h i : Had) (f : CallFault) (pause : Pause) → request_at s ≡ Some q
    → Asks {T = Object} h.sent i.sent (text_of host q) (Err f) → Reads Answers h.inlet i.inlet h.kept i.kept (Err f) → i.printed ≡ h.printed
    → ending_of pause ≡ ended_by f → Goes mends (Ok s) pause → Leg p host mends (Ok s) h i pause
leg_fault p host mends s q h i f pause is asks reads quiet ends goes = record {
  replies = [];
  written = asks.sent;
  wrote = asks.gained;
  front = subst (λ (all : List ℕ). IsFront asks.sent all) (sym (texts_asked host (request_at s) q [] is)) (front_along asks.sent (text_of host q) [] asks.front);
  whole = λ e. absurd (not_done f (sym ends ∙ e));
  text = [];
  printed = subst (λ (x : Option (List ℕ)). Gains h.printed [] x) (sym quiet) (Gains-none h.printed);
  begun = none_front [];
  all = λ _. refl;
  taken = reads.taken;
  takes = reads.takes;
  came = λ stream before t. came_none stream reads.taken before h.kept (ending_of pause) t
      (subst (λ (e : Ending). HasNext (stream ++ reads.taken) before e) (sym ends) (next_of (stream ++ reads.taken) before i.kept f (reads.tells stream before t)));
  answered = tt;
  ends = subst (λ (e : Ending). EndsAt (Ok s) e) (sym ends) (ends_of s f (ap is_some is));
  goes = goes;
  at_end = λ e. reads.ended (only_ended f (sym ends ∙ e));
}

-- a call gave an object, and more was had behind it
came_more : (stream first more : List ℕ) (before : List Response) (kept : List ℕ) (o : Object) (os : List Object) (e : Ending)
    → Answers (stream ++ first) before kept (Ok o)
    → ((s : List ℕ) (b : List Response) → AreTaken s b kept → Came (s ++ more) b os e) → Came (stream ++ (first ++ more)) before (o ∷ os) e
came_more stream first more before kept o os e (r, taken, gives) rest =
    let c = rest (stream ++ first) (before ++ r ∷ []) taken.1 in
    let bytes : (stream ++ first) ++ more ≡ stream ++ (first ++ more) = append_assoc stream first more in
    let all : (before ++ r ∷ []) ++ c.rs ≡ before ++ (r ∷ c.rs) = append_assoc before (r ∷ []) c.rs in
    record {
      rs = r ∷ c.rs;
      are = (gives, c.are);
      first = subst (λ (b : List ℕ). AreFirstReplies b (before ++ (r ∷ c.rs))) bytes (subst (λ (l : List Response). AreFirstReplies ((stream ++ first) ++ more) l) all c.first);
      next = subst (λ (b : List ℕ). HasNext b (before ++ (r ∷ c.rs)) e) bytes (subst (λ (l : List Response). HasNext ((stream ++ first) ++ more) l e) all c.next);
    }

-- a whole turn, and what the link had behind it
pub leg_more : (p : DialoguePlan) (host : Text) (mends : Bool) (s : Stage) (q : Request) (o : Object) (h i j k : Had) (pause : Pause) (next : Reached) (lines : List ℕ) → request_at s ≡ Some q
    → Asks h.sent i.sent (text_of host q) (Ok o) → Reads Answers h.inlet i.inlet h.kept i.kept (Ok o)
    → (taken p s o).next ≡ next → (taken p s o).lines ≡ lines → Gains h.printed lines j.printed → j.sent ≡ i.sent → j.inlet ≡ i.inlet → j.kept ≡ i.kept
    → Leg p host mends next j k pause → Leg p host mends (Ok s) h k pause
leg_more p host mends s q o h i j k pause next lines is asks reads is_next is_lines printed sent inlet kept leg =
    let whole : asks.sent ≡ text_of host q = whole_sent asks.sent (text_of host q) o asks.whole in
    let qs = asked p next leg.replies in
    let same_asked : texts host (asked p (Ok s) (o ∷ leg.replies)) ≡ text_of host q ++ texts host qs =
    texts_asked host (request_at s) q (asked p (taken p s o).next leg.replies) is ∙ ap (λ (at : Reached). text_of host q ++ texts host (asked p at leg.replies)) is_next in
    let same_shown : shown p (Ok s) (o ∷ leg.replies) ≡ lines ++ shown p next leg.replies =
    ap (λ (l : List ℕ). l ++ shown p (taken p s o).next leg.replies) is_lines ∙ ap (λ (at : Reached). lines ++ shown p at leg.replies) is_next in
    let same_after : after p next leg.replies ≡ after p (Ok s) (o ∷ leg.replies) = ap (λ (at : Reached). after p at leg.replies) (sym is_next) in
    record {
      replies = o ∷ leg.replies;
      written = asks.sent ++ leg.written;
      wrote = Gains-then h.sent i.sent k.sent asks.sent leg.written asks.gained (subst (λ (x : Option (List ℕ)). Gains x leg.written k.sent) sent leg.wrote);
      front = subst (λ (all : List ℕ). IsFront (asks.sent ++ leg.written) all) (sym same_asked)
          (subst (λ (t : List ℕ). IsFront (t ++ leg.written) (text_of host q ++ texts host qs)) (sym whole) (front_behind (text_of host q) leg.written (texts host qs) leg.front));
      whole = λ e. ap (λ (t : List ℕ). t ++ leg.written) whole ∙ ap (λ (t : List ℕ). text_of host q ++ t) (leg.whole e) ∙ sym same_asked;
      text = lines ++ leg.text;
      printed = Gains-then h.printed j.printed k.printed lines leg.text printed leg.printed;
      begun = subst (λ (all : List ℕ). IsFront (lines ++ leg.text) all) (sym same_shown) (front_behind lines leg.text (shown p next leg.replies) leg.begun);
      all = λ b. ap (λ (t : List ℕ). lines ++ t) (leg.all b) ∙ sym same_shown;
      taken = reads.taken ++ leg.taken;
      takes = Takes-then h.inlet i.inlet k.inlet reads.taken leg.taken reads.takes (subst (λ (x : Inlet). Takes x k.inlet leg.taken) inlet leg.takes);
      came = λ stream before t. came_more stream reads.taken leg.taken before i.kept o leg.replies (ending_of pause) (reads.tells stream before t)
          (λ x b u. leg.came x b (subst (λ (y : List ℕ). AreTaken x b y) (sym kept) u));
      answered = (ap is_some is, subst (λ (at : Reached). AreAnswers p at leg.replies) (sym is_next) leg.answered);
      ends = subst (λ (at : Reached). EndsAt at (ending_of pause)) same_after leg.ends;
      goes = subst (λ (at : Reached). Goes mends at pause) same_after leg.goes;
      at_end = leg.at_end;
    }

-- a call gave an object, and no more than a front of what it gives was printed
pub leg_cut : (p : DialoguePlan) (host : Text) (mends : Bool) (s : Stage) (q : Request) (o : Object) (h i j : Had) (e : Ending) (text : List ℕ) → request_at s ≡ Some q
    → Asks h.sent i.sent (text_of host q) (Ok o) → Reads Answers h.inlet i.inlet h.kept i.kept (Ok o)
    → Gains h.printed text j.printed → IsFront text (taken p s o).lines → j.sent ≡ i.sent → j.inlet ≡ i.inlet
    → (e ≡ ending.Write) ⊎ (e ≡ ending.Memory) → Leg p host mends (Ok s) h j (Ended e)
leg_cut p host mends s q o h i j e text is asks reads printed front sent inlet which =
    let whole : asks.sent ≡ text_of host q = whole_sent asks.sent (text_of host q) o asks.whole in
    let rest = asked p (taken p s o).next [] in
    let unbroken : is_break e ≡ false = elim which [ inl w ↦ ap is_break w | inr m ↦ ap is_break m ] in
    let shut : is_printed e ≡ false = elim which [ inl w ↦ ap is_printed w | inr m ↦ ap is_printed m ] in
    record {
      replies = o ∷ [];
      written = asks.sent;
      wrote = subst (λ (x : Option (List ℕ)). Gains h.sent asks.sent x) (sym sent) asks.gained;
      front = subst (λ (all : List ℕ). IsFront asks.sent all) (sym (texts_asked host (request_at s) q rest is)) (front_along asks.sent (text_of host q) (texts host rest) asks.front);
      whole = λ d. absurd (elim which [
        | inl w ↦ (let g : ending.Write ≡ ending.Done = sym w ∙ d in cc)
        | inr m ↦ (let g : ending.Memory ≡ ending.Done = sym m ∙ d in cc)
      ]);
      text = text;
      printed = printed;
      begun = front_along text (taken p s o).lines (shown p (taken p s o).next []) front;
      all = λ b. (never (sym shut ∙ b));
      taken = reads.taken;
      takes = subst (λ (x : Inlet). Takes h.inlet x reads.taken) (sym inlet) reads.takes;
      came = λ stream before t.
          let a = came_more stream reads.taken [] before i.kept o [] e (reads.tells stream before t)
          (λ x b u. came_none x [] b i.kept e u (elim which [
            | inl w ↦ subst (λ (y : Ending). HasNext (x ++ []) b y) (sym w) tt
            | inr m ↦ subst (λ (y : Ending). HasNext (x ++ []) b y) (sym m) tt
          ])) in
          subst (λ (y : List ℕ). Came (stream ++ y) before (o ∷ []) e) (append-nil reads.taken) a;
      answered = (ap is_some is, answers_none p (taken p s o).next);
      ends = elim which [ inl w ↦ subst (λ (y : Ending). EndsAt (after p (taken p s o).next []) y) (sym w) tt | inr m ↦ subst (λ (y : Ending). EndsAt (after p (taken p s o).next []) y) (sym m) tt ];
      goes = λ b. (never (sym unbroken ∙ b));
      at_end = λ d. absurd (elim which [
        | inl w ↦ (let g : ending.Write ≡ ending.Peer peer.Ended = sym w ∙ d in cc)
        | inr m ↦ (let g : ending.Memory ≡ ending.Peer peer.Ended = sym m ∙ d in cc)
      ]);
    }
