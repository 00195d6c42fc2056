-- Each reply leads nearer to the end of a dialogue.
use Rattle.std.proofs.Common.{◌≡◌, ℕ, ◌+◌, ◌-◌, ◌<◌, Bool, true, false, cond, ltb, List, [], ◌∷◌, Option, Some, None, Ok, Err, refl, subst, arith}
use Rattle.std.specs.Prelude.{IsSome, option_map, codes, nat_lt}
use Rattle.std.proofs.lemmas.Bool.{ltb-true}
use Rattle.ob_object.specs.Object.{Object}
use Rattle.ob_watching.specs.Operations.{Add, PollChanges, PollRefresh}
use Rattle.ob_client.specs.Entries.{is_err}
use Rattle.ob_dialogue.specs.Plans.{DialoguePlan, Topic, Place, place_at, child_place}
use Rattle.ob_dialogue.specs.declared.plan.Topic.TheVariants as topics
use Rattle.ob_dialogue.specs.Stages.{Ops, Watching, Stage, Lobby, Service, Make, Subject, Adding, Acking, Polling, Mending, Deleting, Over, request_at, ops_of, begun, told, polled, onward}
use Rattle.ob_dialogue.specs.Printing.{body_text, add_heading, poll_heading, errs_text}
use Rattle.ob_dialogue.specs.Taking.{Taken, or_shape, silent, to_watch, to_feed, ack_target, acked, printed, has_entries, follows_all, on_add, on_poll, taken_at, taken}
use Rattle.ob_dialogue.specs.declared.ending.Peer.TheVariants as peer

-- the polls that are left
abbrev unpolled : DialoguePlan → Watching → ℕ
unpolled p w = p.polls - w.polled

-- at most so many replies come from a stage on
abbrev pub stages_left : DialoguePlan → Stage → ℕ
stages_left p (Lobby place) = p.polls + 8
stages_left p (Service place) = p.polls + 7
stages_left p (Make place) = p.polls + 6
stages_left p (Subject ops place) = p.polls + 5
stages_left p (Adding w) = unpolled p w + 4
stages_left p (Acking w target user) = unpolled p w + 3
stages_left p (Polling w) = unpolled p w + 2
stages_left p (Mending w) = unpolled p w + 2
stages_left p (Deleting w) = 1
stages_left p Over = 0

-- ---- what may come next

-- the next stage, if there is one, has fewer left
abbrev IsNearer : DialoguePlan → ℕ → Option Stage → Type 0
IsNearer p n None = Unit {0}
IsNearer p n (Some s) = stages_left p s < n

nearer : (p : DialoguePlan) (n : ℕ) (next : Option Stage) (t : Stage) → IsNearer p n next → or_shape next ≡ Ok t → stages_left p t < n
nearer p n None t near is = absurd (let e : Err peer.Shape ≡ Ok t = is in cc)
nearer p n (Some s) t near is = let same : s ≡ t = cc in subst (λ (x : Stage). stages_left p x < n) same near

by_map : {A : Type 0} (p : DialoguePlan) (n : ℕ) (f : A → Stage) (o : Option A) → ((x : A) → stages_left p (f x) < n) → IsNearer p n (option_map f o)
by_map p n f None near = tt
by_map p n f (Some x) near = near x

onward_near : (p : DialoguePlan) (w : Watching) → stages_left p (onward p w) < unpolled p w + 3
onward_near p w = by_test (ltb w.polled p.polls)
  where
    by_test : (b : Bool) → stages_left p (cond b (Polling w) (Deleting w)) < unpolled p w + 3
    by_test true = omega arith
    by_test false = omega arith

-- behind a further poll
polled_near : (p : DialoguePlan) (w next : Watching) → next.polled ≡ w.polled + 1 → stages_left p (onward p next) < unpolled p w + 2
polled_near p w next is = by_test (ltb next.polled p.polls) refl
  where
    by_test : (b : Bool) → ltb next.polled p.polls ≡ b → stages_left p (cond b (Polling next) (Deleting next)) < unpolled p w + 2
    by_test true more = omega (arith, ltb-true next.polled p.polls more)
    by_test false more = omega arith

to_watch_near : (p : DialoguePlan) (ops : Option Ops) → IsNearer p (p.polls + 6) (to_watch p.url p.topic ops)
to_watch_near p None = tt
to_watch_near p (Some ops) = by_subject p.topic
  where
    by_subject : (watched : Topic) → IsNearer p (p.polls + 6) (to_watch p.url watched (Some ops))
    by_subject (topics.Watch hrefs) = omega arith
    by_subject (topics.Console subject ack user) = by_map p (p.polls + 6) (λ place. Subject ops place) (place_at p.url subject) (λ place. omega arith)

acked_near : (p : DialoguePlan) (watched : Topic) (w : Watching) → IsNearer p (unpolled p w + 4) (acked p watched w)
acked_near p (topics.Watch hrefs) w = omega (arith, onward_near p w)
acked_near p (topics.Console subject None user) w = omega (arith, onward_near p w)
acked_near p (topics.Console subject (Some href) user) w = by_map p (unpolled p w + 4) (λ target. Acking w target user) (ack_target w href) (λ target. omega arith)

printed_near : (p : DialoguePlan) (n : ℕ) (heading more : List ℕ) (body : Option (List ℕ)) (next : Option Stage) (t : Stage) → IsNearer p n next → (printed heading more body next).next ≡ Ok t → stages_left p t < n
printed_near p n heading more None next t near is = absurd (let e : Err peer.Shape ≡ Ok t = is in cc)
printed_near p n heading more (Some body) next t near is = nearer p n next t near is

-- where a test decides whether the reply is taken
tested : (p : DialoguePlan) (n : ℕ) (b : Bool) (made : Taken) (t : Stage) → (made.next ≡ Ok t → stages_left p t < n) → (cond b made (silent None)).next ≡ Ok t → stages_left p t < n
tested p n true made t near is = near is
tested p n false made t near is = absurd (let e : Err peer.Shape ≡ Ok t = is in cc)

-- ---- a reply

add_near : (p : DialoguePlan) (w : Watching) (o : Object) (t : Stage) → (on_add p w o).next ≡ Ok t → stages_left p t < unpolled p w + 4
add_near p w o t is =
    let next : Watching = told w (Add []) o in
    printed_near p (unpolled p w + 4) add_heading (errs_text p.topic o) (body_text p.topic next) (acked p p.topic next) t (acked_near p p.topic next) is

poll_near : (p : DialoguePlan) (w next : Watching) (t : Stage) → next.polled ≡ w.polled + 1 → (on_poll p next).next ≡ Ok t → stages_left p t < unpolled p w + 2
poll_near p w next t more is = printed_near p (unpolled p w + 2) (poll_heading next.polled) [] (body_text p.topic next) (Some (onward p next)) t (polled_near p w next more) is

at_near : (p : DialoguePlan) (s : Stage) (o : Object) (t : Stage) → IsSome (request_at s) → (taken_at p s o).next ≡ Ok t → stages_left p t < stages_left p s
at_near p (Lobby place) o t asks is = nearer p (p.polls + 8) (option_map Service (child_place place.url o (codes "watchService"))) t (by_map p (p.polls + 8) Service (child_place place.url o (codes "watchService")) (λ x. omega arith)) is
at_near p (Service place) o t asks is = nearer p (p.polls + 7) (option_map Make (child_place place.url o (codes "make"))) t (by_map p (p.polls + 7) Make (child_place place.url o (codes "make")) (λ x. omega arith)) is
at_near p (Make place) o t asks is =
    let ops : Option Ops = ops_of (nat_lt 0 p.retries) place.url o in
    nearer p (p.polls + 6) (to_watch p.url p.topic ops) t (to_watch_near p ops) is
at_near p (Subject ops place) o t asks is =
    let feed : Option Place = child_place place.url o (codes "feed") in
    nearer p (p.polls + 5) (to_feed ops feed) t (by_map p (p.polls + 5) (λ x. Adding (begun ops (x.target ∷ []))) feed (λ x. omega arith)) is
at_near p (Adding w) o t asks is = tested p (unpolled p w + 4) (has_entries o) (on_add p w o) t (add_near p w o t) is
at_near p (Acking w target user) o t asks is = nearer p (unpolled p w + 3) (Some (onward p w)) t (onward_near p w) is
at_near p (Polling w) o t asks is = tested p (unpolled p w + 2) (follows_all w o) (on_poll p (polled w PollChanges o)) t (poll_near p w (polled w PollChanges o) t refl) is
at_near p (Mending w) o t asks is = tested p (unpolled p w + 2) (has_entries o) (on_poll p (polled w PollRefresh o)) t (poll_near p w (polled w PollRefresh o) t refl) is
at_near p (Deleting w) o t asks is = nearer p 1 (Some Over) t (omega arith) is
at_near p Over o t asks is = absurd (let f : false ≡ true = asks in cc)

pub taken_near : (p : DialoguePlan) (s : Stage) (o : Object) (t : Stage) → IsSome (request_at s) → (taken p s o).next ≡ Ok t → stages_left p t < stages_left p s
unfolding taken
taken_near p s o t asks is = by_err (is_err o) is
  where
    by_err : (b : Bool) → (cond b (let x : Taken = record { lines = []; next = Err (peer.Err o) } in x) (taken_at p s o)).next ≡ Ok t → stages_left p t < stages_left p s
    by_err true e = absurd (let f : Err (peer.Err o) ≡ Ok t = e in cc)
    by_err false e = at_near p s o t asks e
