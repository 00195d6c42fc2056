-- What a mirror that heard the replies holds is what they replay to.
use Rattle.std.proofs.Common.{◌≡◌, ℕ, Bool, true, false, cond, List, [], ◌∷◌, ◌++◌, refl, sym, ap, ◌∙◌, inl, inr}
use Rattle.std.specs.Prelude.{Option, Some, None, Ok}
use Rattle.std.specs.Str.{bytes_eq}
use Rattle.std.proofs.lemmas.Bool.Decides.{Decides-eqb}
use Rattle.ob_machine.specs.declared.call.Answer.{Answer}
use Rattle.ob_machine.specs.declared.call.Answer.TheVariants.{Done, NoMemory}
use Rattle.ob_object.specs.declared.kind.Kind.TheVariants as kind
use Rattle.ob_object.specs.Object.{Object}
use Rattle.ob_watching.specs.Operations.{Look, Renew, Add, Remove, PollChanges, PollRefresh, Delete, Refuse, Values, Nothing, Other}
use Rattle.ob_watching.specs.Clients.{calls, call_of, replayed, replay, replay_call}
use Rattle.ob_watching.specs.Clients as clients
use Rattle.ob_watching.specs.Laws.{IsRead}
use Rattle.ob_watching.specs.Replay.{replay_heard}
use Rattle.ob_watching.specs.Watches.{Asks}
use Rattle.ob_watching.specs.WatchOuts.{Text, Held, Heard, is_of_kind, entries_of, heard_entries}
use Rattle.ob_site_rules.specs.declared.plan.Plan.{Plan}
use Rattle.ob_site_laws.specs.SiteLaws.{acts, of_plan, IsSoundSite, ClientsHold, ClientsHoldAll}
use Rattle.ob_site_laws.specs.SiteLaws as site
use Rattle.ob_client.specs.Mirrors.{Mirrored, added, removed, Refreshes, Adds, Changes}
use Rattle.ob_client.specs.Mirrors as mirrors
use Rattle.ob_client_laws.specs.Hearing.{IfOut, IfDone, BeginsAnew, IsReady}

-- ---- what was taken

-- each WatchOut was taken
abbrev pub Takes : (plan : Plan) → Asks (of_plan plan) → Answer Object → Mirrored → Mirrored → Type 0
Takes plan op NoMemory old new = new ≡ old
Takes plan (Add asked) (Done reply) old new = IfOut (entries_of reply) (Adds old new reply (Ok tt)) old new
Takes plan (Remove texts) (Done reply) old new = IfDone (is_of_kind kind.Err reply) texts old new
Takes plan PollChanges (Done reply) old new = IfOut (entries_of reply) (Changes old new reply (Ok tt)) old new
Takes plan PollRefresh (Done reply) old new = IfOut (entries_of reply) (Refreshes old new reply (Ok tt)) old new
Takes plan _ (Done reply) old new = new ≡ old

abbrev pub TakesAll : (plan : Plan) → List (clients.Call (of_plan plan)) → Mirrored → Mirrored → Type 0
TakesAll plan [] old new = new ≡ old
TakesAll plan (c ∷ cs) old new = (mid : Mirrored) × Takes plan c.operation c.answer old mid × TakesAll plan cs mid new

-- ---- one call

abbrev plain_add : mirrors.Asks
plain_add = Add []

same_add : (plan : Plan) (asked : List (Text × Option Object)) (h : Heard) (held : List Held) →
    replay_heard bytes_eq plain_add h held ≡ replay_heard bytes_eq (let op : Asks (of_plan plan) = Add asked in op) h held
same_add plan asked (Values rs) held = refl
same_add plan asked Nothing held = refl
same_add plan asked Other held = refl

abbrev plain_changes : mirrors.Asks
plain_changes = PollChanges

same_changes : (plan : Plan) (h : Heard) (held : List Held) → replay_heard bytes_eq plain_changes h held ≡ replay_heard bytes_eq (let op : Asks (of_plan plan) = PollChanges in op) h held
same_changes plan (Values rs) held = refl
same_changes plan Nothing held = refl
same_changes plan Other held = refl

abbrev plain_refresh : mirrors.Asks
plain_refresh = PollRefresh

same_refresh : (plan : Plan) (h : Heard) (held : List Held) → replay_heard bytes_eq plain_refresh h held ≡ replay_heard bytes_eq (let op : Asks (of_plan plan) = PollRefresh in op) h held
same_refresh plan (Values rs) held = refl
same_refresh plan Nothing held = refl
same_refresh plan Other held = refl

abbrev held_of : Mirrored → List Held
held_of m = m.held

adds_held : (plan : Plan) (asked : List (Text × Option Object)) (reply : Object) (o : Option (List Object)) (old new : Mirrored) → entries_of reply ≡ o → IfOut o (Adds old new reply (Ok tt)) old new →
    new.held ≡ replay_heard bytes_eq (let op : Asks (of_plan plan) = Add asked in op) (heard_entries false (entries_of reply)) old.held
adds_held plan asked reply None old new e h =
    ap held_of h ∙ sym (ap (λ (o : Option (List Object)). replay_heard bytes_eq (let op : Asks (of_plan plan) = Add asked in op) (heard_entries false o) old.held) e)
adds_held plan asked reply (Some os) old new e h = ap held_of h.3 ∙ same_add plan asked (heard_entries false (entries_of reply)) old.held

changes_held : (plan : Plan) (reply : Object) (o : Option (List Object)) (old new : Mirrored) → entries_of reply ≡ o → IfOut o (Changes old new reply (Ok tt)) old new →
    new.held ≡ replay_heard bytes_eq (let op : Asks (of_plan plan) = PollChanges in op) (heard_entries true (entries_of reply)) old.held
changes_held plan reply None old new e h =
    ap held_of h ∙ sym (ap (λ (o : Option (List Object)). replay_heard bytes_eq (let op : Asks (of_plan plan) = PollChanges in op) (heard_entries true o) old.held) e)
changes_held plan reply (Some os) old new e h = ap held_of h.3 ∙ same_changes plan (heard_entries true (entries_of reply)) old.held

refreshes_held : (plan : Plan) (reply : Object) (o : Option (List Object)) (old new : Mirrored) → entries_of reply ≡ o → IfOut o (Refreshes old new reply (Ok tt)) old new →
    new.held ≡ replay_heard bytes_eq (let op : Asks (of_plan plan) = PollRefresh in op) (heard_entries false (entries_of reply)) old.held
refreshes_held plan reply None old new e h =
    ap held_of h ∙ sym (ap (λ (o : Option (List Object)). replay_heard bytes_eq (let op : Asks (of_plan plan) = PollRefresh in op) (heard_entries false o) old.held) e)
refreshes_held plan reply (Some os) old new e h = ap held_of h.2 ∙ same_refresh plan (heard_entries false (entries_of reply)) old.held

removes_held : (plan : Plan) (texts : List Text) (b : Bool) (old new : Mirrored) → IfDone b texts old new →
    new.held ≡ replay_heard bytes_eq (let op : Asks (of_plan plan) = Remove texts in op) (let x : Heard = cond b Other Nothing in x) old.held
removes_held plan texts true old new h = ap held_of h
removes_held plan texts false old new h = ap held_of h

pub call_held : (plan : Plan) (op : Asks (of_plan plan)) (answer : Answer Object) (old new : Mirrored) → Takes plan op answer old new → new.held ≡ replay_call (of_plan plan) op answer old.held
call_held plan op NoMemory old new h = ap held_of h
call_held plan (Look part) (Done reply) old new h = ap held_of h
call_held plan (Renew input) (Done reply) old new h = ap held_of h
call_held plan (Add asked) (Done reply) old new h = adds_held plan asked reply (entries_of reply) old new refl h
call_held plan (Remove texts) (Done reply) old new h = removes_held plan texts (is_of_kind kind.Err reply) old new h
call_held plan PollChanges (Done reply) old new h = changes_held plan reply (entries_of reply) old new refl h
call_held plan PollRefresh (Done reply) old new h = refreshes_held plan reply (entries_of reply) old new refl h
call_held plan Delete (Done reply) old new h = ap held_of h
call_held plan (Refuse fault) (Done reply) old new h = ap held_of h

-- ---- all calls

pub calls_held : (plan : Plan) (cs : List (clients.Call (of_plan plan))) (old new : Mirrored) → TakesAll plan cs old new → new.held ≡ replayed (of_plan plan) cs old.held
calls_held plan [] old new h = ap held_of h
calls_held plan (c ∷ cs) old new h =
    calls_held plan cs h.0 new h.2 ∙ ap (replayed (of_plan plan) cs) (call_held plan c.operation c.answer old h.0 h.1)

-- from a pollRefresh on, it doesn't matter what was held before
refresh_replaces : (plan : Plan) (n : ℕ) (e : site.Call) (es : List site.Call) → IsRead (of_plan plan) n PollRefresh e → (held : List Held) → replayed (of_plan plan) (calls (of_plan plan) n (e ∷ es)) held ≡ replay (of_plan plan) (calls (of_plan plan) n (e ∷ es))
refresh_replaces plan n e es read held = from held ∙ sym (from [])
  where
    later : List (clients.Call (of_plan plan))
    later = calls (of_plan plan) n es

    from : (hs : List Held) → replayed (of_plan plan) (calls (of_plan plan) n (e ∷ es)) hs ≡ replayed (of_plan plan) (calls (of_plan plan) n es) read.given
    from hs =
        ap (λ t. replayed (of_plan plan) (call_of (of_plan plan) n e.answer t ++ calls (of_plan plan) n es) hs) read.target
        ∙ ap (λ b. replayed (of_plan plan) (cond b (record { operation = PollRefresh; answer = e.answer } ∷ []) [] ++ calls (of_plan plan) n es) hs) ((Decides-eqb n n).1 refl)
        ∙ ap (λ a. replayed (of_plan plan) (calls (of_plan plan) n es) (replay_call (of_plan plan) PollRefresh a hs)) read.answer
        ∙ ap (λ (h : Heard). replayed (of_plan plan) (calls (of_plan plan) n es) (replay_heard bytes_eq (let op : Asks (of_plan plan) = PollRefresh in op) h hs)) read.heard

pub anew_replaces : (plan : Plan) (n : ℕ) (part : List site.Call) → BeginsAnew plan n part → (held : List Held) → replayed (of_plan plan) (calls (of_plan plan) n part) held ≡ replay (of_plan plan) (calls (of_plan plan) n part)
anew_replaces plan n [] h held = absurd h
anew_replaces plan n (e ∷ es) h held = refresh_replaces plan n e es h held

pub heard_all : (plan : Plan) (n : ℕ) (part : List site.Call) (first mirror : Mirrored) → IsReady plan n part first → TakesAll plan (calls (of_plan plan) n part) first mirror → replay (of_plan plan) (calls (of_plan plan) n part) ≡ mirror.held
heard_all plan n part first mirror ready hears =
    sym (calls_held plan (calls (of_plan plan) n part) first mirror hears
    ∙ elim ready [
      | inl fresh ↦ ap (λ (m : Mirrored). replayed (of_plan plan) (calls (of_plan plan) n part) m.held) fresh
      | inr anew ↦ anew_replaces plan n part anew first.held
    ])
