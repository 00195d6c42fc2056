-- A mirror refuses none of the site's own WatchOuts on its watch.
use Rattle.std.proofs.Common.{◌≡◌, ◌≢◌, ℕ, ◌^◌, ◌<◌, Bool, true, false, cond, ◌==◌, List, [], ◌∷◌, ◌++◌, map, append-nil, append_assoc, refl, sym, ap, ap₂, subst, ◌∙◌, ◌⊎◌, inl, inr}
use Rattle.std.specs.Prelude.{is_some, max, not, Option, Some, None, Result, Ok, Err, option_and_then}
use Rattle.std.specs.List.{AllByRecursion, filter, list_all}
use Rattle.std.specs.Str.{bytes_eq}
use Rattle.std.proofs.lemmas.Bool.Decides.{Decides-eqb, eqb_tells}
use Rattle.ob_machine.specs.History.{after, IsAnswer, IsCall, IsLegal}
use Rattle.ob_machine.specs.declared.call.Answer.{Answer}
use Rattle.ob_machine.specs.declared.call.Answer.TheVariants.{Done, NoMemory}
use Rattle.ob_machine.proofs.HistoryLemmas.{legal_front, legal_back}
use Rattle.ob_object.specs.declared.kind.Kind.TheVariants as kind
use Rattle.ob_object.specs.Object.{Object, listed-in_row}
use Rattle.ob_watching.specs.Operations.{Look, Renew, Add, Remove, PollChanges, PollRefresh, Delete, Refuse, Target, Itself, Nowhere, NewWatch, OneWatch, Values, Other, GivesOut}
use Rattle.ob_watching.specs.Clients.{calls, call_of, replayed, replay, replay_call, watched}
use Rattle.ob_watching.specs.Clients as clients
use Rattle.ob_watching.specs.Laws.{IsMake, IsRead, Begins, Ends, Holds, HoldsAll, whole_at, HadEvent}
use Rattle.ob_watching.specs.Laws as watches
use Rattle.ob_watching.specs.Sites.{Site}
use Rattle.ob_watching.specs.Replay.{replay_heard, changed_by}
use Rattle.ob_watching.specs.Tables.{lookup, numbers_of}
use Rattle.ob_watching.specs.Watches.{Asks, Room, room_beside, Watch, World, Reading, reading, changes, readings_added, firsts, touched, reply_to, begun, on_watch, acted, has_lapsed, Distinct, IsSound}
use Rattle.ob_watching.specs.WatchOuts.{Text, Held, Heard, is_of_kind, entries_of, entry_read, heard_entries}
use Rattle.ob_site_rules.specs.Computed.{watch_out}
use Rattle.ob_site_rules.specs.declared.watch_part.WatchPart.{WatchPart}
use Rattle.ob_site_rules.specs.declared.fault.Fault.{Fault}
use Rattle.ob_site_rules.specs.declared.fault.Fault.TheVariants.{NoSuchObject}
use Rattle.ob_site_rules.specs.Faults.{err}
use Rattle.ob_site_rules.specs.Replies.{entry, sent}
use Rattle.ob_site_rules.specs.Sites.{SiteState}
use Rattle.ob_site_rules.specs.declared.plan.Plan.{Plan}
use Rattle.ob_site_rules.specs.State.{State}
use Rattle.ob_site_laws.specs.SiteLaws.{acts, of_plan, IsSoundSite, Stays, ClientsHold, ClientsHoldAll}
use Rattle.ob_site_laws.specs.SiteLaws as site
use Rattle.ob_client.specs.Entries.{text_of, each_once, if_once, entries_once}
use Rattle.ob_client.specs.Mirrors.{Mirrored, empty, all_follow, Refreshes, Adds, Changes, NoneFollow}
use Rattle.ob_client.specs.declared.mirror_fault.MirrorFault.{MirrorFault}
use Rattle.ob_client.specs.declared.mirror_fault.MirrorFault.TheVariants.{Shape, Stale, Memory}
use Rattle.ob_client_laws.specs.Counting.{AreCounted}
use Rattle.ob_client_laws.specs.Hearing.{IfOut, IfDone, Answered, Hears, HearsAll, IsReady, HoldsWatched, Answers, MirrorRefusesNone, MirrorsHold, MirrorsHoldAll}
use Rattle.ob_client_laws.proofs.CountLemmas.{counts_stay}
use Rattle.ob_client_laws.proofs.FollowLemmas.{AllFew, AllTell, texts_of, held_few, all_go_on, changes_tell, entries_follow}
use Rattle.ob_client_laws.proofs.HearingLemmas.{Takes, TakesAll, calls_held, heard_all, anew_replaces}
use Rattle.ob_client_laws.proofs.TextLemmas.{AreApart, once_sent, refresh_apart, changes_apart, firsts_sent}

-- ---- lists

all_filtered : {A : Type 0} (P : A → Type 0) (keep : A → Bool) (xs : List A) → AllByRecursion P xs → AllByRecursion P (filter keep xs)
all_filtered P keep [] h = tt
all_filtered P keep (x ∷ xs) h = elim (keep x) as (λ b. AllByRecursion P (cond b (x ∷ filter keep xs) (filter keep xs))) [ true ↦ (h.0, all_filtered P keep xs h.1) | false ↦ all_filtered P keep xs h.1 ]

all_looked : {A : Type 0} (P : A → Type 0) (n : ℕ) (es : List (ℕ × A)) (a : A) → AllByRecursion (λ e. P e.1) es → lookup n es ≡ Some a → P a
all_looked P n [] a all h = absurd (let e : None ≡ Some a = h in cc)
all_looked P n (e ∷ es) a all h = elim (e.0 == n) as (λ t. cond t (Some e.1) (lookup n es) ≡ Some a → P a) [ true ↦ λ g. (let same : e.1 ≡ a = cc in subst P same all.0) | false ↦ λ g. all_looked P n es a all.1 g ] h

-- ---- what a WatchOut of the site is

all_hrefs : (plan : Plan) (rs : List (Reading (of_plan plan))) → list_all (λ (item : Object). is_some item.head.href) (map entry rs) ≡ true
all_hrefs plan [] = refl
all_hrefs plan (r ∷ rs) = all_hrefs plan rs

entries_sent : (plan : Plan) (rs : List (Reading (of_plan plan))) → entries_of (watch_out (map entry rs)) ≡ Some (map entry rs)
entries_sent plan rs =
    ap (λ (os : List Object). cond (list_all (λ item. is_some item.head.href) os) (Some os) None) (listed-in_row (map entry rs))
    ∙ ap (λ (b : Bool). cond b (Some (map entry rs)) None) (all_hrefs plan rs)

-- its entries, whose hrefs differ; in the reply to a pollChanges each tells what dropped out
pub record IsOut (plan : Plan) (op : Asks (of_plan plan)) (reply : Object) : Type 0 where
  pub readings : List (Reading (of_plan plan))
  pub is : reply ≡ watch_out (map entry readings)
  pub apart : AreApart plan readings
  pub tell : op ≡ PollChanges → AllTell plan readings

no_entries : (reply : Object) (os : List Object) → reply ≡ err NoSuchObject → entries_of reply ≡ Some os → ⊥
no_entries reply os e h = let none : None ≡ Some os = ap entries_of (sym e) ∙ h in absurd cc

replied : (plan : Plan) (s : State) (ns : List ℕ) (room : Room) (n : ℕ) (v : Watch (of_plan plan)) (op : Asks (of_plan plan)) (reply : Object) → GivesOut op → Distinct (of_plan plan) v.items
    → reply ≡ sent plan (reply_to (of_plan plan) s ns room n v op) → IsOut plan op reply
replied plan s ns room n v (Add asked) reply gives apart is = record {
  readings = readings_added (of_plan plan) s ns room v.items (firsts (of_plan plan) [] asked);
  is = is;
  apart = firsts_sent plan s ns room v.items asked;
  tell = λ e. absurd cc;
}
replied plan s ns room n v PollChanges reply gives apart is = record {
  readings = changes (of_plan plan) s v.items;
  is = is;
  apart = changes_apart plan s v.items apart;
  tell = λ e. changes_tell plan s v.items;
}
replied plan s ns room n v PollRefresh reply gives apart is = record {
  readings = map (reading (of_plan plan) s) v.items;
  is = is;
  apart = refresh_apart plan s v.items apart;
  tell = λ e. absurd cc;
}
replied plan s ns room n v (Look part) reply gives apart is = absurd gives
replied plan s ns room n v (Renew input) reply gives apart is = absurd gives
replied plan s ns room n v (Remove texts) reply gives apart is = absurd gives
replied plan s ns room n v Delete reply gives apart is = absurd gives
replied plan s ns room n v (Refuse fault) reply gives apart is = absurd gives

out_of : (plan : Plan) (w : World (of_plan plan)) (n : ℕ) (op : Asks (of_plan plan)) (found : Option (Watch (of_plan plan))) (reply : Object) (os : List Object) → GivesOut op
    → AllByRecursion (λ e. Distinct (of_plan plan) e.1.items) w.watches → lookup n w.watches ≡ found → entries_of reply ≡ Some os
    → reply ≡ sent plan (on_watch (of_plan plan) w n op found).1 → IsOut plan op reply
out_of plan w n op None reply os gives apart at out is = absurd (no_entries reply os is out)
out_of plan w n op (Some v) reply os gives apart at out is =
    replied plan w.site (numbers_of w.watches) (room_beside (of_plan plan) n w.watches) n (touched (of_plan plan) w.time v) op reply gives
    (all_looked (λ (u : Watch (of_plan plan)). Distinct (of_plan plan) u.items) n w.watches v apart at) is

-- the reply of the machine to a request for the watch
reply_is : (plan : Plan) (w : World (of_plan plan)) (e : site.Call) (n : ℕ) (op : Asks (of_plan plan)) (reply : Object) → (of_plan plan).target e.request ≡ OneWatch n op → e.answer ≡ Done reply
    → IsAnswer acts (record { plan = plan; world = w }) e.request e.moment e.answer → reply ≡ sent plan (acted (of_plan plan) (begun (of_plan plan) w e.moment) e.request (let t : Target Text (Option Object) WatchPart Fault = OneWatch n op in t)).1
reply_is plan w e n op reply target answer is =
    subst (λ (a : Answer Object). IsAnswer acts (record { plan = plan; world = w }) e.request e.moment a) answer is
    ∙ ap (λ t. sent plan (acted (of_plan plan) (begun (of_plan plan) w e.moment) e.request t).1) target

call_out : (plan : Plan) (w : World (of_plan plan)) (e : site.Call) (n : ℕ) (op : Asks (of_plan plan)) (reply : Object) (os : List Object) → GivesOut op → IsSound (of_plan plan) w
    → (of_plan plan).target e.request ≡ OneWatch n op → e.answer ≡ Done reply → IsCall acts (record { plan = plan; world = w }) e → entries_of reply ≡ Some os → IsOut plan op reply
call_out plan w e n op reply os gives sound target answer is out =
    out_of plan (begun (of_plan plan) w e.moment) n op (lookup n (begun (of_plan plan) w e.moment).watches) reply os gives
    (all_filtered (λ x. Distinct (of_plan plan) x.1.items) (λ x. not (has_lapsed (of_plan plan) (max w.time e.moment) x.1)) w.watches sound.texts) refl out
    (reply_is plan w e n op reply target answer is.answer)

known_once : (plan : Plan) (op : Asks (of_plan plan)) (reply : Object) (out : IsOut plan op reply) → entries_once reply ≡ Some (map entry out.readings)
known_once plan op reply out =
    ap entries_once out.is
    ∙ ap (option_and_then if_once) (entries_sent plan out.readings)
    ∙ ap (λ b. cond b (Some (map entry out.readings)) None) (once_sent plan out.readings out.apart)

known_entries : (plan : Plan) (op : Asks (of_plan plan)) (reply : Object) (out : IsOut plan op reply) → entries_of reply ≡ Some (map entry out.readings)
known_entries plan op reply out = ap entries_of out.is ∙ entries_sent plan out.readings

-- ---- what a mirror answers

abbrev IsTaken : Result (Unit {0}) MirrorFault → Type 0
IsTaken answer = (answer ≡ Ok tt) ⊎ (answer ≡ Err Memory)

add_taken : (old new : Mirrored) (reply : Object) (os : List Object) (answer : Result (Unit {0}) MirrorFault) → entries_once reply ≡ Some os → old.stale ≡ false → Adds old new reply answer → IsTaken answer
add_taken old new reply os (Ok u) once live h = inl refl
add_taken old new reply os (Err Shape) once live h = let none : None ≡ Some os = sym h.0 ∙ once in absurd cc
add_taken old new reply os (Err Stale) once live h = let both : false ≡ true = sym live ∙ h.2 in absurd cc
add_taken old new reply os (Err Memory) once live h = inr refl

refresh_taken : (old new : Mirrored) (reply : Object) (os : List Object) (answer : Result (Unit {0}) MirrorFault) → entries_once reply ≡ Some os → Refreshes old new reply answer → IsTaken answer
refresh_taken old new reply os (Ok u) once h = inl refl
refresh_taken old new reply os (Err Shape) once h = let none : None ≡ Some os = sym h.0 ∙ once in absurd cc
refresh_taken old new reply os (Err Stale) once h = absurd h
refresh_taken old new reply os (Err Memory) once h = inr refl

change_taken : (old new : Mirrored) (reply : Object) (os : List Object) (answer : Result (Unit {0}) MirrorFault) → entries_once reply ≡ Some os → old.stale ≡ false → all_follow old.held os ≡ true → Changes old new reply answer → IsTaken answer
change_taken old new reply os (Ok u) once live follow h = inl refl
change_taken old new reply os (Err Shape) once live follow h =
    let none : all_follow old.held os ≡ false = subst (NoneFollow old reply) once h.0 in
    let both : true ≡ false = sym follow ∙ none in absurd cc
change_taken old new reply os (Err Stale) once live follow h = let both : false ≡ true = sym live ∙ h.2 in absurd cc
change_taken old new reply os (Err Memory) once live follow h = inr refl

-- ---- a mirror that took all is not stale

abbrev IsLive : Mirrored → Type 0
IsLive m = m.stale ≡ false

out_live : (Taken : Type 0) (o : Option (List Object)) (old new : Mirrored) → (Taken → new.stale ≡ old.stale) → IfOut o Taken old new → new.stale ≡ old.stale
out_live Taken None old new f h = ap (λ (m : Mirrored). m.stale) h
out_live Taken (Some os) old new f h = f h

refresh_live : (reply : Object) (o : Option (List Object)) (old new : Mirrored) → IsLive old → IfOut o (Refreshes old new reply (Ok tt)) old new → IsLive new
refresh_live reply None old new live h = ap (λ (m : Mirrored). m.stale) h ∙ live
refresh_live reply (Some os) old new live h = ap (λ (m : Mirrored). m.stale) h.2

done_live : (b : Bool) (texts : List Text) (old new : Mirrored) → IfDone b texts old new → new.stale ≡ old.stale
done_live true texts old new h = ap (λ (m : Mirrored). m.stale) h
done_live false texts old new h = ap (λ (m : Mirrored). m.stale) h

one_live : (plan : Plan) (op : Asks (of_plan plan)) (a : Answer Object) (old new : Mirrored) → Takes plan op a old new → IsLive old → IsLive new
one_live plan op NoMemory old new h live = ap (λ (m : Mirrored). m.stale) h ∙ live
one_live plan (Add asked) (Done reply) old new h live = out_live (Adds old new reply (Ok tt)) (entries_of reply) old new (λ t. ap (λ (m : Mirrored). m.stale) t.3) h ∙ live
one_live plan (Remove texts) (Done reply) old new h live = done_live (is_of_kind kind.Err reply) texts old new h ∙ live
one_live plan PollChanges (Done reply) old new h live = out_live (Changes old new reply (Ok tt)) (entries_of reply) old new (λ t. ap (λ (m : Mirrored). m.stale) t.3) h ∙ live
one_live plan PollRefresh (Done reply) old new h live = refresh_live reply (entries_of reply) old new live h
one_live plan (Look part) (Done reply) old new h live = ap (λ (m : Mirrored). m.stale) h ∙ live
one_live plan (Renew input) (Done reply) old new h live = ap (λ (m : Mirrored). m.stale) h ∙ live
one_live plan Delete (Done reply) old new h live = ap (λ (m : Mirrored). m.stale) h ∙ live
one_live plan (Refuse fault) (Done reply) old new h live = ap (λ (m : Mirrored). m.stale) h ∙ live

all_live : (plan : Plan) (cs : List (clients.Call (of_plan plan))) (old new : Mirrored) → TakesAll plan cs old new → IsLive old → IsLive new
all_live plan [] old new h live = ap (λ (m : Mirrored). m.stale) h ∙ live
all_live plan (c ∷ cs) old new h live = all_live plan cs h.0 new h.2 (one_live plan c.operation c.answer old h.0 h.1 live)

-- a refresh that was taken leaves it live whatever it was
anew_live : (plan : Plan) (n : ℕ) (e : site.Call) (es : List site.Call) (old new : Mirrored) → IsRead (of_plan plan) n PollRefresh e → TakesAll plan (calls (of_plan plan) n (e ∷ es)) old new → IsLive new
anew_live plan n e es old new read h = all_live plan (calls (of_plan plan) n es) first.0 new first.2 (taken (entries_of read.reply) refl first.1)
  where
    one : calls (of_plan plan) n (e ∷ es) ≡ record { operation = PollRefresh; answer = Done read.reply } ∷ calls (of_plan plan) n es
    one =
        ap₂ (λ a t. call_of (of_plan plan) n a t ++ calls (of_plan plan) n es) read.answer read.target
        ∙ ap (λ b. cond b (record { operation = PollRefresh; answer = Done read.reply } ∷ []) [] ++ calls (of_plan plan) n es) ((Decides-eqb n n).1 refl)

    first : TakesAll plan (record { operation = PollRefresh; answer = Done read.reply } ∷ calls (of_plan plan) n es) old new
    first = subst (λ cs. TakesAll plan cs old new) one h

    taken : (o : Option (List Object)) → entries_of read.reply ≡ o → IfOut o (Refreshes old first.0 read.reply (Ok tt)) old first.0 → IsLive first.0
    taken None none t = let other : Other ≡ Values read.given = sym (ap (λ (o : Option (List Object)). heard_entries false o) none) ∙ read.heard in absurd cc
    taken (Some os) some t = ap (λ (m : Mirrored). m.stale) t.2

-- behind these calls the mirror is live, unless the next one begins anew
live_behind : (plan : Plan) (n : ℕ) (part : List site.Call) (e : site.Call) (first mid : Mirrored) → IsReady plan n (part ++ e ∷ []) first → TakesAll plan (calls (of_plan plan) n part) first mid
    → IsLive mid ⊎ IsRead (of_plan plan) n PollRefresh e
live_behind plan n [] e first mid (inl fresh) h = inl (ap (λ (m : Mirrored). m.stale) (let same : mid ≡ first = h in same ∙ fresh))
live_behind plan n [] e first mid (inr anew) h = inr anew
live_behind plan n (d ∷ part) e first mid (inl fresh) h = inl (all_live plan (calls (of_plan plan) n (d ∷ part)) first mid h (ap (λ (m : Mirrored). m.stale) fresh))
live_behind plan n (d ∷ part) e first mid (inr anew) h = inl (anew_live plan n d part first mid anew h)

-- ---- histories

abbrev BeginsIf : (plan : Plan) → ℕ → List site.Call → Type 0
BeginsIf plan n [] = Unit {0}
BeginsIf plan n (e ∷ es) = IsMake (of_plan plan) n e ⊎ IsRead (of_plan plan) n PollRefresh e

abbrev ReadyIf : (plan : Plan) → ℕ → List site.Call → Mirrored → Type 0
ReadyIf plan n [] first = Unit {0}
ReadyIf plan n (e ∷ es) first = (first ≡ empty) ⊎ IsRead (of_plan plan) n PollRefresh e

begins_whole : (plan : Plan) (n : ℕ) (part : List site.Call) → Begins (of_plan plan) n part → BeginsIf plan n part
begins_whole plan n [] h = tt
begins_whole plan n (e ∷ es) h = h

ready_whole : (plan : Plan) (n : ℕ) (part : List site.Call) (first : Mirrored) → IsReady plan n part first → ReadyIf plan n part first
ready_whole plan n [] first h = tt
ready_whole plan n (e ∷ es) first h = h

begins_but_last : (plan : Plan) (n : ℕ) (part : List site.Call) (e : site.Call) → Begins (of_plan plan) n (part ++ e ∷ []) → BeginsIf plan n part
begins_but_last plan n [] e h = tt
begins_but_last plan n (d ∷ part) e h = h

ready_but_last : (plan : Plan) (n : ℕ) (part : List site.Call) (e : site.Call) (first : Mirrored) → IsReady plan n (part ++ e ∷ []) first → ReadyIf plan n part first
ready_but_last plan n [] e first h = tt
ready_but_last plan n (d ∷ part) e first h = h

begins_front : (plan : Plan) (n : ℕ) (front rest : List site.Call) (e : site.Call) → BeginsIf plan n (front ++ e ∷ rest) → Begins (of_plan plan) n (front ++ e ∷ [])
begins_front plan n [] rest e h = h
begins_front plan n (d ∷ front) rest e h = h

ready_front : (plan : Plan) (n : ℕ) (front rest : List site.Call) (e : site.Call) (first : Mirrored) → ReadyIf plan n (front ++ e ∷ rest) first → IsReady plan n (front ++ e ∷ []) first
ready_front plan n [] rest e first h = h
ready_front plan n (d ∷ front) rest e first h = h

ends_changes : (plan : Plan) (n : ℕ) (part : List site.Call) (e : site.Call) → IsRead (of_plan plan) n PollChanges e → Ends (of_plan plan) n (part ++ e ∷ [])
ends_changes plan n [] e h = inl h
ends_changes plan n (d ∷ []) e h = inl h
ends_changes plan n (d ∷ (f ∷ part)) e h = ends_changes plan n (f ∷ part) e h

calls_last : (plan : Plan) (n : ℕ) (part : List site.Call) (e : site.Call) → calls (of_plan plan) n (part ++ e ∷ []) ≡ calls (of_plan plan) n part ++ calls (of_plan plan) n (e ∷ [])
calls_last plan n [] e = refl
calls_last plan n (d ∷ part) e =
    ap (λ cs. call_of (of_plan plan) n d.answer ((of_plan plan).target d.request) ++ cs) (calls_last plan n part e)
    ∙ sym (append_assoc (call_of (of_plan plan) n d.answer ((of_plan plan).target d.request)) (calls (of_plan plan) n part) (calls (of_plan plan) n (e ∷ [])))

replayed_behind : (plan : Plan) (cs ds : List (clients.Call (of_plan plan))) (held : List Held) → replayed (of_plan plan) (cs ++ ds) held ≡ replayed (of_plan plan) ds (replayed (of_plan plan) cs held)
replayed_behind plan [] ds held = refl
replayed_behind plan (c ∷ cs) ds held = replayed_behind plan cs ds (replay_call (of_plan plan) c.operation c.answer held)

takes_behind : (plan : Plan) (cs ds : List (clients.Call (of_plan plan))) (old mid new : Mirrored) → TakesAll plan cs old mid → TakesAll plan ds mid new → TakesAll plan (cs ++ ds) old new
takes_behind plan [] ds old mid new a b = subst (λ (x : Mirrored). TakesAll plan ds x new) a b
takes_behind plan (c ∷ cs) ds old mid new a b = (a.0, a.1, takes_behind plan cs ds a.0 mid new a.2 b)

hears_split : (plan : Plan) (cs ds : List (clients.Call (of_plan plan))) (old new : Mirrored) → HearsAll plan (cs ++ ds) old new → (mid : Mirrored) × HearsAll plan cs old mid × HearsAll plan ds mid new
hears_split plan [] ds old new h = (old, refl, h)
hears_split plan (c ∷ cs) ds old new h = (let rest = hears_split plan cs ds h.0 new h.2 in (rest.0, (h.0, h.1, rest.1), rest.2))

-- what a call that the watch answered is among the calls
one_call : (plan : Plan) (n : ℕ) (e : site.Call) (op : Asks (of_plan plan)) (reply : Object) → (of_plan plan).target e.request ≡ OneWatch n op → e.answer ≡ Done reply
    → calls (of_plan plan) n (e ∷ []) ≡ record { operation = op; answer = Done reply } ∷ []
one_call plan n e op reply target answer =
    ap₂ (λ a t. call_of (of_plan plan) n a t ++ []) answer target
    ∙ ap (λ b. cond b (record { operation = op; answer = Done reply } ∷ []) [] ++ []) ((Decides-eqb n n).1 refl)

-- what is held after one more reply
replay_next : (plan : Plan) (n : ℕ) (part : List site.Call) (e : site.Call) (op : Asks (of_plan plan)) (reply : Object) (first mid : Mirrored) → IsReady plan n (part ++ e ∷ []) first
    → TakesAll plan (calls (of_plan plan) n part) first mid → (of_plan plan).target e.request ≡ OneWatch n op → e.answer ≡ Done reply
    → replay (of_plan plan) (calls (of_plan plan) n (part ++ e ∷ [])) ≡ replay_call (of_plan plan) op (Done reply) mid.held
replay_next plan n part e op reply first mid ready takes target answer =
    sym (elim ready [
      | inl fresh ↦ ap (λ (m : Mirrored). replayed (of_plan plan) (calls (of_plan plan) n (part ++ e ∷ [])) m.held) fresh
      | inr anew ↦ anew_replaces plan n (part ++ e ∷ []) anew first.held
    ])
    ∙ ap (λ cs. replayed (of_plan plan) cs first.held) (calls_last plan n part e)
    ∙ replayed_behind plan (calls (of_plan plan) n part) (calls (of_plan plan) n (e ∷ [])) first.held
    ∙ ap (replayed (of_plan plan) (calls (of_plan plan) n (e ∷ []))) (sym (calls_held plan (calls (of_plan plan) n part) first mid takes))
    ∙ ap (λ cs. replayed (of_plan plan) cs mid.held) (one_call plan n e op reply target answer)

texts_read : (os : List Object) → texts_of (map (entry_read true) os) ≡ map text_of os
texts_read [] = refl
texts_read (o ∷ os) = ap (λ (ts : List Text). text_of o ∷ ts) (texts_read os)

-- ---- from a sound state on

module _ (n : ℕ) (law : ClientsHold n) (stays : Stays) (small : n < 2 ^ 64) (st : SiteState) (sound : IsSoundSite st) (counted : AreCounted st.world.site) where
  abbrev m : Site
  m = of_plan st.plan

  abbrev world_at : List site.Call → World (of_plan st.plan)
  world_at es = watches.after (of_plan st.plan) st.world es

  sound_at : (es : List site.Call) → IsSound (of_plan st.plan) (world_at es)
  sound_at es = let there = stays st sound es in (subst IsSoundSite there.0 there.1).of_watches

  counted_at : (es : List site.Call) → AreCounted (world_at es).site
  counted_at es = subst (λ (s : SiteState). AreCounted s.world.site) (stays st sound es).0 (counts_stay st counted es)

  call_at : (part : List site.Call) (e : site.Call) → IsLegal acts st (part ++ e ∷ []) → IsCall acts (record { plan = st.plan; world = world_at part }) e
  call_at part e legal = subst (λ (s : SiteState). IsCall acts s e) (stays st sound part).0 (legal_back acts st part (e ∷ []) legal).0

  few_behind : (part : List site.Call) (e : site.Call) → IsLegal acts st (part ++ e ∷ []) → Begins m n (part ++ e ∷ []) → IsRead m n PollChanges e → AllFew (replay m (calls m n (part ++ e ∷ [])))
  few_behind part e legal begins read =
      let h = law small st sound [] (part ++ e ∷ []) legal begins (ends_changes st.plan n part e read) in
      held_few st.plan (world_at (part ++ e ∷ [])).site (whole_at m n st.world (part ++ e ∷ []) (λ _. st.world.site)) (HadEvent m st.world (part ++ e ∷ [])) h.watch.items (replay m (calls m n (part ++ e ∷ []))) (counted_at (part ++ e ∷ [])) h.held

  changes_follow : (part : List site.Call) (e : site.Call) (first mid : Mirrored) (reply : Object) → IsLegal acts st (part ++ e ∷ []) → Begins m n (part ++ e ∷ []) → IsReady st.plan n (part ++ e ∷ []) first
      → TakesAll st.plan (calls m n part) first mid → (target : m.target e.request ≡ OneWatch n PollChanges) (answer : e.answer ≡ Done reply) (out : IsOut st.plan PollChanges reply) → all_follow mid.held (map entry out.readings) ≡ true
  changes_follow part e first mid reply legal begins ready takes target answer out =
      entries_follow st.plan mid.held out.readings (out.tell refl) (all_go_on (map (entry_read true) (map entry out.readings)) mid.held once few)
    where
      heard : heard_entries true (entries_of reply) ≡ Values (map (entry_read true) (map entry out.readings))
      heard = ap (heard_entries true) (known_entries st.plan PollChanges reply out)

      read : IsRead m n PollChanges e
      read = record { target = target; reply = reply; answer = answer; given = map (entry_read true) (map entry out.readings); heard = heard }

      once : each_once (texts_of (map (entry_read true) (map entry out.readings))) ≡ true
      once = ap each_once (texts_read (map entry out.readings)) ∙ once_sent st.plan out.readings out.apart

      few : AllFew (changed_by bytes_eq (map (entry_read true) (map entry out.readings)) mid.held)
      few =
          subst AllFew
          (replay_next st.plan n part e PollChanges reply first mid ready takes target answer
          ∙ ap (λ (h : Heard). replay_heard bytes_eq (let op : Asks (of_plan st.plan) = PollChanges in op) h mid.held) heard)
          (few_behind part e legal begins read)

  live_next : (part : List site.Call) (e : site.Call) (first mid : Mirrored) (op : Asks (of_plan st.plan)) → IsReady st.plan n (part ++ e ∷ []) first → TakesAll st.plan (calls m n part) first mid
      → m.target e.request ≡ OneWatch n op → (op ≡ PollRefresh → ⊥) → IsLive mid
  live_next part e first mid op ready takes target other = elim (live_behind st.plan n part e first mid ready takes) [
    | inl live ↦ live
    | inr read ↦ absurd (other (let same : OneWatch n op ≡ OneWatch n PollRefresh = sym target ∙ read.target in cc))
  ]

  -- the mirror takes the next WatchOut, or it has no memory for it
  next_taken : (part : List site.Call) (e : site.Call) (first mid : Mirrored) → IsLegal acts st (part ++ e ∷ []) → Begins m n (part ++ e ∷ []) → IsReady st.plan n (part ++ e ∷ []) first
      → TakesAll st.plan (calls m n part) first mid → (op : Asks (of_plan st.plan)) (reply : Object) → m.target e.request ≡ OneWatch n op → e.answer ≡ Done reply → (os : List Object) → entries_of reply ≡ Some os
      → (new : Mirrored) (answer : Result (Unit {0}) MirrorFault) → Answers st.plan op reply mid new answer → IsTaken answer
  next_taken part e first mid legal begins ready takes (Add asked) reply target answer os some new a is =
      let out = call_out st.plan (world_at part) e n (Add asked) reply os tt (sound_at part) target answer (call_at part e legal) some in
      add_taken mid new reply (map entry out.readings) a (known_once st.plan (Add asked) reply out) (live_next part e first mid (Add asked) ready takes target (λ x. absurd cc)) is
  next_taken part e first mid legal begins ready takes PollChanges reply target answer os some new a is =
      let out = call_out st.plan (world_at part) e n PollChanges reply os tt (sound_at part) target answer (call_at part e legal) some in
      change_taken mid new reply (map entry out.readings) a (known_once st.plan PollChanges reply out) (live_next part e first mid PollChanges ready takes target (λ x. absurd cc))
      (changes_follow part e first mid reply legal begins ready takes target answer out) is
  next_taken part e first mid legal begins ready takes PollRefresh reply target answer os some new a is =
      let out = call_out st.plan (world_at part) e n PollRefresh reply os tt (sound_at part) target answer (call_at part e legal) some in
      refresh_taken mid new reply (map entry out.readings) a (known_once st.plan PollRefresh reply out) is
  next_taken part e first mid legal begins ready takes (Look x) reply target answer os some new a is = absurd is
  next_taken part e first mid legal begins ready takes (Renew x) reply target answer os some new a is = absurd is
  next_taken part e first mid legal begins ready takes (Remove x) reply target answer os some new a is = absurd is
  next_taken part e first mid legal begins ready takes Delete reply target answer os some new a is = absurd is
  next_taken part e first mid legal begins ready takes (Refuse x) reply target answer os some new a is = absurd is

  -- ---- so it takes all

  handed : (P : Result (Unit {0}) MirrorFault → Type 0) → ((a : Result (Unit {0}) MirrorFault) → P a → IsTaken a) → Answered P → P (Ok tt)
  handed P takes h = elim (takes h.0 h.1) [ inl ok ↦ subst P ok h.1 | inr none ↦ absurd (h.2 none) ]

  out_taken : (P : Result (Unit {0}) MirrorFault → Type 0) (o : Option (List Object)) (old new : Mirrored) → ((os : List Object) → o ≡ Some os → (a : Result (Unit {0}) MirrorFault) → P a → IsTaken a) → IfOut o (Answered P) old new → IfOut o (P (Ok tt)) old new
  out_taken P None old new takes h = h
  out_taken P (Some os) old new takes h = handed P (takes os refl) h

  call_taken : (part : List site.Call) (e : site.Call) (first mid new : Mirrored) → IsLegal acts st (part ++ e ∷ []) → Begins m n (part ++ e ∷ []) → IsReady st.plan n (part ++ e ∷ []) first
      → TakesAll st.plan (calls m n part) first mid → (op : Asks (of_plan st.plan)) (a : Answer Object) → m.target e.request ≡ OneWatch n op → e.answer ≡ a → Hears st.plan op a mid new → Takes st.plan op a mid new
  call_taken part e first mid new legal begins ready takes op NoMemory target answer h = h
  call_taken part e first mid new legal begins ready takes (Add asked) (Done reply) target answer h =
      out_taken (Adds mid new reply) (entries_of reply) mid new (λ os some a is. next_taken part e first mid legal begins ready takes (Add asked) reply target answer os some new a is) h
  call_taken part e first mid new legal begins ready takes PollChanges (Done reply) target answer h =
      out_taken (Changes mid new reply) (entries_of reply) mid new (λ os some a is. next_taken part e first mid legal begins ready takes PollChanges reply target answer os some new a is) h
  call_taken part e first mid new legal begins ready takes PollRefresh (Done reply) target answer h =
      out_taken (Refreshes mid new reply) (entries_of reply) mid new (λ os some a is. next_taken part e first mid legal begins ready takes PollRefresh reply target answer os some new a is) h
  call_taken part e first mid new legal begins ready takes (Remove texts) (Done reply) target answer h = h
  call_taken part e first mid new legal begins ready takes (Look x) (Done reply) target answer h = h
  call_taken part e first mid new legal begins ready takes (Renew x) (Done reply) target answer h = h
  call_taken part e first mid new legal begins ready takes Delete (Done reply) target answer h = h
  call_taken part e first mid new legal begins ready takes (Refuse x) (Done reply) target answer h = h

  entry_taken : (part : List site.Call) (e : site.Call) (first mid new : Mirrored) → IsLegal acts st (part ++ e ∷ []) → Begins m n (part ++ e ∷ []) → IsReady st.plan n (part ++ e ∷ []) first
      → TakesAll st.plan (calls m n part) first mid → (t : Target Text (Option Object) WatchPart Fault) → m.target e.request ≡ t → HearsAll st.plan (call_of m n e.answer t) mid new → TakesAll st.plan (call_of m n e.answer t) mid new
  entry_taken part e first mid new legal begins ready takes Itself target h = h
  entry_taken part e first mid new legal begins ready takes Nowhere target h = h
  entry_taken part e first mid new legal begins ready takes NewWatch target h = h
  entry_taken part e first mid new legal begins ready takes (OneWatch k op) target h = go (k == n) (eqb_tells k n) h
    where
      go : (b : Bool) → ((b ≡ true) × (k ≡ n)) ⊎ ((b ≡ false) × (k ≢ n)) → HearsAll st.plan (cond b (record { operation = op; answer = e.answer } ∷ []) []) mid new → TakesAll st.plan (cond b (record { operation = op; answer = e.answer } ∷ []) []) mid new
      go false tells h = h
      go true (inl same) h = (h.0, call_taken part e first mid h.0 legal begins ready takes op e.answer (target ∙ ap (λ j. let t : Target Text (Option Object) WatchPart Fault = OneWatch j op in t) same.1) refl h.1, h.2)
      go true (inr other) h = absurd cc

  taken_from : (front rest : List site.Call) (first mid last : Mirrored) → IsLegal acts st (front ++ rest) → BeginsIf st.plan n (front ++ rest) → ReadyIf st.plan n (front ++ rest) first
      → TakesAll st.plan (calls m n front) first mid → HearsAll st.plan (calls m n rest) mid last → TakesAll st.plan (calls m n (front ++ rest)) first last
  taken_from front [] first mid last legal begins ready takes h =
      subst (λ es. TakesAll st.plan (calls m n es) first last) (sym (append-nil front)) (subst (λ (x : Mirrored). TakesAll st.plan (calls m n front) first x) (sym h) takes)
  taken_from front (e ∷ rest) first mid last legal begins ready takes h =
      subst (λ es. TakesAll st.plan (calls m n es) first last) joined
      (taken_from (front ++ e ∷ []) rest first parts.0 last
      (subst (λ es. IsLegal acts st es) (sym joined) legal) (subst (λ es. BeginsIf st.plan n es) (sym joined) begins) (subst (λ es. ReadyIf st.plan n es first) (sym joined) ready)
      (subst (λ cs. TakesAll st.plan cs first parts.0) (sym (calls_last st.plan n front e)) (takes_behind st.plan (calls m n front) (calls m n (e ∷ [])) first mid parts.0 takes one))
      parts.2)
    where
      joined : (front ++ e ∷ []) ++ rest ≡ front ++ e ∷ rest
      joined = append_assoc front (e ∷ []) rest

      parts : (x : Mirrored) × HearsAll st.plan (call_of m n e.answer (m.target e.request)) mid x × HearsAll st.plan (calls m n rest) x last
      parts = hears_split st.plan (call_of m n e.answer (m.target e.request)) (calls m n rest) mid last h

      one : TakesAll st.plan (calls m n (e ∷ [])) mid parts.0
      one =
          subst (λ cs. TakesAll st.plan cs mid parts.0) (sym (append-nil (call_of m n e.answer (m.target e.request))))
          (entry_taken front e first mid parts.0 (legal_front acts st (front ++ e ∷ []) rest (subst (λ es. IsLegal acts st es) (sym joined) legal))
          (begins_front st.plan n front rest e begins) (ready_front st.plan n front rest e first ready) takes (m.target e.request) refl parts.1)

  pub all_taken : (part : List site.Call) (first last : Mirrored) → IsLegal acts st part → BeginsIf st.plan n part → ReadyIf st.plan n part first → HearsAll st.plan (calls m n part) first last → TakesAll st.plan (calls m n part) first last
  all_taken part first last legal begins ready h = taken_from [] part first first last legal begins ready refl h

-- ---- the laws

-- the state that a history leads to
abbrev led_to : SiteState → List site.Call → SiteState
led_to start before = record { plan = start.plan; world = watches.after (of_plan start.plan) start.world before }

module _ (n : ℕ) (law : ClientsHold n) (stays : Stays) (small : n < 2 ^ 64) (start : SiteState) (sound : IsSoundSite start) (counted : AreCounted start.world.site) (before part : List site.Call) (legal : IsLegal acts start (before ++ part)) where
  led : after acts start before ≡ led_to start before
  led = (stays start sound before).0

  sound_led : IsSoundSite (led_to start before)
  sound_led = subst IsSoundSite led (stays start sound before).1

  counted_led : AreCounted (led_to start before).world.site
  counted_led = subst (λ (s : SiteState). AreCounted s.world.site) led (counts_stay start counted before)

  legal_led : IsLegal acts (led_to start before) part
  legal_led = subst (λ (s : SiteState). IsLegal acts s part) led (legal_back acts start before part legal)

  takes_led : (first mirror : Mirrored) → Begins (of_plan start.plan) n part → IsReady start.plan n part first → HearsAll start.plan (calls (of_plan start.plan) n part) first mirror → TakesAll start.plan (calls (of_plan start.plan) n part) first mirror
  takes_led first mirror begins ready hears =
      all_taken n law stays small (led_to start before) sound_led counted_led part first mirror legal_led (begins_whole start.plan n part begins) (ready_whole start.plan n part first ready) hears

pub mirror_refuses : (n : ℕ) → ClientsHold n → Stays → MirrorRefusesNone n
mirror_refuses n law stays small start sound counted before part e legal begins first mirror ready hears op target reply answer os some new a is =
    let sound_st = sound_led n law stays small start sound counted before (part ++ e ∷ []) legal in
    let counted_st = counted_led n law stays small start sound counted before (part ++ e ∷ []) legal in
    let legal_st = legal_led n law stays small start sound counted before (part ++ e ∷ []) legal in
    let takes = all_taken n law stays small (led_to start before) sound_st counted_st part first mirror (legal_front acts (led_to start before) part (e ∷ []) legal_st) (begins_but_last start.plan n part e begins) (ready_but_last start.plan n part e first ready) hears in
    next_taken n law stays small (led_to start before) sound_st counted_st part e first mirror legal_st begins ready takes op reply target answer os some new a is

pub mirrors_hold : (n : ℕ) → ClientsHold n → Stays → MirrorsHold n
mirrors_hold n law stays small start sound counted before part legal begins ends first mirror ready hears =
    let h = law small start sound before part legal begins ends in
    subst (λ (held : List Held). HoldsWatched start.plan n (after acts start before).world part held)
    (heard_all start.plan n part first mirror ready (takes_led n law stays small start sound counted before part legal first mirror begins ready hears))
    (record { watch = h.watch; stands = h.stands; held = h.held; each = h.each; exact = h.exact })

pub mirrors_hold_all : (n : ℕ) → ClientsHold n → ClientsHoldAll n → Stays → MirrorsHoldAll n
mirrors_hold_all n one law stays small start sound counted before part legal begins ends first mirror ready hears v stands keeps =
    ap (λ (held : List Held). Some held) (sym (heard_all start.plan n part first mirror ready (takes_led n one stays small start sound counted before part legal first mirror begins ready hears)))
    ∙ law small start sound before part legal begins ends v stands keeps
