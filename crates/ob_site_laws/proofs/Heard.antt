-- What a client of a watch reads in what is sent.
use Rattle.std.proofs.Common.{ℕ, zero, suc, ◌≡◌, Bool, true, false, not, ◌&&◌, List, [], ◌∷◌, ◌++◌, map, Option, Some, None, refl, sym, ap, ◌∙◌, ap₂, arith}
use Rattle.std.specs.Prelude.{is_none, is_some, codes, cond, nat_eq, option_map, unwrap_or}
use Rattle.std.proofs.lemmas.Bool.Decides.{nat_tests}
use Rattle.std.specs.List.{AllByRecursion, filter, list_all}
use Rattle.ob_values.proofs.Bools.{both_true, not_true}
use Rattle.ob_object.specs.declared.kind.Kind.TheVariants as kind
use Rattle.ob_object.specs.Object.{Object, listed-in_row}
use Rattle.ob_object.specs.WellFormed.{has_name, named}
use Rattle.ob_watching.specs.Operations.{Operation, Look, Renew, Add, Remove, PollChanges, PollRefresh, Delete, Refuse, Shows, Lists, Refuses, Out, Nil, Refused, Values, Nothing, Other, GivesOut}
use Rattle.ob_watching.specs.WatchOuts.{is_of_kind, without_name, is_dropped, number_in, feed_read, content_if, entry_read, entries_of, heard_entries, heard}
use Rattle.ob_site_rules.specs.Build.{Text, under_href, valued, number_slot}
use Rattle.ob_site_rules.specs.Computed.{watch_out}
use Rattle.ob_site_rules.specs.declared.fault.Fault.{Fault}
use Rattle.ob_site_rules.specs.Faults.{err}
use Rattle.ob_site_rules.specs.declared.plan.Plan.{Plan}
use Rattle.ob_site_rules.specs.declared.watch_part.WatchPart.{WatchPart}
use Rattle.ob_site_rules.specs.Replies.{Content, Reading, dropped_child, entry, sent, is_plain}
use Rattle.ob_site_rules.specs.Watched.{feed_of}

abbrev pub Asks : Type 0
Asks = Operation Text (Option Object) WatchPart Fault

-- in the reply to pollChanges alone a feed tells how many events dropped out
abbrev pub is_changes : Asks → Bool
is_changes PollChanges = true
is_changes _ = false

-- an event has no name
abbrev pub IsEvent : Object → Type 0
IsEvent o = o.head.name ≡ None

-- what can be read back
abbrev pub IsReadable : Bool → Content → Type 0
IsReadable changes (Shows o) = is_plain o ≡ true
IsReadable changes (Lists feed dropped events) = ((contract : Text) × (feed ≡ feed_of contract)) × AllByRecursion (λ e. IsEvent e) events × (changes ≡ false → dropped ≡ 0)
IsReadable changes (Refuses o) = (fault : Fault) × (o ≡ err fault)

no_href : (t : Option Text) → is_none t ≡ true → t ≡ None
no_href None h = refl
no_href (Some t) h = absurd cc

abbrev read : Text → Content → Reading
read t c = record { text = t; content = c }

pub not_none : (k : ℕ) → nat_eq (suc k) 0 ≡ false
not_none k = grind (arith, nat_tests)

-- an event is held as it is sent
nameless_same : (e : Object) → e.head.name ≡ None → without_name e ≡ e
nameless_same e h = ap (λ (name : Option Text). let o : Object = record { head = record e.head { name = name }; inner = e.inner } in o) (sym h)

all_same : (es : List Object) → AllByRecursion (λ e. IsEvent e) es → map without_name es ≡ es
all_same [] h = refl
all_same (e ∷ es) h = ap₂ (λ (x : Object) (xs : List Object). x ∷ xs) (nameless_same e h.0) (all_same es h.1)

abbrev is_kept : Object → Bool
is_kept o = not (is_dropped o)

all_kept : (es : List Object) → AllByRecursion (λ e. IsEvent e) es → filter (λ o. not (is_dropped o)) es ≡ es
all_kept [] h = refl
all_kept (e ∷ es) h =
    ap (λ (name : Option Text). cond (not (has_name (codes "dropped") name)) (e ∷ filter (λ o. not (is_dropped o)) es) (filter (λ o. not (is_dropped o)) es)) h.0
    ∙ ap (λ (xs : List Object). e ∷ xs) (all_kept es h.1)

events_kept : (es : List Object) → AllByRecursion (λ e. IsEvent e) es → map without_name (filter (λ o. not (is_dropped o)) es) ≡ es
events_kept es h = ap (map without_name) (all_kept es h) ∙ all_same es h

none_dropped : (es : List Object) → AllByRecursion (λ e. IsEvent e) es → named (codes "dropped") es ≡ None
none_dropped [] h = refl
none_dropped (e ∷ es) h = ap (λ (name : Option Text). cond (has_name (codes "dropped") name) (Some e) (named (codes "dropped") es)) h.0 ∙ none_dropped es h.1

-- the events behind the number that dropped out
events_back : (changes : Bool) (feed : Object) (dropped : ℕ) (events : List Object) → AllByRecursion (λ e. IsEvent e) events → (changes ≡ false → dropped ≡ 0) → feed_read changes feed (dropped_child dropped ++ events) ≡ Lists feed dropped events
events_back true feed (suc k) events h less =
    ap (λ none. feed_read true feed (cond none [] (valued kind.Int (codes "dropped") (number_slot (suc k)) ∷ []) ++ events)) (not_none k)
    ∙ ap (Lists feed (suc k)) (events_kept events h)
events_back true feed zero events h less =
    ap₂ (Lists feed) (ap (λ (o : Option Object). unwrap_or (option_map (λ o. number_in o.head.slot) o) 0) (none_dropped events h)) (events_kept events h)
events_back false feed zero events h less = ap (Lists feed 0) (all_same events h)
events_back false feed (suc k) events h less = absurd (cc (less refl))

back : (changes : Bool) (t : Text) (c : Content) → IsReadable changes c → entry_read changes (entry (read t c)) ≡ read t c
back changes t (Shows o) h =
    let parts = both_true (is_none o.head.href) (not (is_of_kind kind.Feed o) && not (is_of_kind kind.Err o)) h in
    let kinds = both_true (not (is_of_kind kind.Feed o)) (not (is_of_kind kind.Err o)) parts.1 in
    ap₂ (λ feed error. read t (content_if changes feed error (under_href None (under_href (Some t) o)))) (not_true _ kinds.0) (not_true _ kinds.1)
    ∙ ap (λ (href : Option Text). read t (Shows (under_href href o))) (sym (no_href o.head.href parts.0))
back changes t (Lists feed dropped events) h =
    ap (λ f. entry_read changes (entry (read t (Lists f dropped events)))) h.0.1
    ∙ ap (λ es. read t (feed_read changes (feed_of h.0.0) es)) (listed-in_row (dropped_child dropped ++ events))
    ∙ ap (read t) (events_back changes (feed_of h.0.0) dropped events h.1 h.2)
    ∙ ap (λ f. read t (Lists f dropped events)) (sym h.0.1)
back changes t (Refuses o) h = ap (λ e. entry_read changes (entry (read t (Refuses e)))) h.1 ∙ ap (λ e. read t (Refuses e)) (sym h.1)

all_back : (changes : Bool) (rs : List Reading) → AllByRecursion (λ r. IsReadable changes r.content) rs → map (entry_read changes) (map entry rs) ≡ rs
all_back changes [] h = refl
all_back changes (r ∷ rs) h = ap₂ (λ (x : Reading) (xs : List Reading). x ∷ xs) (back changes r.text r.content h.0) (all_back changes rs h.1)

pub all_hrefs : (rs : List Reading) → list_all (λ (item : Object). is_some item.head.href) (map entry rs) ≡ true
all_hrefs [] = refl
all_hrefs (r ∷ rs) = all_hrefs rs

out_back : (changes : Bool) (rs : List Reading) → AllByRecursion (λ r. IsReadable changes r.content) rs → heard_entries changes (entries_of (watch_out (map entry rs))) ≡ Values rs
out_back changes rs h =
    ap (λ (os : List Object). heard_entries changes (cond (list_all (λ item. is_some item.head.href) os) (Some os) None)) (listed-in_row (map entry rs))
    ∙ ap (λ (b : Bool). heard_entries changes (cond b (Some (map entry rs)) None)) (all_hrefs rs)
    ∙ ap Values (all_back changes rs h)

pub heard_out : (plan : Plan) (op : Asks) → GivesOut op → (rs : List Reading) → AllByRecursion (λ r. IsReadable (is_changes op) r.content) rs → heard op (sent plan (Out rs)) ≡ Values rs
heard_out plan (Add asked) gives rs h = out_back false rs h
heard_out plan PollChanges gives rs h = out_back true rs h
heard_out plan PollRefresh gives rs h = out_back false rs h
heard_out plan (Look part) gives rs h = absurd gives
heard_out plan (Renew input) gives rs h = absurd gives
heard_out plan (Remove texts) gives rs h = absurd gives
heard_out plan Delete gives rs h = absurd gives
heard_out plan (Refuse fault) gives rs h = absurd gives

pub heard_nil : (plan : Plan) (texts : List Text) → (let op : Asks = Remove texts in heard op (sent plan Nil)) ≡ Nothing
heard_nil plan texts = refl

pub heard_refused : (plan : Plan) (op : Asks) (fault : Fault) → heard op (sent plan (Refused fault)) ≡ Other
heard_refused plan (Add asked) fault = refl
heard_refused plan (Remove texts) fault = refl
heard_refused plan PollChanges fault = refl
heard_refused plan PollRefresh fault = refl
heard_refused plan (Look part) fault = refl
heard_refused plan (Renew input) fault = refl
heard_refused plan Delete fault = refl
heard_refused plan (Refuse fault_of) fault = refl
