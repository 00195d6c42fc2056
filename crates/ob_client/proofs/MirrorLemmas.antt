-- What the calls of a mirror make and find.
use Rattle.std.proofs.Common.{◌≡◌, Bool, true, false, cond, List, [], map, refl, sym, ap, ◌∙◌, Bor}
use Rattle.std.specs.Prelude.{Option, Some, None, codes, option_map, option_and_then, is_some}
use Rattle.std.specs.List.{list_all}
use Rattle.std.specs.Str.{bytes_eq}
use Rattle.ob_object.specs.declared.kind.Kind.TheVariants as kind
use Rattle.ob_object.specs.Object.{Object, children}
use Rattle.ob_object.specs.WellFormed.{named}
use Rattle.ob_watching.specs.Operations.{Add, PollChanges, PollRefresh}
use Rattle.ob_watching.specs.Replay.{changed_by, added_by, replay_heard}
use Rattle.ob_watching.specs.WatchOuts.{Held, Heard, is_of_kind, items_of, entries_of, heard_entries, entry_read}
use Rattle.ob_client.specs.Entries.{text_of, each_once, if_once, entries_once}
use Rattle.ob_client.specs.Mirrors.{Mirrored, Asks, refreshed, added, changed}

-- ---- the entries of a reply

once_of : (o : Option (List Object)) (os : List Object) → option_and_then if_once o ≡ Some os → (o ≡ Some os) × (each_once (map text_of os) ≡ true)
once_of None os h = absurd (let e : None ≡ Some os = h in cc)
once_of (Some xs) os h = go (each_once (map text_of xs)) refl h
  where
    go : (b : Bool) → each_once (map text_of xs) ≡ b → cond b (Some xs) None ≡ Some os → (Some xs ≡ Some os) × (each_once (map text_of os) ≡ true)
    go true e h = (h, ap (λ (ys : List Object). each_once (map text_of ys)) (let same : os ≡ xs = cc in same) ∙ e)
    go false e h = absurd (let f : None ≡ Some os = h in cc)

pub known_once : (reply : Object) (os : List Object) → entries_once reply ≡ Some os → (entries_of reply ≡ Some os) × (each_once (map text_of os) ≡ true)
known_once reply os h = once_of (entries_of reply) os h

abbrev pub have_hrefs : List Object → Bool
have_hrefs os = list_all (λ o. is_some o.head.href) os

items_hrefs : (l : Object) (os : List Object) → items_of l ≡ Some os → have_hrefs os ≡ true
items_hrefs l os h = go (is_of_kind kind.List l) (have_hrefs (children l)) refl h
  where
    go : (a b : Bool) → have_hrefs (children l) ≡ b → cond a (cond b (Some (children l)) None) None ≡ Some os → have_hrefs os ≡ true
    go true true e h = ap have_hrefs (let same : os ≡ children l = cc in same) ∙ e
    go true false e h = absurd (let f : None ≡ Some os = h in cc)
    go false b e h = absurd (let f : None ≡ Some os = h in cc)

values_hrefs : (o : Option Object) (os : List Object) → option_and_then items_of o ≡ Some os → have_hrefs os ≡ true
values_hrefs None os h = absurd (let f : None ≡ Some os = h in cc)
values_hrefs (Some l) os h = items_hrefs l os h

pub entries_hrefs : (reply : Object) (os : List Object) → entries_of reply ≡ Some os → have_hrefs os ≡ true
entries_hrefs reply os h = go (is_of_kind kind.Obj reply) h
  where
    go : (a : Bool) → cond a (option_and_then items_of (named (codes "values") (children reply))) None ≡ Some os → have_hrefs os ≡ true
    go true h = values_hrefs (named (codes "values") (children reply)) os h
    go false h = absurd (let f : None ≡ Some os = h in cc)

-- the entries that are lent
pub known_entries : (o : Option (Bor (List Object))) (b : Bor (List Object)) (e : Option (List Object)) → o ≡ Some b → option_map (λ (i : Bor (List Object)). i.now) o ≡ e → e ≡ Some b.now
known_entries o b e is told = sym told ∙ ap (option_map (λ (i : Bor (List Object)). i.now)) is

pub no_entries : (o : Option (Bor (List Object))) (e : Option (List Object)) → o ≡ None → option_map (λ (i : Bor (List Object)). i.now) o ≡ e → e ≡ None
no_entries o e is told = sym told ∙ ap (option_map (λ (i : Bor (List Object)). i.now)) is

-- ---- what a reply leaves

abbrev after : Asks → Heard → Bool → List Held → Mirrored
after op h stale held = record { held = replay_heard bytes_eq op h held; stale = stale }

pub refreshed_is : (reply : Object) (m : Mirrored) (os : List Object) → entries_of reply ≡ Some os → refreshed reply m ≡ record { held = map (entry_read false) os; stale = false }
refreshed_is reply m os e = ap (λ (o : Option (List Object)). after PollRefresh (heard_entries false o) false m.held) e

pub added_is : (reply : Object) (m : Mirrored) (os : List Object) → entries_of reply ≡ Some os → added reply m ≡ record { held = added_by bytes_eq (map (entry_read false) os) m.held; stale = m.stale }
added_is reply m os e = ap (λ (o : Option (List Object)). after (Add []) (heard_entries false o) m.stale m.held) e

pub changed_is : (reply : Object) (m : Mirrored) (os : List Object) → entries_of reply ≡ Some os → changed reply m ≡ record { held = changed_by bytes_eq (map (entry_read true) os) m.held; stale = m.stale }
changed_is reply m os e = ap (λ (o : Option (List Object)). after PollChanges (heard_entries true o) m.stale m.held) e
