-- Watch.add of one href.
use Rattle.std.specs.Prelude.{◌≡◌, ℕ, ◌+◌, Bool, true, false, cond, length, nat_le, nat_lt, List, Option, Some, None, Result, Ok, Err, IfSome, MatchOption}
use Rattle.ob_watching.specs.Tables.{lookup}
use Rattle.ob_watching.specs.Watches.{Room}
use Rattle.ob_watch.specs.declared.fault.WatchFault.{WatchFault}
use Rattle.ob_watch.specs.declared.fault.WatchFault.TheVariants.{Full, ItemsFull, AllItemsFull, AllBytesFull, NoWatch, Memory}
use Rattle.ob_watch.specs.declared.item.Item.{Item}
use Rattle.ob_watch.specs.Items.{Text, bytes_of, has_text, put_item}
use Rattle.ob_watch.specs.Tables.{Leased, Table, watching, is_full_watch, at_number, holding, has_no_place, lapsed_at, with_new, yielded_at}
use Rattle.ob_watch.specs.Undo.{Undo, Undoes, StillUndoes}

-- what an add answers
abbrev pub Added : Type 0
Added = Result (Unit {0}) WatchFault

-- Why an href can't be added to a watch beside which there is so much room, if it can't: it is new, and the watch has its most
-- items, or all watches have theirs, or its bytes are too many in all.
abbrev pub refusal : Room → Leased → Text → Option WatchFault
refusal room w text =
    cond (has_text w.items text) None
    (cond (is_full_watch w) (Some ItemsFull)
    (cond (nat_le room.items (length w.items)) (Some AllItemsFull)
    (cond (nat_lt room.bytes (bytes_of w.items + length text)) (Some AllBytesFull) None)))

-- why an item isn't added to a watch that is held
abbrev pub IsNotAdded : Room → Leased → Item → WatchFault → Type 0
IsNotAdded room w item Memory = refusal room w item.text ≡ None
IsNotAdded room w item fault = refusal room w item.text ≡ Some fault

-- a watch after an item is added; a refusal leaves it as it was
abbrev pub Adds : Room → Leased → Leased → Item → Added → Type 0
Adds room w left item (Ok _) = (refusal room w item.text ≡ None) × (left ≡ watching (put_item item w.items) w)
Adds room w left item (Err fault) = (left ≡ w) × IsNotAdded room w item fault

-- the watches after an item is added to one that is held, and what takes it back
pub record AddsTo (n : ℕ) (item : Item) (room : Room) (old new : Table) (undo undone : Undo) (result : Added) (w : Leased) : Type 0 where
  pub left : Leased
  pub table : new ≡ holding (at_number n (λ _. left) old.watches) old
  pub adds : Adds room w left item result
  pub back : StillUndoes undo undone w.items left.items

-- no watch of that number is held
pub record AddsNothing (old new : Table) (undo undone : Undo) (result : Added) : Type 0 where
  pub table : new ≡ old
  pub kept : undone ≡ undo
  pub refused : result ≡ Err NoWatch

-- the watches after an item is added to the one of a number
abbrev pub AddsAt : ℕ → Item → Room → Table → Table → Undo → Undo → Added → Type 0
AddsAt n item room old new undo undone result =
    MatchOption (lookup n old.watches) (AddsNothing old new undo undone result) (AddsTo n item room old new undo undone result)

-- the watches after the items that were added to the one of a number were taken back
abbrev pub TakesBack : ℕ → Undo → Table → Table → Type 0
TakesBack n undo old new =
    (original : List Item) → IfSome (lookup n old.watches) (λ w. Undoes undo w.items original → new ≡ holding (at_number n (watching original) old.watches) old)

-- no watch can be made at a moment, even where idle ones give way
abbrev pub is_full_at : ℕ → Table → Bool
is_full_at now t = has_no_place (yielded_at now (lapsed_at now t))

-- why no watch is made at a moment
abbrev pub IsNotMade : ℕ → Table → WatchFault → Type 0
IsNotMade now old Full = is_full_at now old ≡ true
IsNotMade now old Memory = is_full_at now old ≡ false
IsNotMade now old _ = ⊥

-- The watches after a new one is asked for at a moment: it has the next number, and those that are to give way are held still;
-- a refusal leaves all as it was.
abbrev pub Makes : ℕ → Table → Table → Result ℕ WatchFault → Type 0
Makes now old new (Ok number) = (is_full_at now old ≡ false) × (number ≡ old.next) × (new ≡ with_new now old)
Makes now old new (Err fault) = (new ≡ old) × IsNotMade now old fault

-- The watches after the last make of a moment: those whose lease has run out and those that give way are gone.
pub record GivesWay (now : ℕ) (old new : Table) : Type 0 where
  pub gone : (before : Table) → old ≡ with_new now before → new ≡ with_new now (yielded_at now (lapsed_at now before))
  pub swept : lapsed_at now new ≡ new
