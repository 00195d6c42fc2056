-- A watch into which something was put, one after the other.
use Rattle.std.proofs.Common.{◌≡◌, ℕ, ◌+◌, ◌<◌, ◌==◌, Bool, true, false, cond, List, [], ◌∷◌, ◌++◌, length, take, get_or, Option, Some, None, Result, Ok, Err, refl, sym, ap, ◌∙◌, subst}
use Rattle.std.specs.Prelude.{IfOk, IfSome, IsErr, MatchOption, is_some, nat_eq, option_and_then, option_map}
use Rattle.std.specs.List.{IsDistinct}
use Rattle.std.specs.declared.alloc.AllocError.{AllocError}
use Rattle.std.proofs.lemmas.List.{take_more}
use Rattle.std.proofs.lemmas.Result.{IfOk-from_err, IfOk-weaker}
use Rattle.ob_object.specs.Object.{Object}
use Rattle.ob_watching.specs.Tables.{lookup, numbers_of, replace}
use Rattle.ob_watching.specs.Watches.{Room}
use Rattle.ob_site_rules.specs.Build.{Text, under_href}
use Rattle.ob_site_rules.specs.Computed.{watch_out}
use Rattle.ob_site_rules.specs.declared.fault.Fault.{Fault}
use Rattle.ob_site_rules.specs.declared.plan.Plan.{Plan}
use Rattle.ob_site_rules.specs.Faults.{err}
use Rattle.ob_watch.specs.declared.fault.WatchFault.{WatchFault}
use Rattle.ob_watch.specs.declared.fault.WatchFault.TheVariants.{AllBytesFull, AllItemsFull, Full, ItemsFull, Memory, NoWatch}
use Rattle.ob_watch.specs.declared.item.Item.{Item}
use Rattle.ob_watch.specs.Adding.{Added, AddsAt, AddsNothing, AddsTo, IsNotAdded, TakesBack, refusal}
use Rattle.ob_watch.specs.AsRules.{fault_of}
use Rattle.ob_watch.specs.Items.{put_item}
use Rattle.ob_watch.specs.Tables.{Leased, Table, at_number, holding, watching}
use Rattle.ob_watch.specs.Undo.{Undo, Undoes}
use Rattle.ob_watch.proofs.LapseLemmas.{lapses_commute}
use Rattle.ob_watch.proofs.TableLemmas.{Numbered}
use Rattle.ob_site_watches.specs.declared.offering.Offer.{Offer}
use Rattle.ob_site_watches.specs.declared.offering.Offer.TheVariants as offer
use Rattle.ob_site_rules.specs.Watched.{Asked}
use Rattle.ob_site_state.specs.Kept.{Kept}
use Rattle.ob_site_watches.specs.Entries.{reading_entry}
use Rattle.ob_site_watches.specs.Offered.{IsOffered, refused_entry}
use Rattle.ob_site_watches.specs.Putting.{ArePut, Grows, HasAdded, HasPut, IsPut, OfHeld, entry_unless, put_unless, refused_for}
use Rattle.ob_site_watches.proofs.Put.{added_more, added_none}
use Rattle.ob_site_watches.proofs.Undone.{same_put, undone}

-- What was put into the watch of a number of what is asked for, and the entries.
pub record IsOnTheWay (k : Kept) (ns : List ℕ) (room : Room) (asked : List Asked) (n : ℕ) (old new : Table) (undo undone : Undo) (es : List Object) (w : Leased) : Type 0 where
  pub left : Leased
  pub grows : Grows n w left old new undo undone
  pub added : HasAdded k ns room asked w left es

-- ---- the watch of a number

none_same : (b : Leased) → (let r : Option Leased = None in r) ≡ Some b → ⊥
none_same b h = cc

put_there : (n : ℕ) (v u : Leased) (ws : Numbered) → lookup n ws ≡ Some u → lookup n (replace n (Some v) ws) ≡ Some v
put_there n v u [] there = absurd (none_same u there)
put_there n v u (w ∷ ws) there = go (w.0 == n) there (put_there n v u ws)
  where
    go : (b : Bool) → cond b (Some w.1) (lookup n ws) ≡ Some u → (lookup n ws ≡ Some u → lookup n (replace n (Some v) ws) ≡ Some v) → cond b (Some (cond b v w.1)) (lookup n (replace n (Some v) ws)) ≡ Some v
    go true there rest = refl
    go false there rest = rest there

pub is_held : (o : Option Leased) → is_some o ≡ true → (w : Leased) × (o ≡ Some w)
is_held (Some w) h = (w, refl)
is_held None h = absurd (let e : false ≡ true = h in cc)

same_watch : (w v : Leased) → (let r : Option Leased = Some w in r) ≡ Some v → w ≡ v
same_watch w v e = cc

-- only one is held
pub one_held : (o : Option Leased) (w v : Leased) → o ≡ Some w → o ≡ Some v → w ≡ v
one_held o w v e f = same_watch w v (sym e ∙ f)

pub held_there : (o : Option Leased) (w : Leased) → o ≡ Some w → is_some o ≡ true
held_there o w e = ap is_some e

-- what refuses an href where the watch of a number stands refuses it where that is held
pub told_held : (plan : Plan) (n : ℕ) (table : Table) (room : Room) (text : Text) (w : Leased) (why : WatchFault) (told : Option Fault) → ((v : Leased) → lookup n table.watches ≡ Some v → w ≡ v)
    → Some why ≡ refusal room w text → told ≡ fault_of plan why → IfSome told (λ fault. OfHeld n table (λ v. refused_for plan room v text ≡ Some fault))
told_held plan n table room text w why None one is answers = tt
told_held plan n table room text w why (Some fault) one is answers =
    λ v there. ap (λ (u : Leased). refused_for plan room u text) (sym (one v there)) ∙ ap (option_and_then (fault_of plan)) (sym is) ∙ sym answers

module _ (n : ℕ) where
  -- nothing is put
  pub grows_none : (old : Table) (undo : Undo) (w : Leased) → IsDistinct nat_eq (numbers_of old.watches) → lookup n old.watches ≡ Some w → Grows n w w old old undo undo
  grows_none old undo w distinct there = record {
    table = sym (ap (λ (o : Option Leased). holding (replace n (option_map (λ _. w) o) old.watches) old) there ∙ ap (λ (ws : Numbered). holding ws old) (same_put n w old.watches distinct there));
    same = refl;
    back = λ original undoes. undoes;
  }

  -- the watch that has grown stands under the number
  pub grown_there : (old new : Table) (undo undone : Undo) (w left : Leased) → lookup n old.watches ≡ Some w → Grows n w left old new undo undone → lookup n new.watches ≡ Some left
  grown_there old new undo undone w left there grows =
      ap (λ (t : Table). lookup n t.watches) grows.table
      ∙ ap (λ (o : Option Leased). lookup n (replace n (option_map (λ _. left) o) old.watches)) there
      ∙ put_there n left w old.watches there

  -- more is put
  pub grows_more : (old mid new : Table) (undo kept undone : Undo) (w half left : Leased) → Grows n w half old mid undo kept → Grows n half left mid new kept undone → Grows n w left old new undo undone
  grows_more old mid new undo kept undone w half left first second = record {
    table =
        second.table
        ∙ ap (λ (t : Table). holding (at_number n (λ _. left) t.watches) t) first.table
        ∙ ap (λ (ws : Numbered). holding ws old) ((lapses_commute 0).twice n (λ _. left) (λ _. half) old.watches);
    same = second.same ∙ ap (watching left.items) first.same;
    back = λ original undoes. second.back original (first.back original undoes);
  }

  -- what was put is taken back
  pub grown_back : (old mid new : Table) (undo undone_by : Undo) (w left : Leased) → IsDistinct nat_eq (numbers_of old.watches) → lookup n old.watches ≡ Some w
      → Grows n w left old mid undo undone_by → Undoes undo w.items w.items → TakesBack n undone_by mid new → new ≡ old
  grown_back old mid new undo undone_by w left distinct there grows nothing takes =
      undone n old mid new w left distinct there grows.table grows.same
      (subst (λ (o : Option Leased). IfSome o (λ (v : Leased). Undoes undone_by v.items w.items → new ≡ holding (at_number n (watching w.items) mid.watches) mid)) (grown_there old mid undo undone_by w left there grows) (takes w.items) (grows.back w.items nothing))

  module _ (k : Kept) (room : Room) where
    -- ---- one that is offered

    -- nothing is put, as there is no memory
    pub put_nothing : (o : Offer) (old : Table) (undo : Undo) (w : Leased) (result : Result Object AllocError) → IsErr result → IsDistinct nat_eq (numbers_of old.watches)
        → lookup n old.watches ≡ Some w → IsPut k n room o old old undo undo result w
    put_nothing o old undo w result cut distinct there = record { left = w; grows = grows_none old undo w distinct there; put = IfOk-from_err result _ cut }

    -- an href that was refused before
    pub put_refused : (o : Object) (old : Table) (undo : Undo) (w : Leased) → IsDistinct nat_eq (numbers_of old.watches) → lookup n old.watches ≡ Some w
        → IsPut k n room (offer.Refused o) old old undo undo (Ok o) w
    put_refused o old undo w distinct there = record { left = w; grows = grows_none old undo w distinct there; put = (refl, refl) }

    -- an item that there is no room for
    pub put_aside : (item : Item) (fault : Fault) (old : Table) (undo : Undo) (w : Leased) (result : Result Object AllocError) → IsDistinct nat_eq (numbers_of old.watches) → lookup n old.watches ≡ Some w
        → refused_for k.plan room w item.text ≡ Some fault → IfOk result (λ o. o ≡ refused_entry item.text fault) → IsPut k n room (offer.Item item) old old undo undo result w
    put_aside item fault old undo w result distinct there full told = record {
      left = w;
      grows = grows_none old undo w distinct there;
      put = IfOk-weaker result _ _ (λ o e. (ap (λ (f : Option Fault). put_unless f item w) (sym full), e ∙ ap (λ (f : Option Fault). entry_unless f k item) (sym full))) told;
    }

    -- why an item wasn't added, as the site answers it
    told_so : (item : Item) (w : Leased) (why : WatchFault) (fault : Fault) → IsNotAdded room w item why → fault_of k.plan why ≡ Some fault → refused_for k.plan room w item.text ≡ Some fault
    told_so item w Memory fault is told = absurd (let e : None ≡ Some fault = told in cc)
    told_so item w NoWatch fault is told = ap (option_and_then (fault_of k.plan)) is ∙ told
    told_so item w Full fault is told = ap (option_and_then (fault_of k.plan)) is ∙ told
    told_so item w ItemsFull fault is told = ap (option_and_then (fault_of k.plan)) is ∙ told
    told_so item w AllItemsFull fault is told = ap (option_and_then (fault_of k.plan)) is ∙ told
    told_so item w AllBytesFull fault is told = ap (option_and_then (fault_of k.plan)) is ∙ told

    module _ (item : Item) (old new : Table) (undo undone_by : Undo) (r : Added) (w : Leased) where
      to_held : lookup n old.watches ≡ Some w → AddsAt n item room old new undo undone_by r → AddsTo n item room old new undo undone_by r w
      to_held there adds = subst (λ (o : Option Leased). MatchOption o (AddsNothing old new undo undone_by r) (AddsTo n item room old new undo undone_by r)) there adds

      abbrev Taken : Option Fault → Leased
      Taken f = put_unless f item w

      abbrev Entry : Option Fault → Object
      Entry f = entry_unless f k item

      -- it is added
      pub put_added : (done : Unit {0}) (own : Object) → lookup n old.watches ≡ Some w → own ≡ reading_entry k item → r ≡ Ok done → AddsAt n item room old new undo undone_by r
          → IsPut k n room (offer.Item item) old new undo undone_by (Ok own) w
      put_added done own there told is adds =
          let to : AddsTo n item room old new undo undone_by (Ok done) w = subst (λ (x : Added). AddsTo n item room old new undo undone_by x w) is (to_held there adds) in
          let fact : (refusal room w item.text ≡ None) × (to.left ≡ watching (put_item item w.items) w) = to.adds in
          let free : refused_for k.plan room w item.text ≡ None = ap (option_and_then (fault_of k.plan)) fact.0 in
          record {
            left = to.left;
            grows = record { table = to.table; same = fact.1 ∙ ap (λ (v : Leased). watching v.items w) (sym fact.1); back = to.back };
            put = (fact.1 ∙ ap Taken (sym free), told ∙ ap Entry (sym free));
          }

      -- it is refused
      pub put_full : (result : Result Object AllocError) (own : Object) (why : WatchFault) (fault : Fault) → lookup n old.watches ≡ Some w → own ≡ reading_entry k item → r ≡ Err why → fault_of k.plan why ≡ Some fault
          → AddsAt n item room old new undo undone_by r → IfOk result (λ o. o ≡ under_href own.head.href (err fault)) → IsPut k n room (offer.Item item) old new undo undone_by result w
      put_full result own why fault there read is of adds told =
          let to : AddsTo n item room old new undo undone_by (Err why) w = subst (λ (x : Added). AddsTo n item room old new undo undone_by x w) is (to_held there adds) in
          let fact : (to.left ≡ w) × IsNotAdded room w item why = to.adds in
          let full : refused_for k.plan room w item.text ≡ Some fault = told_so item w why fault fact.1 of in
          record {
            left = to.left;
            grows = record { table = to.table; same = fact.0 ∙ ap (λ (v : Leased). watching v.items w) (sym fact.0); back = to.back };
            put = IfOk-weaker result _ _ (λ o e. (fact.0 ∙ ap Taken (sym full), e ∙ ap (λ (p : Object). under_href p.head.href (err fault)) read ∙ ap Entry (sym full))) told;
          }

      -- there is no memory
      pub put_failed : (fault : WatchFault) (why : AllocError) → lookup n old.watches ≡ Some w → r ≡ Err fault → AddsAt n item room old new undo undone_by r
          → IsPut k n room (offer.Item item) old new undo undone_by (Err why) w
      put_failed fault why there is adds =
          let to : AddsTo n item room old new undo undone_by (Err fault) w = subst (λ (x : Added). AddsTo n item room old new undo undone_by x w) is (to_held there adds) in
          let fact : (to.left ≡ w) × IsNotAdded room w item fault = to.adds in
          record {
            left = to.left;
            grows = record { table = to.table; same = fact.0 ∙ ap (λ (v : Leased). watching v.items w) (sym fact.0); back = to.back };
            put = record {};
          }

    -- ---- all that is asked for, one after the other

    module _ (ns : List ℕ) where
      -- nothing was put
      pub way_starts : (old : Table) (undo : Undo) (w : Leased) → IsDistinct nat_eq (numbers_of old.watches) → lookup n old.watches ≡ Some w → IsOnTheWay k ns room [] n old old undo undo [] w
      way_starts old undo w distinct there = record { left = w; grows = grows_none old undo w distinct there; added = added_none k room ns w }

      -- no memory was found before
      pub none_put : (asked : List Asked) (old : Table) (undo : Undo) (w : Leased) (result : Result Object AllocError) → IsErr result → IsDistinct nat_eq (numbers_of old.watches)
          → lookup n old.watches ≡ Some w → ArePut k ns room asked n old old undo undo result w
      none_put asked old undo w result cut distinct there = record { left = w; grows = grows_none old undo w distinct there; put = IfOk-from_err result _ cut }

      module _ (all : List Asked) (next : ℕ) (old mid new : Table) (undo kept undone_by : Undo) (es : List Object) (w : Leased) (way : IsOnTheWay k ns room (take next all) n old mid undo kept es w) where
        -- what is put next goes into the watch that has grown
        pub way_there : lookup n old.watches ≡ Some w → lookup n mid.watches ≡ Some way.left
        way_there there = grown_there old mid undo kept w way.left there way.grows

        -- one more was put
        pub way_more : (a : Asked) (o : Offer) (e : Object) → next < length all → a ≡ get_or all next a → IsOffered k ns a o → IsPut k n room o mid new kept undone_by (Ok e) way.left
            → IsOnTheWay k ns room (take (next + 1) all) n old new undo undone_by (es ++ e ∷ []) w
        way_more a o e l is offered one = record {
          left = one.left;
          grows = grows_more old mid new undo kept undone_by w way.left one.left way.grows one.grows;
          added = subst (λ (asked : List Asked). HasAdded k ns room asked w one.left (es ++ e ∷ [])) (sym more) (added_more k room ns (take next all) a o w way.left one.left es e way.added offered one.put.0 one.put.1);
        }
          where
            more : take (next + 1) all ≡ take next all ++ a ∷ []
            more = take_more all next a l ∙ ap (λ (y : Asked). take next all ++ y ∷ []) (sym is)

        -- no memory was found for the next
        pub way_stops : (asked : List Asked) (result : Result Object AllocError) → IsErr result → ArePut k ns room asked n old mid undo kept result w
        way_stops asked result cut = record { left = way.left; grows = way.grows; put = IfOk-from_err result _ cut }

        pub way_cut : (asked : List Asked) (o : Offer) (r result : Result Object AllocError) → IsErr result → IsPut k n room o mid new kept undone_by r way.left → ArePut k ns room asked n old new undo undone_by result w
        way_cut asked o r result cut one = record { left = one.left; grows = grows_more old mid new undo kept undone_by w way.left one.left way.grows one.grows; put = IfOk-from_err result _ cut }

        -- all was put
        pub way_ends : (asked : List Asked) (result : Result Object AllocError) → take next all ≡ asked → IfOk result (λ o. o ≡ watch_out es) → ArePut k ns room asked n old mid undo kept result w
        way_ends asked result whole told = record {
          left = way.left;
          grows = way.grows;
          put = IfOk-weaker result _ _ (λ o e. (es, (subst (λ (these : List Asked). HasAdded k ns room these w way.left es) whole way.added, e))) told;
        }

      -- all was put, or taken back
      pub has_put : (asked : List Asked) (old new : Table) (undo undone_by : Undo) (o : Object) (w : Leased) → ArePut k ns room asked n old new undo undone_by (Ok o) w → HasPut k ns room asked n old new o w
      has_put asked old new undo undone_by o w are = record {
        left = are.left;
        table = are.grows.table;
        same = are.grows.same;
        entries = are.put.0;
        added = are.put.1.0;
        reply = are.put.1.1;
      }

      pub all_back : (asked : List Asked) (old mid new : Table) (undo undone_by : Undo) (result : Result Object AllocError) (w : Leased) → IsDistinct nat_eq (numbers_of old.watches) → lookup n old.watches ≡ Some w
          → ArePut k ns room asked n old mid undo undone_by result w → Undoes undo w.items w.items → TakesBack n undone_by mid new → new ≡ old
      all_back asked old mid new undo undone_by result w distinct there are nothing takes = grown_back old mid new undo undone_by w are.left distinct there are.grows nothing takes
