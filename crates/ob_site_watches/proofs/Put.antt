-- What is put into a watch is what the definitions add to its flags.
use Rattle.std.proofs.Common.{◌≡◌, ℕ, Bool, true, false, cond, List, [], ◌∷◌, ◌++◌, map, Option, Some, None, refl, sym, ap, ap₂, ◌∙◌, subst}
use Rattle.std.specs.Prelude.{is_none, nat_eq, option_map, option_and_then}
use Rattle.std.specs.List.{IsDistinct, list_all}
use Rattle.std.specs.Str.{bytes_eq}
use Rattle.ob_object.specs.Object.{Object as Node}
use Rattle.ob_history.specs.declared.records.Filter.{Filter}
use Rattle.ob_tree.specs.Trees.{Stamped}
use Rattle.ob_watching.specs.Operations.{Add}
use Rattle.ob_watching.specs.Sites.{Site}
use Rattle.ob_watching.specs.Tables.{lookup, numbers_of, replace}
use Rattle.ob_watching.specs.Watches.{ItemOf, Room, WatchOf, add_found, added, added_unless, items_added, readings_added, touched, watch_after, with_items}
use Rattle.ob_site_rules.specs.Build.{Text}
use Rattle.ob_site_rules.specs.Computed.{watch_out}
use Rattle.ob_site_rules.specs.declared.fault.Fault.{Fault}
use Rattle.ob_site_rules.specs.Locating.{locate}
use Rattle.ob_site_rules.specs.Replies.{Reading, entry}
use Rattle.ob_site_rules.specs.Sites.{found}
use Rattle.ob_site_rules.specs.State.{State}
use Rattle.ob_site_rules.specs.Watched.{Asked}
use Rattle.ob_site_state.specs.Kept.{Kept}
use Rattle.ob_site_state.specs.Stamping.{tree_of}
use Rattle.ob_watch.specs.declared.item.Item.{Item}
use Rattle.ob_watch.specs.OfPlan.{of_plan}
use Rattle.ob_watch.specs.Flags.{flagged, flags}
use Rattle.ob_watch.specs.Items.{put_item}
use Rattle.ob_watch.specs.Tables.{IsLease, Leased, Table, at_number, holding, is_over, live, room_beside, touched_at}
use Rattle.ob_watch.proofs.LawLemmas.{items_agree}
use Rattle.ob_requests.specs.AsRules.{IsAsRules}
use Rattle.ob_requests.specs.Calls.{firsts}
use Rattle.ob_site_watches.specs.declared.offering.Offer.{Offer}
use Rattle.ob_site_watches.specs.declared.offering.Offer.TheVariants as offer
use Rattle.ob_site_watches.specs.Answers.{AllKnown, IsDone}
use Rattle.ob_site_watches.specs.Known.{AreSoundItems, IsSoundItem}
use Rattle.ob_site_watches.specs.Offered.{IsOffered}
use Rattle.ob_site_watches.specs.Putting.{HasAdded, HasPut, IsPlaced, entry_put, entry_unless, put_offer, put_unless, refused_for}
use Rattle.ob_site_watches.proofs.Answering.{fresh, one_stands}
use Rattle.ob_site_watches.proofs.Knowing.{one_known}
use Rattle.ob_site_watches.proofs.Leaving.{two_left}
use Rattle.ob_site_watches.proofs.Named.{added_all_named}

module _ (k : Kept) where
  abbrev m : Site
  m = of_plan k.plan

  abbrev s : State
  s = k.now

  abbrev t : Stamped
  t = tree_of k

  abbrev Shown : Type 0
  Shown = ItemOf Text Text Filter

  abbrev Answer : Type 0
  Answer = List Shown × Reading

  -- ---- one after the other

  abbrev added_if : Option Fault → Leased → Item → Answer
  added_if f w item = added_unless m f s (map (flags t) w.items) (flags t item)

  added_items : (room : Room) (w : Leased) (item : Item) → map (flags t) (put_offer k room (offer.Item item) w).items ≡ (added m s room (map (flags t) w.items) (flags t item)).0
  added_items room w item =
      go (refused_for k.plan room w item.text)
      ∙ sym (ap (λ (f : Option Fault). (added_if f w item).0) ((items_agree k.plan t).refuses room w item.text))
    where
      go : (f : Option Fault) → map (flags t) (put_unless f item w).items ≡ (added_if f w item).0
      go None = sym ((items_agree k.plan t).puts item w.items)
      go (Some fault) = refl

  added_entry : (room : Room) (w : Leased) (item : Item) → entry_put k room (offer.Item item) w ≡ entry (added m s room (map (flags t) w.items) (flags t item)).1
  added_entry room w item =
      go (refused_for k.plan room w item.text)
      ∙ sym (ap (λ (f : Option Fault). entry (added_if f w item).1) ((items_agree k.plan t).refuses room w item.text))
    where
      go : (f : Option Fault) → entry_unless f k item ≡ entry (added_if f w item).1
      go None = refl
      go (Some fault) = refl

  module _ (room : Room) (ns : List ℕ) where
    abbrev adds_of : List Shown → Asked → Answer
    adds_of items a = add_found m s room items a.0 (found locate k.plan s ns a.0 a.1)

    one_items : (a : Asked) (o : Offer) (w : Leased) → IsOffered k ns a o → map (flags t) (put_offer k room o w).items ≡ (adds_of (map (flags t) w.items) a).0
    one_items a (offer.Item item) w is = added_items room w item ∙ sym (ap (λ (p : Answer). p.0) (is.adds room (map (flags t) w.items)))
    one_items a (offer.Refused o) w is = sym (is room (map (flags t) w.items)).0

    one_entry : (a : Asked) (o : Offer) (w : Leased) → IsOffered k ns a o → entry_put k room o w ≡ entry (adds_of (map (flags t) w.items) a).1
    one_entry a (offer.Item item) w is = added_entry room w item ∙ sym (ap (λ (p : Answer). entry p.1) (is.adds room (map (flags t) w.items)))
    one_entry a (offer.Refused o) w is = sym (is room (map (flags t) w.items)).1

    -- what is offered can be read
    pub placed : (a : Asked) (o : Offer) → IsOffered k ns a o → IsPlaced k o
    placed a (offer.Item item) is = is.known.placed
    placed a (offer.Refused o) is = record {}

    -- ---- what is known of the items

    one_item_known : (item : Item) (items : List Item) → IsSoundItem k item → AreSoundItems k items → AreSoundItems k (put_item item items)
    one_item_known item [] own known = (own, record {})
    one_item_known item (x ∷ xs) own known = go (bytes_eq x.text item.text) (one_item_known item xs own known.1)
      where
        go : (b : Bool) → AreSoundItems k (put_item item xs) → AreSoundItems k (cond b (item ∷ xs) (x ∷ put_item item xs))
        go true rest = (own, known.1)
        go false rest = (known.0, rest)

    one_offer_known : (a : Asked) (o : Offer) (w : Leased) → IsOffered k ns a o → AreSoundItems k w.items → AreSoundItems k (put_offer k room o w).items
    one_offer_known a (offer.Refused o) w is known = known
    one_offer_known a (offer.Item item) w is known = go (refused_for k.plan room w item.text)
      where
        go : (f : Option Fault) → AreSoundItems k (put_unless f item w).items
        go None = one_item_known item w.items is.known known
        go (Some fault) = known

    -- ---- all that is asked for, one after the other

    items_push : (items : List Shown) (xs : List Asked) (a : Asked) → items_added m s ns room items (xs ++ a ∷ []) ≡ (adds_of (items_added m s ns room items xs) a).0
    items_push items [] a = refl
    items_push items (x ∷ xs) a = items_push (adds_of items x).0 xs a

    entries_push : (items : List Shown) (xs : List Asked) (a : Asked)
        → map entry (readings_added m s ns room items (xs ++ a ∷ [])) ≡ map entry (readings_added m s ns room items xs) ++ entry (adds_of (items_added m s ns room items xs) a).1 ∷ []
    entries_push items [] a = refl
    entries_push items (x ∷ xs) a = ap (λ (es : List Node). entry (adds_of items x).1 ∷ es) (entries_push (adds_of items x).0 xs a)

    -- nothing was added
    pub added_none : (w : Leased) → HasAdded k ns room [] w w []
    added_none w = record { items = refl; entries = refl; known = λ known. known }

    -- one more was added
    pub added_more : (asked : List Asked) (a : Asked) (o : Offer) (w half left : Leased) (es : List Node) (e : Node) → HasAdded k ns room asked w half es → IsOffered k ns a o
        → left ≡ put_offer k room o half → e ≡ entry_put k room o half → HasAdded k ns room (asked ++ a ∷ []) w left (es ++ e ∷ [])
    added_more asked a o w half left es e has is is_left is_entry = record {
      items =
          ap (λ (v : Leased). map (flags t) v.items) is_left ∙ one_items a o half is
          ∙ ap (λ (items : List Shown). (adds_of items a).0) has.items ∙ sym (items_push (map (flags t) w.items) asked a);
      entries =
          ap₂ (λ (fs : List Node) (f : Node). fs ++ f ∷ []) has.entries (is_entry ∙ one_entry a o half is ∙ ap (λ (items : List Shown). entry (adds_of items a).1) has.items)
          ∙ sym (entries_push (map (flags t) w.items) asked a);
      known = λ known. subst (λ (v : Leased). AreSoundItems k v.items) (sym is_left) (one_offer_known a o half is (has.known known));
    }

    -- no entry has a name
    pub all_named : (asked : List Asked) (w left : Leased) (es : List Node) → HasAdded k ns room asked w left es → list_all (λ (o : Node). is_none o.head.name) es ≡ true
    all_named asked w left es has =
        subst (λ (fs : List Node). list_all (λ (o : Node). is_none o.head.name) fs ≡ true) (sym has.entries) (added_all_named k.plan s ns room (map (flags t) w.items) asked)

  -- ---- the watches

  -- the watch is left as it was but for its items, and touched
  left_put : (now n : ℕ) (w left : Leased) (old mid new : Table) → lookup n old.watches ≡ Some w → mid ≡ holding (at_number n (λ _. left) old.watches) old
      → new ≡ holding (at_number n (touched_at now) mid.watches) mid → new ≡ holding (replace n (Some (touched_at now left)) old.watches) old
  left_put now n w left old mid new there put touch =
      two_left n (touched_at now) (λ _. left) old mid new put touch
      ∙ ap (λ (o : Option Leased). holding (replace n (option_and_then (λ _. Some (touched_at now left)) o) old.watches) old) there

  -- what Watch.add leaves and replies is what the definitions say
  pub added_stands : (now n : ℕ) (old mid new : Table) (asked : List Asked) (w : Leased) (o : Node) → IsAsRules k.plan
      → IsDistinct nat_eq (numbers_of old.watches) → lookup n old.watches ≡ Some w → lookup n (live now old.watches) ≡ Some w → IsLease w.lease
      → HasPut k (numbers_of (live now old.watches)) (room_beside n (live now old.watches)) (firsts asked) n old mid o w
      → new ≡ holding (at_number n (touched_at now) mid.watches) mid → IsDone k now old new n (Add asked) o
  added_stands now n old mid new asked w o rules distinct there standing fits put touch =
      one_stands k now n old new (Add asked) w (Some (touched_at now left)) o distinct standing (left_put now n w left old mid new there put.table touch) lasts after
      (put.reply ∙ ap watch_out (put.added.entries ∙ ap (λ (all : List Asked). map entry (readings_added m s ns room (map (flags t) w.items) all)) (sym (rules.first_asked asked))))
    where
      ns : List ℕ
      ns = numbers_of (live now old.watches)

      room : Room
      room = room_beside n (live now old.watches)

      left : Leased
      left = put.left

      lease : left.lease ≡ w.lease
      lease = ap (λ (v : Leased). v.lease) put.same

      lasts : is_over now (touched_at now left) ≡ false
      lasts = fresh now left.lease (subst IsLease (sym lease) fits)

      after : watch_after m s ns room (touched m now (flagged t w)) (Add asked) ≡ option_map (flagged t) (Some (touched_at now left))
      after =
          ap (λ (all : List Asked). Some (with_items m (touched m now (flagged t w)) (items_added m s ns room (map (flags t) w.items) all))) (rules.first_asked asked)
          ∙ ap (λ (items : List Shown). Some (with_items m (touched m now (flagged t w)) items)) (sym put.added.items)
          ∙ ap (λ (l : ℕ). (let r : Option (WatchOf Text Text Filter) = Some (record { lease = l; touched = now; items = map (flags t) left.items }) in r)) (sym lease)

  -- and what is known of all items is known again
  pub added_known : (now n : ℕ) (old mid new : Table) (asked : List Asked) (ns : List ℕ) (room : Room) (w : Leased) (o : Node) → lookup n old.watches ≡ Some w
      → AllKnown k old → AreSoundItems k w.items → HasPut k ns room asked n old mid o w
      → new ≡ holding (at_number n (touched_at now) mid.watches) mid → AllKnown k new
  added_known now n old mid new asked ns room w o there all known put touch =
      subst (AllKnown k) (sym (left_put now n w put.left old mid new there put.table touch))
      (one_known k n (touched_at now put.left) old.watches (put.added.known known) all)
