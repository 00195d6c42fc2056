-- No two items of a watch have one text, through each operation.
use Rattle.std.proofs.Common.{ℕ, ◌≡◌, Bool, true, false, cond, List, [], ◌∷◌, map, Option, Some, None, refl, sym, ap, ◌∙◌, subst}
use Rattle.std.specs.List.{filter, AllByRecursion}
use Rattle.ob_watching.specs.Operations.{Found, ObjectAt, FeedAt, NotFound}
use Rattle.ob_watching.specs.Sites.{Site, IsLawful}
use Rattle.ob_watching.specs.Watches.{Room, Item, put_item, refusal, added_unless, add_found, items_added, Distinct}

module _ (m : Site) where
  abbrev Differs : m.Text → List (Item m) → Type 0
  Differs t items = AllByRecursion (λ other. m.same_text t other.text ≡ false) items

  -- a change of the items that leaves each text
  differs_map : (f : Item m → Item m) → ((item : Item m) → (f item).text ≡ item.text) → (t : m.Text) (items : List (Item m)) → Differs t items → Differs t (map f items)
  differs_map f same t [] h = tt
  differs_map f same t (item ∷ items) h = (ap (m.same_text t) (same item) ∙ h.0, differs_map f same t items h.1)

  pub distinct_map : (f : Item m → Item m) → ((item : Item m) → (f item).text ≡ item.text) → (items : List (Item m)) → Distinct m items → Distinct m (map f items)
  distinct_map f same [] h = tt
  distinct_map f same (item ∷ items) h = (subst (λ t. Differs t (map f items)) (sym (same item)) (differs_map f same item.text items h.0), distinct_map f same items h.1)

  differs_filter : (keep : Item m → Bool) (t : m.Text) (items : List (Item m)) → Differs t items → Differs t (filter keep items)
  differs_filter keep t [] h = tt
  differs_filter keep t (item ∷ items) h = elim (keep item) as (λ b. Differs t (cond b (item ∷ filter keep items) (filter keep items))) [ true ↦ (h.0, differs_filter keep t items h.1) | false ↦ differs_filter keep t items h.1 ]

  pub distinct_filter : (keep : Item m → Bool) (items : List (Item m)) → Distinct m items → Distinct m (filter keep items)
  distinct_filter keep [] h = tt
  distinct_filter keep (item ∷ items) h = elim (keep item) as (λ b. Distinct m (cond b (item ∷ filter keep items) (filter keep items))) [ true ↦ (differs_filter keep item.text items h.0, distinct_filter keep items h.1) | false ↦ distinct_filter keep items h.1 ]

  differs_put : (new : Item m) (t : m.Text) (items : List (Item m)) → Differs t items → m.same_text t new.text ≡ false → Differs t (put_item m new items)
  differs_put new t [] h g = (g, tt)
  differs_put new t (item ∷ items) h g = elim (m.same_text item.text new.text) as (λ b. Differs t (cond b (new ∷ items) (item ∷ put_item m new items))) [ true ↦ (g, h.1) | false ↦ (h.0, differs_put new t items h.1 g) ]

  pub distinct_put : IsLawful m → (new : Item m) (items : List (Item m)) → Distinct m items → Distinct m (put_item m new items)
  distinct_put law new [] h = (tt, tt)
  distinct_put law new (item ∷ items) h = go (m.same_text item.text new.text) refl (distinct_put law new items h.1)
    where
      go : (b : Bool) → m.same_text item.text new.text ≡ b → Distinct m (put_item m new items) → Distinct m (cond b (new ∷ items) (item ∷ put_item m new items))
      go true e rest = (subst (λ t. Differs t items) ((law.same_text _ _).0 e) h.0, h.1)
      go false e rest = (differs_put new item.text items h.0 e, rest)

  distinct_unless : IsLawful m → (s : m.State) (new : Item m) (items : List (Item m)) → Distinct m items → (refused : Option m.Fault) → Distinct m (added_unless m refused s items new).0
  distinct_unless law s new items h (Some fault) = h
  distinct_unless law s new items h None = distinct_put law new items h

  pub distinct_found : IsLawful m → (s : m.State) (room : Room) (text : m.Text) (found : Found m.Path m.Filter m.Fault) (items : List (Item m)) → Distinct m items → Distinct m (add_found m s room items text found).0
  distinct_found law s room text (NotFound fault) items h = h
  distinct_found law s room text (ObjectAt path) items h = distinct_unless law s _ items h (refusal m room items text)
  distinct_found law s room text (FeedAt path bounds) items h = distinct_unless law s _ items h (refusal m room items text)

  pub distinct_items_added : IsLawful m → (s : m.State) (ns : List ℕ) (room : Room) (asked : List (m.Text × m.Input)) (items : List (Item m)) → Distinct m items → Distinct m (items_added m s ns room items asked)
  distinct_items_added law s ns room [] items h = h
  distinct_items_added law s ns room (a ∷ asked) items h = distinct_items_added law s ns room asked _ (distinct_found law s room a.0 (m.find s ns a.0 a.1) items h)
