-- In one reply no href stands twice.
use Rattle.std.proofs.Common.{◌≡◌, ℕ, zero, suc, ◌-◌, Bool, true, false, cond, not, ◌&&◌, ◌||◌, List, [], ◌∷◌, ◌++◌, map, length, nat_le, refl, sym, ap, ◌∙◌, subst, Option, Some, None}
use Rattle.std.specs.List.{AllByRecursion, filter}
use Rattle.std.specs.Str.{bytes_eq}
use Rattle.ob_values.proofs.Bools.{neither_left, neither_right}
use Rattle.ob_values.proofs.Lists.{all_both}
use Rattle.ob_object.specs.Object.{Object}
use Rattle.ob_history.specs.declared.records.Filter.{Filter}
use Rattle.ob_watching.specs.Operations.{Found, ObjectAt, FeedAt, NotFound}
use Rattle.ob_watching.specs.Tables.{is_among}
use Rattle.ob_watching.specs.Watches.{Room, Object as ObjectItem, Feed as FeedItem, Tracked, Item, Reading, count, since, reading, lists_some, changes_of, changes, refusal, added, added_unless, add_found, readings_added, firsts, Distinct}
use Rattle.ob_watching.specs.WatchOuts.{Text}
use Rattle.ob_site_rules.specs.Build.{Path}
use Rattle.ob_site_rules.specs.declared.fault.Fault.{Fault}
use Rattle.ob_site_rules.specs.Replies.{entry}
use Rattle.ob_site_rules.specs.declared.plan.Plan.{Plan}
use Rattle.ob_site_rules.specs.State.{State}
use Rattle.ob_site_laws.specs.SiteLaws.{of_plan}
use Rattle.ob_client.specs.Entries.{text_of, each_once}
use Rattle.ob_client.proofs.TableLemmas.{bytes_eq_sym}

-- ---- hrefs that stand once

module _ (plan : Plan) where
  -- this href isn't that of one of these
  abbrev pub StandsApart : Text → List (Reading (of_plan plan)) → Type 0
  StandsApart t rs = AllByRecursion (λ r. bytes_eq t r.text ≡ false) rs

  abbrev pub AreApart : List (Reading (of_plan plan)) → Type 0
  AreApart [] = Unit {0}
  AreApart (r ∷ rs) = StandsApart r.text rs × AreApart rs

  none_among : (t : Text) (rs : List (Reading (of_plan plan))) → StandsApart t rs → is_among bytes_eq (map text_of (map entry rs)) t ≡ false
  none_among t [] h = refl
  none_among t (r ∷ rs) h = ap (λ b. b || is_among bytes_eq (map text_of (map entry rs)) t) h.0 ∙ none_among t rs h.1

  pub once_sent : (rs : List (Reading (of_plan plan))) → AreApart rs → each_once (map text_of (map entry rs)) ≡ true
  once_sent [] h = refl
  once_sent (r ∷ rs) h = ap (λ b. not b && each_once (map text_of (map entry rs))) (none_among r.text rs h.0) ∙ once_sent rs h.1

  abbrev Differs : Text → List (Item (of_plan plan)) → Type 0
  Differs t items = AllByRecursion (λ other. bytes_eq t other.text ≡ false) items

  -- ---- a pollRefresh

  all_apart : (s : State) (t : Text) (items : List (Item (of_plan plan))) → Differs t items → StandsApart t (map (reading (of_plan plan) s) items)
  all_apart s t [] h = tt
  all_apart s t (item ∷ items) h = (h.0, all_apart s t items h.1)

  pub refresh_apart : (s : State) (items : List (Item (of_plan plan))) → Distinct (of_plan plan) items → AreApart (map (reading (of_plan plan) s) items)
  refresh_apart s [] h = tt
  refresh_apart s (item ∷ items) h = (all_apart s item.text items h.0, refresh_apart s items h.1)

  -- ---- a pollChanges

  -- none, or one under this href
  abbrev IsAtMostOne : Text → List (Reading (of_plan plan)) → Type 0
  IsAtMostOne t [] = Unit {0}
  IsAtMostOne t (r ∷ []) = r.text ≡ t
  IsAtMostOne t (r ∷ (q ∷ rs)) = ⊥

  one_listed : (t : Text) (p : Path) (dropped : ℕ) (es : List Object) → IsAtMostOne t (lists_some (of_plan plan) t p dropped es)
  one_listed t p zero [] = tt
  one_listed t p zero (e ∷ es) = refl
  one_listed t p (suc k) es = refl

  one_changed : (s : State) (t : Text) (p : Path) (tracked : Tracked (of_plan plan)) → IsAtMostOne t (changes_of (of_plan plan) s t p tracked)
  one_changed s t p (ObjectItem false) = tt
  one_changed s t p (ObjectItem true) = refl
  one_changed s t p (FeedItem bounds given) = one_listed t p ((of_plan plan).gone s p - given) (filter ((of_plan plan).passes bounds) (since (of_plan plan) s p given))

  apart_from : (t u : Text) (first : List (Reading (of_plan plan))) → IsAtMostOne u first → bytes_eq t u ≡ false → StandsApart t first
  apart_from t u [] one e = tt
  apart_from t u (r ∷ []) one e = (ap (bytes_eq t) one ∙ e, tt)
  apart_from t u (r ∷ (q ∷ rs)) one e = absurd one

  apart_behind : (t : Text) (first rs : List (Reading (of_plan plan))) → IsAtMostOne t first → StandsApart t rs → AreApart rs → AreApart (first ++ rs)
  apart_behind t [] rs one other apart = apart
  apart_behind t (r ∷ []) rs one other apart = (subst (λ (u : Text). StandsApart u rs) (sym one) other, apart)
  apart_behind t (r ∷ (q ∷ rest)) rs one other apart = absurd one

  changes_from : (s : State) (t : Text) (items : List (Item (of_plan plan))) → Differs t items → StandsApart t (changes (of_plan plan) s items)
  changes_from s t [] h = tt
  changes_from s t (item ∷ items) h =
      all_both (λ (r : Reading (of_plan plan)). bytes_eq t r.text ≡ false) (changes_of (of_plan plan) s item.text item.path item.tracked) (changes (of_plan plan) s items)
      (apart_from t item.text (changes_of (of_plan plan) s item.text item.path item.tracked) (one_changed s item.text item.path item.tracked) h.0)
      (changes_from s t items h.1)

  pub changes_apart : (s : State) (items : List (Item (of_plan plan))) → Distinct (of_plan plan) items → AreApart (changes (of_plan plan) s items)
  changes_apart s [] h = tt
  changes_apart s (item ∷ items) h =
      apart_behind item.text (changes_of (of_plan plan) s item.text item.path item.tracked) (changes (of_plan plan) s items)
      (one_changed s item.text item.path item.tracked) (changes_from s item.text items h.0) (changes_apart s items h.1)

  -- ---- an add

  abbrev Input : Type 0
  Input = Text × Option Object

  new_among : (seen : List Text) (asked : List Input) → AllByRecursion (λ a. is_among bytes_eq seen a.0 ≡ false) (firsts (of_plan plan) seen asked)
  new_among seen [] = tt
  new_among seen (a ∷ asked) = go (is_among bytes_eq seen a.0) refl (new_among seen asked) (new_among (a.0 ∷ seen) asked)
    where
      weaker : (others : List Input) → AllByRecursion (λ b. is_among bytes_eq (a.0 ∷ seen) b.0 ≡ false) others → AllByRecursion (λ b. is_among bytes_eq seen b.0 ≡ false) others
      weaker [] h = tt
      weaker (b ∷ others) h = (neither_right (bytes_eq b.0 a.0) (is_among bytes_eq seen b.0) h.0, weaker others h.1)

      go : (b : Bool) → is_among bytes_eq seen a.0 ≡ b → AllByRecursion (λ c. is_among bytes_eq seen c.0 ≡ false) (firsts (of_plan plan) seen asked)
          → AllByRecursion (λ c. is_among bytes_eq (a.0 ∷ seen) c.0 ≡ false) (firsts (of_plan plan) (a.0 ∷ seen) asked)
          → AllByRecursion (λ c. is_among bytes_eq seen c.0 ≡ false) (cond b (firsts (of_plan plan) seen asked) (a ∷ firsts (of_plan plan) (a.0 ∷ seen) asked))
      go true e old new = old
      go false e old new = (e, weaker (firsts (of_plan plan) (a.0 ∷ seen) asked) new)

  abbrev AskedApart : List Input → Type 0
  AskedApart [] = Unit {0}
  AskedApart (a ∷ others) = AllByRecursion (λ b. bytes_eq a.0 b.0 ≡ false) others × AskedApart others

  firsts_apart : (seen : List Text) (asked : List Input) → AskedApart (firsts (of_plan plan) seen asked)
  firsts_apart seen [] = tt
  firsts_apart seen (a ∷ asked) = go (is_among bytes_eq seen a.0) (firsts_apart seen asked) (firsts_apart (a.0 ∷ seen) asked)
    where
      other : (others : List Input) → AllByRecursion (λ b. is_among bytes_eq (a.0 ∷ seen) b.0 ≡ false) others → AllByRecursion (λ b. bytes_eq a.0 b.0 ≡ false) others
      other [] h = tt
      other (b ∷ others) h = (bytes_eq_sym a.0 b.0 ∙ neither_left (bytes_eq b.0 a.0) (is_among bytes_eq seen b.0) h.0, other others h.1)

      go : (b : Bool) → AskedApart (firsts (of_plan plan) seen asked) → AskedApart (firsts (of_plan plan) (a.0 ∷ seen) asked)
          → AskedApart (cond b (firsts (of_plan plan) seen asked) (a ∷ firsts (of_plan plan) (a.0 ∷ seen) asked))
      go true old new = old
      go false old new = (other (firsts (of_plan plan) (a.0 ∷ seen) asked) (new_among (a.0 ∷ seen) asked), new)

  unless_text : (f : Option Fault) (s : State) (items : List (Item (of_plan plan))) (new : Item (of_plan plan)) → (added_unless (of_plan plan) f s items new).1.text ≡ new.text
  unless_text None s items new = refl
  unless_text (Some fault) s items new = refl

  added_text : (s : State) (room : Room) (items : List (Item (of_plan plan))) (new : Item (of_plan plan)) → (added (of_plan plan) s room items new).1.text ≡ new.text
  added_text s room items new = unless_text (refusal (of_plan plan) room items new.text) s items new

  found_text : (s : State) (room : Room) (items : List (Item (of_plan plan))) (t : Text) (found : Found Path Filter Fault) → (add_found (of_plan plan) s room items t found).1.text ≡ t
  found_text s room items t (NotFound fault) = refl
  found_text s room items t (ObjectAt path) = added_text s room items (record { text = t; path = path; tracked = ObjectItem false })
  found_text s room items t (FeedAt path bounds) = added_text s room items (record { text = t; path = path; tracked = FeedItem bounds (count (of_plan plan) s path) })

  module _ (s : State) (ns : List ℕ) (room : Room) where
    abbrev one : List (Item (of_plan plan)) → Input → List (Item (of_plan plan)) × Reading (of_plan plan)
    one items a = add_found (of_plan plan) s room items a.0 ((of_plan plan).find s ns a.0 a.1)

    one_text : (items : List (Item (of_plan plan))) (a : Input) → (one items a).1.text ≡ a.0
    one_text items a = found_text s room items a.0 ((of_plan plan).find s ns a.0 a.1)

    added_from : (t : Text) (items : List (Item (of_plan plan))) (asked : List Input) → AllByRecursion (λ b. bytes_eq t b.0 ≡ false) asked → StandsApart t (readings_added (of_plan plan) s ns room items asked)
    added_from t items [] h = tt
    added_from t items (a ∷ asked) h = (ap (bytes_eq t) (one_text items a) ∙ h.0, added_from t (one items a).0 asked h.1)

    added_apart : (items : List (Item (of_plan plan))) (asked : List Input) → AskedApart asked → AreApart (readings_added (of_plan plan) s ns room items asked)
    added_apart items [] h = tt
    added_apart items (a ∷ asked) h = (
      subst (λ (t : Text). StandsApart t (readings_added (of_plan plan) s ns room (one items a).0 asked)) (sym (one_text items a)) (added_from a.0 (one items a).0 asked h.0),
      added_apart (one items a).0 asked h.1,
    )

    pub firsts_sent : (items : List (Item (of_plan plan))) (asked : List Input) → AreApart (readings_added (of_plan plan) s ns room items (firsts (of_plan plan) [] asked))
    firsts_sent items asked = added_apart items (firsts (of_plan plan) [] asked) (firsts_apart [] asked)
