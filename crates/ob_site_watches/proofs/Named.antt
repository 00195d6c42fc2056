-- Entries of WatchOut have no names.
use Rattle.std.proofs.Common.{◌≡◌, ℕ, zero, suc, ◌-◌, Bool, true, false, cond, ◌&&◌, List, [], ◌∷◌, ◌++◌, map, Option, Some, None, refl, ap, ◌∙◌}
use Rattle.std.specs.Prelude.{is_none, unwrap_or}
use Rattle.std.specs.List.{filter, list_all}
use Rattle.std.proofs.lemmas.List.{map-append}
use Rattle.std.proofs.lemmas.List.Folds.{list_all-append}
use Rattle.ob_object.specs.Object.{Object as Node}
use Rattle.ob_history.specs.declared.records.Filter.{Filter}
use Rattle.ob_watching.specs.Operations.{ObjectAt, FeedAt, NotFound}
use Rattle.ob_watching.specs.Sites.{Site}
use Rattle.ob_watching.specs.Watches.{Item, TrackedOf, Object, Feed, Room, count, since, content_now, reading, changes, changes_of, lists_some, refusal, added, added_unless, add_found, readings_added}
use Rattle.ob_site_rules.specs.Build.{Text, Path, nameless as without_name, under_href}
use Rattle.ob_site_rules.specs.declared.fault.Fault.{Fault}
use Rattle.ob_site_rules.specs.declared.plan.Plan.{Plan}
use Rattle.ob_site_rules.specs.State.{State}
use Rattle.ob_site_rules.specs.Shown.{shown}
use Rattle.ob_site_rules.specs.Entries.{empty_object}
use Rattle.ob_site_rules.specs.Watched.{Asked, SiteFound}
use Rattle.ob_site_rules.specs.Replies.{Reading, entry, is_plain}
use Rattle.ob_site_rules.specs.Sites.{plain_or_empty}
use Rattle.ob_site_reads.proofs.Nameless.{nameless}
use Rattle.ob_watch.specs.OfPlan.{of_plan}

plain_named : (o : Node) → (plain_or_empty (under_href None (without_name o))).head.name ≡ None
plain_named o = elim (is_plain (under_href None (without_name o))) as (λ b. (let p : Node = cond b (under_href None (without_name o)) empty_object in p).head.name ≡ None) [ true ↦ refl | false ↦ refl ]

module _ (plan : Plan) where
  abbrev m : Site
  m = of_plan plan

  abbrev Flagged : Type 0
  Flagged = Item m

  -- the entry of what is read now has no name
  reading_named : (s : State) (text : Text) (path : Path) (t : TrackedOf Filter) → is_none (entry (record { text = text; content = content_now m s path t })).head.name ≡ true
  reading_named s text path (Object changed) = ap is_none (plain_named (unwrap_or (shown plan s path) empty_object))
  reading_named s text path (Feed bounds given) = refl

  both_true : (a b : Bool) → a ≡ true → b ≡ true → (a && b) ≡ true
  both_true a b h k = ap (λ x. x && b) h ∙ k

  pub readings_named : (s : State) (items : List Flagged) → list_all nameless (map entry (map (reading m s) items)) ≡ true
  readings_named s [] = refl
  readings_named s (i ∷ items) = both_true _ _ (reading_named s i.text i.path i.tracked) (readings_named s items)

  lists_named : (text : Text) (path : Path) (dropped : ℕ) (es : List Node) → list_all nameless (map entry (lists_some m text path dropped es)) ≡ true
  lists_named text path zero [] = refl
  lists_named text path zero (e ∷ es) = refl
  lists_named text path (suc n) es = refl

  change_named : (s : State) (text : Text) (path : Path) (t : TrackedOf Filter) → list_all nameless (map entry (changes_of m s text path t)) ≡ true
  change_named s text path (Object false) = refl
  change_named s text path (Object true) = both_true _ _ (ap is_none (plain_named (unwrap_or (shown plan s path) empty_object))) refl
  change_named s text path (Feed bounds given) = lists_named text path (m.gone s path - given) (filter (m.passes bounds) (since m s path given))

  appended : (xs ys : List Node) → list_all nameless xs ≡ true → list_all nameless ys ≡ true → list_all nameless (xs ++ ys) ≡ true
  appended xs ys h k = list_all-append nameless xs ys ∙ both_true _ _ h k

  pub changes_named : (s : State) (items : List Flagged) → list_all nameless (map entry (changes m s items)) ≡ true
  changes_named s [] = refl
  changes_named s (i ∷ items) =
      ap (list_all nameless) (map-append entry (changes_of m s i.text i.path i.tracked) (changes m s items))
      ∙ appended (map entry (changes_of m s i.text i.path i.tracked)) (map entry (changes m s items)) (change_named s i.text i.path i.tracked) (changes_named s items)

  unless_named : (f : Option Fault) (s : State) (items : List Flagged) (i : Flagged) → is_none (entry (added_unless m f s items i).1).head.name ≡ true
  unless_named None s items i = reading_named s i.text i.path i.tracked
  unless_named (Some fault) s items i = refl

  added_named : (s : State) (room : Room) (items : List Flagged) (i : Flagged) → is_none (entry (added m s room items i).1).head.name ≡ true
  added_named s room items i = unless_named (refusal m room items i.text) s items i

  found_named : (s : State) (room : Room) (items : List Flagged) (text : Text) (f : SiteFound) → is_none (entry (add_found m s room items text f).1).head.name ≡ true
  found_named s room items text (NotFound fault) = refl
  found_named s room items text (ObjectAt path) = added_named s room items (record { text = text; path = path; tracked = Object false })
  found_named s room items text (FeedAt path bounds) = added_named s room items (record { text = text; path = path; tracked = Feed bounds (count m s path) })

  pub added_all_named : (s : State) (ns : List ℕ) (room : Room) (items : List Flagged) (asked : List Asked) → list_all nameless (map entry (readings_added m s ns room items asked)) ≡ true
  added_all_named s ns room items [] = refl
  added_all_named s ns room items (a ∷ asked) =
      both_true _ _ (found_named s room items a.0 (m.find s ns a.0 a.1))
      (added_all_named s ns room (add_found m s room items a.0 (m.find s ns a.0 a.1)).0 asked)
