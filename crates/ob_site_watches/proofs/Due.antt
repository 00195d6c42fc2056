-- What has changed of items, one after the other.
use Rattle.std.proofs.Common.{◌≡◌, ℕ, zero, suc, ◌-◌, ◌+◌, ◌<◌, Bool, true, false, ◌||◌, List, [], ◌∷◌, ◌++◌, map, length, take, get_or, Some, None, refl, sym, ap, ◌∙◌, subst, append_assoc, arith}
use Rattle.std.specs.Prelude.{option_to_list, option_map, Option}
use Rattle.std.specs.List.{filter, list_any, AllByRecursion}
use Rattle.std.proofs.lemmas.List.{append-nil, map-append, take_more}
use Rattle.ob_object.specs.Object.{Object as Node, parts}
use Rattle.ob_tree.specs.Laid.{paths}
use Rattle.ob_tree.specs.Paths.{place_of}
use Rattle.ob_tree.proofs.Within.{place_within}
use Rattle.ob_history.specs.declared.records.Filter.{Filter}
use Rattle.ob_watching.specs.Sites.{Site}
use Rattle.ob_watching.specs.Watches.{TrackedOf, Item as Flagged, Object, Feed, since, changes, changes_of, lists_some, reading}
use Rattle.ob_site_rules.specs.Build.{Text, Path, under_href}
use Rattle.ob_site_rules.specs.declared.plan.Plan.{Plan}
use Rattle.ob_site_rules.specs.State.{State}
use Rattle.ob_site_rules.specs.Replies.{content_object, entry}
use Rattle.ob_site_state.specs.Feeds.{AreFeeds, feed_logs}
use Rattle.ob_site_state.specs.Kept.{Kept}
use Rattle.ob_site_state.specs.Stamping.{tree_of}
use Rattle.ob_watch.specs.declared.item.Item.{Item}
use Rattle.ob_watch.specs.OfPlan.{of_plan}
use Rattle.ob_watch.specs.Flags.{flags, flag_of}
use Rattle.ob_watch.specs.Items.{is_due}
use Rattle.ob_watch.proofs.LawLemmas.{reports_agree}
use Rattle.ob_site_watches.specs.Entries.{all_changes, all_readings, changes_in, reading_entry}
use Rattle.ob_site_watches.specs.Known.{AreSoundItems, IsSoundItem}
use Rattle.ob_site_watches.proofs.Feeding.{fed}

-- a node that is found at a path is one of the tree
pub placed_within : (o : Node) (p : Path) (n : ℕ) → place_of p (paths o) ≡ Some n → n < parts o
placed_within o p n e = place_within o p n e

-- what holds of all holds of each
pub known_at : {A : Type 0} (P : A → Type 0) (xs : List A) (k : ℕ) (x : A) → AllByRecursion P xs → k < length xs → x ≡ get_or xs k x → P x
known_at P [] k x all l e = absurd (omega (arith, l))
known_at P (y ∷ ys) zero x all l e = subst P (sym e) all.0
known_at P (y ∷ ys) (suc k) x all l e = known_at P ys k x all.1 (omega (arith, l)) e

module _ (m : Site) where
  -- what has changed of items and of one more
  changes_push : (s : m.State) (items : List (Flagged m)) (i : Flagged m) → changes m s (items ++ i ∷ []) ≡ changes m s items ++ changes_of m s i.text i.path i.tracked
  changes_push s [] i = append-nil (changes_of m s i.text i.path i.tracked)
  changes_push s (j ∷ items) i =
      ap (λ rs. changes_of m s j.text j.path j.tracked ++ rs) (changes_push s items i)
      ∙ sym (append_assoc (changes_of m s j.text j.path j.tracked) (changes m s items) (changes_of m s i.text i.path i.tracked))

module _ (plan : Plan) where
  abbrev m : Site
  m = of_plan plan

  lists_under : (text : Text) (path : Path) (dropped : ℕ) (es : List Node)
      → map entry (lists_some m text path dropped es) ≡ map (under_href (Some text)) (map (λ r. content_object r.content) (lists_some m text path dropped es))
  lists_under text path zero [] = refl
  lists_under text path zero (e ∷ es) = refl
  lists_under text path (suc n) es = refl

  under_text : (s : State) (text : Text) (path : Path) (t : TrackedOf Filter)
      → map entry (changes_of m s text path t) ≡ map (under_href (Some text)) (map (λ r. content_object r.content) (changes_of m s text path t))
  under_text s text path (Object false) = refl
  under_text s text path (Object true) = refl
  under_text s text path (Feed bounds given) = lists_under text path (m.gone s path - given) (filter (m.passes bounds) (since m s path given))

module _ (k : Kept) where
  abbrev site : Site
  site = of_plan k.plan

  -- an item that isn't due has no entry
  pub nothing_due : AreFeeds k.plan k.now → (i : Item) → IsSoundItem k i → is_due (tree_of k) (feed_logs k.now) i ≡ false → map entry (changes_in k i) ≡ []
  nothing_due feeds i known h = ap (map entry) ((reports_agree k.plan (tree_of k) (feed_logs k.now)).not_due k.now i (fed k.plan k.now feeds i known.numbered) h)

  -- the entry of what is due
  pub entry_due : (i : Item) (o : Option Node) → option_to_list o ≡ map (λ r. content_object r.content) (changes_in k i)
      → map entry (changes_in k i) ≡ option_to_list (option_map (under_href (Some i.text)) o)
  entry_due i o h = under_text k.plan k.now i.text i.path (flag_of (tree_of k) i.tracked) ∙ ap (map (under_href (Some i.text))) (sym h) ∙ listed o
    where
      listed : (o : Option Node) → map (under_href (Some i.text)) (option_to_list o) ≡ option_to_list (option_map (under_href (Some i.text)) o)
      listed None = refl
      listed (Some x) = refl

  -- what has changed of one more item
  pub changes_more : (items : List Item) (n : ℕ) (i : Item) → n < length items → i ≡ get_or items n i
      → all_changes k (take (n + 1) items) ≡ all_changes k (take n items) ++ map entry (changes_in k i)
  changes_more items n i l at =
      ap (all_changes k) (take_more items n i l ∙ ap (λ j. take n items ++ j ∷ []) (sym at))
      ∙ ap (λ is. map entry (changes site k.now is)) (map-append (flags (tree_of k)) (take n items) (i ∷ []))
      ∙ ap (map entry) (changes_push site k.now (map (flags (tree_of k)) (take n items)) (flags (tree_of k) i))
      ∙ map-append entry (changes site k.now (map (flags (tree_of k)) (take n items))) (changes_in k i)

  -- what is read of one more item
  pub read_more : (items : List Item) (n : ℕ) (i : Item) → n < length items → i ≡ get_or items n i
      → all_readings k (take (n + 1) items) ≡ all_readings k (take n items) ++ reading_entry k i ∷ []
  read_more items n i l at =
      ap (all_readings k) (take_more items n i l ∙ ap (λ j. take n items ++ j ∷ []) (sym at))
      ∙ ap (λ is. map entry (map (reading site k.now) is)) (map-append (flags (tree_of k)) (take n items) (i ∷ []))
      ∙ ap (map entry) (map-append (reading site k.now) (map (flags (tree_of k)) (take n items)) (flags (tree_of k) i ∷ []))
      ∙ map-append entry (map (reading site k.now) (map (flags (tree_of k)) (take n items))) (reading site k.now (flags (tree_of k) i) ∷ [])

  -- where nothing is due, nothing has an entry
  pub none_due : AreFeeds k.plan k.now → (items : List Item) → AreSoundItems k items → list_any (is_due (tree_of k) (feed_logs k.now)) items ≡ false → all_changes k items ≡ []
  none_due feeds [] known none = refl
  none_due feeds (i ∷ items) known none =
      let both = none_of (is_due (tree_of k) (feed_logs k.now) i) (list_any (is_due (tree_of k) (feed_logs k.now)) items) none in
      map-append entry (changes_in k i) (changes site k.now (map (flags (tree_of k)) items))
      ∙ ap (λ es. es ++ all_changes k items) (nothing_due feeds i known.0 both.0)
      ∙ none_due feeds items known.1 both.1
    where
      none_of : (a b : Bool) → (a || b) ≡ false → (a ≡ false) × (b ≡ false)
      none_of true b none = absurd (let e : true ≡ false = none in cc)
      none_of false b none = (refl, none)
