-- What is known of the items of watches, from what holds between two steps, and back.
use Rattle.ob_object.specs.Object.{Object}
use Rattle.ob_site_watches.proofs.Keeping.{all_both, all_weaker}
use Rattle.ob_site_rules.specs.Build.{Path}
use Rattle.ob_site_state.specs.Kept.{Kept}
use Rattle.ob_site_settling.specs.Ending.{IsOwnBy, IsOwn}
use Rattle.ob_site_watches.specs.Answers.{AllKnown}
use Rattle.ob_site_watches.specs.Known.{IsNumbered, IsSoundItem, IsPlacedBy}
use Rattle.ob_watch.specs.declared.item.Tracked.{Tracked}
use Rattle.ob_watch.specs.declared.item.Tracked.TheVariants as tracked
use Rattle.ob_watch.specs.Marks.{IsMarkPast}
use Rattle.ob_watch.specs.Tables.{Table}
use Rattle.ob_site.specs.Between.{HoldsBetweenSteps}

placed_own : (o : Object) (p : Path) (k : Tracked) → IsPlacedBy o p k → IsOwnBy o p k
placed_own o p (tracked.Object node mark) placed = placed
placed_own o p (tracked.Feed feed filter given) placed = placed

own_placed : (o : Object) (p : Path) (k : Tracked) → IsOwnBy o p k → IsPlacedBy o p k
own_placed o p (tracked.Object node mark) own = own
own_placed o p (tracked.Feed feed filter given) own = own

module _ (k : Kept) where
  pub known_of : (t : Table) → HoldsBetweenSteps k.plan k.now k.stamps k.steps t → AllKnown k t
  known_of t kept =
      all_weaker (λ i. IsOwn k.now.tree i × (IsMarkPast k.steps i × IsNumbered k.plan i)) (IsSoundItem k)
      (λ i is. record { placed = own_placed k.now.tree i.path i.tracked is.0; numbered = is.1.1; past = is.1.0 }) t.watches
      (all_both (IsOwn k.now.tree) (λ i. IsMarkPast k.steps i × IsNumbered k.plan i) t.watches kept.own
      (all_both (IsMarkPast k.steps) (IsNumbered k.plan) t.watches kept.marks kept.numbered))

  -- other watches of which as much is known
  pub kept_through : (t u : Table) → HoldsBetweenSteps k.plan k.now k.stamps k.steps t → (AllKnown k t → AllKnown k u) → HoldsBetweenSteps k.plan k.now k.stamps k.steps u
  kept_through t u kept more =
      let known : AllKnown k u = more (known_of t kept) in record {
        made = kept.made;
        points = kept.points;
        shallow = kept.shallow;
        long = kept.long;
        past = kept.past;
        own = all_weaker (IsSoundItem k) (IsOwn k.now.tree) (λ i is. placed_own k.now.tree i.path i.tracked is.placed) u.watches known;
        marks = all_weaker (IsSoundItem k) (IsMarkPast k.steps) (λ i is. is.past) u.watches known;
        numbered = all_weaker (IsSoundItem k) (IsNumbered k.plan) (λ i is. is.numbered) u.watches known;
      }
