-- What hrefs are added as.
use Rattle.std.proofs.Common.{◌≡◌, ℕ, ◌≤◌, List, Option, Some, refl, sym, ap, ◌∙◌, subst, arith}
use Rattle.ob_object.specs.Object.{Object as Node}
use Rattle.ob_tree.specs.Laid.{head_at, paths}
use Rattle.ob_tree.specs.Paths.{place_of}
use Rattle.ob_tree.specs.declared.node.NodeId.{NodeId}
use Rattle.ob_history.specs.declared.records.Filter.{Filter}
use Rattle.ob_watching.specs.Operations.{ObjectAt, FeedAt, Refuses}
use Rattle.ob_watching.specs.Sites.{Site}
use Rattle.ob_watching.specs.Watches.{Item as Flagged, Room, add_found, added}
use Rattle.ob_site_watches.specs.Watched.{IsOwnFound}
use Rattle.ob_site_rules.specs.Build.{Path, Text}
use Rattle.ob_site_rules.specs.Faults.{err}
use Rattle.ob_site_rules.specs.Locating.{locate}
use Rattle.ob_site_rules.specs.Replies.{Reading, entry}
use Rattle.ob_site_rules.specs.Sites.{found}
use Rattle.ob_site_rules.specs.State.{State}
use Rattle.ob_site_rules.specs.Watched.{Asked, SiteFound}
use Rattle.ob_site_rules.specs.declared.fault.Fault.{Fault}
use Rattle.ob_site_state.specs.Feeds.{AreFeeds, feed_logs}
use Rattle.ob_site_state.specs.Kept.{Kept}
use Rattle.ob_site_state.specs.Stamping.{tree_of}
use Rattle.ob_watch.specs.declared.item.Item.{Item}
use Rattle.ob_watch.specs.OfPlan.{of_plan}
use Rattle.ob_watch.specs.Feeds.{ever, feed_at, feed_place}
use Rattle.ob_watch.specs.Items.{feed_item, object_item}
use Rattle.ob_watch.specs.Marks.{AreStampsPast}
use Rattle.ob_watch.proofs.LawLemmas.{reports_agree}
use Rattle.ob_site_watches.specs.declared.offering.Offer.TheVariants as offer
use Rattle.ob_site_watches.specs.Offered.{IsItemFor, IsOffered, IsRefusedFor, refused_entry}

module _ (k : Kept) where
  abbrev m : Site
  m = of_plan k.plan

  abbrev s : State
  s = k.now

  -- an own node
  pub object_for : (text : Text) (path : Path) (node : NodeId) → AreStampsPast (tree_of k) → IsOwnFound k.plan k.now.tree (ObjectAt path) → Some node.number ≡ place_of path (paths k.now.tree)
      → IsItemFor k text (ObjectAt path) (object_item text path node k.steps)
  object_for text path node past own there = record {
    adds = λ room items. ap (added m s room items) (sym ((reports_agree k.plan (tree_of k) (feed_logs k.now)).adds past text path node));
    known = record { placed = (sym there, λ h e. own.2 h (ap (λ (n : ℕ). head_at n k.now.tree) (same_number own.0 node.number (sym own.1 ∙ sym there)) ∙ e)); numbered = record {}; past = (let e : k.steps ≤ k.steps = omega arith in e) };
  }
    where
      same_number : (a b : ℕ) → (let r : Option ℕ = Some a in r) ≡ Some b → a ≡ b
      same_number a b e = cc

  -- a feed
  pub feed_for : (text : Text) (path : Path) (filter : Filter) (feed given : ℕ) → AreFeeds k.plan k.now → feed_place k.plan path ≡ Some feed → given ≡ ever (feed_at (feed_logs k.now) feed)
      → IsItemFor k text (FeedAt path filter) (feed_item text path feed filter given)
  feed_for text path filter feed given feeds numbered all = subst (λ (n : ℕ). IsItemFor k text (FeedAt path filter) (feed_item text path feed filter n)) (sym all) (record {
    adds = λ room items. ap (added m s room items) (sym ((reports_agree k.plan (tree_of k) (feed_logs k.now)).adds_feed s text path feed filter (feeds path feed numbered)));
    known = record { placed = record {}; numbered = numbered; past = record {} };
  })

  abbrev there : List ℕ → Asked → SiteFound
  there ns asked = found locate k.plan s ns asked.0 asked.1

  -- what is found is offered
  pub item_offered : (ns : List ℕ) (asked : Asked) (text : Text) (f : SiteFound) (item : Item) → text ≡ asked.0 → f ≡ there ns asked
      → IsItemFor k text f item → IsOffered k ns asked (offer.Item item)
  item_offered ns asked text f item same_text same_found is =
      subst (λ (g : SiteFound). IsItemFor k asked.0 g item) same_found (subst (λ (x : Text). IsItemFor k x f item) same_text is)

  pub refusal_offered : (ns : List ℕ) (asked : Asked) (text : Text) (f : SiteFound) (fault : Fault) (o : Node) → text ≡ asked.0 → f ≡ there ns asked
      → IsRefusedFor k text f fault → o ≡ refused_entry asked.0 fault → IsOffered k ns asked (offer.Refused o)
  refusal_offered ns asked text f fault o same_text same_found is e =
      λ room items. (ap (λ (p : List (Flagged m) × Reading). p.0) (here room items), ap (λ (p : List (Flagged m) × Reading). entry p.1) (here room items) ∙ sym e)
    where
      here : (room : Room) (items : List (Flagged m)) → add_found m s room items asked.0 (there ns asked) ≡ (items, record { text = asked.0; content = Refuses (err fault) })
      here room items = subst (λ (g : SiteFound). add_found m s room items asked.0 g ≡ (items, record { text = asked.0; content = Refuses (err fault) })) same_found
          (subst (λ (x : Text). add_found m s room items x f ≡ (items, record { text = x; content = Refuses (err fault) })) same_text (is room items))
