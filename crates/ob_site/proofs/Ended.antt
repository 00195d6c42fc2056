-- The end of a step that may have changed the state.
use Rattle.std.proofs.Common.{◌≡◌, ℕ, ◌≤◌, List, length, refl, sym, ap, ◌∙◌, subst}
use Rattle.ob_object.specs.Object.{Object as Node, parts}
use Rattle.ob_tree.specs.LastTouch.{Begins, done}
use Rattle.ob_tree.specs.Trees.{Stamped}
use Rattle.ob_step_laws.specs.Given.{TakesNoneAway}
use Rattle.ob_site_watches.specs.Known.{IsNumbered}
use Rattle.ob_site_watches.specs.Tables.{AllItems}
use Rattle.ob_site_watches.proofs.Keeping.{all_weaker, table_keeps}
use Rattle.ob_site_watches.proofs.Stamping.{stamps_are_past}
use Rattle.ob_site_settling.specs.Ended.{EndsAll}
use Rattle.ob_site_rules.specs.State.{roll}
use Rattle.ob_site_settling.specs.Ending.{IsOwn}
use Rattle.ob_site_settling.specs.Worlds.{WorldEnds}
use Rattle.ob_site_state.specs.Kept.{Kept}
use Rattle.ob_site_state.specs.Stamping.{after_step, stamped_by, tree_of}
use Rattle.ob_site_state.proofs.Stepping.{rooted}
use Rattle.ob_watch.specs.AsRules.{world_of}
use Rattle.ob_watch.specs.Marks.{AreStampsPast, IsMarkPast}
use Rattle.ob_watch.specs.Tables.{Table, lapsed_at, live}
use Rattle.ob_site.specs.Between.{HoldsBetweenSteps}
use Rattle.ob_site.specs.Ending.{IsEnded, NodesStay}
use Rattle.ob_site.specs.Views.{tree_with}
use Rattle.ob_site.proofs.Marks.{long_after}

-- the state at the end of a step in which these nodes are touched
abbrev pub closed : List ℕ → Kept → Kept
closed ns k = record (stamped_by ns k) { now = roll k.now; since = k.time; before = roll k.now }

tree_closed : (ns : List ℕ) (k : Kept) → tree_of (closed ns k) ≡ after_step ns (tree_of k)
tree_closed ns k =
    ap (λ (root : Node). let t : Stamped = record { root = root; stamps = (after_step ns (tree_of k)).stamps; steps = (after_step ns (tree_of k)).steps } in t)
    (sym (rooted ns (done Begins (tree_of k))))

module _ (k : Kept) (ns : List ℕ) (t : Table) (kept : HoldsBetweenSteps k.plan k.before k.stamps k.steps t) (ends : EndsAll k ns) (stay : NodesStay k.before k.now) (left : TakesNoneAway k.plan k.before k.now) where
  own_swept : AllItems (IsOwn k.before.tree) (live k.time t.watches)
  own_swept = (table_keeps (IsOwn k.before.tree)).lapses k.time t kept.own

  marks_swept : AllItems (IsMarkPast k.steps) (live k.time t.watches)
  marks_swept = (table_keeps (IsMarkPast k.steps)).lapses k.time t kept.marks

  by : WorldEnds k.plan k.before k.now ns (tree_of k) (lapsed_at k.time t)
  by = ends (lapsed_at k.time t) own_swept marks_swept

  long_now : length k.stamps ≡ parts k.now.tree
  long_now = kept.long ∙ sym stay.count

  past_now : AreStampsPast (tree_of k)
  past_now = stamps_are_past.others k.now.tree (tree_with k.before k.stamps k.steps) stay.count kept.past

  pub ended_so : IsEnded k (closed ns k) t (lapsed_at k.time t)
  ended_so = record {
    plan = refl;
    time = refl;
    since = refl;
    before = refl;
    count = stay.count;
    world = ap (λ (x : Stamped). world_of k.plan k.time (roll k.now) x (lapsed_at k.time t)) (tree_closed ns k) ∙ sym (by.ends k.time);
    kept = record {
      made = left.made;
      points = left.points;
      shallow = subst (λ (n : ℕ). n ≤ 32) (sym stay.nested) kept.shallow;
      long = long_after ns (tree_of k) long_now;
      past = subst AreStampsPast (sym (tree_closed ns k)) (stamps_are_past.steps ns (tree_of k) past_now);
      own = all_weaker (IsOwn k.before.tree) (IsOwn k.now.tree) (λ i own. stay.own i.path i.tracked own) (live k.time t.watches) own_swept;
      marks = by.marks;
      numbered = (table_keeps (IsNumbered k.plan)).lapses k.time t kept.numbered;
    };
  }

-- a step is ended so
pub ended_by : (k m n : Kept) (ns : List ℕ) (t u : Table) → HoldsBetweenSteps k.plan k.before k.stamps k.steps t → EndsAll k ns → NodesStay k.before k.now → TakesNoneAway k.plan k.before k.now
    → u ≡ lapsed_at k.time t → m ≡ stamped_by ns k → n ≡ record m { now = roll m.now; since = m.time; before = roll m.now } → IsEnded k n t u
ended_by k m n ns t u kept ends stay left swept stamped committed =
    let end : n ≡ closed ns k = committed ∙ ap (λ (x : Kept). let y : Kept = record x { now = roll x.now; since = x.time; before = roll x.now } in y) stamped in
    subst (λ (x : Kept). IsEnded k x t u) (sym end)
    (subst (λ (x : Table). IsEnded k (closed ns k) t x) (sym swept) (ended_so k ns t kept ends stay left))
