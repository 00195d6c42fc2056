-- The end of a step on a tree of own objects.
use Rattle.std.proofs.Common.{ℕ, ◌≡◌, ◌+◌, ◌<◌, Bool, true, false, not, cond, List, [], ◌∷◌, map, length, Option, Some, option_map, refl, sym, ap, ◌∙◌, arith}
use Rattle.std.specs.Prelude.{slice_get, unwrap_or}
use Rattle.ob_object.specs.Object.{parts}
use Rattle.ob_site_rules.specs.Build.{Path}
use Rattle.ob_site_rules.specs.declared.plan.Plan.{Plan}
use Rattle.ob_site_rules.specs.State.{State}
use Rattle.ob_site_rules.specs.Shown.{dressed}
use Rattle.ob_shown_laws.specs.Alike.{row, DifferInValues}
use Rattle.ob_shown_laws.specs.Changed.{PathsDiffer}
use Rattle.ob_tree.specs.Trees.{Stamped}
use Rattle.ob_tree.specs.LastTouch.{Begins, Touches, done, all_done}
use Rattle.ob_tree.proofs.Within.{place_within}
use Rattle.ob_shown_laws.specs.Following.{is_same_watched}
use Rattle.ob_shown_laws.proofs.Owned.{same_count}
use Rattle.ob_shown_laws.proofs.Followed.{stamps_follow}
use Rattle.ob_shown_laws.proofs.Bridging.{lt_true}
use Rattle.ob_site_state.proofs.Noting.{got_there, head_there}
use Rattle.ob_site_state.proofs.Stepping.{rooted}
use Rattle.ob_watch.specs.declared.item.Tracked.{Tracked}
use Rattle.ob_watch.specs.declared.item.Tracked.TheVariants as tracked
use Rattle.ob_watch.specs.Items.{stamp_of}
use Rattle.ob_watch.specs.Marks.{IsMarkPastBy, IsStampedNextBy}
use Rattle.ob_watch.proofs.LawLemmas.{as_rules}
use Rattle.ob_site_state.specs.Stamping.{after_step}
use Rattle.ob_site_settling.specs.Ending.{AreChanged, IsOwnBy, StepsEnd}

-- touches don't change the number of steps
pub stepped : (ns : List ℕ) (t : Stamped) → (all_done (map Touches ns) t).steps ≡ t.steps
stepped [] t = refl
stepped (n ∷ ns) t = stepped ns (done (Touches n) t)

-- a stamp that is the next step's where something has changed
pub next_stamp : (b : Bool) (steps old : ℕ) (o q : Option ℕ) → o ≡ Some old → q ≡ option_map (λ x. cond b x (steps + 1)) o
    → unwrap_or q 0 ≡ cond (not b) (steps + 1) (unwrap_or o 0)
next_stamp true steps old o q is next = ap (λ (x : Option ℕ). unwrap_or x 0) next ∙ ap (λ (x : Option ℕ). unwrap_or (option_map (λ (y : ℕ). y) x) 0) is ∙ sym (ap (λ (x : Option ℕ). unwrap_or x 0) is)
next_stamp false steps old o q is next = ap (λ (x : Option ℕ). unwrap_or x 0) next ∙ ap (λ (x : Option ℕ). unwrap_or (option_map (λ (y : ℕ). steps + 1) x) 0) is

pub there : (t : Stamped) (n : ℕ) → n < parts t.root → stamp_of t n ≡ unwrap_or (slice_get t.stamps n) 0
there t n h = ap (λ (b : Bool). cond b (unwrap_or (slice_get t.stamps n) 0) 0) (lt_true n (parts t.root) h)

stamped : (plan : Plan) (s t : State) → DifferInValues s t → PathsDiffer (row (dressed plan s)) → (ns : List ℕ) → AreChanged plan s t ns
    → (tree : Stamped) → tree.root ≡ t.tree → length tree.stamps ≡ parts tree.root
    → (p : Path) (k : Tracked) → IsOwnBy s.tree p k → IsStampedNextBy tree (after_step ns tree) k (not (is_same_watched plan s t p))
stamped plan s t values differ ns changed tree root long p (tracked.Object node mark) own =
    let n : ℕ = node.number in
    let u : Stamped = after_step ns tree in
    let inside : n < parts s.tree = place_within s.tree p n own.0 in
    let within : n < parts tree.root = omega (arith, inside, same_count (row s.tree) (row t.tree) values.tree, ap parts root) in
    let after : n < parts u.root = omega (arith, within, ap parts (rooted ns (done Begins tree))) in
    let head = head_there s.tree n inside in
    let old = got_there tree.stamps n (omega (arith, within, long)) in
    there u n after
    ∙ next_stamp (is_same_watched plan s t p) tree.steps old.0 (slice_get tree.stamps n) (slice_get u.stamps n) old.1
    (stamps_follow plan s t values differ changed.looked changed.left ns changed.numbers (done Begins tree) root long p n head.0 own.0 head.1 (own.1 head.0 head.1))
    ∙ ap (λ (x : ℕ). cond (not (is_same_watched plan s t p)) (tree.steps + 1) x) (sym (there tree n within))
stamped plan s t values differ ns changed tree root long p (tracked.Feed feed filter given) own = tt

pub later_mark : (steps more : ℕ) (k : Tracked) → more ≡ steps + 1 → IsMarkPastBy steps k → IsMarkPastBy more k
later_mark steps more (tracked.Object node mark) is past = omega (arith, past, is)
later_mark steps more (tracked.Feed feed filter given) is past = tt

pub steps_end : StepsEnd
steps_end plan s t values differ ns changed tree root long = record {
  stamps = λ i own. stamped plan s t values differ ns changed tree root long i.path i.tracked own;
  settles = λ i own past.
      ((as_rules plan tree).1.1 []).settles s t (after_step ns tree) i past
      (stamped plan s t values differ ns changed tree root long i.path i.tracked own);
  marks = λ i past. later_mark tree.steps (after_step ns tree).steps i.tracked (stepped ns (done Begins tree)) past;
  root = rooted ns (done Begins tree);
  steps = stepped ns (done Begins tree);
}
