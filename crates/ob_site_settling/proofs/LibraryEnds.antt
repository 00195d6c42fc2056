-- The end of a step that left another library.
use Rattle.std.proofs.Common.{ℕ, ◌≡◌, zero, suc, ◌+◌, ◌-◌, ◌<◌, Bool, true, false, not, ◌&&◌, ◌||◌, cond, List, [], ◌++◌, length, Option, Some, option_map, refl, sym, ap, ◌∙◌, arith}
use Rattle.std.specs.Prelude.{Any, Contains, nat_lt, nat_le, slice_get}
use Rattle.std.proofs.lemmas.List.Elements.{All-contains}
use Rattle.std.proofs.lemmas.List.Folds.{Any-from_list_any, list_any-from_Any, list_any-append}
use Rattle.std.specs.List.{list_any}
use Rattle.std.proofs.lemmas.Bool.Decides.{nat_tests}
use Rattle.ob_values.proofs.Bools.{bool_same, is_false, not_both}
use Rattle.ob_values.proofs.Lists.{some_same}
use Rattle.ob_object.specs.declared.head.Head.{Head}
use Rattle.ob_object.specs.Object.{Objects, none, node, Object, count, parts}
use Rattle.ob_contracts.specs.Inherit.{Contracts}
use Rattle.ob_site_rules.specs.Build.{Path}
use Rattle.ob_site_rules.specs.declared.plan.Plan.{Plan}
use Rattle.ob_site_rules.specs.State.{State, roll}
use Rattle.ob_site_rules.specs.Shown.{dressed}
use Rattle.ob_shown_laws.specs.Alike.{without_slot, row, DifferInSlots, DifferInValues}
use Rattle.ob_shown_laws.specs.Changed.{is_watchable, PathsDiffer}
use Rattle.ob_shown_laws.proofs.Owning.{steps_alike}
use Rattle.ob_tree.specs.Laid.{head_at, paths}
use Rattle.ob_tree.specs.Paths.{place_of}
use Rattle.ob_tree.specs.Shown.{part_in, part_at}
use Rattle.ob_tree.specs.Trees.{Stamped}
use Rattle.ob_tree.specs.LastTouch.{Begins, done}
use Rattle.ob_tree.proofs.Lasting.{last_touches_stamp}
use Rattle.ob_tree.proofs.Within.{place_within}
use Rattle.ob_shown_laws.specs.Following.{is_same_watched}
use Rattle.ob_shown_laws.proofs.Owned.{part_there, own_trees_tell_changes, same_count}
use Rattle.ob_shown_laws.proofs.Followed.{part_less, stamps_follow}
use Rattle.ob_step_laws.specs.Defaults.{with_library, is_same}
use Rattle.ob_step_laws.proofs.Either.{changes_are_either, given_itself}
use Rattle.ob_step_laws.proofs.Reached.{defaults_stand, values_back}
use Rattle.ob_site_state.specs.Stamping.{after_step}
use Rattle.ob_site_state.proofs.Noting.{got_there, head_there}
use Rattle.ob_site_state.proofs.Stepping.{rooted}
use Rattle.ob_watch.specs.declared.item.Tracked.{Tracked}
use Rattle.ob_watch.specs.declared.item.Tracked.TheVariants as tracked
use Rattle.ob_watch.specs.Marks.{IsStampedNextBy}
use Rattle.ob_watch.proofs.LawLemmas.{as_rules}
use Rattle.ob_site_settling.specs.Ending.{AreChanged, IsOwnBy}
use Rattle.ob_site_settling.proofs.Ends.{stepped, next_stamp, there, later_mark}
use Rattle.ob_site_settling.proofs.Worlds.{world_ends}
use Rattle.ob_site_settling.specs.Otherwise.{IsOtherwise, AreOtherwise}
use Rattle.ob_site_settling.specs.Ended.{DiffersInDefaults, DefaultsEnd}
use Rattle.ob_site_settling.proofs.Inside.{reached}

-- an object of a number is there in a row of the same objects, and is the same but for its slot
record Alike (n : ℕ) (x : Object) (qs : Objects) : Type 0 where
  pub other : Object
  pub there : part_in n qs ≡ Some other
  pub head : without_slot x.head ≡ without_slot other.head

part_alike : (os qs : Objects) (n : ℕ) (x : Object) → DifferInSlots os qs → part_in n os ≡ Some x → Alike n x qs
part_alike none none n x d e = absurd cc
part_alike none (node k inner more) n x d e = absurd d
part_alike (node h below rest) none n x d e = absurd d
part_alike (node h below rest) (node k inner more) zero x d e =
    let same : record { head = h; inner = below } ≡ x = some_same e in
    record { other = record { head = k; inner = inner }; there = refl; head = ap (λ (o : Object). without_slot o.head) (sym same) ∙ d.0 }
part_alike (node h below rest) (node k inner more) (suc n) x d e =
    go (nat_lt n (count below)) e (ap (λ (m : ℕ). cond (nat_lt n m) (part_in n inner) (part_in (n - m) more)) (same_count below inner d.2))
    (λ f. part_alike below inner n x d.2 f) (λ f. part_alike rest more (n - count below) x d.3 f)
  where
    go : (b : Bool) → cond b (part_in n below) (part_in (n - count below) rest) ≡ Some x
        → cond (nat_lt n (count inner)) (part_in n inner) (part_in (n - count inner) more) ≡ cond b (part_in n inner) (part_in (n - count below) more)
        → (part_in n below ≡ Some x → Alike n x inner) → (part_in (n - count below) rest ≡ Some x → Alike (n - count below) x more) → Alike (suc n) x (node k inner more)
    go true e same deep later = let f = deep e in record { other = f.other; there = same ∙ f.there; head = f.head }
    go false e same deep later = let f = later e in record { other = f.other; there = same ∙ f.there; head = f.head }

-- numbers in a range
any_there : (test : ℕ → Bool) (ns : List ℕ) → list_any test ns ≡ true → (m : ℕ) × Contains ns m × (test m ≡ true)
any_there test ns e =
    let found : Any (λ m. test m ≡ true) ns = Any-from_list_any test ns e in
    (found.1, (found.0, found.2, found.3), found.4)

there_any : (test : ℕ → Bool) (ns : List ℕ) (m : ℕ) → Contains ns m → test m ≡ true → list_any test ns ≡ true
there_any test ns m c e = list_any-from_Any test ns (c.0, m, c.1, c.2, e)

in_itself : (n k : ℕ) → 0 < k → (nat_le n n && nat_lt n (n + k)) ≡ true
in_itself n k h = grind (arith, nat_tests)

-- which nodes of a number have one of those in them
any_otherwise : (plan : Plan) (s : State) (new : Contracts) (ms : List ℕ) → PathsDiffer (row (dressed plan s)) → AreOtherwise plan s new ms
    → (p : Path) (n : ℕ) (x : Object) → place_of p (paths s.tree) ≡ Some n → part_at n s.tree ≡ Some x → is_watchable x.head ≡ true
    → list_any (λ m. nat_le n m && nat_lt m (n + parts x)) ms ≡ not (is_same plan s (with_library new s) p)
any_otherwise plan s new ms differ are p n x at_n here watchable =
    bool_same (list_any test ms) (not same)
    (λ e. (let m : (m : ℕ) × Contains ms m × (test m ≡ true) = any_there test ms e in
    let other : (m.0 < parts s.tree) × IsOtherwise plan s new m.0 = All-contains (λ n. (n < parts s.tree) × IsOtherwise plan s new n) ms m.0 are.differ m.1 in
    ap not (is_false same (λ f. not_both (is_same plan s (with_library new s) other.1.0) (reached plan s new differ p n x at_n here watchable other.1.0 m.0 other.1.1 m.2 f) other.1.2))))
    (λ e. there_any test ms n (are.all n within (p, at_n, turned same e)) (in_itself n (parts x) (omega arith)))
  where
    test : ℕ → Bool
    test m = nat_le n m && nat_lt m (n + parts x)

    same : Bool
    same = is_same plan s (with_library new s) p

    within : n < parts s.tree
    within = place_within s.tree p n at_n

    turned : (b : Bool) → not b ≡ true → b ≡ false
    turned true e = absurd cc
    turned false e = refl

-- a stamp that is the next step's where one of two kinds of change has come
with_both : (touched more same also : Bool) (steps : ℕ) (o : Option ℕ) → more ≡ not also → option_map (λ old. cond touched steps old) o ≡ option_map (λ old. cond same old steps) o
    → option_map (λ old. cond (touched || more) steps old) o ≡ option_map (λ old. cond (same && also) old steps) o
with_both true more true true steps o e f = f
with_both true more true false steps o e f = refl
with_both true more false also steps o e f = refl
with_both false true same true steps o e f = absurd cc
with_both false false true true steps o e f = f
with_both false false false true steps o e f = f
with_both false true true false steps o e f = refl
with_both false true false false steps o e f = refl
with_both false false same false steps o e f = absurd cc

module _ (plan : Plan) (s u : State) (differs : DiffersInDefaults s u) (differ : PathsDiffer (row (dressed plan s))) (ns ms : List ℕ)
    (changed : AreChanged plan s (with_library s.library (roll u)) ns) (others : AreOtherwise plan (with_library s.library u) u.library ms)
    (tree : Stamped) (root : tree.root ≡ u.tree) (long : length tree.stamps ≡ parts tree.root) where
  -- the state at the end, with the library before
  abbrev last : State
  last = with_library s.library (roll u)

  -- and before histories dropped anything
  abbrev unrolled : State
  unrolled = with_library s.library u

  rolls : DifferInValues unrolled last
  rolls = (steps_alike plan).rolls unrolled

  apart : PathsDiffer (row (dressed plan unrolled))
  apart = (steps_alike plan).paths last unrolled (values_back unrolled last rolls) ((steps_alike plan).paths s last differs.values differ)

  -- what a watch shows is as before where neither has changed it
  either : (p : Path) → is_same_watched plan s (roll u) p ≡ (is_same_watched plan s last p && is_same plan unrolled (with_library u.library unrolled) p)
  either p =
      changes_are_either plan s last u.library differs.values differs.given differs.library p
      ∙ ap (λ b. is_same_watched plan s last p && b)
      (sym (defaults_stand plan unrolled last u.library rolls (given_itself (row u.tree)) (given_itself (row u.tree)) differs.library p))

  abbrev begun : Stamped
  begun = done Begins tree

  -- by the own object that is touched, or has one that is touched in it
  stamp : (p : Path) (n : ℕ) (h : Head) (x : Object) → place_of p (paths s.tree) ≡ Some n → head_at n s.tree ≡ Some h → part_at n s.tree ≡ Some x → x.head ≡ h → is_watchable h ≡ true
      → slice_get (after_step (ns ++ ms) tree).stamps n ≡ option_map (λ old. cond (is_same_watched plan s (roll u) p) old (tree.steps + 1)) (slice_get tree.stamps n)
  stamp p n h x at_n here part head watchable =
      let y : Alike n x (row u.tree) = part_alike (row s.tree) (row last.tree) n x differs.values.tree part in
      let at_u : place_of p (paths u.tree) ≡ Some n = (own_trees_tell_changes plan s last differs.values).places p ∙ at_n in
      let watched : is_watchable y.other.head ≡ true = ap (λ (k : Head). is_watchable k) (sym y.head) ∙ ap (λ (k : Head). is_watchable k) head ∙ watchable in
      let there : part_at n tree.root ≡ Some y.other = ap (part_at n) root ∙ y.there in
      let within : n < parts tree.root = omega (arith, part_less (row tree.root) n y.other there) in
      let test : ℕ → Bool = λ m. nat_le n m && nat_lt m (n + parts y.other) in
      let same : Bool = is_same_watched plan s last p in
      let also : Bool = is_same plan unrolled (with_library u.library unrolled) p in
      let stamps = last_touches_stamp begun n y.other long within there in
      let more : list_any test ms ≡ not also = any_otherwise plan unrolled u.library ms apart others p n y.other at_u y.there watched in
      let by_values : option_map (λ old. cond (list_any test ns) begun.steps old) (slice_get tree.stamps n) ≡ option_map (λ old. cond same old begun.steps) (slice_get tree.stamps n) =
      sym (stamps.many ns)
      ∙ stamps_follow plan s last differs.values differ changed.looked changed.left ns changed.numbers begun root long p n h at_n here watchable in
      stamps.many (ns ++ ms)
      ∙ ap (λ (b : Bool). option_map (λ (old : ℕ). cond b begun.steps old) (slice_get tree.stamps n)) (list_any-append test ns ms)
      ∙ with_both (list_any test ns) (list_any test ms) same also begun.steps (slice_get tree.stamps n) more by_values
      ∙ ap (λ (b : Bool). option_map (λ (old : ℕ). cond b old begun.steps) (slice_get tree.stamps n)) (sym (either p))

  stamped : (p : Path) (k : Tracked) → IsOwnBy s.tree p k → IsStampedNextBy tree (after_step (ns ++ ms) tree) k (not (is_same_watched plan s (roll u) p))
  stamped p (tracked.Object id mark) own =
      let n : ℕ = id.number in
      let v : Stamped = after_step (ns ++ ms) tree in
      let inside : n < parts s.tree = place_within s.tree p n own.0 in
      let within : n < parts tree.root = omega (arith, inside, same_count (row s.tree) (row u.tree) differs.values.tree, ap parts root) in
      let after : n < parts v.root = omega (arith, within, ap parts (rooted (ns ++ ms) begun)) in
      let head = head_there s.tree n inside in
      let part : (x : Object) × (part_at n s.tree ≡ Some x) × (x.head ≡ head.0) = part_there n s.tree head.0 head.1 in
      let old = got_there tree.stamps n (omega (arith, within, long)) in
      there v n after
      ∙ next_stamp (is_same_watched plan s (roll u) p) tree.steps old.0 (slice_get tree.stamps n) (slice_get v.stamps n) old.1
      (stamp p n head.0 part.0 own.0 head.1 part.1 part.2 (own.1 head.0 head.1))
      ∙ ap (λ (x : ℕ). cond (not (is_same_watched plan s (roll u) p)) (tree.steps + 1) x) (sym (there tree n within))
  stamped p (tracked.Feed feed filter given) own = tt

pub defaults_end : DefaultsEnd
defaults_end plan s u differs differ ns ms changed others tree root long table own past =
    world_ends plan s u (ns ++ ms) tree table
    (record {
      stamps = λ i own. stamped plan s u differs differ ns ms changed others tree root long i.path i.tracked own;
      settles = λ i own past.
          ((as_rules plan tree).1.1 []).settles s (roll u) (after_step (ns ++ ms) tree) i past
          (stamped plan s u differs differ ns ms changed others tree root long i.path i.tracked own);
      marks = λ i past. later_mark tree.steps (after_step (ns ++ ms) tree).steps i.tracked (stepped (ns ++ ms) (done Begins tree)) past;
      root = rooted (ns ++ ms) (done Begins tree);
      steps = stepped (ns ++ ms) (done Begins tree);
    })
    own past
