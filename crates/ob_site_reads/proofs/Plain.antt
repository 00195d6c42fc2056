-- An own node that can be watched is reported with all that is shown of it.
use Rattle.std.proofs.Common.{ℕ, ◌≡◌, Bool, true, false, not, ◌&&◌, cond, Option, Some, None, option_map, refl, sym, ap, ◌∙◌}
use Rattle.std.specs.Prelude.{option_and_then}
use Rattle.ob_values.proofs.Lists.{some_same}
use Rattle.ob_object.specs.declared.head.Head.{Head}
use Rattle.ob_object.specs.declared.kind.Kind.{Kind}
use Rattle.ob_object.specs.declared.kind.Kind.TheVariants as kind
use Rattle.ob_object.specs.Kinds.{same_kind}
use Rattle.ob_object.specs.Object.{Object, parts}
use Rattle.ob_object.specs.Paths.{node_path}
use Rattle.ob_contracts.specs.Inherit.{Contracts, Words, result_of, effective_of}
use Rattle.ob_site_rules.specs.Build.{Path, nameless, under_href}
use Rattle.ob_site_rules.specs.Entries.{empty_object}
use Rattle.ob_site_rules.specs.Replies.{is_plain}
use Rattle.ob_site_rules.specs.Shown.{rule_of, with_status, with_status_at, with_status_by}
use Rattle.ob_site_rules.specs.Sites.{plain_or_empty}
use Rattle.ob_site_rules.specs.declared.plan.Plan.{Plan}
use Rattle.ob_site_rules.specs.State.{State}
use Rattle.ob_tree.specs.Contexts.{Context, comes_to, under}
use Rattle.ob_shown_laws.specs.Changed.{is_watchable}
use Rattle.ob_shown_laws.specs.Own.{derived_own}
use Rattle.ob_tree.specs.Laid.{head_at}
use Rattle.ob_tree.specs.Shown.{handed_at, part_at, standing_at}
use Rattle.ob_shown_laws.specs.OwnTree.{own_shown_at}
use Rattle.ob_shown_laws.proofs.Owned.{part_there}
use Rattle.ob_site_reads.specs.Watchable.{IsWatchableAt}

-- statuses and what is inherited leave the kind
status_by : (plan : Plan) (s : State) (h : Head) (r : Option ℕ) → (with_status_by plan s h r).kind ≡ h.kind
status_by plan s h None = refl
status_by plan s h (Some rule) = refl

status_at : (plan : Plan) (s : State) (h : Head) (p : Option Path) → (with_status_at plan s h p).kind ≡ h.kind
status_at plan s h None = refl
status_at plan s h (Some p) = status_by plan s h (rule_of plan p)

effective_kind : (lib : Contracts) (o : Object) (implied : Option Words) (over : Option Object) → (effective_of lib o implied over).head.kind ≡ o.head.kind
unfolding result_of
effective_kind lib o implied over = refl

-- what is shown of an own object is of its kind
module _ (plan : Plan) (s : State) (n : ℕ) (o : Object) where
  abbrev shown_in : Option Object → Context → Option Object
  shown_in part c = option_map (λ x. comes_to c (derived_own plan s x)) part

  kind_of : (x : Object) (c : Context) → o ≡ comes_to c (derived_own plan s x) → o.head.kind ≡ x.head.kind
  kind_of x c is =
      ap (λ (y : Object). y.head.kind) is
      ∙ effective_kind c.library (derived_own plan s x) c.implied c.over
      ∙ status_at plan s x.head (node_path x.head)

  by_head : (q : Option Head) → head_at n s.tree ≡ q → Some o ≡ own_shown_at plan s n → (h : Head) × (head_at n s.tree ≡ Some h) × (o.head.kind ≡ h.kind)
  by_head None is e =
      let none : own_shown_at plan s n ≡ None =
      ap (λ (h : Option Head). option_and_then (shown_in (part_at n s.tree)) (option_map (λ h. under (handed_at s.library n s.tree) h.name) h)) is in
      absurd cc
  by_head (Some h) is e =
      let part = part_there n s.tree h is in
      let c : Context = under (handed_at s.library n s.tree) h.name in
      let shown : own_shown_at plan s n ≡ Some (comes_to c (derived_own plan s part.0)) =
      ap (λ (h : Option Head). option_and_then (shown_in (part_at n s.tree)) (option_map (λ h. under (handed_at s.library n s.tree) h.name) h)) is
      ∙ ap (λ (x : Option Object). shown_in x c) part.1 in
      (h, is, kind_of part.0 c (some_same (e ∙ shown)) ∙ ap (λ (h : Head). h.kind) part.2)

  watchable : Some o ≡ own_shown_at plan s n → IsWatchableAt n s.tree → is_plain (under_href None (nameless o)) ≡ true
  watchable e is =
      let found = by_head (head_at n s.tree) refl e in
      ap (λ (k : Kind). not (same_kind k kind.Feed) && not (same_kind k kind.Err)) found.2 ∙ is found.0 found.1

  -- a watch is told of as many objects as are shown
  pub told_whole : Some o ≡ own_shown_at plan s n → IsWatchableAt n s.tree → parts (plain_or_empty (under_href None (nameless o))) ≡ parts o
  told_whole e is = ap (λ (b : Bool). parts (cond b (under_href None (nameless o)) empty_object)) (watchable e is)
