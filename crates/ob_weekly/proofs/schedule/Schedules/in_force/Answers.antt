use Rattle.std.proofs.Common.{◌≡◌, ◌≤◌, ◌∙◌, sym, subst, arith, List, length, Some, pos}
use Rattle.std.specs.Prelude.{slice_get}
use Rattle.std.specs.List.{Contains}
use Rattle.std.specs.List.Sorted.{IsStrictlySortedBy}
use Rattle.std.proofs.lemmas.Int.{ints}
use Rattle.jiff.specs.Words.{plain_zone}
use Rattle.ob_weekly.specs.declared.due.Due.{Due}
use Rattle.ob_weekly.specs.declared.schedule.Schedule.{Schedule}
use Rattle.ob_weekly.specs.Firings.{due_cmp}
use Rattle.ob_weekly.proofs.Force.{some_due, entry_below, in_force}
use Rattle.ob_weekly.proofs.schedule.Schedules.in_force.Goals as goal

pub last_due-last-requires : goal.last_due-last-requires
last_due-last-requires c =
    let span = c.between-span.result in
    let low_is = c.between-span.ensures.0 in
    let to_is = c.between-span.ensures.1 in
    let near = c.known_firing-known.ensures.near in
    let range = c.ms-to.ensures.range in
    subst (λ (l : List Due). 1 ≤ length l) (sym c.deref-2.ensures.value)
    (some_due (plain_zone c.args.self.now.zone) c.args.schedule c.entries_at-entries.result.now span.low span.to c.known_firing-known.result c.entry_at.result.now c.in_ok-dues.dues.items
    c.in_ok-dues.ensures c.entry_at.ensures c.known_firing-known.ensures.fires (omega (arith, ints, low_is, near, range)) (omega (arith, ints, to_is, near.1)))

pub slot_at-requires : goal.slot_at-requires
slot_at-requires c =
    entry_below (plain_zone c.args.self.now.zone) c.args.schedule c.entries_at-entries.result.now _ _ c.in_ok-dues.dues.items c.last_due-last.result
    c.in_ok-dues.ensures (subst (λ (l : List Due). Contains l c.last_due-last.result) c.deref-2.ensures.value c.last_due-last.ensures.one)

pub returns : goal.returns
returns c =
    let s = c.entries_at-entries.ensures.is in
    let e = c.slot_at.ensures in
    let dues_are = c.deref-2.ensures.value in
    let to_is : c.between-span.result.to ≡ pos c.args.moment = c.between-span.ensures.1 ∙ omega (arith, ints, c.ms-to.ensures.value, c.ms-to.ensures.range) in
    in_force (plain_zone c.args.self.now.zone) c.args.self.now.list.items c.args.schedule c.args.moment s.0 c.entries_at-entries.result.now _ c.between-span.result.to c.in_ok-dues.dues.items c.last_due-last.result e.0 c.slot_at.result.now
    (subst (λ (l : List Schedule). slice_get l c.args.schedule ≡ Some s.0) c.deref.ensures.value s.1) s.2 to_is c.in_ok-dues.ensures
    (subst (λ (l : List Due). Contains l c.last_due-last.result) dues_are c.last_due-last.ensures.one)
    (λ d h. c.last_due-last.ensures.last (subst (IsStrictlySortedBy due_cmp) (sym dues_are) c.in_ok-dues.ensures.order) d (subst (λ (l : List Due). Contains l d) (sym dues_are) h))
    e.1 e.2
