use Rattle.std.proofs.Common.{arith, sym, ap, subst, ◌∙◌, pos, ◌≤ℤ◌, ◌<◌, ℕ, List, length, get_or, map, to_z, of_z, w64, inl, inr}
use Rattle.std.proofs.lemmas.Int.{ints}
use Rattle.std.proofs.lemmas.Result.{IfOk-weaker}
use Rattle.jiff.specs.Words.{plain_zone}
use Rattle.ob_weekly.specs.declared.due.Due.{Due}
use Rattle.ob_weekly.specs.Firings.{firing_of}
use Rattle.ob_weekly.specs.Search.{AreDue}
use Rattle.ob_weekly.proofs.Told.{are_firings, all_moments, no_firings}
use Rattle.ob_weekly.proofs.schedule.Schedules.firings.Goals as goal

pub returns-then-to-low : goal.returns-then-to-low
returns-then-to-low c =
    no_firings (plain_zone c.args.self.now.zone) c.args.self.now.list.items c.args.from c.args.to c.new.result.items
    (elim c.window_start-low.ensures.is [
      | inl e ↦ omega (arith, ints, e, c.if-to-low.true, c.ms-to.ensures.value, c.window_start-low.ensures.fits)
      | inr e ↦ omega (arith, ints, e, c.if-to-low.true, c.ms-to.ensures.value, c.window_start-low.ensures.fits)
    ])
    c.new.ensures.items

pub firings_of-requires : goal.firings_of-requires
firings_of-requires c =
    let due = subst (λ ss. AreDue (plain_zone c.args.self.now.zone) ss (to_z w64 (of_z w64 c.window_start-low.result)) (to_z w64 c.ms-to.result) c.in_ok-dues.dues.items) c.deref.ensures.value c.in_ok-dues.ensures in
    subst (λ (l : List Due). (k : ℕ) (d : Due) → k < length l → (pos 0 ≤ℤ (get_or l k d).at) × ((get_or l k d).at ≤ℤ pos 253_402_300_799_999)) (sym c.deref-2.ensures.value)
    (all_moments (plain_zone c.args.self.now.zone) c.args.self.now.list.items (to_z w64 (of_z w64 c.window_start-low.result)) (to_z w64 c.ms-to.result) c.in_ok-dues.dues.items
    (omega (arith, ints, c.window_start-low.ensures.least.0, c.window_start-low.ensures.fits)) (omega (arith, ints, c.ms-to.ensures.range)) due)

pub returns : goal.returns
returns c =
    let least = c.window_start-low.ensures.least in
    let fits = c.window_start-low.ensures.fits in
    let due = subst (λ ss. AreDue (plain_zone c.args.self.now.zone) ss (to_z w64 (of_z w64 c.window_start-low.result)) (to_z w64 c.ms-to.result) c.in_ok-dues.dues.items) c.deref.ensures.value c.in_ok-dues.ensures in
    IfOk-weaker c.firings_of.result _ _ (λ firings told.
    are_firings (plain_zone c.args.self.now.zone) c.args.self.now.list.items c.args.from c.args.to (to_z w64 (of_z w64 c.window_start-low.result)) (to_z w64 c.ms-to.result) c.in_ok-dues.dues.items firings.items
    (omega (arith, ints, least.0, fits), omega (arith, ints, least.1, least.0, fits))
    (elim c.window_start-low.ensures.is [
      | inl e ↦ inl (omega (arith, ints, e, least.0, fits))
      | inr e ↦ inr (omega (arith, ints, e, least.0, fits))
    ])
    (omega (arith, ints, c.ms-to.ensures.value, c.ms-to.ensures.range))
    due (told ∙ ap (map firing_of) c.deref-2.ensures.value)) c.firings_of.ensures
