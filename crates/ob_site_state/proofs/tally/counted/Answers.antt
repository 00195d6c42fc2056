use Rattle.std.proofs.Common.{◌≡◌, ℕ, length, map, Option, Some, None, ap, ◌∙◌, arith}
use Rattle.std.specs.Prelude.{slice_get, slice_index_or}
use Rattle.ob_site_rules.specs.Build.{Path}
use Rattle.ob_site_rules.specs.State.{Log}
use Rattle.ob_site_rules.specs.Writes.{stored_in}
use Rattle.ob_site_state.specs.Kept.{entry_of}
use Rattle.ob_site_state.proofs.LogPlaces.{entry_there}
use Rattle.ob_site_state.proofs.Storing.{stored_more, capacity_there}
use Rattle.ob_site_state.proofs.tally.counted.Goals as goal

pub loop-place-preserved : goal.loop-place-preserved
loop-place-preserved c =
    let ls = map entry_of c.args.logs.now in
    let i = c.loop-place.place in
    let x = c.index-logs-place.result in
    let l : Path × Log = entry_of (slice_index_or c.args.logs.now i x) in
    let there : slice_get ls i ≡ Some l = entry_there i c.args.logs.now x c.loop-place-test.true c.index-logs-place.is in
    let cap : slice_index_or c.args.capacities.now i None ≡ l.1.capacity = capacity_there ls c.args.capacities.now i l c.requires there in
    let len : c.len.result ≡ length l.1.kept = c.len.ensures.len in
    let stored : c.stored_in-stored.result ≡ stored_in l.1.capacity (length l.1.kept) =
    c.stored_in-stored.ensures ∙ ap (λ (o : Option ℕ). stored_in o c.len.result) cap ∙ ap (λ (n : ℕ). stored_in l.1.capacity n) len in
    omega (arith, c.loop-place.invariant, c.saturating_add-total.ensures, stored, stored_more ls i l there)
