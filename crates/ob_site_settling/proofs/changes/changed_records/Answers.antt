use Rattle.std.proofs.Common.{◌≡◌, ◌≤◌, Some, length, sym, ap, ◌∙◌, arith}
use Rattle.ob_tree.specs.Laid.{paths}
use Rattle.ob_tree.specs.Paths.{place_of}
use Rattle.ob_tree.specs.Trees.{Stamped}
use Rattle.ob_site_rules.specs.Build.{Path}
use Rattle.ob_site_rules.specs.State.{Log}
use Rattle.ob_site_state.specs.Kept.{entry_of, log_of}
use Rattle.ob_site_state.proofs.Noting.{got_there}
use Rattle.ob_site_settling.proofs.Looping.{records_other}
use Rattle.ob_site_settling.proofs.changes.changed_records.Goals as goal

pub shows_other_span-requires-clause-capacity : goal.shows_other_span-requires-clause-capacity
shows_other_span-requires-clause-capacity c =
    let there = got_there c.args.state.now.now.logs c.args.place c.requires.0 in
    ap (λ (l : Log). l.capacity) (c.log.ensures there.0 there.1) ∙ sym (c.capacity-capacity.ensures there.0 there.1)

pub shows_other_span-requires-clause-within : goal.shows_other_span-requires-clause-within
shows_other_span-requires-clause-within c =
    let there = got_there c.args.state.now.now.logs c.args.place c.requires.0 in
    let same : length c.log.result.now.kept ≡ length there.0.1.kept = ap (λ (l : Log). length l.kept) (c.log.ensures there.0 there.1) in
    let within : c.args.len ≤ length there.0.1.kept = c.requires.1 there.0 there.1 in
    omega (arith, same, within)

pub returns-then-shows_other_span : goal.returns-then-shows_other_span
returns-then-shows_other_span c =
    let there = got_there c.args.state.now.now.logs c.args.place c.requires.0 in
    let h = c.history.result.now in
    let both : Some (entry_of h) ≡ Some there.0 = sym c.history.ensures ∙ there.1 in
    let same : entry_of h ≡ there.0 = cc in
    records_other c.args.state.now.now c.args.place c.args.len there.0 (log_of c.log.result.now) h.0 c.shows_other_span.result _ there.1 (c.log.ensures there.0 there.1)
    c.shows_other_span.ensures c.if-shows_other_span.true (ap (λ (l : Path × Log). l.0) same)
    (c.get.ensures.place ∙ ap (λ (t : Stamped). place_of h.0 (paths t.root)) c.tree.ensures.value)
