use Rattle.std.proofs.Common.{◌≡◌, ℕ, Option, arith, ◌+◌, ◌^◌, Some, ◌<◌, List, ◌++◌, ◌∷◌, [], length, sym, ap, ◌∙◌, subst}
use Rattle.ob_times.specs.Times.{Instant, moment_instant}
use Rattle.ob_history.specs.declared.records.Record.{Record}
use Rattle.std.specs.Prelude.{slice_get}
use Rattle.ob_site_rules.specs.Build.{Path}
use Rattle.ob_site_rules.specs.State.{Log, State}
use Rattle.ob_site_rules.specs.Writes.{events_ever, with_record}
use Rattle.ob_site_state.specs.declared.change.Change.{Change}
use Rattle.ob_site_state.specs.declared.change.Change.TheVariants as change
use Rattle.ob_site_state.specs.Changes.{with_log, rewound}
use Rattle.ob_site_state.specs.Contents.{state_in}
use Rattle.ob_site_state.specs.Kept.{Kept}
use Rattle.ob_site_state.specs.declared.tally.Tally.{Tally}
use Rattle.ob_site_state.specs.Tallies.{count_at, growing_in}
use Rattle.ob_site_state.specs.States.{kept}
use Rattle.ob_site_state.proofs.LogPlaces.{follows_at}
use Rattle.ob_site_state.proofs.Noting.{got_there, record_noted, record_back, before_as, seen_as}
use Rattle.ob_site_state.proofs.Storing.{length-capacities, tallied_more}
use Rattle.ob_site_state.proofs.Rests.{roles_stay}
use Rattle.ob_site_state.specs.OwnContracts.{IsBound}
use Rattle.ob_site_state.proofs.OwnContracts.{bound_as}
use Rattle.ob_site_state.proofs.state.State.record.Goals as goal

pub record-requires-clause-in_order : goal.record-requires-clause-in_order
record-requires-clause-in_order c =
    let a = c.self.inside in
    follows_at a.time (record { time = c.abstime-time.result; kind = c.args.kind; slot = c.args.slot }) c.abstime-time.ensures c.args.place (state_in a.contents).logs c.self.invariant.kept.in_time

pub invariant_of-self-2 : goal.invariant_of-self-2
invariant_of-self-2 c =
    let a = c.self.inside in
    let s = state_in a.contents in
    let r : Record = record { time = c.abstime-time.result; kind = c.args.kind; slot = c.args.slot } in
    let ch : Change = change.Records c.args.place c.in_ok-len.len in
    let rest = c.record.ensures.rest in
    let items = c.push_reserved.new.self.items in
    let t = state_in c.record.new.self in
    let there = got_there s.logs c.args.place (subst (λ (k : Kept). c.args.place < length k.now.logs) (sym c.self.view_is) c.requires.there) in record {
      kept =
          record_noted a.plan a.time s (state_in c.record.new.self) a.contents.board c.record.new.self.board a.since a.found.items c.push_reserved.new.self.items r c.args.place c.in_ok-len.len c.self.invariant.kept rest.root rest.rules c.abstime-time.ensures
          (subst (λ (k : Kept). (l : Path × Log) → slice_get k.now.logs c.args.place ≡ Some l → events_ever l.1 + 1 < 2 ^ 63) (sym c.self.view_is) c.requires.counted)
          (subst (λ (k : Kept). c.args.place < length k.now.logs) (sym c.self.view_is) c.requires.there)
          c.in_ok-len.ensures.len c.in_ok-len.ensures.ok
          (c.push_reserved.ensures.items ∙ ap (λ (l : List Change). l ++ ch ∷ []) c.reserve.ensures.items);
      tallied =
          tallied_more a.tally c.add.new.self r c.args.place s.logs (rewound a.found.items s).logs t.logs (rewound items t).logs there.0 there.1 c.add.ensures
          (ap (λ (x : State). x.logs) c.in_ok-len.ensures.ok)
          (ap (λ (x : State). x.logs)
          (before_as s t a.found.items items ch (record_back s t r c.args.place c.in_ok-len.len c.in_ok-len.ensures.len c.in_ok-len.ensures.ok)
          (c.push_reserved.ensures.items ∙ ap (λ (l : List Change). l ++ ch ∷ []) c.reserve.ensures.items)))
          c.self.invariant.tallied;
      growing = subst (λ (x : Tally). (p : Path) → count_at x.growing p ≡ growing_in p a.plan.histories x.capacities.items) (sym c.add.ensures) c.self.invariant.growing;
      roles = roles_stay a.plan a.contents c.record.new.self rest.roles c.self.invariant.roles;
      bound = bound_as a.own s t (ap (λ (x : State). x.library) c.in_ok-len.ensures.ok) (ap (λ (x : State). x.tree) c.in_ok-len.ensures.ok) c.self.invariant.bound;
      bound_before =
          subst (IsBound a.own)
          (sym (before_as s t a.found.items items ch (record_back s t r c.args.place c.in_ok-len.len c.in_ok-len.ensures.len c.in_ok-len.ensures.ok) (c.push_reserved.ensures.items ∙ ap (λ (l : List Change). l ++ ch ∷ []) c.reserve.ensures.items)))
          c.self.invariant.bound_before;
    }

pub add-requires : goal.add-requires
add-requires c =
    let a = c.self.inside in
    let s = state_in a.contents in
    let there : c.args.place < length s.logs = subst (λ (k : Kept). c.args.place < length k.now.logs) (sym c.self.view_is) c.requires.there in
    omega (arith, length-capacities s.logs, ap (λ (cs : List (Option ℕ)). length cs) c.self.invariant.tallied.capacities)

pub returns-clause-ok : goal.returns-clause-ok
returns-clause-ok c =
    let a = c.self.inside in
    let s = state_in a.contents in
    let t = state_in c.record.new.self in
    let items = c.push_reserved.new.self.items in
    let with : Instant → Record = λ time. record { time = time; kind = c.args.kind; slot = c.args.slot } in
    let ch : Change = change.Records c.args.place c.in_ok-len.len in
    let rest = c.record.ensures.rest in
    seen_as (kept a) c.args.self.now (λ k. let x : State = record k.now { logs = with_log (with_record (with (moment_instant k.time))) c.args.place k.now.logs } in x) t (rewound items t) c.record.new.self.ground.tree.stamps c.record.new.self.ground.tree.steps c.self.view_is
    (c.in_ok-len.ensures.ok ∙ ap (λ (i : Instant). let x : State = record s { logs = with_log (with_record (with i)) c.args.place s.logs } in x) c.abstime-time.ensures)
    (before_as s t a.found.items items ch (record_back s t (with c.abstime-time.result) c.args.place c.in_ok-len.len c.in_ok-len.ensures.len c.in_ok-len.ensures.ok)
    (c.push_reserved.ensures.items ∙ ap (λ (l : List Change). l ++ ch ∷ []) c.reserve.ensures.items))
    rest.stamps rest.steps
