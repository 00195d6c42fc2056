use Rattle.std.proofs.Common.{List, Option, map, length, sym, ap, ◌∙◌, subst, arith}
use Rattle.ob_history.specs.Logs.{History}
use Rattle.ob_site_rules.specs.Build.{Path}
use Rattle.ob_site_state.specs.declared.change.Change.{Change}
use Rattle.ob_site_state.specs.Changes.{rewound}
use Rattle.ob_site_state.specs.Contents.{state_in}
use Rattle.ob_site_state.specs.Kept.{IsConsistentState, entry_of}
use Rattle.ob_site_state.specs.Tallies.{IsTallied, growing_in}
use Rattle.ob_site_state.proofs.Growing.{beside_capacities}
use Rattle.ob_site_state.specs.OwnContracts.{IsBound}
use Rattle.ob_site_state.proofs.state.State.new.Goals as goal

pub new-requires-clause-beside : goal.new-requires-clause-beside
new-requires-clause-beside c =
    ap (λ (hs : List (Path × Option Path)). length hs) c.as_slice.ensures
    ∙ beside_capacities c.args.plan.histories (state_in c.args.contents).logs c.args.capacities.items c.requires.histories c.requires.capacities

-- nothing is noted yet, so the state before is the state now
pub invariant_of-result : goal.invariant_of-result
invariant_of-result c =
    let s = state_in c.args.contents in
    let tally = c.in_ok-tally.tally in
    let own = c.in_ok-own.own in
    let bound : IsBound own s = record { made = c.requires.made; stand = c.in_ok-own.ensures.stand; tied = c.in_ok-own.ensures.tied } in record {
      kept =
          subst (λ (l : List Change). IsConsistentState c.args.plan c.args.time s c.args.contents.board c.args.time l) (sym c.new-2.ensures.items) (record {
            root = c.requires.root;
            rules = c.requires.rules;
            histories = c.requires.histories;
            apart = c.requires.apart;
            well_formed = c.requires.well_formed;
            differ = c.requires.differ;
            in_time = c.requires.in_time;
            sound = c.requires.sound;
            later = omega arith;
            can_rewind = tt;
            told = tt;
            in_time_before = c.requires.in_time;
            rolled_before = c.requires.rolled;
            sound_before = c.requires.sound;
          });
      tallied =
          subst (λ (l : List Change). IsTallied tally s.logs (rewound l s).logs) (sym c.new-2.ensures.items)
          (subst (λ (ls : List (Path × History)). IsTallied tally (map entry_of ls) (map entry_of ls)) c.deref.ensures.value c.in_ok-tally.ensures.tallied);
      growing = λ p. c.in_ok-tally.ensures.growing p ∙ ap (λ (hs : List (Path × Option Path)). growing_in p hs tally.capacities.items) c.as_slice.ensures;
      roles = c.requires.roles;
      bound = bound;
      bound_before = subst (λ (l : List Change). IsBound own (rewound l s)) (sym c.new-2.ensures.items) bound;
    }
