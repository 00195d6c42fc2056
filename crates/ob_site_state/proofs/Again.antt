-- A library that is taken where another one is noted: what was before the step stays.
use Rattle.std.proofs.Common.{◌≡◌, ℕ, true, List, [], ◌∷◌, refl, sym, ap, ◌∙◌, subst, true≢false}
use Rattle.std.specs.List.{list_any}
use Rattle.ob_contracts.specs.Inherit.{Contracts}
use Rattle.ob_alarms.specs.Changes.{State as Board}
use Rattle.ob_site_rules.specs.declared.plan.Plan.{Plan}
use Rattle.ob_site_rules.specs.State.{State, roll}
use Rattle.ob_site_state.specs.declared.change.Change.{Change}
use Rattle.ob_site_state.specs.declared.change.Change.TheVariants as change
use Rattle.ob_site_state.specs.Changes.{is_library, undone, rewound, CanUndo, CanRewind, IsTold, ChangesTell, IsNewest}
use Rattle.ob_site_state.specs.Kept.{IsConsistentState, IsSoundFor, LogsAreBy}
use Rattle.ob_site_state.proofs.Sound.{library_sound}

abbrev with_library : Contracts → State → State
with_library l s = record s { library = l }

-- the library once a change is taken back
abbrev before_one : Change → Contracts → Contracts
before_one (change.Slot node slot) l = l
before_one (change.Records place len) l = l
before_one (change.Event rule status) l = l
before_one (change.Contracts told) l = told.library

undone_with : (c : Change) (l : Contracts) (s : State) → undone c (with_library l s) ≡ with_library (before_one c l) (undone c s)
undone_with (change.Slot node slot) l s = refl
undone_with (change.Records place len) l s = refl
undone_with (change.Event rule status) l s = refl
undone_with (change.Contracts told) l s = refl

abbrev before_all : List Change → Contracts → Contracts
before_all [] l = l
before_all (c ∷ cs) l = before_one c (before_all cs l)

rewound_with : (cs : List Change) (l : Contracts) (s : State) → rewound cs (with_library l s) ≡ with_library (before_all cs l) (rewound cs s)
rewound_with [] l s = refl
rewound_with (c ∷ cs) l s = ap (undone c) (rewound_with cs l s) ∙ undone_with c (before_all cs l) (rewound cs s)

-- where one is noted, another one leaves nothing
pub rewound_again : (cs : List Change) (l : Contracts) (s : State) → list_any is_library cs ≡ true → rewound cs (with_library l s) ≡ rewound cs s
rewound_again [] l s e = absurd (true≢false (sym e))
rewound_again (change.Slot node slot ∷ cs) l s e = ap (undone (change.Slot node slot)) (rewound_again cs l s e)
rewound_again (change.Records place len ∷ cs) l s e = ap (undone (change.Records place len)) (rewound_again cs l s e)
rewound_again (change.Event rule status ∷ cs) l s e = ap (undone (change.Event rule status)) (rewound_again cs l s e)
rewound_again (change.Contracts told ∷ cs) l s e = ap (undone (change.Contracts told)) (rewound_with cs l s)

undo_with : (c : Change) (l : Contracts) (s : State) → CanUndo c s → CanUndo c (with_library l s)
undo_with (change.Slot node slot) l s can = can
undo_with (change.Records place len) l s can = can
undo_with (change.Event rule status) l s can = can
undo_with (change.Contracts told) l s can = can

rewind_with : (cs : List Change) (l : Contracts) (s : State) → CanRewind cs s → CanRewind cs (with_library l s)
rewind_with [] l s can = tt
rewind_with (c ∷ cs) l s can =
    (subst (λ (x : State). CanUndo c x) (sym (rewound_with cs l s)) (undo_with c (before_all cs l) (rewound cs s) can.0), rewind_with cs l s can.1)

told_with : (plan : Plan) (c : Change) (l : Contracts) (s : State) → IsTold plan c (undone c s) s → IsTold plan c (undone c (with_library l s)) (with_library l s)
told_with plan (change.Slot node slot) l s told = told
told_with plan (change.Records place len) l s told = told
told_with plan (change.Event rule status) l s told =
    let newest : IsNewest plan rule s = told.2 in
    (told.0, told.1, record { event = newest.event; alarm = newest.alarm; last = newest.last; there = newest.there; of_rule = newest.of_rule; known = newest.known })
told_with plan (change.Contracts library) l s told = tt

all_told_with : (plan : Plan) (cs : List Change) (l : Contracts) (s : State) → ChangesTell plan cs s → ChangesTell plan cs (with_library l s)
all_told_with plan [] l s told = tt
all_told_with plan (c ∷ cs) l s told =
    (subst (λ (x : State). IsTold plan c (undone c x) x) (sym (rewound_with cs l s)) (told_with plan c (before_all cs l) (rewound cs s) told.0), all_told_with plan cs l s told.1)

pub library_again : (plan : Plan) (time : ℕ) (s t : State) (b : Board) (since : ℕ) (found : List Change) (new : Contracts) → IsConsistentState plan time s b since found → list_any is_library found ≡ true
    → t ≡ record s { library = new } → IsConsistentState plan time t b since found
library_again plan time s t b since found new k noted is =
    let e : rewound found (with_library new s) ≡ rewound found s = rewound_again found new s noted in
    subst (λ (x : State). IsConsistentState plan time x b since found) (sym is) (record {
      root = k.root;
      rules = k.rules;
      histories = k.histories;
      apart = k.apart;
      well_formed = k.well_formed;
      differ = k.differ;
      in_time = k.in_time;
      sound = library_sound plan s new k.sound;
      later = k.later;
      can_rewind = rewind_with found new s k.can_rewind;
      told = all_told_with plan found new s k.told;
      in_time_before = subst (λ (x : State). LogsAreBy since x.logs) (sym e) k.in_time_before;
      rolled_before = subst (λ (x : State). roll x ≡ x) (sym e) k.rolled_before;
      sound_before = subst (λ (x : State). IsSoundFor plan x) (sym e) k.sound_before;
    })
