-- What the parts of a state owe one another, after a change that is noted and after all are taken back.
use Rattle.std.proofs.Common.{◌≡◌, ℕ, zero, suc, ◌+◌, ◌^◌, ◌<◌, ◌≤◌, Bool, true, false, ◌&&◌, List, [], ◌∷◌, ◌++◌, length, map, set, Option, Some, None, option_map, refl, sym, ap, ◌∙◌, subst, arith, IsTrue}
use Rattle.std.specs.Prelude.{slice_get}
use Rattle.ob_object.specs.declared.head.Head.{Head}
use Rattle.ob_object.specs.declared.head.Slot.{Slot}
use Rattle.ob_object.specs.declared.status.Status.{Status}
use Rattle.ob_object.specs.Fits.{fits_slot, fits_name, fits_lists, fits_facets}
use Rattle.ob_object.specs.Object.{Object, parts}
use Rattle.ob_object.specs.WellFormed.{IsWellFormed}
use Rattle.ob_object.specs.Paths.{node_path}
use Rattle.ob_contracts.specs.Inherit.{Contracts}
use Rattle.ob_alarms.specs.Changes.{State as Board}
use Rattle.ob_tree.specs.Paths.{Path as TreePath, first_twice, place_of}
use Rattle.ob_tree.specs.Laid.{heads_of, head_at, changed, paths}
use Rattle.ob_tree.proofs.Changing.{heads-changed, length-heads, parts-changed}
use Rattle.ob_tree.proofs.Naming.{well-changed, head_fits_at, slot_fits}
use Rattle.ob_tree.proofs.Placed.{paths-set}
use Rattle.ob_site_rules.specs.Build.{Path}
use Rattle.ob_site_rules.specs.declared.plan.Plan.{Plan}
use Rattle.ob_site_rules.specs.State.{Log, State, with_board, roll}
use Rattle.ob_site_rules.specs.Writes.{events_ever, with_record}
use Rattle.ob_history.specs.declared.records.Record.{Record}
use Rattle.ob_times.specs.Times.{moment_instant}
use Rattle.ob_tree.specs.declared.node.NodeId.{NodeId}
use Rattle.ob_ground.specs.Grounds.{Taught, WordsStand}
use Rattle.ob_site_state.specs.declared.change.Change.{Change}
use Rattle.ob_site_state.specs.declared.change.Change.TheVariants as change
use Rattle.ob_site_state.specs.Changes.{cut, undone, rewound, with_log, CanUndo, CanRewind, IsNode, IsTold, ChangesTell, AddsEvent}
use Rattle.ob_site_state.specs.Kept.{Kept, keys, LogsAreBy, IsSoundFor, IsConsistentState}
use Rattle.ob_site_state.proofs.Rewinding.{set_to, set_back, rewound-append, CanRewind-append, ChangesTell-append}
use Rattle.ob_site_state.proofs.Sound.{slot_sound, record_sound, library_sound, board_sound}
use Rattle.ob_site_state.proofs.Times.{LogsAreBy-later}
use Rattle.ob_site_state.proofs.LogPlaces.{keys-with_log, length-with_log, cut_back, record_told, recorded_by}

pub got_there : {A : Type 0} (xs : List A) (n : ℕ) → n < length xs → (x : A) × (slice_get xs n ≡ Some x)
got_there [] n h = absurd (omega arith)
got_there (x ∷ xs) zero h = (x, refl)
got_there (x ∷ xs) (suc n) h = got_there xs n (omega arith)

-- each number below the count of parts is that of an object
pub head_there : (o : Object) (n : ℕ) → n < parts o → (h : Head) × (head_at n o ≡ Some h)
head_there o n h = got_there (heads_of o) n (omega (arith, length-heads o.inner))

got_set : {A : Type 0} (xs : List A) (n : ℕ) (x y : A) → slice_get xs n ≡ Some x → slice_get (set xs n y) n ≡ Some y
got_set [] n x y e = absurd cc
got_set (z ∷ xs) zero x y e = refl
got_set (z ∷ xs) (suc n) x y e = got_set xs n x y e

-- what an object says whose slot was set
pub head_set : (o : Object) (n : ℕ) (g : Head) (slot : Slot) → head_at n o ≡ Some g → head_at n (changed (set_to slot) n o) ≡ Some (set_to slot g)
head_set o n g slot e = ap (λ (hs : List Head). slice_get hs n) (heads-changed (set_to slot) n o g e) ∙ got_set (heads_of o) n g (set_to slot g) e

-- a slot that is set moves no node
pub paths_stay : (o : Object) (n : ℕ) (slot : Slot) → n < parts o → paths (changed (set_to slot) n o) ≡ paths o
paths_stay o n slot h =
    let there = head_there o n h in
    ap (λ (hs : List Head). map node_path hs) (heads-changed (set_to slot) n o there.0 there.1) ∙ paths-set (heads_of o) n there.0 (set_to slot there.0) there.1 refl

slot_part : (a b c : Bool) → (a && (b && c)) ≡ true → b ≡ true
slot_part true true c h = refl
slot_part true false c h = absurd cc
slot_part false b c h = absurd cc

-- the slot of an own object fits its kind
pub own_fits : (o : Object) (n : ℕ) (g : Head) → IsWellFormed o → head_at n o ≡ Some g → IsTrue (fits_slot g.kind g.slot)
own_fits o n g well e = slot_part (fits_name g.name && fits_lists g) (fits_slot g.kind g.slot) (fits_facets g.kind g.facets) (head_fits_at o g n well e)

pub well_set : (o : Object) (n : ℕ) (slot : Slot) → IsWellFormed o → n < parts o → ((h : Head) → head_at n o ≡ Some h → IsTrue (fits_slot h.kind slot)) → IsWellFormed (changed (set_to slot) n o)
well_set o n slot well h fits =
    let there = head_there o n h in
    well-changed (set_to slot) (λ x. refl) there.0 (slot_fits there.0 slot (fits there.0 there.1) (head_fits_at o there.0 n well there.1)) o well n there.1

-- an old slot can be set again
pub can_set_back : (o : Object) (n : ℕ) (old new : Slot) (g : Head) → IsWellFormed o → head_at n o ≡ Some g → g.slot ≡ old
    → (h : Head) → head_at n (changed (set_to new) n o) ≡ Some h → IsTrue (fits_slot h.kind old)
can_set_back o n old new g well e is h f =
    let same : Some h ≡ Some (set_to new g) = sym f ∙ head_set o n g new e in
    let both : h ≡ set_to new g = cc in
    subst (λ (x : Head). IsTrue (fits_slot x.kind old)) (sym both) (subst (λ (x : Slot). IsTrue (fits_slot g.kind x)) is (own_fits o n g well e))

-- A change that is noted.
pub noted : (plan : Plan) (time : ℕ) (s t : State) (b c : Board) (since : ℕ) (found : List Change) (ch : Change) → IsConsistentState plan time s b since found
    → c.root ≡ b.root → c.rules ≡ b.rules → IsWellFormed t.tree → first_twice [] (paths t.tree) ≡ None → LogsAreBy time t.logs → keys t.logs ≡ keys s.logs → IsSoundFor plan t → CanUndo ch t → IsTold plan ch s t → undone ch t ≡ s
    → IsConsistentState plan time t c since (found ++ ch ∷ [])
noted plan time s t b c since found ch k root rules well differ by same sound can told back =
    let e : rewound (found ++ ch ∷ []) t ≡ rewound found s = rewound-append found ch t ∙ ap (rewound found) back in record {
      root = root ∙ k.root;
      rules = rules ∙ k.rules;
      histories = same ∙ k.histories;
      apart = k.apart;
      well_formed = well;
      differ = differ;
      in_time = by;
      sound = sound;
      later = k.later;
      can_rewind = CanRewind-append found ch t can (subst (λ (x : State). CanRewind found x) (sym back) k.can_rewind);
      told = ChangesTell-append plan found ch t (subst (λ (x : State). IsTold plan ch x t) (sym back) told) (subst (λ (x : State). ChangesTell plan found x) (sym back) k.told);
      in_time_before = subst (λ (x : State). LogsAreBy since x.logs) (sym e) k.in_time_before;
      rolled_before = subst (λ (x : State). roll x ≡ x) (sym e) k.rolled_before;
      sound_before = subst (λ (x : State). IsSoundFor plan x) (sym e) k.sound_before;
    }

pub before_noted : (s t : State) (found : List Change) (ch : Change) → undone ch t ≡ s → rewound (found ++ ch ∷ []) t ≡ rewound found s
before_noted s t found ch back = rewound-append found ch t ∙ ap (rewound found) back

-- the parts of what a state stands for
pub same_kept : (plan : Plan) (time since : ℕ) (s t u v : State) (xs ys : List ℕ) (m n : ℕ) → s ≡ t → u ≡ v → xs ≡ ys → m ≡ n
    → (let k : Kept = record { plan = plan; time = time; now = s; since = since; before = u; stamps = xs; steps = m } in k) ≡ record { plan = plan; time = time; now = t; since = since; before = v; stamps = ys; steps = n }
same_kept plan time since s t u v xs ys m n a b c d =
    ap (λ (x : State). let k : Kept = record { plan = plan; time = time; now = x; since = since; before = u; stamps = xs; steps = m } in k) a
    ∙ ap (λ (x : State). let k : Kept = record { plan = plan; time = time; now = t; since = since; before = x; stamps = xs; steps = m } in k) b
    ∙ ap (λ (x : List ℕ). let k : Kept = record { plan = plan; time = time; now = t; since = since; before = v; stamps = x; steps = m } in k) c
    ∙ ap (λ (x : ℕ). let k : Kept = record { plan = plan; time = time; now = t; since = since; before = v; stamps = ys; steps = x } in k) d

-- what a state stands for after a change, and before it
pub seen_as : (old k : Kept) (to : Kept → State) (t b : State) (xs : List ℕ) (n : ℕ) → old ≡ k → t ≡ to old → b ≡ old.before → xs ≡ old.stamps → n ≡ old.steps
    → (let x : Kept = record { plan = old.plan; time = old.time; now = t; since = old.since; before = b; stamps = xs; steps = n } in x) ≡ record k { now = to k }
seen_as old k to t b xs n e is before stamps steps =
    same_kept old.plan old.time old.since t (to old) b old.before xs old.stamps n old.steps is before stamps steps ∙ ap (λ (x : Kept). let y : Kept = record x { now = to x } in y) e

-- a slot that is set, and set back
pub slot_back : (s t : State) (node : NodeId) (old new : Slot) → node.number < parts s.tree → Some old ≡ option_map (λ (h : Head). h.slot) (head_at node.number s.tree) → t ≡ record s { tree = changed (set_to new) node.number s.tree }
    → undone (change.Slot node old) t ≡ s
slot_back s t node old new within was is =
    let there = head_there s.tree node.number within in
    let slot : Some old ≡ Some there.0.slot = was ∙ ap (option_map (λ (h : Head). h.slot)) there.1 in
    let same : there.0.slot ≡ old = cc in
    ap (undone (change.Slot node old)) is
    ∙ ap (λ (o : Object). let x : State = record s { tree = o } in x) (set_back s.tree node.number there.0 old new there.1 same)

pub slot_noted : (plan : Plan) (time : ℕ) (s t : State) (b c : Board) (since : ℕ) (found items : List Change) (node : NodeId) (old new : Slot) → IsConsistentState plan time s b since found
    → c.root ≡ b.root → c.rules ≡ b.rules → IsNode node.number s.tree → node.number < parts s.tree → ((h : Head) → head_at node.number s.tree ≡ Some h → IsTrue (fits_slot h.kind new))
    → Some old ≡ option_map (λ (h : Head). h.slot) (head_at node.number s.tree) → t ≡ record s { tree = changed (set_to new) node.number s.tree } → items ≡ found ++ change.Slot node old ∷ []
    → IsConsistentState plan time t c since items
slot_noted plan time s t b c since found items node old new k root rules there_is within fits was is all =
    let n : ℕ = node.number in
    let there = head_there s.tree n within in
    let slot : Some old ≡ Some there.0.slot = was ∙ ap (option_map (λ (h : Head). h.slot)) there.1 in
    let same : there.0.slot ≡ old = cc in
    let u : State = record s { tree = changed (set_to new) n s.tree } in
    let can : CanUndo (change.Slot node old) u = (
      subst (λ (m : ℕ). n < m) (sym (parts-changed (set_to new) n s.tree)) within,
      can_set_back s.tree n old new there.0 k.well_formed there.1 same,
    ) in
    subst (λ (l : List Change). IsConsistentState plan time t c since l) (sym all)
    (noted plan time s t b c since found (change.Slot node old) k root rules
    (subst (λ (x : State). IsWellFormed x.tree) (sym is) (well_set s.tree n new k.well_formed within fits))
    (subst (λ (x : State). first_twice [] (paths x.tree) ≡ None) (sym is) (ap (λ (ps : List (Option TreePath)). first_twice [] ps) (paths_stay s.tree n new within) ∙ k.differ))
    (subst (λ (x : State). LogsAreBy time x.logs) (sym is) k.in_time)
    (ap (λ (x : State). keys x.logs) is)
    (subst (λ (x : State). IsSoundFor plan x) (sym is) (slot_sound plan s n new k.differ there_is k.sound))
    (subst (λ (x : State). CanUndo (change.Slot node old) x) (sym is) can)
    (subst (λ (x : State). IsNode n x.tree) (sym is) (there_is.0, ap (place_of there_is.0) (paths_stay s.tree n new within) ∙ there_is.1))
    (slot_back s t node old new within was is))

-- a record that is put last, and cut off
pub record_back : (s t : State) (r : Record) (place len : ℕ) → Some len ≡ option_map (λ (l : Path × Log). length l.1.kept) (slice_get s.logs place) → t ≡ record s { logs = with_log (with_record r) place s.logs }
    → undone (change.Records place len) t ≡ s
record_back s t r place len was is =
    ap (undone (change.Records place len)) is ∙ ap (λ (ls : List (Path × Log)). let x : State = record s { logs = ls } in x) (cut_back r len place s.logs was)

pub record_noted : (plan : Plan) (time : ℕ) (s t : State) (b c : Board) (since : ℕ) (found items : List Change) (r : Record) (place len : ℕ) → IsConsistentState plan time s b since found
    → c.root ≡ b.root → c.rules ≡ b.rules → r.time ≡ moment_instant time → ((l : Path × Log) → slice_get s.logs place ≡ Some l → events_ever l.1 + 1 < 2 ^ 63) → place < length s.logs
    → Some len ≡ option_map (λ (l : Path × Log). length l.1.kept) (slice_get s.logs place) → t ≡ record s { logs = with_log (with_record r) place s.logs } → items ≡ found ++ change.Records place len ∷ []
    → IsConsistentState plan time t c since items
record_noted plan time s t b c since found items r place len k root rules at more within was is all =
    subst (λ (l : List Change). IsConsistentState plan time t c since l) (sym all)
    (noted plan time s t b c since found (change.Records place len) k root rules
    (subst (λ (x : State). IsWellFormed x.tree) (sym is) k.well_formed)
    (subst (λ (x : State). first_twice [] (paths x.tree) ≡ None) (sym is) k.differ)
    (subst (λ (x : State). LogsAreBy time x.logs) (sym is) (recorded_by time r at place s.logs k.in_time))
    (ap (λ (x : State). keys x.logs) is ∙ keys-with_log (with_record r) place s.logs)
    (subst (λ (x : State). IsSoundFor plan x) (sym is) (record_sound plan s r place more k.sound))
    (subst (λ (x : State). CanUndo (change.Records place len) x) (sym is) (subst (λ (n : ℕ). place < n) (sym (length-with_log (with_record r) place s.logs)) within))
    (subst (λ (x : State). IsTold plan (change.Records place len) s x) (sym is) (record_told r len place s.logs was))
    (record_back s t r place len was is))

-- an event
pub event_noted : (plan : Plan) (time : ℕ) (s t : State) (b c a : Board) (since : ℕ) (found items : List Change) (rule : ℕ) (status : Status) → IsConsistentState plan time s b since found
    → c.root ≡ b.root → c.rules ≡ b.rules → t ≡ with_board s a → AddsEvent true s t → IsTold plan (change.Event rule status) s (with_board s a) → items ≡ found ++ change.Event rule status ∷ []
    → IsConsistentState plan time t c since items
event_noted plan time s t b c a since found items rule status k root rules is adds told all =
    subst (λ (l : List Change). IsConsistentState plan time t c since l) (sym all)
    (noted plan time s t b c since found (change.Event rule status) k root rules
    (subst (λ (x : State). IsWellFormed x.tree) (sym is) k.well_formed)
    (subst (λ (x : State). first_twice [] (paths x.tree) ≡ None) (sym is) k.differ)
    (subst (λ (x : State). LogsAreBy time x.logs) (sym is) k.in_time)
    (ap (λ (x : State). keys x.logs) is)
    (subst (λ (x : State). IsSoundFor plan x) (sym is) (board_sound plan s a k.sound))
    adds.0 (subst (λ (x : State). IsTold plan (change.Event rule status) s x) (sym is) told) adds.1)

-- what was before is what it was
pub before_as : (s t : State) (found items : List Change) (ch : Change) → undone ch t ≡ s → items ≡ found ++ ch ∷ [] → rewound items t ≡ rewound found s
before_as s t found items ch back all = ap (λ (l : List Change). rewound l t) all ∙ before_noted s t found ch back

-- a later time
pub begun : (plan : Plan) (time later : ℕ) (s : State) (b : Board) (since : ℕ) (found : List Change) → IsConsistentState plan time s b since found → time ≤ later → IsConsistentState plan later s b since found
begun plan time later s b since found k h = record {
  root = k.root;
  rules = k.rules;
  histories = k.histories;
  apart = k.apart;
  well_formed = k.well_formed;
  differ = k.differ;
  in_time = LogsAreBy-later time later h s.logs k.in_time;
  sound = k.sound;
  later = omega (arith, k.later);
  can_rewind = k.can_rewind;
  told = k.told;
  in_time_before = k.in_time_before;
  rolled_before = k.rolled_before;
  sound_before = k.sound_before;
}

undone_well : (c : Change) (s : State) → CanUndo c s → IsWellFormed s.tree → IsWellFormed (undone c s).tree
undone_well (change.Slot node slot) s can well = well_set s.tree node.number slot well can.0 can.1
undone_well (change.Records place len) s can well = well
undone_well (change.Event rule status) s can well = well
undone_well (change.Contracts told) s can well = well

undone_differ : (c : Change) (s : State) → CanUndo c s → first_twice [] (paths s.tree) ≡ None → first_twice [] (paths (undone c s).tree) ≡ None
undone_differ (change.Slot node slot) s can differ = ap (λ (ps : List (Option TreePath)). first_twice [] ps) (paths_stay s.tree node.number slot can.0) ∙ differ
undone_differ (change.Records place len) s can differ = differ
undone_differ (change.Event rule status) s can differ = differ
undone_differ (change.Contracts told) s can differ = differ

keys-undone : (c : Change) (s : State) → keys (undone c s).logs ≡ keys s.logs
keys-undone (change.Slot node slot) s = refl
keys-undone (change.Records place len) s = keys-with_log (cut len) place s.logs
keys-undone (change.Event rule status) s = refl
keys-undone (change.Contracts told) s = refl

keys-rewound : (cs : List Change) (s : State) → keys (rewound cs s).logs ≡ keys s.logs
keys-rewound [] s = refl
keys-rewound (c ∷ cs) s = keys-undone c (rewound cs s) ∙ keys-rewound cs s

pub rewound_well : (cs : List Change) (s : State) → CanRewind cs s → IsWellFormed s.tree → IsWellFormed (rewound cs s).tree
rewound_well [] s can well = well
rewound_well (c ∷ cs) s can well = undone_well c (rewound cs s) can.0 (rewound_well cs s can.1 well)

pub rewound_differ : (cs : List Change) (s : State) → CanRewind cs s → first_twice [] (paths s.tree) ≡ None → first_twice [] (paths (rewound cs s).tree) ≡ None
rewound_differ [] s can differ = differ
rewound_differ (c ∷ cs) s can differ = undone_differ c (rewound cs s) can.0 (rewound_differ cs s can.1 differ)

-- All changes taken back.
pub taken_back : (plan : Plan) (time : ℕ) (s t : State) (b c : Board) (since : ℕ) (found : List Change) → IsConsistentState plan time s b since found
    → c.root ≡ b.root → c.rules ≡ b.rules → t ≡ rewound found s → IsConsistentState plan since t c since []
taken_back plan time s t b c since found k root rules is =
    let by : LogsAreBy since t.logs = subst (λ (x : State). LogsAreBy since x.logs) (sym is) k.in_time_before in record {
      root = root ∙ k.root;
      rules = rules ∙ k.rules;
      histories = ap (λ (x : State). keys x.logs) is ∙ keys-rewound found s ∙ k.histories;
      apart = k.apart;
      well_formed = subst (λ (x : State). IsWellFormed x.tree) (sym is) (rewound_well found s k.can_rewind k.well_formed);
      differ = subst (λ (x : State). first_twice [] (paths x.tree) ≡ None) (sym is) (rewound_differ found s k.can_rewind k.differ);
      in_time = by;
      sound = subst (λ (x : State). IsSoundFor plan x) (sym is) k.sound_before;
      later = omega arith;
      can_rewind = tt;
      told = tt;
      in_time_before = by;
      rolled_before = subst (λ (x : State). roll x ≡ x) (sym is) k.rolled_before;
      sound_before = subst (λ (x : State). IsSoundFor plan x) (sym is) k.sound_before;
    }

-- The same state, with other room for alarms.
pub kept_same : (plan : Plan) (time : ℕ) (s t : State) (b c : Board) (since : ℕ) (found : List Change) → IsConsistentState plan time s b since found → c.root ≡ b.root → c.rules ≡ b.rules → t ≡ s → IsConsistentState plan time t c since found
kept_same plan time s t b c since found k root rules is =
    subst (λ (x : State). IsConsistentState plan time x c since found) (sym is) (record {
      root = root ∙ k.root;
      rules = rules ∙ k.rules;
      histories = k.histories;
      apart = k.apart;
      well_formed = k.well_formed;
      differ = k.differ;
      in_time = k.in_time;
      sound = k.sound;
      later = k.later;
      can_rewind = k.can_rewind;
      told = k.told;
      in_time_before = k.in_time_before;
      rolled_before = k.rolled_before;
      sound_before = k.sound_before;
    })

-- a library that is taken, and taken back
pub library_back : (s t : State) (old : Taught) (new : Contracts) → old.library ≡ s.library → t ≡ record s { library = new } → undone (change.Contracts old) t ≡ s
library_back s t old new was is = ap (undone (change.Contracts old)) is ∙ ap (λ (l : Contracts). let x : State = record s { library = l } in x) was

pub library_noted : (plan : Plan) (time : ℕ) (s t : State) (b : Board) (since : ℕ) (found items : List Change) (old : Taught) (new : Contracts) → IsConsistentState plan time s b since found
    → old.library ≡ s.library → WordsStand s.tree old → t ≡ record s { library = new } → items ≡ found ++ change.Contracts old ∷ [] → IsConsistentState plan time t b since items
library_noted plan time s t b since found items old new k was told is all =
    subst (λ (l : List Change). IsConsistentState plan time t b since l) (sym all)
    (noted plan time s t b b since found (change.Contracts old) k refl refl
    (subst (λ (x : State). IsWellFormed x.tree) (sym is) k.well_formed)
    (subst (λ (x : State). first_twice [] (paths x.tree) ≡ None) (sym is) k.differ)
    (subst (λ (x : State). LogsAreBy time x.logs) (sym is) k.in_time)
    (ap (λ (x : State). keys x.logs) is)
    (subst (λ (x : State). IsSoundFor plan x) (sym is) (library_sound plan s new k.sound))
    (subst (λ (x : State). WordsStand x.tree old) (sym is) told) tt
    (library_back s t old new was is))
