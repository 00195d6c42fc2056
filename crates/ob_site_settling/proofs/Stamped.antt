-- The end of the step that a state is in.
use Rattle.std.proofs.Common.{ℕ, ◌≡◌, ◌<◌, List, ◌++◌, length, All, refl, sym, ap, ◌∙◌, subst}
use Rattle.std.proofs.lemmas.List.{map-append}
use Rattle.std.proofs.lemmas.List.Elements.{All-append}
use Rattle.ob_object.specs.Object.{parts}
use Rattle.ob_site_rules.specs.State.{State, roll}
use Rattle.ob_site_rules.specs.Shown.{dressed}
use Rattle.ob_shown_laws.specs.Alike.{row, DifferInValues}
use Rattle.ob_shown_laws.specs.Changed.{PathsDiffer}
use Rattle.ob_tree.specs.declared.node.NodeId.{NodeId}
use Rattle.ob_step_laws.specs.Defaults.{with_library}
use Rattle.ob_step_laws.specs.Given.{TakesNoneAway}
use Rattle.ob_site_state.specs.declared.change.Change.{Change}
use Rattle.ob_site_state.specs.Changes.{rewound, CanRewind, ChangesTell}
use Rattle.ob_site_state.specs.Kept.{Kept}
use Rattle.ob_site_state.specs.Stamping.{tree_of}
use Rattle.ob_site_state.proofs.Stepping.{numbers_of}
use Rattle.ob_site_settling.specs.Ending.{AreChanged}
use Rattle.ob_site_settling.specs.Telling.{ended_in_values}
use Rattle.ob_site_settling.proofs.Slots.{notes_are_values}
use Rattle.ob_site_settling.proofs.Worlds.{worlds_end}
use Rattle.ob_site_settling.specs.Otherwise.{AreOtherwise}
use Rattle.ob_site_settling.specs.Ended.{EndsAll}
use Rattle.ob_site_settling.proofs.LibraryEnds.{defaults_end}

-- but for another library it changes values alone
pub noted_values : (k : Kept) (found : List Change) → rewound found k.now ≡ k.before → CanRewind found k.now → ChangesTell k.plan found k.now → DifferInValues k.before (ended_in_values k)
noted_values k found is can told =
    subst (λ (s : State). DifferInValues s (with_library s.library (roll k.now))) is (notes_are_values k.plan found k.now can told)

-- where it left the library, what it changed is all
pub values_end : (k : Kept) (ns : List ℕ) → DifferInValues k.before (roll k.now) → PathsDiffer (row (dressed k.plan k.before)) → AreChanged k.plan k.before (roll k.now) ns
    → length k.stamps ≡ parts k.now.tree → EndsAll k ns
values_end k ns values differ changed long = λ table own past. worlds_end k.plan k.before k.now values differ ns changed (tree_of k) refl long table own past

-- and else with what a watch shows otherwise
pub both_end : (k : Kept) (nodes others all : List NodeId) → DifferInValues k.before (ended_in_values k) → PathsDiffer (row (dressed k.plan k.before)) → TakesNoneAway k.plan k.before k.now
    → AreChanged k.plan k.before (ended_in_values k) (numbers_of nodes) → AreOtherwise k.plan (with_library k.before.library k.now) k.now.library (numbers_of others)
    → length k.stamps ≡ parts k.now.tree → all ≡ nodes ++ others → EndsAll k (numbers_of all)
both_end k nodes others all values differ given changed otherwise long is =
    subst (EndsAll k) (sym (ap numbers_of is ∙ map-append (λ (x : NodeId). x.number) nodes others))
    (λ table own past.
    defaults_end k.plan k.before k.now (record { values = values; given = given.given; library = given.library }) differ (numbers_of nodes) (numbers_of others) changed otherwise
    (tree_of k) refl long table own past)

pub both_within : (n : ℕ) (nodes others all : List NodeId) → All (λ node. node.number < n) nodes → All (λ node. node.number < n) others → all ≡ nodes ++ others → All (λ node. node.number < n) all
both_within n nodes others all a b is = subst (λ (l : List NodeId). All (λ node. node.number < n) l) (sym is) (All-append (λ (node : NodeId). node.number < n) nodes others a b)
