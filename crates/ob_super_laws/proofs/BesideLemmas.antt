-- One upstream beside another, in a PUT.
use Rattle.std.proofs.Common.{◌≡◌, List, [], ◌∷◌, Option, Some, None, Result, refl, sym, subst, ◌∙◌}
use Rattle.std.specs.declared.alloc.AllocError.{AllocError}
use Rattle.ob_io.specs.Dials.{Visit}
use Rattle.ob_object.specs.Object.{Object}
use Rattle.ob_watching.specs.WatchOuts.{Text}
use Rattle.ob_super.specs.Upstreams.{Upstream}
use Rattle.ob_super.specs.Turns.{Standing}
use Rattle.ob_super.specs.Trees.{Entry, entry_at}
use Rattle.ob_super.specs.Rounds.{Sends, PutsHere, Puts}
use Rattle.ob_super_laws.specs.Laws.{AllOf, StaysWithout}

-- where all are as they were
all_stay : (path : Text) (us : List Upstream) (olds : List Standing) → AllOf (StaysWithout path) us olds olds
all_stay path [] olds = tt
all_stay path (u ∷ us) [] = tt
all_stay path (u ∷ us) (o ∷ olds) = (λ e. refl, all_stay path us olds)

here : (Told : Type 0) (u : Upstream) (us : List Upstream) (old new : Standing) (olds news : List Standing) (path : Text) (body : Option Object) (visits : List Visit) (result : Result (Option Object) AllocError) (behind : Type 0)
    → (behind → AllOf (StaysWithout path) us olds news) → (e : Option Entry) → entry_at u old path ≡ e
    → PutsHere e (λ (entry : Entry). (news ≡ olds) × Sends Told u old new entry body visits result) ((new ≡ old) × behind) → AllOf (StaysWithout path) (u ∷ us) (old ∷ olds) (new ∷ news)
here Told u us old new olds news path body visits result behind more None is (same, rest) = (λ e. same, more rest)
here Told u us old new olds news path body visits result behind more (Some entry) is (same, sends) =
    (λ e. absurd (let x : Some entry ≡ None = sym is ∙ e in cc), subst (λ (ss : List Standing). AllOf (StaysWithout path) us olds ss) (sym same) (all_stay path us olds))

pub stay : (Told : Type 0) (us : List Upstream) (olds news : List Standing) (path : Text) (body : Option Object) (visits : List Visit) (result : Result (Option Object) AllocError)
    → Puts Told us olds news path body visits result → AllOf (StaysWithout path) us olds news
stay Told [] [] [] path body visits result p = tt
stay Told [] [] (n ∷ news) path body visits result p = tt
stay Told [] (o ∷ olds) news path body visits result p = absurd p
stay Told (u ∷ us) [] news path body visits result p = absurd p
stay Told (u ∷ us) (o ∷ olds) [] path body visits result p = absurd p
stay Told (u ∷ us) (o ∷ olds) (n ∷ news) path body visits result p =
    here Told u us o n olds news path body visits result (Puts Told us olds news path body visits result) (stay Told us olds news path body visits result) (entry_at u o path) refl p
