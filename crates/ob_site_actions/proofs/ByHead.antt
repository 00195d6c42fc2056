-- What an own node refuses by its own head, whatever is in it, and what is done of it.
use Rattle.std.proofs.Common.{◌≡◌, ℕ, Option, Some, None, option_map, refl, sym, ap₂, ◌∙◌}
use Rattle.std.specs.Prelude.{Result, Ok, Err, IfOk, MatchOption}
use Rattle.ob_values.specs.declared.verb.Verb.{Verb}
use Rattle.ob_values.specs.declared.verb.Verb.TheVariants.{Post, Put}
use Rattle.ob_object.specs.declared.kind.Kind.{Kind}
use Rattle.ob_object.specs.Object.{Object}
use Rattle.ob_contracts.specs.Inherit.{or_else}
use Rattle.ob_site_rules.specs.Build.{Path}
use Rattle.ob_site_rules.specs.declared.fault.Fault.{Fault}
use Rattle.ob_site_rules.specs.declared.fault.Fault.TheVariants.{NotSupported}
use Rattle.ob_site_rules.specs.Faults.{err}
use Rattle.ob_site_rules.specs.declared.plan.Plan.{Plan}
use Rattle.ob_site_rules.specs.State.{State, at}
use Rattle.ob_site_rules.specs.Shown.{shown}
use Rattle.ob_site_rules.specs.declared.resource.Resource.{Resource}
use Rattle.ob_site_rules.specs.declared.resource.Resource.TheVariants.{Node}
use Rattle.ob_site_rules.specs.Places.{computed_places, place_at}
use Rattle.ob_site_rules.specs.Posts.{write_point}
use Rattle.ob_site_rules.specs.Writes.{write_by}
use Rattle.ob_site_rules.specs.Actions.{act_at}
use Rattle.ob_site_state.specs.Kept.{Kept}
use Rattle.ob_site_actions.specs.Own.{IsPut, StopsPut}
use Rattle.ob_site_actions.specs.Targets.{IsRefused}
use Rattle.ob_site_actions.specs.declared.not_done.NotDone.{NotDone}
use Rattle.ob_site_actions.specs.declared.not_done.NotDone.TheVariants.{Refused, Memory}
use Rattle.ob_site_actions.specs.Refusing.{IsDoneThere, IsRefusedThere, StopsThere}
use Rattle.ob_site_actions.proofs.Pointed.{point_written}

-- no node is called
pub never_called : (plan : Plan) (s : State) (now : ℕ) (p : Path) (body : Option Object) (kind : Kind) → option_map (λ (o : Object). o.head.kind) (shown plan s p) ≡ Some kind
    → IsRefused plan s p (λ o. act_at plan s now p Post (Node o) body) NotSupported
never_called plan s now p body kind is = go (shown plan s p) refl is
  where
    none_same : (let q : Option Kind = None in q) ≡ Some kind → ⊥
    none_same e = cc

    go : (q : Option Object) → shown plan s p ≡ q → option_map (λ (o : Object). o.head.kind) q ≡ Some kind → IsRefused plan s p (λ o. act_at plan s now p Post (Node o) body) NotSupported
    go None e of_kind = absurd (none_same of_kind)
    go (Some o) e of_kind = (o, (e, refl))

-- where no computed path is the same, what is shown is what the path names
placed : (plan : Plan) (s : State) (p : Path) (o : Object) → at p (computed_places plan s) ≡ None → shown plan s p ≡ Some o → place_at plan s p ≡ Some (Node o)
placed plan s p o free is = ap₂ (λ (i : Option Resource) (j : Option Object). or_else i (option_map Node j)) free is

pub refused_there : (plan : Plan) (s : State) (now : ℕ) (p : Path) (verb : Verb) (body : Option Object) (fault : Fault) → IsRefused plan s p (λ o. act_at plan s now p verb (Node o) body) fault
    → at p (computed_places plan s) ≡ None → IsRefusedThere plan s now p verb body fault
refused_there plan s now p verb body fault is free =
    (is.0, (placed plan s p is.0 free is.1.0, is.1.1))

-- a Put to what is shown at a path that no computed one is
pub put_placed : (k n : Kept) (p : Path) (body : Option Object) (reply : Object) → at p (computed_places k.plan k.now) ≡ None → IsPut k n p body reply → IsDoneThere k n p Put body reply
put_placed k n p body reply free is = (is.0, (placed k.plan k.now p is.0 free is.1.0, is.1.1))

pub all_placed : (k n : Kept) (p : Path) (body : Option Object) (result : Result (Option Object) NotDone) → at p (computed_places k.plan k.now) ≡ None → IfOk result (λ done. MatchOption done (n ≡ k) (IsPut k n p body))
    → IfOk result (λ done. MatchOption done (n ≡ k) (IsDoneThere k n p Put body))
all_placed k n p body (Ok None) free is = is
all_placed k n p body (Ok (Some reply)) free is = put_placed k n p body reply free is
all_placed k n p body (Err stop) free is = is

pub put_stopped : (k n : Kept) (p : Path) (body : Option Object) (stop : NotDone) → at p (computed_places k.plan k.now) ≡ None → StopsPut k n p body stop → StopsThere k n p Put body stop
put_stopped k n p body (Refused fault) free stops = (stops.0, refused_there k.plan k.now k.time p Put body fault stops.1 free)
put_stopped k n p body Memory free stops = stops

-- a write to a point that the point refuses
pub point_refused : (plan : Plan) (s : State) (now : ℕ) (p : Path) (new : Object) (fault : Fault) → IsRefused plan s p (λ o. write_by plan s now p o None new) fault
    → write_point plan s now p (Some new) ≡ (s, err fault)
point_refused plan s now p new fault is = sym (point_written plan s now p is.0 new is.1.0) ∙ is.1.1
