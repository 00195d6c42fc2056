-- A Put to an own node is told by what is asked of it.
use Rattle.std.proofs.Common.{◌≡◌, ℕ, Bool, true, false, not, cond, Option, Some, None, refl, sym, ap, ap₂, ◌∙◌, subst}
use Rattle.std.specs.Option.{option_or}
use Rattle.ob_object.specs.declared.head.Head.{Head}
use Rattle.ob_object.specs.declared.head.Slot.{Slot}
use Rattle.ob_object.specs.Kinds.{has_values}
use Rattle.ob_object.specs.Object.{Object}
use Rattle.ob_tree.specs.Laid.{paths}
use Rattle.ob_site_rules.specs.Build.{Path}
use Rattle.ob_site_rules.specs.Sameness.{same_slot}
use Rattle.ob_site_rules.specs.State.{State}
use Rattle.ob_site_rules.specs.Writes.{given_by, is_writable, put, target_fault, unless, write, written}
use Rattle.ob_site_rules.specs.declared.fault.Fault.{Fault}
use Rattle.ob_site_rules.specs.declared.fault.Fault.TheVariants.{NotSupported, NotWritable, OtherShape}
use Rattle.ob_site_rules.specs.declared.plan.Plan.{Plan}
use Rattle.ob_site_reads.specs.Targets.{target}
use Rattle.ob_site_state.specs.Kept.{Kept}
use Rattle.ob_site_state.proofs.Named.{paths_with_slot}
use Rattle.ob_site_actions.specs.Own.{DoneBy, IsPut, StopsBy, StopsPut, head_faults, head_makes, put_faults, put_makes}
use Rattle.ob_site_actions.specs.Stops.{IsDone}
use Rattle.ob_site_actions.specs.Targets.{IsTarget}
use Rattle.ob_site_actions.specs.declared.not_done.NotDone.{NotDone}
use Rattle.ob_site_actions.specs.declared.not_done.NotDone.TheVariants.{Refused, Memory}
use Rattle.ob_site_actions.proofs.Targets.{target_told, value_told}

-- a write moves no path
pub paths_written : (plan : Plan) (now : ℕ) (p : Path) (o : Object) (slot : Slot) (s : State) → paths (written plan now p o slot s).tree ≡ paths s.tree
paths_written plan now p o slot s = go (same_slot slot o.head.slot)
  where
    go : (b : Bool) → paths (cond b s (write plan now p o.head.kind slot s)).tree ≡ paths s.tree
    go true = refl
    go false = paths_with_slot p slot s.tree

-- what has nothing wrong with it has values
has_them : (b : Bool) (o : Option Fault) → cond (not b) (Some NotSupported) o ≡ None → b ≡ true
has_them true o e = refl
has_them false o e = absurd cc

pub free_has : (h : Head) → target_fault h ≡ None → has_values h.kind ≡ true
free_has h e = has_them (has_values h.kind) (cond (not (is_writable h.facets.writable)) (Some NotWritable) None) e

-- what is wrong with the target is found first
pub target_first : (k : Kept) (p : Path) (o : Object) (body : Option Object) (fault : Fault) → target_fault o.head ≡ Some fault → put_faults k p o body ≡ Some fault
target_first k p o None fault e = ap (λ (f : Option Fault). option_or f (Some OtherShape)) e
target_first k p o (Some body) fault e = ap (λ (f : Option Fault). option_or f (head_faults k p o (given_by k.now body))) e

module _ (k : Kept) (p : Path) (o x : Object) (same : target x ≡ target o) where
  faults_told : (body : Option Object) → put_faults k p x body ≡ put_faults k p o body
  faults_told None = ap (λ (f : Option Fault). option_or f (Some OtherShape)) (target_told o x same)
  faults_told (Some body) = ap₂ (λ (f v : Option Fault). option_or f v) (target_told o x same) (value_told k.plan k.now k.time p (given_by k.now body) o x same)

  makes_told : (body : Option Object) (d : Object) → put_makes k p o body d ≡ put_makes k p x body d
  makes_told None d = refl
  makes_told (Some body) d = ap (λ (y : Object). head_makes k p y (given_by k.now body) d) (sym same)

  -- the definition's Put
  put_is : (body : Option Object) → put k.plan k.now k.time p x body ≡ unless (put_faults k p x body) k.now (put_makes k p x body x)
  put_is None = refl
  put_is (Some body) = refl

  put_by : (body : Option Object) (fault : Option Fault) → put_faults k p o body ≡ fault → put k.plan k.now k.time p x body ≡ unless fault k.now (put_makes k p x body x)
  put_by body fault e = put_is body ∙ ap (λ (f : Option Fault). unless f k.now (put_makes k p x body x)) (faults_told body ∙ e)

pub put_done : (k n : Kept) (p : Path) (o : Object) (body : Option Object) (reply : Object) → IsTarget k.plan k.now p o → DoneBy k n (put_faults k p o body) (put_makes k p o body) reply → IsPut k n p body reply
put_done k n p o body reply is done =
    let x = is.0 in
    (x, (is.1.0, subst (λ (m : State × Object). IsDone k n m reply) (makes_told k p o x is.1.1 body x ∙ sym (put_by k p o x is.1.1 body None done.0)) (done.1 x)))

pub put_stops : (k n : Kept) (p : Path) (o : Object) (body : Option Object) (stop : NotDone) → IsTarget k.plan k.now p o → StopsBy k n (put_faults k p o body) stop → StopsPut k n p body stop
put_stops k n p o body (Refused found) is stops = (stops.0, (is.0, (is.1.0, put_by k p o is.0 is.1.1 body (Some found) stops.1)))
put_stops k n p o body Memory is stops = stops
