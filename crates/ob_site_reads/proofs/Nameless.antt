-- The events of feeds have no names.
use Rattle.std.proofs.Common.{◌≡◌, ℕ, zero, suc, Bool, true, false, cond, List, [], ◌∷◌, drop, Option, None, refl, ap, ◌∙◌}
use Rattle.std.specs.Prelude.{is_none}
use Rattle.std.specs.List.{filter, list_all, AllByRecursion}
use Rattle.ob_values.proofs.Bools.{and_true, and_first, and_second}
use Rattle.ob_object.specs.Object.{Object}
use Rattle.ob_site_rules.specs.declared.plan.Plan.{Plan}
use Rattle.ob_site_rules.specs.State.{State}
use Rattle.ob_site_rules.specs.declared.resource.Resource.{Resource}
use Rattle.ob_site_rules.specs.Watched.{events_at}
use Rattle.ob_site_laws.proofs.Nameless.{all_nameless}

abbrev pub nameless : Object → Bool
nameless o = is_none o.head.name

tests : (os : List Object) → AllByRecursion (λ o. o.head.name ≡ None) os → list_all nameless os ≡ true
tests [] h = refl
tests (o ∷ os) h = and_true (is_none o.head.name) (list_all nameless os) (ap is_none h.0) (tests os h.1)

filter_nameless : (p : Object → Bool) (os : List Object) → list_all nameless os ≡ true → list_all nameless (filter p os) ≡ true
filter_nameless p [] h = refl
filter_nameless p (o ∷ os) h =
    elim (p o) as (λ b. list_all nameless (cond b (o ∷ filter p os) (filter p os)) ≡ true) [
      | true ↦ and_true (nameless o) (list_all nameless (filter p os)) (and_first (nameless o) (list_all nameless os) h) (filter_nameless p os (and_second (nameless o) (list_all nameless os) h))
      | false ↦ filter_nameless p os (and_second (nameless o) (list_all nameless os) h)
    ]

drop_nameless : (n : ℕ) (os : List Object) → list_all nameless os ≡ true → list_all nameless (drop n os) ≡ true
drop_nameless zero os h = h
drop_nameless (suc n) [] h = refl
drop_nameless (suc n) (o ∷ os) h = drop_nameless n os (and_second (nameless o) (list_all nameless os) h)

pub some_nameless : (plan : Plan) (s : State) (place : Option Resource) (p : Object → Bool) (n : ℕ) (es : List Object) → es ≡ filter p (drop n (events_at plan s place)) → list_all nameless es ≡ true
some_nameless plan s place p n es is =
    ap (list_all nameless) is ∙ filter_nameless p (drop n (events_at plan s place)) (drop_nameless n (events_at plan s place) (tests (events_at plan s place) (all_nameless plan s place)))
