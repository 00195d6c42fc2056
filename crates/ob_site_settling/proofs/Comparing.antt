-- Values and statuses that are compared.
use Rattle.std.proofs.Common.{◌≡◌, Bool, true, false, not, ◌&&◌, Option, Some, None, option_map, refl, sym, ap, ap₂, ◌∙◌}
use Rattle.ob_object.specs.declared.status.Status.{Status}
use Rattle.ob_object.specs.declared.facet.FacetRef.{FacetRef}
use Rattle.ob_object.specs.declared.facet.FacetRef.TheVariants as lent
use Rattle.ob_object.specs.Facets.{facet_value, word}
use Rattle.ob_object.specs.declared.head.Head.{Head}
use Rattle.ob_object.specs.Object.{Object}
use Rattle.ob_contracts.specs.Inherit.{result_of}
use Rattle.ob_tree.specs.Contexts.{Context, comes_to}
use Rattle.ob_shown_laws.specs.Changed.{head_in, same_values}
use Rattle.ob_site_rules.specs.Sameness.{same_option, same_slot, same_status}
use Rattle.ob_site_settling.specs.Values.{status_in}

-- a facet that is lent where a status is
pub status_there : (o : Option FacetRef) (s : Option Status) → option_map facet_value o ≡ option_map word s → status_in o ≡ s
status_there None None e = refl
status_there None (Some s) e = absurd cc
status_there (Some (lent.Limit v)) None e = absurd cc
status_there (Some (lent.Limit v)) (Some s) e = absurd cc
status_there (Some (lent.Number n)) None e = absurd cc
status_there (Some (lent.Number n)) (Some s) e = absurd cc
status_there (Some (lent.Word t)) None e = absurd cc
status_there (Some (lent.Word t)) (Some s) e = let same : t ≡ s = cc in ap (λ (x : Status). Some x) same
status_there (Some (lent.Truth b)) None e = absurd cc
status_there (Some (lent.Truth b)) (Some s) e = absurd cc
status_there (Some (lent.Words t)) None e = absurd cc
status_there (Some (lent.Words t)) (Some s) e = absurd cc

-- what two objects come to is compared by their slots and statuses
other_objects : (x y u v : Object) → x ≡ u → y ≡ v → (same : Bool) → same ≡ (same_slot x.head.slot y.head.slot && same_option same_status x.head.facets.status y.head.facets.status)
    → not same ≡ not (same_values u.head v.head)
other_objects x y u v b n same is =
    ap not is
    ∙ ap (λ (o : Object). not (same_slot o.head.slot y.head.slot && same_option same_status o.head.facets.status y.head.facets.status)) b
    ∙ ap (λ (o : Object). not (same_slot u.head.slot o.head.slot && same_option same_status u.head.facets.status o.head.facets.status)) n

-- an object's own attributes tell what it shows where it stands
head_of : (c : Context) (o : Object) → (comes_to c o).head ≡ head_in c o.head
unfolding result_of
head_of c o = refl

pub other_values : (c : Context) (before now x y : Object) (same : Bool) → x ≡ comes_to c before → y ≡ comes_to c now
    → same ≡ (same_slot x.head.slot y.head.slot && same_option same_status x.head.facets.status y.head.facets.status)
    → not same ≡ not (same_values (head_in c before.head) (head_in c now.head))
other_values c before now x y same b n is =
    other_objects x y (comes_to c before) (comes_to c now) b n same is
    ∙ ap₂ (λ (h k : Head). not (same_values h k)) (head_of c before) (head_of c now)
