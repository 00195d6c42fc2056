-- The path of the op of a writable point names that op, of that point alone.
use Rattle.std.proofs.Common.{◌≡◌, Bool, true, false, cond, ◌&&◌, ◌||◌, List, [], ◌∷◌, ◌++◌, Option, Some, None, refl, sym, ap, subst, ◌∙◌}
use Rattle.std.specs.Prelude.{codes, find, option_map}
use Rattle.std.specs.Str.{bytes_eq}
use Rattle.std.specs.List.{flat_map}
use Rattle.ob_values.proofs.Bools.{or_first, or_second, not_both}
use Rattle.ob_contracts.specs.Inherit.{or_else}
use Rattle.ob_object.specs.Object.{Objects, none, node, Object, in_row, listed}
use Rattle.ob_object.specs.declared.head.Head.{Head}
use Rattle.ob_object.specs.Paths.{is_path, node_path}
use Rattle.ob_site_laws.proofs.Same.{tells_text}
use Rattle.ob_site_rules.specs.Build.{Path}
use Rattle.ob_site_rules.specs.State.{State, at, board, is_among}
use Rattle.ob_site_rules.specs.declared.plan.Plan.{Plan}
use Rattle.ob_site_rules.specs.Paths.{below, about_path, batch_path, service_path, make_path}
use Rattle.ob_site_rules.specs.Places.{alarm_places, event_places, place_at, point_places}
use Rattle.ob_site_rules.specs.Shown.{derived, derived_at, lobby_children, write_point_op, with_roles, with_status, dressed, shown}
use Rattle.ob_site_rules.specs.declared.resource.Resource.{Resource}
use Rattle.ob_site_rules.specs.declared.resource.Resource.TheVariants.{About, Batch, Make, Node, Service, WritePointOf}
use Rattle.ob_shown_laws.specs.Alike.{row}
use Rattle.ob_shown_laws.specs.Changed.{is_in, PathsDiffer}
use Rattle.ob_shown_laws.proofs.Undressing.{in_behind, front_differs, not_behind}
use Rattle.ob_schedule_laws.proofs.Ends.{not_about, not_batch, not_service, not_make}

or_cases : (a b : Bool) (A : Type 0) → (a || b) ≡ true → (a ≡ true → A) → (b ≡ true → A) → A
or_cases true b A e f g = f refl
or_cases false b A e f g = g e

-- what stands in the second of two rows stands in both
in_more : (p : Path) (xs ys : List Object) → is_in p (in_row ys) ≡ true → is_in p (in_row (xs ++ ys)) ≡ true
in_more p [] ys e = e
in_more p (x ∷ xs) ys e = or_second (is_path p (node_path x.head)) _ (or_second (is_in p x.inner) _ (in_more p xs ys e))

in_front : (p : Path) (xs ys : List Object) → is_in p (in_row xs) ≡ true → is_in p (in_row (xs ++ ys)) ≡ true
in_front p [] ys e = absurd cc
in_front p (x ∷ xs) ys e =
    or_cases (is_path p (node_path x.head)) (is_in p x.inner || is_in p (in_row xs)) _ e
    (λ f. or_first (is_path p (node_path x.head)) _ f)
    (λ f. or_second (is_path p (node_path x.head)) _ (or_cases (is_in p x.inner) (is_in p (in_row xs)) _ f
    (λ g. or_first (is_in p x.inner) _ g)
    (λ g. or_second (is_in p x.inner) _ (in_front p xs ys g))))

-- the op of a writable point is among what roles derive of it
op_derived : (plan : Plan) (s : State) (q : Path) → is_among q plan.points ≡ true → is_in (below q (codes "writePoint")) (in_row (derived_at plan s q)) ≡ true
op_derived plan s q point =
    in_more w (cond (plan.lobby && bytes_eq q plan.root) (lobby_children plan) []) _
    (in_front w (cond (is_among q plan.points) (write_point_op q ∷ []) []) _
    (subst (λ (b : Bool). is_in w (in_row (cond b (write_point_op q ∷ []) [])) ≡ true) (sym point)
    (or_first (bytes_eq w w) false (tells_text.itself w))))
  where
    w : Path
    w = below q (codes "writePoint")

at_some : (o : Option Path) (q : Path) → is_path q o ≡ true → o ≡ Some q
at_some None q e = absurd cc
at_some (Some r) q e = ap Some (tells_text.equal r q e)

module _ (plan : Plan) (s : State) (w : Path) where
  abbrev Op : Path → Type 0
  Op q = (is_among q plan.points ≡ true) × (below q (codes "writePoint") ≡ w)

  -- what roles derive of a point has the path
  op_here : (q : Path) (h : Head) → Op q → is_path q (node_path h) ≡ true → is_in w (in_row (derived plan s (node_path h))) ≡ true
  op_here q h op e =
      subst (λ (o : Option Path). is_in w (in_row (derived plan s o)) ≡ true) (sym (at_some (node_path h) q e))
      (subst (λ (v : Path). is_in v (in_row (derived_at plan s q)) ≡ true) op.1 (op_derived plan s q op.0))

  -- so a row that has the point has it
  op_in : (q : Path) (os : Objects) → Op q → is_in q os ≡ true → is_in w (with_roles plan s os) ≡ true
  op_in q none op e = absurd cc
  op_in q (node h inner rest) op e =
      or_second (is_path w (node_path (with_status plan s h))) _
      (or_cases (is_path q (node_path h)) (is_in q inner || is_in q rest) _ e
      (λ f. or_first (is_in w deep) _ (in_behind w (with_roles plan s inner) (derived plan s (node_path h)) ∙ or_second (is_in w (with_roles plan s inner)) _ (op_here q h op f)))
      (λ f. or_cases (is_in q inner) (is_in q rest) _ f
      (λ g. or_first (is_in w deep) _ (in_behind w (with_roles plan s inner) (derived plan s (node_path h)) ∙ or_first (is_in w (with_roles plan s inner)) _ (op_in q inner op g)))
      (λ g. or_second (is_in w deep) _ (op_in q rest op g))))
    where
      deep : Objects
      deep = in_row (listed (with_roles plan s inner) ++ derived plan s (node_path h))

  -- of two points of one row whose ops have one path
  one_point : (p q : Path) (os : Objects) → Op p → Op q → PathsDiffer (with_roles plan s os) → is_in p os ≡ true → is_in q os ≡ true → p ≡ q
  one_point p q none a b d e f = absurd cc
  one_point p q (node h inner rest) a b d e f =
      or_cases (is_path p (node_path h)) (is_in p inner || is_in p rest) (p ≡ q) e
      (λ p_here. or_cases (is_path q (node_path h)) (is_in q inner || is_in q rest) (p ≡ q) f
      (λ q_here. same_some (sym (at_some (node_path h) p p_here) ∙ at_some (node_path h) q q_here))
      (λ q_in. absurd (one_here p q a b p_here q_in)))
      (λ p_in. or_cases (is_path q (node_path h)) (is_in q inner || is_in q rest) (p ≡ q) f
      (λ q_here. absurd (one_here q p b a q_here p_in))
      (λ q_in. or_cases (is_in p inner) (is_in p rest) (p ≡ q) p_in
      (λ p_deep. or_cases (is_in q inner) (is_in q rest) (p ≡ q) q_in
      (λ q_deep. one_point p q inner a b (front_differs (with_roles plan s inner) more d.2) p_deep q_deep)
      (λ q_later. absurd (not_both (is_in w (with_roles plan s rest)) (op_in q rest b q_later) (d.1 w (deep_in p a p_deep)))))
      (λ p_later. or_cases (is_in q inner) (is_in q rest) (p ≡ q) q_in
      (λ q_deep. absurd (not_both (is_in w (with_roles plan s rest)) (op_in p rest a p_later) (d.1 w (deep_in q b q_deep))))
      (λ q_later. one_point p q rest a b d.3 p_later q_later))))
    where
      more : List Object
      more = derived plan s (node_path h)

      deep : Objects
      deep = in_row (listed (with_roles plan s inner) ++ more)

      same_some : {x y : Path} → Some x ≡ Some y → x ≡ y
      same_some g = cc

      deep_in : (x : Path) → Op x → is_in x inner ≡ true → is_in w deep ≡ true
      deep_in x op g = in_behind w (with_roles plan s inner) more ∙ or_first (is_in w (with_roles plan s inner)) _ (op_in x inner op g)

      one_here : (x y : Path) → Op x → Op y → is_path x (node_path h) ≡ true → (is_in y inner || is_in y rest) ≡ true → ⊥
      one_here x y c b here y_in =
          or_cases (is_in y inner) (is_in y rest) ⊥ y_in
          (λ g. not_both (is_in w (in_row more)) (op_here x h c here) (not_behind w (with_roles plan s inner) more d.2 (op_in y inner b g)))
          (λ g. not_both (is_in w (with_roles plan s rest)) (op_in y rest b g) (d.1 w (in_behind w (with_roles plan s inner) more ∙ or_second (is_in w (with_roles plan s inner)) _ (op_here x h c here))))

-- what stands first under a path
at_front : (p : Path) (es fs : List (Path × Resource)) (x : Resource) → at p es ≡ Some x → at p (es ++ fs) ≡ Some x
at_front p [] fs x e = absurd cc
at_front p (y ∷ es) fs x e = go (bytes_eq y.0 p) e (at_front p es fs x)
  where
    go : (b : Bool) → option_map (λ (z : Path × Resource). z.1) (cond b (Some y) (find (λ z. bytes_eq z.0 p) es)) ≡ Some x → (at p es ≡ Some x → at p (es ++ fs) ≡ Some x)
        → option_map (λ (z : Path × Resource). z.1) (cond b (Some y) (find (λ z. bytes_eq z.0 p) (es ++ fs))) ≡ Some x
    go true f rest = f
    go false f rest = rest f

past : (p q : Path) (x : Resource) (es : List (Path × Resource)) → bytes_eq q p ≡ false → at p ((q, x) ∷ es) ≡ at p es
past p q x es e = ap (λ b. option_map (λ (z : Path × Resource). z.1) (cond b (Some (q, x)) (find (λ z. bytes_eq z.0 p) es))) e

module _ (plan : Plan) (p : Path) where
  -- the first point whose op has the path is this one
  point_first : (ps : List Path) → ((q : Path) → is_among q ps ≡ true → below q (codes "writePoint") ≡ below p (codes "writePoint") → q ≡ p) → is_among p ps ≡ true
      → at (below p (codes "writePoint")) (flat_map (λ q. (below q (codes "writePoint"), WritePointOf q) ∷ []) ps) ≡ Some (WritePointOf p)
  point_first [] one e = absurd cc
  point_first (q ∷ ps) one e = go (bytes_eq (below q (codes "writePoint")) (below p (codes "writePoint"))) refl (λ later. point_first ps (λ r a. one r (or_second (bytes_eq q r) _ a)) later)
    where
      rest : List (Path × Resource)
      rest = flat_map (λ r. (below r (codes "writePoint"), WritePointOf r) ∷ []) ps

      go : (b : Bool) → bytes_eq (below q (codes "writePoint")) (below p (codes "writePoint")) ≡ b
          → (is_among p ps ≡ true → at (below p (codes "writePoint")) rest ≡ Some (WritePointOf p))
          → option_map (λ (z : Path × Resource). z.1) (cond b (Some (below q (codes "writePoint"), WritePointOf q)) (find (λ z. bytes_eq z.0 (below p (codes "writePoint"))) rest)) ≡ Some (WritePointOf p)
      go true is more = ap (λ (r : Path). Some (WritePointOf r)) (one q (or_first (bytes_eq q q) _ (tells_text.itself q)) (tells_text.equal (below q (codes "writePoint")) (below p (codes "writePoint")) is))
      go false is more =
          more (or_cases (bytes_eq q p) (is_among p ps) _ e
          (λ same. absurd (not_both (bytes_eq (below q (codes "writePoint")) (below p (codes "writePoint")))
          (subst (λ (r : Path). bytes_eq (below q (codes "writePoint")) (below r (codes "writePoint")) ≡ true) (tells_text.equal q p same) (tells_text.itself (below q (codes "writePoint")))) is))
          (λ later. later))

  -- so the path names the op of the point
  pub place_is : (s : State) → PathsDiffer (row (dressed plan s)) → ((q : Path) → is_among q plan.points ≡ true → is_in q (row s.tree) ≡ true) → is_among p plan.points ≡ true
      → place_at plan s (below p (codes "writePoint")) ≡ Some (WritePointOf p)
  place_is s differ there point =
      ap (λ o. or_else o (option_map Node (shown plan s w)))
      (past w (about_path plan) About from_batch (not_about plan p) ∙ (past w (batch_path plan) Batch from_service (not_batch plan p)
      ∙ (past w (service_path plan) Service from_make (not_service plan p) ∙ (past w (make_path plan) Make from_points (not_make plan p)
      ∙ at_front w (point_places plan) (event_places plan ++ alarm_places plan (board plan s).rules 1 s.alarms) (WritePointOf p) (point_first plan.points one point)))))
    where
      w : Path
      w = below p (codes "writePoint")

      from_points : List (Path × Resource)
      from_points = point_places plan ++ (event_places plan ++ alarm_places plan (board plan s).rules 1 s.alarms)

      from_make : List (Path × Resource)
      from_make = (make_path plan, Make) ∷ from_points

      from_service : List (Path × Resource)
      from_service = (service_path plan, Service) ∷ from_make

      from_batch : List (Path × Resource)
      from_batch = (batch_path plan, Batch) ∷ from_service

      one : (q : Path) → is_among q plan.points ≡ true → below q (codes "writePoint") ≡ w → q ≡ p
      one q among same = one_point plan s w q p (row s.tree) (among, same) (point, refl) differ (there q among) (there p point)
