-- What roles derive has nothing in it, and is found at its path.
use Rattle.std.proofs.Common.{◌≡◌, ℕ, zero, suc, ◌+◌, ◌<◌, ◌≤◌, Bool, true, false, cond, ◌&&◌, ◌||◌, List, [], ◌∷◌, ◌++◌, length, drop, get_or, Option, Some, None, refl, sym, ap, ap₂, ◌∙◌, arith, add-one, drop-cons}
use Rattle.std.specs.Str.{bytes_eq}
use Rattle.ob_object.specs.Object.{Object, Objects, none, in_row}
use Rattle.ob_object.specs.Paths.{is_path, node_path}
use Rattle.ob_contracts.proofs.Names.{at_place}
use Rattle.ob_site_rules.specs.Build.{Path}
use Rattle.ob_site_rules.specs.Shown.{lobby_children, write_point_op, history_part, subject_children, derived_at}
use Rattle.ob_site_rules.specs.State.{Log, State, at, is_among}
use Rattle.ob_site_rules.specs.declared.plan.Plan.{Plan}
use Rattle.ob_shown_laws.specs.Changed.{is_in}
use Rattle.ob_shown_laws.proofs.Looking.{at_path}
use Rattle.ob_tree.specs.Laid.{AreLeaves}
use Rattle.ob_site_reads.specs.Deriving.{IsAmong}

leaves_append : (xs ys : List Object) → AreLeaves xs → AreLeaves ys → AreLeaves (xs ++ ys)
leaves_append [] ys a b = b
leaves_append (x ∷ xs) ys a b = (a.0, leaves_append xs ys a.1 b)

leaves_if : (b : Bool) (xs : List Object) → AreLeaves xs → AreLeaves (cond b xs [])
leaves_if true xs a = a
leaves_if false xs a = tt

leaves_of_history : (q : Path) (o : Option Log) → AreLeaves (history_part q o)
leaves_of_history q None = tt
leaves_of_history q (Some l) = (refl, (refl, (refl, (refl, (refl, tt)))))

pub derived_leaves : (plan : Plan) (s : State) (q : Path) → AreLeaves (derived_at plan s q)
derived_leaves plan s q =
    let subject : List Object = cond (is_path q plan.subject) (subject_children q (length s.alarms)) [] in
    let history : List Object = history_part q (at q s.logs) in
    let point : List Object = cond (is_among q plan.points) (write_point_op q ∷ []) [] in
    let lobby : List Object = cond (plan.lobby && bytes_eq q plan.root) (lobby_children plan) [] in
    leaves_append lobby (point ++ (history ++ subject))
    (leaves_if (plan.lobby && bytes_eq q plan.root) (lobby_children plan) (refl, (refl, (refl, tt))))
    (leaves_append point (history ++ subject) (leaves_if (is_among q plan.points) (write_point_op q ∷ []) (refl, tt))
    (leaves_append history subject (leaves_of_history q (at q s.logs))
    (leaves_if (is_path q plan.subject) (subject_children q (length s.alarms)) (refl, (refl, (refl, tt))))))

leaf_at : (os : List Object) (i : ℕ) (x : Object) → AreLeaves os → i < length os → x ≡ get_or os i x → x.inner ≡ none
leaf_at [] i x a lt is = absurd (omega arith)
leaf_at (o ∷ os) zero x a lt is = ap (λ (y : Object). y.inner) is ∙ a.0
leaf_at (o ∷ os) (suc i) x a lt is = leaf_at os i x a.1 (omega arith) is

-- an object of another path is passed over
pub pass : (p : Path) (os : List Object) (i : ℕ) (x : Object) (b : Bool) → AreLeaves os → i < length os → x ≡ get_or os i x → is_path p (node_path x.head) ≡ false
    → is_in p (in_row (drop i os)) ≡ b → is_in p (in_row (drop (i + 1) os)) ≡ b
pass p os i x b a lt is off so_far =
    ap (λ (n : ℕ). is_in p (in_row (drop n os))) (add-one i)
    ∙ sym (ap₂ (λ (c : Bool) (r : Objects). c || (is_in p r || is_in p (in_row (drop (suc i) os)))) off (leaf_at os i x a lt is))
    ∙ sym (ap (λ (l : List Object). is_in p (in_row l)) (drop-cons os i x lt ∙ ap (λ y. y ∷ drop (suc i) os) (sym is)))
    ∙ so_far

pub none_left : (p : Path) (os : List Object) (i : ℕ) → length os ≤ i → is_in p (in_row (drop i os)) ≡ false
none_left p [] zero h = refl
none_left p [] (suc i) h = refl
none_left p (o ∷ os) zero h = absurd (omega arith)
none_left p (o ∷ os) (suc i) h = none_left p os i (omega arith)

-- and one of this path is found
pub found_at : (p : Path) (os : List Object) (i : ℕ) (x : Object) → i < length os → x ≡ get_or os i x → is_path p (node_path x.head) ≡ true → IsAmong p os (Some x)
found_at p os i x lt is here = (i, sym (at_place os i x lt is), at_path p (node_path x.head) here)
