-- Where neither the root derives a path nor a node in front of it, no role does.
use Rattle.std.proofs.Common.{◌≡◌, ℕ, Bool, true, false, cond, ◌&&◌, ◌||◌, List, [], ◌∷◌, ◌++◌, length, Option, Some, None, refl, sym, ap, ap₂, ◌∙◌, subst, append_assoc, arith}
use Rattle.std.specs.Prelude.{is_some, codes, nat_eq}
use Rattle.std.specs.List.{starts_with}
use Rattle.std.specs.Str.{bytes_eq}
use Rattle.std.proofs.lemmas.Bool.Decides.{nat_tests}
use Rattle.ob_values.proofs.Bools.{neither, and_second, or_first, or_second}
use Rattle.ob_object.specs.Object.{Object, Objects, none, node, in_row}
use Rattle.ob_object.specs.Paths.{is_path, node_path}
use Rattle.ob_site_rules.specs.Build.{Path}
use Rattle.ob_site_rules.specs.State.{Log, State, at, is_among}
use Rattle.ob_site_rules.specs.declared.plan.Plan.{Plan}
use Rattle.ob_site_rules.specs.Paths.{below, ends_with_slash}
use Rattle.ob_site_rules.specs.Shown.{lobby_children, write_point_op, history_part, subject_children, derived_at, derived}
use Rattle.ob_shown_laws.specs.Alike.{row}
use Rattle.ob_shown_laws.specs.Changed.{is_in}
use Rattle.ob_shown_laws.specs.OwnShown.{IsNotDerived}
use Rattle.ob_values.proofs.Lists.{bytes_itself}
use Rattle.ob_shown_laws.proofs.Looking.{at_path}
use Rattle.ob_shown_laws.proofs.Numbering.{number_there}
use Rattle.ob_shown_laws.proofs.Places.{place_at}
use Rattle.ob_site_reads.specs.Deriving.{IsOff, IsOffBelow}
use Rattle.ob_site_reads.specs.Parents.{has_slash}

some_same : {a b : Path} → Some a ≡ Some b → a ≡ b
some_same e = cc

same : (q p : Path) → bytes_eq q p ≡ true → q ≡ p
same q p e = some_same (at_path p (Some q) e)

off_both : (p : Path) (xs ys : List Object) → is_in p (in_row xs) ≡ false → is_in p (in_row ys) ≡ false → is_in p (in_row (xs ++ ys)) ≡ false
off_both p [] ys e f = f
off_both p (x ∷ xs) ys e f =
    let a = neither (is_path p (node_path x.head)) (is_in p x.inner || is_in p (in_row xs)) e in
    let b = neither (is_in p x.inner) (is_in p (in_row xs)) a.1 in
    ap₂ (λ (i j : Bool). i || j) a.0 (ap₂ (λ (i j : Bool). i || j) b.0 (off_both p xs ys b.1 f))

off_if : (p : Path) (b : Bool) (xs : List Object) → (b ≡ true → is_in p (in_row xs) ≡ false) → is_in p (in_row (cond b xs [])) ≡ false
off_if p true xs e = e refl
off_if p false xs e = refl

-- what begins with a path
front_starts : (q t : List ℕ) → starts_with nat_eq (q ++ t) q ≡ true
front_starts [] t = refl
front_starts (c ∷ q) t =
    let rest = front_starts q t in
    grind (arith, nat_tests, rest)

not_at : (q t p : Path) → starts_with nat_eq p q ≡ false → bytes_eq (q ++ t) p ≡ false
not_at q t p e = go (bytes_eq (q ++ t) p) refl
  where
    go : (b : Bool) → bytes_eq (q ++ t) p ≡ b → b ≡ false
    go true f =
        let g : starts_with nat_eq p q ≡ true = ap (λ (x : Path). starts_with nat_eq x q) (sym (same (q ++ t) p f)) ∙ front_starts q t in
        absurd cc
    go false f = refl

pub below_off : (q name p : Path) → starts_with nat_eq p q ≡ false → bytes_eq (below q name) p ≡ false
below_off q name p e = go (ends_with_slash q)
  where
    go : (b : Bool) → bytes_eq (cond b q (q ++ 47 ∷ []) ++ name) p ≡ false
    go true = not_at q name p e
    go false = ap (λ (x : Path). bytes_eq x p) (append_assoc q (47 ∷ []) name) ∙ not_at q ((47 ∷ []) ++ name) p e

lobby_off : (plan : Plan) (p q : Path) → starts_with nat_eq p q ≡ false → (plan.lobby && bytes_eq q plan.root) ≡ true → is_in p (in_row (lobby_children plan)) ≡ false
lobby_off plan p q e f =
    let root : q ≡ plan.root = same q plan.root (and_second plan.lobby (bytes_eq q plan.root) f) in
    let off : starts_with nat_eq p plan.root ≡ false = subst (λ (r : Path). starts_with nat_eq p r ≡ false) root e in
    ap (λ (b : Bool). b || false) (not_at plan.root (codes "batch") p off)

history_off : (p q : Path) (o : Option Log) → bytes_eq (below q (codes "query")) p ≡ false → bytes_eq (below q (codes "feed")) p ≡ false → is_in p (in_row (history_part q o)) ≡ false
history_off p q None e f = refl
history_off p q (Some l) e f = ap₂ (λ (a b : Bool). a || (b || false)) e f

-- a node derives no path but those of its children by each role
children_off : (plan : Plan) (s : State) (p q : Path) → ((plan.lobby && bytes_eq q plan.root) ≡ true → is_in p (in_row (lobby_children plan)) ≡ false)
    → bytes_eq (below q (codes "writePoint")) p ≡ false → bytes_eq (below q (codes "query")) p ≡ false → bytes_eq (below q (codes "feed")) p ≡ false → is_in p (in_row (derived_at plan s q)) ≡ false
children_off plan s p q no_lobby no_point no_query no_feed =
    let subject : List Object = cond (is_path q plan.subject) (subject_children q (length s.alarms)) [] in
    let history : List Object = history_part q (at q s.logs) in
    let point : List Object = cond (is_among q plan.points) (write_point_op q ∷ []) [] in
    let lobby : List Object = cond (plan.lobby && bytes_eq q plan.root) (lobby_children plan) [] in
    off_both p lobby (point ++ (history ++ subject)) (off_if p (plan.lobby && bytes_eq q plan.root) (lobby_children plan) no_lobby)
    (off_both p point (history ++ subject) (off_if p (is_among q plan.points) (write_point_op q ∷ []) (λ f. ap (λ (b : Bool). b || false) no_point))
    (off_both p history subject (history_off p q (at q s.logs) no_query no_feed)
    (off_if p (is_path q plan.subject) (subject_children q (length s.alarms)) (λ f. ap₂ (λ (a b : Bool). a || (b || false)) no_query no_feed))))

-- a path that doesn't begin with that of a node is none that its roles derive
pub starts_off : (plan : Plan) (s : State) (p q : Path) → starts_with nat_eq p q ≡ false → is_in p (in_row (derived_at plan s q)) ≡ false
starts_off plan s p q e =
    children_off plan s p q (λ f. lobby_off plan p q e f) (below_off q (codes "writePoint") p e) (below_off q (codes "query") p e) (below_off q (codes "feed") p e)

is_below : (plan : Plan) (s : State) (p q name : Path) → IsOffBelow plan s p → has_slash name ≡ false → bytes_eq (below q name) p ≡ true → IsOff plan s p q
is_below plan s p q name off free e = off q name free (same (below q name) p e)

-- the root derives children as a lobby, and each other node such ones alone as have its path and a name
off_any : (plan : Plan) (s : State) (p q : Path) → IsOff plan s p plan.root → IsOffBelow plan s p → IsOff plan s p q
off_any plan s p q root off = by_root (plan.lobby && bytes_eq q plan.root) refl
  where
    by_feed : (b : Bool) → bytes_eq (below q (codes "feed")) p ≡ b → (plan.lobby && bytes_eq q plan.root) ≡ false → bytes_eq (below q (codes "writePoint")) p ≡ false → bytes_eq (below q (codes "query")) p ≡ false → IsOff plan s p q
    by_feed true h e f g = is_below plan s p q (codes "feed") off refl h
    by_feed false h e f g = λ here. children_off plan s p q (λ t. absurd cc) f g h

    by_query : (b : Bool) → bytes_eq (below q (codes "query")) p ≡ b → (plan.lobby && bytes_eq q plan.root) ≡ false → bytes_eq (below q (codes "writePoint")) p ≡ false → IsOff plan s p q
    by_query true g e f = is_below plan s p q (codes "query") off refl g
    by_query false g e f = by_feed (bytes_eq (below q (codes "feed")) p) refl e f g

    by_point : (b : Bool) → bytes_eq (below q (codes "writePoint")) p ≡ b → (plan.lobby && bytes_eq q plan.root) ≡ false → IsOff plan s p q
    by_point true f e = is_below plan s p q (codes "writePoint") off refl f
    by_point false f e = by_query (bytes_eq (below q (codes "query")) p) refl e f

    by_root : (b : Bool) → (plan.lobby && bytes_eq q plan.root) ≡ b → IsOff plan s p q
    by_root true e = subst (IsOff plan s p) (sym (same q plan.root (and_second plan.lobby (bytes_eq q plan.root) e))) root
    by_root false e = by_point (bytes_eq (below q (codes "writePoint")) p) refl e

in_rows : (plan : Plan) (s : State) (p : Path) → ((q : Path) → IsOff plan s p q) → (os : Objects) → ((q : Path) → is_in q os ≡ true → is_in q (row s.tree) ≡ true) → IsNotDerived plan s p os
in_rows plan s p off none within = tt
in_rows plan s p off (node h inner rest) within = (
  at_head (node_path h) refl,
  in_rows plan s p off inner (λ q e. within q (or_second (is_path q (node_path h)) (is_in q inner || is_in q rest) (or_first (is_in q inner) (is_in q rest) e))),
  in_rows plan s p off rest (λ q e. within q (or_second (is_path q (node_path h)) (is_in q inner || is_in q rest) (or_second (is_in q inner) (is_in q rest) e))),
)
  where
    at_head : (o : Option Path) → node_path h ≡ o → is_in p (in_row (derived plan s o)) ≡ false
    at_head None e = refl
    at_head (Some q) e =
        off q
        (ap is_some (place_at q s.tree)
        ∙ number_there q (row s.tree)
        ∙ within q (or_first (is_path q (node_path h)) (is_in q inner || is_in q rest) (ap (is_path q) e ∙ bytes_itself q)))

-- so no role derives a path that neither the root derives nor a node in front of it
pub nowhere : (plan : Plan) (s : State) (p : Path) → IsOff plan s p plan.root → IsOffBelow plan s p → IsNotDerived plan s p (row s.tree)
nowhere plan s p root off = in_rows plan s p (λ q. off_any plan s p q root off) (row s.tree) (λ q e. e)
