-- The place of an alarm by the number in its path.
use Rattle.std.proofs.Common.{◌≡◌, ◌≢◌, ℕ, suc, ◌+◌, ◌-◌, ◌<◌, ◌≤◌, ◌^◌, Bool, true, false, cond, List, [], ◌∷◌, ◌++◌, length, get_or, Option, Some, None, option_map, refl, sym, ap, ap₂, ◌∙◌, append_assoc, arith}
use Rattle.std.specs.Prelude.{codes, find, nat_eq, nat_lt, slice_get}
use Rattle.std.specs.Fmt.{decimal}
use Rattle.std.specs.Str.{bytes_eq}
use Rattle.std.specs.Int.{IsInRange}
use Rattle.std.proofs.lemmas.Bool.{ltb-true, ltb-false}
use Rattle.std.proofs.lemmas.Bool.Decides.{nat_tests}
use Rattle.std.proofs.lemmas.Fmt.{decimal_is_IsNumeral}
use Rattle.std.proofs.lemmas.List.{append_cancel_left, append-nil}
use Rattle.std.proofs.lemmas.Slice.Eq.{bytes_eq-Decides}
use Rattle.std.proofs.lemmas.Str.Parse.{digit_at}
use Rattle.ob_alarms.specs.AlarmObjects.{alarm_path}
use Rattle.ob_alarms.specs.Changes.{alarm_of}
use Rattle.ob_alarms.specs.States.{needs_ack}
use Rattle.ob_alarms.specs.declared.alarm.Alarm.{Alarm}
use Rattle.ob_alarms.specs.declared.rule.Rule.{Rule}
use Rattle.ob_contracts.specs.Inherit.{or_else}
use Rattle.ob_site_rules.specs.Build.{Path}
use Rattle.ob_site_rules.specs.declared.plan.Plan.{Plan}
use Rattle.ob_site_rules.specs.State.{at}
use Rattle.ob_site_rules.specs.Paths.{ack_path}
use Rattle.ob_site_rules.specs.declared.resource.Resource.{Resource}
use Rattle.ob_site_rules.specs.declared.resource.Resource.TheVariants.{AlarmAt, AckOf}
use Rattle.ob_site_rules.specs.Places.{alarm_places}
use Rattle.ob_plain_state.specs.Parts.{alarm_parts, parts_of_alarm}
use Rattle.ob_plain_state.proofs.Placed.{at-append}

-- what stands behind the root in the path of an alarm, and behind the word
pub behind_root : (root below p t : Path) (n : ℕ) → p ≡ root ++ below → p ≡ alarm_path root n ++ t → below ≡ codes "alarm/" ++ (decimal n ++ 47 ∷ t)
behind_root root below p t n e f =
    append_cancel_left root below (codes "alarm/" ++ (decimal n ++ 47 ∷ t))
    (sym e ∙ f ∙ append_assoc root (codes "alarm/" ++ (decimal n ++ codes "/")) t
    ∙ ap (λ (x : Path). root ++ x) (append_assoc (codes "alarm/") (decimal n ++ codes "/") t ∙ ap (λ (x : Path). codes "alarm/" ++ x) (append_assoc (decimal n) (codes "/") t)))

pub behind_word : (below numbered t : Path) (n : ℕ) → below ≡ codes "alarm/" ++ numbered → below ≡ codes "alarm/" ++ (decimal n ++ 47 ∷ t) → numbered ≡ decimal n ++ 47 ∷ t
behind_word below numbered t n e f = append_cancel_left (codes "alarm/") numbered (decimal n ++ 47 ∷ t) (sym e ∙ f)

-- a number has no slash in it
pub no_slash : (n : ℕ) → n < 2 ^ 64 → (i : ℕ) → i < length (decimal n) → get_or (decimal n) i 0 ≢ 47
no_slash n small i lt e =
    let digit : IsInRange 48 57 (get_or (decimal n) i 0) = digit_at (decimal n) i (decimal_is_IsNumeral n small).0.1 lt in
    omega (arith, digit)

-- a number that reads every path that an alarm may have
abbrev pub Reads : Path → Path → Option ℕ → Type 0
Reads root p r = (n : ℕ) (t : Path) → n < 2 ^ 64 → p ≡ alarm_path root n ++ t → r ≡ Some n

same_number : (m k : ℕ) → (let r : Option ℕ = Some k in r) ≡ Some m → k ≡ m
same_number m k e = cc

-- an alarm of another number has other paths
own_off : (root p : Path) (m : ℕ) (r : Option ℕ) → Reads root p r → m < 2 ^ 64 → (r ≡ Some m → ⊥) → bytes_eq (alarm_path root m) p ≡ false
own_off root p m r reads small other = go (bytes_eq (alarm_path root m) p) refl
  where
    go : (b : Bool) → bytes_eq (alarm_path root m) p ≡ b → b ≡ false
    go true e = absurd (other (reads m [] small (sym ((bytes_eq-Decides (alarm_path root m) p).0 e) ∙ sym (append-nil (alarm_path root m)))))
    go false e = refl

ack_off : (plan : Plan) (p : Path) (m : ℕ) (r : Option ℕ) → Reads plan.root p r → m < 2 ^ 64 → (r ≡ Some m → ⊥) → bytes_eq (ack_path plan m) p ≡ false
ack_off plan p m r reads small other = go (bytes_eq (ack_path plan m) p) refl
  where
    go : (b : Bool) → bytes_eq (ack_path plan m) p ≡ b → b ≡ false
    go true e = absurd (other (reads m (codes "ack") small (sym ((bytes_eq-Decides (ack_path plan m) p).0 e))))
    go false e = refl

abbrev ack_places : Plan → ℕ → Bool → List (Path × Resource)
ack_places plan m c = cond c ((ack_path plan m, AckOf m) ∷ []) []

parts_off : (plan : Plan) (rules : List Rule) (p : Path) (m : ℕ) (a : Alarm) (r : Option ℕ) → Reads plan.root p r → m < 2 ^ 64 → (r ≡ Some m → ⊥) → at p (alarm_parts plan rules m a) ≡ None
parts_off plan rules p m a r reads small other =
    ap (λ (b : Bool). option_map (λ (e : Path × Resource). e.1) (cond b (Some (alarm_path plan.root m, AlarmAt m)) (find (λ e. bytes_eq e.0 p) (ack_places plan m needs)))) (own_off plan.root p m r reads small other)
    ∙ in_ack needs (ack_off plan p m r reads small other)
  where
    needs : Bool
    needs = needs_ack (slice_get rules a.rule)

    in_ack : (c : Bool) → bytes_eq (ack_path plan m) p ≡ false → at p (ack_places plan m c) ≡ None
    in_ack true e = ap (λ (b : Bool). option_map (λ (e : Path × Resource). e.1) (cond b (Some (ack_path plan m, AckOf m)) None)) e
    in_ack false e = refl

-- where a path has no such number it is none of an alarm
pub elsewhere : (plan : Plan) (rules : List Rule) (p : Path) (m : ℕ) (alarms : List Alarm) → Reads plan.root p None → m + length alarms ≤ 2 ^ 64 → at p (alarm_places plan rules m alarms) ≡ None
elsewhere plan rules p m [] reads few = refl
elsewhere plan rules p m (a ∷ alarms) reads few =
    at-append p (alarm_parts plan rules m a) (alarm_places plan rules (m + 1) alarms)
    ∙ ap₂ or_else (parts_off plan rules p m a None reads (omega arith) (λ e. absurd cc)) (elsewhere plan rules p (m + 1) alarms reads (omega arith))

-- the alarm of a number among those numbered from another one on
abbrev among : ℕ → Bool → Option Alarm → Option Alarm
among k before here = cond before None here

parts_at : (plan : Plan) (rules : List Rule) (p : Path) (m k : ℕ) (alarms : List Alarm) → Reads plan.root p (Some k) → m + length alarms ≤ 2 ^ 64
    → at p (alarm_places plan rules m alarms) ≡ at p (parts_of_alarm plan rules k (among k (nat_lt k m) (slice_get alarms (k - m))))
parts_at plan rules p m k [] reads few = go (nat_lt k m)
  where
    go : (b : Bool) → None ≡ at p (parts_of_alarm plan rules k (among k b None))
    go true = refl
    go false = refl
parts_at plan rules p m k (a ∷ alarms) reads few =
    at-append p (alarm_parts plan rules m a) (alarm_places plan rules (m + 1) alarms)
    ∙ ap (or_else (at p (alarm_parts plan rules m a))) (parts_at plan rules p (m + 1) k alarms reads (omega arith))
    ∙ go (nat_lt k m) (nat_lt k (m + 1)) refl refl
  where
    off : (m ≡ k → ⊥) → at p (alarm_parts plan rules m a) ≡ None
    off other = parts_off plan rules p m a (Some k) reads (omega arith) (λ e. other (sym (same_number m k e)))

    or_none : (o : Option Resource) → or_else o None ≡ o
    or_none None = refl
    or_none (Some x) = refl

    go : (b c : Bool) → nat_lt k m ≡ b → nat_lt k (m + 1) ≡ c
        → or_else (at p (alarm_parts plan rules m a)) (at p (parts_of_alarm plan rules k (among k c (slice_get alarms (k - (m + 1))))))
        ≡ at p (parts_of_alarm plan rules k (among k b (slice_get (a ∷ alarms) (k - m))))
    go true true e f =
        let lt : k < m = ltb-true k m e in
        ap (λ (o : Option Resource). or_else o None) (off (λ g. omega (arith, lt, g)))
    go true false e f =
        let lt : k < m = ltb-true k m e in
        let le : m + 1 ≤ k = ltb-false k (m + 1) f in
        absurd (omega (arith, lt, le))
    go false true e f =
        let le : m ≤ k = ltb-false k m e in
        let lt : k < m + 1 = ltb-true k (m + 1) f in
        let same : m ≡ k = omega (arith, le, lt) in
        let first : k - m ≡ 0 = omega (arith, same) in
        or_none (at p (alarm_parts plan rules m a))
        ∙ ap (λ (n : ℕ). at p (alarm_parts plan rules n a)) same
        ∙ sym (ap (λ (n : ℕ). at p (parts_of_alarm plan rules k (slice_get (a ∷ alarms) n))) first)
    go false false e f =
        let le : m + 1 ≤ k = ltb-false k (m + 1) f in
        let next : k - m ≡ suc (k - (m + 1)) = omega (arith, le) in
        ap (λ (o : Option Resource). or_else o (at p (parts_of_alarm plan rules k (slice_get alarms (k - (m + 1)))))) (off (λ g. omega (arith, le, g)))
        ∙ sym (ap (λ (n : ℕ). at p (parts_of_alarm plan rules k (slice_get (a ∷ alarms) n))) next)

-- and where it has, it is that of this alarm, if of any
pub by_number : (plan : Plan) (rules : List Rule) (p : Path) (k : ℕ) (alarms : List Alarm) → Reads plan.root p (Some k) → 1 + length alarms ≤ 2 ^ 64
    → at p (parts_of_alarm plan rules k (alarm_of k alarms)) ≡ at p (alarm_places plan rules 1 alarms)
by_number plan rules p k alarms reads few =
    ap (λ (b : Bool). at p (parts_of_alarm plan rules k (cond b None (slice_get alarms (k - 1))))) zeroth
    ∙ sym (parts_at plan rules p 1 k alarms reads few)
  where
    zeroth : nat_eq k 0 ≡ nat_lt k 1
    zeroth = grind (arith, nat_tests)
