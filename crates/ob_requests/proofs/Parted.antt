-- The path of a watch, read part by part.
use Rattle.std.proofs.Common.{◌≡◌, ℕ, suc, ◌<◌, ◌≤◌, ◌^◌, Bool, true, false, cond, ◌==◌, List, [], ◌∷◌, ◌++◌, get_or, Option, Some, None, refl, sym, ap, ◌∙◌, arith}
use Rattle.std.specs.Prelude.{codes, option_map, option_and_then}
use Rattle.std.specs.List.{list_any}
use Rattle.std.proofs.lemmas.Bool.Decides.{nat_tests}
use Rattle.ob_site_rules.specs.Build.{Text}
use Rattle.std.specs.Str.{bytes_eq}
use Rattle.ob_site_rules.specs.declared.plan.Plan.{Plan}
use Rattle.ob_site_rules.specs.State.{at}
use Rattle.ob_site_rules.specs.declared.watch_part.WatchPart.{WatchPart}
use Rattle.ob_site_rules.specs.Paths.{both, behind, before_slash, behind_slash, number_spelled, part_named, watch_part}
use Rattle.ob_site_rules.specs.Actions.{is_number_in, is_of_watch}
use Rattle.ob_requests.specs.Parts.{late_parts, watch_behind}

pub both_none : {A B : Type 0} (a : Option A) → both {A = A} {B = B} a None ≡ None
both_none None = refl
both_none (Some a) = refl

-- what is behind one beginning and then another
pub behind_both : (a b t : Text) → behind (a ++ b) t ≡ option_and_then (behind b) (behind a t)
behind_both [] b t = refl
behind_both (x ∷ a) b [] = refl
behind_both (x ∷ a) b (y ∷ t) = go (x == y) (behind_both a b t)
  where
    go : (same : Bool) → behind (a ++ b) t ≡ option_and_then (behind b) (behind a t) → cond same (behind (a ++ b) t) None ≡ option_and_then (behind b) (cond same (behind a t) None)
    go true rest = rest
    go false rest = refl

abbrev pub watches : Text
watches = codes "watch/"

pub not_below : (plan : Plan) (path : Text) → behind plan.root path ≡ None → watch_part plan path ≡ None
not_below plan path h = ap (option_and_then watch_behind) (behind_both plan.root watches path ∙ ap (option_and_then (behind watches)) h)

pub not_watches : (plan : Plan) (path below : Text) → behind plan.root path ≡ Some below → behind watches below ≡ None → watch_part plan path ≡ None
not_watches plan path below h g = ap (option_and_then watch_behind) (behind_both plan.root watches path ∙ ap (option_and_then (behind watches)) h ∙ g)

pub of_watches : (plan : Plan) (path below rest : Text) → behind plan.root path ≡ Some below → behind watches below ≡ Some rest → watch_part plan path ≡ watch_behind rest
of_watches plan path below rest h g = ap (option_and_then watch_behind) (behind_both plan.root watches path ∙ ap (option_and_then (behind watches)) h ∙ g)

pub no_slash : (t : Text) → behind_slash t ≡ None → watch_behind t ≡ None
no_slash t h = ap (λ rest. both (number_spelled (before_slash t)) (option_and_then part_named rest)) h ∙ both_none (number_spelled (before_slash t))

pub no_part : (t rest : Text) → behind_slash t ≡ Some rest → part_named rest ≡ None → watch_behind t ≡ None
no_part t rest h g =
    ap (λ r. both (number_spelled (before_slash t)) (option_and_then part_named r)) h
    ∙ ap (both (number_spelled (before_slash t))) g
    ∙ both_none (number_spelled (before_slash t))

pub with_part : (t rest number : Text) (n : Option ℕ) (part : WatchPart) → behind_slash t ≡ Some rest → number ≡ before_slash t → part_named rest ≡ Some part → number_spelled number ≡ n → watch_behind t ≡ both n (Some part)
with_part t rest number n part h e g s =
    ap (λ r. both (number_spelled (before_slash t)) (option_and_then part_named r)) h
    ∙ ap (both (number_spelled (before_slash t))) g
    ∙ ap (λ k. both k (Some part)) (ap number_spelled (sym e) ∙ s)

-- what was read of texts that are lent
pub lent : (front t root path : Text) (r : Option Text) → front ≡ root → t ≡ path → r ≡ behind front t → behind root path ≡ r
lent front t root path r e g h = ap (λ f. behind f path) (sym e) ∙ ap (behind front) (sym g) ∙ sym h

-- a number beyond what 64 bits hold is none of theirs
pub none_beyond : (ns : List ℕ) (n : ℕ) → 2 ^ 64 ≤ n → ((i : ℕ) → get_or ns i 0 < 2 ^ 64) → list_any (λ k. k == n) ns ≡ false
none_beyond [] n l h = refl
none_beyond (k ∷ ns) n l h =
    let first : k < 2 ^ 64 = h 0 in
    let rest = none_beyond ns n l (λ i. h (suc i)) in
    grind (arith, nat_tests, first, rest)

pub not_of_watch : (plan : Plan) (ns : List ℕ) (path : Text) → watch_part plan path ≡ None → is_of_watch plan ns path ≡ false
not_of_watch plan ns path h = ap (λ (w : Option (ℕ × WatchPart)). is_number_in ns (option_map (λ (e : ℕ × WatchPart). e.0) w)) h

pub beyond_all : (plan : Plan) (ns : List ℕ) (path : Text) (n : ℕ) (part : WatchPart) → watch_part plan path ≡ Some (n, part) → 2 ^ 64 ≤ n → ((i : ℕ) → get_or ns i 0 < 2 ^ 64) → is_of_watch plan ns path ≡ false
beyond_all plan ns path n part h l few = ap (λ (w : Option (ℕ × WatchPart)). is_number_in ns (option_map (λ (e : ℕ × WatchPart). e.0) w)) h ∙ none_beyond ns n l few

abbrev of_second : Option (Text × WatchPart) → Option WatchPart
of_second o = option_map (λ (e : Text × WatchPart). e.1) o

none_of : (a b c : Bool) (x y z : Text × WatchPart) → a ≡ false → b ≡ false → c ≡ false → of_second (cond a (Some x) (cond b (Some y) (cond c (Some z) None))) ≡ None
none_of true b c x y z p q r = absurd (cc)
none_of false true c x y z p q r = absurd (cc)
none_of false false true x y z p q r = absurd (cc)
none_of false false false x y z p q r = refl

rest_of : (a b c d : Bool) (w x y z : Text × WatchPart) (rest : Option (Text × WatchPart)) → a ≡ false → b ≡ false → c ≡ false → d ≡ false → of_second (cond a (Some w) (cond b (Some x) (cond c (Some y) (cond d (Some z) rest)))) ≡ of_second rest
rest_of true b c d w x y z rest p q r s = absurd (cc)
rest_of false true c d w x y z rest p q r s = absurd (cc)
rest_of false false true d w x y z rest p q r s = absurd (cc)
rest_of false false false true w x y z rest p q r s = absurd (cc)
rest_of false false false false w x y z rest p q r s = refl

-- the texts of no op that polls or ends a watch
pub late_none : (t : Text) → bytes_eq (codes "pollChanges") t ≡ false → bytes_eq (codes "pollRefresh") t ≡ false → bytes_eq (codes "delete") t ≡ false → at t late_parts ≡ None
late_none t p q r = none_of (bytes_eq (codes "pollChanges") t) (bytes_eq (codes "pollRefresh") t) (bytes_eq (codes "delete") t) _ _ _ p q r

-- the other parts
pub part_rest : (t : Text) → bytes_eq [] t ≡ false → bytes_eq (codes "lease") t ≡ false → bytes_eq (codes "add") t ≡ false → bytes_eq (codes "remove") t ≡ false → part_named t ≡ at t late_parts
part_rest t p q r s = rest_of (bytes_eq [] t) (bytes_eq (codes "lease") t) (bytes_eq (codes "add") t) (bytes_eq (codes "remove") t) _ _ _ _ _ p q r s
