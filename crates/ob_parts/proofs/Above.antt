-- In a list that offends no part has a number below the list's own.
use Rattle.std.proofs.Common.{◌≡◌, ℕ, ◌+◌, ◌-◌, ◌^◌, ◌≤◌, min, Bool, true, false, List, [], ◌∷◌, ◌++◌, Option, Some, None, cond, find, refl, ap, ap₂, sym, subst, ◌∙◌, arith}
use Rattle.ob_object.specs.Object.{Object, children, parts}
use Rattle.std.specs.Prelude.{nat_lt}
use Rattle.std.proofs.lemmas.Bool.Decides.{nat_tests}
use Rattle.ob_parts.specs.declared.offence.Offence.{Offence}
use Rattle.ob_parts.specs.Least.{earlier, least}
use Rattle.ob_parts.specs.Numbered.{Part, plus, numbered_from, inside, child, inside_child}
use Rattle.ob_parts.specs.Offences.{breaks, unless, needs, each}
use Rattle.ob_parts.proofs.Earliest.{least_append, earlier_assoc}
use Rattle.ob_parts.proofs.Needed.{needs_none, needs_some, inside_none, inside_some, unless_right, unless_wrong}

-- a number that a part behind the one of the number `n` can have
pub record IsBehind (n k : ℕ) : Type 0 where
  pub above : n ≤ k
  pub fits : k ≤ 2 ^ 64 - 1

capped : (n a top : ℕ) → n ≤ a → n ≤ top → (n ≤ min a top) × (min a top ≤ top)
capped n a top low high = (omega (arith, low, high), omega arith)

within : (n k top : ℕ) → n ≤ k → k ≤ top → n ≤ top
within n k top low high = omega (arith, low, high)

more : (n k by : ℕ) → n ≤ k → n ≤ k + by
more n k by low = omega (arith, low)

behind_plus : (n k by : ℕ) → IsBehind n k → IsBehind n (plus k by)
behind_plus n k by h =
    let both = capped n (k + by) (2 ^ 64 - 1) (more n k by h.above) (within n k (2 ^ 64 - 1) h.above h.fits) in
    record { above = both.0; fits = both.1 }

-- no offence of a list is at a part before that of this one
abbrev pub Above : {R : Type 0} → Offence R → List (Offence R) → Type 0
Above o xs = earlier (Some o) (least xs) ≡ Some o

above_one : {R : Type 0} (o other : Offence R) → o.part ≤ other.part → Above o (other ∷ [])
above_one o other h = let e : nat_lt other.part o.part ≡ false = grind (arith, nat_tests, h) in rw e refl

pub above_append : {R : Type 0} (o : Offence R) (xs ys : List (Offence R)) → Above o xs → Above o ys → Above o (xs ++ ys)
above_append o xs ys a b =
    ap (earlier (Some o)) (least_append xs ys)
    ∙ (sym (earlier_assoc (Some o) (least xs) (least ys)) ∙ (ap (λ l. earlier l (least ys)) a ∙ b))

pub above_unless : {R : Type 0} (o : Offence R) (b : Bool) (rule : R) (p : Part) → o.part ≤ p.number → Above o (unless b rule p)
above_unless o true rule p h = refl
above_unless o false rule p h = above_one o (breaks rule p) h

same_part : (a b : Part) → Some a ≡ Some b → a ≡ b
same_part a b e = cc

-- a part that is found among others is behind what they are behind
found_behind : (n : ℕ) (test : Part → Bool) (m : ℕ) (os : List Object) (c : Part) → IsBehind n m → find test (numbered_from m os) ≡ Some c → IsBehind n c.number
found_behind n test m [] c h e = absurd (let f : None ≡ Some c = e in cc)
found_behind n test m (o ∷ os) c h e = go (test (record { number = m; object = o })) e (found_behind n test (plus m (parts o)) os c (behind_plus n m (parts o) h))
  where
    rest : Option Part
    rest = find test (numbered_from (plus m (parts o)) os)

    go : (b : Bool) → cond b (Some (record { number = m; object = o })) rest ≡ Some c → (rest ≡ Some c → IsBehind n c.number) → IsBehind n c.number
    go true is later = subst (λ (p : Part). IsBehind n p.number) (same_part (record { number = m; object = o }) c is) h
    go false is later = later is

child_behind : (n : ℕ) (name : List ℕ) (p c : Part) → IsBehind n p.number → child name p ≡ Some c → IsBehind n c.number
child_behind n name p c h e = found_behind n _ (plus p.number 1) (children p.object) c (behind_plus n p.number 1 h) e

pub above_needs : {R : Type 0} (o : Offence R) (name : List ℕ) (rule : Option Object → R) (test : Object → Bool) (p : Part) → IsBehind o.part p.number → Above o (needs name rule test p)
above_needs o name rule test p h = go (child name p) refl
  where
    go : (found : Option Part) → child name p ≡ found → Above o (needs name rule test p)
    go None e = subst (Above o) (sym (needs_none name rule test p e)) (above_one o (breaks (rule None) p) h.above)
    go (Some c) e = subst (Above o) (sym (needs_some name rule test p c e)) (above_unless o (test c.object) (rule (Some c.object)) c (child_behind o.part name p c h e).above)

-- what is judged tells no part before that of the offence
abbrev pub TellsBehind : {R : Type 0} → Offence R → (List Object → Part → List (Offence R)) → Type 0
TellsBehind o judge = (b : List Object) (p : Part) → IsBehind o.part p.number → Above o (judge b p)

above_each : {R : Type 0} (o : Offence R) (judge : List Object → Part → List (Offence R)) → TellsBehind o judge → (b : List Object) (m : ℕ) (os : List Object) → IsBehind o.part m → Above o (each judge b (numbered_from m os))
above_each o judge tells b m [] h = refl
above_each o judge tells b m (x ∷ xs) h =
    let p : Part = record { number = m; object = x } in
    above_append o (judge b p) (each judge (b ++ x ∷ []) (numbered_from (plus m (parts x)) xs)) (tells b p h)
    (above_each o judge tells (b ++ x ∷ []) (plus m (parts x)) xs (behind_plus o.part m (parts x) h))

above_inside : {R : Type 0} (o : Offence R) (judge : List Object → Part → List (Offence R)) → TellsBehind o judge → (c : Part) → IsBehind o.part c.number → Above o (each judge [] (inside c))
above_inside o judge tells c h = above_each o judge tells [] (plus c.number 1) (children c.object) (behind_plus o.part c.number 1 h)

pub above_listed : {R : Type 0} (o : Offence R) (judge : List Object → Part → List (Offence R)) → TellsBehind o judge → (name : List ℕ) (p : Part) → IsBehind o.part p.number → Above o (each judge [] (inside_child name p))
above_listed o judge tells name p h = go (child name p) refl
  where
    go : (found : Option Part) → child name p ≡ found → Above o (each judge [] (inside_child name p))
    go None e = subst (λ l. Above o (each judge [] l)) (sym (inside_none name p e)) refl
    go (Some c) e = subst (λ l. Above o (each judge [] l)) (sym (inside_some name p c e)) (above_inside o judge tells c (child_behind o.part name p c h e))

none_below : (n : ℕ) → 0 ≤ n
none_below n = omega arith

at_most : (a top : ℕ) → min a top ≤ top
at_most a top = omega arith

-- a list and what is in it, where there is none
pub no_list : {R : Type 0} (name : List ℕ) (rule : Option Object → R) (test : Object → Bool) (judge : List Object → Part → List (Offence R)) (p : Part) → child name p ≡ None
    → Some (breaks (rule None) p) ≡ least (needs name rule test p ++ each judge [] (inside_child name p))
no_list name rule test judge p e = sym (ap₂ (λ a l. least (a ++ each judge [] l)) (needs_none name rule test p e) (inside_none name p e))

-- where it is as it has to be
pub right_list : {R : Type 0} (name : List ℕ) (rule : Option Object → R) (test : Object → Bool) (judge : List Object → Part → List (Offence R)) (p c : Part) → child name p ≡ Some c → test c.object ≡ true
    → least (each judge [] (inside c)) ≡ least (needs name rule test p ++ each judge [] (inside_child name p))
right_list name rule test judge p c e right =
    sym (ap₂ (λ a l. least (a ++ each judge [] l)) (needs_some name rule test p c e ∙ unless_right (test c.object) (rule (Some c.object)) c right) (inside_some name p c e))

-- and where it isn't
pub wrong_list : {R : Type 0} (name : List ℕ) (rule : Option Object → R) (test : Object → Bool) (judge : List Object → Part → List (Offence R)) → ((o : Offence R) → TellsBehind o judge) → (p c : Part) → child name p ≡ Some c → test c.object ≡ false
    → Some (breaks (rule (Some c.object)) c) ≡ least (needs name rule test p ++ each judge [] (inside_child name p))
wrong_list name rule test judge tells p c e wrong =
    let low : IsBehind 0 (plus p.number 1) = record { above = none_below (plus p.number 1); fits = at_most (p.number + 1) (2 ^ 64 - 1) } in
    let own : IsBehind c.number c.number = record { above = same c.number; fits = (found_behind 0 _ (plus p.number 1) (children p.object) c low e).fits } in
    let o = breaks (rule (Some c.object)) c in
    sym (ap₂ (λ a l. least (a ++ each judge [] l)) (needs_some name rule test p c e ∙ unless_wrong (test c.object) (rule (Some c.object)) c wrong) (inside_some name p c e)
    ∙ above_inside o judge (tells o) c own)
  where
    same : (n : ℕ) → n ≤ n
    same n = omega arith
