-- Rules for the parts of a document. A part that is there and is wrong offends itself; where one that is needed is missing, the
-- object round it does. A form is the list of all offences, at each part in the order of the rules that it breaks.
use Rattle.std.specs.Prelude.{◌≡◌, ℕ, ◌≤◌, ◌==◌, Bool, cond, List, [], ◌∷◌, ◌++◌, Option, Some, None, find, option_and_then}
use Rattle.std.specs.List.{Contains}
use Rattle.ob_object.specs.Object.{Object, children}
use Rattle.ob_object.specs.WellFormed.{named}
use Rattle.ob_parts.specs.Numbered.{Part, child}
use Rattle.ob_parts.specs.declared.offence.Offence.{Offence}

-- a part breaks a rule
abbrev pub breaks : {R : Type 0} → R → Part → Offence R
breaks rule p = record { part = p.number; rule = rule }

-- the part breaks the rule where it isn't as it should be
abbrev pub unless : {R : Type 0} → Bool → R → Part → List (Offence R)
unless is_right rule p = cond is_right [] (breaks rule p ∷ [])

abbrev pub judged : {R : Type 0} → (Option Object → R) → (Object → Bool) → Part → Option Part → List (Offence R)
judged rule test p None = breaks (rule None) p ∷ []
judged rule test p (Some c) = unless (test c.object) (rule (Some c.object)) c

-- The child of a name is needed, and it has to pass the test. `rule` says which rule is broken where there is none, and by one that
-- doesn't pass.
abbrev pub needs : {R : Type 0} → List ℕ → (Option Object → R) → (Object → Bool) → Part → List (Offence R)
needs name rule test p = judged rule test p (child name p)

-- what an object says by its child of a name
abbrev pub said : {A : Type 0} → List ℕ → (Object → Option A) → Object → Option A
said name read o = option_and_then read (named name (children o))

-- each of these parts, with the objects before it
abbrev pub each : {R : Type 0} → (List Object → Part → List (Offence R)) → List Object → List Part → List (Offence R)
each judge before [] = []
each judge before (p ∷ ps) = judge before p ++ each judge (before ++ p.object ∷ []) ps

-- this offence is the first: no part before its own offends, and no offence of its part stands before it in the list
pub record IsFirst {R : Type 0} (offences : List (Offence R)) (offence : Offence R) : Type 0 where
  pub least : (other : Offence R) → Contains offences other → offence.part ≤ other.part
  pub told : find (λ other. other.part == offence.part) offences ≡ Some offence
