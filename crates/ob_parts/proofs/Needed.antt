-- The child of a name that is needed.
use Rattle.std.proofs.Common.{◌≡◌, ℕ, Bool, true, false, List, [], ◌∷◌, Option, Some, None, refl, ap, ◌∙◌, find}
use Rattle.std.specs.Prelude.{option_map, unwrap_or, option_and_then}
use Rattle.ob_object.specs.Object.{Object, children, parts}
use Rattle.ob_object.specs.WellFormed.{has_name, named}
use Rattle.ob_parts.specs.Numbered.{Part, plus, numbered_from, inside, child, inside_child}
use Rattle.ob_parts.specs.Offences.{breaks, unless, judged, needs, said}
use Rattle.ob_parts.proofs.Walk.{named_part}

abbrev pub object_of : Part → Object
object_of p = p.object

-- the first object of a name is that of the first part of it
pub named_of : (name : List ℕ) (n : ℕ) (os : List Object) → named name os ≡ option_map object_of (find (named_part name) (numbered_from n os))
named_of name n [] = refl
named_of name n (o ∷ os) = go (has_name name o.head.name) refl (named_of name (plus n (parts o)) os)
  where
    go : (b : Bool) → has_name name o.head.name ≡ b → named name os ≡ option_map object_of (find (named_part name) (numbered_from (plus n (parts o)) os))
        → named name (o ∷ os) ≡ option_map object_of (find (named_part name) (numbered_from n (o ∷ os)))
    go true e rest = rw e refl
    go false e rest = rw e rest

-- the child of a name, by its part
pub named_some : (name : List ℕ) (p c : Part) → child name p ≡ Some c → named name (children p.object) ≡ Some c.object
named_some name p c e = named_of name (plus p.number 1) (children p.object) ∙ ap (option_map object_of) e

pub needs_none : {R : Type 0} (name : List ℕ) (rule : Option Object → R) (test : Object → Bool) (p : Part) → child name p ≡ None → needs name rule test p ≡ breaks (rule None) p ∷ []
needs_none name rule test p e = ap (judged rule test p) e

pub needs_some : {R : Type 0} (name : List ℕ) (rule : Option Object → R) (test : Object → Bool) (p c : Part) → child name p ≡ Some c → needs name rule test p ≡ unless (test c.object) (rule (Some c.object)) c
needs_some name rule test p c e = ap (judged rule test p) e

pub inside_none : (name : List ℕ) (p : Part) → child name p ≡ None → inside_child name p ≡ []
inside_none name p e = ap (λ c. unwrap_or (option_map inside c) []) e

pub inside_some : (name : List ℕ) (p c : Part) → child name p ≡ Some c → inside_child name p ≡ inside c
inside_some name p c e = ap (λ c. unwrap_or (option_map inside c) []) e

pub said_some : {A : Type 0} (name : List ℕ) (read : Object → Option A) (p c : Part) → child name p ≡ Some c → said name read p.object ≡ read c.object
said_some name read p c e = ap (option_and_then read) (named_some name p c e)

pub said_none : {A : Type 0} (name : List ℕ) (read : Object → Option A) (p : Part) → child name p ≡ None → said name read p.object ≡ None
said_none name read p e = ap (option_and_then read) (named_of name (plus p.number 1) (children p.object) ∙ ap (option_map object_of) e)

pub unless_right : {R : Type 0} (b : Bool) (rule : R) (p : Part) → b ≡ true → unless b rule p ≡ []
unless_right b rule p e = ap (λ c. unless c rule p) e

pub unless_wrong : {R : Type 0} (b : Bool) (rule : R) (p : Part) → b ≡ false → unless b rule p ≡ breaks rule p ∷ []
unless_wrong b rule p e = ap (λ c. unless c rule p) e

-- what doesn't offend is as it should be
pub unless_nil : {R : Type 0} (b : Bool) (rule : R) (p : Part) → unless b rule p ≡ [] → b ≡ true
unless_nil true rule p e = refl
unless_nil false rule p e = absurd (let f : breaks rule p ∷ [] ≡ [] = e in cc)

pub judged_nil : {R : Type 0} (rule : Option Object → R) (test : Object → Bool) (p : Part) (c : Option Part) → judged rule test p c ≡ [] → (d : Part) × (c ≡ Some d) × (test d.object ≡ true)
judged_nil rule test p None e = absurd (let f : breaks (rule None) p ∷ [] ≡ [] = e in cc)
judged_nil rule test p (Some d) e = (d, refl, unless_nil (test d.object) (rule (Some d.object)) d e)
