-- The first of offences whose numbers rise.
use Rattle.std.proofs.Common.{◌≡◌, ℕ, ◌≤◌, Bool, true, false, cond, List, [], ◌∷◌, ◌++◌, Option, Some, None, refl, sym, ap, ◌∙◌, arith}
use Rattle.std.specs.Prelude.{nat_lt}
use Rattle.std.proofs.lemmas.Bool.Decides.{nat_tests}
use Rattle.ob_parts.specs.declared.offence.Offence.{Offence}
use Rattle.ob_parts.specs.Least.{first_of, earlier, least}
use Rattle.ob_parts.proofs.Earliest.{earlier_assoc}
use Rattle.ob_site_rules.specs.declared.site_rule.SiteRule.{SiteRule}
use Rattle.ob_site_rules.specs.Loading.{breaks}

-- no part is before this one
abbrev pub From : ℕ → List (Offence SiteRule) → Type 0
From n [] = Unit {0}
From n (o ∷ os) = (n ≤ o.part) × From n os

pub from_below : (m n : ℕ) (os : List (Offence SiteRule)) → m ≤ n → From n os → From m os
from_below m n [] h f = tt
from_below m n (o ∷ os) h f = (let g : n ≤ o.part = f.0 in omega arith, from_below m n os h f.1)

pub from_if : (b : Bool) (rule : SiteRule) (n : ℕ) (os : List (Offence SiteRule)) → From n os → From n (cond b (breaks rule n ∷ []) [] ++ os)
from_if true rule n os f = (omega arith, f)
from_if false rule n os f = f

first_is : (a b : Offence SiteRule) → a.part ≤ b.part → first_of a b ≡ a
first_is a b h = let e : nat_lt b.part a.part ≡ false = grind (arith, nat_tests, h) in ap (λ (t : Bool). cond t b a) e

not_before : (o : Offence SiteRule) (os : List (Offence SiteRule)) → From o.part os → earlier (Some o) (least os) ≡ Some o
not_before o [] f = refl
not_before o (x ∷ xs) f = sym (earlier_assoc (Some o) (Some x) (least xs)) ∙ ap (λ m. earlier (Some m) (least xs)) (first_is o x f.0) ∙ not_before o xs f.1

-- where numbers rise the first one is the least
pub least_from : (o : Offence SiteRule) (os : List (Offence SiteRule)) → From o.part os → least (o ∷ os) ≡ Some o
least_from o os f = not_before o os f
