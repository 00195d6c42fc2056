-- The path that a text leads to, by the answer of ob_href.
use Rattle.std.proofs.Common.{◌≡◌, ◌⊎◌, inl, inr, ap}
use Rattle.std.specs.Prelude.{Some, None, Result, Ok, Err}
use Rattle.ob_href.specs.declared.fault.HrefFault.{HrefFault}
use Rattle.ob_href.specs.declared.fault.HrefFault.TheVariants.{NotUrl, OtherOrigin, Fragment, Memory}
use Rattle.ob_site_rules.specs.Build.{Path}
use Rattle.ob_site_rules.specs.Locating.{if_given}

pub leads : (e : Result Path HrefFault) (p : Path) → e ≡ Ok p → if_given e ≡ Some p
leads e p h = ap if_given h

pub no_url : (e : Result Path HrefFault) → (e ≡ Err NotUrl) ⊎ (NotUrl ≡ Memory) → if_given e ≡ None
no_url e h = elim h [ inl i ↦ ap if_given i | inr m ↦ absurd (cc) ]

pub elsewhere : (e : Result Path HrefFault) → (e ≡ Err OtherOrigin) ⊎ (OtherOrigin ≡ Memory) → if_given e ≡ None
elsewhere e h = elim h [ inl i ↦ ap if_given i | inr m ↦ absurd (cc) ]

pub part_of : (e : Result Path HrefFault) → (e ≡ Err Fragment) ⊎ (Fragment ≡ Memory) → if_given e ≡ None
part_of e h = elim h [ inl i ↦ ap if_given i | inr m ↦ absurd (cc) ]
