use Rattle.std.proofs.Common.{ℕ, List, [], refl, sym, ap, subst}
use Rattle.std.specs.Map.{lookup}
use Rattle.std.specs.Option.{option_copied}
use Rattle.std.specs.Ordering.{nat_cmp}
use Rattle.std.specs.Cmp.Lexicographic.{slice_cmp}
use Rattle.std.specs.BTreeMap.{is_at}
use denote.Ref.{Bor}
use Rattle.ob_object.specs.Object.{Object}
use Rattle.ob_roles.specs.declared.ancestors.Ancestors.{Ancestors}
use Rattle.ob_roles.specs.Kinds.{Are}
use Rattle.ob_roles.proofs.Flags.{are_none}
use Rattle.ob_roles.proofs.given.nothing.Goals as goal

pub returns-clause-given : goal.returns-clause-given
returns-clause-given c = λ lib. record {
  is = subst (λ (a : Ancestors). Are a lib []) (sym c.none.ensures) (are_none lib);
  of = refl;
  names = λ n. ap (λ (es : List (Bor (List ℕ) × Bor Object)). option_copied (lookup (is_at (λ (k : Bor (List ℕ)). slice_cmp nat_cmp n k.now)) es)) c.new-names.ensures.empty;
}
