use Rattle.std.proofs.Common.{ℕ, ◌≡◌, ◌≤◌, ◌^◌, Option, List, sym, subst}
use Rattle.std.specs.Option.{MatchOption}
use Rattle.std.specs.Str.Parse.{ParsesUnsigned}
use Rattle.std.proofs.lemmas.Str.{IsUtf8-from_ascii}
use Rattle.std.proofs.lemmas.Fmt.{IsAscii-from_digits}
use Rattle.ob_site_rules.specs.Paths.{digits_number}
use Rattle.ob_requests.proofs.Spelling.{own, digits_of_number, parsed}
use Rattle.ob_requests.proofs.paths.number_of.Goals as goal

pub unreachable-requires : goal.unreachable-requires
unreachable-requires c = c.in-Err.ensures.cases.0 (IsUtf8-from_ascii _ (IsAscii-from_digits _ (own.to _ (digits_of_number c.args.digits.now c.requires).0)))

pub returns : goal.returns
returns c =
    subst (λ (o : Option ℕ). MatchOption o (2 ^ 64 ≤ digits_number c.args.digits.now) (λ n. n ≡ digits_number c.args.digits.now)) (sym c.ok.ensures.value)
    (parsed c.args.digits.now c.parse.result (subst (λ (t : List ℕ). ParsesUnsigned 64 10 t c.parse.result) c.in-Ok.ensures.cases.0 c.parse.ensures.value.0) c.requires)
