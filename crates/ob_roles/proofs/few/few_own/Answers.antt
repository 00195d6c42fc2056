use Rattle.std.proofs.Common.{◌≡◌, sym, ap, ◌∙◌, option_map, refl, Option, None, Some}
use denote.Ref.{Bor}
use Rattle.ob_contracts.specs.Inherit.{Words}
use Rattle.std.specs.Prelude.{is_some}
use Rattle.std.specs.Option.{option_copied}
use Rattle.ob_roles.specs.Few.{few_words}
use Rattle.ob_roles.proofs.Brief.{own_few, given_few}
use Rattle.ob_roles.proofs.few.few_own.Goals as goal

some_words : (o : Option (Bor Words)) → is_some (option_copied o) ≡ is_some o
some_words None = refl
some_words (Some w) = refl

pub returns-then-is_some : goal.returns-then-is_some
returns-then-is_some c = λ lib implied o tells given over.
    c.in_ok-few.ensures lib tells ∙ ap (option_map (few_words lib)) c.is-own.ensures
    ∙ own_few lib c.args.head.now implied o (sym (ap is_some c.is-own.ensures) ∙ some_words c.is-own.result ∙ sym c.is_some.ensures ∙ c.if-is_some.true)

pub returns : goal.returns
returns c = λ lib implied o tells given over.
    c.in_ok-few-2.ensures.same ∙ c.own_words.ensures
    ∙ given_few lib c.args.head.now implied o (option_copied c.args.given) (option_copied c.args.over)
    (sym (ap is_some c.is-own.ensures) ∙ some_words c.is-own.result ∙ sym c.is_some.ensures ∙ c.if-is_some.false) given over
