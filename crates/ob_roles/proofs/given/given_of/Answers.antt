use Rattle.std.proofs.Common.{◌≡◌, List, Some, map, ap, ◌∙◌, subst}
use Rattle.ob_object.specs.Object.{Object}
use Rattle.ob_contracts.specs.Found.{lent}
use Rattle.ob_contracts.specs.Inherit.{Words, contract_of, present, first_given, overridden}
use Rattle.ob_roles.specs.Kinds.{Are}
use Rattle.ob_roles.proofs.given.given_of.Goals as goal

pub returns-clause-given : goal.returns-clause-given
returns-clause-given c = λ lib holds tells.
    let found : lent c.in_ok-from.from.items ≡ present (map (contract_of lib) c.args.words.now) =
    c.in_ok-from.ensures lib holds ∙ ap (λ (ws : Words). present (map (contract_of lib) ws)) c.as_slice.ensures.value in
    record {
      is = subst (λ (ws : Words). Are c.words_are-is.result lib ws) c.as_slice-4.ensures.value (c.words_are-is.ensures lib tells);
      of = c.first_of-of.ensures ∙ ap (λ (l : List Object). first_given (λ s. s.head.of) l) (ap lent c.as_slice-3.ensures.value ∙ found);
      names = λ n. c.in_ok-names.ensures n ∙ ap (λ (l : List Object). overridden (Some n) l) (ap lent c.as_slice-2.ensures.value ∙ found);
    }
