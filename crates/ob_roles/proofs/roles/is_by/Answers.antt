use Rattle.std.proofs.Common.{◌≡◌, [], Option, None, rules, sym, subst}
use Rattle.std.specs.Option.{option_copied}
use Rattle.ob_contracts.specs.Ancestry.{own_words}
use Rattle.ob_contracts.specs.Inherit.{Words, words_in}
use Rattle.ob_roles.specs.declared.ancestors.Ancestors.{Ancestors}
use Rattle.ob_roles.specs.Kinds.{Are}
use Rattle.ob_roles.proofs.Flags.{are_none}
use Rattle.ob_roles.proofs.roles.is_by.Goals as goal

pub returns-in-None-over : goal.returns-in-None-over
returns-in-None-over c = λ lib tells given.
    let none : own_words c.args.head.now (option_copied c.args.list.now.words) (option_copied c.args.over) ≡ None = search rules in
    subst (λ (ws : Option Words). Are c.none.result lib (words_in ws)) (sym none) (subst (λ (a : Ancestors). Are a lib []) (sym c.none.ensures) (are_none lib))
