use Rattle.std.proofs.Common.{sym, ap, ◌∙◌, cond}
use Rattle.std.specs.Option.{option_copied}
use Rattle.ob_contracts.specs.Ancestry.{own_words}
use Rattle.ob_site_rules.specs.Roles.{no_roles, roles_of}
use Rattle.ob_roles.proofs.Taken.{roles_are}
use Rattle.ob_roles.proofs.roles.roles_by.Goals as goal

pub returns : goal.returns
returns c = λ lib tells given.
    let h = c.args.head.now in
    let ws = own_words h (option_copied c.args.list.now.words) (option_copied c.args.over) in
    let e = c.roles_of.ensures in
    roles_are lib c.args.place.root h ws c.is_by-all.result c.roles_of.result (c.is_by-all.ensures lib tells given) e.root e.lobby e.point e.history e.subject
    ∙ sym (ap (λ b. cond b no_roles (roles_of lib c.args.place.root h ws)) c.if-place.false)
