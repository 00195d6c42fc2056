use Rattle.std.proofs.Common.{sym, ap, ◌∙◌}
use Rattle.ob_contracts.specs.Inherit.{contract_of}
use Rattle.ob_roles.proofs.Taken.{put_some}
use Rattle.ob_site_file.proofs.size.put_found.Goals as goal

pub returns-in_ok-push-in-Some : goal.returns-in_ok-push-in-Some
returns-in_ok-push-in-Some c =
    put_some c.args.from.now.items c.push.new.self.items c.in-Some.contract (contract_of c.args.library.now c.args.word.now) c.in_ok-push-in-Some.ensures.items (sym (c.in-Some.ensures ∙ ap (contract_of c.args.library.now) c.as_str.ensures.value))
