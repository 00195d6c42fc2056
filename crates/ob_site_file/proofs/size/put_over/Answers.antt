use Rattle.std.proofs.Common.{◌≡◌, rules, Some}
use Rattle.std.specs.Option.{option_copied}
use Rattle.ob_roles.proofs.Taken.{put_some}
use Rattle.ob_site_file.proofs.size.put_over.Goals as goal

pub returns-in_ok-push-in-Some : goal.returns-in_ok-push-in-Some
returns-in_ok-push-in-Some c =
    let is : option_copied c.args.over ≡ Some c.in-Some.over.now = search rules in
    put_some c.args.from.now.items c.push.new.self.items c.in-Some.over (option_copied c.args.over) c.in_ok-push-in-Some.ensures.items is
