use Rattle.std.proofs.Common.{◌≡◌, true, false, map, rules}
use Rattle.ob_site_file.specs.Sizes.{stood}
use Rattle.ob_site_file.proofs.Sizes.{if_there, if_not, PointShapes}
use Rattle.ob_site_file.proofs.derived.put_point.Goals as goal

pub returns-then-not-there : goal.returns-then-not-there
returns-then-not-there c =
    let is : c.args.there ≡ false = search rules in
    if_not c.args.there (map stood c.args.list.now.items) PointShapes is

pub returns : goal.returns
returns c =
    let is : c.args.there ≡ true = search rules in
    if_there c.args.there (map stood c.args.list.now.items) (map stood c.put.new.list.items) PointShapes is
    c.in_ok-put.ensures
