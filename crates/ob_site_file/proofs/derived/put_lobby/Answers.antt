use Rattle.std.proofs.Common.{◌≡◌, codes, true, false, [], ◌∷◌, map, rules}
use Rattle.ob_site_file.specs.Sizes.{stood, stand_in}
use Rattle.ob_site_file.proofs.Sizes.{one_more, if_there, if_not, LobbyShapes}
use Rattle.ob_site_file.proofs.derived.put_lobby.Goals as goal

pub returns-then-not-there : goal.returns-then-not-there
returns-then-not-there c =
    let is : c.args.there ≡ false = search rules in
    if_not c.args.there (map stood c.args.list.now.items) LobbyShapes is

pub returns : goal.returns
returns c =
    let is : c.args.there ≡ true = search rules in
    if_there c.args.there (map stood c.args.list.now.items) (map stood c.put-3.new.list.items) LobbyShapes is
    (one_more (map stood c.args.list.now.items) (map stood c.put.new.list.items) (map stood c.put-3.new.list.items) (stand_in true (codes "about")) (stand_in false (codes "batch") ∷ stand_in true (codes "watchService") ∷ []) c.in_ok-put.ensures (one_more (map stood c.put.new.list.items) (map stood c.put-2.new.list.items) (map stood c.put-3.new.list.items) (stand_in false (codes "batch")) (stand_in true (codes "watchService") ∷ []) c.in_ok-put-2.ensures c.in_ok-put-3.ensures))
