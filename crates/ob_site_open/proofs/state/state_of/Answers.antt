use Rattle.std.proofs.Common.{sym, ap, ◌∙◌}
use Rattle.ob_ground.specs.Grounds.{Grounded}
use Rattle.ob_site_state.specs.declared.contents.Contents.{Contents}
use Rattle.ob_site_open.proofs.Opened.{stand, rules_fit, tree_differ, apart, histories, in_time, rolled, sound, capacities, library_made}
use Rattle.ob_site_open.proofs.state.state_of.Goals as goal

pub logs_in-requires-clause-stand : goal.logs_in-requires-clause-stand
logs_in-requires-clause-stand c = stand c.requires.opens.root c.requires.opens.boot c.args.opened c.requires.opens.well_formed c.requires.counted c.requires.opens.opens

pub board_of-requires : goal.board_of-requires
board_of-requires c = rules_fit c.requires.opens.root c.requires.opens.boot c.args.opened c.requires.opens.well_formed c.requires.counted c.requires.opens.opens

pub tree_of-requires : goal.tree_of-requires
tree_of-requires c = tree_differ c.requires.opens.root c.requires.opens.boot c.args.opened c.requires.opens.well_formed c.requires.counted c.requires.opens.opens

pub new-requires-2-clause-histories : goal.new-requires-2-clause-histories
new-requires-2-clause-histories c =
    let made : Contents = record { ground = c.in_ok-ground.ground; logs = c.in_ok-logs.logs; board = c.in_ok-board.board; roles = c.in_ok-roles.roles } in
    histories c.requires.opens.root c.requires.opens.boot c.args.opened c.requires.opens.well_formed c.requires.counted c.requires.opens.opens made
    (record { library = ap (λ (g : Grounded). g.library) c.in_ok-ground.ensures; tree = ap (λ (g : Grounded). g.tree) c.in_ok-ground.ensures ∙ c.in_ok-tree.ensures.tree; logs = c.in_ok-logs.ensures.logs; nanos = c.in_ok-logs.ensures.nanos; board = c.in_ok-board.ensures })

pub new-requires-2-clause-apart : goal.new-requires-2-clause-apart
new-requires-2-clause-apart c = apart c.requires.opens.root c.requires.opens.boot c.args.opened c.requires.opens.well_formed c.requires.counted c.requires.opens.opens

pub new-requires-2-clause-in_time : goal.new-requires-2-clause-in_time
new-requires-2-clause-in_time c =
    let made : Contents = record { ground = c.in_ok-ground.ground; logs = c.in_ok-logs.logs; board = c.in_ok-board.board; roles = c.in_ok-roles.roles } in
    in_time c.requires.opens.root c.requires.opens.boot c.args.opened c.requires.opens.well_formed c.requires.counted c.requires.opens.opens made
    (record { library = ap (λ (g : Grounded). g.library) c.in_ok-ground.ensures; tree = ap (λ (g : Grounded). g.tree) c.in_ok-ground.ensures ∙ c.in_ok-tree.ensures.tree; logs = c.in_ok-logs.ensures.logs; nanos = c.in_ok-logs.ensures.nanos; board = c.in_ok-board.ensures })
    c.time_of-time.result c.time_of-time.ensures

pub new-requires-2-clause-rolled : goal.new-requires-2-clause-rolled
new-requires-2-clause-rolled c =
    let made : Contents = record { ground = c.in_ok-ground.ground; logs = c.in_ok-logs.logs; board = c.in_ok-board.board; roles = c.in_ok-roles.roles } in
    rolled c.requires.opens.root c.requires.opens.boot c.args.opened c.requires.opens.well_formed c.requires.counted c.requires.opens.opens made
    (record { library = ap (λ (g : Grounded). g.library) c.in_ok-ground.ensures; tree = ap (λ (g : Grounded). g.tree) c.in_ok-ground.ensures ∙ c.in_ok-tree.ensures.tree; logs = c.in_ok-logs.ensures.logs; nanos = c.in_ok-logs.ensures.nanos; board = c.in_ok-board.ensures })

pub new-requires-2-clause-sound : goal.new-requires-2-clause-sound
new-requires-2-clause-sound c =
    let made : Contents = record { ground = c.in_ok-ground.ground; logs = c.in_ok-logs.logs; board = c.in_ok-board.board; roles = c.in_ok-roles.roles } in
    sound c.requires.opens.root c.requires.opens.boot c.args.opened c.requires.opens.well_formed c.requires.counted c.requires.opens.opens made
    (record { library = ap (λ (g : Grounded). g.library) c.in_ok-ground.ensures; tree = ap (λ (g : Grounded). g.tree) c.in_ok-ground.ensures ∙ c.in_ok-tree.ensures.tree; logs = c.in_ok-logs.ensures.logs; nanos = c.in_ok-logs.ensures.nanos; board = c.in_ok-board.ensures })

pub new-requires-2-clause-capacities : goal.new-requires-2-clause-capacities
new-requires-2-clause-capacities c =
    let made : Contents = record { ground = c.in_ok-ground.ground; logs = c.in_ok-logs.logs; board = c.in_ok-board.board; roles = c.in_ok-roles.roles } in
    capacities c.requires.opens.root c.requires.opens.boot c.args.opened c.requires.opens.well_formed c.requires.counted c.requires.opens.opens made
    (record { library = ap (λ (g : Grounded). g.library) c.in_ok-ground.ensures; tree = ap (λ (g : Grounded). g.tree) c.in_ok-ground.ensures ∙ c.in_ok-tree.ensures.tree; logs = c.in_ok-logs.ensures.logs; nanos = c.in_ok-logs.ensures.nanos; board = c.in_ok-board.ensures })
    ∙ sym c.in_ok-capacities.ensures

pub new-requires-2-clause-made : goal.new-requires-2-clause-made
new-requires-2-clause-made c =
    let made : Contents = record { ground = c.in_ok-ground.ground; logs = c.in_ok-logs.logs; board = c.in_ok-board.board; roles = c.in_ok-roles.roles } in
    library_made c.requires.opens.root c.requires.opens.boot c.args.opened c.requires.opens.well_formed c.requires.counted c.requires.opens.opens made
    (record { library = ap (λ (g : Grounded). g.library) c.in_ok-ground.ensures; tree = ap (λ (g : Grounded). g.tree) c.in_ok-ground.ensures ∙ c.in_ok-tree.ensures.tree; logs = c.in_ok-logs.ensures.logs; nanos = c.in_ok-logs.ensures.nanos; board = c.in_ok-board.ensures })
