-- What changes of a site, as the definitions' state.
use Rattle.std.specs.Prelude.{◌≡◌}
use Rattle.ob_site_rules.specs.State.{State}
use Rattle.ob_site_state.specs.declared.contents.Contents.{Contents}
use Rattle.ob_site_state.specs.Kept.{state_of}

abbrev pub state_in : Contents → State
state_in c = state_of c.ground.library c.ground.tree.root c.logs.items c.board

-- the same stamps and roles, and alarms of the same root and rules
pub record SameRest (old new : Contents) : Type 0 where
  pub stamps : new.ground.tree.stamps ≡ old.ground.tree.stamps
  pub steps : new.ground.tree.steps ≡ old.ground.tree.steps
  pub root : new.board.root ≡ old.board.root
  pub rules : new.board.rules ≡ old.board.rules
  pub roles : new.roles ≡ old.roles
