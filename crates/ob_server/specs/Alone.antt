-- The service of a link by a machine that nobody else asks.
use Rattle.std.specs.Prelude.{ℕ, List, [], Option}
use Rattle.ob_io.specs.Links.{Inlet}
use Rattle.ob_machine.specs.History.{IsLegal}
use Rattle.ob_object.specs.Object.{Object}
use Rattle.ob_site_rules.specs.declared.request.Request.{Request as Asked}
use Rattle.ob_server.specs.Answered.{Serves}
use Rattle.ob_server.specs.Exchange.{Call, had}
use Rattle.ob_server.specs.declared.end.LinkEnd.{LinkEnd}

-- The link was served with these calls: each has the reply that the machine gives at the state that the calls before it
-- leave, from the state of its opening on, or none for want of memory.
pub record ServesAlone {S : Type 0} (act : S → Asked → ℕ → S × Object) (opening : S) (ns : Option (List ℕ)) (before after : Inlet)
    (held held' given given' : Option (List ℕ)) (end : LinkEnd) : Type 0 where
  pub calls : List Call
  pub legal : IsLegal act opening calls
  pub serves : Serves ns before after (had held given []) (had held' given' calls) end
