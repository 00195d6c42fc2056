use Rattle.std.proofs.Common.{◌∙◌}
use Rattle.ob_roles.proofs.Handed.{by_name}
use Rattle.ob_roles.proofs.naming.find_over.Goals as goal

pub returns : goal.returns
returns c = λ ss h. c.find_by.ensures ∙ by_name c.args.names.now ss h c.args.head.now.name
