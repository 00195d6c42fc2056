use Rattle.std.specs.Option.{option_copied}
use Rattle.ob_contracts.specs.Inherit.{or_else}
use Rattle.ob_contracts.proofs.Taught.{tells_none}
use Rattle.ob_contracts.proofs.reading.View.uncounted.Goals as goal

pub of_told-requires : goal.of_told-requires
of_told-requires c = tells_none c.args.library.now (or_else c.args.object.now.head.is (option_copied c.args.implied))
