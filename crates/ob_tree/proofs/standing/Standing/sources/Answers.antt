use Rattle.std.specs.Option.{option_copied}
use Rattle.ob_tree.specs.Standings.{context}
use Rattle.ob_tree.proofs.Walking.{looked_up}
use Rattle.ob_tree.proofs.standing.Standing.sources.Goals as goal

pub returns-clause-same : goal.returns-clause-same
returns-clause-same c =
    looked_up (context c.args.self.now) c.args.own.now.head (option_copied c.all_words.result) c.new.result c.new.ensures.places c.all_words.ensures
