use Rattle.std.specs.Option.{option_copied}
use Rattle.ob_roles.proofs.Taken.{found_more, found_all, found_over}
use Rattle.ob_site_file.proofs.size.contracts_for.Goals as goal

pub loop-word-preserved : goal.loop-word-preserved
loop-word-preserved c =
    found_more c.args.library.now c.args.words.now c.loop-word.word-index c.word-item.result c.loop-word.from.items c.put_found.new.from.items c.loop-word-test.true c.word-item.is c.loop-word.invariant c.in_ok-put_found.ensures

pub returns : goal.returns
returns c =
    found_over c.args.library.now c.args.words.now (option_copied c.args.over) c.loop-word.from.items c.put_over.new.from.items
    (found_all c.args.library.now c.args.words.now c.loop-word.word-index c.loop-word.from.items c.loop-word-test.false c.loop-word.invariant) c.in_ok-put_over.ensures
