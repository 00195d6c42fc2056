use Rattle.std.proofs.lemmas.Result.{on_ok_weaker}
use Rattle.ob_encoding.proofs.Writing.{facets_written}
use Rattle.ob_encoding.proofs.element.write_facets.Goals as goal

pub returns-clause-written : goal.returns-clause-written
returns-clause-written c =
    on_ok_weaker c.write_meaning.result (λ e. facets_written c.args.out.now.items c.write_labels.new.out.items c.write_limits.new.out.items c.write_meaning.new.out.items c.args.head.now.facets c.in_ok-write_labels.ensures.written c.in_ok-write_limits.ensures.written e) c.write_meaning.ensures.written
