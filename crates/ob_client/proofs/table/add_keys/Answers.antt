use Rattle.std.proofs.Common.{take, sym, ap, ◌∙◌}
use Rattle.ob_client.specs.Tables.{texts_of, has_key}
use Rattle.ob_client.proofs.TableLemmas.{keys_kept, keys_next}
use Rattle.ob_client.proofs.table.add_keys.Goals as goal

pub loop-new-preserved : goal.loop-new-preserved
loop-new-preserved c = record {
  index = λ ts is. c.add_key.ensures.index ts (c.loop-new.invariant.index ts is);
  keys = keys_next c.add_key.new.places c.args.news.now c.loop-new.new-index c.new-item.result c.loop-new-test.true c.new-item.is
      (keys_kept c.loop-new.places c.add_key.new.places (texts_of (take c.loop-new.new-index c.args.news.now)) c.add_key.ensures.keys c.loop-new.invariant.keys)
      (ap (has_key c.add_key.new.places) (sym c.text.ensures) ∙ c.in_ok-add_key.ensures.key);
}
