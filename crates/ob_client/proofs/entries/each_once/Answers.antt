use Rattle.std.proofs.Common.{map, take, sym, ◌∙◌, arith}
use Rattle.ob_client.specs.Entries.{text_of}
use Rattle.ob_client.proofs.OnceLemmas.{once_none, once_stops, once_goes_on, once_ends, has_next, there_of, new_of}
use Rattle.ob_client.proofs.entries.each_once.Goals as goal

pub returns-then-not-is_new : goal.returns-then-not-is_new
returns-then-not-is_new c =
    sym (sym (once_none (map text_of c.args.entries.now)) ∙ c.loop-entry.invariant.once
    ∙ once_stops c.args.entries.now c.loop-entry.entry-index c.entry-item.result (map text_of (take c.loop-entry.entry-index c.args.entries.now)) c.text_of.result.now c.loop-entry-test.true c.entry-item.is c.text_of.ensures
    (sym (c.loop-entry.invariant.has c.text_of.result.now) ∙ there_of _ _ c.in_ok-is_new.ensures.added (cc (c.if-not-is_new.true))))

pub returns : goal.returns
returns c =
    sym (sym (once_none (map text_of c.args.entries.now)) ∙ c.loop-entry.invariant.once
    ∙ once_ends c.args.entries.now c.loop-entry.entry-index (map text_of (take c.loop-entry.entry-index c.args.entries.now)) (omega arith))

pub loop-entry-preserved : goal.loop-entry-preserved
loop-entry-preserved c = record {
  has = has_next c.loop-entry.seen c.insert.new.self c.text_of.result c.args.entries.now c.loop-entry.entry-index c.entry-item.result c.loop-entry-test.true c.entry-item.is c.text_of.ensures c.in_ok-is_new.ensures.updates c.loop-entry.invariant.has;
  once = c.loop-entry.invariant.once
      ∙ once_goes_on c.args.entries.now c.loop-entry.entry-index c.entry-item.result c.text_of.result.now c.loop-entry-test.true c.entry-item.is c.text_of.ensures
      (sym (c.loop-entry.invariant.has c.text_of.result.now) ∙ new_of _ _ c.in_ok-is_new.ensures.added (cc (c.if-not-is_new.false)));
}
