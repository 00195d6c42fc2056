use Rattle.std.proofs.Common.{length, drop, ap, ◌∙◌, arith}
use Rattle.std.proofs.lemmas.List.{length_push}
use Rattle.std.proofs.lemmas.Iterator.Adapters.{YieldsList-from_vec}
use Rattle.std.proofs.lemmas.Iterator.Consumers.{YieldsList-turn, YieldsList-end}
use Rattle.ob_client.specs.Tables.{texts_of, put_all}
use Rattle.ob_client.proofs.TableLemmas.{key_at, keys_kept, put_next, put_done}
use Rattle.ob_client.proofs.table.put_each.Goals as goal

pub put_new-requires-clause-key : goal.put_new-requires-clause-key
put_new-requires-clause-key c =
    let t = YieldsList-turn (YieldsList-from_vec {s = c.into_iter-new-iterator.result} c.args.news.items c.into_iter-new-iterator.ensures.into_iter_gives.0 (c.into_iter-new-iterator.ensures.into_iter_gives.1 ∙ c.args.news.ok.0)) c.loop-new.yielded c.loop-new.new-iterator c.loop-new.yielded_by c.next.result c.next.new.self c.in-Some.new c.in-Some.is c.next.ensures.steps in
    key_at c.loop-new.places c.args.news.items (length c.loop-new.yielded) c.in-Some.new t.0 t.1 c.loop-new.invariant.keys

pub put_new-requires-clause-room : goal.put_new-requires-clause-room
put_new-requires-clause-room c =
    let t = YieldsList-turn (YieldsList-from_vec {s = c.into_iter-new-iterator.result} c.args.news.items c.into_iter-new-iterator.ensures.into_iter_gives.0 (c.into_iter-new-iterator.ensures.into_iter_gives.1 ∙ c.args.news.ok.0)) c.loop-new.yielded c.loop-new.new-iterator c.loop-new.yielded_by c.next.result c.next.new.self c.in-Some.new c.in-Some.is c.next.ensures.steps in
    omega (arith, t.0, c.loop-new.invariant.room)

pub loop-new-preserved : goal.loop-new-preserved
loop-new-preserved c =
    let t = YieldsList-turn (YieldsList-from_vec {s = c.into_iter-new-iterator.result} c.args.news.items c.into_iter-new-iterator.ensures.into_iter_gives.0 (c.into_iter-new-iterator.ensures.into_iter_gives.1 ∙ c.args.news.ok.0)) c.loop-new.yielded c.loop-new.new-iterator c.loop-new.yielded_by c.next.result c.next.new.self c.in-Some.new c.in-Some.is c.next.ensures.steps in
    let one = length_push c.loop-new.yielded c.in-Some.new in
    record {
      rest = ap (λ k. put_all (drop k c.args.news.items) c.put_new.new.kept.items) one
          ∙ put_next c.args.news.items (length c.loop-new.yielded) c.in-Some.new c.loop-new.kept.items c.put_new.new.kept.items t.0 t.1 c.put_new.ensures.put
          ∙ c.loop-new.invariant.rest;
      index = c.put_new.ensures.index;
      keys = keys_kept c.loop-new.places c.put_new.new.places (texts_of c.args.news.items) c.put_new.ensures.keys c.loop-new.invariant.keys;
      room = omega (arith, c.loop-new.invariant.room, c.put_new.ensures.room.0, c.put_new.ensures.room.1, one);
    }

pub returns-clause-put : goal.returns-clause-put
returns-clause-put c =
    let t = YieldsList-end (YieldsList-from_vec {s = c.into_iter-new-iterator.result} c.args.news.items c.into_iter-new-iterator.ensures.into_iter_gives.0 (c.into_iter-new-iterator.ensures.into_iter_gives.1 ∙ c.args.news.ok.0)) c.loop-new.yielded c.loop-new.new-iterator c.loop-new.yielded_by c.next.result c.next.new.self c.in-None.is c.next.ensures.steps in
    put_done c.args.news.items (length c.loop-new.yielded) c.loop-new.kept.items t.1 ∙ c.loop-new.invariant.rest
