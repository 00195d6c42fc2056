use Rattle.std.proofs.Common.{◌≡◌, ◌∷◌, [], sym, append-nil}
use Rattle.ob_server.proofs.BackLemmas.{back_none, back_more, taken_is, taken_out}
use Rattle.ob_server.proofs.passes.join_workers.Goals as goal

pub loop-worker-init : goal.loop-worker-init
loop-worker-init g c = record { done = []; all = sym (append-nil c.args.workers.items); back = back_none _ _ _ _ _ _ _ _ _ _ _ _ }

pub join-requires-clause-other : goal.join-requires-clause-other
join-requires-clause-other g c =
    let i = c.loop-worker.invariant in
    let out = rw c.in-Some.is at c.pop.ensures.items in
    taken_is (λ w. w.pass.table ≡ c.args.desk.now.table) c.args.workers.items c.pop.new.self.items c.loop-worker.workers.items i.done c.in-Some.worker i.all out c.requires.each

pub loop-worker-preserved : goal.loop-worker-preserved
loop-worker-preserved g c =
    let i = c.loop-worker.invariant in
    let out = rw c.in-Some.is at c.pop.ensures.items in
    let e = c.join.ensures in
    let b = c.back.ensures in
    let t = c.back-in-Some.ensures in
    record {
      done = c.in-Some.worker ∷ i.done;
      all = taken_out c.args.workers.items c.pop.new.self.items c.loop-worker.workers.items i.done c.in-Some.worker i.all out;
      back = back_more _ _ _ _ _ _ _ _ _ c.in-Some.worker i.done _ _ _ _ _ _ _ _ _ i.back e.same e.longer e.own e.others e.calls
          b.door b.returned b.whole b.later b.broken b.apart t.twin t.whole t.later t.broken t.apart t.pace;
    }
