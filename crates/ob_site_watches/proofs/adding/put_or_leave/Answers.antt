use Rattle.std.proofs.Common.{ℕ, List}
use Rattle.ob_requests.specs.Calls.{firsts as firsts_of}
use Rattle.ob_site_rules.specs.Watched.{Asked}
use Rattle.ob_watch.specs.Tables.{live, room_beside}
use Rattle.ob_watching.specs.Tables.{numbers_of}
use Rattle.ob_watching.specs.Watches.{Room}
use Rattle.ob_site_watches.proofs.Grown.{all_back, has_put, is_held}
use Rattle.ob_site_watches.proofs.adding.put_or_leave.Goals as goal

pub returns-in-Ok-clause-put : goal.returns-in-Ok-clause-put
returns-in-Ok-clause-put g c =
    let n = c.args.adding.now.number in
    let old = c.args.watches.now in
    let ns : List ℕ = numbers_of (live c.args.adding.now.moment old.watches) in
    let room : Room = room_beside n (live c.args.adding.now.moment old.watches) in
    let asked : List Asked = firsts_of c.args.adding.now.asked.now in
    λ w there. has_put n c.args.state.now room ns asked old c.put_all.new.watches c.args.undo c.put_all.new.undo c.in-Ok.reply w (c.in-Ok.ensures w there)

pub returns-in-Err-clause-err : goal.returns-in-Err-clause-err
returns-in-Err-clause-err g c =
    let n = c.args.adding.now.number in
    let old = c.args.watches.now in
    let ns : List ℕ = numbers_of (live c.args.adding.now.moment old.watches) in
    let room : Room = room_beside n (live c.args.adding.now.moment old.watches) in
    let asked : List Asked = firsts_of c.args.adding.now.asked.now in
    let held = is_held _ c.requires.held in
    all_back n c.args.state.now room ns asked old c.put_all.new.watches c.take_back.new.self c.args.undo c.put_all.new.undo c.put_all.result held.0 c.numbers-numbers.ensures.differ held.1
    (c.put_all.ensures held.0 held.1) (c.requires.nothing held.0 held.1) c.take_back.ensures.taken
