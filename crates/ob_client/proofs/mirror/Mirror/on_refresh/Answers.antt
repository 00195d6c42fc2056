use Rattle.std.proofs.Common.{◌≡◌, List, [], map, ap, sym, ◌∙◌, false}
use Rattle.ob_watching.specs.WatchOuts.{Held, entry_read}
use Rattle.ob_client.specs.Entries.{entries_once}
use Rattle.ob_client.specs.Mirrors.{Mirrored}
use Rattle.ob_client.specs.Tables.{put_all}
use Rattle.ob_client.proofs.ChangeLemmas.{refreshed_all}
use Rattle.ob_client.proofs.MirrorLemmas.{known_entries, known_once, refreshed_is}
use Rattle.ob_client.proofs.mirror.Mirror.on_refresh.Goals as goal

pub returns : goal.returns
returns c =
    let os = c.in-Some.entries.now in
    let e = known_entries c.in_ok-entries.field-0 c.in-Some.entries (entries_once c.args.reply) c.in-Some.is c.in_ok-entries.ensures in
    let k = known_once c.args.reply os e in
    let empty : c.new-table.result ≡ [] = c.new-table.ensures in
    let held = c.in_ok-put_all.ensures.ok ∙ ap (λ (ns : List Held). put_all ns c.new-table.result) c.in_ok-news.ensures ∙ ap (put_all (map (entry_read false) os)) empty ∙ refreshed_all os k.1 in
    (os, e, ap (λ (hs : List Held). let m : Mirrored = record { held = hs; stale = false } in m) held ∙ sym (refreshed_is c.args.reply c.args.self.now os k.0))
