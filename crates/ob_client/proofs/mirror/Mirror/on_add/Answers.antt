use Rattle.std.proofs.Common.{List, map, ap, sym, ◌∙◌, false}
use Rattle.std.specs.Str.{bytes_eq}
use Rattle.ob_watching.specs.Replay.{added_by}
use Rattle.ob_watching.specs.WatchOuts.{Held, entry_read}
use Rattle.ob_client.specs.Entries.{entries_once}
use Rattle.ob_client.specs.Mirrors.{Mirrored}
use Rattle.ob_client.specs.Tables.{put_all}
use Rattle.ob_client.proofs.ChangeLemmas.{added_all}
use Rattle.ob_client.proofs.MirrorLemmas.{known_entries, known_once, added_is}
use Rattle.ob_client.proofs.mirror.Mirror.on_add.Goals as goal

pub returns : goal.returns
returns c =
    let os = c.in-Some.entries.now in
    let e = known_entries c.in_ok-entries.field-0 c.in-Some.entries (entries_once c.args.reply) c.in-Some.is c.in_ok-entries.ensures in
    let k = known_once c.args.reply os e in
    let old = c.self.inside.table in
    let stale = c.self.inside.is_stale in
    let held = c.in_ok-put_all.ensures.ok ∙ ap (λ (ns : List Held). put_all ns old) c.in_ok-news.ensures ∙ added_all os old in (
      os,
      e,
      sym (ap (λ (m : Mirrored). m.stale) c.self.view_is) ∙ c.if-self.false,
      ap (λ (hs : List Held). let m : Mirrored = record { held = hs; stale = stale } in m) held
          ∙ ap (λ (m : Mirrored). let n : Mirrored = record { held = added_by bytes_eq (map (entry_read false) os) m.held; stale = m.stale } in n) c.self.view_is
          ∙ sym (added_is c.args.reply c.args.self.now os k.0),
    )
