use Rattle.std.proofs.Common.{◌≡◌, ℕ, Option, true, [], ◌∷◌, ◌++◌, inr, refl, ap, ◌∙◌}
use Rattle.ob_record.specs.Blocks.{block_text}
use Rattle.ob_record.specs.Runs.{IsEntry, parts_of}
use Rattle.ob_record.specs.declared.run.Entry.{Entry}
use Rattle.ob_kept.specs.declared.recorder.Recorder.{Recorder}
use Rattle.ob_kept.specs.Recording.{asked_entry, next_block}
use Rattle.ob_kept.proofs.Appending.{appended, may_have_appended}
use Rattle.ob_kept.proofs.recorder.Recorder.append.Goals as goal

pub returns-in-Ok-clause-done : goal.returns-in-Ok-clause-done
returns-in-Ok-clause-done g c =
    let d = g.D.Device in
    let k = c.args.self.now in
    let l : Recorder g.row.D.Denot = record { alloc = k.alloc; journal = c.append.new.self; boot = k.boot; begun = true; next = k.next; failed = k.failed; full = k.full } in
    let e : Entry = asked_entry c.args.request.now c.args.time c.args.reply.now in
    let valid : IsEntry e = rw c.in-Some.is at c.in_ok-block.ensures.entry in
    let text : c.in-Some.block.items ≡ block_text c.opening-opening.result (parts_of e) ++ 0 ∷ [] = rw c.in-Some.is at c.in_ok-block.ensures.text in
    let closed : c.deref.result.now ≡ next_block k e ++ 0 ∷ [] =
    c.deref.ensures.value ∙ text ∙ ap (λ (b : Option ℕ). block_text b (parts_of e) ++ 0 ∷ []) c.opening-opening.ensures.moment in
    appended d.is_told d.seen d.may_leave d.moment d.left_since k l e c.opening-opening.ensures.range valid c.deref.result.now closed c.requires.ready.0
    (λ long. absurd (cc (c.in-Ok.ensures.full.1 long))) c.in-Ok.ensures.end c.in-Ok.ensures.acknowledged c.append.ensures.any_moment (record { boot = refl; full = refl; next_is = refl }) refl refl

pub returns-clause-err : goal.returns-clause-err
returns-clause-err g c =
    let d = g.D.Device in
    let k = c.args.self.now in
    let l : Recorder g.row.D.Denot = record { alloc = k.alloc; journal = c.append.new.self; boot = k.boot; begun = k.begun; next = k.next; failed = true; full = k.full } in
    let e : Entry = asked_entry c.args.request.now c.args.time c.args.reply.now in
    let valid : IsEntry e = rw c.in-Some.is at c.in_ok-block.ensures.entry in
    let text : c.in-Some.block.items ≡ block_text c.opening-opening.result (parts_of e) ++ 0 ∷ [] = rw c.in-Some.is at c.in_ok-block.ensures.text in
    let closed : c.deref.result.now ≡ next_block k e ++ 0 ∷ [] =
    c.deref.ensures.value ∙ text ∙ ap (λ (b : Option ℕ). block_text b (parts_of e) ++ 0 ∷ []) c.opening-opening.ensures.moment in
    inr (inr (may_have_appended d.is_told d.seen d.may_leave d.moment d.left_since k l e c.opening-opening.ensures.range valid c.deref.result.now closed c.in-Err.ensures.end_kept c.append.ensures.any_moment (record { boot = refl; full = refl; next_is = refl }) refl refl))
