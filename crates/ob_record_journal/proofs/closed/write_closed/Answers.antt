use Rattle.std.proofs.Common.{◌≡◌, ◌-◌, ℕ, List, [], ◌∷◌, ◌++◌, take, length, ap, ap₂, ◌∙◌, arith}
use Rattle.ob_record.specs.declared.run.Entry.{Entry}
use Rattle.ob_record.specs.declared.run.Told.TheVariants.{Reply}
use Rattle.ob_record_journal.proofs.Closing.{closed_is}
use Rattle.ob_record_journal.proofs.closed.write_closed.Goals as goal

pub returns-clause-text : goal.returns-clause-text
returns-clause-text c =
    let e : Entry = record { moment = c.args.moment; request = c.args.request.now; reply = Reply c.args.reply.now } in
    let line = c.in_ok-block.block.items in
    let text = c.in_ok-text.text.items in
    let cut : c.len.result - 1 ≡ length text - 1 = omega (arith, c.len.ensures) in
    closed_is c.args.boot e line text c.push.new.self.items c.in_ok-block.ensures c.in_ok-text.ensures
    (c.in_ok-push.ensures.items ∙ ap (λ (l : List ℕ). l ++ 0 ∷ []) (c.in_ok-extend_from_slice.ensures.items ∙ ap₂ (λ (n : ℕ) (l : List ℕ). line ++ take n l) cut c.deref.ensures.value))
