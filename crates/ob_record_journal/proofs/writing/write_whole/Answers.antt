use Rattle.std.proofs.Common.{◌≡◌, ◌≤◌, ℕ, List, length, option_copied, sym, ap, ◌∙◌, subst, arith}
use Rattle.ob_journal.specs.Device.{Holds}
use Rattle.ob_record_journal.specs.Writing.{IsWhole}
use Rattle.ob_record_journal.proofs.Whole.{whole_says, written_whole}
use Rattle.ob_record_journal.proofs.writing.write_whole.Goals as goal

pub returns-clause-says : goal.returns-clause-says
returns-clause-says g c = λ told.
    let seen = g.D.Device.seen in
    let text = c.in_ok-text.text.items in
    let short : length (seen c.read.new.self) ≤ 14 =
    omega (arith, c.len.ensures, c.if-len.false, ap (λ (l : List ℕ). length l) (c.in_ok-there.ensures.bytes told), ap (λ (l : List ℕ). length l) (c.read.ensures.seen told)) in
    let holds : Holds (seen c.read.new.self) 0 text (seen c.write_at.new.self) =
    subst (λ (l : List ℕ). Holds (seen c.read.new.self) 0 l (seen c.write_at.new.self)) c.deref.ensures.value (c.in_ok-write_at.ensures.written told) in
    let is : seen c.sync.new.self ≡ text = c.sync.ensures.seen told ∙ written_whole (seen c.read.new.self) text (seen c.write_at.new.self) short c.in_ok-text.ensures.long holds in
    whole_says c.record_at_rest.ensures (option_copied c.args.run) (seen c.sync.new.self) (subst (λ (l : List ℕ). IsWhole (option_copied c.args.run) l) (sym is) c.in_ok-text.ensures.whole)
