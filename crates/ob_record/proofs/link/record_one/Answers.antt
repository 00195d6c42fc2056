use Rattle.std.proofs.Common.{◌∙◌, ℕ, List, Option, subst}
use Rattle.ob_io.specs.Told.{Gains, IsFront}
use Rattle.ob_server.specs.Exchange.{SortsTo}
use Rattle.ob_server.specs.declared.end.Break.TheVariants as breaks
use Rattle.ob_record.proofs.AskLaws.{one_early, one_fixed, one_wanting, one_told, one_cut}
use Rattle.ob_record.proofs.BodyLaws.{asked_spelled}
use Rattle.ob_record.proofs.link.record_one.Goals as goal

pub returns-in_default-clause-records : goal.returns-in_default-clause-records
returns-in_default-clause-records g c = λ request sorts closes few.
    one_early g.M.Machine.act c.args.machine.now _ _ _ request breaks.ClockFault c.in_default.ensures.gave c.in_default.ensures.lasting

pub returns-in-Fixed-clause-records : goal.returns-in-Fixed-clause-records
returns-in-Fixed-clause-records g c = λ request sorts closes few.
    one_fixed g.M.Machine.act c.args.machine.now _ _ _ request c.args.next.sorted c.in-Ok.moment c.in-Fixed.line c.in-Fixed.body tt sorts c.in-Fixed.is
    c.in-Ok.ensures.gave c.in-Ok.ensures.lasting

pub returns-in_default-ask_entry-clause-records : goal.returns-in_default-ask_entry-clause-records
returns-in_default-ask_entry-clause-records g c = λ request sorts closes few.
    one_wanting g.M.Machine.act c.args.machine.now c.ask_entry.new.machine _ _ _ request c.args.next.sorted c.in-Step.request c.in-Ok.moment breaks.Memory sorts c.in-Step.is
    c.in-Ok.ensures.gave c.in-Ok.ensures.lasting c.in_default-ask_entry.ensures.wanting

pub returns-in_default-send-clause-records : goal.returns-in_default-send-clause-records
returns-in_default-send-clause-records g c = λ request sorts closes few.
    let asked = c.in-Step.request in
    let sends = c.in_default-send.ensures.sends in
    let tells = c.in-Ok-ask_entry.ensures.tells (asked_spelled request asked few (subst (SortsTo request) c.in-Step.is sorts)) in
    one_cut g.M.Machine.act c.args.machine.now c.ask_entry.new.machine _ _ _ _ request c.args.next.sorted asked c.in-Ok.moment c.in-Ok-ask_entry.text.items sends.sent breaks.WriteFault
    sorts c.in-Step.is c.in-Ok.ensures.gave c.in-Ok.ensures.lasting tells sends.gained
    (subst (λ (l : List ℕ). IsFront sends.sent l) c.deref.ensures.value sends.front)

pub returns-clause-records : goal.returns-clause-records
returns-clause-records g c = λ request sorts closes few.
    let asked = c.in-Step.request in
    let sends = c.in-Ok-send.ensures.sends in
    let tells = c.in-Ok-ask_entry.ensures.tells (asked_spelled request asked few (subst (SortsTo request) c.in-Step.is sorts)) in
    one_told g.M.Machine.act c.args.machine.now c.ask_entry.new.machine _ _ _ _ request c.args.next.sorted asked c.in-Ok.moment c.in-Ok-ask_entry.text.items tt
    sorts c.in-Step.is c.in-Ok.ensures.gave c.in-Ok.ensures.lasting tells
    (subst (λ (l : List ℕ). Gains (g.L.Link.held c.args.link.now) l (g.L.Link.held c.send.new.link)) (sends.whole ∙ c.deref.ensures.value) sends.gained)
