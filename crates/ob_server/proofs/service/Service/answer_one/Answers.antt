use Rattle.std.proofs.Common.{◌∙◌, [], subst, refl, sym, append-nil}
use Rattle.ob_io.specs.Told.{Gains-none}
use Rattle.ob_http.specs.declared.answer.StatusLine.TheVariants as lines
use Rattle.ob_http.specs.Answer.{answer_text}
use Rattle.ob_machine.specs.declared.call.Answer.TheVariants.{Done, NoMemory}
use Rattle.ob_machine.specs.History.{entry}
use Rattle.ob_turn.specs.Callers.{own}
use Rattle.ob_turn.specs.Standing.{mine}
use Rattle.ob_server.specs.Exchange.{SortsTo, fixed, stepped}
use Rattle.ob_server.specs.declared.end.Break.TheVariants as breaks
use Rattle.ob_server.proofs.ExchangeLemmas.{breaks_early, breaks_inside, lasts_more, sends_one, continues_none, continues_asked}
use Rattle.ob_server.proofs.service.Service.answer_one.Goals as goal

pub returns-in_default-clause-answers : goal.returns-in_default-clause-answers
returns-in_default-clause-answers g c = λ request sorts closes.
    breaks_early _ request _ _ breaks.ClockFault (record { wrote = Gains-none _; gave = c.in_default.ensures.gave; lasts = c.in_default.ensures.lasting; made = sym (append-nil (mine c.args.connection.now.pass.now)) })

pub returns-in_default-ask-clause-answers : goal.returns-in_default-ask-clause-answers
returns-in_default-ask-clause-answers g c = λ request sorts closes.
    let call = entry (own c.args.connection.now.pass.now.numbers) c.in-Step.request c.in-Ok.moment NoMemory in
    breaks_inside _ request _ _ breaks.Memory (stepped request call) [] (subst (SortsTo request) c.in-Step.is sorts)
    refl ([], refl) (record { wrote = Gains-none _; gave = c.in-Ok.ensures.gave; lasts = lasts_more _ _ c.in-Ok.ensures.lasting; made = c.in_default-ask.ensures.calls })

pub returns-in_default-encode-clause-answers : goal.returns-in_default-encode-clause-answers
returns-in_default-encode-clause-answers g c = λ request sorts closes.
    let call = entry (own c.args.connection.now.pass.now.numbers) c.in-Step.request c.in-Ok.moment (Done c.in-Done.reply) in
    breaks_inside _ request _ _ breaks.Memory (stepped request call) [] (subst (SortsTo request) c.in-Step.is sorts)
    refl (_, refl) (record { wrote = Gains-none _; gave = c.in-Ok.ensures.gave; lasts = lasts_more _ _ c.in-Ok.ensures.lasting; made = c.in-Done.ensures.calls })

pub returns-in-Fixed-clause-answers : goal.returns-in-Fixed-clause-answers
returns-in-Fixed-clause-answers g c = λ request sorts closes.
    sends_one _ request _ _ (fixed request c.in-Ok.moment c.in-Fixed.line c.in-Fixed.body) _ _ (subst (SortsTo request) c.in-Fixed.is sorts)
    tt refl (λ i. answer_text c.in-Fixed.line (sym closes i) (c.as_slice.ensures i)) c.write_out.ensures.sends c.in-Ok.ensures.gave c.in-Ok.ensures.lasting (sym (append-nil (mine c.args.connection.now.pass.now)))

pub returns-in-Ok-encode-clause-answers : goal.returns-in-Ok-encode-clause-answers
returns-in-Ok-encode-clause-answers g c = λ request sorts closes.
    let call = entry (own c.args.connection.now.pass.now.numbers) c.in-Step.request c.in-Ok.moment (Done c.in-Done.reply) in
    sends_one _ request _ _ (stepped request call) _ _ (subst (SortsTo request) c.in-Step.is sorts)
    tt refl (λ i. answer_text lines.Done (sym closes i) ((c.deref.ensures.value ∙ c.in-Ok-encode.ensures) i)) c.write_out-in-Step.ensures.sends c.in-Ok.ensures.gave c.in-Ok.ensures.lasting c.in-Done.ensures.calls

pub returns-in_default-clause-pass : goal.returns-in_default-clause-pass
returns-in_default-clause-pass g c = continues_none _ _ _

pub returns-in_default-ask-clause-pass : goal.returns-in_default-ask-clause-pass
returns-in_default-ask-clause-pass g c =
    let e = c.in_default-ask.ensures in continues_asked _ _ _ _ _ e.same e.seen refl e.legal

pub returns-in_default-encode-clause-pass : goal.returns-in_default-encode-clause-pass
returns-in_default-encode-clause-pass g c =
    let e = c.in-Done.ensures in continues_asked _ _ _ _ _ e.same e.seen refl e.legal

pub returns-in-Fixed-clause-pass : goal.returns-in-Fixed-clause-pass
returns-in-Fixed-clause-pass g c = continues_none _ _ _

pub returns-in-Ok-encode-clause-pass : goal.returns-in-Ok-encode-clause-pass
returns-in-Ok-encode-clause-pass g c =
    let e = c.in-Done.ensures in continues_asked _ _ _ _ _ e.same e.seen refl e.legal
