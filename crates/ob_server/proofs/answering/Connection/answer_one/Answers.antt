use Rattle.std.proofs.Common.{◌∙◌, [], ◌∷◌, subst, refl, sym, inl, inr}
use Rattle.ob_io.specs.Told.{Gains-none}
use Rattle.ob_http.specs.declared.answer.StatusLine.TheVariants as lines
use Rattle.ob_http.specs.Answer.{answer_text}
use Rattle.ob_machine.specs.declared.call.Answer.TheVariants.{Done, NoMemory}
use Rattle.ob_machine.specs.History.{entry}
use Rattle.ob_server.specs.Exchange.{SortsTo, fixed, stepped}
use Rattle.ob_server.specs.declared.end.Break.TheVariants as breaks
use Rattle.ob_server.proofs.ExchangeLemmas.{breaks_early, breaks_inside, lasts_more, sends_one}
use Rattle.ob_server.proofs.answering.Connection.answer_one.Goals as goal

pub returns-in_default-clause-answers : goal.returns-in_default-clause-answers
returns-in_default-clause-answers g c = λ request sorts closes. record {
  calls = [];
  asked = refl;
  answers = breaks_early _ request _ _ breaks.ClockFault (record { wrote = Gains-none _; gave = c.in_default.ensures.gave; lasts = c.in_default.ensures.lasting; made = refl });
  memory = inr tt;
}

pub returns-in_default-answer-clause-answers : goal.returns-in_default-answer-clause-answers
returns-in_default-answer-clause-answers g c = λ request sorts closes.
    let call = entry 0 c.in-Step.request c.in-Ok.moment NoMemory in
    record {
      calls = call ∷ [];
      asked = ((c.answer.new.self, c.answer.new.outside), c.in_default-answer.ensures.wanting, refl);
      answers = breaks_inside _ request _ _ breaks.Memory (stepped request call) [] (subst (SortsTo request) c.in-Step.is sorts)
          refl ([], refl) (record { wrote = Gains-none _; gave = c.in-Ok.ensures.gave; lasts = lasts_more _ _ c.in-Ok.ensures.lasting; made = refl });
      memory = inl refl;
    }

pub returns-in_default-encode-clause-answers : goal.returns-in_default-encode-clause-answers
returns-in_default-encode-clause-answers g c = λ request sorts closes.
    let call = entry 0 c.in-Step.request c.in-Ok.moment (Done c.in-Ok-answer.reply) in
    record {
      calls = call ∷ [];
      asked = ((c.answer.new.self, c.answer.new.outside), c.in-Ok-answer.ensures.replied, refl);
      answers = breaks_inside _ request _ _ breaks.Memory (stepped request call) [] (subst (SortsTo request) c.in-Step.is sorts)
          refl (_, refl) (record { wrote = Gains-none _; gave = c.in-Ok.ensures.gave; lasts = lasts_more _ _ c.in-Ok.ensures.lasting; made = refl });
      memory = inr (tt, tt);
    }

pub returns-in-Fixed-clause-answers : goal.returns-in-Fixed-clause-answers
returns-in-Fixed-clause-answers g c = λ request sorts closes. record {
  calls = [];
  asked = refl;
  answers = sends_one _ request _ _ (fixed request c.in-Ok.moment c.in-Fixed.line c.in-Fixed.body) _ _ (subst (SortsTo request) c.in-Fixed.is sorts)
      tt refl (λ i. answer_text c.in-Fixed.line (sym closes i) (c.as_slice.ensures i)) c.write_out.ensures.sends c.in-Ok.ensures.gave c.in-Ok.ensures.lasting refl;
  memory = inr tt;
}

pub returns-in-Ok-encode-clause-answers : goal.returns-in-Ok-encode-clause-answers
returns-in-Ok-encode-clause-answers g c = λ request sorts closes.
    let call = entry 0 c.in-Step.request c.in-Ok.moment (Done c.in-Ok-answer.reply) in
    record {
      calls = call ∷ [];
      asked = ((c.answer.new.self, c.answer.new.outside), c.in-Ok-answer.ensures.replied, refl);
      answers = sends_one _ request _ _ (stepped request call) _ _ (subst (SortsTo request) c.in-Step.is sorts)
          tt refl (λ i. answer_text lines.Done (sym closes i) ((c.deref.ensures.value ∙ c.in-Ok-encode.ensures) i)) c.write_out-in-Step.ensures.sends c.in-Ok.ensures.gave c.in-Ok.ensures.lasting refl;
      memory = inr (tt, tt);
    }
