use Rattle.std.proofs.Common.{◌≡◌, ℕ, ◌+◌, ◌≤◌, ◌++◌, sym, ap, subst, ◌∙◌, arith}
use Rattle.ob_xml.specs.declared.judge.Turn.TheVariants as turns
use Rattle.ob_xml.specs.Judged.{document, fault}
use Rattle.ob_xml.specs.Leading.{Leads, is_tag, begins_by}
use Rattle.ob_xml.specs.Turning.{Turned}
use Rattle.ob_xml.specs.Views.{state_of}
use Rattle.ob_xml.proofs.Runs.{begins_within, lead_more, judges_gone, from_base}
use Rattle.ob_xml.proofs.judge.run.Goals as goal

pub turns-init : goal.turns-init
turns-init c = record {
  inside = c.requires.inside;
  begins = omega arith;
  unfinished = c.requires.unfinished;
  sound = c.requires.sound;
  leads = λ gone e l. from_base c.args.hand.end (gone ++ c.args.hand.bytes.now) (state_of c.args.state) (c.args.hand.base + c.args.at) c.args.hand.base l;
}

pub turns-preserved : goal.turns-preserved
turns-preserved c =
    let h : Turned c.args.hand.end c.args.hand.bytes.now c.args.hand.base c.turns.state c.turns.at (turns.On c.in-On.after c.in-On.next) = rw c.in-On.is at c.in_ok-after.ensures in
    let from_is : c.tag_begins-from.result ≡ begins_by (is_tag (state_of c.turns.state)) (is_tag (state_of c.in-On.after)) c.turns.from c.turns.at c.in-On.next =
    c.tag_begins-from.ensures ∙ ap (λ b. begins_by b c.is_tag.result c.turns.from c.turns.at c.in-On.next) c.is_tag-tag.ensures
    ∙ ap (λ b. begins_by (is_tag (state_of c.turns.state)) b c.turns.from c.turns.at c.in-On.next) c.is_tag.ensures in
    record {
      inside = h.3;
      begins = subst (λ (n : ℕ). n ≤ c.in-On.next) (sym from_is) (begins_within (is_tag (state_of c.turns.state)) (is_tag (state_of c.in-On.after)) c.turns.from c.turns.at c.in-On.next c.turns.invariant.begins h.2);
      unfinished = h.0;
      sound = h.1;
      leads = λ gone e l.
          subst (λ (n : ℕ). Leads c.args.hand.end (gone ++ c.args.hand.bytes.now) (state_of c.in-On.after) (c.args.hand.base + c.in-On.next) (c.args.hand.base + n)) (sym from_is)
          (lead_more c.args.hand.end gone c.args.hand.bytes.now (state_of c.turns.state) (state_of c.in-On.after) c.args.hand.base c.turns.at c.turns.from c.in-On.next e (c.turns.invariant.leads gone e l) h.4 h.2 h.3);
    }

pub returns-in-Document-clause-ran : goal.returns-in-Document-clause-ran
returns-in-Document-clause-ran c = λ gone e l.
    let h : Turned c.args.hand.end c.args.hand.bytes.now c.args.hand.base c.turns.state c.turns.at (turns.Document c.in-Document.doc) = rw c.in-Document.is at c.in_ok-after.ensures in
    judges_gone c.args.hand.end gone c.args.hand.bytes.now (state_of c.turns.state) c.args.hand.base c.turns.at c.turns.from (document c.in-Document.doc.value) e (c.turns.invariant.leads gone e l) h.1

pub returns-in-Fault-clause-ran : goal.returns-in-Fault-clause-ran
returns-in-Fault-clause-ran c = λ gone e l.
    let h : Turned c.args.hand.end c.args.hand.bytes.now c.args.hand.base c.turns.state c.turns.at (turns.Fault c.in-Fault.refused) = rw c.in-Fault.is at c.in_ok-after.ensures in
    judges_gone c.args.hand.end gone c.args.hand.bytes.now (state_of c.turns.state) c.args.hand.base c.turns.at c.turns.from (fault c.in-Fault.refused.at c.in-Fault.refused.why) e (c.turns.invariant.leads gone e l) h
