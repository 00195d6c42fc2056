use Rattle.std.proofs.Common.{◌≡◌, ℕ, List, [], ◌∷◌, ◌++◌, sym, ap, ◌∙◌, subst}
use Rattle.ob_record.specs.Broken.{BreaksAt, BreaksOff}
use Rattle.ob_record.specs.declared.fault.RecordFault.{RecordFault}
use Rattle.ob_record.specs.Runs.{Records}
use Rattle.ob_record_journal.proofs.Telling.{ceases, is_said, says_no_run, says_none, text}
use Rattle.ob_record_journal.proofs.saying.run_to.Goals as goal

pub returns-then-end-eq-FIRST_LINE-clause-said : goal.returns-then-end-eq-FIRST_LINE-clause-said
returns-then-end-eq-FIRST_LINE-clause-said c = says_none c.args.bytes.items c.args.end c.requires c.if-end-eq-FIRST_LINE.true

pub returns-in-Ok-clause-said : goal.returns-in-Ok-clause-said
returns-in-Ok-clause-said c =
    let file = c.args.bytes.items in
    let end = c.args.end in
    let bytes_is : c.push.new.self.items ≡ text file end c.requires = c.in_ok-push.ensures.items ∙ ap (λ (l : List ℕ). l ++ 10 ∷ []) c.truncate.ensures.items in
    let is = c.in-Ok.ensures.run in
    let records : Records c.in-Ok.run' is.1.0 = subst (λ (l : List ℕ). Records l is.1.0) (sym is.0) is.1.1 in
    is_said file end c.requires c.one_meaning.ensures c.record_at_rest.ensures c.in-Ok.run' (is.0 ∙ bytes_is) c.if-end-eq-FIRST_LINE.false is.1.0 records

pub returns-in-Err-At-clause-none : goal.returns-in-Err-At-clause-none
returns-in-Err-At-clause-none c =
    let file = c.args.bytes.items in
    let end = c.args.end in
    let bytes_is : c.push.new.self.items ≡ text file end c.requires = c.in_ok-push.ensures.items ∙ ap (λ (l : List ℕ). l ++ 10 ∷ []) c.truncate.ensures.items in
    let broken : BreaksAt c.push.new.self.items c.in-Err-At.place = subst (λ (f : RecordFault). BreaksOff c.push.new.self.items f) c.in-Err-At.field-0-is c.in-Err-At.ensures.broken in
    says_no_run file end c.requires c.one_meaning.ensures c.record_at_rest.ensures c.if-end-eq-FIRST_LINE.false c.in-Err-At.place c.spelled_is_unbroken.ensures
    (subst (λ (l : List ℕ). BreaksAt l c.in-Err-At.place) bytes_is broken)

pub returns-in-Err-At-clause-place : goal.returns-in-Err-At-clause-place
returns-in-Err-At-clause-place c =
    let file = c.args.bytes.items in
    let end = c.args.end in
    let bytes_is : c.push.new.self.items ≡ text file end c.requires = c.in_ok-push.ensures.items ∙ ap (λ (l : List ℕ). l ++ 10 ∷ []) c.truncate.ensures.items in
    let broken : BreaksAt c.push.new.self.items c.in-Err-At.place = subst (λ (f : RecordFault). BreaksOff c.push.new.self.items f) c.in-Err-At.field-0-is c.in-Err-At.ensures.broken in
    ceases file end c.requires c.in-Err-At.place (subst (λ (l : List ℕ). BreaksAt l c.in-Err-At.place) bytes_is broken)
