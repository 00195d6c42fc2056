use Rattle.std.proofs.Common.{ℕ, List, subst}
use Rattle.std.specs.Prelude.{IfOk, IfErr}
use Rattle.ob_journal.specs.Journal.{Finds}
use Rattle.ob_record.specs.Blocks.{IsBlock}
use Rattle.ob_record_journal.specs.Saying.{IsSaid, Unsaid, HasPlace}
use Rattle.ob_record_journal.proofs.Telling.{never_failed, read_leaves, unsaid_of}
use Rattle.ob_record_journal.proofs.saying.read_said.Goals as goal

pub returns-in-Ok-clause-extent : goal.returns-in-Ok-clause-extent
returns-in-Ok-clause-extent g c told =
    subst (λ (f : List ℕ). IfOk c.said_by.result (λ said. Finds IsBlock f said.extent)) (c.in-Ok.ensures.bytes told) c.said_by.ensures.extent

pub returns-in-Ok-clause-said : goal.returns-in-Ok-clause-said
returns-in-Ok-clause-said g c told =
    subst (λ (f : List ℕ). IfOk c.said_by.result (λ said. IsSaid f said.run)) (c.in-Ok.ensures.bytes told) c.said_by.ensures.said

pub returns-in-Ok-clause-none : goal.returns-in-Ok-clause-none
returns-in-Ok-clause-none g c told =
    subst (λ (f : List ℕ). IfErr c.said_by.result (Unsaid f)) (c.in-Ok.ensures.bytes told) (unsaid_of c.said_by.result _ c.said_by.ensures.none)

pub returns-in-Ok-clause-place : goal.returns-in-Ok-clause-place
returns-in-Ok-clause-place g c told =
    subst (λ (f : List ℕ). IfErr c.said_by.result (HasPlace f)) (c.in-Ok.ensures.bytes told) c.said_by.ensures.place

pub returns-in-Ok-clause-any_moment : goal.returns-in-Ok-clause-any_moment
returns-in-Ok-clause-any_moment g c told =
    read_leaves g.D.Device.may_leave g.D.Device.moment g.D.Device.left_since c.args.device.now c.read.new.self (g.met.D.Device.only_now c.args.device.now) (c.read.ensures.crash told) (c.read.ensures.time told)

pub returns-in-Ok-clause-cause : goal.returns-in-Ok-clause-cause
returns-in-Ok-clause-cause g c = record {
  later = c.read.ensures.cause.later;
  failed = λ is. absurd (never_failed c.said_by.result _ c.said_by.ensures.none is);
}

pub returns-in-Err-Failed-clause-any_moment : goal.returns-in-Err-Failed-clause-any_moment
returns-in-Err-Failed-clause-any_moment g c told =
    read_leaves g.D.Device.may_leave g.D.Device.moment g.D.Device.left_since c.args.device.now c.read.new.self (g.met.D.Device.only_now c.args.device.now) (c.read.ensures.crash told) (c.read.ensures.time told)

pub returns-in-Err-Memory-clause-any_moment : goal.returns-in-Err-Memory-clause-any_moment
returns-in-Err-Memory-clause-any_moment g c told =
    read_leaves g.D.Device.may_leave g.D.Device.moment g.D.Device.left_since c.args.device.now c.read.new.self (g.met.D.Device.only_now c.args.device.now) (c.read.ensures.crash told) (c.read.ensures.time told)
