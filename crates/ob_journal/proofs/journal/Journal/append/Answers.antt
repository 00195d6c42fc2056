use Rattle.std.proofs.Common.{◌+◌, [], ◌∷◌, length, inl, sym, ◌∙◌, subst}
use Rattle.ob_journal.specs.Device.{Holds, Only}
use Rattle.ob_journal.specs.Journal.{Stands, IsBeforeOrAfter}
use Rattle.ob_journal.proofs.Moments.{started, goes_on}
use Rattle.ob_journal.proofs.Fronts.{all_push}
use Rattle.ob_journal.proofs.Crash.{rest_stands, written_behind, written_gate, next_gate, stage_crash, gate_crash}
use Rattle.ob_journal.proofs.journal.Journal.append.Goals as goal

pub returns-then-closed-saturating_sub-clause-any_moment : goal.returns-then-closed-saturating_sub-clause-any_moment
returns-then-closed-saturating_sub-clause-any_moment g c told entries e s is bytes_is =
    let IsEntry = g.S.Shape.is_entry in
    let bytes = c.args.closed.now in
    let P = IsBeforeOrAfter IsEntry entries e in
    let Leaves = g.D.Device.may_leave in
    let old = c.args.self.now.device in
    let on = goes_on g.D.Device.moment g.D.Device.left_since old in
    let rest = rest_stands IsEntry entries s.valid c.args.self.now.end s.end_is in
    let at_start = started g.D.Device.moment g.D.Device.left_since old P (λ f left. inl (subst (λ x. Stands IsEntry x entries) (sym (s.durable f (g.met.D.Device.only_now old f left) ∙ s.file)) rest)) in
    at_start

pub returns-in_err-write_at-clause-any_moment : goal.returns-in_err-write_at-clause-any_moment
returns-in_err-write_at-clause-any_moment g c told entries e s is bytes_is =
    let IsEntry = g.S.Shape.is_entry in
    let bytes = c.args.closed.now in
    let P = IsBeforeOrAfter IsEntry entries e in
    let Leaves = g.D.Device.may_leave in
    let old = c.args.self.now.device in
    let on = goes_on g.D.Device.moment g.D.Device.left_since old in
    let rest = rest_stands IsEntry entries s.valid c.args.self.now.end s.end_is in
    let at_start = started g.D.Device.moment g.D.Device.left_since old P (λ f left. inl (subst (λ x. Stands IsEntry x entries) (sym (s.durable f (g.met.D.Device.only_now old f left) ∙ s.file)) rest)) in
    let only = subst (λ f. Only f (Leaves old)) s.file s.durable in
    let first = stage_crash IsEntry entries s.valid c.args.self.now.end s.end_is (length bytes) _ _ only (c.write_at.ensures.crash told) in
    let behind = on old c.write_at.new.self P _ at_start (c.write_at.ensures.time told) (λ f now. inl (first f now)) in
    behind

pub returns-in_err-sync-clause-any_moment : goal.returns-in_err-sync-clause-any_moment
returns-in_err-sync-clause-any_moment g c told entries e s is bytes_is =
    let IsEntry = g.S.Shape.is_entry in
    let bytes = c.args.closed.now in
    let P = IsBeforeOrAfter IsEntry entries e in
    let Leaves = g.D.Device.may_leave in
    let old = c.args.self.now.device in
    let on = goes_on g.D.Device.moment g.D.Device.left_since old in
    let rest = rest_stands IsEntry entries s.valid c.args.self.now.end s.end_is in
    let at_start = started g.D.Device.moment g.D.Device.left_since old P (λ f left. inl (subst (λ x. Stands IsEntry x entries) (sym (s.durable f (g.met.D.Device.only_now old f left) ∙ s.file)) rest)) in
    let only = subst (λ f. Only f (Leaves old)) s.file s.durable in
    let first = stage_crash IsEntry entries s.valid c.args.self.now.end s.end_is (length bytes) _ _ only (c.write_at.ensures.crash told) in
    let behind = on old c.write_at.new.self P _ at_start (c.write_at.ensures.time told) (λ f now. inl (first f now)) in
    let kept = on c.write_at.new.self c.sync.new.self P _ behind (c.sync.ensures.time told) (λ f now. inl (first f (c.sync.ensures.crash told f now))) in
    kept

pub returns-in_err-write_at-2-clause-any_moment : goal.returns-in_err-write_at-2-clause-any_moment
returns-in_err-write_at-2-clause-any_moment g c told entries e s is bytes_is =
    let IsEntry = g.S.Shape.is_entry in
    let bytes = c.args.closed.now in
    let P = IsBeforeOrAfter IsEntry entries e in
    let Leaves = g.D.Device.may_leave in
    let old = c.args.self.now.device in
    let on = goes_on g.D.Device.moment g.D.Device.left_since old in
    let rest = rest_stands IsEntry entries s.valid c.args.self.now.end s.end_is in
    let at_start = started g.D.Device.moment g.D.Device.left_since old P (λ f left. inl (subst (λ x. Stands IsEntry x entries) (sym (s.durable f (g.met.D.Device.only_now old f left) ∙ s.file)) rest)) in
    let only = subst (λ f. Only f (Leaves old)) s.file s.durable in
    let first = stage_crash IsEntry entries s.valid c.args.self.now.end s.end_is (length bytes) _ _ only (c.write_at.ensures.crash told) in
    let behind = on old c.write_at.new.self P _ at_start (c.write_at.ensures.time told) (λ f now. inl (first f now)) in
    let kept = on c.write_at.new.self c.sync.new.self P _ behind (c.sync.ensures.time told) (λ f now. inl (first f (c.sync.ensures.crash told f now))) in
    let holds = subst (λ f. Holds f (c.args.self.now.end + 1) bytes (g.D.Device.seen c.write_at.new.self)) s.file (c.in_ok-write_at.ensures.written told) in
    let is_staged = written_behind IsEntry entries s.valid c.args.self.now.end s.end_is bytes _ holds in
    let only_staged = subst (λ f. Only f (Leaves c.sync.new.self)) is_staged (c.in_ok-sync.ensures.durable told) in
    let second = gate_crash IsEntry entries s.valid c.args.self.now.end s.end_is g.met.S.Shape.one_first e bytes is bytes_is _ _ only_staged (c.write_at-2.ensures.crash told) in
    let opened = on c.sync.new.self c.write_at-2.new.self P _ kept (c.write_at-2.ensures.time told) (λ f now. second f now) in
    opened

pub returns-in_err-sync-2-clause-any_moment : goal.returns-in_err-sync-2-clause-any_moment
returns-in_err-sync-2-clause-any_moment g c told entries e s is bytes_is =
    let IsEntry = g.S.Shape.is_entry in
    let bytes = c.args.closed.now in
    let P = IsBeforeOrAfter IsEntry entries e in
    let Leaves = g.D.Device.may_leave in
    let old = c.args.self.now.device in
    let on = goes_on g.D.Device.moment g.D.Device.left_since old in
    let rest = rest_stands IsEntry entries s.valid c.args.self.now.end s.end_is in
    let at_start = started g.D.Device.moment g.D.Device.left_since old P (λ f left. inl (subst (λ x. Stands IsEntry x entries) (sym (s.durable f (g.met.D.Device.only_now old f left) ∙ s.file)) rest)) in
    let only = subst (λ f. Only f (Leaves old)) s.file s.durable in
    let first = stage_crash IsEntry entries s.valid c.args.self.now.end s.end_is (length bytes) _ _ only (c.write_at.ensures.crash told) in
    let behind = on old c.write_at.new.self P _ at_start (c.write_at.ensures.time told) (λ f now. inl (first f now)) in
    let kept = on c.write_at.new.self c.sync.new.self P _ behind (c.sync.ensures.time told) (λ f now. inl (first f (c.sync.ensures.crash told f now))) in
    let holds = subst (λ f. Holds f (c.args.self.now.end + 1) bytes (g.D.Device.seen c.write_at.new.self)) s.file (c.in_ok-write_at.ensures.written told) in
    let is_staged = written_behind IsEntry entries s.valid c.args.self.now.end s.end_is bytes _ holds in
    let only_staged = subst (λ f. Only f (Leaves c.sync.new.self)) is_staged (c.in_ok-sync.ensures.durable told) in
    let second = gate_crash IsEntry entries s.valid c.args.self.now.end s.end_is g.met.S.Shape.one_first e bytes is bytes_is _ _ only_staged (c.write_at-2.ensures.crash told) in
    let opened = on c.sync.new.self c.write_at-2.new.self P _ kept (c.write_at-2.ensures.time told) (λ f now. second f now) in
    let ended = on c.write_at-2.new.self c.sync-2.new.self P _ opened (c.sync-2.ensures.time told) (λ f now. second f (c.sync-2.ensures.crash told f now)) in
    ended

pub returns-clause-any_moment : goal.returns-clause-any_moment
returns-clause-any_moment g c told entries e s is bytes_is =
    let IsEntry = g.S.Shape.is_entry in
    let bytes = c.args.closed.now in
    let P = IsBeforeOrAfter IsEntry entries e in
    let Leaves = g.D.Device.may_leave in
    let old = c.args.self.now.device in
    let on = goes_on g.D.Device.moment g.D.Device.left_since old in
    let rest = rest_stands IsEntry entries s.valid c.args.self.now.end s.end_is in
    let at_start = started g.D.Device.moment g.D.Device.left_since old P (λ f left. inl (subst (λ x. Stands IsEntry x entries) (sym (s.durable f (g.met.D.Device.only_now old f left) ∙ s.file)) rest)) in
    let only = subst (λ f. Only f (Leaves old)) s.file s.durable in
    let first = stage_crash IsEntry entries s.valid c.args.self.now.end s.end_is (length bytes) _ _ only (c.write_at.ensures.crash told) in
    let behind = on old c.write_at.new.self P _ at_start (c.write_at.ensures.time told) (λ f now. inl (first f now)) in
    let kept = on c.write_at.new.self c.sync.new.self P _ behind (c.sync.ensures.time told) (λ f now. inl (first f (c.sync.ensures.crash told f now))) in
    let holds = subst (λ f. Holds f (c.args.self.now.end + 1) bytes (g.D.Device.seen c.write_at.new.self)) s.file (c.in_ok-write_at.ensures.written told) in
    let is_staged = written_behind IsEntry entries s.valid c.args.self.now.end s.end_is bytes _ holds in
    let only_staged = subst (λ f. Only f (Leaves c.sync.new.self)) is_staged (c.in_ok-sync.ensures.durable told) in
    let second = gate_crash IsEntry entries s.valid c.args.self.now.end s.end_is g.met.S.Shape.one_first e bytes is bytes_is _ _ only_staged (c.write_at-2.ensures.crash told) in
    let opened = on c.sync.new.self c.write_at-2.new.self P _ kept (c.write_at-2.ensures.time told) (λ f now. second f now) in
    let ended = on c.write_at-2.new.self c.sync-2.new.self P _ opened (c.sync-2.ensures.time told) (λ f now. second f (c.sync-2.ensures.crash told f now)) in
    ended

pub returns-clause-acknowledged : goal.returns-clause-acknowledged
returns-clause-acknowledged g c told entries e s is bytes_is =
    let IsEntry = g.S.Shape.is_entry in
    let bytes = c.args.closed.now in
    let Leaves = g.D.Device.may_leave in
    let holds = subst (λ f. Holds f (c.args.self.now.end + 1) bytes (g.D.Device.seen c.write_at.new.self)) s.file (c.in_ok-write_at.ensures.written told) in
    let is_staged = written_behind IsEntry entries s.valid c.args.self.now.end s.end_is bytes _ holds in
    let holds_gate = subst (λ f. Holds f c.args.self.now.end (10 ∷ []) (g.D.Device.seen c.write_at-2.new.self)) (c.sync.ensures.seen told ∙ is_staged) (c.in_ok-write_at-2.ensures.written told) in
    let is_open = written_gate IsEntry entries s.valid c.args.self.now.end s.end_is e bytes bytes_is _ holds_gate in
    let durable = subst (λ f. Only f (Leaves c.sync-2.new.self)) (sym (c.sync-2.ensures.seen told)) (c.in_ok-sync-2.ensures.durable told) in
    record { valid = all_push IsEntry entries e s.valid is; file = c.sync-2.ensures.seen told ∙ is_open; end_is = next_gate IsEntry entries s.valid c.args.self.now.end s.end_is e bytes bytes_is; durable = durable }
