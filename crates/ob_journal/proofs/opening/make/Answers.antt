use Rattle.std.proofs.Common.{refl, sym, ◌∙◌, subst}
use Rattle.ob_journal.specs.Device.{Only}
use Rattle.ob_journal.specs.Journal.{IsUnmade}
use Rattle.ob_journal.proofs.Moments.{started, goes_on}
use Rattle.ob_journal.proofs.Crash.{make_crash, made}
use Rattle.ob_journal.proofs.opening.make.Goals as goal

pub returns-in_err-write_at-clause-any_moment : goal.returns-in_err-write_at-clause-any_moment
returns-in_err-write_at-clause-any_moment g c told =
    let old = c.args.device.now in
    let short = c.requires.unmade told in
    let only = c.requires.durable told in
    let on = goes_on g.D.Device.moment g.D.Device.left_since old in
    let at_start = started g.D.Device.moment g.D.Device.left_since old IsUnmade (λ f left. subst IsUnmade (sym (only f (g.met.D.Device.only_now old f left))) short) in
    let torn = make_crash (g.D.Device.seen old) short _ _ only (c.write_at.ensures.crash told) in
    on old c.write_at.new.self IsUnmade _ at_start (c.write_at.ensures.time told) torn

pub returns-in_err-sync-clause-any_moment : goal.returns-in_err-sync-clause-any_moment
returns-in_err-sync-clause-any_moment g c told =
    let old = c.args.device.now in
    let short = c.requires.unmade told in
    let only = c.requires.durable told in
    let on = goes_on g.D.Device.moment g.D.Device.left_since old in
    let at_start = started g.D.Device.moment g.D.Device.left_since old IsUnmade (λ f left. subst IsUnmade (sym (only f (g.met.D.Device.only_now old f left))) short) in
    let torn = make_crash (g.D.Device.seen old) short _ _ only (c.write_at.ensures.crash told) in
    let written = on old c.write_at.new.self IsUnmade _ at_start (c.write_at.ensures.time told) torn in
    on c.write_at.new.self c.sync.new.self IsUnmade _ written (c.sync.ensures.time told) (λ f now. torn f (c.sync.ensures.crash told f now))

pub returns-clause-any_moment : goal.returns-clause-any_moment
returns-clause-any_moment g c told =
    let old = c.args.device.now in
    let short = c.requires.unmade told in
    let only = c.requires.durable told in
    let on = goes_on g.D.Device.moment g.D.Device.left_since old in
    let at_start = started g.D.Device.moment g.D.Device.left_since old IsUnmade (λ f left. subst IsUnmade (sym (only f (g.met.D.Device.only_now old f left))) short) in
    let torn = make_crash (g.D.Device.seen old) short _ _ only (c.write_at.ensures.crash told) in
    let written = on old c.write_at.new.self IsUnmade _ at_start (c.write_at.ensures.time told) torn in
    on c.write_at.new.self c.sync.new.self IsUnmade _ written (c.sync.ensures.time told) (λ f now. torn f (c.sync.ensures.crash told f now))

pub returns-clause-settled : goal.returns-clause-settled
returns-clause-settled g c told =
    let old = c.args.device.now in
    let is = made (g.D.Device.seen old) _ (c.requires.unmade told) (c.in_ok-write_at.ensures.written told) in
    let durable = subst (λ f. Only f (g.D.Device.may_leave c.sync.new.self)) (sym (c.sync.ensures.seen told)) (c.in_ok-sync.ensures.durable told) in
    record { valid = tt; file = c.sync.ensures.seen told ∙ is; end_is = refl; durable = durable }
