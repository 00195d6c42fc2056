use Rattle.std.proofs.Common.{ℕ, List, [], ◌∷◌, sym, ◌∙◌, subst}
use Rattle.ob_journal.specs.Device.{Holds, Torn, Cut, Only}
use Rattle.ob_journal.specs.Journal.{Stands, IsFront}
use Rattle.ob_journal.proofs.Moments.{started, goes_on}
use Rattle.ob_journal.proofs.Crash.{cut_done, end_is, cut_keeps, torn_end, written_end}
use Rattle.ob_journal.proofs.opening.close.Goals as goal

pub returns-in_err-cut-clause-any_moment : goal.returns-in_err-cut-clause-any_moment
returns-in_err-cut-clause-any_moment g c told entries stands =
    let IsEntry = g.S.Shape.is_entry in
    let one = g.met.S.Shape.one_first in
    let some = g.met.S.Shape.some_byte in
    let old = c.args.device.now in
    let file = g.D.Device.seen old in
    let n = c.args.end in
    let found : IsFront IsEntry file n = c.requires.front told in
    let P : List ℕ → Type 0 = λ x. Stands IsEntry x entries in
    let on = goes_on g.D.Device.moment g.D.Device.left_since old in
    let here : (f : List ℕ) → g.D.Device.may_leave old f → P f = λ f now. subst P (sym (c.requires.durable told f now)) stands in
    let at_start = started g.D.Device.moment g.D.Device.left_since old P (λ f left. here f (g.met.D.Device.only_now old f left)) in
    let after_cut : (f : List ℕ) → g.D.Device.may_leave c.cut.new.self f → P f = λ f now.
    let from = c.cut.ensures.crash told f now in
    let was = c.requires.durable told from.0 from.1 in
    cut_keeps IsEntry one some file n entries found stands f (subst (λ d. Cut n d f) was from.2) in
    let cut = on old c.cut.new.self P _ at_start (c.cut.ensures.time told) after_cut in
    cut

pub returns-in_err-sync-clause-any_moment : goal.returns-in_err-sync-clause-any_moment
returns-in_err-sync-clause-any_moment g c told entries stands =
    let IsEntry = g.S.Shape.is_entry in
    let one = g.met.S.Shape.one_first in
    let some = g.met.S.Shape.some_byte in
    let old = c.args.device.now in
    let file = g.D.Device.seen old in
    let n = c.args.end in
    let found : IsFront IsEntry file n = c.requires.front told in
    let P : List ℕ → Type 0 = λ x. Stands IsEntry x entries in
    let on = goes_on g.D.Device.moment g.D.Device.left_since old in
    let here : (f : List ℕ) → g.D.Device.may_leave old f → P f = λ f now. subst P (sym (c.requires.durable told f now)) stands in
    let at_start = started g.D.Device.moment g.D.Device.left_since old P (λ f left. here f (g.met.D.Device.only_now old f left)) in
    let after_cut : (f : List ℕ) → g.D.Device.may_leave c.cut.new.self f → P f = λ f now.
    let from = c.cut.ensures.crash told f now in
    let was = c.requires.durable told from.0 from.1 in
    cut_keeps IsEntry one some file n entries found stands f (subst (λ d. Cut n d f) was from.2) in
    let cut = on old c.cut.new.self P _ at_start (c.cut.ensures.time told) after_cut in
    let kept = on c.cut.new.self c.sync.new.self P _ cut (c.sync.ensures.time told) (λ f now. after_cut f (c.sync.ensures.crash told f now)) in
    kept

pub returns-in_err-write_at-clause-any_moment : goal.returns-in_err-write_at-clause-any_moment
returns-in_err-write_at-clause-any_moment g c told entries stands =
    let IsEntry = g.S.Shape.is_entry in
    let one = g.met.S.Shape.one_first in
    let some = g.met.S.Shape.some_byte in
    let old = c.args.device.now in
    let file = g.D.Device.seen old in
    let n = c.args.end in
    let found : IsFront IsEntry file n = c.requires.front told in
    let P : List ℕ → Type 0 = λ x. Stands IsEntry x entries in
    let on = goes_on g.D.Device.moment g.D.Device.left_since old in
    let here : (f : List ℕ) → g.D.Device.may_leave old f → P f = λ f now. subst P (sym (c.requires.durable told f now)) stands in
    let at_start = started g.D.Device.moment g.D.Device.left_since old P (λ f left. here f (g.met.D.Device.only_now old f left)) in
    let after_cut : (f : List ℕ) → g.D.Device.may_leave c.cut.new.self f → P f = λ f now.
    let from = c.cut.ensures.crash told f now in
    let was = c.requires.durable told from.0 from.1 in
    cut_keeps IsEntry one some file n entries found stands f (subst (λ d. Cut n d f) was from.2) in
    let cut = on old c.cut.new.self P _ at_start (c.cut.ensures.time told) after_cut in
    let kept = on c.cut.new.self c.sync.new.self P _ cut (c.sync.ensures.time told) (λ f now. after_cut f (c.sync.ensures.crash told f now)) in
    let is_cut = c.in_ok-cut.ensures.cut told ∙ cut_done IsEntry one some file n entries found stands in
    let after_write : (f : List ℕ) → g.D.Device.may_leave c.write_at.new.self f → P f = λ f now.
    let from = c.write_at.ensures.crash told f now in
    let was = c.in_ok-sync.ensures.durable told from.0 from.1 ∙ is_cut in
    torn_end IsEntry one some file n entries found stands f (subst (λ d. Torn n 1 d f) was from.2) in
    let shut = on c.sync.new.self c.write_at.new.self P _ kept (c.write_at.ensures.time told) after_write in
    shut

pub returns-in_err-sync-2-clause-any_moment : goal.returns-in_err-sync-2-clause-any_moment
returns-in_err-sync-2-clause-any_moment g c told entries stands =
    let IsEntry = g.S.Shape.is_entry in
    let one = g.met.S.Shape.one_first in
    let some = g.met.S.Shape.some_byte in
    let old = c.args.device.now in
    let file = g.D.Device.seen old in
    let n = c.args.end in
    let found : IsFront IsEntry file n = c.requires.front told in
    let P : List ℕ → Type 0 = λ x. Stands IsEntry x entries in
    let on = goes_on g.D.Device.moment g.D.Device.left_since old in
    let here : (f : List ℕ) → g.D.Device.may_leave old f → P f = λ f now. subst P (sym (c.requires.durable told f now)) stands in
    let at_start = started g.D.Device.moment g.D.Device.left_since old P (λ f left. here f (g.met.D.Device.only_now old f left)) in
    let after_cut : (f : List ℕ) → g.D.Device.may_leave c.cut.new.self f → P f = λ f now.
    let from = c.cut.ensures.crash told f now in
    let was = c.requires.durable told from.0 from.1 in
    cut_keeps IsEntry one some file n entries found stands f (subst (λ d. Cut n d f) was from.2) in
    let cut = on old c.cut.new.self P _ at_start (c.cut.ensures.time told) after_cut in
    let kept = on c.cut.new.self c.sync.new.self P _ cut (c.sync.ensures.time told) (λ f now. after_cut f (c.sync.ensures.crash told f now)) in
    let is_cut = c.in_ok-cut.ensures.cut told ∙ cut_done IsEntry one some file n entries found stands in
    let after_write : (f : List ℕ) → g.D.Device.may_leave c.write_at.new.self f → P f = λ f now.
    let from = c.write_at.ensures.crash told f now in
    let was = c.in_ok-sync.ensures.durable told from.0 from.1 ∙ is_cut in
    torn_end IsEntry one some file n entries found stands f (subst (λ d. Torn n 1 d f) was from.2) in
    let shut = on c.sync.new.self c.write_at.new.self P _ kept (c.write_at.ensures.time told) after_write in
    let ended = on c.write_at.new.self c.sync-2.new.self P _ shut (c.sync-2.ensures.time told) (λ f now. after_write f (c.sync-2.ensures.crash told f now)) in
    ended

pub returns-clause-any_moment : goal.returns-clause-any_moment
returns-clause-any_moment g c told entries stands =
    let IsEntry = g.S.Shape.is_entry in
    let one = g.met.S.Shape.one_first in
    let some = g.met.S.Shape.some_byte in
    let old = c.args.device.now in
    let file = g.D.Device.seen old in
    let n = c.args.end in
    let found : IsFront IsEntry file n = c.requires.front told in
    let P : List ℕ → Type 0 = λ x. Stands IsEntry x entries in
    let on = goes_on g.D.Device.moment g.D.Device.left_since old in
    let here : (f : List ℕ) → g.D.Device.may_leave old f → P f = λ f now. subst P (sym (c.requires.durable told f now)) stands in
    let at_start = started g.D.Device.moment g.D.Device.left_since old P (λ f left. here f (g.met.D.Device.only_now old f left)) in
    let after_cut : (f : List ℕ) → g.D.Device.may_leave c.cut.new.self f → P f = λ f now.
    let from = c.cut.ensures.crash told f now in
    let was = c.requires.durable told from.0 from.1 in
    cut_keeps IsEntry one some file n entries found stands f (subst (λ d. Cut n d f) was from.2) in
    let cut = on old c.cut.new.self P _ at_start (c.cut.ensures.time told) after_cut in
    let kept = on c.cut.new.self c.sync.new.self P _ cut (c.sync.ensures.time told) (λ f now. after_cut f (c.sync.ensures.crash told f now)) in
    let is_cut = c.in_ok-cut.ensures.cut told ∙ cut_done IsEntry one some file n entries found stands in
    let after_write : (f : List ℕ) → g.D.Device.may_leave c.write_at.new.self f → P f = λ f now.
    let from = c.write_at.ensures.crash told f now in
    let was = c.in_ok-sync.ensures.durable told from.0 from.1 ∙ is_cut in
    torn_end IsEntry one some file n entries found stands f (subst (λ d. Torn n 1 d f) was from.2) in
    let shut = on c.sync.new.self c.write_at.new.self P _ kept (c.write_at.ensures.time told) after_write in
    let ended = on c.write_at.new.self c.sync-2.new.self P _ shut (c.sync-2.ensures.time told) (λ f now. after_write f (c.sync-2.ensures.crash told f now)) in
    ended

pub returns-clause-settled : goal.returns-clause-settled
returns-clause-settled g c told entries stands =
    let IsEntry = g.S.Shape.is_entry in
    let one = g.met.S.Shape.one_first in
    let some = g.met.S.Shape.some_byte in
    let old = c.args.device.now in
    let file = g.D.Device.seen old in
    let n = c.args.end in
    let found : IsFront IsEntry file n = c.requires.front told in
    let is_cut = c.in_ok-cut.ensures.cut told ∙ cut_done IsEntry one some file n entries found stands in
    let holds = subst (λ f. Holds f n (0 ∷ []) (g.D.Device.seen c.write_at.new.self)) (c.sync.ensures.seen told ∙ is_cut) (c.in_ok-write_at.ensures.written told) in
    let is = c.sync-2.ensures.seen told ∙ written_end IsEntry one some file n entries found stands _ holds in
    let durable = subst (λ f. Only f (g.D.Device.may_leave c.sync-2.new.self)) (sym (c.sync-2.ensures.seen told)) (c.in_ok-sync-2.ensures.durable told) in
    record { valid = stands.valid; file = is; end_is = end_is IsEntry one some file n entries found stands; durable = durable }
