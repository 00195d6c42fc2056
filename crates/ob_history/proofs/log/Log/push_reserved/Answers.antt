use Rattle.std.proofs.Common.{◌+◌, ◌^◌, ◌<◌, length, subst, sym}
use Rattle.ob_history.proofs.Kept.{IsHistory-more}
use Rattle.ob_history.specs.Logs.{History}
use Rattle.ob_history.specs.Records.{MayFollow}
use Rattle.ob_history.proofs.log.Log.push_reserved.Goals as goal

pub invariant_of-self : goal.invariant_of-self
invariant_of-self c =
    rw c.push_last.ensures.kept
    (IsHistory-more _ _ c.args.entry c.self.invariant
    (subst (λ (h : History). h.gone + length h.kept + 1 < 2 ^ 63) (sym c.self.view_is) c.requires.counted)
    (subst (λ (h : History). MayFollow h.kept c.args.entry) (sym c.self.view_is) c.requires.in_order)
    c.requires.is_record)
