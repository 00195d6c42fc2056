-- Histories that haven't rolled yet.
use Rattle.std.proofs.Common.{◌≡◌, ℕ, ◌-◌, ◌<◌, ◌^◌, List, [], ◌∷◌, length, Option, Some, None, refl, sym, subst, length-drop, arith}
use Rattle.ob_object.specs.Object.{node, none}
use Rattle.ob_site_rules.specs.Build.{Path}
use Rattle.ob_site_rules.specs.State.{Log, rolled, rolled_logs, roll}
use Rattle.ob_site_rules.specs.Writes.{events_ever}
use Rattle.ob_plain_state.specs.States.{AreCounted}
use Rattle.ob_plain_state.proofs.Keeping.{NamesAreFree-same, keys-rolled}
use Rattle.ob_step_laws.specs.Ordered.{UnrolledIsConsistent}

-- a log has had as many events once it has rolled
pub as_many : (l : Log) (o : Option ℕ) → l.capacity ≡ o → events_ever (rolled l) ≡ events_ever l
as_many l None e = rw e refl
as_many l (Some c) e = rw e (omega (arith, length-drop (length l.kept - c) l.kept))

unrolled_counted : (ls : List (Path × Log)) → AreCounted (rolled_logs ls) → AreCounted ls
unrolled_counted [] c = tt
unrolled_counted (l ∷ ls) c = (subst (λ n. n < 2 ^ 63) (as_many l.1 l.1.capacity refl) c.0, unrolled_counted ls c.1)

pub unrolled_is_consistent : UnrolledIsConsistent
unrolled_is_consistent plan s c = record {
  names_free = NamesAreFree-same plan (roll s) s (sym (keys-rolled s.logs)) (node s.tree.head s.tree.inner none) c.names_free;
  kind_at = c.kind_at;
  kinds = c.kinds;
  limits = c.limits;
  points = c.points;
  taken = c.taken;
  counted = unrolled_counted s.logs c.counted;
}
