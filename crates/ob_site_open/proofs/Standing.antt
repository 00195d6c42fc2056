-- The logs of an opened state can stand, and none of their records is after its time.
use Rattle.std.proofs.Common.{◌≡◌, ℕ, ◌+◌, ◌-◌, ◌≤◌, ◌<◌, Bool, true, false, List, [], ◌∷◌, length, drop, Option, Some, None, refl, subst, inl, inr, arith, length-drop, nat_le}
use Rattle.std.specs.List.{AllByRecursion}
use Rattle.std.proofs.lemmas.Bool.Decides.{nat_tests}
use Rattle.ob_history.specs.declared.records.Record.{Record}
use Rattle.ob_history.specs.Records.{InOrder, IsRecord}
use Rattle.ob_history.specs.Logs.{settled as settled_history}
use Rattle.ob_site_rules.specs.Build.{Path}
use Rattle.ob_site_rules.specs.State.{Log, history_of, rolled}
use Rattle.ob_site_rules.specs.Sites.{SiteState}
use Rattle.ob_site_state.specs.Kept.{AreBy, LogsAreBy}
use Rattle.ob_step_laws.specs.Ordered.{IsBy}
use Rattle.ob_step_laws.proofs.Lists.{each_more, each_two, each_map}
use Rattle.ob_step_laws.proofs.Records.{order_drop, each_drop}
use Rattle.ob_opening_laws.specs.Records.{EachLog, HoldsRecords, HasRecords}
use Rattle.ob_site_open.specs.Logs.{HasNanos, HaveNanos, IsSettledBy, CanStand}

-- what a log keeps once it has rolled is the end of what it had
kept_after : (P : List Record → Type 0) → ((n : ℕ) (rs : List Record) → P rs → P (drop n rs)) → (l : Log) → P l.kept → P (rolled l).kept
kept_after P f l p = go l.capacity
  where
    go : (o : Option ℕ) → P (settled_history o (history_of l)).kept
    go None = p
    go (Some c) = f (length l.kept - c) l.kept p

-- a log of which nothing is gone has settled once it has rolled
settled_after : (l : Log) → l.gone ≡ 0 → IsSettledBy (rolled l).capacity (rolled l).gone (length (rolled l).kept)
settled_after l none = go l.capacity
  where
    above : (c : ℕ) (b : Bool) → nat_le (length l.kept) c ≡ b → IsSettledBy (Some c) (l.gone + (length l.kept - c)) (length (drop (length l.kept - c) l.kept))
    above c true e =
        let most : length l.kept ≤ c = grind (arith, nat_tests) in
        inl (omega (arith, none, most), omega (arith, most, length-drop (length l.kept - c) l.kept))
    above c false e =
        let more : c < length l.kept = grind (arith, nat_tests) in
        inr (omega (arith, more, length-drop (length l.kept - c) l.kept))

    go : (o : Option ℕ) → IsSettledBy o (settled_history o (history_of l)).gone (length (settled_history o (history_of l)).kept)
    go None = none
    go (Some c) = above c (nat_le (length l.kept) c) refl

abbrev CanRoll : Path × Log → Type 0
CanRoll l = (l.1.gone ≡ 0) × (InOrder l.1.kept × HoldsRecords l.1)

stands_after : (l : Path × Log) → CanRoll l → CanStand (rolled l.1)
stands_after l c = record {
  settled = settled_after l.1 c.0;
  in_order = kept_after InOrder order_drop l.1 c.1.0;
  records = kept_after (AllByRecursion IsRecord) (each_drop IsRecord) l.1 c.1.1;
}

-- the logs of an opened state can stand
pub logs_stand : (boot : ℕ) (st : SiteState) → HasRecords boot st → EachLog CanStand st.world.site.logs
logs_stand boot st h =
    subst (EachLog CanStand) h.rolls
    (each_map (λ (l : Path × Log). CanStand l.1) (λ (l : Path × Log). (l.0, rolled l.1)) h.whole
    (each_more CanRoll (λ (l : Path × Log). CanStand (rolled l.1)) h.whole stands_after
    (each_two (λ (l : Path × Log). l.1.gone ≡ 0) (λ (l : Path × Log). InOrder l.1.kept × HoldsRecords l.1) h.whole h.none_gone
    (each_two (λ (l : Path × Log). InOrder l.1.kept) (λ (l : Path × Log). HoldsRecords l.1) h.whole h.in_order h.records))))

-- records whose times have fewer nanoseconds than a second aren't after the time
are_by : (time : ℕ) (rs : List Record) → AllByRecursion (IsBy time) rs → AllByRecursion HasNanos rs → AreBy time rs
are_by time [] b n = tt
are_by time (r ∷ rs) b n = (b.0 n.0, are_by time rs b.1 n.1)

pub logs_by : (time : ℕ) (ls : List (Path × Log)) → EachLog (λ l. AllByRecursion (IsBy time) l.kept) ls → EachLog HaveNanos ls → LogsAreBy time ls
logs_by time [] b n = tt
logs_by time (l ∷ ls) b n = (are_by time l.1.kept b.0 n.0, logs_by time ls b.1 n.1)
