-- Workers that are made of doors and twins, and what they come to.
use Rattle.std.proofs.Common.{arith, if◌then◌else◌, zero, ◌≡◌, ◌<◌, ◌≤◌, ◌+◌, ℕ, suc, Bool, true, false, List, [], ◌∷◌, ◌++◌, Option, Some, None, IfSome, Result, Ok, Err, refl, sym, ap, subst, ◌∙◌, ◌⊎◌, inl, inr, map, length, length-append, sum_by, get_or, take, drop}
use Rattle.std.specs.List.{AllByRecursion, flat_map}
use Rattle.std.proofs.lemmas.List.{map-append}
use Rattle.std.proofs.lemmas.List.Sums.{sum_by-cons}
use Rattle.ob_io.specs.Doors.{Doorway}
use Rattle.ob_io.specs.Faults.{Rose}
use Rattle.ob_io.specs.Ticks.{Pace}
use Rattle.ob_io.specs.Twins.{Twin, IsNew, GainsTwin}
use Rattle.ob_io.specs.Told.{Gains}
use Rattle.ob_io.specs.Visits.{Visit}
use Rattle.ob_object.specs.Object.{Object}
use Rattle.ob_site_rules.specs.declared.request.Request.{Request as Asked}
use Rattle.ob_turn.specs.Standing.{Standing, mine}
use Rattle.atomic_table.specs.Seated.{TableId}
use Rattle.ob_server.specs.Exchange.{Call}
use Rattle.ob_server.specs.Together.{AreSplit, AreSplitOff, AreJoined, AllContinue, IsFirst, IsWhole}
use Rattle.ob_server.proofs.ExchangeLemmas.{continues_none}
use Rattle.ob_server.proofs.TogetherLemmas.{split_more, whole_again, all_continue}
use Rattle.ob_server.proofs.WorkLemmas.{works_whole}
use Rattle.ob_server.specs.Port.{IsReady, AreReady, HasOpened, HasPortCause, HasSpare, PortRose, ServesDoors}
use Rattle.ob_server.specs.Working.{Counts, Worked, WorkerRan, EndComes, HasWorked, HasEnded, IsDone, IsFinal, IsIdle, first_end, is_fault, post}
use Rattle.ob_server.specs.GivenBack.{CountsFaults, GainsDoors, GainsTwins, GivenBack, PortTold, ClockTold}
use Rattle.ob_server.specs.declared.worker.Worker.{Worker}
use Rattle.ob_server.specs.declared.worker.WorkerEnd.{WorkerEnd}
use Rattle.ob_server.specs.declared.worker.WorkerEnd.TheVariants as workers

-- one worker more, whose pass was split off
pub opened_more : {S D C Q P : Type 0} (p q q' : Standing Q P) (ws : List (Worker S D C Q P)) (w : Worker S D C Q P) (k : ℕ) → AreSplit p q (map (λ (v : Worker S D C Q P). v.pass) ws) → q' ≡ record q { numbers = take k q.numbers }
    → w.pass ≡ record q { numbers = drop k q.numbers; since = length q.seen } → mine q' ≡ mine q → length w.pass.numbers ≡ 1 → AreSplit p q' (map (λ (v : Worker S D C Q P). v.pass) (ws ++ w ∷ []))
opened_more {S} {D} {C} {Q} {P} p q q' ws w k s kept given calls one =
    subst (λ (rs : List (Standing Q P)). AreSplit p q' rs) (sym (map-append (λ (v : Worker S D C Q P). v.pass) ws (w ∷ [])))
    (split_more p q q' w.pass (map (λ (v : Worker S D C Q P). v.pass) ws) k s kept given calls one)

-- a list that is one longer
pub length_grown : {A : Type 0} (xs ys : List A) (w : A) → ys ≡ xs ++ w ∷ [] → length ys ≡ length xs + 1
length_grown xs ys w is = ap (λ (l : List _). length l) is ∙ length-append xs (w ∷ [])

-- passes that were split off are of one table
pub table_at : {S D C Q P : Type 0} (t : TableId) (p : Standing Q P) (ws : List (Worker S D C Q P)) → p.table ≡ t → AreSplitOff p (map (λ (w : Worker S D C Q P). w.pass) ws) → (k : ℕ) (d : Worker S D C Q P) → k < length ws → (get_or ws k d).pass.table ≡ t
table_at t p [] is off k d less = absurd (omega (arith, less))
table_at t p (w ∷ ws) is off zero d less = ap (λ (z : Standing _ _). z.table) off.0.same ∙ is
table_at t p (w ∷ ws) is off (suc k) d less = table_at t p ws is off.1 k d (omega (arith, less))

-- which of the sums of faults isn't 0
Counted : WorkerEnd → ℕ → ℕ → Type 0
Counted workers.Quota doors clocks = Unit {0}
Counted workers.Closed doors clocks = ⊥
Counted workers.DoorFault doors clocks = 0 < doors
Counted workers.ClockFault doors clocks = 0 < clocks
Counted workers.Memory doors clocks = Unit {0}

counted_one : (end : WorkerEnd) (links quota doors clocks more mores : ℕ) (closed : Bool) → is_fault end ≡ true → EndComes end links quota closed 0 doors 0 clocks → Counted end (doors + more) (clocks + mores)
unfolding Counted
counted_one workers.Quota links quota doors clocks more mores closed is e = tt
counted_one workers.Closed links quota doors clocks more mores closed is e = absurd (cc)
counted_one workers.DoorFault links quota doors clocks more mores closed is e = omega (arith, e)
counted_one workers.ClockFault links quota doors clocks more mores closed is e = omega (arith, e)
counted_one workers.Memory links quota doors clocks more mores closed is e = tt

counted_more : (end : WorkerEnd) (doors clocks n m : ℕ) → Counted end doors clocks → Counted end (n + doors) (m + clocks)
unfolding Counted
counted_more workers.Quota doors clocks n m e = tt
counted_more workers.Closed doors clocks n m e = e
counted_more workers.DoorFault doors clocks n m e = omega (arith, e)
counted_more workers.ClockFault doors clocks n m e = omega (arith, e)
counted_more workers.Memory doors clocks n m e = tt

rose_of : (end : WorkerEnd) (sum sums doors doors' doors'' clocks clocks' clocks'' : ℕ) → Counted end sum sums → doors ≤ doors' → CountsFaults doors' sum doors'' → clocks ≤ clocks' → CountsFaults clocks' sums clocks'' → PortRose end doors doors'' clocks clocks''
unfolding Counted
rose_of workers.Quota sum sums doors doors' doors'' clocks clocks' clocks'' e d ds c cs = tt
rose_of workers.Closed sum sums doors doors' doors'' clocks clocks' clocks'' e d ds c cs = e
rose_of workers.DoorFault sum sums doors doors' doors'' clocks clocks' clocks'' e d ds c cs = let r = ds.broken e in omega (arith, d, r)
rose_of workers.ClockFault sum sums doors doors' doors'' clocks clocks' clocks'' e d ds c cs = let r = cs.broken e in omega (arith, c, r)
rose_of workers.Memory sum sums doors doors' doors'' clocks clocks' clocks'' e d ds c cs = tt

-- where port or clock failed, its count rose
pub open_rose : (end : WorkerEnd) (result : Result (Unit {0}) WorkerEnd) (doors doors' doors'' clocks clocks' clocks'' : ℕ) → result ≡ Err end → is_fault end ≡ true → (result ≡ Err workers.DoorFault → Rose doors doors')
    → (result ≡ Err workers.ClockFault → Rose clocks clocks') → doors' ≤ doors'' → clocks' ≤ clocks'' → PortRose end doors doors'' clocks clocks''
open_rose workers.Quota result doors doors' doors'' clocks clocks' clocks'' it is d c dl cl = tt
open_rose workers.Closed result doors doors' doors'' clocks clocks' clocks'' it is d c dl cl = absurd (cc)
open_rose workers.DoorFault result doors doors' doors'' clocks clocks' clocks'' it is d c dl cl = let r = d it in omega (arith, dl, r)
open_rose workers.ClockFault result doors doors' doors'' clocks clocks' clocks'' it is d c dl cl = let r = c it in omega (arith, cl, r)
open_rose workers.Memory result doors doors' doors'' clocks clocks' clocks'' it is d c dl cl = tt

gains_from_none : {A : Type 0} (u v : Option (List A)) (xs : List A) → IfSome u (λ ys. ys ≡ []) → Gains u xs v → Gains (Some []) xs v
gains_from_none u None xs e g = tt
gains_from_none None (Some b) xs e g = absurd g
gains_from_none {A} (Some a) (Some b) xs e g = g ∙ ap (λ (t : List A). t ++ xs) e

gains_unused : {A : Type 0} (v : Option (List A)) → IfSome v (λ ys. ys ≡ []) → Gains (Some []) [] v
gains_unused None e = tt
gains_unused (Some b) e = e

-- a twin that came back new
pub spare_back : (twins twins' twins'' : Option (List Twin)) (given : Option (List ℕ)) (faults : ℕ) → IsNew given faults → twins' ≡ twins → GainsTwin twins' twins'' given faults → HasSpare twins twins''
spare_back twins twins' twins'' given faults new same gains =
    inr (
      gains.0,
      subst (λ (ts : Option (List Twin)). Gains ts (gains.0 ∷ []) twins'') same gains.1,
      λ some.
          let t = gains.2 some in
          (t.faults_are ∙ new.faults_none, subst (λ (o : Option (List ℕ)). IfSome o (λ ms. ms ≡ [])) t.moments_are new.given_none),
    )

-- how a worker that is no fault came to its end
done_by : (e : WorkerEnd) (links quota : ℕ) (closed : Bool) (doors clocks : ℕ) → is_fault e ≡ false → EndComes e links quota closed 0 doors 0 clocks
    → ((e ≡ workers.Quota) × (links ≡ quota)) ⊎ ((e ≡ workers.Closed) × (closed ≡ true))
done_by workers.Quota links quota closed doors clocks well comes = inl (refl, comes)
done_by workers.Closed links quota closed doors clocks well comes = inr (refl, comes)
done_by workers.DoorFault links quota closed doors clocks well comes = absurd (cc)
done_by workers.ClockFault links quota closed doors clocks well comes = absurd (cc)
done_by workers.Memory links quota closed doors clocks well comes = absurd (cc)

-- the port's count of doors, where these facts are said of other terms for it
pub counts_at : (a a' n b b' : ℕ) → a ≡ a' → b' ≡ b → Counts a n b → Counts a' n b'
counts_at a a' n b b' first last (inl x) = inl (omega (arith, x, first, last))
counts_at a a' n b b' first last (inr x) = inr (omega (arith, x, last))

module _ {S D C : Type 0} (faults handed returned : D → ℕ) (visits : D → Option (List Visit)) (given : C → Option (List ℕ)) (pace : C → Option Pace) (misses : C → ℕ) where
  pub ready_snoc : {Q P : Type 0} (goes : Option Pace) (ws : List (Worker S D C Q P)) (w : Worker S D C Q P) → AreReady faults handed returned visits given pace misses goes ws → IsReady faults handed returned visits given pace misses goes w
      → AreReady faults handed returned visits given pace misses goes (ws ++ w ∷ [])
  ready_snoc goes [] w a b = (b, tt)
  ready_snoc goes (x ∷ xs) w a b = (a.0, ready_snoc goes xs w a.1 b)

  abbrev IsReady_ : Option Pace → Worker S D C Asked Object → Type 0
  IsReady_ goes w = IsReady faults handed returned visits given pace misses goes w

  abbrev AreReady_ : Option Pace → List (Worker S D C Asked Object) → Type 0
  AreReady_ goes ws = AreReady faults handed returned visits given pace misses goes ws

  abbrev passes_ : List (Worker S D C Asked Object) → List (Standing Asked Object)
  passes_ ws = map (λ w. w.pass) ws

  module _ (closed : D → Bool) (quota : ℕ) where
    abbrev AreEnded : List (Worker S D C Asked Object) → Type 0
    AreEnded ws = AllByRecursion (HasEnded faults closed misses quota) ws

    counted_all : (ws : List (Worker S D C Asked Object)) → AreEnded ws → Counted (first_end ws) (sum_by (λ (w : Worker S D C Asked Object). faults w.door) ws) (sum_by (λ (w : Worker S D C Asked Object). misses w.clock) ws)
    unfolding Counted
    counted_all [] ended = tt
    counted_all (a ∷ ws) ended =
        subst (λ (n : ℕ). Counted (first_end (a ∷ ws)) n (sum_by (λ (w : Worker S D C Asked Object). misses w.clock) (a ∷ ws))) (sym (sum_by-cons (λ (w : Worker S D C Asked Object). faults w.door) a ws))
        (subst (λ (n : ℕ). Counted (first_end (a ∷ ws)) (faults a.door + sum_by (λ (w : Worker S D C Asked Object). faults w.door) ws) n) (sym (sum_by-cons (λ (w : Worker S D C Asked Object). misses w.clock) a ws))
        (elim (is_fault a.end) as (λ t. is_fault a.end ≡ t → Counted (if t then a.end else first_end ws) (faults a.door + sum_by (λ (w : Worker S D C Asked Object). faults w.door) ws) (misses a.clock + sum_by (λ (w : Worker S D C Asked Object). misses w.clock) ws)) [
          | true ↦ λ is. counted_one a.end a.links quota (faults a.door) (misses a.clock) _ _ (closed a.door) is ended.0.comes
          | false ↦ λ is. counted_more (first_end ws) _ _ (faults a.door) (misses a.clock) (counted_all ws ended.1)
        ] refl))

    all_done : (ws : List (Worker S D C Asked Object)) → AreEnded ws → is_fault (first_end ws) ≡ false → AllByRecursion (IsDone closed quota) ws
    all_done [] ended well = tt
    all_done (w ∷ ws) ended well =
        elim (is_fault w.end) as (λ b. is_fault w.end ≡ b → is_fault (if b then w.end else first_end ws) ≡ false → AllByRecursion (IsDone closed quota) (w ∷ ws)) [
          | true ↦ λ fault e. (let no : true ≡ false = sym fault ∙ e in absurd (cc))
          | false ↦ λ fault e. (done_by w.end w.links quota (closed w.door) (faults w.door) (misses w.clock) fault ended.0.comes, all_done ws ended.1 e)
        ] refl well

  module _ (closed : D → Bool) (act : S → Asked → ℕ → S × Object) (ns : Option (List ℕ)) (opening : S) (stays : Bool) (goes : Option Pace) where
    abbrev Worked_ : Worker S D C Asked Object → Type 0
    Worked_ w = HasWorked handed returned visits given pace ns stays goes w

    -- ---- workers that served

    abbrev Ran : ℕ → Worker S D C Asked Object → Worker S D C Asked Object → Type 0
    Ran quota old new = WorkerRan act visits handed returned closed faults given pace misses ns opening quota stays old new

    worked_since : (quota : ℕ) (old new : Worker S D C Asked Object) → IsReady_ goes old → Ran quota old new → Worked_ new
    worked_since quota old new r ran =
        let w = ran.worked in
        record {
          worked = record {
            before = w.before;
            final = w.final;
            served = w.served;
            went_on = w.went_on;
            ended = w.ended;
            did = record {
              visited = gains_from_none (visits old.door) (visits new.door) _ r.door.visits_none w.did.visited;
              handed = subst (λ (n : ℕ). Counts n (length (w.before ++ w.final)) (handed new.door)) r.door.handed_none w.did.handed;
              returned = subst (λ (n : ℕ). Counts n (length (w.before ++ w.final)) (returned new.door)) r.door.returned_none w.did.returned;
              gave = gains_from_none (given old.clock) (given new.clock) _ r.clock.given_none w.did.gave;
              called = subst (λ (es : List Call). mine new.pass ≡ es ++ flat_map (λ s. s.calls) (w.before ++ w.final)) r.uncalled w.did.called;
            };
            count = w.count;
            drawn = w.drawn;
          };
          pace_is = ran.pace_is ∙ r.pace_is;
        }

    ended_since : (quota : ℕ) (old new : Worker S D C Asked Object) → IsReady_ goes old → Ran quota old new → HasEnded faults closed misses quota new
    ended_since quota old new r ran =
        let comes : EndComes new.end new.links quota (closed new.door) 0 (faults new.door) 0 (misses new.clock) =
        subst (λ (n : ℕ). EndComes new.end new.links quota (closed new.door) 0 (faults new.door) n (misses new.clock)) r.clock.faults_none
        (subst (λ (n : ℕ). EndComes new.end new.links quota (closed new.door) n (faults new.door) (misses old.clock) (misses new.clock)) r.door.faults_none ran.comes) in
        record {
          within = ran.within;
          comes = comes;
          whole = works_whole new.end new.links quota (closed new.door) 0 (faults new.door) 0 (misses new.clock) comes;
        }

    abbrev AllRan : ℕ → List (Worker S D C Asked Object) → List (Worker S D C Asked Object) → Type 0
    AllRan quota old new = (k : ℕ) (d : Worker S D C Asked Object) → k < length old → Ran quota (get_or old k d) (get_or new k d)

    all_served : (quota : ℕ) (old new : List (Worker S D C Asked Object)) → length new ≡ length old → AreReady_ goes old → AllRan quota old new
        → AllByRecursion Worked_ new × AllByRecursion (HasEnded faults closed misses quota) new
    all_served quota [] [] same ready ran = (tt, tt)
    all_served quota [] (n ∷ new) same ready ran = absurd (omega (arith, same))
    all_served quota (o ∷ old) [] same ready ran = absurd (omega (arith, same))
    all_served quota (o ∷ old) (n ∷ new) same ready ran =
        let rest = all_served quota old new (omega (arith, same)) ready.1 (λ k d less. ran (suc k) d (omega (arith, less))) in
        let one : Ran quota o n = ran 0 o (omega arith) in
        ((worked_since quota o n ready.0 one, rest.0), (ended_since quota o n ready.0 one, rest.1))

    pub served_whole : (quota : ℕ) (first left last : Standing Asked Object) (before after : List (Worker S D C Asked Object)) → IsFirst first → AreSplit first left (passes_ before) → length after ≡ length before
        → AllRan quota before after → AreJoined act opening left (passes_ after) last → IsWhole act opening (passes_ after) last
    served_whole quota first left last before after is split same ran joined =
        whole_again act opening first left last (passes_ before) (passes_ after) is split
        (all_continue act opening (λ (w : Worker S D C Asked Object). w.pass) before after same (λ k d less. (ran k d less).pass)) joined

    -- ---- workers that didn't

    worked_idle : (w : Worker S D C Asked Object) → IsReady_ goes w → Worked_ w
    worked_idle w r = record {
      worked = record {
        before = [];
        final = [];
        served = tt;
        went_on = tt;
        ended = subst (λ (e : WorkerEnd). IsFinal [] e) (sym r.end) refl;
        did = record {
          visited = gains_unused (visits w.door) r.door.visits_none;
          handed = inl r.door.handed_none;
          returned = inl r.door.returned_none;
          gave = gains_unused (given w.clock) r.clock.given_none;
          called = r.uncalled;
        };
        count = r.links;
        drawn = tt;
      };
      pace_is = r.pace_is;
    }

    all_idle : (ws : List (Worker S D C Asked Object)) → AreReady_ goes ws → AllByRecursion Worked_ ws × AllByRecursion IsIdle ws × AllContinue act opening (passes_ ws) (passes_ ws)
    all_idle [] ready = (tt, tt, tt)
    all_idle (w ∷ ws) ready =
        let rest = all_idle ws ready.1 in
        ((worked_idle w ready.0, rest.0), (ready.0.links, rest.1), (continues_none act opening w.pass, rest.2))

    pub idle_whole : (first left last : Standing Asked Object) (ws : List (Worker S D C Asked Object)) → IsFirst first → AreSplit first left (passes_ ws) → AreReady_ goes ws
        → AreJoined act opening left (passes_ ws) last → IsWhole act opening (passes_ ws) last
    idle_whole first left last ws is split ready joined =
        whole_again act opening first left last (passes_ ws) (passes_ ws) is split (all_idle ws ready).2 joined

  -- ---- doors

  module _ (closed : D → Bool) (act : S → Asked → ℕ → S × Object) (ns : Option (List ℕ)) (opening : S) (count quota : ℕ) (stays : Bool) where
    abbrev Serves_ : List Call → (p p' : PortTold) → (t t' : ClockTold) → Option ℕ → WorkerEnd → Type 0
    Serves_ history p p' t t' links end =
        ServesDoors faults handed returned visits given pace misses act closed ns opening count quota stays history p p' t t' links end

    -- there was no memory to begin
    pub doors_none : (p : PortTold) (t : ClockTold) → Serves_ [] p p t t None workers.Memory
    doors_none p t = record {
      staff = [];
      worked = tt;
      legal = tt;
      made = record { calls = tt; apart = λ x. omega arith; no_others = tt };
      doors = refl;
      opened = inl (omega arith);
      doors_back = inl (omega arith);
      listens = refl;
      spare = t.twins;
      spared = inl refl;
      twins = refl;
      clock_same = (refl, refl);
      served = tt;
      unserved = (refl, tt);
      done = λ well. absurd (cc);
    }

    -- all served
    pub doors_served : (first left last : Standing Asked Object) (before after : List (Worker S D C Asked Object)) (result : Result (Unit {0}) WorkerEnd) (p q r : PortTold) (t u v : ClockTold) (links : ℕ) (end : WorkerEnd)
        → IsFirst first → HasOpened faults handed returned visits given pace misses count before result first left p q t u → (length before ≡ count) × (u.twins ≡ t.twins)
        → length after ≡ length before → AllRan closed act ns opening stays t.pace quota before after → links ≡ sum_by (λ (w : Worker S D C Asked Object). w.links) after → end ≡ first_end after
        → GivenBack act faults handed returned visits closed given misses opening after left last q r u v → Serves_ last.seen p r t v (Some links) end
    doors_served first left last before after result p q r t u v links end is o all same ran links_are end_is back =
        let whole = served_whole closed act ns opening stays t.pace quota first left last before after is o.split same ran back.joined in
        let each = all_served closed act ns opening stays t.pace quota before after same o.are_ready ran in
        record {
          staff = after;
          worked = each.0;
          legal = whole.legal;
          made = whole.made;
          doors = subst (λ (ds : Option (List Doorway)). GainsDoors faults handed returned visits closed ds (map (λ (w : Worker S D C Asked Object). w.door) after) r.doors) o.port_same.2 back.doors;
          opened = subst (λ (n : ℕ). Counts p.opened n r.opened) (sym same) (counts_at _ _ _ _ _ refl back.port_same.0 o.opened);
          doors_back = counts_at _ _ _ _ _ o.port_same.0 refl back.doors_back;
          listens = back.port_same.1 ∙ o.port_same.1;
          spare = t.twins;
          spared = inl refl;
          twins = subst (λ (ts : Option (List Twin)). GainsTwins given misses ts (map (λ (w : Worker S D C Asked Object). w.clock) after) v.twins) all.1 back.twins;
          clock_same = (back.clock_same.0 ∙ o.clock_same.0, back.clock_same.1 ∙ o.clock_same.1);
          served = (links_are, same ∙ all.0, end_is, refl, each.1);
          unserved = tt;
          done = λ well. (refl, same ∙ all.0, all_done closed quota after each.1 (ap is_fault (sym end_is) ∙ well));
        }

    -- not all could begin
    pub doors_unserved : (first left last : Standing Asked Object) (ready : List (Worker S D C Asked Object)) (result : Result (Unit {0}) WorkerEnd) (p q r : PortTold) (t u v : ClockTold) (end : WorkerEnd)
        → IsFirst first → HasOpened faults handed returned visits given pace misses count ready result first left p q t u → is_fault end ≡ true
        → GivenBack act faults handed returned visits closed given misses opening ready left last q r u v → Serves_ last.seen p r t v None end
    doors_unserved first left last ready result p q r t u v end is o fault back =
        let whole = idle_whole closed act ns opening stays t.pace first left last ready is o.split o.are_ready back.joined in
        let each = all_idle closed act ns opening stays t.pace ready o.are_ready in
        record {
          staff = ready;
          worked = each.0;
          legal = whole.legal;
          made = whole.made;
          doors = subst (λ (ds : Option (List Doorway)). GainsDoors faults handed returned visits closed ds (map (λ (w : Worker S D C Asked Object). w.door) ready) r.doors) o.port_same.2 back.doors;
          opened = counts_at _ _ _ _ _ refl back.port_same.0 o.opened;
          doors_back = counts_at _ _ _ _ _ o.port_same.0 refl back.doors_back;
          listens = back.port_same.1 ∙ o.port_same.1;
          spare = u.twins;
          spared = o.spare;
          twins = back.twins;
          clock_same = (back.clock_same.0 ∙ o.clock_same.0, back.clock_same.1 ∙ o.clock_same.1);
          served = tt;
          unserved = (fault, each.1);
          done = λ well. (let no : true ≡ false = sym fault ∙ well in absurd (cc));
        }

    -- the first end that is a fault is counted at the port or at the clock
    pub served_cause : (first left last : Standing Asked Object) (before after : List (Worker S D C Asked Object)) (result : Result (Unit {0}) WorkerEnd) (p q r : PortTold) (t u v : ClockTold) (end : WorkerEnd)
        → HasOpened faults handed returned visits given pace misses count before result first left p q t u → length after ≡ length before → AllRan closed act ns opening stays t.pace quota before after → end ≡ first_end after
        → GivenBack act faults handed returned visits closed given misses opening after left last q r u v → HasPortCause end p.faults r.faults t.faults v.faults
    served_cause first left last before after result p q r t u v end o same ran end_is back =
        let each = all_served closed act ns opening stays t.pace quota before after same o.are_ready ran in
        record {
          doors_later = omega (arith, o.door_faults, back.door_faults.later);
          clocks_later = omega (arith, o.clock_faults, back.clock_faults.later);
          rose = subst (λ (e : WorkerEnd). PortRose e p.faults r.faults t.faults v.faults) (sym end_is)
              (rose_of (first_end after) _ _ p.faults q.faults r.faults t.faults u.faults v.faults (counted_all closed quota after each.1) o.door_faults back.door_faults o.clock_faults back.clock_faults);
        }

    pub unserved_cause : (first left last : Standing Asked Object) (ready : List (Worker S D C Asked Object)) (result : Result (Unit {0}) WorkerEnd) (p q r : PortTold) (t u v : ClockTold) (end : WorkerEnd)
        → HasOpened faults handed returned visits given pace misses count ready result first left p q t u → result ≡ Err end → is_fault end ≡ true
        → GivenBack act faults handed returned visits closed given misses opening ready left last q r u v → HasPortCause end p.faults r.faults t.faults v.faults
    unserved_cause first left last ready result p q r t u v end o is fault back = record {
      doors_later = omega (arith, o.door_faults, back.door_faults.later);
      clocks_later = omega (arith, o.clock_faults, back.clock_faults.later);
      rose = open_rose end result _ _ _ _ _ _ is fault o.door_fault o.clock_fault back.door_faults.later back.clock_faults.later;
    }
