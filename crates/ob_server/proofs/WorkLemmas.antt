-- The links of a worker, one after the other.
use Rattle.std.proofs.Common.{◌≡◌, ℕ, ◌+◌, ◌-◌, ◌^◌, ◌≤◌, ◌<◌, Bool, List, [], ◌∷◌, ◌++◌, length, length-append, Option, Some, None, IfSome, IsSome, refl, sym, ap, subst, ◌∙◌, append_assoc, append-nil, inl, inr, ⊎_elim, arith}
use Rattle.std.specs.List.{flat_map}
use Rattle.std.proofs.lemmas.Bool.{cases_lt}
use Rattle.std.proofs.lemmas.List.{map-append}
use Rattle.std.proofs.lemmas.List.Concat.{flat_map-append}
use Rattle.std.specs.Io.KnownBytes.{IsAtEnd}
use Rattle.ob_io.specs.Faults.{Rose}
use Rattle.ob_io.specs.Links.{inlet, IsFresh}
use Rattle.ob_io.specs.Told.{Gains, Gains-none, Gains-then}
use Rattle.ob_io.specs.Visits.{Visit, IsVisit, raised}
use Rattle.ob_server.specs.Exchange.{Call, had, Exchange, fixed, stepped, moment_of, calls_in, moments_of, calls_of}
use Rattle.ob_http.specs.Laws.{FramingIsOne, EndStays}
use Rattle.ob_server.specs.Answered.{Answered, Serves, EndsAs, HasEndCause, EndRose}
use Rattle.ob_server.specs.Working.{ServedLink, EndCounts, IsServed, AreServed, stops_with, Stops, MayGoBack, GoesOn, AllGoOn, Post, post, Did, Counts, IsSelection, moments_in, IsFinal, Worked, NextComes, EndComes, WorksWhole}
use Rattle.ob_server.specs.declared.end.LinkEnd.{LinkEnd}
use Rattle.ob_server.specs.declared.end.LinkEnd.TheVariants as ends
use Rattle.ob_server.specs.declared.worker.WorkerEnd.{WorkerEnd}
use Rattle.ob_server.specs.declared.worker.WorkerEnd.TheVariants as workers
use Rattle.ob_server.specs.declared.worker.Next.TheVariants as nexts
use Rattle.ob_server.proofs.CompleteLemmas.{answers_whole}
use Rattle.ob_server.proofs.HeldLemmas.{rose_along}

-- ---- counts

pub counts_then : (a b c m n : ℕ) → Counts a m b → Counts b n c → Counts a (m + n) c
counts_then a b c m n (inl x) (inl y) = inl (omega (arith, x, y))
counts_then a b c m n (inl x) (inr y) = inr y
counts_then a b c m n (inr x) (inl y) = inr (omega (arith, x, y))
counts_then a b c m n (inr x) (inr y) = inr y

pub counts_one : (a b : ℕ) → b ≡ raised a 1 → Counts a 1 b
counts_one a b is =
    ⊎_elim (λ few. inl (omega (arith, is, few))) (λ many. inr (omega (arith, is, many))) (cases_lt (a + 1) (2 ^ 64 - 1))

-- ---- several links

pub did_none : (old new : Post) → new ≡ old → Did old [] new
did_none old new same = subst (λ (x : Post). Did old [] x) (sym same) (record {
  visited = Gains-none old.visits;
  handed = inl (omega arith);
  returned = inl (omega arith);
  gave = Gains-none old.given;
  called = sym (append-nil old.calls);
})

pub did_then : (h i j : Post) (xs ys : List ServedLink) → Did h xs i → Did i ys j → Did h (xs ++ ys) j
did_then h i j xs ys x y = record {
  visited = subst (λ (l : List Visit). Gains h.visits l j.visits) (sym (map-append (λ (s : ServedLink). s.visit) xs ys)) (Gains-then h.visits i.visits j.visits _ _ x.visited y.visited);
  handed = subst (λ (n : ℕ). Counts h.handed n j.handed) (sym (length-append xs ys)) (counts_then h.handed i.handed j.handed (length xs) (length ys) x.handed y.handed);
  returned = subst (λ (n : ℕ). Counts h.returned n j.returned) (sym (length-append xs ys)) (counts_then h.returned i.returned j.returned (length xs) (length ys) x.returned y.returned);
  gave = subst (λ (l : List ℕ). Gains h.given l j.given) (sym (flat_map-append (λ (s : ServedLink). s.moments) xs ys)) (Gains-then h.given i.given j.given _ _ x.gave y.gave);
  called = y.called ∙ ap (λ (l : List Call). l ++ flat_map (λ (s : ServedLink). s.calls) ys) x.called
      ∙ append_assoc h.calls (flat_map (λ (s : ServedLink). s.calls) xs) (flat_map (λ (s : ServedLink). s.calls) ys)
      ∙ ap (λ (l : List Call). h.calls ++ l) (sym (flat_map-append (λ (s : ServedLink). s.calls) xs ys));
}

served_then : (ns : Option (List ℕ)) (xs : List ServedLink) (s : ServedLink) → AreServed ns xs → IsServed ns s → AreServed ns (xs ++ s ∷ [])
served_then ns [] s a b = (b, tt)
served_then ns (x ∷ xs) s a b = (a.0, served_then ns xs s a.1 b)

goes_then : (stays : Bool) (xs : List ServedLink) (s : ServedLink) → AllGoOn stays xs → GoesOn stays s → AllGoOn stays (xs ++ s ∷ [])
goes_then stays [] s a b = (b, tt)
goes_then stays (x ∷ xs) s a b = (a.0, goes_then stays xs s a.1 b)

-- ---- moments

selects_later : (xs ys zs : List ℕ) → IsSelection xs zs → IsSelection xs (ys ++ zs)
selects_later [] ys zs s = tt
selects_later (x ∷ xs) [] zs s = s
selects_later (x ∷ xs) (y ∷ ys) zs s = inr (selects_later (x ∷ xs) ys zs s)

selects_then : (ks ls cs ds : List ℕ) → IsSelection ks ls → IsSelection cs ds → IsSelection (ks ++ cs) (ls ++ ds)
selects_then [] ls cs ds s t = selects_later cs ls ds t
selects_then (k ∷ ks) [] cs ds s t = absurd s
selects_then (k ∷ ks) (l ∷ ls) cs ds (inl here) t = inl (here.0, selects_then ks ls cs ds here.1 t)
selects_then (k ∷ ks) (l ∷ ls) cs ds (inr later) t = inr (selects_then (k ∷ ks) ls cs ds later t)

-- the calls of one exchange have its moment
selects_one : (x : Exchange) → IsSelection (moments_in (calls_in x)) (moment_of x ∷ [])
selects_one (fixed request moment line body) = tt
selects_one (stepped request call) = inl (refl, tt)

selects_exchanges : (xs : List Exchange) → IsSelection (moments_in (calls_of xs)) (moments_of xs)
selects_exchanges [] = tt
selects_exchanges (x ∷ xs) =
    subst (λ (l : List ℕ). IsSelection l (moment_of x ∷ moments_of xs)) (sym (map-append (λ (c : Call). c.moment) (calls_in x) (calls_of xs)))
    (selects_then (moments_in (calls_in x)) (moment_of x ∷ []) (moments_in (calls_of xs)) (moments_of xs) (selects_one x) (selects_exchanges xs))

selects_link : (ns : Option (List ℕ)) (s : ServedLink) → IsServed ns s → IsSelection (moments_in s.calls) s.moments
selects_link ns s served =
    let a = served.answered in
    subst (λ (ms : List ℕ). IsSelection (moments_in s.calls) ms) (sym a.moments_are)
    (subst (λ (cs : List Call). IsSelection (moments_in cs) (moments_of (a.done ++ a.last))) (sym a.calls_are) (selects_exchanges (a.done ++ a.last)))

selects_links : (ns : Option (List ℕ)) (xs : List ServedLink) → AreServed ns xs → IsSelection (moments_in (flat_map (λ (s : ServedLink). s.calls) xs)) (flat_map (λ (s : ServedLink). s.moments) xs)
selects_links ns [] served = tt
selects_links ns (s ∷ xs) served =
    subst (λ (l : List ℕ). IsSelection l (s.moments ++ flat_map (λ (t : ServedLink). t.moments) xs)) (sym (map-append (λ (c : Call). c.moment) s.calls (flat_map (λ (t : ServedLink). t.calls) xs)))
    (selects_then (moments_in s.calls) s.moments (moments_in (flat_map (λ (t : ServedLink). t.calls) xs)) (flat_map (λ (t : ServedLink). t.moments) xs) (selects_link ns s served.0) (selects_links ns xs served.1))

-- ---- one link

left_of : Option (List ℕ) → List ℕ
left_of None = []
left_of (Some xs) = xs

end_of_told : (left : Option (List ℕ)) → IsAtEnd left → IsAtEnd (Some (left_of left))
unfolding left_of
end_of_told None e = refl
end_of_told (Some xs) e = e

ends_told : (ns : Option (List ℕ)) (end : LinkEnd) (taken : List ℕ) (left : Option (List ℕ)) (done last : List Exchange) (tail : List ℕ) → EndsAs ns end taken left done last tail → EndsAs ns end taken (Some (left_of left)) done last tail
ends_told ns ends.Closed taken left done last tail e = (e.0, end_of_told left e.1, e.2)
ends_told ns ends.Asked taken left done last tail e = e
ends_told ns ends.Truncated taken left done last tail e = (e.0, e.1, e.2, end_of_told left e.3, e.4)
ends_told ns (ends.BadFrame fault at) taken left done last tail e = e
ends_told ns ends.ReadFault taken left done last tail e = e
ends_told ns ends.WriteFault taken left done last tail e = e
ends_told ns ends.ClockFault taken left done last tail e = e
ends_told ns ends.Budget taken left done last tail e = e
ends_told ns ends.Memory taken left done last tail e = e

fresh_gains : (u w : Option (List ℕ)) (bytes x : List ℕ) → IfSome u (λ b. b ≡ []) → Gains u bytes w → w ≡ Some x → x ≡ bytes
fresh_gains None None bytes x fresh gains is = absurd (cc)
fresh_gains (Some b) None bytes x fresh gains is = absurd (cc)
fresh_gains None (Some y) bytes x fresh gains is = absurd gains
fresh_gains (Some b) (Some y) bytes x fresh gains is =
    let same : y ≡ x = cc in
    sym same ∙ gains ∙ ap (λ (l : List ℕ). l ++ bytes) fresh

left_told : (left : Option (List ℕ)) (x : List ℕ) → left ≡ Some x → x ≡ left_of left
unfolding left_of
left_told None x is = absurd (cc)
left_told (Some y) x is = cc

-- a count that rose from 0
rose_some : (old new : ℕ) → old ≡ 0 → Rose old new → 0 < new
rose_some old new none rose = omega (arith, none, rose)

counts_of_end : (end : LinkEnd) (reads reads' writes writes' clocks clocks' : ℕ) → reads ≡ 0 → writes ≡ 0 → EndRose end reads reads' writes writes' clocks clocks' → EndCounts end reads' writes'
counts_of_end ends.Closed reads reads' writes writes' clocks clocks' r w e = tt
counts_of_end ends.Asked reads reads' writes writes' clocks clocks' r w e = tt
counts_of_end ends.Truncated reads reads' writes writes' clocks clocks' r w e = tt
counts_of_end (ends.BadFrame fault at) reads reads' writes writes' clocks clocks' r w e = tt
counts_of_end ends.ReadFault reads reads' writes writes' clocks clocks' r w e = rose_some reads reads' r e
counts_of_end ends.WriteFault reads reads' writes writes' clocks clocks' r w e = rose_some writes writes' w e
counts_of_end ends.ClockFault reads reads' writes writes' clocks clocks' r w e = tt
counts_of_end ends.Budget reads reads' writes writes' clocks clocks' r w e = tt
counts_of_end ends.Memory reads reads' writes writes' clocks clocks' r w e = tt

-- the door tells just this visit
tells : (visits visits' : Option (List Visit)) (told mine : Visit) → (IsSome visits' → told ≡ mine) → Gains visits (told ∷ []) visits' → Gains visits (mine ∷ []) visits'
tells visits None told mine same gains = tt
tells visits (Some vs) told mine same gains = subst (λ (v : Visit). Gains visits (v ∷ []) (Some vs)) (same refl) gains

pub served_one : (one : FramingIsOne) (stays : EndStays) (ns left taken held left' taken' held' given given' : Option (List ℕ)) (calls calls' : List Call) (reads reads' writes writes' clocks clocks' handed handed' returned returned' : ℕ)
    (visits visits' : Option (List Visit)) (end : LinkEnd)
    → IsFresh taken held reads writes
    → Serves ns (inlet left taken) (inlet left' taken') (had held given calls) (had held' given' calls') end
    → HasEndCause reads reads' writes writes' clocks clocks' end
    → ((visit : Visit) × Gains visits (visit ∷ []) visits' × (IsSome visits' → IsVisit visit left' taken' held' reads' writes'))
    → handed' ≡ raised handed 1 → returned' ≡ raised returned 1
    → (s : ServedLink) × IsServed ns s × (s.end ≡ end) × Did (post visits handed returned given calls) (s ∷ []) (post visits' handed' returned' given' calls')
served_one one stays ns left taken held left' taken' held' given given' calls calls' reads reads' writes writes' clocks clocks' handed handed' returned returned' visits visits' end fresh serves cause (visit, told, is) out in_again =
    let v : Visit = record { reads = reads'; writes = writes'; taken = serves.taken; written = serves.written; left = left_of left' } in
    let a = serves.answered in
    let s : ServedLink = record { visit = v; end = end; calls = serves.calls; moments = serves.moments } in
    let answered : Answered ns serves.taken serves.written serves.calls serves.moments (Some (left_of left')) end = record {
      done = a.done;
      last = a.last;
      tail = a.tail;
      answered = a.answered;
      written_is = a.written_is;
      calls_are = a.calls_are;
      moments_are = a.moments_are;
      ends = ends_told ns end serves.taken left' a.done a.last a.tail a.ends;
    } in
    let counted = counts_of_end end reads reads' writes writes' clocks clocks' fresh.reads_none fresh.writes_none cause.rose in (
      s,
      record { answered = answered; counted = counted; whole = answers_whole one stays ns s answered counted },
      refl,
      record {
        visited = tells visits visits' visit v
            (λ some.
            let t = is some in
            let taken_same = fresh_gains taken taken' serves.taken visit.taken fresh.taken_none serves.consumed.1 t.taken_is in
            let written_same = fresh_gains held held' serves.written visit.written fresh.held_none serves.went.wrote t.written_is in
            let left_same = left_told left' visit.left t.left_is in
            λ i. record { reads = t.reads_are i; writes = t.writes_are i; taken = taken_same i; written = written_same i; left = left_same i }) told;
        handed = counts_one handed handed' out;
        returned = counts_one returned returned' in_again;
        gave = subst (λ (l : List ℕ). Gains given l given') (sym (append-nil serves.moments)) serves.went.gave;
        called = serves.went.made ∙ ap (λ (l : List Call). calls ++ l) (sym (append-nil serves.calls));
      },
    )

-- a link after which the worker goes on may go back
goes_back : (ns : Option (List ℕ)) (s : ServedLink) → IsServed ns s → stops_with s.end ≡ None → MayGoBack s.visit
goes_back ns s served goes = by_end s.end served.answered.ends served.counted goes
  where
    by_end : (end : LinkEnd) → EndsAs ns end s.visit.taken (Some s.visit.left) served.answered.done served.answered.last served.answered.tail → EndCounts end s.visit.reads s.visit.writes → stops_with end ≡ None → MayGoBack s.visit
    by_end ends.Closed e c g = inl e.1
    by_end ends.Asked e c g = inr (inl (_, e.0))
    by_end ends.Truncated e c g = inl e.3
    by_end (ends.BadFrame fault at) e c g = inr (inr (inl (_, fault, at, e.0)))
    by_end ends.ReadFault e c g = inr (inr (inr (inr (inl c))))
    by_end ends.WriteFault e c g = inr (inr (inr (inr (inr c))))
    by_end ends.ClockFault e c g = absurd (cc)
    by_end ends.Budget e c g = inr (inr (inr (inl e.2)))
    by_end ends.Memory e c g = absurd (cc)

-- one after which it goes on, by its end or since it stays
goes_by : (ns : Option (List ℕ)) (stays : Bool) (s : ServedLink) → IsServed ns s → Stops stays s.end None → GoesOn stays s
goes_by ns stays s served (inl goes) = inl (goes, goes_back ns s served goes)
goes_by ns stays s served (inr cut) = inr cut

-- what the test of a link's end answers, said of that end
pub stopped_by : (stays : Bool) (end end' : LinkEnd) (result : Option WorkerEnd) (stop : WorkerEnd) → end ≡ end' → result ≡ Some stop → Stops stays end' result → stops_with end ≡ Some stop
stopped_by stays end end' result stop same it stops = ap stops_with same ∙ subst (λ (r : Option WorkerEnd). Stops stays end' r) it stops

pub goes_by_end : (stays : Bool) (end end' : LinkEnd) (result : Option WorkerEnd) → end ≡ end' → result ≡ None → Stops stays end' result → Stops stays end None
goes_by_end stays end end' result same it stops =
    subst (λ (e : LinkEnd). Stops stays e None) (sym same) (subst (λ (r : Option WorkerEnd). Stops stays end' r) it stops)

-- ---- a worker

-- The links so far were served, and the worker went on after each.
pub record Working (ns : Option (List ℕ)) (stays : Bool) (old new : Post) (links : ℕ) : Type 0 where
  pub before : List ServedLink
  pub served : AreServed ns before
  pub went_on : AllGoOn stays before
  pub did : Did old before new
  pub count : links ≡ length before

pub working_none : (ns : Option (List ℕ)) (stays : Bool) (d : Post) → Working ns stays d d 0
working_none ns stays d = record { before = []; served = tt; went_on = tt; did = did_none d d refl; count = refl }

module _ (ns : Option (List ℕ)) (stays : Bool) (old now new : Post) (links : ℕ) (w : Working ns stays old now links) where
  pub works_on : (s : ServedLink) → IsServed ns s → Did now (s ∷ []) new → Stops stays s.end None → Working ns stays old new (links + 1)
  works_on s served did goes = record {
    before = w.before ++ s ∷ [];
    served = served_then ns w.before s w.served served;
    went_on = goes_then stays w.before s w.went_on (goes_by ns stays s served goes);
    did = did_then old now new w.before (s ∷ []) w.did did;
    count = omega (arith, w.count, length-append w.before (s ∷ []));
  }

  last_is : (s : ServedLink) (stop : WorkerEnd) → stops_with s.end ≡ Some stop → IsFinal (s ∷ []) stop
  last_is s stop is = by_end s.end refl is
    where
      by_end : (end : LinkEnd) → s.end ≡ end → stops_with end ≡ Some stop → IsFinal (s ∷ []) stop
      by_end ends.Closed same e = absurd (cc)
      by_end ends.Asked same e = absurd (cc)
      by_end ends.Truncated same e = absurd (cc)
      by_end (ends.BadFrame fault at) same e = absurd (cc)
      by_end ends.ReadFault same e = absurd (cc)
      by_end ends.WriteFault same e = absurd (cc)
      by_end ends.ClockFault same e = let is_clock : workers.ClockFault ≡ stop = cc in subst (λ (x : WorkerEnd). IsFinal (s ∷ []) x) is_clock (s, refl, same)
      by_end ends.Budget same e = absurd (cc)
      by_end ends.Memory same e = let is_memory : workers.Memory ≡ stop = cc in subst (λ (x : WorkerEnd). IsFinal (s ∷ []) x) is_memory (s, refl, same)

  pub work_stopped : (s : ServedLink) (stop : WorkerEnd) → IsServed ns s → Did now (s ∷ []) new → stops_with s.end ≡ Some stop → Worked ns stays old new (links + 1) stop
  work_stopped s stop served did is = record {
    before = w.before;
    final = s ∷ [];
    served = served_then ns w.before s w.served served;
    went_on = w.went_on;
    ended = last_is s stop is;
    did = did_then old now new w.before (s ∷ []) w.did did;
    count = omega (arith, w.count, length-append w.before (s ∷ []));
    drawn = selects_links ns (w.before ++ s ∷ []) (served_then ns w.before s w.served served);
  }

  pub work_ended : (stop : WorkerEnd) → Did now [] new → IsFinal [] stop → Worked ns stays old new links stop
  work_ended stop did final =
      let none : List ServedLink = [] in
      let all : AreServed ns (w.before ++ []) = subst (λ (l : List ServedLink). AreServed ns l) (sym (append-nil w.before)) w.served in
      record {
        before = w.before;
        final = [];
        served = all;
        went_on = w.went_on;
        ended = final;
        did = did_then old now new w.before [] w.did did;
        count = w.count ∙ ap (λ (l : List ServedLink). length l) (sym (append-nil w.before));
        drawn = selects_links ns (w.before ++ []) all;
      }

pub work_had : (ns : Option (List ℕ)) (stays : Bool) (old now : Post) (links quota : ℕ) → links ≡ quota → Working ns stays old now links → Worked ns stays old now quota workers.Quota
work_had ns stays old now links quota all w =
    subst (λ (n : ℕ). Worked ns stays old now n workers.Quota) all (work_ended ns stays old now now links w workers.Quota (did_none now now refl) refl)

-- nothing of it changed
pub did_nothing : (visits visits' : Option (List Visit)) (handed handed' returned returned' : ℕ) (given : Option (List ℕ)) (calls : List Call) → visits' ≡ visits → handed' ≡ handed → returned' ≡ returned
    → Did (post visits handed returned given calls) [] (post visits' handed' returned' given calls)
did_nothing visits visits' handed handed' returned returned' given calls v h r =
    did_none _ _ (λ i. post (v i) (h i) (r i) given calls)

-- ---- causes

-- what a link's end says of the clock
pub link_comes : (end : LinkEnd) (reads reads' writes writes' clocks clocks' doors doors' : ℕ) (closed : Bool) → EndRose end reads reads' writes writes' clocks clocks' → NextComes (nexts.Link end) closed doors doors' clocks clocks'
link_comes ends.Closed reads reads' writes writes' clocks clocks' doors doors' closed e = tt
link_comes ends.Asked reads reads' writes writes' clocks clocks' doors doors' closed e = tt
link_comes ends.Truncated reads reads' writes writes' clocks clocks' doors doors' closed e = tt
link_comes (ends.BadFrame fault at) reads reads' writes writes' clocks clocks' doors doors' closed e = tt
link_comes ends.ReadFault reads reads' writes writes' clocks clocks' doors doors' closed e = tt
link_comes ends.WriteFault reads reads' writes writes' clocks clocks' doors doors' closed e = tt
link_comes ends.ClockFault reads reads' writes writes' clocks clocks' doors doors' closed e = e
link_comes ends.Budget reads reads' writes writes' clocks clocks' doors doors' closed e = tt
link_comes ends.Memory reads reads' writes writes' clocks clocks' doors doors' closed e = tt

-- the link at which the worker stopped says why
pub stop_comes : (end : LinkEnd) (stop : WorkerEnd) (links quota : ℕ) (closed : Bool) (doors doors' doors'' clocks clocks' clocks'' : ℕ) → stops_with end ≡ Some stop → clocks ≤ clocks'
    → NextComes (nexts.Link end) closed doors' doors'' clocks' clocks'' → EndComes stop links quota closed doors doors'' clocks clocks''
stop_comes ends.Closed stop links quota closed doors doors' doors'' clocks clocks' clocks'' is le c = absurd (cc)
stop_comes ends.Asked stop links quota closed doors doors' doors'' clocks clocks' clocks'' is le c = absurd (cc)
stop_comes ends.Truncated stop links quota closed doors doors' doors'' clocks clocks' clocks'' is le c = absurd (cc)
stop_comes (ends.BadFrame fault at) stop links quota closed doors doors' doors'' clocks clocks' clocks'' is le c = absurd (cc)
stop_comes ends.ReadFault stop links quota closed doors doors' doors'' clocks clocks' clocks'' is le c = absurd (cc)
stop_comes ends.WriteFault stop links quota closed doors doors' doors'' clocks clocks' clocks'' is le c = absurd (cc)
stop_comes ends.ClockFault stop links quota closed doors doors' doors'' clocks clocks' clocks'' is le c =
    let is_clock : workers.ClockFault ≡ stop = cc in
    subst (λ (x : WorkerEnd). EndComes x links quota closed doors doors'' clocks clocks'') is_clock (rose_along clocks clocks' clocks'' le c)
stop_comes ends.Budget stop links quota closed doors doors' doors'' clocks clocks' clocks'' is le c = absurd (cc)
stop_comes ends.Memory stop links quota closed doors doors' doors'' clocks clocks' clocks'' is le c =
    let is_memory : workers.Memory ≡ stop = cc in
    subst (λ (x : WorkerEnd). EndComes x links quota closed doors doors'' clocks clocks'') is_memory tt

pub works_whole : (end : WorkerEnd) (links quota : ℕ) (closed : Bool) (doors doors' clocks clocks' : ℕ) → EndComes end links quota closed doors doors' clocks clocks' → WorksWhole end doors doors' clocks clocks'
works_whole workers.Quota links quota closed doors doors' clocks clocks' c = λ no_door no_clock. inl refl
works_whole workers.Closed links quota closed doors doors' clocks clocks' c = λ no_door no_clock. inr (inl refl)
works_whole workers.DoorFault links quota closed doors doors' clocks clocks' c = λ no_door no_clock. absurd (no_door c)
works_whole workers.ClockFault links quota closed doors doors' clocks clocks' c = λ no_door no_clock. absurd (no_clock c)
works_whole workers.Memory links quota closed doors doors' clocks clocks' c = λ no_door no_clock. inr (inr refl)
