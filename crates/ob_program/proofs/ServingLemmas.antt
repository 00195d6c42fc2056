-- The service of a port's doors, and what is printed of it.
use Rattle.std.proofs.Common.{◌≡◌, ◌≢◌, ℕ, ◌≤◌, Bool, true, false, true≢false, ◌⊎◌, inl, inr, refl, sym, ap, subst, ◌∙◌, arith, List, [], ◌∷◌, ◌++◌, append_assoc, append-nil, Option, Some, None, Result, Ok, Err}
use Rattle.std.specs.Prelude.{IfOk, IfSome, MatchResult, OnErr, is_err}
use Rattle.ob_io.specs.Faults.{Rose}
use Rattle.ob_io.specs.Told.{Gains, Gains-none, Gains-then, IsFront}
use Rattle.ob_io.specs.Ticks.{Pace}
use Rattle.ob_io.specs.Visits.{Visit}
use Rattle.ob_machine.specs.History.{after}
use Rattle.ob_server.specs.Exchange.{Call}
use Rattle.ob_server.specs.GivenBack.{PortTold, ClockTold}
use Rattle.ob_server.specs.Port.{HasPortCause, PortRose, ServesDoors}
use Rattle.ob_server.specs.Working.{is_fault}
use Rattle.ob_server.specs.declared.worker.WorkerEnd.{WorkerEnd}
use Rattle.ob_server.specs.declared.worker.WorkerEnd.TheVariants as workers
use Rattle.ob_site_file.specs.declared.fault.LoadFault.{LoadFault}
use Rattle.ob_object.specs.Object.{Object}
use Rattle.ob_site_rules.specs.declared.request.Request.{Request as Asked}
use Rattle.ob_program.specs.declared.serve.ServeEnd.{ServeEnd}
use Rattle.ob_program.specs.declared.serve.ServeEnd.TheVariants.{Done, Refused, ReadFault, WriteFault, PortFault, ClockFault, Memory}
use Rattle.ob_program.specs.Serving.{end_of_workers, end_with, listening_text, served_text, Prints, PrintRose, ServeRose, Listened, ServesNone, ServesMachine, AtPlace}

rose_later : (a b c : ℕ) → a ≤ b → Rose b c → Rose a c
rose_later a b c le rose = omega arith

-- ---- what was printed

prints_none : (held : Option (List ℕ)) (bytes : List ℕ) (All : Type 0) → (All → ⊥) → Prints held held bytes All
prints_none held bytes All not = record { text = []; printed = Gains-none held; front = (bytes, refl); all = λ a. absurd (not a) }

-- a line was printed, or there was no memory for it
pub line_printed : {T E : Type 0} (items : T → List ℕ) (line : Result T E) (text : List ℕ) (held held' : Option (List ℕ)) (result : Option ServeEnd)
    → IfOk line (λ l. items l ≡ text)
    → MatchResult line (λ l. Prints held held' (items l) (result ≡ None)) (λ _. (held' ≡ held) × (result ≡ Some Memory))
    → Prints held held' text (result ≡ None)
line_printed items (Ok l) text held held' result is prints = subst (λ (t : List ℕ). Prints held held' t (result ≡ None)) is prints
line_printed items (Err e) text held held' result is prints =
    subst (λ (h : Option (List ℕ)). Prints held h text (result ≡ None)) (sym prints.0)
    (prints_none held text (result ≡ None) (λ none. let no : Some Memory ≡ None = sym prints.1 ∙ none in absurd (cc)))

-- nothing is to be printed
pub nothing_printed : (held : Option (List ℕ)) (result : Option ServeEnd) → Prints held held [] (result ≡ None)
nothing_printed held result = record { text = []; printed = Gains-none held; front = ([], refl); all = λ is. refl }

front_then : (a b c : List ℕ) → IsFront b c → IsFront (a ++ b) (a ++ c)
front_then a b c f = (f.0, ap (λ (t : List ℕ). a ++ t) f.1 ∙ sym (append_assoc a b f.0))

front_longer : (a b c : List ℕ) → IsFront a b → IsFront a (b ++ c)
front_longer a b c f = (f.0 ++ c, ap (λ (t : List ℕ). t ++ c) f.1 ∙ append_assoc a f.0 c)

-- ---- ends

-- the workers' end is none but a quota had or a closed door
well_ends : (e : WorkerEnd) → end_of_workers e ≡ Done → is_fault e ≡ false
well_ends workers.Quota is = refl
well_ends workers.Closed is = refl
well_ends workers.DoorFault is = cc
well_ends workers.ClockFault is = cc
well_ends workers.Memory is = cc

well_reported : (e : WorkerEnd) (reported : Option ServeEnd) (writes writes' : ℕ) → IfSome reported (λ f. PrintRose f writes writes') → end_with e reported ≡ Done
    → (reported ≡ None) × (end_of_workers e ≡ Done)
well_reported workers.Quota None writes writes' rose is = (refl, refl)
well_reported workers.Quota (Some f) writes writes' rose is = absurd (subst (λ (x : ServeEnd). PrintRose x writes writes') is rose)
well_reported workers.Closed None writes writes' rose is = (refl, refl)
well_reported workers.Closed (Some f) writes writes' rose is = absurd (subst (λ (x : ServeEnd). PrintRose x writes writes') is rose)
well_reported workers.DoorFault reported writes writes' rose is = cc
well_reported workers.ClockFault reported writes writes' rose is = cc
well_reported workers.Memory reported writes writes' rose is = cc

print_rose : (f : ServeEnd) (writes writes' : ℕ) (p r : PortTold) (t v : ClockTold) → PrintRose f writes writes' → ServeRose f 0 0 writes writes' p r t v
print_rose Done writes writes' p r t v h = absurd h
print_rose (Refused fault) writes writes' p r t v h = absurd h
print_rose ReadFault writes writes' p r t v h = absurd h
print_rose WriteFault writes writes' p r t v h = h
print_rose PortFault writes writes' p r t v h = absurd h
print_rose ClockFault writes writes' p r t v h = absurd h
print_rose Memory writes writes' p r t v h = tt

-- what is printed of the site's file is no refusal
print_unrefused : (f : ServeEnd) (writes writes' : ℕ) (fault : LoadFault) → PrintRose f writes writes' → f ≢ Refused fault
print_unrefused f writes writes' fault rose is = subst (λ (x : ServeEnd). PrintRose x writes writes') is rose

end_unrefused : (e : WorkerEnd) (reported : Option ServeEnd) (writes writes' : ℕ) (fault : LoadFault) → IfSome reported (λ f. PrintRose f writes writes') → end_with e reported ≢ Refused fault
end_unrefused workers.Quota None writes writes' fault rose = λ is. cc is
end_unrefused workers.Quota (Some f) writes writes' fault rose = print_unrefused f writes writes' fault rose
end_unrefused workers.Closed None writes writes' fault rose = λ is. cc is
end_unrefused workers.Closed (Some f) writes writes' fault rose = print_unrefused f writes writes' fault rose
end_unrefused workers.DoorFault reported writes writes' fault rose = λ is. cc is
end_unrefused workers.ClockFault reported writes writes' fault rose = λ is. cc is
end_unrefused workers.Memory reported writes writes' fault rose = λ is. cc is

-- the end of workers has its cause at the port or at the clock
end_rose : (e : WorkerEnd) (reported : Option ServeEnd) (writes writes' : ℕ) (p q r : PortTold) (t v : ClockTold) → p.faults ≤ q.faults → PortRose e q.faults r.faults t.faults v.faults
    → IfSome reported (λ f. PrintRose f writes writes') → ServeRose (end_with e reported) 0 0 writes writes' p r t v
end_rose workers.Quota None writes writes' p q r t v later rose h = tt
end_rose workers.Quota (Some f) writes writes' p q r t v later rose h = print_rose f writes writes' p r t v h
end_rose workers.Closed reported writes writes' p q r t v later rose h = absurd rose
end_rose workers.DoorFault reported writes writes' p q r t v later rose h = rose_later p.faults q.faults r.faults later rose
end_rose workers.ClockFault reported writes writes' p q r t v later rose h = rose
end_rose workers.Memory reported writes writes' p q r t v later rose h = tt

pub on_err : {T E : Type 0} (r : Result T E) (P : Type 0) → is_err r ≡ true → OnErr r P → P
on_err (Ok x) P is h = cc
on_err (Err e) P is h = h

-- ---- at a place

module _ {D C : Type 0} (faults handed returned : D → ℕ) (visits : D → Option (List Visit)) (closed : D → Bool) (given : C → Option (List ℕ)) (pace : C → Option Pace) (misses : C → ℕ)
    {S : Type 0} (act : S → Asked → ℕ → S × Object) (opening : S) (Keeps : List Call → Type 0) (stays : Bool)
    (ns : Option (List ℕ)) (host : List ℕ) (place wanted quota : ℕ) where
  abbrev At_ : (left : S) → (held held' : Option (List ℕ)) → (writes writes' : ℕ) → (p p' : PortTold) → (t t' : ClockTold) → ServeEnd → Type 0
  At_ left held held' writes writes' p p' t t' end =
      AtPlace faults handed returned visits closed given pace misses act opening Keeps stays left ns host place wanted quota held held' writes writes' p p' t t' end

  -- the port couldn't listen
  pub unlistened : (held : Option (List ℕ)) (writes : ℕ) (p p' : PortTold) (t : ClockTold) → Listened host place p p' → Rose p.faults p'.faults → At_ opening held held writes writes p p' t t PortFault
  unlistened held writes p p' t listened rose = record {
    listening = p';
    listened = listened;
    links = None;
    served = inl (record { port_is = refl; clock_is = refl; none = refl; undone = λ is. cc is }, refl);
    prints = prints_none held _ _ (λ is. cc is);
    unheard = λ _. (refl, refl);
    unrefused = λ fault is. cc is;
    rose = rose;
    writes_later = omega arith;
  }

  -- that it listens couldn't be printed
  pub unannounced : (held held' : Option (List ℕ)) (writes writes' : ℕ) (p p' : PortTold) (t : ClockTold) (end : ServeEnd) → (listened : Listened host place p p') → listened.failed ≡ false
      → Prints held held' (listening_text host place) (Some end ≡ None) → PrintRose end writes writes' → writes ≤ writes' → At_ opening held held' writes writes' p p' t t end
  unannounced held held' writes writes' p p' t end listened heard prints rose later = record {
    listening = p';
    listened = listened;
    links = None;
    served = inl (record { port_is = refl; clock_is = refl; none = refl; undone = undone }, refl);
    prints = record { text = prints.text; printed = prints.printed; front = front_longer prints.text (listening_text host place) [] prints.front; all = λ is. absurd (undone is) };
    unheard = λ is. absurd (true≢false (sym is ∙ heard));
    unrefused = λ fault. print_unrefused end writes writes' fault rose;
    rose = print_rose end writes writes' p p' t t rose;
    writes_later = later;
  }
    where
      undone : end ≢ Done
      undone is = subst (λ (x : ServeEnd). PrintRose x writes writes') is rose

  -- it listened, that was printed, and then its doors were served
  pub served_there : (held held' held'' : Option (List ℕ)) (writes writes' writes'' : ℕ) (p q r : PortTold) (t v : ClockTold) (announced reported : Option ServeEnd) (links : Option ℕ) (ends : WorkerEnd) (end : ServeEnd) (left : S)
      → (listened : Listened host place p q) → listened.failed ≡ false
      → announced ≡ None → Prints held held' (listening_text host place) (announced ≡ None) → writes ≤ writes'
      → ((history : List Call) × ServesDoors faults handed returned visits given pace misses act closed ns opening wanted quota stays history q r t v links ends × Keeps history × (left ≡ after act opening history))
      → HasPortCause ends q.faults r.faults t.faults v.faults
      → Prints held' held'' (served_text links) (reported ≡ None) → IfSome reported (λ f. PrintRose f writes' writes'') → writes' ≤ writes'' → end ≡ end_with ends reported
      → At_ left held held'' writes writes'' p r t v end
  served_there held held' held'' writes writes' writes'' p q r t v announced reported links ends end left listened heard none announces writes_later (history, doors, keeps, left_is) cause prints rose writes_last is =
      let all : announces.text ≡ listening_text host place = announces.all none in
      let reports : IfSome reported (λ f. PrintRose f writes writes'') = rose_since reported rose in
      let well = λ (e : end ≡ Done). well_reported ends reported writes writes'' reports (sym is ∙ e) in
      record {
        listening = q;
        listened = listened;
        links = links;
        served = inr (record {
          history = history;
          worker_end = ends;
          doors = doors;
          keeps = keeps;
          left_is = left_is;
          well = λ e. well_ends ends ((well e).1);
        });
        prints = record {
          text = announces.text ++ prints.text;
          printed = Gains-then held held' held'' announces.text prints.text announces.printed prints.printed;
          front = subst (λ (x : List ℕ). IsFront (x ++ prints.text) (listening_text host place ++ served_text links)) (sym all) (front_then (listening_text host place) prints.text (served_text links) prints.front);
          all = λ e. ap (λ (x : List ℕ). x ++ prints.text) all ∙ ap (λ (x : List ℕ). listening_text host place ++ x) (prints.all ((well e).0));
        };
        unheard = λ is. absurd (true≢false (sym is ∙ heard));
        unrefused = λ fault refused. end_unrefused ends reported writes writes'' fault reports (sym is ∙ refused);
        rose = subst (λ (e : ServeEnd). ServeRose e 0 0 writes writes'' p r t v) (sym is) (end_rose ends reported writes writes'' p q r t v listened.later cause.rose reports);
        writes_later = omega (arith, writes_later, writes_last);
      }
    where
      since : (f : ServeEnd) → PrintRose f writes' writes'' → PrintRose f writes writes''
      since Done h = h
      since (Refused fault) h = h
      since ReadFault h = h
      since WriteFault h = rose_later writes writes' writes'' writes_later h
      since PortFault h = h
      since ClockFault h = h
      since Memory h = h

      rose_since : (f : Option ServeEnd) → IfSome f (λ e. PrintRose e writes' writes'') → IfSome f (λ e. PrintRose e writes writes'')
      rose_since None h = tt
      rose_since (Some e) h = since e h
