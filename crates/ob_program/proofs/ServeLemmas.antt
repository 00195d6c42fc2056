-- The service of a file's site at a port.
use Rattle.std.proofs.Common.{◌≡◌, ◌≢◌, ℕ, ◌≤◌, Bool, ◌⊎◌, inl, inr, refl, sym, ap, subst, ◌∙◌, arith, List, [], ◌∷◌, Option, Some, None, false}
use Rattle.std.specs.Prelude.{IfSome}
use Rattle.ob_io.specs.Faults.{Rose}
use Rattle.ob_io.specs.Told.{Gains}
use Rattle.ob_load.specs.Loads.{IsSite, OpenedIsNotRefused, OpensSite, RefusesBytes, IsOutside}
use Rattle.ob_server.specs.GivenBack.{PortTold, ClockTold}
use Rattle.ob_site_file.specs.declared.fault.LoadFault.{LoadFault}
use Rattle.ob_site_file.specs.declared.fault.LoadFault.TheVariants as faults
use Rattle.ob_io.specs.Ticks.{Pace}
use Rattle.ob_io.specs.Visits.{Visit}
use Rattle.ob_site_laws.specs.Seen.{KeepsWatches}
use Rattle.ob_site_laws.specs.SiteLaws.{acts, IsSoundSite}
use Rattle.ob_site_rules.specs.Sites.{SiteState}
use Rattle.ob_io.specs.declared.cause.Cause.{Cause}
use Rattle.ob_io.specs.declared.cause.RefusedFile.{RefusedFile}
use Rattle.ob_program.specs.declared.serve.ServeEnd.{ServeEnd}
use Rattle.ob_program.specs.declared.serve.ServeEnd.TheVariants.{Done, Refused, ReadFault, WriteFault, PortFault, ClockFault, Memory}
use Rattle.ob_program.specs.Stdio.{site_bytes, IsRefusedAs}
use Rattle.ob_program.specs.declared.exit.Exit.{Exit}
use Rattle.ob_program.specs.declared.exit.Exit.TheVariants as exits
use Rattle.ob_program.specs.Serving.{exit_of_serve, end_of_load, AtPlace, ServeRose, IsUnserved, ServeComes, ServeRan}
use Rattle.ob_program.specs.Telling.{ErrorsTold, Tells}
use Rattle.ob_program.specs.Words.{serve_words}

told_refused : (fault : LoadFault) (file : Option (List ℕ)) (boot : ℕ) → (IsOutside fault → ⊥) → IfSome file (λ whole. IsOutside fault ⊎ RefusesBytes (site_bytes whole) boot fault) → IsRefusedAs file boot fault
told_refused fault None boot inside h = (tt, inside)
told_refused fault (Some whole) boot inside h = (elim h [ inl outside ↦ absurd (inside outside) | inr why ↦ why ], inside)

-- nothing was served, and the bytes are refused
pub unserved_refused : (fault : LoadFault) (file : Option (List ℕ)) (boot : ℕ) → IfSome file (λ whole. IsOutside fault ⊎ RefusesBytes (site_bytes whole) boot fault) → IsUnserved file boot (end_of_load fault)
unserved_refused faults.Read file boot k = tt
unserved_refused faults.Memory file boot k = tt
unserved_refused (faults.Document refused) file boot k = told_refused (faults.Document refused) file boot (λ no. no) k
unserved_refused faults.RootHref file boot k = told_refused faults.RootHref file boot (λ no. no) k
unserved_refused (faults.Href part) file boot k = told_refused (faults.Href part) file boot (λ no. no) k
unserved_refused (faults.Contract fault) file boot k = told_refused (faults.Contract fault) file boot (λ no. no) k
unserved_refused (faults.PathTwice path) file boot k = told_refused (faults.PathTwice path) file boot (λ no. no) k
unserved_refused (faults.Rule offence) file boot k = told_refused (faults.Rule offence) file boot (λ no. no) k
unserved_refused faults.Size file boot k = told_refused faults.Size file boot (λ no. no) k

-- the cause of a refusal
pub refused_rose : (fault : LoadFault) (files files' writes writes' : ℕ) (p p' : PortTold) (t t' : ClockTold) → (fault ≡ faults.Read → Rose files files') → ServeRose (end_of_load fault) files files' writes writes' p p' t t'
refused_rose faults.Read files files' writes writes' p p' t t' k = k refl
refused_rose faults.Memory files files' writes writes' p p' t t' k = tt
refused_rose (faults.Document refused) files files' writes writes' p p' t t' k = tt
refused_rose faults.RootHref files files' writes writes' p p' t t' k = tt
refused_rose (faults.Href part) files files' writes writes' p p' t t' k = tt
refused_rose (faults.Contract fault) files files' writes writes' p p' t t' k = tt
refused_rose (faults.PathTwice path) files files' writes writes' p p' t t' k = tt
refused_rose (faults.Rule offence) files files' writes writes' p p' t t' k = tt
refused_rose faults.Size files files' writes writes' p p' t t' k = tt

-- the clock was asked for the boot's moment before, and the file was read
pub rose_from : (end : ServeEnd) (files files' writes writes' : ℕ) (p p' : PortTold) (t u t' : ClockTold) → t.faults ≤ u.faults → ServeRose end 0 0 writes writes' p p' u t' → ServeRose end files files' writes writes' p p' t t'
rose_from Done files files' writes writes' p p' t u t' later h = tt
rose_from (Refused fault) files files' writes writes' p p' t u t' later h = tt
rose_from ReadFault files files' writes writes' p p' t u t' later h = absurd (omega (arith, h))
rose_from WriteFault files files' writes writes' p p' t u t' later h = h
rose_from PortFault files files' writes writes' p p' t u t' later h = h
rose_from ClockFault files files' writes writes' p p' t u t' later h = omega (arith, h, later)
rose_from Memory files files' writes writes' p p' t u t' later h = tt

module _ {D C : Type 0} (door_faults handed returned : D → ℕ) (visits : D → Option (List Visit)) (closed : D → Bool) (given : C → Option (List ℕ)) (pace : C → Option Pace) (misses : C → ℕ)
    (file : Option (List ℕ)) (host : List ℕ) (place wanted quota files files' : ℕ) where
  abbrev Comes_ : (held held' : Option (List ℕ)) → (writes writes' : ℕ) → (p p' : PortTold) → (t t' : ClockTold) → ServeEnd → Type 0
  Comes_ held held' writes writes' p p' t t' end = ServeComes door_faults handed returned visits closed given pace misses file host place wanted quota files files' held held' writes writes' p p' t t' end

  -- a site was served, or there was no memory to begin
  pub comes_served : (held held' : Option (List ℕ)) (writes writes' : ℕ) (p p' : PortTold) (t u t' : ClockTold) (boot : ℕ) (opening left : SiteState) (ns : Option (List ℕ)) (end : ServeEnd)
      → Gains t.given (boot ∷ []) u.given → u.twins ≡ t.twins → t.faults ≤ u.faults → IfSome file (λ whole. IsSite (site_bytes whole) boot ns opening) → IsSoundSite opening
      → AtPlace door_faults handed returned visits closed given pace misses acts opening (KeepsWatches opening) false left ns host place wanted quota held held' writes writes' p p' u t' end
      → Comes_ held held' writes writes' p p' t t' end
  comes_served held held' writes writes' p p' t u t' boot opening left ns end gave twins later opened sound served = record {
    comes = inr (boot, u, gave, twins, inr (record { ns = ns; opening = opening; opened = opened; sound = sound; left = left; served = served }));
    rose = rose_from end files files' writes writes' p p' t u t' later served.rose;
  }

  -- the file opens no site
  pub comes_unserved : (held : Option (List ℕ)) (writes : ℕ) (p : PortTold) (t u : ClockTold) (boot : ℕ) (fault : LoadFault) (end : ServeEnd)
      → Gains t.given (boot ∷ []) u.given → u.twins ≡ t.twins → end ≡ end_of_load fault → IfSome file (λ whole. IsOutside fault ⊎ RefusesBytes (site_bytes whole) boot fault) → (fault ≡ faults.Read → Rose files files')
      → Comes_ held held writes writes p p t u end
  comes_unserved held writes p t u boot fault end gave twins is refused read = record {
    comes = inr (boot, u, gave, twins, inl (record { held_is = refl; port_is = refl; clock_is = refl }, subst (λ (e : ServeEnd). IsUnserved file boot e) (sym is) (unserved_refused fault file boot refused)));
    rose = subst (λ (e : ServeEnd). ServeRose e files files' writes writes p p t u) (sym is) (refused_rose fault files files' writes writes p p t u read);
  }

  -- a file that opens a site isn't refused
  unrefused : (law : OpenedIsNotRefused) (whole : List ℕ) (held held' : Option (List ℕ)) (writes writes' : ℕ) (p p' : PortTold) (t t' : ClockTold) (fault : LoadFault) → file ≡ Some whole → OpensSite (site_bytes whole)
      → Comes_ held held' writes writes' p p' t t' (Refused fault) → ⊥
  unrefused law whole held held' writes writes' p p' t t' fault told opens c =
      elim c.comes [
        | inl (is, given_same, held_same, port_same) ↦ (let no : Refused fault ≡ ClockFault = is in absurd (cc))
        | inr (boot, booted, gave, twins, what) ↦ elim what [
          | inl (untouched, refused) ↦
              (let why = subst (λ (f : Option (List ℕ)). IsRefusedAs f boot fault) told refused in
              why.1 (law (site_bytes whole) opens boot fault why.0))
          | inr served ↦ served.served.unrefused fault refl
        ]
      ]

  complete_by : (law : OpenedIsNotRefused) (whole : List ℕ) (held held' : Option (List ℕ)) (writes writes' : ℕ) (p p' : PortTold) (t t' : ClockTold) (end : ServeEnd) → file ≡ Some whole → OpensSite (site_bytes whole)
      → Comes_ held held' writes writes' p p' t t' end
      → ¬ (Rose files files') → ¬ (Rose writes writes') → ¬ (Rose p.faults p'.faults) → ¬ (Rose t.faults t'.faults)
      → (exit_of_serve end ≡ exits.Ok) ⊎ (exit_of_serve end ≡ exits.Memory)
  complete_by law whole held held' writes writes' p p' t t' Done told opens c no_read no_write no_port no_clock = inl refl
  complete_by law whole held held' writes writes' p p' t t' (Refused fault) told opens c no_read no_write no_port no_clock =
      absurd (unrefused law whole held held' writes writes' p p' t t' fault told opens c)
  complete_by law whole held held' writes writes' p p' t t' ReadFault told opens c no_read no_write no_port no_clock = absurd (no_read c.rose)
  complete_by law whole held held' writes writes' p p' t t' WriteFault told opens c no_read no_write no_port no_clock = absurd (no_write c.rose)
  complete_by law whole held held' writes writes' p p' t t' PortFault told opens c no_read no_write no_port no_clock = absurd (no_port c.rose)
  complete_by law whole held held' writes writes' p p' t t' ClockFault told opens c no_read no_write no_port no_clock = absurd (no_clock c.rose)
  complete_by law whole held held' writes writes' p p' t t' Memory told opens c no_read no_write no_port no_clock = inr refl

  -- the service came to this end, which is the exit
  pub serve_ran : (law : OpenedIsNotRefused) (held held' : Option (List ℕ)) (writes writes' : ℕ) (p p' : PortTold) (t t' : ClockTold) (refused : Option RefusedFile) (refusal : Cause) (e e' : ErrorsTold) (end : ServeEnd) (exit : Exit) → exit ≡ exit_of_serve end
      → Comes_ held held' writes writes' p p' t t' end
      → Tells e e' exit (serve_words refused refusal end)
      → ServeRan door_faults handed returned visits closed given pace misses file host place wanted quota files files' held held' writes writes' p p' t t' refused refusal e e' exit
  serve_ran law held held' writes writes' p p' t t' refused refusal e e' end exit is c says = record {
    end = end;
    exit_is = is;
    comes = c;
    says = says;
    complete = told file refl;
  }
    where
      told : (f : Option (List ℕ)) → file ≡ f → IfSome f (λ whole. OpensSite (site_bytes whole)
          → ¬ (Rose files files') → ¬ (Rose writes writes') → ¬ (Rose p.faults p'.faults) → ¬ (Rose t.faults t'.faults)
          → (exit ≡ exits.Ok) ⊎ (exit ≡ exits.Memory))
      told None same = tt
      told (Some whole) same = λ opens no_read no_write no_port no_clock.
          subst (λ (x : Exit). (x ≡ exits.Ok) ⊎ (x ≡ exits.Memory)) (sym is)
          (complete_by law whole held held' writes writes' p p' t t' end same opens c no_read no_write no_port no_clock)
