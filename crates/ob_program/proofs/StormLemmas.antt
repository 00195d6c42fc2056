-- A storm.
use Rattle.std.proofs.Common.{◌≡◌, ◌⊎◌, inl, inr, ℕ, refl, sym, subst, ap, ◌∙◌, List, [], Option, Result, Ok, Err, arith}
use Rattle.std.specs.Prelude.{IfOk, IfErr, IsErrOf}
use Rattle.ob_load.specs.declared.site.Loaded.{Loaded}
use Rattle.ob_command.specs.Storm.{Storm}
use Rattle.ob_io.specs.Faults.{Rose}
use Rattle.ob_io.specs.Told.{Gains, IsFront}
use Rattle.ob_load.specs.Loads.{IsOutside, IsSite, OpenedIsNotRefused, RefusesBytes}
use Rattle.ob_site_file.specs.declared.fault.LoadFault.{LoadFault}
use Rattle.ob_site_file.specs.declared.fault.LoadFault.TheVariants as faults
use Rattle.ob_site_laws.specs.SiteLaws.{acts}
use Rattle.ob_site_rules.specs.Sites.{SiteState}
use Rattle.ob_storm.specs.declared.totals.Totals.{Totals}
use Rattle.ob_storm.specs.Site.{site_text}
use Rattle.ob_storm.specs.Runs.{boot, totals}
use Rattle.ob_storm.specs.Lines.{lines}
use Rattle.ob_program.specs.Stdio.{site_bytes}
use Rattle.ob_program.specs.declared.exit.Exit.{Exit}
use Rattle.ob_program.specs.declared.exit.Exit.TheVariants as exits
use Rattle.ob_program.specs.declared.storm.StormEnd.{StormEnd}
use Rattle.ob_program.specs.declared.storm.StormEnd.TheVariants.{Done, WriteFault, Memory}
use Rattle.ob_program.specs.Storm.{IsOpened, asked_for, exit_of_storm, IsPrinted, StormComes, StormRan}
use Rattle.ob_program.specs.Telling.{ErrorsTold, Tells}
use Rattle.ob_program.proofs.StormOpens.{text_opens}

-- ---- the site

-- a file that never fails and bytes that aren't refused leave want of memory alone
only_memory : (fault : LoadFault) → IsOutside fault → (fault ≡ faults.Read → Rose 0 0) → fault ≡ faults.Memory
only_memory faults.Read outside rose = absurd (let no = rose refl in omega (arith, no))
only_memory faults.Memory outside rose = refl
only_memory (faults.Document x) outside rose = absurd outside
only_memory faults.RootHref outside rose = absurd outside
only_memory (faults.Href x) outside rose = absurd outside
only_memory (faults.Contract x) outside rose = absurd outside
only_memory (faults.PathTwice x) outside rose = absurd outside
only_memory (faults.Rule x) outside rose = absurd outside
only_memory faults.Size outside rose = absurd outside

module _ (law : OpenedIsNotRefused) where
  outside_alone : (text : List ℕ) (at : ℕ) (fault : LoadFault) → text ≡ site_text → IsOutside fault ⊎ RefusesBytes (site_bytes text) at fault → IsOutside fault
  outside_alone text at fault is (inl outside) = outside
  outside_alone text at fault is (inr refuses) = law (site_bytes site_text) text_opens at fault (subst (λ (t : List ℕ). RefusesBytes (site_bytes t) at fault) is refuses)

  pub unrefused : (result : Result Loaded LoadFault) (text : List ℕ) (at : ℕ) → text ≡ site_text → IfErr result (λ fault. IsOutside fault ⊎ RefusesBytes (site_bytes text) at fault)
      → (IsErrOf result faults.Read → Rose 0 0) → IfErr result (λ fault. fault ≡ faults.Memory)
  unrefused (Ok loaded) text at is refused rose = tt
  unrefused (Err fault) text at is refused rose = only_memory fault (outside_alone text at fault is refused) (λ e. rose (ap (λ f. Err f) e))

pub all_opened : (result : Result Loaded LoadFault) (text : List ℕ) (at : ℕ) → text ≡ site_text → at ≡ boot
    → IfOk result (λ loaded. IsSite (site_bytes text) at loaded.ns loaded.site) → IfOk result (λ loaded. IsOpened loaded.site)
all_opened (Ok l) text at text_is at_is opens =
    (l.ns, subst (λ (t : List ℕ). IsSite (site_bytes t) boot l.ns l.site) text_is (subst (λ (m : ℕ). IsSite (site_bytes text) m l.ns l.site) at_is opens))
all_opened (Err fault) text at text_is at_is opens = tt

-- what was counted was printed
pub comes_printed : (end : StormEnd) (asked : Storm) (opening : SiteState) (t : Totals) (held held' : Option (List ℕ)) → IsOpened opening → t ≡ totals acts (asked_for asked) opening
    → IsPrinted end (lines t) held held' → StormComes end asked held held'
comes_printed Done asked opening t held held' opened is printed = (opening, opened, subst (λ (u : Totals). Gains held (lines u) held') is printed)
comes_printed WriteFault asked opening t held held' opened is printed =
    (opening, opened, subst (λ (u : Totals). (written : List ℕ) × IsFront written (lines u) × Gains held written held') is printed)
comes_printed Memory asked opening t held held' opened is printed = printed

-- ---- the exit

write_failed : (end : StormEnd) → exit_of_storm end ≡ exits.WriteFault → end ≡ WriteFault
write_failed Done is = absurd (cc)
write_failed WriteFault is = refl
write_failed Memory is = absurd (cc)

ends_well : (end : StormEnd) (Rises : Type 0) → (end ≡ WriteFault → Rises) → ¬ Rises → (exit_of_storm end ≡ exits.Ok) ⊎ (exit_of_storm end ≡ exits.Memory)
ends_well Done Rises rose none = inl refl
ends_well WriteFault Rises rose none = absurd (none (rose refl))
ends_well Memory Rises rose none = inr refl

-- the storm came to this end, which is the exit
pub storm_ran : (asked : Storm) (held held' : Option (List ℕ)) (writes writes' : ℕ) (e e' : ErrorsTold) (end : StormEnd) (exit : Exit) → exit ≡ exit_of_storm end → StormComes end asked held held'
    → (end ≡ WriteFault → Rose writes writes') → Tells e e' exit [] → StormRan asked held held' writes writes' e e' exit
storm_ran asked held held' writes writes' e e' end exit is comes rose says = record {
  end = end;
  exit_is = is;
  comes = comes;
  write = λ ended. rose (write_failed end (sym is ∙ ended));
  says = says;
  complete = λ none. subst (λ (x : Exit). (x ≡ exits.Ok) ⊎ (x ≡ exits.Memory)) (sym is) (ends_well end (Rose writes writes') rose none);
}
