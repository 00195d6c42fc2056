-- What a storm comes to.
use Rattle.std.specs.Prelude.{◌≡◌, ◌⊎◌, ℕ, List, [], Option}
use Rattle.ob_command.specs.Storm.{Storm}
use Rattle.ob_io.specs.Faults.{Rose}
use Rattle.ob_io.specs.Told.{Gains, IsFront}
use Rattle.ob_load.specs.Loads.{IsSite}
use Rattle.ob_site_laws.specs.SiteLaws.{acts}
use Rattle.ob_site_rules.specs.Sites.{SiteState}
use Rattle.ob_storm.specs.declared.storm.Storm as storms
use Rattle.ob_storm.specs.Site.{site_text}
use Rattle.ob_storm.specs.Runs.{boot, totals}
use Rattle.ob_storm.specs.Lines.{lines}
use Rattle.ob_program.specs.Stdio.{site_bytes}
use Rattle.ob_program.specs.Telling.{ErrorsTold, Tells}
use Rattle.ob_program.specs.declared.exit.Exit.{Exit}
use Rattle.ob_program.specs.declared.exit.Exit.TheVariants as exits
use Rattle.ob_program.specs.declared.storm.StormEnd.{StormEnd}
use Rattle.ob_program.specs.declared.storm.StormEnd.TheVariants.{Done, WriteFault, Memory}

abbrev pub exit_of_storm : StormEnd → Exit
exit_of_storm Done = exits.Ok
exit_of_storm WriteFault = exits.WriteFault
exit_of_storm Memory = exits.Memory

-- the storm that is asked for
abbrev pub asked_for : Storm → storms.Storm
asked_for asked = record { seed = asked.seed; clients = asked.clients; requests = asked.requests }

-- the state that the definition of the opening gives for the text of the storm's site
abbrev pub IsOpened : SiteState → Type 0
IsOpened opening = (ns : Option (List ℕ)) × IsSite (site_bytes site_text) boot ns opening

-- what is printed of a storm from a state on: the counts in the replies that the site's own step gives
abbrev pub lines_from : Storm → SiteState → List ℕ
lines_from asked opening = lines (totals acts (asked_for asked) opening)

-- All these lines were written, or a front of them, or nothing.
abbrev pub IsPrinted : StormEnd → List ℕ → (held held' : Option (List ℕ)) → Type 0
IsPrinted Done text held held' = Gains held text held'
IsPrinted WriteFault text held held' = (written : List ℕ) × IsFront written text × Gains held written held'
IsPrinted Memory text held held' = held' ≡ held

-- What an end says: all lines were written, or a front of them, or nothing.
abbrev pub StormComes : StormEnd → Storm → (held held' : Option (List ℕ)) → Type 0
StormComes Done asked held held' = (opening : SiteState) × IsOpened opening × Gains held (lines_from asked opening) held'
StormComes WriteFault asked held held' =
    (opening : SiteState) × IsOpened opening × ((written : List ℕ) × IsFront written (lines_from asked opening) × Gains held written held')
StormComes Memory asked held held' = held' ≡ held

-- The storm came to some end, which is the exit. With status 0 each request had its reply, and the lines are those of the replies
-- that the site's step gives one after the other, from the state that the text of the site opens. A write fault has its cause in
-- the count. So where that didn't rise, the lines are written, or memory was wanting. The end is told on `errors`, without words.
pub record StormRan (asked : Storm) (held held' : Option (List ℕ)) (writes writes' : ℕ) (e e' : ErrorsTold) (exit : Exit) : Type 0 where
  pub end : StormEnd
  pub exit_is : exit ≡ exit_of_storm end
  pub comes : StormComes end asked held held'
  pub write : exit ≡ exits.WriteFault → Rose writes writes'
  pub complete : ¬ (Rose writes writes') → (exit ≡ exits.Ok) ⊎ (exit ≡ exits.Memory)
  pub says : Tells e e' exit []
