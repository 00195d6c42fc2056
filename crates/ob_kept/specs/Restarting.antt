-- What a restart with a RECORD is.
use Rattle.std.specs.Prelude.{ℕ, List, Option}
use Rattle.ob_load.specs.Loads.{IsSite}
use Rattle.ob_site_rules.specs.Sites.{SiteState}
use Rattle.ob_site_lasting.specs.SiteLasting.{IsSiteRestartOf, IsSiteHistory, Run, KeepsNumbers, EachRunKeepsWatches, GoneOverRestarts}

-- the bytes of the site file open this state at a moment
abbrev pub OpensAt : List ℕ → ℕ → SiteState → Type 0
OpensAt site boot opening = (ns : Option (List ℕ)) × IsSite site boot ns opening

-- The site of a file goes on from a new state: with all that lasts of the old one and without watches. Where nothing has come to
-- last since the file was opened, it is opened anew, at another moment.
pub data IsRestartOf (site : List ℕ) (old new : SiteState) : Type 0 where
  lasted : IsSiteRestartOf old new → IsRestartOf site old new
  opened_anew : (boot moment : ℕ) → (opening : SiteState) → OpensAt site boot opening → IsSiteRestartOf old opening → OpensAt site moment new → IsRestartOf site old new

-- runs of the site of a file, one after the other
abbrev pub IsHistory : List ℕ → List Run → Type 0
IsHistory site = IsSiteHistory (IsRestartOf site)

-- A restart of a sound state is sound, no watch stands in it, and it gives no number again: so the laws of watches hold of each
-- such history (ob_site_lasting).
abbrev pub RestartsKeepNumbers : Type 0
RestartsKeepNumbers = (site : List ℕ) → KeepsNumbers (IsRestartOf site)

-- in each run that begins in a sound state
abbrev pub EachRunKeeps : Type 0
EachRunKeeps = (site : List ℕ) → EachRunKeepsWatches (IsRestartOf site)

-- and a watch that was made in some run is gone in every later one
abbrev pub GoneLater : ℕ → Type 0
GoneLater n = (site : List ℕ) → GoneOverRestarts (IsRestartOf site) n
