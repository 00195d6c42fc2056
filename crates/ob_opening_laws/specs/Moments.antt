-- What a document opens at one moment and at another.
use Rattle.std.specs.Prelude.{◌≡◌, ℕ, Ok, Err}
use Rattle.ob_object.specs.Object.{Object}
use Rattle.ob_site_rules.specs.Sites.{SiteState}
use Rattle.ob_site_rules.specs.Loading.{LoadFault}
use Rattle.ob_site_rules.specs.Opening.{opening}

-- a state with this moment as its boot's, and this time
abbrev pub at_moment : (boot time : ℕ) → SiteState → SiteState
at_moment boot time st = record { plan = record st.plan { boot = boot }; world = record st.world { time = time } }

-- A document that opens a state at one moment opens it at every other one, but for the moment of the boot and the time.
abbrev pub OpensAtEach : Type 0
OpensAtEach = (root : Object) (boot : ℕ) (st : SiteState) → opening root boot ≡ Ok st → (other : ℕ) → (time : ℕ) × (opening root other ≡ Ok (at_moment other time st))

-- One that is refused at one moment is refused so at every other one.
abbrev pub RefusedAtEach : Type 0
RefusedAtEach = (root : Object) (boot : ℕ) (fault : LoadFault) → opening root boot ≡ Err fault → (other : ℕ) → opening root other ≡ Err fault
