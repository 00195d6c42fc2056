use Rattle.std.proofs.Common.{◌≡◌, drop}
use Rattle.std.specs.Prelude.{find}
use Rattle.ob_contracts.specs.Inherit.{present}
use Rattle.ob_contracts.specs.Parts.{gives}
use Rattle.ob_contracts.specs.Places.{places_of, sources_of}
use Rattle.ob_contracts.proofs.lookup.Looked.first_giver.Given as goal

-- no source at a place before gives the part
abbrev pub invariant-loop-place : goal.invariant-loop-place
invariant-loop-place l =
    find (gives l.kind l.part) (present (drop l.place (places_of l.self.sources))) ≡ find (gives l.kind l.part) (sources_of l.self.sources)
