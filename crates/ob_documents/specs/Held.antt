-- What a program can hold as an object, beside what a document can carry.
use Rattle.std.specs.Prelude.{ℕ, suc, ◌<◌}
use Rattle.ob_object.specs.Object.{Objects, none, node, Object}
use Rattle.ob_object.specs.WellFormed.{IsWellFormed}
use Rattle.ob_documents.specs.Carried.{IsHeadCarried}

-- objects, at whatever depth, whose texts and values a document can carry
abbrev pub IsRowHeld : Objects → Type 0
IsRowHeld none = Unit {0}
IsRowHeld (node h below rest) = IsHeadCarried h × IsRowHeld below × IsRowHeld rest

-- all that a document asks of an object but how deep it is
pub record IsHeld (o : Object) : Type 0 where
  pub well_formed : IsWellFormed o
  pub head : IsHeadCarried o.head
  pub row : IsRowHeld o.inner

-- objects that stand in so many others, and none in them in 32
abbrev pub IsShallow : ℕ → Objects → Type 0
IsShallow level none = Unit {0}
IsShallow level (node h below rest) = (level < 32) × IsShallow (suc level) below × IsShallow level rest
