-- Where an object stands among all that is shown, as far as it decides what the object inherits, and what the object
-- comes to there. Source: oBIX 1.1, chapter 7 (Contracts).
use Rattle.std.specs.Prelude.{ℕ, List, Option, None}
use Rattle.ob_object.specs.declared.head.Head.{Head}
use Rattle.ob_object.specs.Object.{Object}
use Rattle.ob_contracts.specs.Inherit.{Words, Contracts, sources, overridden, implied_by, inherited_head, effective_of}

-- the library, the words that the object's list or feed gives to it, and the child that it overrides
pub record Context : Type 0 where
  pub library : Contracts
  pub implied : Option Words
  pub over : Option Object

-- what an object hands down to its own children: the library, the words for those that have none, and its sources
pub record HandedDown : Type 0 where
  pub library : Contracts
  pub implied : Option Words
  pub sources : List Object

-- the root stands in no list and overrides nothing
abbrev pub at_root : Contracts → Context
at_root lib = record { library = lib; implied = None; over = None }

abbrev pub sources_in : Context → Head → List Object
sources_in c h = sources c.library h c.implied c.over

abbrev pub handed_down : Context → Head → HandedDown
handed_down c h = record {
  library = c.library;
  implied = implied_by (inherited_head h (sources_in c h));
  sources = sources_in c h;
}

-- where an own child of this name stands: it overrides the child of that name in the first source that has one
abbrev pub under : HandedDown → Option (List ℕ) → Context
under r name = record { library = r.library; implied = r.implied; over = overridden name r.sources }

-- what an object comes to where it stands
abbrev pub comes_to : Context → Object → Object
comes_to c o = effective_of c.library o c.implied c.over
