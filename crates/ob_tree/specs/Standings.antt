-- Where an object stands, and what it hands down, as the definitions have it.
use Rattle.std.specs.Prelude.{◌≡◌, ℕ, List, Option, Some, None}
use Rattle.std.specs.Option.{option_copied}
use Rattle.ob_contracts.specs.Found.{found}
use Rattle.ob_object.specs.declared.head.Head.{Head}
use Rattle.ob_contracts.specs.Inherit.{overridden}
use Rattle.ob_contracts.specs.Tellers.{Telling, TellsIn}
use Rattle.ob_tree.specs.declared.handed.Handed.{Handed}
use Rattle.ob_tree.specs.declared.instead.Instead.{Instead}
use Rattle.ob_tree.specs.declared.standing.Standing.{Standing}
use Rattle.ob_tree.specs.Contexts.{Context, HandedDown, handed_down}

abbrev pub context : Standing → Context
context s = record { library = s.library.now; implied = option_copied s.implied; over = option_copied s.over }

-- this is what is handed down: the library, the words, and the child of each name in the first source that has one
pub record Hands (r : HandedDown) (h : Handed) : Type 0 where
  pub library : h.library.now ≡ r.library
  pub implied : option_copied h.implied ≡ r.implied
  pub over : (n : List ℕ) → found h.over n ≡ overridden (Some n) r.sources

-- what is told in place of an object's own `is`, and in place of the words that it gives to its children
abbrev pub is_of : Option Instead → Option Telling
is_of None = None
is_of (Some i) = i.is

abbrev pub items_of : Option Instead → Option Telling
items_of None = None
items_of (Some i) = i.items

-- where something is told for an object of this head in this context, it may be looked up in place of these
pub record MayStand (c : Context) (h : Head) (i : Option Instead) : Type 0 where
  pub is : TellsIn c.library (is_of i) h.is
  pub items : TellsIn c.library (items_of i) (handed_down c h).implied
