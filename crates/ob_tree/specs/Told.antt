-- Words that are looked up in place of those which the objects of a tree name, and of those which its lists and feeds give.
use Rattle.std.specs.Prelude.{◌≡◌, ℕ, Option, Some, None}
use Rattle.std.specs.Ordering.{nat_cmp}
use Rattle.std.specs.BTreeMap.{BTreeMap, get}
use denote.Ref.{Bor}
use Rattle.ob_object.specs.declared.head.Head.{Head}
use Rattle.ob_object.specs.Object.{Object}
use Rattle.ob_contracts.specs.Inherit.{Contracts}
use Rattle.ob_tree.specs.declared.instead.Instead.{Instead}
use Rattle.ob_tree.specs.Contexts.{Context}
use Rattle.ob_tree.specs.Standings.{MayStand}
use Rattle.ob_tree.specs.Laid.{head_at}
use Rattle.ob_tree.specs.Shown.{standing_at}

-- words, where they are told for the object of a number, stand for its own and for those that it gives to its children where it
-- stands
abbrev pub IsToldAt : Contracts → Object → ℕ → Option Instead → Type 0
IsToldAt lib o n told = (c : Context) (h : Head) → Some c ≡ standing_at lib n o → head_at n o ≡ Some h → MayStand c h told

-- so for each object
abbrev pub AreToldBy : Contracts → Object → (ℕ → Option Instead) → Type 0
AreToldBy lib o told = (n : ℕ) → IsToldAt lib o n (told n)

-- the words of a number, where some are lent
abbrev pub words_for : Option (Bor (BTreeMap ℕ Instead)) → ℕ → Option Instead
words_for None n = None
words_for (Some told) n = get nat_cmp told.now n
