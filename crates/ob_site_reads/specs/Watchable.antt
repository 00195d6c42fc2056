-- Which own objects a watch can be told of.
use Rattle.std.specs.Prelude.{◌≡◌, ℕ, true, Some}
use Rattle.ob_object.specs.declared.head.Head.{Head}
use Rattle.ob_object.specs.Object.{Object}
use Rattle.ob_shown_laws.specs.Changed.{is_watchable}
use Rattle.ob_tree.specs.Laid.{head_at}

-- the object of a number is no feed and no err
abbrev pub IsWatchableAt : ℕ → Object → Type 0
IsWatchableAt n root = (h : Head) → head_at n root ≡ Some h → is_watchable h ≡ true
