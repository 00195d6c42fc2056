-- Which own objects can be watched.
use Rattle.std.specs.Prelude.{Bool, false, ◌&&◌, Option, Some, None, is_some}
use Rattle.ob_object.specs.declared.head.Head.{Head}
use Rattle.ob_object.specs.Paths.{node_path}
use Rattle.ob_shown_laws.specs.Changed.{is_watchable}

-- an object, told by its head, that is a node and can be watched
abbrev pub can_be_watched : Option Head → Bool
can_be_watched None = false
can_be_watched (Some h) = is_some (node_path h) && is_watchable h
