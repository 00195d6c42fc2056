-- The replies that a mirror takes: a WatchOut of entries with an href, each once. Source: oBIX 1.1, chapter 12 (Watches).
use Rattle.std.specs.Prelude.{Bool, true, cond, not, ◌&&◌, List, [], ◌∷◌, map, Option, Some, None, unwrap_or, option_and_then}
use Rattle.std.specs.Str.{bytes_eq}
use Rattle.ob_object.specs.declared.kind.Kind.TheVariants as kind
use Rattle.ob_object.specs.Object.{Object}
use Rattle.ob_watching.specs.Tables.{is_among}
use Rattle.ob_watching.specs.WatchOuts.{Text, is_of_kind, entries_of}

abbrev pub is_feed : Object → Bool
is_feed o = is_of_kind kind.Feed o

abbrev pub is_err : Object → Bool
is_err o = is_of_kind kind.Err o

-- the text under which an entry stands
abbrev pub text_of : Object → Text
text_of o = unwrap_or o.head.href []

-- no text stands twice
abbrev pub each_once : List Text → Bool
each_once [] = true
each_once (t ∷ ts) = not (is_among bytes_eq ts t) && each_once ts

abbrev pub if_once : List Object → Option (List Object)
if_once os = cond (each_once (map text_of os)) (Some os) None

-- the entries of a WatchOut whose hrefs differ
abbrev pub entries_once : Object → Option (List Object)
entries_once reply = option_and_then if_once (entries_of reply)
