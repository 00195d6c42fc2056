-- The names of upstreams in hand.
use Rattle.std.specs.Prelude.{Bool, true, false, cond, bytes_eq, List, [], ◌∷◌, map}
use Rattle.ob_watching.specs.Tables.{is_among}
use Rattle.ob_watching.specs.WatchOuts.{Text}
use Rattle.ob_super.specs.declared.upstream.Followed.{Followed}

-- no text stands twice
abbrev pub are_apart : List Text → Bool
are_apart [] = true
are_apart (t ∷ ts) = cond (is_among bytes_eq ts t) false (are_apart ts)

abbrev pub names : {L : Type 0} → List (Followed L) → List Text
names all = map (λ f. f.upstream.name) all
