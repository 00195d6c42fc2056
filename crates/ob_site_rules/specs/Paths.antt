-- The paths that a site computes. Source: oBIX 1.1, chapters 5 (Lobby) and 12 to 15; which paths are computed is this profile's own.
use Rattle.std.specs.Prelude.{ℕ, ◌+◌, ◌-◌, ◌*◌, ◌^◌, Bool, false, cond, ◌&&◌, ◌==◌, nat_le, codes, [], ◌∷◌, ◌++◌, length, decimal, Option, Some, None, option_and_then}
use Rattle.std.specs.Str.{bytes_eq}
use Rattle.ob_alarms.specs.AlarmObjects.{alarm_path}
use Rattle.ob_site_rules.specs.Build.{Text, Path}
use Rattle.ob_site_rules.specs.declared.plan.Plan.{Plan}
use Rattle.ob_site_rules.specs.State.{at}
use Rattle.ob_site_rules.specs.declared.watch_part.WatchPart.{WatchPart}
use Rattle.ob_site_rules.specs.declared.watch_part.WatchPart.TheVariants.{Whole, Lease, Add, Remove, PollChanges, PollRefresh, Delete}

-- whether a path ends with a slash
abbrev pub ends_with_slash : Path → Bool
ends_with_slash [] = false
ends_with_slash (c ∷ []) = c == 47
ends_with_slash (c ∷ d ∷ cs) = ends_with_slash (d ∷ cs)

-- the path of a derived child of this name: the parent's path, with a slash behind it, and the name
abbrev pub below : Path → Text → Path
below p name = cond (ends_with_slash p) p (p ++ 47 ∷ []) ++ name

-- the path of About
abbrev pub about_path : Plan → Path
about_path plan = plan.root ++ codes "about"

-- the path of the op `batch`
abbrev pub batch_path : Plan → Path
batch_path plan = plan.root ++ codes "batch"

-- the path of the watch service
abbrev pub service_path : Plan → Path
service_path plan = plan.root ++ codes "watchService"

-- the path of the op `make`
abbrev pub make_path : Plan → Path
make_path plan = plan.root ++ codes "watchService/make"

-- the path of the watch of a number
abbrev pub watch_path : Plan → ℕ → Path
watch_path plan n = plan.root ++ codes "watch/" ++ decimal n ++ 47 ∷ []

-- the path of the op `ack` of the alarm of a number
abbrev pub ack_path : Plan → ℕ → Path
ack_path plan n = alarm_path plan.root n ++ codes "ack"

-- the part that stands under this text behind the path of its watch
abbrev pub part_named : Text → Option WatchPart
part_named t = at t (
    ([], Whole)
    ∷ (codes "lease", Lease)
    ∷ (codes "add", Add)
    ∷ (codes "remove", Remove)
    ∷ (codes "pollChanges", PollChanges)
    ∷ (codes "pollRefresh", PollRefresh)
    ∷ (codes "delete", Delete)
    ∷ []
    )

-- what is behind a beginning, if a text begins so
abbrev pub behind : Text → Text → Option Text
behind [] t = Some t
behind (a ∷ front) [] = None
behind (a ∷ front) (b ∷ t) = cond (a == b) (behind front t) None

-- a text up to its first slash, and what is behind it
abbrev pub before_slash : Text → Text
before_slash [] = []
before_slash (c ∷ cs) = cond (c == 47) [] (c ∷ before_slash cs)

-- what is behind a text's first slash, if it has one
abbrev pub behind_slash : Text → Option Text
behind_slash [] = None
behind_slash (c ∷ cs) = cond (c == 47) (Some cs) (behind_slash cs)

-- the number that digits write
abbrev pub digits_number : Text → ℕ
digits_number [] = 0
digits_number (c ∷ cs) = (c - 48) * 10 ^ length cs + digits_number cs

-- a number from 1 on, if a text is its one spelling
abbrev pub number_spelled : Text → Option ℕ
number_spelled t = cond (bytes_eq (decimal (digits_number t)) t && nat_le 1 (digits_number t)) (Some (digits_number t)) None

-- two things together, if both are there
abbrev pub both : {A B : Type 0} → Option A → Option B → Option (A × B)
both None b = None
both (Some a) None = None
both (Some a) (Some b) = Some (a, b)

-- the number of a watch and its part, if a path is of that form
abbrev pub watch_part : Plan → Path → Option (ℕ × WatchPart)
watch_part plan path =
    option_and_then (λ t. both (number_spelled (before_slash t)) (option_and_then part_named (behind_slash t))) (behind (plan.root ++ codes "watch/") path)
