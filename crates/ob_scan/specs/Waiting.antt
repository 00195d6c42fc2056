-- What a construct that isn't whole waits for: the bytes behind which it is still not whole.
use Rattle.std.specs.Prelude.{◌≡◌, ℕ, ◌<◌, Bool, true, false, ◌&&◌, ◌==◌, List, [], ◌∷◌, ◌++◌, length, Option, Some, None, Result, Ok, Err, is_some, if◌then◌else◌, codes}
use Rattle.ob_scan.specs.declared.stop.Stop.{Stop}
use Rattle.ob_scan.specs.declared.stop.Stop.TheVariants.{Want, Malformed}
use Rattle.ob_scan.specs.declared.character.Progress.{Progress}
use Rattle.ob_scan.specs.declared.piece.Place.{Place}
use Rattle.ob_scan.specs.declared.piece.Place.TheVariants.{Start, Marked, Between, InTag, After}
use Rattle.ob_scan.specs.declared.piece.Found.{Found}
use Rattle.ob_scan.specs.declared.piece.Found.TheVariants as finds
use Rattle.ob_scan.specs.declared.piece.ScanFault.{ScanFault}
use Rattle.ob_scan.specs.declared.wait.Wait.{Wait}
use Rattle.ob_scan.specs.declared.wait.Wait.TheVariants.{Next, Spaces, Run, Pair}
use Rattle.ob_scan.specs.Characters.{after_byte}
use Rattle.ob_scan.specs.Reading.{◌>>=◌, is_space, is_whole, ends_at, literal, spaces}
use Rattle.ob_scan.specs.Constructs.{then_read, more, scan, value_at, mark_at, declares}

abbrev pub waits_on : Result Progress Stop → (Progress → Wait) → Option Wait
waits_on (Ok progress) wait = Some (wait progress)
waits_on (Err e) wait = None

-- what is waited for behind one more byte; nothing where that byte may decide
abbrev pub after_wait : Wait → ℕ → Option Wait
after_wait Next b = None
after_wait Spaces b = if is_space b then Some Spaces else None
after_wait (Run ends progress) b = if is_whole progress && ends_at ends b then None else waits_on (after_byte progress b) (λ p. Run ends p)
after_wait (Pair first second seen progress) b = if seen && b == second then None else waits_on (after_byte progress b) (λ p. Pair first second (b == first) p)

abbrev pub after_all : Wait → List ℕ → Option Wait
after_all wait [] = Some wait
after_all wait (b ∷ bytes) = then_read (after_wait wait b) (λ next. after_all next bytes)

-- behind bytes none of which decides, the construct at the place is still not whole
abbrev pub IsWaiting : Place → List ℕ → Wait → Type 0
IsWaiting place bytes wait = (tail : List ℕ) → is_some (after_all wait tail) ≡ true → scan place false (bytes ++ tail) ≡ more

-- what is told to be waited for is
abbrev pub WaitsOn : Place → List ℕ → Result Found ScanFault → Type 0
WaitsOn place bytes (Ok (finds.Piece piece first next)) = Unit {0}
WaitsOn place bytes (Ok (finds.More wait)) = IsWaiting place bytes wait
WaitsOn place bytes (Err fault) = Unit {0}

-- behind the bytes and others none of which decides, they still end inside what is read
abbrev pub Wants : {A : Type 0} → (List ℕ → Result A Stop) → List ℕ → Wait → Type 0
Wants read bytes wait = (tail : List ℕ) → is_some (after_all wait tail) ≡ true → read (bytes ++ tail) ≡ Err Want

-- what stands behind the name of an attribute
unfoldable pub behind_name : List ℕ → List ℕ → Result ((List ℕ × List ℕ) × List ℕ) Stop
behind_name name bytes = do
  before ← spaces bytes
  behind ← literal (codes "=") before
  quoted ← spaces behind
  value ← value_at quoted
  Ok ((name, value.0), value.1)

-- where the answer is true, no EF BB BF and no declaration begins at the place, and there are bytes behind the element
abbrev pub IsOutside : Place → List ℕ → Bool → Type 0
IsOutside Start bytes answer = answer ≡ true → (Err Malformed ≡ mark_at bytes) × (Err Malformed ≡ declares bytes)
IsOutside Marked bytes answer = answer ≡ true → Err Malformed ≡ declares bytes
IsOutside Between bytes answer = Unit {0}
IsOutside InTag bytes answer = answer ≡ false
IsOutside After bytes answer = answer ≡ true → 0 < length bytes
