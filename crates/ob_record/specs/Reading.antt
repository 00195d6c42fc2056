-- Reading the parts of an entry from left to right. That they are those of the grammar, and no others are, is proved.
use Rattle.std.specs.Prelude.{ℕ, ◌^◌, nat_lt, Bool, true, false, ◌&&◌, ◌==◌, not, if◌then◌else◌, List, [], ◌∷◌, length, take, drop, codes, Option, Some, None}
use Rattle.ob_spelling.specs.DigitRun.{digits_front, after_digits}
use Rattle.ob_spelling.specs.Numeral.{number}
use Rattle.ob_values.specs.declared.verb.Verb.{Verb}
use Rattle.ob_values.specs.declared.verb.Verb.TheVariants.{Get, Put, Post}
use Rattle.ob_record.specs.Parts.{Parts}

infixl 10 ◌>>=◌
abbrev pub ◌>>=◌ : {A B : Type 0} → Option A → (A → Option B) → Option B
(Some x) >>= f = f x
None >>= f = None

-- what follows a word
abbrev pub after : List ℕ → List ℕ → Option (List ℕ)
after [] bytes = Some bytes
after (w ∷ ws) [] = None
after (w ∷ ws) (b ∷ bs) = if w == b then after ws bs else None

-- digits without a leading zero
abbrev pub is_plain : List ℕ → Bool
is_plain [] = false
is_plain (d ∷ []) = true
is_plain (d ∷ e ∷ ds) = not (d == 48)

-- what follows a byte
abbrev pub behind : ℕ → List ℕ → Option (List ℕ)
behind end [] = None
behind end (b ∷ bytes) = if b == end then Some bytes else None

unfoldable pub number_at : ℕ → List ℕ → Option (ℕ × List ℕ)
number_at end bytes =
    if is_plain (digits_front bytes) && nat_lt (number (digits_front bytes)) (2 ^ 63)
    then (behind end (after_digits bytes) >>= λ rest. Some (number (digits_front bytes), rest)) else None

-- the number of the second line of a record
unfoldable pub boot_at : List ℕ → Option (ℕ × List ℕ)
boot_at bytes = after (codes "boot ") bytes >>= λ rest. number_at 10 rest

-- the first of two
abbrev pub or_else : {A : Type 0} → Option A → Option A → Option A
or_else (Some x) other = Some x
or_else None other = other

-- a value, and the rest where there is one
abbrev pub with_rest : {A : Type 0} → A → Option (List ℕ) → Option (A × List ℕ)
with_rest x None = None
with_rest x (Some rest) = Some (x, rest)

unfoldable pub verb_at : List ℕ → Option (Verb × List ℕ)
verb_at bytes = or_else (with_rest Get (after (codes "GET ") bytes)) (or_else (with_rest Put (after (codes "PUT ") bytes)) (with_rest Post (after (codes "POST ") bytes)))

unfoldable pub size_at : List ℕ → Option (Option ℕ × List ℕ)
size_at bytes = or_else (with_rest None (after (codes "-\n") bytes)) (number_at 10 bytes >>= λ n. Some (Some n.0, n.1))

abbrev pub bytes_at : ℕ → List ℕ → Option (List ℕ × List ℕ)
bytes_at len bytes = if nat_lt (length bytes) len then None else Some (take len bytes, drop len bytes)

unfoldable pub reply_at : Option ℕ → List ℕ → Option (Option (List ℕ) × List ℕ)
reply_at None bytes = Some (None, bytes)
reply_at (Some len) bytes = bytes_at len bytes >>= λ r. Some (Some r.0, r.1)

-- what stands behind the line of an entry
abbrev pub behind_line : ℕ → Verb → ℕ → ℕ → Option ℕ → List ℕ → Option (Parts × List ℕ)
behind_line moment verb target_len body_len size bytes = do
  target ← bytes_at target_len bytes
  body ← bytes_at body_len target.1
  reply ← reply_at size body.1
  Some (record { moment = moment; verb = verb; target = target.0; body = body.0; reply = reply.0 }, reply.1)

-- the parts of an entry, whose last line feed isn't read
unfoldable pub open_at : List ℕ → Option (Parts × List ℕ)
open_at bytes = do
  moment ← number_at 32 bytes
  verb ← verb_at moment.1
  target ← number_at 32 verb.1
  body ← number_at 32 target.1
  size ← size_at body.1
  behind_line moment.0 verb.0 target.0 body.0 size.0 size.1

unfoldable pub parts_at : List ℕ → Option (Parts × List ℕ)
parts_at bytes = do
  entry ← open_at bytes
  rest ← after (10 ∷ []) entry.1
  Some (entry.0, rest)

-- a block, where the line that stands first was read, if it is that of an opening
abbrev pub behind_boot : List ℕ → Option (ℕ × List ℕ) → Option ((Option ℕ × Parts) × List ℕ)
behind_boot bytes None = open_at bytes >>= λ entry. Some ((None, entry.0), entry.1)
behind_boot bytes (Some boot) = open_at boot.1 >>= λ entry. Some ((Some boot.0, entry.0), entry.1)

unfoldable pub block_at : List ℕ → Option ((Option ℕ × Parts) × List ℕ)
block_at bytes = behind_boot bytes (boot_at bytes)
