-- What the words behind the command are: operands, and options with their values.
use Rattle.std.specs.Prelude.{ℕ, ◌==◌, nat_lt, Bool, true, false, if◌then◌else◌, List, [], ◌∷◌, map, length, codes, bytes_eq, Option, Some, None}
use Rattle.std.specs.List.{list_any, list_all, position_or_len, before_first, after_first}

pub data Argument : Type 0 where
  operand : List ℕ → Argument
  -- the option of a name, with its value
  option : List ℕ → List ℕ → Argument
  -- an option without a value
  bare : List ℕ → Argument

-- before `--` a word that begins with `-` is an option
abbrev pub is_option : List ℕ → Bool
is_option [] = false
is_option (b ∷ bytes) = b == 45

-- `--x=V`: the name before the first `=`, and the value behind it
abbrev pub name_and_value : List ℕ → Option (List ℕ × List ℕ)
name_and_value word =
    if nat_lt (position_or_len (λ b. b == 61) word) (length word)
    then Some (before_first (λ b. b == 61) word, after_first (λ b. b == 61) word)
    else None

-- `--x V`: the value is the next word, which is no option
abbrev pub with_next : List ℕ → List (List ℕ) → (more behind : List Argument) → List Argument
with_next name [] more behind = bare name ∷ more
with_next name (value ∷ rest) more behind = if is_option value then bare name ∷ more else option name value ∷ behind

abbrev pub with_option : List ℕ → Option (List ℕ × List ℕ) → List (List ℕ) → (more behind : List Argument) → List Argument
with_option word (Some x) rest more behind = option x.0 x.1 ∷ more
with_option word None rest more behind = with_next word rest more behind

-- a word with the rest behind it, of which `more` is all, and `behind` all but the first word; `--` ends the options
abbrev pub with_word : List ℕ → List (List ℕ) → (more behind : List Argument) → List Argument
with_word word rest more behind =
    if bytes_eq word (codes "--") then map operand rest
    else (if is_option word then with_option word (name_and_value word) rest more behind else operand word ∷ more)

-- the arguments that the words are
abbrev pub arguments : List (List ℕ) → List Argument
arguments [] = []
arguments (word ∷ []) = with_word word [] [] []
arguments (word ∷ (next ∷ rest)) = with_word word (next ∷ rest) (arguments (next ∷ rest)) (arguments rest)

-- the operands among the arguments
abbrev pub operands : List Argument → List (List ℕ)
operands [] = []
operands (operand word ∷ rest) = word ∷ operands rest
operands (option name value ∷ rest) = operands rest
operands (bare name ∷ rest) = operands rest

-- the values of the options of a name among the arguments
abbrev pub values : List ℕ → List Argument → List (List ℕ)
values name [] = []
values name (operand word ∷ rest) = values name rest
values name (option other value ∷ rest) = if bytes_eq other name then value ∷ values name rest else values name rest
values name (bare other ∷ rest) = values name rest

-- an operand, or an option of one of these names with its value
abbrev pub is_allowed : List (List ℕ) → Argument → Bool
is_allowed names (operand word) = true
is_allowed names (option name value) = list_any (λ other. bytes_eq other name) names
is_allowed names (bare name) = false

-- there is no option but those of these names, and each has a value
abbrev pub has_only : List (List ℕ) → List Argument → Bool
has_only names arguments = list_all (is_allowed names) arguments
