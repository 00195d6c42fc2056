-- The words that say what is wrong with a command line.
use Rattle.std.specs.Prelude.{ℕ, ◌+◌, ◌/◌, ◌%◌, nat_le, nat_lt, ◌==◌, Bool, not, ◌&&◌, if◌then◌else◌, List, [], ◌∷◌, ◌++◌, length, take, codes, decimal}
use Rattle.ob_command.specs.Forms.{Asked, text, texts, number, url, place, asked_name}
use Rattle.ob_command.specs.Slips.{Slip, nothing, no_text, no_command, miscounted, no_option, no_value, twice, unfit}

-- ---- a user's word, of which a terminal takes nothing for an order to itself

-- a printable byte of ASCII, but for the `\` that others begin with
abbrev pub is_plain : ℕ → Bool
is_plain byte = nat_le 32 byte && (nat_le byte 126 && not (byte == 92))

abbrev pub hex_digit : ℕ → ℕ
hex_digit digit = if nat_lt digit 10 then 48 + digit else 55 + digit

-- `\xHH`, where a byte isn't plain
abbrev pub shown_byte : ℕ → List ℕ
shown_byte byte = if is_plain byte then byte ∷ [] else 92 ∷ 120 ∷ hex_digit (byte / 16) ∷ hex_digit (byte % 16) ∷ []

abbrev pub shown_bytes : List ℕ → List ℕ
shown_bytes [] = []
shown_bytes (byte ∷ bytes) = shown_byte byte ++ shown_bytes bytes

-- at most 60 bytes of it are shown
abbrev pub shown : List ℕ → List ℕ
shown word = if nat_le (length word) 60 then shown_bytes word else shown_bytes (take 60 word) ++ codes ".."

-- ---- the words of a slip

-- what is asked for
abbrev pub rule_words : Asked → List ℕ
rule_words (text name) = codes "text that XML can carry"
rule_words (texts name) = codes "text that XML can carry"
rule_words (number name least most) = decimal least ++ (codes " to " ++ decimal most)
rule_words (url name) = codes "an http URL without a fragment"
rule_words (place name) = codes "a place on the server of URL"

abbrev pub slip_words : Slip → List ℕ
slip_words nothing = codes "no command, obix help lists them"
slip_words (no_text word) = shown word ++ codes " isn't text that XML can carry"
slip_words (no_command word) = codes "no command " ++ shown word
slip_words (miscounted usage) = usage
slip_words (no_option command name) = command ++ (codes " has no option " ++ shown name)
slip_words (no_value name) = name ++ codes " has no value"
slip_words (twice name) = name ++ codes " stands twice"
slip_words (unfit asked word) = asked_name asked ++ (codes " " ++ (shown word ++ (codes " isn't " ++ rule_words asked)))
