-- A method is a text that XML can carry.
use Rattle.std.proofs.Common.{◌<◌, ◌≤◌, ◌&&◌, IsTrue, IsUtf8, List, ℕ, All, arith, nat_le, nat_lt}
use Rattle.std.proofs.lemmas.Bool.Decides.{nat_tests}
use Rattle.std.proofs.lemmas.List.Elements.{All-weaker}
use Rattle.std.proofs.lemmas.List.Sums.{list_all-from_AllPass}
use Rattle.std.proofs.lemmas.Str.{IsUtf8-from_ascii}
use Rattle.std.proofs.lemmas.Str.Ascii.{IsAscii-from_all}
use Rattle.httparse.specs.Grammar.{IsToken, is_token_byte}
use Rattle.ob_values.specs.XmlText.{is_printable}

-- a byte of ASCII that is no control
abbrev IsPlain : ℕ → Type 0
IsPlain b = (32 ≤ b) × (b < 127)

token_plain : (b : ℕ) → IsTrue (is_token_byte b) → IsPlain b
unfolding is_token_byte
token_plain b token = (grind (arith, nat_tests), grind (arith, nat_tests))

all_plain : (bytes : List ℕ) → IsToken bytes → All IsPlain bytes
all_plain bytes token = All-weaker (λ b. IsTrue (is_token_byte b)) IsPlain token_plain bytes token.1

pub token_utf8 : (bytes : List ℕ) → IsToken bytes → IsUtf8 bytes
token_utf8 bytes token = IsUtf8-from_ascii bytes (IsAscii-from_all bytes (All-weaker IsPlain (λ b. b < 128) (λ b plain. omega (arith, plain.1)) bytes (all_plain bytes token)))

pub token_printable : (bytes : List ℕ) → IsToken bytes → IsTrue (is_printable bytes)
token_printable bytes token =
    list_all-from_AllPass (λ c. nat_le 32 c && nat_lt c 127) bytes (All-weaker IsPlain (λ b. IsTrue (nat_le 32 b && nat_lt b 127)) (λ b plain. grind (arith, nat_tests)) bytes (all_plain bytes token))
