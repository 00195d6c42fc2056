-- How a value of any kind is spelled, and the one text that is printed of it.
use Rattle.std.specs.Prelude.{◌≡◌, ℕ, ◌/◌, ◌%◌, List, FitsSigned}
use Rattle.std.specs.Int.{w64}
use Rattle.std.specs.Fmt.{signed_decimal}
use Rattle.ob_spelling.specs.White.{trim}
use Rattle.ob_values.specs.declared.value.Value.{Value}
use Rattle.ob_values.specs.declared.value.Value.TheVariants.{Bool as Truth, Int, Real, Str, Enum, Uri, Abstime, Reltime, Date, Time}
use Rattle.ob_values.specs.Truth.{IsTruth}
use Rattle.ob_values.specs.Integer.{IsInteger}
use Rattle.ob_values.specs.Decimal.{IsDecimal}
use Rattle.ob_values.specs.Real.{IsRealSpelled}
use Rattle.ob_values.specs.XmlText.{IsXmlText}
use Rattle.ob_times.specs.Civil.{IsDateSpelled}
use Rattle.ob_times.specs.Clock.{IsTimeSpelled}
use Rattle.ob_times.specs.InstantText.{IsInstantSpelled}
use Rattle.ob_times.specs.SpanText.{IsSpanSpelled}
use Rattle.ob_values.specs.Printed.{truth_text, real_text}
use Rattle.ob_times.specs.PrintedTimes.{civil_text, time_text, instant_text, span_text}

-- the bytes spell the value, whose variant is its kind; white space round them counts for texts alone
abbrev pub SpellsValue : List ℕ → Value → Type 0
SpellsValue bytes (Truth b) = IsTruth (trim bytes) b
SpellsValue bytes (Int z) = IsInteger (trim bytes) z × FitsSigned w64 z
SpellsValue bytes (Real z) = IsRealSpelled (trim bytes) z × IsDecimal z
SpellsValue bytes (Str text) = (bytes ≡ text) × IsXmlText bytes
SpellsValue bytes (Enum text) = (bytes ≡ text) × IsXmlText bytes
SpellsValue bytes (Uri text) = (bytes ≡ text) × IsXmlText bytes
SpellsValue bytes (Abstime a) = IsInstantSpelled (trim bytes) a
SpellsValue bytes (Reltime s) = IsSpanSpelled (trim bytes) s
SpellsValue bytes (Date d) = IsDateSpelled (trim bytes) d
SpellsValue bytes (Time n) = IsTimeSpelled (trim bytes) n

-- the text that is printed of the value
abbrev pub printed : Value → List ℕ
printed (Truth b) = truth_text b
printed (Int z) = signed_decimal z
printed (Real z) = real_text z
printed (Str text) = text
printed (Enum text) = text
printed (Uri text) = text
printed (Abstime a) = instant_text a
printed (Reltime s) = span_text s
printed (Date d) = civil_text d
printed (Time n) = time_text (n / 1_000_000_000) (n % 1_000_000_000)

-- a value of a kind other than the three whose values are texts of any length
abbrev pub HasPrinted : Value → Type 0
HasPrinted (Str text) = ⊥
HasPrinted (Enum text) = ⊥
HasPrinted (Uri text) = ⊥
HasPrinted value = Unit {0}
