-- The bytes of characters are read as characters.
use Rattle.std.proofs.Common.{◌≡◌, ℕ, ◌≤◌, List, [], ◌∷◌, ◌++◌, Ok, refl, sym, subst, arith}
use Rattle.std.specs.Char.{encode_utf8}
use Rattle.std.specs.Str.{encode_utf8_all}
use Rattle.std.specs.List.{AllByRecursion}
use Rattle.std.proofs.lemmas.Bool.Decides.{nat_tests}
use Rattle.ob_values.specs.XmlText.{IsXmlChar, IsXmlText}
use Rattle.ob_scan.specs.declared.character.Progress.{Progress}
use Rattle.ob_scan.specs.declared.character.Progress.TheVariants.{Whole}
use Rattle.ob_scan.specs.Characters.{after_byte}
use Rattle.ob_documents.proofs.Characters.{Walk, Sort, tab, line_feed, return, quote, ampersand, less_than, plain, wide, sort_of}
use Rattle.ob_markup.proofs.Walks.{Chars}

walk_chars : (p : Progress) (bytes more : List ℕ) → Walk p bytes → Chars Whole more → Chars p (bytes ++ more)
walk_chars p [] more w h = absurd w
walk_chars p (b ∷ []) more w h = (Whole, w, h)
walk_chars p (b ∷ (c ∷ bytes)) more w h = (w.0, w.2, walk_chars w.0 (c ∷ bytes) more w.3 h)

plain_byte : (c : ℕ) → 0x20 ≤ c → c ≤ 0x7F → after_byte Whole c ≡ Ok Whole
plain_byte c h k = grind (arith, nat_tests)

at_front : (c : ℕ) (front more : List ℕ) → encode_utf8 c ≡ front → Chars Whole (front ++ more) → Chars Whole (encode_utf8 c ++ more)
at_front c front more e h = subst (λ (xs : List ℕ). Chars Whole (xs ++ more)) (sym e) h

sort_chars : (c : ℕ) (more : List ℕ) → Sort c → Chars Whole more → Chars Whole (encode_utf8 c ++ more)
unfolding encode_utf8
sort_chars c more tab h = (Whole, refl, h)
sort_chars c more line_feed h = (Whole, refl, h)
sort_chars c more return h = (Whole, refl, h)
sort_chars c more quote h = (Whole, refl, h)
sort_chars c more ampersand h = (Whole, refl, h)
sort_chars c more less_than h = (Whole, refl, h)
sort_chars c more (plain d p) h = at_front d (d ∷ []) more p.one (Whole, plain_byte d p.least p.most, h)
sort_chars c more (wide d w) h = at_front d (w.first ∷ w.more) more w.bytes (walk_chars Whole (w.first ∷ w.more) more w.walk h)

all_chars : (cs : List ℕ) → AllByRecursion IsXmlChar cs → Chars Whole (encode_utf8_all cs)
all_chars [] h = refl
all_chars (c ∷ cs) h = sort_chars c (encode_utf8_all cs) (sort_of c h.0) (all_chars cs h.1)

pub text_chars : (bytes : List ℕ) → IsXmlText bytes → Chars Whole bytes
text_chars bytes t = subst (Chars Whole) t.2 (all_chars t.0 t.1)
