-- A text of XML characters is refused by no reader of texts.
use Rattle.std.proofs.Common.{◌≡◌, ℕ, Bool, true, ◌&&◌, List, [], ◌∷◌, ◌++◌, refl, sym, ap, ◌∙◌}
use Rattle.std.specs.Prelude.{IsUtf8, encode_utf8}
use Rattle.std.specs.List.{AllByRecursion}
use Rattle.std.proofs.Math.Utf8.{scalars}
use Rattle.ob_values.specs.XmlText.{IsXmlChar, IsXmlText, IsFirstBad}
use Rattle.ob_server.proofs.SortLemmas.{scalar_char, has_char}

-- it is UTF-8
pub text_is_utf8 : (bytes : List ℕ) → IsXmlText bytes → IsUtf8 bytes
text_is_utf8 bytes (cs, good, are) = (cs, (all cs good, are))
  where
    both : (a b : Bool) → a ≡ true → b ≡ true → (a && b) ≡ true
    both a b x y = rw (x, y) refl

    all : (ds : List ℕ) → AllByRecursion IsXmlChar ds → scalars ds ≡ true
    all [] h = refl
    all (d ∷ ds) h = both _ _ (scalar_char d h.0) (all ds h.1)

-- it has no character that XML can't carry
pub text_has_no_bad : (bytes : List ℕ) (at : ℕ) → IsXmlText bytes → IsFirstBad bytes at → ⊥
text_has_no_bad bytes at (cs, good, are) bad =
    bad.not_xml (has_char bad.good_front.0 cs bad.rest bad.bad
    (are ∙ bad.bytes_are ∙ ap (λ (l : List ℕ). l ++ (encode_utf8 bad.bad ++ bad.rest)) (sym bad.good_front.2)) good)
