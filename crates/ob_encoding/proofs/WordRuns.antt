-- The words of a text, character by character.
use Rattle.std.proofs.Common.{◌≡◌, ℕ, ◌+◌, ◌*◌, ◌/◌, ◌%◌, ◌<◌, ◌≤◌, Bool, true, false, ◌&&◌, ◌||◌, not, cond, eqb, suc, zero, List, [], ◌∷◌, ◌++◌, length, take, drop, get_or, ◌⊎◌, inl, inr, refl, sym, ap, subst, ◌∙◌, append_assoc, arith}
use Rattle.std.specs.Char.{encode_utf8}
use Rattle.std.specs.Str.{IsUtf8, chars, encode_utf8_all}
use Rattle.std.specs.List.{AllByRecursion, list_all}
use Rattle.std.proofs.lemmas.Str.{chars-encodes, encodes-append}
use Rattle.std.proofs.lemmas.List.{append-nil}
use Rattle.std.proofs.lemmas.List.Folds.{list_all-append}
use Rattle.std.proofs.lemmas.Bool.Decides.{nat_tests}
use Rattle.std.proofs.lemmas.Grind.{common_steps}
use lib.Utf8.{scalar, scalars}
use Rattle.ob_values.specs.XmlText.{IsXmlChar, IsXmlText}
use Rattle.ob_values.proofs.Lists.{all_both}
use Rattle.ob_object.specs.Words.{is_white}
use Rattle.ob_encoding.specs.WordLists.{is_blank, ended, words_from, words_of}

pub xml_scalar : (c : ℕ) → IsXmlChar c → scalar c ≡ true
xml_scalar c (inl h) = grind (arith, nat_tests)
xml_scalar c (inr (inl h)) = grind (arith, nat_tests)
xml_scalar c (inr (inr (inl h))) = grind (arith, nat_tests)
xml_scalar c (inr (inr (inr (inl h)))) = let p = h.0 in let q = h.1 in grind (arith, nat_tests)
xml_scalar c (inr (inr (inr (inr (inl h))))) = let p = h.0 in let q = h.1 in grind (arith, nat_tests)
xml_scalar c (inr (inr (inr (inr (inr h))))) = let p = h.0 in let q = h.1 in grind (arith, nat_tests)

pub all_scalar : (cs : List ℕ) → AllByRecursion IsXmlChar cs → scalars cs ≡ true
all_scalar [] h = refl
all_scalar (c ∷ cs) h = rw (xml_scalar c h.0, all_scalar cs h.1) refl

pub chars_xml : (text : List ℕ) → IsXmlText text → AllByRecursion IsXmlChar (chars text)
chars_xml text h =
    let same : chars text ≡ h.0 = ap chars (sym h.2) ∙ chars-encodes h.0 (all_scalar h.0 h.1) in
    subst (AllByRecursion IsXmlChar) (sym same) h.1

all_at : (P : ℕ → Type 0) (cs : List ℕ) (n c : ℕ) → n < length cs → c ≡ get_or cs n c → AllByRecursion P cs → P c
all_at P [] n c lt e h = absurd (omega arith)
all_at P (d ∷ cs) zero c lt e h = subst P (sym e) h.0
all_at P (d ∷ cs) (suc n) c lt e h = all_at P cs n c (omega arith) e h.1

drop_at : (cs : List ℕ) (n c : ℕ) → n < length cs → c ≡ get_or cs n c → drop n cs ≡ c ∷ drop (n + 1) cs
drop_at [] n c lt e = absurd (omega arith)
drop_at (d ∷ cs) zero c lt e = ap (λ (x : ℕ). x ∷ cs) (sym e)
drop_at (d ∷ cs) (suc n) c lt e =
    let k : suc n + 1 ≡ suc (n + 1) = omega arith in
    drop_at cs n c (omega arith) e ∙ ap (λ (m : ℕ). c ∷ drop m (d ∷ cs)) (sym k)

pub record Turn (text : List ℕ) (n c : ℕ) : Type 0 where
  pub xml : IsXmlChar c
  pub rest : drop n (chars text) ≡ c ∷ drop (n + 1) (chars text)

pub turn : (text : List ℕ) (n c : ℕ) → IsXmlText text → n < length (chars text) → c ≡ get_or (chars text) n c → Turn text n c
turn text n c h lt e = record { xml = all_at IsXmlChar (chars text) n c lt e (chars_xml text h); rest = drop_at (chars text) n c lt e }

pub xml_none : IsXmlText []
xml_none = ([], tt, refl)

pub xml_more : (bytes : List ℕ) (c : ℕ) → IsXmlText bytes → IsXmlChar c → IsXmlText (bytes ++ encode_utf8 c)
xml_more bytes c h x =
    (h.0 ++ c ∷ [], all_both IsXmlChar h.0 (c ∷ []) h.1 (x, tt), encodes-append h.0 (c ∷ []) ∙ ap (λ (xs : List ℕ). xs ++ encode_utf8_all (c ∷ [])) h.2 ∙ ap (λ (xs : List ℕ). bytes ++ xs) (append-nil (encode_utf8 c)))

-- the bytes of a character that is no white space are no white space
char_clean : (c : ℕ) → is_blank c ≡ false → list_all (λ b. not (is_white b)) (encode_utf8 c) ≡ true
unfolding encode_utf8
char_clean c e = grind (arith, nat_tests)

pub clean_more : (bytes : List ℕ) (c : ℕ) → list_all (λ b. not (is_white b)) bytes ≡ true → is_blank c ≡ false → list_all (λ b. not (is_white b)) (bytes ++ encode_utf8 c) ≡ true
clean_more bytes c h e = list_all-append (λ b. not (is_white b)) bytes (encode_utf8 c) ∙ rw (h, char_clean c e) refl

ended_before : (word : List ℕ) (words : List (List ℕ)) → ended word [] ++ words ≡ ended word words
ended_before word words = elim (eqb (length word) 0) as (λ v. cond v [] (word ∷ []) ++ words ≡ cond v words (word ∷ words)) [ true ↦ refl | false ↦ refl ]

pub at_blank : (words : List (List ℕ)) (word : List ℕ) (c : ℕ) (rest here : List ℕ) (all : List (List ℕ)) → is_blank c ≡ true → here ≡ c ∷ rest → words ++ words_from word here ≡ all
    → (words ++ ended word []) ++ words_from [] rest ≡ all
at_blank words word c rest here all b e h =
    append_assoc words (ended word []) (words_from [] rest)
    ∙ ap (λ (ws : List (List ℕ)). words ++ ws) (ended_before word (words_from [] rest) ∙ sym (ap (words_from word) e ∙ rw b refl)) ∙ h

pub at_letter : (words : List (List ℕ)) (word : List ℕ) (c : ℕ) (rest here : List ℕ) (all : List (List ℕ)) → is_blank c ≡ false → here ≡ c ∷ rest → words ++ words_from word here ≡ all
    → words ++ words_from (word ++ encode_utf8 c) rest ≡ all
at_letter words word c rest here all b e h = ap (λ (ws : List (List ℕ)). words ++ ws) (sym (ap (words_from word) e ∙ rw b refl)) ∙ h

pub at_end : (words : List (List ℕ)) (word rest : List ℕ) (all : List (List ℕ)) → rest ≡ [] → words ++ words_from word rest ≡ all → words ++ ended word [] ≡ all
at_end words word rest all e h = sym (ap (λ (cs : List ℕ). words ++ words_from word cs) e) ∙ h

pub word_bytes : (bytes : List ℕ) → eqb (length bytes) 0 ≡ false → list_all (λ b. not (is_white b)) bytes ≡ true → (not (eqb (length bytes) 0) && list_all (λ b. not (is_white b)) bytes) ≡ true
word_bytes bytes e h = rw (e, h) refl

drop_all : (ds : List ℕ) → drop (length ds) ds ≡ []
drop_all [] = refl
drop_all (d ∷ ds) = drop_all ds

pub none_left : (cs : List ℕ) (n : ℕ) → n ≡ length cs → drop n cs ≡ []
none_left cs n e = ap (λ (k : ℕ). drop k cs) e ∙ drop_all cs
