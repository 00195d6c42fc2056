-- Words with a space between two are read as these words.
use Rattle.std.proofs.Common.{◌≡◌, ℕ, ◌≤◌, inl, inr, Bool, true, false, ◌&&◌, not, eqb, List, [], ◌∷◌, ◌++◌, length, refl, sym, ap, ◌∙◌, subst, append_assoc, arith}
use Rattle.std.specs.Char.{encode_utf8}
use Rattle.std.specs.Str.{chars, encode_utf8_all}
use Rattle.std.specs.List.{AllByRecursion, list_all}
use Rattle.std.proofs.lemmas.Str.{chars-encodes, encodes-append}
use Rattle.std.proofs.lemmas.List.{append-nil}
use Rattle.std.proofs.lemmas.List.Folds.{list_all-append}
use Rattle.std.proofs.lemmas.Bool.{cases_lt}
use Rattle.std.proofs.lemmas.Bool.Decides.{nat_tests}
use lib.Utf8.{scalar, scalars}
use Rattle.ob_values.specs.XmlText.{IsXmlChar, IsXmlText}
use Rattle.ob_values.proofs.Bools.{and_first, and_second}
use Rattle.ob_values.proofs.Lists.{all_both}
use Rattle.ob_object.specs.Words.{is_white, is_word}
use Rattle.ob_encoding.specs.WordLists.{is_blank, ended, words_from, words_of}
use Rattle.ob_encoding.specs.Canonical.{joined}
use Rattle.ob_encoding.proofs.WordRuns.{all_scalar}
use Rattle.ob_documents.proofs.Characters.{encode_1}

-- a character that is no white space
not_blank : (c : ℕ) → list_all (λ b. not (is_white b)) (encode_utf8 c) ≡ true → is_blank c ≡ false
not_blank c h =
    elim (cases_lt c 128) [
      | inl low ↦
          let one : list_all (λ b. not (is_white b)) (c ∷ []) ≡ true = subst (λ (bs : List ℕ). list_all (λ b. not (is_white b)) bs ≡ true) (encode_1 c low) h in
          plain (is_white c) (and_first (not (is_white c)) true one)
      | inr high ↦ beyond c high
    ]
  where
    plain : (t : Bool) → not t ≡ true → t ≡ false
    plain true e = absurd cc
    plain false e = refl

    beyond : (c : ℕ) → 128 ≤ c → is_blank c ≡ false
    beyond c k = grind (arith, nat_tests)

-- the characters of a word go on with it
word_on : (word cs more : List ℕ) → list_all (λ b. not (is_white b)) (encode_utf8_all cs) ≡ true → words_from word (cs ++ more) ≡ words_from (word ++ encode_utf8_all cs) more
word_on word [] more h = ap (λ (w : List ℕ). words_from w more) (sym (append-nil word))
word_on word (c ∷ cs) more h =
    let parts : (list_all (λ b. not (is_white b)) (encode_utf8 c) && list_all (λ b. not (is_white b)) (encode_utf8_all cs)) ≡ true = sym (list_all-append (λ b. not (is_white b)) (encode_utf8 c) (encode_utf8_all cs)) ∙ h in
    let here : is_blank c ≡ false = not_blank c (and_first (list_all (λ b. not (is_white b)) (encode_utf8 c)) (list_all (λ b. not (is_white b)) (encode_utf8_all cs)) parts) in
    let rest = and_second (list_all (λ b. not (is_white b)) (encode_utf8 c)) (list_all (λ b. not (is_white b)) (encode_utf8_all cs)) parts in
    step c word (cs ++ more) here ∙ word_on (word ++ encode_utf8 c) cs more rest ∙ ap (λ (w : List ℕ). words_from w more) (append_assoc word (encode_utf8 c) (encode_utf8_all cs))
  where
    step : (c : ℕ) (word cs : List ℕ) → is_blank c ≡ false → words_from word (c ∷ cs) ≡ words_from (word ++ encode_utf8 c) cs
    step c word cs e = rw e refl

some_ended : (word : List ℕ) (words : List (List ℕ)) → not (eqb (length word) 0) ≡ true → ended word words ≡ word ∷ words
some_ended word words h = by (eqb (length word) 0) refl
  where
    by : (t : Bool) → eqb (length word) 0 ≡ t → ended word words ≡ word ∷ words
    by true e = let f : not true ≡ true = subst (λ (b : Bool). not b ≡ true) e h in absurd cc
    by false e = rw e refl

-- the characters of joined words
record Joined (ws : List (List ℕ)) : Type 0 where
  cs : List ℕ
  good : AllByRecursion IsXmlChar cs
  bytes : encode_utf8_all cs ≡ joined ws
  words : words_from [] cs ≡ ws

space_1 : encode_utf8 32 ≡ 32 ∷ []
unfolding encode_utf8
space_1 = refl

joined_words : (ws : List (List ℕ)) → AllByRecursion IsXmlText ws → list_all is_word ws ≡ true → Joined ws
joined_words [] t h = record { cs = []; good = tt; bytes = refl; words = refl }
joined_words (w ∷ []) t h =
    let word : is_word w ≡ true = and_first (is_word w) true h in
    let some = and_first (not (eqb (length w) 0)) (list_all (λ b. not (is_white b)) w) word in
    let plain : list_all (λ b. not (is_white b)) (encode_utf8_all t.0.0) ≡ true = subst (λ (bs : List ℕ). list_all (λ b. not (is_white b)) bs ≡ true) (sym t.0.2) (and_second (not (eqb (length w) 0)) (list_all (λ b. not (is_white b)) w) word) in
    let read : words_from [] t.0.0 ≡ ended w [] = ap (words_from []) (sym (append-nil t.0.0)) ∙ word_on [] t.0.0 [] plain ∙ ap (λ (v : List ℕ). words_from v []) t.0.2 in
    record { cs = t.0.0; good = t.0.1; bytes = t.0.2; words = read ∙ some_ended w [] some }
joined_words (w ∷ (v ∷ ws)) t h =
    let word : is_word w ≡ true = and_first (is_word w) (list_all is_word (v ∷ ws)) h in
    let some = and_first (not (eqb (length w) 0)) (list_all (λ b. not (is_white b)) w) word in
    let plain : list_all (λ b. not (is_white b)) (encode_utf8_all t.0.0) ≡ true = subst (λ (bs : List ℕ). list_all (λ b. not (is_white b)) bs ≡ true) (sym t.0.2) (and_second (not (eqb (length w) 0)) (list_all (λ b. not (is_white b)) w) word) in
    let rest = joined_words (v ∷ ws) t.1 (and_second (is_word w) (list_all is_word (v ∷ ws)) h) in
    let cs : List ℕ = 32 ∷ rest.cs in
    record {
      cs = t.0.0 ++ cs;
      good = all_both IsXmlChar t.0.0 cs t.0.1 (inr (inr (inr (inl (omega arith, omega arith)))), rest.good);
      bytes = encodes-append t.0.0 cs ∙ ap (λ (bs : List ℕ). bs ++ (encode_utf8 32 ++ encode_utf8_all rest.cs)) t.0.2 ∙ ap (λ (bs : List ℕ). w ++ (bs ++ encode_utf8_all rest.cs)) space_1 ∙ ap (λ (bs : List ℕ). w ++ 32 ∷ bs) rest.bytes;
      words = word_on [] t.0.0 cs plain ∙ ap (λ (x : List ℕ). ended x (words_from [] rest.cs)) t.0.2 ∙ some_ended w (words_from [] rest.cs) some ∙ ap (λ (x : List (List ℕ)). w ∷ x) rest.words;
    }

-- words are read as they were joined
pub words_back : (ws : List (List ℕ)) → AllByRecursion IsXmlText ws → list_all is_word ws ≡ true → words_of (joined ws) ≡ ws
words_back ws t h =
    let j = joined_words ws t h in
    ap (λ (bs : List ℕ). words_from [] (chars bs)) (sym j.bytes) ∙ ap (words_from []) (chars-encodes j.cs (all_scalar j.cs j.good)) ∙ j.words

-- and are a text of XML characters
pub joined_xml : (ws : List (List ℕ)) → AllByRecursion IsXmlText ws → list_all is_word ws ≡ true → IsXmlText (joined ws)
joined_xml ws t h = let j = joined_words ws t h in (j.cs, j.good, j.bytes)
