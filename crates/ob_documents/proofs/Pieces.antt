-- What the canonical text is made of is found by the scanner.
use Rattle.std.proofs.Common.{◌≡◌, ℕ, Bool, true, false, ◌&&◌, eqb, List, [], ◌∷◌, ◌++◌, length, Ok, Err, refl, ap, ◌∙◌, subst, arith}
use Rattle.std.specs.Prelude.{IsTrue}
use Rattle.std.specs.List.{list_all}
use Rattle.std.proofs.lemmas.Bool.Decides.{nat_tests}
use Rattle.ob_values.specs.XmlText.{IsXmlText}
use Rattle.ob_values.proofs.Bools.{and_first, and_second}
use Rattle.ob_scan.specs.declared.stop.Stop.TheVariants.{Malformed}
use Rattle.ob_scan.specs.declared.character.Progress.{Progress}
use Rattle.ob_scan.specs.declared.character.Progress.TheVariants.{Whole}
use Rattle.ob_scan.specs.declared.reading.Ends.{Ends}
use Rattle.ob_scan.specs.declared.reading.Ends.TheVariants.{Name, Value}
use Rattle.ob_scan.specs.declared.piece.Place.TheVariants.{Start, Between, InTag}
use Rattle.ob_scan.specs.Characters.{within}
use Rattle.ob_scan.specs.Reading.{is_space, ends_at, run_from, word}
use Rattle.ob_scan.specs.Constructs.{declares, declared, opening, attribute, tag_end, empty_end, closing, found, end_tag_at, tag_name_at, attribute_at, scan}
use Rattle.ob_object.specs.declared.kind.Kind.{Kind}
use Rattle.ob_object.specs.declared.kind.Kind.TheVariants as kind
use Rattle.ob_encoding.specs.Names.{kind_name}
use Rattle.ob_encoding.specs.Escaped.{escaped}
use Rattle.ob_documents.proofs.Characters.{RunsTo}
use Rattle.ob_documents.proofs.Texts.{is_ascii, run_ascii, text_back}

-- a run stops at the first byte that ends it
pub run_again : (ends : Ends) (progress : Progress) (bytes : List ℕ) (b : ℕ) (rest : List ℕ) → RunsTo ends progress bytes → ends_at ends b ≡ true → run_from ends progress (bytes ++ (b ∷ rest)) ≡ Ok (bytes, b ∷ rest)
run_again ends progress [] b rest h e = rw (h, e) refl
run_again ends progress (x ∷ bytes) b rest h e = rw (h.0, h.2, run_again ends h.1 bytes b rest h.3 e) refl

-- the name of an attribute or of an element: ASCII, beginning with a letter
abbrev pub is_written_name : List ℕ → Bool
is_written_name [] = false
is_written_name (x ∷ name) = within 65 122 x && list_all (is_ascii Name) (x ∷ name)

word_again : (x : ℕ) (name : List ℕ) (b : ℕ) (rest : List ℕ) → IsTrue (is_written_name (x ∷ name)) → ends_at Name b ≡ true → word Name (x ∷ (name ++ (b ∷ rest))) ≡ Ok (x ∷ name, b ∷ rest)
word_again x name b rest h e =
    let plain : list_all (is_ascii Name) (x ∷ name) ≡ true = and_second (within 65 122 x) (list_all (is_ascii Name) (x ∷ name)) h in
    let runs : RunsTo Name Whole (x ∷ name) = bare (run_ascii Name (x ∷ name) [] plain refl) in
    let some : eqb (length (x ∷ name)) 0 ≡ false = grind (arith, nat_tests) in
    rw (run_again Name Whole (x ∷ name) b rest runs e, some) refl
  where
    append-none : (xs : List ℕ) → xs ++ [] ≡ xs
    append-none [] = refl
    append-none (y ∷ ys) = ap (λ (t : List ℕ). y ∷ t) (append-none ys)

    bare : RunsTo Name Whole ((x ∷ name) ++ []) → RunsTo Name Whole (x ∷ name)
    bare r = subst (RunsTo Name Whole) (append-none (x ∷ name)) r

record IsLetter (x : ℕ) : Type 0 where
  space : is_space x ≡ false
  close : eqb x 62 ≡ false
  slash : eqb x 47 ≡ false
  bang : eqb x 33 ≡ false
  mark : eqb x 63 ≡ false

letter : (x : ℕ) → within 65 122 x ≡ true → IsLetter x
letter x h = record {
  space = grind (arith, nat_tests);
  close = grind (arith, nat_tests);
  slash = grind (arith, nat_tests);
  bang = grind (arith, nat_tests);
  mark = grind (arith, nat_tests);
}

attribute_again : (x : ℕ) (name value rest : List ℕ) → IsTrue (is_written_name (x ∷ name)) → RunsTo (Value 34) Whole value → attribute_at (x ∷ (name ++ (61 ∷ 34 ∷ (value ++ (34 ∷ rest))))) ≡ Ok ((x ∷ name, value), rest)
unfolding attribute_at
attribute_again x name value rest n v =
    rw (word_again x name 61 (34 ∷ (value ++ (34 ∷ rest))) n refl, run_again (Value 34) Whole value 34 rest v refl) refl

-- an attribute is found as its name and its value, the references in it
pub attribute_is_found : (name text rest : List ℕ) → IsTrue (is_written_name name) → IsXmlText text
    → scan InTag true (32 ∷ (name ++ (61 ∷ 34 ∷ (escaped text ++ (34 ∷ rest))))) ≡ found (attribute name (escaped text)) rest
attribute_is_found [] text rest n t = absurd cc
attribute_is_found (x ∷ name) text rest n t =
    let back = text_back text t in
    let value : List ℕ = escaped text in
    let here : List ℕ = x ∷ (name ++ (61 ∷ 34 ∷ (value ++ (34 ∷ rest)))) in
    let read : attribute_at here ≡ Ok ((x ∷ name, value), rest) = attribute_again x name value rest n back.runs in
    let l = letter x (and_first (within 65 122 x) (list_all (is_ascii Name) (x ∷ name)) n) in
    let apart : eqb (length (32 ∷ here)) (length here) ≡ false = grind (arith, nat_tests) in
    rw (l.space, l.close, l.slash, apart, read, back.fine) refl

-- a byte that may stand behind the name of a tag
abbrev pub Follows : List ℕ → Type 0
Follows [] = ⊥
Follows (b ∷ xs) = ends_at Name b ≡ true

tag_name_again : (x : ℕ) (name : List ℕ) (b : ℕ) (xs : List ℕ) → IsTrue (is_written_name (x ∷ name)) → ends_at Name b ≡ true → tag_name_at (x ∷ (name ++ (b ∷ xs))) ≡ Ok (opening (x ∷ name), b ∷ xs)
unfolding tag_name_at
tag_name_again x name b xs n e = rw (word_again x name b xs n e) refl

pub opening_is_found : (name xs : List ℕ) → IsTrue (is_written_name name) → Follows xs → scan Between true (60 ∷ (name ++ xs)) ≡ found (opening name) xs
opening_is_found [] xs n f = absurd cc
opening_is_found (x ∷ name) [] n f = absurd f
opening_is_found (x ∷ name) (b ∷ xs) n f =
    let l = letter x (and_first (within 65 122 x) (list_all (is_ascii Name) (x ∷ name)) n) in
    rw (l.bang, l.mark, l.slash, tag_name_again x name b xs n f) refl

declares_nothing : (x : ℕ) (rest : List ℕ) → eqb x 63 ≡ false → declares (60 ∷ x ∷ rest) ≡ Err Malformed
unfolding declares
declares_nothing x rest h = rw h refl

-- at the very start too
pub first_opening_is_found : (name xs : List ℕ) → IsTrue (is_written_name name) → Follows xs → scan Start true (60 ∷ (name ++ xs)) ≡ found (opening name) xs
first_opening_is_found [] xs n f = absurd cc
first_opening_is_found (x ∷ name) [] n f = absurd f
first_opening_is_found (x ∷ name) (b ∷ xs) n f =
    let l = letter x (and_first (within 65 122 x) (list_all (is_ascii Name) (x ∷ name)) n) in
    ap (declared true (60 ∷ x ∷ (name ++ (b ∷ xs)))) (declares_nothing x (name ++ (b ∷ xs)) l.mark) ∙ opening_is_found (x ∷ name) (b ∷ xs) n f

pub closing_is_found : (name rest : List ℕ) → IsTrue (is_written_name name) → scan Between true (60 ∷ 47 ∷ (name ++ (62 ∷ rest))) ≡ found (closing name) rest
unfolding end_tag_at
closing_is_found [] rest n = absurd cc
closing_is_found (x ∷ name) rest n = rw (word_again x name 62 rest n refl) refl

pub kind_is_written : (k : Kind) → IsTrue (is_written_name (kind_name k))
kind_is_written kind.Obj = refl
kind_is_written kind.Bool = refl
kind_is_written kind.Int = refl
kind_is_written kind.Real = refl
kind_is_written kind.Str = refl
kind_is_written kind.Enum = refl
kind_is_written kind.Uri = refl
kind_is_written kind.Abstime = refl
kind_is_written kind.Reltime = refl
kind_is_written kind.Date = refl
kind_is_written kind.Time = refl
kind_is_written kind.List = refl
kind_is_written kind.Op = refl
kind_is_written kind.Feed = refl
kind_is_written kind.Ref = refl
kind_is_written kind.Err = refl

pub tag_end_is_found : (rest : List ℕ) → scan InTag true (62 ∷ rest) ≡ found tag_end rest
tag_end_is_found rest = refl

pub empty_end_is_found : (rest : List ℕ) → scan InTag true (47 ∷ 62 ∷ rest) ≡ found empty_end rest
empty_end_is_found rest = refl
