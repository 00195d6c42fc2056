-- Lemmas on fields that are read where they stand.
use Rattle.std.proofs.lemmas.Bool.{cond-true, cond-false, le-leb, lt-leb}
use Rattle.std.proofs.Common.{nat_le, ◌≢◌, ◌≡◌, ℕ, ◌<◌, ◌≤◌, Bool, true, false, not, ◌||◌, ◌&&◌, ◌==◌, cond, List, [], ◌∷◌, map, codes, Option, Some, None, option_map, find, Result, Ok, Err, IfOk, refl, sym, ap, ◌∙◌}
use Rattle.std.specs.List.{list_any, list_all}
use Rattle.std.proofs.lemmas.List.Folds.{list_all-map}
use Rattle.httparse.specs.declared.spans.HeaderSpan.{HeaderSpan}
use Rattle.httparse.specs.Spans.{header_bytes}
use Rattle.ob_http.specs.declared.fault.FrameFault.{FrameFault}
use Rattle.ob_http.specs.declared.fault.FrameFault.TheVariants.{NoLength, Length, BodyBig, Memory}
use Rattle.ob_http.specs.Fields.{Fields, is_named, first_value, each_value, has_field, is_length, length_value, agreed, length_from, content_length, within, body_length, media_from, media_of, has_word, asks_close}

pub list_any_map : {X Y : Type 0} (p : X → Bool) (f : Y → X) (ys : List Y) → list_any p (map f ys) ≡ list_any (λ y. p (f y)) ys
list_any_map p f [] = refl
list_any_map p f (y ∷ ys) = ap (λ b. p (f y) || b) (list_any_map p f ys)

pub find_map : {X Y Z : Type 0} (g : X → Z) (p : X → Bool) (f : Y → X) (ys : List Y)
    → option_map g (find p (map f ys)) ≡ option_map (λ y. g (f y)) (find (λ y. p (f y)) ys)
find_map g p f [] = refl
find_map g p f (y ∷ ys) = by_test (find_map g p f ys) (p (f y)) refl
  where
    by_test : option_map g (find p (map f ys)) ≡ option_map (λ z. g (f z)) (find (λ z. p (f z)) ys) → (t : Bool) → p (f y) ≡ t
        → option_map g (find p (map f (y ∷ ys))) ≡ option_map (λ z. g (f z)) (find (λ z. p (f z)) (y ∷ ys))
    by_test later true is_so = rw is_so refl
    by_test later false is_not = rw is_not later

module _ (bytes : List ℕ) (headers : List HeaderSpan) (absent : Result ℕ FrameFault) (limit : ℕ) where
  abbrev fields : List (List ℕ × List ℕ)
  fields = map (header_bytes bytes) headers

  -- the answers, told of the spans
  abbrev is_chunked : Bool
  is_chunked = list_any (λ h. is_named (codes "transfer-encoding") (header_bytes bytes h)) headers

  abbrev first : Option (List ℕ)
  first = option_map (λ h. (header_bytes bytes h).1) (find (λ h. is_named (codes "content-length") (header_bytes bytes h)) headers)

  abbrev each_is : ℕ → Bool
  each_is n =
      list_all (λ h. not (is_named (codes "content-length") (header_bytes bytes h)) || is_length n (header_bytes bytes h).1) headers

  chunked_is : has_field (codes "transfer-encoding") fields ≡ is_chunked
  chunked_is = list_any_map (is_named (codes "transfer-encoding")) (header_bytes bytes) headers

  first_is : first_value (codes "content-length") fields ≡ first
  first_is = find_map (λ f. f.1) (is_named (codes "content-length")) (header_bytes bytes) headers

  each_is_is : (n : ℕ) → each_value (codes "content-length") (is_length n) fields ≡ each_is n
  each_is_is n =
      list_all-map (λ f. not (is_named (codes "content-length") f) || is_length n f.1) (header_bytes bytes) headers

  pub chunked : is_chunked ≡ true → body_length absent limit fields ≡ Err NoLength
  chunked is_so = rw (chunked_is, is_so) refl

  pub no_length : is_chunked ≡ false → first ≡ None → body_length absent limit fields ≡ within limit absent
  no_length is_not none = rw (chunked_is, is_not, first_is, none) refl

  pub no_number : is_chunked ≡ false → (value : List ℕ) → first ≡ Some value → length_value value ≡ None
      → body_length absent limit fields ≡ Err Length
  no_number is_not value some bad = rw (chunked_is, is_not, first_is, some, bad) refl

  pub two_numbers : is_chunked ≡ false → (value : List ℕ) (n : ℕ) → first ≡ Some value → length_value value ≡ Some n
      → each_is n ≡ false → body_length absent limit fields ≡ Err Length
  two_numbers is_not value n some good differ = rw (chunked_is, is_not, first_is, some, good, each_is_is, differ) refl

  pub one_number : is_chunked ≡ false → (value : List ℕ) (n : ℕ) → first ≡ Some value → length_value value ≡ Some n
      → each_is n ≡ true → body_length absent limit fields ≡ within limit (Ok n)
  one_number is_not value n some good same = rw (chunked_is, is_not, first_is, some, good, each_is_is, same) refl

pub fits : (limit n : ℕ) → n ≤ limit → within limit (Ok n) ≡ Ok n
fits limit n small = cond-true _ _ _ (le-leb n limit small)

pub exceeds : (limit n : ℕ) → limit < n → within limit (Ok n) ≡ Err BodyBig
exceeds limit n big = cond-false _ _ _ (lt-leb n limit big)

-- the answer of a look-up among the spans is that of the fields
pub media_by : (bytes : List ℕ) (headers : List HeaderSpan) (value : Option (List ℕ))
    → value ≡ option_map (λ h. (header_bytes bytes h).1) (find (λ h. is_named (codes "content-type") (header_bytes bytes h)) headers)
    → media_from value ≡ media_of (map (header_bytes bytes) headers)
media_by bytes headers value same =
    ap media_from (same ∙ sym (find_map (λ f. f.1) (is_named (codes "content-type")) (header_bytes bytes) headers))

pub close_by : (bytes : List ℕ) (headers : List HeaderSpan) (minor : ℕ)
    → (minor == 0) ≡ false
    → list_any (λ h. is_named (codes "connection") (header_bytes bytes h) && has_word (codes "close") (header_bytes bytes h).1) headers
    ≡ asks_close minor (map (header_bytes bytes) headers)
close_by bytes headers minor later =
    rw later (sym (list_any_map (λ f. is_named (codes "connection") f && has_word (codes "close") f.1) (header_bytes bytes) headers))

-- ---- a length is never refused for want of memory

agreed_never : (fs : Fields) (o : Option ℕ) → agreed fs o ≢ Err Memory
agreed_never fs None same = cc
agreed_never fs (Some n) same = by_test (each_value (codes "content-length") (is_length n) fs) same
  where
    by_test : (t : Bool) → cond t (Ok n) (Err Length) ≡ Err Memory → ⊥
    by_test true e = cc
    by_test false e = cc

from_never : (absent : Result ℕ FrameFault) (fs : Fields) (o : Option (List ℕ)) → absent ≢ Err Memory → length_from absent fs o ≢ Err Memory
from_never absent fs None other = other
from_never absent fs (Some value) other = agreed_never fs (length_value value)

within_never : (limit : ℕ) (r : Result ℕ FrameFault) → r ≢ Err Memory → within limit r ≢ Err Memory
within_never limit (Ok n) other same = by_test (nat_le n limit) same
  where
    by_test : (t : Bool) → cond t (Ok n) (Err BodyBig) ≡ Err Memory → ⊥
    by_test true e = cc
    by_test false e = cc
within_never limit (Err fault) other same = other same

pub length_never_memory : (absent : Result ℕ FrameFault) (limit : ℕ) (fs : Fields) → absent ≢ Err Memory → body_length absent limit fs ≢ Err Memory
length_never_memory absent limit fs other same = by_test (has_field (codes "transfer-encoding") fs) same
  where
    by_test : (t : Bool) → cond t (Err NoLength) (within limit (content_length absent fs)) ≡ Err Memory → ⊥
    by_test true e = cc
    by_test false e = within_never limit (content_length absent fs) (from_never absent fs (first_value (codes "content-length") fs) other) e

-- a length that the caller hands in fits, or is the fault that the caller hands in
pub absent_fits : (limit : ℕ) (absent : Result ℕ FrameFault) → IfOk absent (λ n. n ≤ limit) → within limit absent ≡ absent
absent_fits limit (Ok n) small = fits limit n small
absent_fits limit (Err fault) small = refl
