-- The entries of a run, one after the other: what stands behind the first so many.
use Rattle.std.proofs.Common.{Bor, ◌≡◌, ℕ, zero, suc, ◌+◌, ◌-◌, ◌≤◌, ◌<◌, List, [], ◌∷◌, ◌++◌, length, drop, get_or, Option, Some, None, refl, sym, ap, subst, ◌∙◌, arith, length-append}
use Rattle.std.specs.Prelude.{slice_get, IfSome, IfNone}
use Rattle.std.specs.List.{flat_map, AllByRecursion}
use Rattle.std.proofs.lemmas.List.{drop_more, drop_at, length-drop}
use Rattle.std.proofs.lemmas.List.Concat.{flat_map-cons}
use Rattle.std.proofs.lemmas.Option.{slice_get_read}
use Rattle.ob_record.specs.declared.run.Entry.{Entry}
use Rattle.ob_record.specs.Runs.{Recorded, Records, IsEntry, BeginsNone, entry_text, head_text}
use Rattle.ob_record.proofs.Bodies.{TextSpells, OneDocument}
use Rattle.ob_record.proofs.RunLaws.{nothing_begins, one_entry, one_run}

-- the place of what stands first behind the first so many
pub in_place : {X : Type 0} (xs : List X) (k : ℕ) (x : X) (rest : List X) → drop k xs ≡ x ∷ rest → (k < length xs) × (x ≡ get_or xs k x) × (drop (k + 1) xs ≡ rest)
in_place xs k x rest is =
    let len : length xs - k ≡ suc (length rest) = sym (length-drop k xs) ∙ ap (λ (l : List _). length l) is in
    let below : k < length xs = omega (arith, len) in
    let same : x ∷ rest ≡ get_or xs k x ∷ drop (k + 1) xs = sym is ∙ drop_more xs k x below in
    (below, (let e = same in cc), (let e = same in cc))

all_drop : {X : Type 0} (P : X → Type 0) (k : ℕ) (xs : List X) → AllByRecursion P xs → AllByRecursion P (drop k xs)
all_drop P zero xs all = all
all_drop P (suc k) [] all = all
all_drop P (suc k) (x ∷ xs) all = all_drop P k xs all.1

-- what stands at a place of entries, where the bytes are those from there on
pub record Stands (entries : List Entry) (k : ℕ) (e : Entry) (more : List ℕ) : Type 0 where
  pub below : k < length entries
  pub at_place : e ≡ get_or entries k e
  pub more_is : more ≡ flat_map entry_text (drop (k + 1) entries)

module _ (spells : TextSpells) (one : OneDocument) where
  first_of : (es : List Entry) (e : Entry) (rest more : List ℕ) → AllByRecursion IsEntry es → IsEntry e → rest ≡ flat_map entry_text es → rest ≡ entry_text e ++ more
      → (fs : List Entry) × (es ≡ e ∷ fs) × (more ≡ flat_map entry_text fs)
  first_of [] e rest more all valid text is = absurd (nothing_begins e more valid (sym text ∙ is))
  first_of (f ∷ fs) e rest more all valid text is =
      let same = one_entry spells one f e (flat_map entry_text fs) more all.0 valid (sym (flat_map-cons entry_text f fs) ∙ sym text ∙ is) in
      (fs, ap (λ (x : Entry). x ∷ fs) same.0, sym same.1)

  pub next_stands : (entries : List Entry) (k : ℕ) (rest : List ℕ) (e : Entry) (more : List ℕ) → AllByRecursion IsEntry entries → rest ≡ flat_map entry_text (drop k entries)
      → IsEntry e → rest ≡ entry_text e ++ more → Stands entries k e more
  next_stands entries k rest e more all text valid is =
      let f = first_of (drop k entries) e rest more (all_drop IsEntry k entries all) valid text is in
      let p = in_place entries k e f.0 f.1 in
      record { below = p.0; at_place = p.1; more_is = f.2 ∙ ap (λ (l : List Entry). flat_map entry_text l) (sym p.2) }

  pub same_run : (bytes : List ℕ) (run other : Recorded) → Records bytes run → Records bytes other → run ≡ other
  same_run = one_run spells one

-- where no entry stands first, none is left
pub none_left : (entries : List Entry) (k : ℕ) (rest : List ℕ) → AllByRecursion IsEntry entries → rest ≡ flat_map entry_text (drop k entries) → BeginsNone rest → length entries ≤ k
none_left entries k rest all text none = left (drop k entries) (all_drop IsEntry k entries all) text refl
  where
    left : (es : List Entry) → AllByRecursion IsEntry es → rest ≡ flat_map entry_text es → drop k entries ≡ es → length entries ≤ k
    left [] a t is = omega (arith, length-drop k entries, ap (λ (l : List Entry). length l) is)
    left (e ∷ es) a t is = absurd (none e (flat_map entry_text es) a.0 (t ∙ flat_map-cons entry_text e es))

-- the bytes of the entries are those behind the first two lines
pub entries_from : (bytes : List ℕ) (run : Recorded) (begin : ℕ) → Records bytes run → begin ≡ length (head_text run.boot) → drop begin bytes ≡ flat_map entry_text run.entries
entries_from bytes run begin r is =
    ap (λ (l : List ℕ). drop begin l) r.text ∙ drop_at (head_text run.boot) (flat_map entry_text run.entries) begin (sym is)

pub begins_within : (bytes : List ℕ) (run : Recorded) (begin : ℕ) → Records bytes run → begin ≡ length (head_text run.boot) → begin ≤ length bytes
begins_within bytes run begin r is = omega (arith, is, ap (λ (l : List ℕ). length l) r.text, length-append (head_text run.boot) (flat_map entry_text run.entries))

-- what the run that is read tells of each run whose record the bytes are
pub read_entry : (entries : List Entry) (k : ℕ) (e : Entry) (more : List ℕ) → Stands entries k e more → Some e ≡ slice_get entries k
read_entry entries k e more s = sym (slice_get_read entries (length entries) k e refl s.below s.at_place)

-- ---- the entry that was read next

abbrev pub Next : Type 0
Next = Option (Entry × Bor (List ℕ))

pub next_found : (bytes : List ℕ) (o : Next) (x : Entry × Bor (List ℕ)) → o ≡ Some x → IfSome o (λ y. IsEntry y.0 × (bytes ≡ entry_text y.0 ++ y.1.now))
    → IsEntry x.0 × (bytes ≡ entry_text x.0 ++ x.1.now)
next_found bytes o x is told = subst (λ (n : Next). IfSome n (λ y. IsEntry y.0 × (bytes ≡ entry_text y.0 ++ y.1.now))) is told

pub next_none : (bytes : List ℕ) (o : Next) → o ≡ None → IfNone o (BeginsNone bytes) → BeginsNone bytes
next_none bytes o is told = subst (λ (n : Next). IfNone n (BeginsNone bytes)) is told
