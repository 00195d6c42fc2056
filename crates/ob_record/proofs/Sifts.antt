-- Entries that are left out, one after the other.
use Rattle.std.proofs.Common.{◌≡◌, ◌⊎◌, inl, inr, ℕ, ◌+◌, ◌-◌, ◌≤◌, List, [], ◌∷◌, ◌++◌, length, take, refl, sym, ap, ap₂, subst, ◌∙◌, append_assoc, append-nil, arith, length-append}
use Rattle.std.specs.List.{flat_map, AllByRecursion}
use Rattle.std.proofs.lemmas.List.{take_at}
use Rattle.std.proofs.lemmas.List.Concat.{flat_map-cons, flat_map-append}
use Rattle.ob_times.specs.Times.{IsMoment}
use Rattle.ob_record.specs.declared.run.Entry.{Entry}
use Rattle.ob_record.specs.Runs.{Recorded, Records, IsEntry, BeginsNone, IsMeasured, entry_text, head_text}
use Rattle.ob_record.specs.Sifted.{IsPartOf, IsSifted}
use Rattle.ob_record.proofs.Bodies.{TextSpells, OneDocument}
use Rattle.ob_record.proofs.Reading.{ReadSoFar, read_none, read_more, entry_shorter}
use Rattle.ob_record.proofs.RunLaws.{nothing_begins, one_row}

-- ---- parts of lists

pub part_taken : {A : Type 0} (part whole : List A) (a : A) → IsPartOf part whole → IsPartOf (part ++ a ∷ []) (whole ++ a ∷ [])
part_taken part [] a none = inr ([], ap (λ (l : List _). l ++ a ∷ []) none, refl)
part_taken part (x ∷ whole) a (inl passed) = inl (part_taken part whole a passed)
part_taken part (x ∷ whole) a (inr taken) = inr (taken.0 ++ a ∷ [], ap (λ (l : List _). l ++ a ∷ []) taken.1, part_taken taken.0 whole a taken.2)

pub part_passed : {A : Type 0} (part whole : List A) (a : A) → IsPartOf part whole → IsPartOf part (whole ++ a ∷ [])
part_passed part [] a none = inl none
part_passed part (x ∷ whole) a (inl passed) = inl (part_passed part whole a passed)
part_passed part (x ∷ whole) a (inr taken) = inr (taken.0, taken.1, part_passed taken.0 whole a taken.2)

pub part_all : {A : Type 0} (P : A → Type 0) (part whole : List A) → IsPartOf part whole → AllByRecursion P whole → AllByRecursion P part
part_all P part [] none all = subst (λ (l : List _). AllByRecursion P l) (sym none) tt
part_all P part (x ∷ whole) (inl passed) all = part_all P part whole passed all.1
part_all P part (x ∷ whole) (inr taken) all = subst (λ (l : List _). AllByRecursion P l) (sym taken.1) (all.0, part_all P taken.0 whole taken.2 all.1)

-- ---- the text so far

-- so many entries stay of those that were read, and this is the record of them
pub record Sifting (bytes : List ℕ) (boot : ℕ) (out : List ℕ) (len : ℕ) (rest : List ℕ) : Type 0 where
  pub read : List Entry
  pub so_far : ReadSoFar bytes read rest
  pub kept : List Entry
  pub part : IsPartOf kept read
  pub text : out ≡ head_text boot ++ flat_map entry_text kept
  pub len_is : len ≡ length kept
  pub within : len + length rest ≤ length bytes

pub sifting_none : (bytes : List ℕ) (boot : ℕ) (out : List ℕ) → out ≡ head_text boot → Sifting bytes boot out 0 bytes
sifting_none bytes boot out text = record {
  read = [];
  so_far = read_none bytes;
  kept = [];
  part = refl;
  text = text ∙ sym (append-nil (head_text boot));
  len_is = refl;
  within = omega arith;
}

one_more_text : (boot : ℕ) (kept : List Entry) (e : Entry) → (head_text boot ++ flat_map entry_text kept) ++ entry_text e ≡ head_text boot ++ flat_map entry_text (kept ++ e ∷ [])
one_more_text boot kept e =
    append_assoc (head_text boot) (flat_map entry_text kept) (entry_text e)
    ∙ ap (λ (l : List ℕ). head_text boot ++ l)
    (ap (λ (l : List ℕ). flat_map entry_text kept ++ l) (sym (append-nil (entry_text e)) ∙ sym (flat_map-cons entry_text e []))
    ∙ sym (flat_map-append entry_text kept (e ∷ [])))

-- an entry stays
pub sifting_taken : (bytes : List ℕ) (boot : ℕ) (out : List ℕ) (len : ℕ) (rest : List ℕ) (e : Entry) (more new : List ℕ) → Sifting bytes boot out len rest
    → IsEntry e → rest ≡ entry_text e ++ more → new ≡ out ++ entry_text e → Sifting bytes boot new (len + 1) more
sifting_taken bytes boot out len rest e more new s valid is longer = record {
  read = s.read ++ e ∷ [];
  so_far = read_more bytes s.read rest e more s.so_far valid is;
  kept = s.kept ++ e ∷ [];
  part = part_taken s.kept s.read e s.part;
  text = longer ∙ ap (λ (l : List ℕ). l ++ entry_text e) s.text ∙ one_more_text boot s.kept e;
  len_is = omega (arith, s.len_is, length-append s.kept (e ∷ []));
  within = omega (arith, s.within, entry_shorter rest e more valid is);
}

-- an entry is left out
pub sifting_passed : (bytes : List ℕ) (boot : ℕ) (out : List ℕ) (len : ℕ) (rest : List ℕ) (e : Entry) (more : List ℕ) → Sifting bytes boot out len rest
    → IsEntry e → rest ≡ entry_text e ++ more → Sifting bytes boot out len more
sifting_passed bytes boot out len rest e more s valid is = record {
  read = s.read ++ e ∷ [];
  so_far = read_more bytes s.read rest e more s.so_far valid is;
  kept = s.kept;
  part = part_passed s.kept s.read e s.part;
  text = s.text;
  len_is = s.len_is;
  within = omega (arith, s.within, entry_shorter rest e more valid is);
}

-- ---- the end

module _ (spells : TextSpells) (one : OneDocument) where
  -- all entries were read
  all_read : (bytes : List ℕ) (run : Recorded) (boot : ℕ) (out : List ℕ) (len : ℕ) (rest : List ℕ) → bytes ≡ flat_map entry_text run.entries
      → AllByRecursion IsEntry run.entries → Sifting bytes boot out len rest → BeginsNone rest → (s : Sifting bytes boot out len rest) → s.read ≡ run.entries
  all_read bytes run boot out len rest text valid _ none s =
      (one_row spells one s.read run.entries rest [] s.so_far.valid valid none nothing_begins (sym s.so_far.text ∙ text ∙ sym (append-nil (flat_map entry_text run.entries)))).0

  pub sifted : (record_bytes bytes : List ℕ) (run : Recorded) (boot : ℕ) (out : List ℕ) (len : ℕ) (rest : List ℕ) → Records record_bytes run → boot ≡ run.boot
      → bytes ≡ flat_map entry_text run.entries → BeginsNone rest → Sifting bytes boot out len rest → IsSifted run out
  sifted record_bytes bytes run boot out len rest records boot_is text none s =
      let all = all_read bytes run boot out len rest text records.valid.entries s none s in
      record {
        entries = s.kept;
        records = record {
          valid = record { boot = records.valid.boot; entries = part_all IsEntry s.kept s.read s.part s.so_far.valid };
          text = s.text ∙ ap (λ (b : ℕ). head_text b ++ flat_map entry_text s.kept) boot_is;
        };
        part = subst (λ (l : List Entry). IsPartOf s.kept l) all s.part;
      }

pub sifted_measure : (bytes : List ℕ) (boot : ℕ) (out : List ℕ) (first len : ℕ) (rest : List ℕ) → IsMoment boot → first ≡ length (head_text boot)
    → Sifting bytes boot out len rest → IsMeasured out boot first len
sifted_measure bytes boot out first len rest moment first_is s = record {
  run = record { boot = boot; entries = s.kept };
  records = record {
    valid = record { boot = moment; entries = part_all IsEntry s.kept s.read s.part s.so_far.valid };
    text = s.text;
  };
  boot_is = refl;
  first_is = first_is;
  len_is = s.len_is;
}

-- ---- the bytes of an entry

-- what stands in front of the rest
pub front_is : (rest : List ℕ) (e : Entry) (more : List ℕ) → rest ≡ entry_text e ++ more → take (length rest - length more) rest ≡ entry_text e
front_is rest e more is =
    let cut : length rest - length more ≡ length (entry_text e) = omega (arith, ap (λ (l : List ℕ). length l) is, length-append (entry_text e) more) in
    ap₂ (λ (n : ℕ) (l : List ℕ). take n l) cut is ∙ take_at (entry_text e) more (length (entry_text e)) refl
