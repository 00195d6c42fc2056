-- A record that is written as a whole.
use Rattle.std.proofs.Common.{◌≡◌, inl, ℕ, ◌+◌, ◌-◌, ◌≤◌, List, [], ◌∷◌, ◌++◌, length, take, Option, Some, None, refl, sym, ◌∙◌, ap, subst, arith, append-nil, length-append}
use Rattle.std.proofs.Math.Seq.{take-append_seam}
use Rattle.std.proofs.lemmas.List.{drop_all}
use Rattle.std.specs.Prelude.{Result, Ok, Err, IfOk}
use Rattle.std.specs.List.{AllByRecursion, flat_map}
use Rattle.ob_journal.specs.Device.{Holds}
use Rattle.ob_journal.specs.Journal.{front, at_rest, blocks, first_line, Says, closed_gate}
use Rattle.ob_record.specs.Blocks.{IsBlock}
use Rattle.ob_record.specs.Runs.{Recorded, Records, IsEntry, IsRun, boot_line, entry_text, head_text, run_text}
use Rattle.ob_record.specs.Runs as runs
use Rattle.ob_record.specs.declared.run.Entry.{Entry}
use Rattle.ob_record_journal.specs.Runs.{run_blocks, RecordAtRest}
use Rattle.ob_record_journal.specs.Saying.{SaysRun}
use Rattle.ob_record_journal.specs.Writing.{IsWhole, SaysRecord}

-- ---- what it says

-- a file at rest says its entries
rest_says : (es : List (List ℕ)) → AllByRecursion IsBlock es → Says IsBlock (at_rest es) es
rest_says es valid = inl (record { end = 0 ∷ []; valid = valid; split = refl; tail = closed_gate [] refl })

all_blocks : RecordAtRest → (run : Recorded) → IsRun run → AllByRecursion IsBlock (run_blocks run.boot run.entries)
all_blocks law run is = go run.entries is.entries
  where
    go : (es : List Entry) → AllByRecursion IsEntry es → AllByRecursion IsBlock (run_blocks run.boot es)
    go [] valid = tt
    go (e ∷ es) valid = (law run.boot e es (record { boot = is.boot; entries = valid })).blocks

pub says_run : RecordAtRest → (run : Recorded) → IsRun run → SaysRun (at_rest (run_blocks run.boot run.entries)) run.boot run.entries
says_run law run is = record {
  valid = is;
  blocks = rest_says (run_blocks run.boot run.entries) (all_blocks law run is);
}

pub whole_says : RecordAtRest → (text : Option (List ℕ)) (file : List ℕ) → IsWhole text file → SaysRecord file text
whole_says law None file whole = subst (λ (f : List ℕ). Says IsBlock f []) (sym whole) (rest_says [] tt)
whole_says law (Some text) file whole = λ run records.
    subst (λ (f : List ℕ). SaysRun f run.boot run.entries) (sym (whole run records)) (says_run law run records.valid)

-- ---- its text

-- a record of no entry
no_entries : (es : List Entry) → length es ≡ 0 → es ≡ []
no_entries [] none = refl
no_entries (e ∷ es) none = absurd (omega (arith, none))

pub whole_none : (text : List ℕ) → text ≡ at_rest [] → (boot : ℕ) (es : List Entry) → length es ≡ 0 → text ≡ at_rest (run_blocks boot es)
whole_none text is boot es none = is ∙ ap (λ (l : List Entry). at_rest (run_blocks boot l)) (sym (no_entries es none))

-- the last byte is cut off, and a closed gate stands there
pub cut_last : (record_text xs : List ℕ) → record_text ≡ xs ++ 10 ∷ [] → take (length record_text - 1) record_text ++ 0 ∷ [] ≡ xs ++ 0 ∷ []
cut_last record_text xs is =
    let n : length record_text - 1 ≡ length xs = omega (arith, ap (λ (l : List ℕ). length l) is, length-append xs (10 ∷ [])) in
    ap (λ (k : ℕ). take k record_text ++ 0 ∷ []) n ∙ ap (λ (l : List ℕ). take (length xs) l ++ 0 ∷ []) is ∙ ap (λ (l : List ℕ). l ++ 0 ∷ []) (take-append_seam xs (10 ∷ []))

-- so the record of a run with entries is at rest
pub whole_some : RecordAtRest → (run : Recorded) (record_text : List ℕ) → Records record_text run → (length run.entries ≡ 0 → ⊥)
    → take (length record_text - 1) record_text ++ 0 ∷ [] ≡ at_rest (run_blocks run.boot run.entries)
whole_some law run record_text records some = go run.entries records.valid.entries some records.text
  where
    go : (es : List Entry) → AllByRecursion IsEntry es → (length es ≡ 0 → ⊥) → record_text ≡ run_text (record { boot = run.boot; entries = es })
        → take (length record_text - 1) record_text ++ 0 ∷ [] ≡ at_rest (run_blocks run.boot es)
    go [] valid some text = absurd (some refl)
    go (e ∷ es) valid some text =
        cut_last record_text (front (run_blocks run.boot (e ∷ es))) (text ∙ (law run.boot e es (record { boot = records.valid.boot; entries = valid })).text)

-- a record has a byte
pub record_long : (record_text : List ℕ) (run : Recorded) → Records record_text run → 1 ≤ length record_text
record_long record_text run records =
    let whole = ap (λ (l : List ℕ). length l) records.text in
    let split = length-append (head_text run.boot) (flat_map entry_text run.entries) in
    let lines = length-append runs.first_line (boot_line run.boot) in
    omega (arith, whole, split, lines)

-- a file at rest has at least 14 bytes
pub rest_long : (es : List (List ℕ)) → 14 ≤ length (at_rest es)
rest_long es =
    let a = length-append (front es) (0 ∷ []) in
    let b = length-append first_line (blocks es) in
    omega (arith, a, b)

-- ---- its writing

pub written_whole : (old text new : List ℕ) → length old ≤ 14 → 14 ≤ length text → Holds old 0 text new → new ≡ text
written_whole old text new short long holds =
    holds ∙ ap (λ (l : List ℕ). text ++ l) (drop_all (0 + length text) old (omega (arith, short, long))) ∙ append-nil text

-- ---- what a call gives

pub whole_if : {V E : Type 0} (r : Result V E) (items : V → List ℕ) (run : Option (List ℕ)) (text : List ℕ) → IfOk r (λ v. items v ≡ text) → IsWhole run text → IfOk r (λ v. IsWhole run (items v))
whole_if (Ok v) items run text is whole = subst (λ (l : List ℕ). IsWhole run l) (sym is) whole
whole_if (Err e) items run text is whole = tt
