-- Blocks behind line feeds are entries, each before one.
use Rattle.std.proofs.Common.{◌≡◌, ℕ, List, [], ◌∷◌, ◌++◌, map, Some, None, refl, sym, ap, ◌∙◌, append_assoc, arith}
use Rattle.std.specs.List.{flat_map, AllByRecursion}
use Rattle.std.proofs.lemmas.List.Concat.{flat_map-cons}
use Rattle.ob_journal.specs.Journal.{first_line, blocks, front}
use Rattle.ob_record.specs.declared.run.Entry.{Entry}
use Rattle.ob_record.specs.Parts.{open_text}
use Rattle.ob_record.specs.Blocks.{IsBlock, block_text}
use Rattle.ob_record.specs.Runs.{IsEntry, parts_of, entry_text, boot_line, run_text}
use Rattle.ob_record.specs.Runs as runs
use Rattle.ob_record.proofs.PartLaws.{parts_closed}
use Rattle.ob_record.proofs.RunLaws.{small_parts}
use Rattle.ob_record_journal.specs.Runs.{later_block, run_blocks, RecordAtRest}

later_blocks : (es : List Entry) → AllByRecursion IsEntry es → AllByRecursion IsBlock (map later_block es)
later_blocks [] all = tt
later_blocks (e ∷ es) all =
    (record { boot = None; parts = parts_of e; boot_small = tt; small = small_parts e all.0; text = refl }, later_blocks es all.1)

-- line feeds that stand in front move behind
turned : (x : List ℕ) (es : List Entry) → x ++ (blocks (map later_block es) ++ 10 ∷ []) ≡ x ++ (10 ∷ flat_map entry_text es)
turned x [] = refl
turned x (e ∷ es) =
    ap (λ (l : List ℕ). x ++ (10 ∷ l)) (
    append_assoc (open_text (parts_of e)) (blocks (map later_block es)) (10 ∷ [])
    ∙ turned (open_text (parts_of e)) es
    ∙ sym (parts_closed (parts_of e) (flat_map entry_text es))
    ∙ sym (flat_map-cons entry_text e es)
    )

-- behind the first line
behind_first : (boot : ℕ) (e : Entry) (es : List Entry) → (block_text (Some boot) (parts_of e) ++ blocks (map later_block es)) ++ 10 ∷ [] ≡ boot_line boot ++ flat_map entry_text (e ∷ es)
behind_first boot e es =
    append_assoc (boot_line boot ++ open_text (parts_of e)) (blocks (map later_block es)) (10 ∷ [])
    ∙ turned (boot_line boot ++ open_text (parts_of e)) es
    ∙ append_assoc (boot_line boot) (open_text (parts_of e)) (10 ∷ flat_map entry_text es)
    ∙ ap (λ (l : List ℕ). boot_line boot ++ l) (sym (parts_closed (parts_of e) (flat_map entry_text es)) ∙ sym (flat_map-cons entry_text e es))

front_text : (boot : ℕ) (e : Entry) (es : List Entry) → run_text (record { boot = boot; entries = e ∷ es }) ≡ front (run_blocks boot (e ∷ es)) ++ 10 ∷ []
front_text boot e es =
    append_assoc runs.first_line (boot_line boot) (flat_map entry_text (e ∷ es))
    ∙ ap (λ (l : List ℕ). first_line ++ (10 ∷ l)) (sym (behind_first boot e es))
    ∙ sym (append_assoc first_line (blocks (run_blocks boot (e ∷ es))) (10 ∷ []))

pub at_rest : RecordAtRest
at_rest boot e es run = record {
  blocks = (record { boot = Some boot; parts = parts_of e; boot_small = omega (arith, run.boot); small = small_parts e run.entries.0; text = refl }, later_blocks es run.entries.1);
  text = front_text boot e es;
}
