-- A record is the record of one run, and breaks off at one place.
use Rattle.std.proofs.Common.{◌≡◌, ℕ, ◌<◌, ◌^◌, List, [], ◌∷◌, ◌++◌, length, codes, Option, Some, None, refl, sym, ap, subst, ◌∙◌, append_assoc, append-nil, arith, lit<}
use Rattle.std.specs.List.{flat_map, AllByRecursion}
use Rattle.std.proofs.lemmas.List.Concat.{flat_map-cons}
use Rattle.std.proofs.lemmas.Option.{some_pair_parts, same_Some}
use Rattle.ob_encoding.specs.Canonical.{canonical_text}
use Rattle.ob_documents.specs.Spelling.{Spells}
use Rattle.ob_object.specs.Object.{Object}
use Rattle.ob_spelling.specs.DigitRun.{digits_front, after_digits}
use Rattle.ob_times.specs.Times.{IsMoment}
use Rattle.ob_record.specs.declared.run.Entry.{Entry}
use Rattle.ob_record.specs.declared.run.Told.{Told}
use Rattle.ob_record.specs.declared.run.Told.TheVariants.{Reply, NoMemory}
use Rattle.ob_record.specs.Parts.{Parts, number_word, AreSmall}
use Rattle.ob_record.specs.Reading.{◌>>=◌, after, number_at, open_at, parts_at}
use Rattle.ob_record.specs.Runs.{Recorded, body_text, reply_bytes, parts_of, entry_text, IsBody, IsEntry, IsRun, BeginsNone, first_line, boot_line, head_text, run_text}
use Rattle.ob_record.specs.Broken.{in_first_line, in_second_line, in_entry, OneRun, OneFault, SpelledIsUnbroken}
use Rattle.ob_record.proofs.Words.{number_again}
use Rattle.ob_record.proofs.PartLaws.{parts_again}
use Rattle.ob_record.proofs.Bodies.{TextSpells, OneDocument}

-- ---- entries

one_told : (a b : Told) → reply_bytes a ≡ reply_bytes b → a ≡ b
one_told (Reply x) (Reply y) e = ap Reply (same_Some x y e)
one_told (Reply x) NoMemory e = absurd cc
one_told NoMemory (Reply y) e = absurd cc
one_told NoMemory NoMemory e = refl

small_body : (body : Option Object) → IsBody body → length (body_text body) < 2 ^ 63
small_body None h = lit< tt
small_body (Some o) h = omega (arith, h.1)

pub small_parts : (e : Entry) → IsEntry e → AreSmall (parts_of e)
small_parts e h = record {
  moment = omega (arith, h.moment);
  target = h.target.1;
  body = small_body e.request.body h.body;
  reply = h.reply;
}

-- no entry is read where there is nothing
nothing_read : parts_at [] ≡ None
unfolding parts_at open_at number_at digits_front after_digits
nothing_read = refl

pub nothing_begins : BeginsNone []
nothing_begins e rest valid is =
    absurd (let read : None ≡ Some (parts_of e, rest) = sym nothing_read ∙ ap parts_at is ∙ parts_again (parts_of e) rest (small_parts e valid) in cc)

-- what is read of the first two lines
head_at : List ℕ → Option (ℕ × List ℕ)
head_at bytes = after first_line bytes >>= λ rest. after (codes "boot ") rest >>= λ more. number_at 10 more

-- the first two lines are read
head_again : (run : Recorded) (rest : List ℕ) → IsMoment run.boot → head_at (run_text run ++ rest) ≡ Some (run.boot, flat_map entry_text run.entries ++ rest)
unfolding head_at
head_again run rest moment =
    ap (number_at 10) (append_assoc (number_word run.boot 10) (flat_map entry_text run.entries) rest)
    ∙ number_again 10 run.boot (flat_map entry_text run.entries ++ rest) refl (omega (arith, moment))

module _ (spells : TextSpells) (one : OneDocument) where
  one_body : (a b : Option Object) → IsBody a → IsBody b → body_text a ≡ body_text b → a ≡ b
  one_body None None x y e = refl
  one_body None (Some o) x y e = absurd cc
  one_body (Some o) None x y e = absurd cc
  one_body (Some o) (Some p) x y e =
      ap Some (one (canonical_text None o) None None o p (spells None o x.0 x.1) (subst (λ (t : List ℕ). Spells t None p) (sym e) (spells None p y.0 y.1))).1

  same_entry : (e f : Entry) → IsEntry e → IsEntry f → parts_of e ≡ parts_of f → e ≡ f
  same_entry e f x y is =
      let m = ap (λ (p : Parts). p.moment) is in
      let v = ap (λ (p : Parts). p.verb) is in
      let t = ap (λ (p : Parts). p.target) is in
      let b = one_body e.request.body f.request.body x.body y.body (ap (λ (p : Parts). p.body) is) in
      let r = one_told e.reply f.reply (ap (λ (p : Parts). p.reply) is) in
      λ i. record { moment = m i; request = record { verb = v i; target = t i; body = b i }; reply = r i }

  pub one_entry : (e f : Entry) (rest more : List ℕ) → IsEntry e → IsEntry f → entry_text e ++ rest ≡ entry_text f ++ more → (e ≡ f) × (rest ≡ more)
  one_entry e f rest more x y same =
      let read : Some (parts_of e, rest) ≡ Some (parts_of f, more) =
      sym (parts_again (parts_of e) rest (small_parts e x)) ∙ ap parts_at same ∙ parts_again (parts_of f) more (small_parts f y) in
      let p = some_pair_parts (parts_of e) (parts_of f) rest more read in
      (same_entry e f x y p.0, p.1)

  -- the first entry, and what follows it
  first_of_row : (e : Entry) (es : List Entry) (rest : List ℕ) → flat_map entry_text (e ∷ es) ++ rest ≡ entry_text e ++ (flat_map entry_text es ++ rest)
  first_of_row e es rest = ap (λ (l : List ℕ). l ++ rest) (flat_map-cons entry_text e es) ∙ append_assoc (entry_text e) (flat_map entry_text es) rest

  pub one_row : (es fs : List Entry) (rest more : List ℕ) → AllByRecursion IsEntry es → AllByRecursion IsEntry fs → BeginsNone rest → BeginsNone more
      → flat_map entry_text es ++ rest ≡ flat_map entry_text fs ++ more → (es ≡ fs) × (rest ≡ more)
  one_row [] [] rest more x y none last same = (refl, same)
  one_row [] (f ∷ fs) rest more x y none last same = absurd (none f (flat_map entry_text fs ++ more) y.0 (same ∙ first_of_row f fs more))
  one_row (e ∷ es) [] rest more x y none last same = absurd (last e (flat_map entry_text es ++ rest) x.0 (sym same ∙ first_of_row e es rest))
  one_row (e ∷ es) (f ∷ fs) rest more x y none last same =
      let first = one_entry e f (flat_map entry_text es ++ rest) (flat_map entry_text fs ++ more) x.0 y.0 (sym (first_of_row e es rest) ∙ same ∙ first_of_row f fs more) in
      let others = one_row es fs rest more x.1 y.1 none last first.1 in
      (λ i. first.0 i ∷ others.0 i, others.1)

  -- ---- runs

  one_front : (run other : Recorded) (rest more : List ℕ) → IsRun run → IsRun other → BeginsNone rest → BeginsNone more
      → run_text run ++ rest ≡ run_text other ++ more → (run ≡ other) × (rest ≡ more)
  one_front run other rest more x y none last same =
      let read : Some (run.boot, flat_map entry_text run.entries ++ rest) ≡ Some (other.boot, flat_map entry_text other.entries ++ more) =
      sym (head_again run rest x.boot) ∙ ap head_at same ∙ head_again other more y.boot in
      let p = some_pair_parts run.boot other.boot (flat_map entry_text run.entries ++ rest) (flat_map entry_text other.entries ++ more) read in
      let row = one_row run.entries other.entries rest more x.entries y.entries none last p.1 in
      (λ i. record { boot = p.0 i; entries = row.0 i }, row.1)

  pub one_run : OneRun
  one_run bytes run other x y =
      (one_front run other [] [] x.valid y.valid nothing_begins nothing_begins (append-nil (run_text run) ∙ sym x.text ∙ y.text ∙ sym (append-nil (run_text other)))).0

  -- what follows the first line
  behind_first : (run : Recorded) (bytes rest more : List ℕ) → bytes ≡ first_line ++ rest → bytes ≡ run_text run ++ more
      → rest ≡ boot_line run.boot ++ (flat_map entry_text run.entries ++ more)
  behind_first run bytes rest more first text =
      same_Some rest (boot_line run.boot ++ (flat_map entry_text run.entries ++ more))
      (ap (after first_line) (sym first ∙ text ∙ regrouped run more))
    where
      regrouped : (run : Recorded) (more : List ℕ) → run_text run ++ more ≡ first_line ++ (boot_line run.boot ++ (flat_map entry_text run.entries ++ more))
      regrouped run more =
          append_assoc (head_text run.boot) (flat_map entry_text run.entries) more
          ∙ append_assoc first_line (boot_line run.boot) (flat_map entry_text run.entries ++ more)

  has_first : (run : Recorded) (bytes more : List ℕ) → bytes ≡ run_text run ++ more → bytes ≡ first_line ++ (boot_line run.boot ++ (flat_map entry_text run.entries ++ more))
  has_first run bytes more text =
      text ∙ append_assoc (head_text run.boot) (flat_map entry_text run.entries) more
      ∙ append_assoc first_line (boot_line run.boot) (flat_map entry_text run.entries ++ more)

  pub spelled_is_unbroken : SpelledIsUnbroken
  spelled_is_unbroken bytes run place r (in_first_line is none) =
      none (boot_line run.boot ++ (flat_map entry_text run.entries ++ [])) (has_first run bytes [] (r.text ∙ sym (append-nil (run_text run))))
  spelled_is_unbroken bytes run place r (in_second_line rest is first none) =
      none run.boot (flat_map entry_text run.entries ++ []) r.valid.boot (behind_first run bytes rest [] first (r.text ∙ sym (append-nil (run_text run))))
  spelled_is_unbroken bytes run place r (in_entry other rest valid is text some none) =
      some (sym (one_front run other [] rest r.valid valid nothing_begins none (append-nil (run_text run) ∙ sym r.text ∙ text)).1)

  pub one_fault : OneFault
  one_fault bytes place other (in_first_line a none) (in_first_line b last) = a ∙ sym b
  one_fault bytes place other (in_first_line a none) (in_second_line rest b first last) = absurd (none rest first)
  one_fault bytes place other (in_first_line a none) (in_entry run rest valid b text some last) =
      absurd (none (boot_line run.boot ++ (flat_map entry_text run.entries ++ rest)) (has_first run bytes rest text))
  one_fault bytes place other (in_second_line rest a first none) (in_first_line b last) = absurd (last rest first)
  one_fault bytes place other (in_second_line rest a first none) (in_second_line more b second last) = a ∙ sym b
  one_fault bytes place other (in_second_line rest a first none) (in_entry run more valid b text some last) =
      absurd (none run.boot (flat_map entry_text run.entries ++ more) valid.boot (behind_first run bytes rest more first text))
  one_fault bytes place other (in_entry run rest valid a text some none) (in_first_line b last) =
      absurd (last (boot_line run.boot ++ (flat_map entry_text run.entries ++ rest)) (has_first run bytes rest text))
  one_fault bytes place other (in_entry run rest valid a text some none) (in_second_line more b first last) =
      absurd (last run.boot (flat_map entry_text run.entries ++ rest) valid.boot (behind_first run bytes more rest first text))
  one_fault bytes place other (in_entry run rest valid a text some none) (in_entry run' rest' valid' b text' some' none') =
      let same = one_front run run' rest rest' valid valid' none none' (sym text ∙ text') in
      a ∙ ap (λ (r : Recorded). length (run_text r)) same.0 ∙ sym b
