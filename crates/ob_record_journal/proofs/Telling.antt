-- What a file says, read as the record of a run.
use Rattle.std.proofs.Common.{◌≡◌, ◌≢◌, inl, inr, ⊎_elim, le_refl, ℕ, ◌+◌, ◌≤◌, List, [], ◌∷◌, ◌++◌, length, take, drop, decimal, Some, option_map, unwrap_or, refl, sym, ◌∙◌, ap, subst, arith, append_assoc, append-nil, length-append, take-append-drop, length-take}
use Rattle.std.specs.Prelude.{Result, Ok, Err, IfErr}
use Rattle.std.specs.List.{flat_map, AllByRecursion}
use Rattle.std.proofs.lemmas.List.{append_cancel_right}
use Rattle.ob_journal.specs.Device.{Elapses, LeavesOnly}
use Rattle.ob_journal.specs.Journal.{first_line, blocks, front, Stands, Says, IsFront, IsUnmade, OneMeaning}
use Rattle.ob_record.specs.Blocks.{IsBlock, block_text}
use Rattle.ob_record.specs.Broken.{BreaksAt, SpelledIsUnbroken}
use Rattle.ob_record.specs.Parts.{Parts, number_word, open_text, size_word, verb_word}
use Rattle.ob_record.specs.Runs.{Recorded, Records, boot_line, entry_text}
use Rattle.ob_record.specs.Runs as runs
use Rattle.ob_record.specs.declared.run.Entry.{Entry}
use Rattle.ob_record.proofs.BlockLaws.{one_block}
use Rattle.ob_times.specs.Times.{IsMoment}
use Rattle.ob_record_journal.specs.Runs.{run_blocks, RecordAtRest}
use Rattle.ob_record_journal.specs.Saying.{SaysRun, SaysNoRun, IsSaid, Unsaid, UnsaidBy, CeasesAt, in_blocks}
use Rattle.ob_record_journal.specs.declared.saying.SayingFault.{SayingFault}
use Rattle.ob_record_journal.specs.declared.saying.SayingFault.TheVariants as faults

no_blocks : (es : List (List ℕ)) → length (front es) ≤ 13 → es ≡ []
no_blocks [] short = refl
no_blocks (e ∷ es) short = absurd (let long = length-append first_line (blocks (e ∷ es)) in omega (arith, long, short))

-- the parts of an entry have a byte
some_open : (p : Parts) → 1 ≤ length (open_text p)
some_open p =
    let word = length-append (decimal p.moment) (32 ∷ []) in
    let all = length-append (number_word p.moment 32) (verb_word p.verb ++ (number_word (length p.target) 32 ++ (number_word (length p.body) 32 ++ (size_word (option_map length p.reply) ++ (p.target ++ (p.body ++ unwrap_or p.reply [])))))) in
    omega (arith, word, all)

-- the line of an opening alone begins with no block
no_block_alone : (boot : ℕ) → IsMoment boot → (b rest : List ℕ) → IsBlock b → boot_line boot ≡ b ++ rest → ⊥
no_block_alone boot is b rest block same =
    let p = block.parts in
    let longer : IsBlock (block_text (Some boot) p) = record { boot = Some boot; parts = p; boot_small = omega (arith, is); small = block.small; text = refl } in
    let one : b ≡ block_text (Some boot) p =
    one_block b (block_text (Some boot) p) (rest ++ open_text p) [] block longer
    (sym (append_assoc b rest (open_text p)) ∙ ap (λ (l : List ℕ). l ++ open_text p) (sym same) ∙ sym (append-nil (block_text (Some boot) p))) in
    let some = some_open p in
    let whole : length b ≡ length (boot_line boot) + length (open_text p) = ap (λ (l : List ℕ). length l) one ∙ length-append (boot_line boot) (open_text p) in
    let parts : length (boot_line boot) ≡ length b + length rest = ap (λ (l : List ℕ). length l) same ∙ length-append b rest in
    absurd (omega (arith, some, whole, parts))

unmade_says : (file : List ℕ) → IsUnmade file → Says IsBlock file []
unmade_says file is = inr (is, refl)

module _ (file : List ℕ) (end : ℕ) (is : IsFront IsBlock file end) where
  stands_so : (es : List (List ℕ)) → AllByRecursion IsBlock es → take end file ≡ front es → Stands IsBlock file es
  stands_so es valid same = record { end = drop end file; valid = valid; split = sym (take-append-drop end file) ∙ ap (λ (l : List ℕ). l ++ drop end file) same; tail = is.tail }

  -- nothing stands behind the first line
  pub says_none : end ≡ 13 → Says IsBlock file []
  says_none e =
      let none = no_blocks is.entries (subst (λ (l : List ℕ). length l ≤ 13) is.front_is (let cut = length-take end file in omega (arith, e, cut))) in
      inl (stands_so [] tt (is.front_is ∙ ap front none))

  -- the blocks with a line feed behind them
  abbrev pub text : List ℕ
  text = take end file ++ 10 ∷ []

  -- where these are entries, no run without one has this record
  some_entries : (entries : List (List ℕ)) → AllByRecursion IsBlock entries → take end file ≡ front entries → end ≢ 13 → (run : Recorded) → Records text run → run.entries ≢ []
  some_entries [] all same more run records none =
      more (let cut = length-take end file in let within = is.within in let first = ap (λ (l : List ℕ). length l) same in omega (arith, cut, within, first))
  some_entries (b ∷ bs) all same more run records none =
      no_block_alone run.boot records.valid.boot b (blocks bs ++ 10 ∷ []) all.0 (
      sym (append-nil (boot_line run.boot))
      ∙ ap (λ (es : List Entry). boot_line run.boot ++ flat_map entry_text es) (sym none)
      ∙ ap (drop 14) (sym (append_assoc runs.first_line (boot_line run.boot) (flat_map entry_text run.entries)) ∙ sym records.text ∙ ap (λ (l : List ℕ). l ++ 10 ∷ []) same)
      ∙ append_assoc b (blocks bs) (10 ∷ [])
      )

  pub ceases : (place : ℕ) → BreaksAt text place → CeasesAt file place
  ceases place breaks =
      in_blocks is.entries (inl (stands_so is.entries is.valid is.front_is)) (subst (λ (l : List ℕ). BreaksAt (l ++ 10 ∷ []) place) is.front_is breaks)

  module _ (one_meaning : OneMeaning IsBlock) (at_rest : RecordAtRest) where
    -- a run that the file says has this record, where something stands behind the first line
    says_record : (boot : ℕ) (entries : List Entry) → end ≢ 13 → SaysRun file boot entries → Records text (record { boot = boot; entries = entries }) × (entries ≢ [])
    says_record boot [] more says =
        let none : is.entries ≡ [] = one_meaning file is.entries [] (inl (stands_so is.entries is.valid is.front_is)) says.blocks in
        absurd (more (let cut = length-take end file in let within = is.within in let first = ap (λ (l : List ℕ). length l) (is.front_is ∙ ap front none) in omega (arith, cut, within, first)))
    says_record boot (e ∷ es) more says =
        let same : run_blocks boot (e ∷ es) ≡ is.entries = one_meaning file (run_blocks boot (e ∷ es)) is.entries says.blocks (inl (stands_so is.entries is.valid is.front_is)) in (
          record { valid = says.valid; text = ap (λ (l : List ℕ). l ++ 10 ∷ []) (is.front_is ∙ ap front (sym same)) ∙ sym (at_rest boot e es says.valid).text },
          λ none. cc none,
        )

    -- and it says the run whose record this is
    record_says : (boot : ℕ) (entries : List Entry) → Records text (record { boot = boot; entries = entries }) → entries ≢ [] → SaysRun file boot entries
    record_says boot [] records some = absurd (some refl)
    record_says boot (e ∷ es) records some =
        let rest = at_rest boot e es records.valid in
        record { valid = records.valid; blocks = inl (stands_so (run_blocks boot (e ∷ es)) rest.blocks (append_cancel_right (take end file) (front (run_blocks boot (e ∷ es))) (10 ∷ []) (records.text ∙ rest.text))) }

    pub is_said : (bytes : List ℕ) → bytes ≡ text → end ≢ 13 → (run : Recorded) → Records bytes run → IsSaid file (Some bytes)
    is_said bytes same more run records =
        let here : Records text run = subst (λ (l : List ℕ). Records l run) same records in
        let some = some_entries is.entries is.valid is.front_is more run here in
        (run, records, record_says run.boot run.entries here some, some)

    pub says_no_run : end ≢ 13 → (place : ℕ) → SpelledIsUnbroken → BreaksAt text place → SaysNoRun file
    says_no_run more place unbroken breaks boot entries says = unbroken text (record { boot = boot; entries = entries }) place (says_record boot entries more says).0 breaks

-- a read changes nothing of what a crash may leave
pub read_leaves : {D : Type 0} (may_leave : D → List ℕ → Type 0) (moment : D → ℕ) (left_since : D → ℕ → List ℕ → Type 0) (old new : D)
    → ((c : List ℕ) → left_since old (moment old) c → may_leave old c) → ((c : List ℕ) → may_leave new c → may_leave old c)
    → Elapses (moment old) (moment new) (left_since old) (left_since new) (may_leave new) → LeavesOnly moment left_since old new (may_leave old)
read_leaves may_leave moment left_since old new only crash time = record {
  later = time.later;
  each = λ c left. ⊎_elim (only c) (crash c) (time.nothing_else (moment old) c (le_refl (moment old)) left);
  before = λ t c le left. ⊎_elim (λ was. inl was) (λ now. inr (crash c now)) (time.nothing_else t c le left);
}

-- why no run was read of its bytes is why none was read of a file
pub unsaid_of : {A : Type 0} (r : Result A SayingFault) (file : List ℕ) → IfErr r (UnsaidBy file) → IfErr r (Unsaid file)
unsaid_of (Ok x) file why = tt
unsaid_of (Err (faults.Record place)) file why = why
unsaid_of (Err faults.Failed) file why = tt
unsaid_of (Err faults.Memory) file why = tt

-- bytes that are read never fail
pub never_failed : {A : Type 0} (r : Result A SayingFault) (file : List ℕ) → IfErr r (UnsaidBy file) → r ≡ Err faults.Failed → ⊥
never_failed {A} r file why is = subst (λ (x : Result A SayingFault). IfErr x (UnsaidBy file)) is why
