-- What reading a record comes to.
use Rattle.std.proofs.Common.{◌≡◌, ◌≢◌, ℕ, ◌+◌, ◌<◌, ◌≤◌, List, [], ◌∷◌, ◌++◌, length, codes, decimal, option_map, unwrap_or, Some, None, refl, sym, ap, subst, ◌∙◌, append_assoc, append-nil, arith, length-append}
use Rattle.std.specs.List.{flat_map, AllByRecursion}
use Rattle.std.proofs.lemmas.List.Concat.{flat_map-cons, flat_map-append}
use Rattle.std.proofs.lemmas.Option.{some_pair_parts}
use Rattle.ob_times.specs.Times.{IsMoment}
use Rattle.ob_record.specs.declared.fault.RecordFault.{RecordFault}
use Rattle.ob_record.specs.declared.fault.RecordFault.TheVariants.{At, Memory}
use Rattle.ob_record.specs.declared.run.Entry.{Entry}
use Rattle.ob_record.specs.Parts.{Parts, parts_text, verb_word, number_word, size_word}
use Rattle.ob_record.specs.Reading.{after, number_at, boot_at, parts_at}
use Rattle.ob_record.specs.Runs.{Recorded, parts_of, entry_text, IsEntry, Records, AreEntries, IsMeasured, BeginsNone, first_line, boot_line, head_text, run_text}
use Rattle.ob_record.specs.Broken.{BreaksAt, in_first_line, in_second_line, in_entry, BreaksOff, Breaks}
use Rattle.ob_record.proofs.Words.{bind_some, after_again, after_found, number_found, number_again}
use Rattle.ob_record.proofs.PartLaws.{parts_again, parts_found}
use Rattle.ob_record.proofs.RunLaws.{small_parts}

-- ---- entries

-- no parts are found: no entry stands there
pub none_parted : (bytes : List ℕ) → parts_at bytes ≡ None → BeginsNone bytes
none_parted bytes none e rest valid is =
    absurd (let read : None ≡ Some (parts_of e, rest) = sym none ∙ ap parts_at is ∙ parts_again (parts_of e) rest (small_parts e valid) in cc)

-- parts that no entry has are found: no entry stands there
pub none_decoded : (bytes : List ℕ) (p : Parts) (rest : List ℕ) → parts_at bytes ≡ Some (p, rest) → ((e : Entry) → IsEntry e → p ≡ parts_of e → ⊥) → BeginsNone bytes
none_decoded bytes p rest found none e more valid is =
    let read : Some (p, rest) ≡ Some (parts_of e, more) = sym found ∙ ap parts_at is ∙ parts_again (parts_of e) more (small_parts e valid) in
    none e valid (some_pair_parts p (parts_of e) rest more read).0

-- the bytes are these entries, and then the rest
pub record ReadSoFar (bytes : List ℕ) (entries : List Entry) (rest : List ℕ) : Type 0 where
  pub valid : AllByRecursion IsEntry entries
  pub text : bytes ≡ flat_map entry_text entries ++ rest

all_snoc : (entries : List Entry) (e : Entry) → AllByRecursion IsEntry entries → IsEntry e → AllByRecursion IsEntry (entries ++ e ∷ [])
all_snoc [] e all one = (one, tt)
all_snoc (f ∷ entries) e all one = (all.0, all_snoc entries e all.1 one)

pub read_none : (bytes : List ℕ) → ReadSoFar bytes [] bytes
read_none bytes = record { valid = tt; text = refl }

pub read_more : (bytes : List ℕ) (entries : List Entry) (rest : List ℕ) (e : Entry) (more : List ℕ) → ReadSoFar bytes entries rest
    → IsEntry e → rest ≡ entry_text e ++ more → ReadSoFar bytes (entries ++ e ∷ []) more
read_more bytes entries rest e more so_far valid text =
    record {
      valid = all_snoc entries e so_far.valid valid;
      text = so_far.text ∙ ap (λ (l : List ℕ). flat_map entry_text entries ++ l) text
          ∙ sym (append_assoc (flat_map entry_text entries) (entry_text e) more)
          ∙ ap (λ (l : List ℕ). l ++ more) (ap (λ (l : List ℕ). flat_map entry_text entries ++ l) (sym (append-nil (entry_text e)) ∙ sym (flat_map-cons entry_text e [])) ∙ sym (flat_map-append entry_text entries (e ∷ [])));
    }

pub read_ended : (bytes : List ℕ) (entries : List Entry) (rest : List ℕ) → rest ≡ [] → ReadSoFar bytes entries rest → AreEntries entries bytes
read_ended bytes entries rest none so_far =
    (so_far.valid, so_far.text ∙ ap (λ (l : List ℕ). flat_map entry_text entries ++ l) none ∙ append-nil (flat_map entry_text entries))

pub read_broken : (bytes : List ℕ) (entries : List Entry) (rest : List ℕ) (whole place : ℕ) → ReadSoFar bytes entries rest → rest ≢ [] → BeginsNone rest → place + length rest ≡ whole
    → Breaks bytes whole (At place)
read_broken bytes entries rest whole place so_far some none is =
    record { entries = entries; rest = rest; valid = so_far.valid; text = so_far.text; some = some; none = none; place_is = is }

-- ---- the first two lines

pub no_first_line : (bytes : List ℕ) → after first_line bytes ≡ None → BreaksAt bytes 0
no_first_line bytes none = in_first_line refl (λ rest is. absurd (let read : None ≡ Some rest = sym none ∙ ap (after first_line) is ∙ after_again first_line rest in cc))

boot_again : (boot : ℕ) (rest : List ℕ) → IsMoment boot → boot_at (boot_line boot ++ rest) ≡ Some (boot, rest)
unfolding boot_at
boot_again boot rest moment = number_again 10 boot rest refl (omega (arith, moment))

boot_found : (bytes : List ℕ) (boot : ℕ) (rest : List ℕ) → boot_at bytes ≡ Some (boot, rest) → bytes ≡ boot_line boot ++ rest
unfolding boot_at
boot_found bytes boot rest e =
    let b = bind_some (after (codes "boot ") bytes) (λ (r : List ℕ). number_at 10 r) (boot, rest) e in
    after_found (codes "boot ") bytes b.0 b.1 ∙ ap (λ (l : List ℕ). codes "boot " ++ l) (number_found 10 b.0 boot rest b.2).1

pub no_second_line : (bytes rest : List ℕ) → after first_line bytes ≡ Some rest → boot_at rest ≡ None → BreaksAt bytes 14
no_second_line bytes rest first none =
    in_second_line rest refl (after_found first_line bytes rest first)
    (λ boot more moment is. absurd (let read : None ≡ Some (boot, more) = sym none ∙ ap boot_at is ∙ boot_again boot more moment in cc))

pub no_moment : (bytes rest : List ℕ) (number : ℕ) (behind : List ℕ) → after first_line bytes ≡ Some rest → boot_at rest ≡ Some (number, behind) → (IsMoment number → ⊥) → BreaksAt bytes 14
no_moment bytes rest number behind first found none =
    in_second_line rest refl (after_found first_line bytes rest first)
    (λ boot more moment is.
    let read : Some (number, behind) ≡ Some (boot, more) = sym found ∙ ap boot_at is ∙ boot_again boot more moment in
    none (subst IsMoment (sym (some_pair_parts number boot behind more read).0) moment))

-- the bytes are the first two lines, and then those behind them
headed : (bytes rest : List ℕ) (boot : ℕ) (behind : List ℕ) → after first_line bytes ≡ Some rest → boot_at rest ≡ Some (boot, behind) → bytes ≡ head_text boot ++ behind
headed bytes rest boot behind first found =
    after_found first_line bytes rest first ∙ ap (λ (l : List ℕ). first_line ++ l) (boot_found rest boot behind found)
    ∙ sym (append_assoc first_line (boot_line boot) behind)

pub record_found : (bytes rest : List ℕ) (number : ℕ) (behind : List ℕ) (run : Recorded) → after first_line bytes ≡ Some rest → boot_at rest ≡ Some (number, behind) → IsMoment number
    → run.boot ≡ number → AreEntries run.entries behind → Records bytes run
record_found bytes rest number behind run first found moment is entries = record {
  valid = record { boot = subst IsMoment (sym is) moment; entries = entries.0 };
  text = headed bytes rest number behind first found ∙ ap (λ (l : List ℕ). head_text number ++ l) entries.1
      ∙ ap (λ (b : ℕ). head_text b ++ flat_map entry_text run.entries) (sym is);
}

pub record_broken : (bytes rest : List ℕ) (number : ℕ) (behind : List ℕ) (fault : RecordFault) → after first_line bytes ≡ Some rest → boot_at rest ≡ Some (number, behind) → IsMoment number
    → Breaks behind (length bytes) fault → BreaksOff bytes fault
record_broken bytes rest number behind (At place) first found moment broken =
    let run : Recorded = record { boot = number; entries = broken.entries } in
    let text : bytes ≡ run_text run ++ broken.rest =
    headed bytes rest number behind first found ∙ ap (λ (l : List ℕ). head_text number ++ l) broken.text
    ∙ sym (append_assoc (head_text number) (flat_map entry_text broken.entries) broken.rest) in
    in_entry run broken.rest (record { boot = moment; entries = broken.valid })
    (omega (arith, broken.place_is, ap (λ (l : List ℕ). length l) text, length-append (run_text run) broken.rest)) text broken.some broken.none
record_broken bytes rest number behind Memory first found moment broken = tt

-- ---- results

-- what stands behind the moment of an entry
drop_front : Parts → List ℕ
drop_front p =
    verb_word p.verb ++ (number_word (length p.target) 32 ++ (number_word (length p.body) 32 ++ (size_word (option_map length p.reply)
    ++ (p.target ++ (p.body ++ (unwrap_or p.reply [] ++ 10 ∷ []))))))

-- an entry has bytes
pub shorter : (bytes : List ℕ) (p : Parts) (rest : List ℕ) → parts_at bytes ≡ Some (p, rest) → length rest < length bytes
unfolding drop_front
shorter bytes p rest found =
    let text = (parts_found bytes p rest found).1 in
    let line = number_word p.moment 32 in
    let behind = drop_front p in
    omega (arith, ap (λ (l : List ℕ). length l) text, length-append (parts_text p) rest, length-append line behind, length-append (decimal p.moment) (32 ∷ []))

pub not_empty : (xs : List ℕ) → 0 < length xs → xs ≢ []
not_empty xs some none = absurd (omega (arith, some, ap (λ (l : List ℕ). length l) none))

-- what is left is no longer than all
pub rest_within : (bytes : List ℕ) (entries : List Entry) (rest : List ℕ) → ReadSoFar bytes entries rest → length rest ≤ length bytes
rest_within bytes entries rest so_far = omega (arith, ap (λ (l : List ℕ). length l) so_far.text, length-append (flat_map entry_text entries) rest)

pub behind_within : (bytes rest : List ℕ) (number : ℕ) (behind : List ℕ) → after first_line bytes ≡ Some rest → boot_at rest ≡ Some (number, behind) → length behind ≤ length bytes
behind_within bytes rest number behind first found =
    omega (arith, ap (λ (l : List ℕ). length l) (headed bytes rest number behind first found), length-append (head_text number) behind)

-- an entry has bytes
pub entry_shorter : (bytes : List ℕ) (e : Entry) (rest : List ℕ) → IsEntry e → bytes ≡ entry_text e ++ rest → length rest < length bytes
entry_shorter bytes e rest valid is = shorter bytes (parts_of e) rest (ap parts_at is ∙ parts_again (parts_of e) rest (small_parts e valid))

-- so many entries were read, and no fewer bytes
pub record Counted (bytes : List ℕ) (len : ℕ) (rest : List ℕ) : Type 0 where
  pub entries : List Entry
  pub so_far : ReadSoFar bytes entries rest
  pub len_is : len ≡ length entries
  pub within : len + length rest ≤ length bytes

pub counted_none : (bytes : List ℕ) → Counted bytes 0 bytes
counted_none bytes = record { entries = []; so_far = read_none bytes; len_is = refl; within = omega arith }

pub counted_more : (bytes : List ℕ) (len : ℕ) (rest : List ℕ) (e : Entry) (more : List ℕ) → Counted bytes len rest → IsEntry e → rest ≡ entry_text e ++ more
    → Counted bytes (len + 1) more
counted_more bytes len rest e more c valid is = record {
  entries = c.entries ++ e ∷ [];
  so_far = read_more bytes c.entries rest e more c.so_far valid is;
  len_is = omega (arith, c.len_is, length-append c.entries (e ∷ []));
  within = omega (arith, c.within, entry_shorter rest e more valid is);
}

pub counted_broken : (bytes : List ℕ) (len : ℕ) (rest : List ℕ) (whole place : ℕ) → Counted bytes len rest → rest ≢ [] → BeginsNone rest → place + length rest ≡ whole
    → Breaks bytes whole (At place)
counted_broken bytes len rest whole place c some none is = read_broken bytes c.entries rest whole place c.so_far some none is

pub counted_ended : (bytes : List ℕ) (len : ℕ) (rest : List ℕ) → rest ≡ [] → Counted bytes len rest
    → (entries : List Entry) × AreEntries entries bytes × (len ≡ length entries)
counted_ended bytes len rest none c = (c.entries, read_ended bytes c.entries rest none c.so_far, c.len_is)

pub measured : (bytes rest : List ℕ) (number boot : ℕ) (behind : List ℕ) (begin len : ℕ) → after first_line bytes ≡ Some rest → boot_at rest ≡ Some (number, behind)
    → IsMoment number → boot ≡ number → begin + length behind ≡ length bytes
    → (entries : List Entry) × AreEntries entries behind × (len ≡ length entries) → IsMeasured bytes boot begin len
measured bytes rest number boot behind begin len first found moment is at_begin told = record {
  run = record { boot = boot; entries = told.0 };
  records = record_found bytes rest number behind (record { boot = boot; entries = told.0 }) first found moment is told.1;
  boot_is = refl;
  first_is = omega (
    arith,
    at_begin,
    ap (λ (l : List ℕ). length l) (headed bytes rest number behind first found),
    length-append (head_text number) behind,
    ap (λ (b : ℕ). length (head_text b)) is,
  );
  len_is = told.2;
}
