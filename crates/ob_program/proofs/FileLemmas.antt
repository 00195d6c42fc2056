-- A file as far as it is read.
use Rattle.std.proofs.Common.{◌≡◌, ℕ, zero, suc, ◌<◌, ◌≤◌, Bool, true, false, List, [], ◌∷◌, refl, ap, subst, length, take, arith, length-take, Option, Some, None, Result, Ok, Err}
use Rattle.std.specs.Prelude.{IfSome, OnOk, nat_le}
use Rattle.std.proofs.lemmas.List.{take_all}
use Rattle.std.proofs.lemmas.Bool.Decides.{nat_tests}
use Rattle.ob_xml.specs.declared.doc.Doc.{Doc}
use Rattle.ob_xml.specs.Structure.{beginning}
use Rattle.ob_xml.specs.Judged.{Verdict, document, fault, max_len, Judges, JudgedFront, JudgedBy, Judged}
use Rattle.ob_program.specs.declared.document.DocumentFault.{DocumentFault}
use Rattle.ob_program.specs.declared.document.DocumentFault.TheVariants.{Refused, Failed, Memory}
use Rattle.ob_program.specs.Reading.{Reads, ReadsFile}

take_front : (n m : ℕ) (xs : List ℕ) → n ≤ m → take n (take m xs) ≡ take n xs
take_front zero m xs le = refl
take_front (suc n) zero xs le = absurd (omega (arith, le))
take_front (suc n) (suc m) [] le = refl
take_front (suc n) (suc m) (x ∷ xs) le = ap (λ (t : List ℕ). x ∷ t) (take_front n m xs (omega (arith, le)))

is_short : (n : ℕ) → nat_le n max_len ≡ true → n ≤ max_len
is_short n e = grind (arith, nat_tests)

is_long : (n : ℕ) → nat_le n max_len ≡ false → max_len < n
is_long n e = grind (arith, nat_tests)

-- one byte more than a document has is read, and decides the same
by_size : (whole : List ℕ) (fits front_fits : Bool) (v : Verdict) → nat_le (length whole) max_len ≡ fits → nat_le (length (take 16777217 whole)) max_len ≡ front_fits
    → JudgedBy front_fits (take 16777217 whole) true v → JudgedBy fits whole true v
by_size whole true true v p q j = subst (λ (t : List ℕ). Judges true beginning 0 t v) (take_all 16777217 whole (omega (arith, is_short (length whole) p))) j
by_size whole true false v p q j = absurd (omega (arith, is_short (length whole) p, is_long (length (take 16777217 whole)) q, length-take 16777217 whole))
by_size whole false true v p q j = absurd (omega (arith, is_long (length whole) p, is_short (length (take 16777217 whole)) q, length-take 16777217 whole))
by_size whole false false v p q j = subst (λ (t : List ℕ). JudgedFront t v) (take_front max_len 16777217 whole (omega arith)) j

judged_whole : (whole bytes : List ℕ) (v : Verdict) → bytes ≡ take 16777217 whole → Judged bytes true v → Judged whole true v
judged_whole whole bytes v e j =
    by_size whole (nat_le (length whole) max_len) (nat_le (length (take 16777217 whole)) max_len) v refl refl (subst (λ (t : List ℕ). Judged t true v) e j)

reads_whole : (whole bytes : List ℕ) (result : Result Doc DocumentFault) → bytes ≡ take 16777217 whole → Reads bytes result → Reads whole result
reads_whole whole bytes (Ok doc) e r = judged_whole whole bytes (document doc) e r
reads_whole whole bytes (Err (Refused refused)) e r = judged_whole whole bytes (fault refused.at refused.why) e r
reads_whole whole bytes (Err Failed) e r = tt
reads_whole whole bytes (Err Memory) e r = tt

told_reads : (content : Option (List ℕ)) (bytes : List ℕ) (result : Result Doc DocumentFault) → IfSome content (λ whole. bytes ≡ take 16777217 whole) → Reads bytes result → IfSome content (λ whole. Reads whole result)
told_reads None bytes result e r = tt
told_reads (Some whole) bytes result e r = reads_whole whole bytes result e r

pub reads_file : (content : Option (List ℕ)) (bytes : List ℕ) (result : Result Doc DocumentFault) → IfSome content (λ whole. bytes ≡ take 16777217 whole) → Reads bytes result → ReadsFile content result
reads_file content bytes result e r = record { bytes = bytes; read = r; told = told_reads content bytes result e r }

always : (content : Option (List ℕ)) (P : List ℕ → Type 0) → ((bytes : List ℕ) → P bytes) → IfSome content P
always None P h = tt
always (Some whole) P h = h whole

pub reads_none : (content : Option (List ℕ)) (why : DocumentFault) → ((bytes : List ℕ) → Reads bytes (Err why)) → ReadsFile content (Err why)
reads_none content why h = record { bytes = []; read = h []; told = always content (λ bytes. Reads bytes (Err why)) h }

-- ---- a document that was read

-- a text has one verdict
abbrev pub IsOnce : Type 0
IsOnce = (bytes : List ℕ) (ended : Bool) (v w : Verdict) → Judged bytes ended v → Judged bytes ended w → v ≡ w

pub if_told : (content : Option (List ℕ)) (P Q : List ℕ → Type 0) → ((bytes : List ℕ) → P bytes → Q bytes) → IfSome content P → IfSome content Q
if_told None P Q h p = tt
if_told (Some whole) P Q h p = h whole p

pub empty : (xs : List ℕ) → length xs ≡ 0 → xs ≡ []
empty [] e = refl
empty (x ∷ xs) e = absurd (omega arith)

pub on_ok : {T E : Type 0} (r : Result T E) (v : T) (P : Type 0) → r ≡ Ok v → OnOk r P → P
on_ok (Ok w) v P e h = h
on_ok (Err x) v P e h = cc
