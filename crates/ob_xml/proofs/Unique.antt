-- There is one verdict, and a fault stays.
use Rattle.std.proofs.Common.{◌≡◌, ◌≢◌, ℕ, ◌+◌, ◌-◌, ◌<◌, ◌≤◌, Bool, true, false, cond, zero, suc, List, [], ◌∷◌, ◌++◌, length, take, Option, Some, None, Result, Ok, Err, refl, sym, ap, subst, ◌∙◌, arith, length-append}
use Rattle.std.specs.Prelude.{nat_le}
use Rattle.std.proofs.lemmas.Bool.Decides.{nat_tests}
use Rattle.std.proofs.lemmas.Grind.{common_steps}
use Rattle.ob_scan.specs.declared.piece.Place.{Place}
use Rattle.ob_scan.specs.declared.piece.Place.TheVariants.{Start, Marked, Between, InTag, After}
use Rattle.ob_scan.specs.declared.piece.Why.{Why as ScanWhy}
use Rattle.ob_scan.specs.Reading.{is_space, behind_spaces}
use Rattle.ob_scan.specs.Constructs.{Construct, Scanned, found, more, refused, scan, tag_part, lead}
use Rattle.ob_scan.specs.Constructs as constructs
use Rattle.ob_scan.specs.Expansion.{Expands}
use Rattle.ob_scan.specs.Judgement.{StaysWith, IsJudgedOnce}
use Rattle.ob_xml.specs.declared.doc.Doc.{Doc}
use Rattle.ob_xml.specs.declared.refused.Why.{Why}
use Rattle.ob_spelling.specs.declared.fault.ValueFault.{ValueFault}
use Rattle.ob_object.specs.declared.kind.Kind.{Kind}
use Rattle.ob_encoding.specs.declared.field.Field.{Field}
use Rattle.ob_encoding.specs.declared.part.Part.{Part}
use Rattle.ob_encoding.specs.Fields.{known}
use Rattle.ob_encoding.specs.Parts.{ReadsPart, read_as}
use Rattle.ob_xml.specs.declared.meaning.Said.{Said}
use Rattle.ob_xml.specs.declared.meaning.Said.TheVariants as said
use Rattle.ob_xml.specs.Meanings.{Meaning, attribute, Means, ReadsKnown}
use Rattle.ob_xml.specs.Structure.{State, whole, place_of, kind_in, step, beginning}
use Rattle.ob_xml.specs.Judged.{Verdict, pending, document, fault, cause_of, is_open, Judges, complete, goes_on, misplaced, malformed, unfinished, overlong, max_len, JudgedBy, Judged}

-- a value stands for one text
abbrev pub OneText : Type 0
OneText = (raw text other : List ℕ) → Expands raw text → Expands raw other → text ≡ other

-- an attribute says one thing
abbrev pub OnePart : Type 0
OnePart = (kind : Kind) (field : Field) (text : List ℕ) (a b : Result Part ValueFault) → ReadsPart kind field text a → ReadsPart kind field text b → a ≡ b

one_said : (one : OnePart) (f : Option Field) (k : Kind) (text : List ℕ) (a b : Result Said ValueFault) → ReadsKnown f k text a → ReadsKnown f k text b → a ≡ b
one_said one None k text a b p q = p ∙ sym q
one_said one (Some f) k text a b p q = p.2 ∙ ap (λ (r : Result Part ValueFault). read_as (λ x. said.Part x) r) (one k f text p.0 q.0 p.1 q.1) ∙ sym q.2

-- a construct means one thing
means_one : (texts : OneText) (one : OnePart) (k : Kind) (c : Construct) (p q : Meaning) → Means k c p → Means k c q → p ≡ q
means_one texts one k (constructs.opening name) p q h i = h ∙ sym i
means_one texts one k (constructs.attribute name raw) p q h i =
    let same : i.0 ≡ h.0 = texts raw i.0 h.0 i.1 h.1 in
    let there : ReadsKnown (known k name) k h.0 i.2.0 = subst (λ (t : List ℕ). ReadsKnown (known k name) k t i.2.0) same i.2.1 in
    h.2.2 ∙ ap (attribute name) (one_said one (known k name) k h.0 h.2.0 i.2.0 h.2.1 there) ∙ sym i.2.2
means_one texts one k constructs.tag_end p q h i = h ∙ sym i
means_one texts one k constructs.empty_end p q h i = h ∙ sym i
means_one texts one k (constructs.closing name) p q h i = h ∙ sym i
means_one texts one k constructs.skipped p q h i = h ∙ sym i
means_one texts one k constructs.ending p q h i = h ∙ sym i
means_one texts one k constructs.mark p q h i = h ∙ sym i

whole_is : (ended : Bool) (x : Doc) (at : ℕ) (bytes : List ℕ) (v : Verdict) → Judges ended (whole x) at bytes v → v ≡ document x
whole_is ended x at bytes v (complete t a b) = refl
whole_is ended x at bytes v (goes_on s1 u a b rest c p w o f m g later) = absurd cc
whole_is ended x at bytes v (misplaced s1 a b rest c p why o f m g) = absurd cc
whole_is ended x at bytes v (malformed s1 a b k why o f) = absurd cc
whole_is ended x at bytes v (unfinished s1 a b o f) = absurd cc

-- what a verdict on a state that is open says, by what stands at the place
record Told (ended : Bool) (s : State) (at : ℕ) (bytes : List ℕ) (v : Verdict) : Type 0 where
  on : (c : Construct) (p : Meaning) (rest : List ℕ) (t : State) → scan (place_of s) ended bytes ≡ found c rest → Means (kind_in s) c p → step s p ≡ Ok t → Judges ended t (at + (length bytes - length rest)) rest v
  off : (c : Construct) (p : Meaning) (rest : List ℕ) (why : Why) → scan (place_of s) ended bytes ≡ found c rest → Means (kind_in s) c p → step s p ≡ Err why → v ≡ fault (at + lead (place_of s) bytes) why
  bad : (k : ℕ) (why : ScanWhy) → scan (place_of s) ended bytes ≡ refused k why → v ≡ fault (at + k) (cause_of why)
  wait : scan (place_of s) ended bytes ≡ more → v ≡ pending

told : (texts : OneText) (one : OnePart) (ended : Bool) (s : State) (at : ℕ) (bytes : List ℕ) (v : Verdict) → is_open s ≡ true → Judges ended s at bytes v → Told ended s at bytes v
told texts one ended s at bytes v i (complete t a b) = absurd cc
told texts one ended s at bytes v i (goes_on s1 t a b rest c p w o f m g later) = record {
  on = λ c2 p2 rest2 t2 f2 m2 g2.
      let cs : c2 ≡ c = cc in let rs : rest ≡ rest2 = cc in
      let ps : p ≡ p2 = means_one texts one (kind_in s1) c p p2 m (subst (λ (x : Construct). Means (kind_in s1) x p2) cs m2) in
      let g3 : step s1 p ≡ Ok t2 = ap (step s1) ps ∙ g2 in
      let ts : t ≡ t2 = cc in
      subst (λ (r : List ℕ). Judges ended t2 (a + (length b - length r)) r w) rs (subst (λ (x : State). Judges ended x (a + (length b - length rest)) rest w) ts later);
  off = λ c2 p2 rest2 why f2 m2 g2.
      let cs : c2 ≡ c = cc in
      let ps : p ≡ p2 = means_one texts one (kind_in s1) c p p2 m (subst (λ (x : Construct). Means (kind_in s1) x p2) cs m2) in
      let g3 : step s1 p ≡ Err why = ap (step s1) ps ∙ g2 in absurd cc;
  bad = λ k why f2. absurd cc;
  wait = λ f2. absurd cc;
}
told texts one ended s at bytes v i (misplaced s1 a b rest c p why o f m g) = record {
  on = λ c2 p2 rest2 t2 f2 m2 g2.
      let cs : c2 ≡ c = cc in
      let ps : p ≡ p2 = means_one texts one (kind_in s1) c p p2 m (subst (λ (x : Construct). Means (kind_in s1) x p2) cs m2) in
      let g3 : step s1 p ≡ Ok t2 = ap (step s1) ps ∙ g2 in absurd cc;
  off = λ c2 p2 rest2 why2 f2 m2 g2.
      let cs : c2 ≡ c = cc in
      let ps : p ≡ p2 = means_one texts one (kind_in s1) c p p2 m (subst (λ (x : Construct). Means (kind_in s1) x p2) cs m2) in
      let g3 : step s1 p ≡ Err why2 = ap (step s1) ps ∙ g2 in let ws : why ≡ why2 = cc in ap (fault (a + lead (place_of s1) b)) ws;
  bad = λ k why2 f2. absurd cc;
  wait = λ f2. absurd cc;
}
told texts one ended s at bytes v i (malformed s1 a b k why o f) = record {
  on = λ c2 p2 rest2 t2 f2 m2 g2. absurd cc;
  off = λ c2 p2 rest2 why2 f2 m2 g2. absurd cc;
  bad = λ k2 why2 f2. let ks : k ≡ k2 = cc in let ws : why ≡ why2 = cc in ap (λ (n : ℕ). fault (a + n) (cause_of why)) ks ∙ ap (λ (w : ScanWhy). fault (a + k2) (cause_of w)) ws;
  wait = λ f2. absurd cc;
}
told texts one ended s at bytes v i (unfinished s1 a b o f) = record {
  on = λ c2 p2 rest2 t2 f2 m2 g2. absurd cc;
  off = λ c2 p2 rest2 why2 f2 m2 g2. absurd cc;
  bad = λ k2 why2 f2. absurd cc;
  wait = λ f2. refl;
}

pub one_judgement : (texts : OneText) (one : OnePart) (ended : Bool) (s : State) (at : ℕ) (bytes : List ℕ) (v w : Verdict) → Judges ended s at bytes v → Judges ended s at bytes w → v ≡ w
one_judgement texts one ended s at bytes v w (complete t a b) j = sym (whole_is ended t a b w j)
one_judgement texts one ended s at bytes v w (goes_on s1 t a b rest c p u o f m g later) j = one_judgement texts one ended t _ rest u w later ((told texts one ended s1 a b w o j).on c p rest t f m g)
one_judgement texts one ended s at bytes v w (misplaced s1 a b rest c p why o f m g) j = sym ((told texts one ended s1 a b w o j).off c p rest why f m g)
one_judgement texts one ended s at bytes v w (malformed s1 a b k why o f) j = sym ((told texts one ended s1 a b w o j).bad k why f)
one_judgement texts one ended s at bytes v w (unfinished s1 a b o f) j = sym ((told texts one ended s1 a b w o j).wait f)

one_by : (texts : OneText) (one : OnePart) (fits ended : Bool) (bytes : List ℕ) (v w : Verdict) → JudgedBy fits bytes ended v → JudgedBy fits bytes ended w → v ≡ w
one_by texts one true ended bytes v w p q = one_judgement texts one ended beginning 0 bytes v w p q
one_by texts one false ended bytes v w p q = p.2 ∙ ap overlong (one_judgement texts one false beginning 0 (take max_len bytes) p.0 q.0 p.1 q.1) ∙ sym q.2

pub one_verdict : (texts : OneText) (one : OnePart) (bytes : List ℕ) (ended : Bool) (v w : Verdict) → Judged bytes ended v → Judged bytes ended w → v ≡ w
one_verdict texts one bytes ended v w p q = one_by texts one (nat_le (length bytes) max_len) ended bytes v w p q

-- ---- longer input

some_left : (bytes tail : List ℕ) → behind_spaces bytes ≢ [] → behind_spaces (bytes ++ tail) ≡ behind_spaces bytes ++ tail
some_left [] tail h = absurd (h refl)
some_left (b ∷ bytes) tail h = elim (is_space b) as (λ v. (cond v (behind_spaces bytes) (b ∷ bytes) ≢ []) → cond v (behind_spaces (bytes ++ tail)) (b ∷ (bytes ++ tail)) ≡ cond v (behind_spaces bytes) (b ∷ bytes) ++ tail) [
  | true ↦ λ h. some_left bytes tail h
  | false ↦ λ h. refl
] h

not_blank : (bytes rest : List ℕ) (c : Construct) → scan InTag false bytes ≡ found c rest → behind_spaces bytes ≢ []
not_blank bytes rest c e h = let waits : more ≡ found c rest = subst (λ (xs : List ℕ). tag_part false bytes xs ≡ found c rest) h e in absurd cc

none : (n m : ℕ) → n - n ≡ m - m
none n m = omega arith

same_lead : (place : Place) (bytes tail rest : List ℕ) (c : Construct) → scan place false bytes ≡ found c rest → lead place (bytes ++ tail) ≡ lead place bytes
same_lead Start bytes tail rest c e = none (length (bytes ++ tail)) (length bytes)
same_lead Marked bytes tail rest c e = none (length (bytes ++ tail)) (length bytes)
same_lead Between bytes tail rest c e = none (length (bytes ++ tail)) (length bytes)
same_lead InTag bytes tail rest c e = omega (arith, ap length (some_left bytes tail (not_blank bytes rest c e)), length-append bytes tail, length-append (behind_spaces bytes) tail)
same_lead After bytes tail rest c e = none (length (bytes ++ tail)) (length bytes)

fault_goes_on : (judged : IsJudgedOnce) (ended : Bool) (s : State) (at : ℕ) (bytes tail : List ℕ) (v : Verdict) (place : ℕ) (why : Why) → Judges false s at bytes v → v ≡ fault place why → Judges ended s at (bytes ++ tail) v
fault_goes_on judged ended s at bytes tail v place why (complete t a b) e = absurd cc
fault_goes_on judged ended s at bytes tail v place why (goes_on s1 t a b rest c p u o f m g later) e =
    let h : scan (place_of s1) ended (b ++ tail) ≡ found c (rest ++ tail) = subst (λ (r : Scanned). StaysWith tail r (scan (place_of s1) ended (b ++ tail))) f (judged (place_of s1) ended b tail) in
    let n : a + (length (b ++ tail) - length (rest ++ tail)) ≡ a + (length b - length rest) = omega (arith, length-append b tail, length-append rest tail) in
    goes_on s1 t a (b ++ tail) (rest ++ tail) c p u o h m g (subst (λ (k : ℕ). Judges ended t k (rest ++ tail) u) (sym n) (fault_goes_on judged ended t _ rest tail u place why later e))
fault_goes_on judged ended s at bytes tail v place why (misplaced s1 a b rest c p w o f m g) e =
    let h : scan (place_of s1) ended (b ++ tail) ≡ found c (rest ++ tail) = subst (λ (r : Scanned). StaysWith tail r (scan (place_of s1) ended (b ++ tail))) f (judged (place_of s1) ended b tail) in
    subst (λ (k : ℕ). Judges ended s1 a (b ++ tail) (fault (a + k) w)) (same_lead (place_of s1) b tail rest c f) (misplaced s1 a (b ++ tail) (rest ++ tail) c p w o h m g)
fault_goes_on judged ended s at bytes tail v place why (malformed s1 a b k w o f) e =
    let h : scan (place_of s1) ended (b ++ tail) ≡ refused k w = subst (λ (r : Scanned). StaysWith tail r (scan (place_of s1) ended (b ++ tail))) f (judged (place_of s1) ended b tail) in
    malformed s1 a (b ++ tail) k w o h
fault_goes_on judged ended s at bytes tail v place why (unfinished s1 a b o f) e = absurd cc

-- the first bytes of a longer text that is too long
pub front_of_longer : (bytes tail : List ℕ) (n : ℕ) → length bytes ≤ n → take n (bytes ++ tail) ≡ bytes ++ take (n - length bytes) tail
front_of_longer [] tail n le = let e : n - 0 ≡ n = omega arith in rw e refl
front_of_longer (b ∷ bytes) tail zero le = absurd (omega arith)
front_of_longer (b ∷ bytes) tail (suc n) le =
    let e : suc n - length (b ∷ bytes) ≡ n - length bytes = omega arith in
    rw e (ap (λ (xs : List ℕ). b ∷ xs) (front_of_longer bytes tail n (omega arith)))

front_stays : (bytes tail : List ℕ) (n : ℕ) → n ≤ length bytes → take n (bytes ++ tail) ≡ take n bytes
front_stays bytes tail n le = grind (arith, common_steps)

by_length : (judged : IsJudgedOnce) (bytes tail : List ℕ) (ended fits fits_too : Bool) (at : ℕ) (why : Why) → nat_le (length bytes) max_len ≡ fits → nat_le (length (bytes ++ tail)) max_len ≡ fits_too
    → JudgedBy fits bytes false (fault at why) → JudgedBy fits_too (bytes ++ tail) ended (fault at why)
by_length judged bytes tail ended true true at why p q j = fault_goes_on judged ended beginning 0 bytes tail (fault at why) at why j refl
by_length judged bytes tail ended true false at why p q j =
    let le : length bytes ≤ max_len = grind (arith, nat_tests) in
    (fault at why, subst (λ (xs : List ℕ). Judges false beginning 0 xs (fault at why)) (sym (front_of_longer bytes tail max_len le)) (fault_goes_on judged false beginning 0 bytes (take (max_len - length bytes) tail) (fault at why) at why j refl), refl)
by_length judged bytes tail ended false true at why p q j =
    let long : max_len < length bytes = grind (arith, nat_tests) in
    let short : length (bytes ++ tail) ≤ max_len = grind (arith, nat_tests) in
    absurd (omega (arith, length-append bytes tail))
by_length judged bytes tail ended false false at why p q j =
    let long : max_len < length bytes = grind (arith, nat_tests) in
    (j.0, subst (λ (xs : List ℕ). Judges false beginning 0 xs j.0) (sym (front_stays bytes tail max_len (omega arith))) j.1, j.2)

pub fault_stays : (judged : IsJudgedOnce) (bytes tail : List ℕ) (ended : Bool) (at : ℕ) (why : Why) → Judged bytes false (fault at why) → Judged (bytes ++ tail) ended (fault at why)
fault_stays judged bytes tail ended at why j = by_length judged bytes tail ended (nat_le (length bytes) max_len) (nat_le (length (bytes ++ tail)) max_len) at why refl refl j
