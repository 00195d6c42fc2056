-- What was found or refused stays so, however the bytes go on.
use Rattle.std.proofs.Common.{◌≡◌, ℕ, ◌+◌, ◌-◌, Bool, true, false, ◌&&◌, ◌||◌, cond, eqb, List, [], ◌∷◌, ◌++◌, length, Option, Some, None, Result, Ok, Err, refl, sym, ap, subst, arith, length-append}
use Rattle.std.specs.Prelude.{codes}
use Rattle.std.proofs.lemmas.Bool.Decides.{nat_tests}
use Rattle.ob_scan.specs.declared.stop.Stop.{Stop}
use Rattle.ob_scan.specs.declared.stop.Stop.TheVariants.{Want, Malformed}
use Rattle.ob_scan.specs.declared.reading.Ends.{Ends}
use Rattle.ob_scan.specs.declared.reading.Ends.TheVariants.{Name, Target, Value}
use Rattle.ob_scan.specs.declared.character.Progress.{Progress}
use Rattle.ob_scan.specs.declared.character.Progress.TheVariants.{Whole}
use Rattle.ob_scan.specs.declared.piece.Place.TheVariants.{Start, Marked, Between, InTag, After}
use Rattle.ob_scan.specs.declared.piece.Why.TheVariants.{Text, Markup}
use Rattle.ob_scan.specs.Characters.{after_byte}
use Rattle.ob_scan.specs.Reading.{◌>>=◌, is_space, literal, behind_spaces, some_behind, spaces, is_whole, ends_at, run_from, run, not_empty, word, behind_pair_from, behind_pair}
use Rattle.ob_scan.specs.Constructs.{Construct, opening, tag_end, empty_end, closing, skipped, comment_at, is_xml, behind_target, instruction_at, end_tag_at, tag_name_at, markup_at, closed_by, value_at, attribute_at, bad_reference, Scanned, found, refused, judged, checked, attribute_found, empty_end_at, tag_part, blank, outside, or_word, is_caseless, caseless, quote_at, opened, version_at, encoding_at, standalone_at, part_or, optional, declaration_at, one_space, declares, declared, behind_mark, mark_at, marked}
use Rattle.ob_scan.specs.Judgement.{StaysWith, IsJudgedOnce}

-- r is what was read, and s is read of longer bytes
abbrev pub Stays : {X : Type 0} → (X → X) → Result X Stop → Result X Stop → Type 0
Stays grow (Ok x) s = s ≡ Ok (grow x)
Stays grow (Err Want) s = Unit {0}
Stays grow (Err Malformed) s = s ≡ Err Malformed

stays_then : {X Y : Type 0} (grow : X → X) (grown : Y → Y) (r s : Result X Stop) (f : X → Result Y Stop) → Stays grow r s → ((x : X) → Stays grown (f x) (f (grow x))) → Stays grown (r >>= f) (s >>= f)
stays_then grow grown (Ok x) s f e h = subst (λ s. Stays grown (f x) (s >>= f)) (sym e) (h x)
stays_then grow grown (Err Want) s f e h = tt
stays_then grow grown (Err Malformed) s f e h = ap (λ s. s >>= f) e

same_then : {X Y : Type 0} (grown : Y → Y) (r : Result X Stop) (f g : X → Result Y Stop) → ((x : X) → Stays grown (f x) (g x)) → Stays grown (r >>= f) (r >>= g)
same_then grown (Ok x) f g h = h x
same_then grown (Err Want) f g h = tt
same_then grown (Err Malformed) f g h = refl

choose : {X : Type 0} (grow : X → X) (b : Bool) (r s u v : Result X Stop) → Stays grow r u → Stays grow s v → Stays grow (cond b r s) (cond b u v)
choose grow true r s u v p q = p
choose grow false r s u v p q = q

abbrev pub rest_on : List ℕ → List ℕ → List ℕ
rest_on tail xs = xs ++ tail

abbrev pub pair_on : {A : Type 0} → List ℕ → A × List ℕ → A × List ℕ
pair_on tail x = (x.0, x.1 ++ tail)

pub literal_stays : (tail text bytes : List ℕ) → Stays (rest_on tail) (literal text bytes) (literal text (bytes ++ tail))
literal_stays tail [] bytes = refl
literal_stays tail (c ∷ cs) [] = tt
literal_stays tail (c ∷ cs) (b ∷ bytes) = choose (rest_on tail) (eqb b c) (literal cs bytes) (Err Malformed) (literal cs (bytes ++ tail)) (Err Malformed) (literal_stays tail cs bytes) refl

pub spaces_stay : (tail bytes : List ℕ) → Stays (rest_on tail) (spaces bytes) (spaces (bytes ++ tail))
spaces_stay tail [] = tt
spaces_stay tail (b ∷ bytes) = elim (is_space b) as (λ v. Stays (rest_on tail) (some_behind (cond v (behind_spaces bytes) (b ∷ bytes))) (some_behind (cond v (behind_spaces (bytes ++ tail)) (b ∷ (bytes ++ tail))))) [
  | true ↦ spaces_stay tail bytes
  | false ↦ refl
]

run_stays : (tail : List ℕ) (ends : Ends) (progress : Progress) (bytes : List ℕ) → Stays (pair_on tail) (run_from ends progress bytes) (run_from ends progress (bytes ++ tail))
run_stays tail ends progress [] = tt
run_stays tail ends progress (b ∷ bytes) =
    choose (pair_on tail) (is_whole progress && ends_at ends b) (Ok ([], b ∷ bytes)) (after_byte progress b >>= λ next. run_from ends next bytes >>= λ x. Ok (b ∷ x.0, x.1))
    (Ok ([], b ∷ (bytes ++ tail))) (after_byte progress b >>= λ next. run_from ends next (bytes ++ tail) >>= λ x. Ok (b ∷ x.0, x.1)) refl
    (same_then (pair_on tail) (after_byte progress b) (λ next. run_from ends next bytes >>= λ x. Ok (b ∷ x.0, x.1)) (λ next. run_from ends next (bytes ++ tail) >>= λ x. Ok (b ∷ x.0, x.1))
    (λ next. stays_then (pair_on tail) (pair_on tail) (run_from ends next bytes) (run_from ends next (bytes ++ tail)) (λ x. Ok (b ∷ x.0, x.1)) (run_stays tail ends next bytes) (λ x. refl)))

pub word_stays : (tail : List ℕ) (ends : Ends) (bytes : List ℕ) → Stays (pair_on tail) (word ends bytes) (word ends (bytes ++ tail))
word_stays tail ends bytes = stays_then (pair_on tail) (pair_on tail) (run ends bytes) (run ends (bytes ++ tail)) not_empty (run_stays tail ends Whole bytes)
    (λ x. choose (pair_on tail) (eqb (length x.0) 0) (Err Malformed) (Ok x) (Err Malformed) (Ok (x.0, x.1 ++ tail)) refl refl)

pair_stays : (tail : List ℕ) (a b : ℕ) (seen : Bool) (progress : Progress) (bytes : List ℕ) → Stays (rest_on tail) (behind_pair_from a b seen progress bytes) (behind_pair_from a b seen progress (bytes ++ tail))
pair_stays tail a b seen progress [] = tt
pair_stays tail a b seen progress (x ∷ bytes) =
    choose (rest_on tail) (seen && eqb x b) (Ok bytes) (after_byte progress x >>= λ next. behind_pair_from a b (eqb x a) next bytes) (Ok (bytes ++ tail)) (after_byte progress x >>= λ next. behind_pair_from a b (eqb x a) next (bytes ++ tail)) refl
    (same_then (rest_on tail) (after_byte progress x) (λ next. behind_pair_from a b (eqb x a) next bytes) (λ next. behind_pair_from a b (eqb x a) next (bytes ++ tail)) (λ next. pair_stays tail a b (eqb x a) next bytes))

-- ---- constructs

comment_stays : (tail bytes : List ℕ) → Stays (pair_on tail) (comment_at bytes) (comment_at (bytes ++ tail))
unfolding comment_at
comment_stays tail bytes =
    stays_then (rest_on tail) (pair_on tail) (literal (codes "--") bytes) (literal (codes "--") (bytes ++ tail)) (λ body. behind_pair 45 45 body >>= λ behind. literal (codes ">") behind >>= λ rest. Ok (skipped, rest)) (literal_stays tail (codes "--") bytes)
    (λ body. stays_then (rest_on tail) (pair_on tail) (behind_pair 45 45 body) (behind_pair 45 45 (body ++ tail)) (λ behind. literal (codes ">") behind >>= λ rest. Ok (skipped, rest)) (pair_stays tail 45 45 false Whole body)
    (λ behind. stays_then (rest_on tail) (pair_on tail) (literal (codes ">") behind) (literal (codes ">") (behind ++ tail)) (λ rest. Ok (skipped, rest)) (literal_stays tail (codes ">") behind) (λ rest. refl)))

target_stays : (tail bytes : List ℕ) → Stays (rest_on tail) (behind_target bytes) (behind_target (bytes ++ tail))
target_stays tail [] = tt
target_stays tail (b ∷ bytes) =
    choose (rest_on tail) (eqb b 63) (literal (codes ">") bytes) (cond (is_space b) (behind_pair 63 62 bytes) (Err Malformed)) (literal (codes ">") (bytes ++ tail)) (cond (is_space b) (behind_pair 63 62 (bytes ++ tail)) (Err Malformed)) (literal_stays tail (codes ">") bytes)
    (choose (rest_on tail) (is_space b) (behind_pair 63 62 bytes) (Err Malformed) (behind_pair 63 62 (bytes ++ tail)) (Err Malformed) (pair_stays tail 63 62 false Whole bytes) refl)

instruction_stays : (tail bytes : List ℕ) → Stays (pair_on tail) (instruction_at bytes) (instruction_at (bytes ++ tail))
unfolding instruction_at
instruction_stays tail bytes =
    stays_then (pair_on tail) (pair_on tail) (word Target bytes) (word Target (bytes ++ tail)) (λ target. cond (is_xml target.0) (Err Malformed) (behind_target target.1) >>= λ rest. Ok (skipped, rest)) (word_stays tail Target bytes)
    (λ target. stays_then (rest_on tail) (pair_on tail) (cond (is_xml target.0) (Err Malformed) (behind_target target.1)) (cond (is_xml target.0) (Err Malformed) (behind_target (target.1 ++ tail))) (λ rest. Ok (skipped, rest))
    (choose (rest_on tail) (is_xml target.0) (Err Malformed) (behind_target target.1) (Err Malformed) (behind_target (target.1 ++ tail)) refl (target_stays tail target.1)) (λ rest. refl))

end_tag_stays : (tail bytes : List ℕ) → Stays (pair_on tail) (end_tag_at bytes) (end_tag_at (bytes ++ tail))
unfolding end_tag_at
end_tag_stays tail bytes =
    stays_then (pair_on tail) (pair_on tail) (word Name bytes) (word Name (bytes ++ tail)) (λ name. spaces name.1 >>= λ behind. literal (codes ">") behind >>= λ rest. Ok (closing name.0, rest)) (word_stays tail Name bytes)
    (λ name. stays_then (rest_on tail) (pair_on tail) (spaces name.1) (spaces (name.1 ++ tail)) (λ behind. literal (codes ">") behind >>= λ rest. Ok (closing name.0, rest)) (spaces_stay tail name.1)
    (λ behind. stays_then (rest_on tail) (pair_on tail) (literal (codes ">") behind) (literal (codes ">") (behind ++ tail)) (λ rest. Ok (closing name.0, rest)) (literal_stays tail (codes ">") behind) (λ rest. refl)))

tag_name_stays : (tail bytes : List ℕ) → Stays (pair_on tail) (tag_name_at bytes) (tag_name_at (bytes ++ tail))
unfolding tag_name_at
tag_name_stays tail bytes = stays_then (pair_on tail) (pair_on tail) (word Name bytes) (word Name (bytes ++ tail)) (λ name. Ok (opening name.0, name.1)) (word_stays tail Name bytes) (λ name. refl)

markup_stays : (tail bytes : List ℕ) → Stays (pair_on tail) (markup_at bytes) (markup_at (bytes ++ tail))
markup_stays tail [] = tt
markup_stays tail (b ∷ bytes) =
    choose (pair_on tail) (eqb b 33) (comment_at bytes) (cond (eqb b 63) (instruction_at bytes) (cond (eqb b 47) (end_tag_at bytes) (tag_name_at (b ∷ bytes)))) (comment_at (bytes ++ tail)) (cond (eqb b 63) (instruction_at (bytes ++ tail)) (cond (eqb b 47) (end_tag_at (bytes ++ tail)) (tag_name_at (b ∷ (bytes ++ tail)))))
    (comment_stays tail bytes)
    (choose (pair_on tail) (eqb b 63) (instruction_at bytes) (cond (eqb b 47) (end_tag_at bytes) (tag_name_at (b ∷ bytes))) (instruction_at (bytes ++ tail)) (cond (eqb b 47) (end_tag_at (bytes ++ tail)) (tag_name_at (b ∷ (bytes ++ tail)))) (instruction_stays tail bytes)
    (choose (pair_on tail) (eqb b 47) (end_tag_at bytes) (tag_name_at (b ∷ bytes)) (end_tag_at (bytes ++ tail)) (tag_name_at (b ∷ (bytes ++ tail))) (end_tag_stays tail bytes) (tag_name_stays tail (b ∷ bytes))))

closed_stays : (tail : List ℕ) (quote : ℕ) (x : List ℕ × List ℕ) → Stays (pair_on tail) (closed_by quote x) (closed_by quote (pair_on tail x))
closed_stays tail quote (value, []) = tt
closed_stays tail quote (value, b ∷ rest) = choose (pair_on tail) (eqb b quote) (Ok (value, rest)) (Err Malformed) (Ok (value, rest ++ tail)) (Err Malformed) refl refl

value_stays : (tail bytes : List ℕ) → Stays (pair_on tail) (value_at bytes) (value_at (bytes ++ tail))
value_stays tail [] = tt
value_stays tail (b ∷ bytes) = choose (pair_on tail) (eqb b 34 || eqb b 39) (run (Value b) bytes >>= closed_by b) (Err Malformed) (run (Value b) (bytes ++ tail) >>= closed_by b) (Err Malformed)
    (stays_then (pair_on tail) (pair_on tail) (run (Value b) bytes) (run (Value b) (bytes ++ tail)) (closed_by b) (run_stays tail (Value b) Whole bytes) (closed_stays tail b)) refl

attribute_stays : (tail bytes : List ℕ) → Stays (pair_on tail) (attribute_at bytes) (attribute_at (bytes ++ tail))
unfolding attribute_at
attribute_stays tail bytes =
    stays_then (pair_on tail) (pair_on tail) (word Name bytes) (word Name (bytes ++ tail)) (λ name. spaces name.1 >>= λ before. literal (codes "=") before >>= λ behind. spaces behind >>= λ quoted. value_at quoted >>= λ value. Ok ((name.0, value.0), value.1)) (word_stays tail Name bytes)
    (λ name. stays_then (rest_on tail) (pair_on tail) (spaces name.1) (spaces (name.1 ++ tail)) (λ before. literal (codes "=") before >>= λ behind. spaces behind >>= λ quoted. value_at quoted >>= λ value. Ok ((name.0, value.0), value.1)) (spaces_stay tail name.1)
    (λ before. stays_then (rest_on tail) (pair_on tail) (literal (codes "=") before) (literal (codes "=") (before ++ tail)) (λ behind. spaces behind >>= λ quoted. value_at quoted >>= λ value. Ok ((name.0, value.0), value.1)) (literal_stays tail (codes "=") before)
    (λ behind. stays_then (rest_on tail) (pair_on tail) (spaces behind) (spaces (behind ++ tail)) (λ quoted. value_at quoted >>= λ value. Ok ((name.0, value.0), value.1)) (spaces_stay tail behind)
    (λ quoted. stays_then (pair_on tail) (pair_on tail) (value_at quoted) (value_at (quoted ++ tail)) (λ value. Ok ((name.0, value.0), value.1)) (value_stays tail quoted) (λ value. refl)))))

empty_end_stays : (tail bytes : List ℕ) → Stays (pair_on tail) (empty_end_at bytes) (empty_end_at (bytes ++ tail))
empty_end_stays tail bytes = stays_then (rest_on tail) (pair_on tail) (literal (codes ">") bytes) (literal (codes ">") (bytes ++ tail)) (λ rest. Ok (empty_end, rest)) (literal_stays tail (codes ">") bytes) (λ rest. refl)

-- ---- the declaration

stays_both : {X Y : Type 0} (grow : X → X) (grown : Y → Y) (r s : Result X Stop) (f g : X → Result Y Stop) → Stays grow r s → ((x : X) → Stays grown (f x) (g (grow x))) → Stays grown (r >>= f) (s >>= g)
stays_both grow grown (Ok x) s f g e h = subst (λ s. Stays grown (f x) (s >>= g)) (sym e) (h x)
stays_both grow grown (Err Want) s f g e h = tt
stays_both grow grown (Err Malformed) s f g e h = ap (λ s. s >>= g) e

caseless_stays : (tail text bytes : List ℕ) → Stays (rest_on tail) (caseless text bytes) (caseless text (bytes ++ tail))
caseless_stays tail [] bytes = refl
caseless_stays tail (c ∷ cs) [] = tt
caseless_stays tail (c ∷ cs) (b ∷ bytes) = choose (rest_on tail) (is_caseless c b) (caseless cs bytes) (Err Malformed) (caseless cs (bytes ++ tail)) (Err Malformed) (caseless_stays tail cs bytes) refl

or_word_stays : (tail : List ℕ) (r s u v : Result (List ℕ) Stop) → Stays (rest_on tail) r u → Stays (rest_on tail) s v → Stays (rest_on tail) (or_word r s) (or_word u v)
or_word_stays tail (Ok x) s u v p q = rw p refl
or_word_stays tail (Err Want) s u v p q = tt
or_word_stays tail (Err Malformed) s u v p q = subst (λ u. Stays (rest_on tail) s (or_word u v)) (sym p) q

quote_stays : (tail bytes : List ℕ) → Stays (pair_on tail) (quote_at bytes) (quote_at (bytes ++ tail))
quote_stays tail [] = tt
quote_stays tail (b ∷ bytes) = choose (pair_on tail) (eqb b 34 || eqb b 39) (Ok (b, bytes)) (Err Malformed) (Ok (b, bytes ++ tail)) (Err Malformed) refl refl

opened_stays : (tail name bytes : List ℕ) → Stays (pair_on tail) (opened name bytes) (opened name (bytes ++ tail))
unfolding opened
opened_stays tail name bytes =
    stays_then (rest_on tail) (pair_on tail) (literal name bytes) (literal name (bytes ++ tail)) (λ behind. spaces behind >>= λ before. literal (codes "=") before >>= λ equals. spaces equals >>= λ quoted. quote_at quoted) (literal_stays tail name bytes)
    (λ behind. stays_then (rest_on tail) (pair_on tail) (spaces behind) (spaces (behind ++ tail)) (λ before. literal (codes "=") before >>= λ equals. spaces equals >>= λ quoted. quote_at quoted) (spaces_stay tail behind)
    (λ before. stays_then (rest_on tail) (pair_on tail) (literal (codes "=") before) (literal (codes "=") (before ++ tail)) (λ equals. spaces equals >>= λ quoted. quote_at quoted) (literal_stays tail (codes "=") before)
    (λ equals. stays_then (rest_on tail) (pair_on tail) (spaces equals) (spaces (equals ++ tail)) (λ quoted. quote_at quoted) (spaces_stay tail equals) (λ quoted. quote_stays tail quoted))))

version_stays : (tail bytes : List ℕ) → Stays (rest_on tail) (version_at bytes) (version_at (bytes ++ tail))
unfolding version_at
version_stays tail bytes =
    stays_then (pair_on tail) (rest_on tail) (opened (codes "version") bytes) (opened (codes "version") (bytes ++ tail)) (λ value. literal (codes "1.0") value.1 >>= λ behind. literal (value.0 ∷ []) behind) (opened_stays tail (codes "version") bytes)
    (λ value. stays_then (rest_on tail) (rest_on tail) (literal (codes "1.0") value.1) (literal (codes "1.0") (value.1 ++ tail)) (λ behind. literal (value.0 ∷ []) behind) (literal_stays tail (codes "1.0") value.1) (λ behind. literal_stays tail (value.0 ∷ []) behind))

encoding_stays : (tail bytes : List ℕ) → Stays (rest_on tail) (encoding_at bytes) (encoding_at (bytes ++ tail))
unfolding encoding_at
encoding_stays tail bytes =
    stays_then (pair_on tail) (rest_on tail) (opened (codes "encoding") bytes) (opened (codes "encoding") (bytes ++ tail)) (λ value. or_word (caseless (codes "utf-8") value.1) (caseless (codes "us-ascii") value.1) >>= λ behind. literal (value.0 ∷ []) behind) (opened_stays tail (codes "encoding") bytes)
    (λ value. stays_then (rest_on tail) (rest_on tail) (or_word (caseless (codes "utf-8") value.1) (caseless (codes "us-ascii") value.1)) (or_word (caseless (codes "utf-8") (value.1 ++ tail)) (caseless (codes "us-ascii") (value.1 ++ tail))) (λ behind. literal (value.0 ∷ []) behind)
    (or_word_stays tail (caseless (codes "utf-8") value.1) (caseless (codes "us-ascii") value.1) (caseless (codes "utf-8") (value.1 ++ tail)) (caseless (codes "us-ascii") (value.1 ++ tail)) (caseless_stays tail (codes "utf-8") value.1) (caseless_stays tail (codes "us-ascii") value.1)) (λ behind. literal_stays tail (value.0 ∷ []) behind))

standalone_stays : (tail bytes : List ℕ) → Stays (rest_on tail) (standalone_at bytes) (standalone_at (bytes ++ tail))
unfolding standalone_at
standalone_stays tail bytes =
    stays_then (pair_on tail) (rest_on tail) (opened (codes "standalone") bytes) (opened (codes "standalone") (bytes ++ tail)) (λ value. or_word (literal (codes "yes") value.1) (literal (codes "no") value.1) >>= λ behind. literal (value.0 ∷ []) behind) (opened_stays tail (codes "standalone") bytes)
    (λ value. stays_then (rest_on tail) (rest_on tail) (or_word (literal (codes "yes") value.1) (literal (codes "no") value.1)) (or_word (literal (codes "yes") (value.1 ++ tail)) (literal (codes "no") (value.1 ++ tail))) (λ behind. literal (value.0 ∷ []) behind)
    (or_word_stays tail (literal (codes "yes") value.1) (literal (codes "no") value.1) (literal (codes "yes") (value.1 ++ tail)) (literal (codes "no") (value.1 ++ tail)) (literal_stays tail (codes "yes") value.1) (literal_stays tail (codes "no") value.1)) (λ behind. literal_stays tail (value.0 ∷ []) behind))

part_or_stays : (tail : List ℕ) (letter : ℕ) (part : List ℕ → Result (List ℕ) Stop) (before here : List ℕ) → ((bytes : List ℕ) → Stays (rest_on tail) (part bytes) (part (bytes ++ tail))) → Stays (rest_on tail) (part_or letter part before here) (part_or letter part (before ++ tail) (here ++ tail))
part_or_stays tail letter part before [] h = tt
part_or_stays tail letter part before (b ∷ rest) h = choose (rest_on tail) (eqb b letter) (part (b ∷ rest)) (Ok before) (part (b ∷ (rest ++ tail))) (Ok (before ++ tail)) (h (b ∷ rest)) refl

optional_stays : (tail : List ℕ) (letter : ℕ) (part : List ℕ → Result (List ℕ) Stop) (bytes : List ℕ) → ((bytes : List ℕ) → Stays (rest_on tail) (part bytes) (part (bytes ++ tail))) → Stays (rest_on tail) (optional letter part bytes) (optional letter part (bytes ++ tail))
optional_stays tail letter part [] h = tt
optional_stays tail letter part (b ∷ bytes) h =
    choose (rest_on tail) (is_space b) (spaces bytes >>= part_or letter part (b ∷ bytes)) (Ok (b ∷ bytes)) (spaces (bytes ++ tail) >>= part_or letter part (b ∷ (bytes ++ tail))) (Ok (b ∷ (bytes ++ tail)))
    (stays_both (rest_on tail) (rest_on tail) (spaces bytes) (spaces (bytes ++ tail)) (part_or letter part (b ∷ bytes)) (part_or letter part (b ∷ (bytes ++ tail))) (spaces_stay tail bytes) (λ here. part_or_stays tail letter part (b ∷ bytes) here h)) refl

declaration_stays : (tail bytes : List ℕ) → Stays (pair_on tail) (declaration_at bytes) (declaration_at (bytes ++ tail))
unfolding declaration_at
declaration_stays tail bytes =
    stays_then (rest_on tail) (pair_on tail) (spaces bytes) (spaces (bytes ++ tail)) (λ first. version_at first >>= λ version. optional 101 encoding_at version >>= λ encoding. optional 115 standalone_at encoding >>= λ standalone. spaces standalone >>= λ last. literal (codes "?>") last >>= λ rest. Ok (skipped, rest)) (spaces_stay tail bytes)
    (λ first. stays_then (rest_on tail) (pair_on tail) (version_at first) (version_at (first ++ tail)) (λ version. optional 101 encoding_at version >>= λ encoding. optional 115 standalone_at encoding >>= λ standalone. spaces standalone >>= λ last. literal (codes "?>") last >>= λ rest. Ok (skipped, rest)) (version_stays tail first)
    (λ version. stays_then (rest_on tail) (pair_on tail) (optional 101 encoding_at version) (optional 101 encoding_at (version ++ tail)) (λ encoding. optional 115 standalone_at encoding >>= λ standalone. spaces standalone >>= λ last. literal (codes "?>") last >>= λ rest. Ok (skipped, rest)) (optional_stays tail 101 encoding_at version (encoding_stays tail))
    (λ encoding. stays_then (rest_on tail) (pair_on tail) (optional 115 standalone_at encoding) (optional 115 standalone_at (encoding ++ tail)) (λ standalone. spaces standalone >>= λ last. literal (codes "?>") last >>= λ rest. Ok (skipped, rest)) (optional_stays tail 115 standalone_at encoding (standalone_stays tail))
    (λ standalone. stays_then (rest_on tail) (pair_on tail) (spaces standalone) (spaces (standalone ++ tail)) (λ last. literal (codes "?>") last >>= λ rest. Ok (skipped, rest)) (spaces_stay tail standalone)
    (λ last. stays_then (rest_on tail) (pair_on tail) (literal (codes "?>") last) (literal (codes "?>") (last ++ tail)) (λ rest. Ok (skipped, rest)) (literal_stays tail (codes "?>") last) (λ rest. refl))))))

one_space_stays : (tail bytes : List ℕ) → Stays (rest_on tail) (one_space bytes) (one_space (bytes ++ tail))
one_space_stays tail [] = tt
one_space_stays tail (b ∷ bytes) = choose (rest_on tail) (is_space b) (Ok bytes) (Err Malformed) (Ok (bytes ++ tail)) (Err Malformed) refl refl

pub declares_stays : (tail bytes : List ℕ) → Stays (rest_on tail) (declares bytes) (declares (bytes ++ tail))
unfolding declares
declares_stays tail bytes = stays_then (rest_on tail) (rest_on tail) (literal (codes "<?xml") bytes) (literal (codes "<?xml") (bytes ++ tail)) one_space (literal_stays tail (codes "<?xml") bytes) (one_space_stays tail)

-- ---- what stands at a place

pub equal_alike : (m n k x y : ℕ) → x ≡ m + k → y ≡ n + k → eqb x y ≡ eqb m n
equal_alike m n k x y p q = grind (arith, nat_tests)

same_place : (bytes here tail : List ℕ) → length (bytes ++ tail) - length (here ++ tail) ≡ length bytes - length here
same_place bytes here tail = omega (arith, length-append bytes tail, length-append here tail)

judged_stays : (tail bytes : List ℕ) (ended : Bool) (j k : ℕ) (r s : Result (Construct × List ℕ) Stop) → k ≡ j → Stays (pair_on tail) r s → StaysWith tail (judged false bytes j r) (judged ended (bytes ++ tail) k s)
judged_stays tail bytes ended j k (Ok x) s e h = rw h refl
judged_stays tail bytes ended j k (Err Want) s e h = tt
judged_stays tail bytes ended j k (Err Malformed) s e h = rw (h, e) refl

choose_scan : (tail : List ℕ) (b : Bool) (r s u v : Scanned) → StaysWith tail r u → StaysWith tail s v → StaysWith tail (cond b r s) (cond b u v)
choose_scan tail true r s u v p q = p
choose_scan tail false r s u v p q = q

checked_stays : (tail bytes here : List ℕ) (x : (List ℕ × List ℕ) × List ℕ) (o : Option ℕ) → StaysWith tail (checked bytes here x o) (checked (bytes ++ tail) (here ++ tail) (pair_on tail x) o)
checked_stays tail bytes here x None = refl
checked_stays tail bytes here x (Some k) =
    let e : (length (bytes ++ tail) - (length (x.1 ++ tail) + length x.0.1 + 1)) + k ≡ (length bytes - (length x.1 + length x.0.1 + 1)) + k = omega (arith, length-append bytes tail, length-append x.1 tail) in
    ap (λ (n : ℕ). refused n Markup) e

attribute_found_stays : (tail bytes here : List ℕ) (ended : Bool) (r s : Result ((List ℕ × List ℕ) × List ℕ) Stop) → Stays (pair_on tail) r s → StaysWith tail (attribute_found false bytes here r) (attribute_found ended (bytes ++ tail) (here ++ tail) s)
attribute_found_stays tail bytes here ended (Ok x) s h = subst (λ s. StaysWith tail (checked bytes here x (bad_reference x.0.1)) (attribute_found ended (bytes ++ tail) (here ++ tail) s)) (sym h) (checked_stays tail bytes here x (bad_reference x.0.1))
attribute_found_stays tail bytes here ended (Err Want) s h = tt
attribute_found_stays tail bytes here ended (Err Malformed) s h = rw (h, same_place bytes here tail) refl

part_stays : (tail bytes : List ℕ) (ended : Bool) (here : List ℕ) (further : List ℕ) → Stays (rest_on tail) (some_behind here) (some_behind further) → StaysWith tail (tag_part false bytes here) (tag_part ended (bytes ++ tail) further)
part_stays tail bytes ended [] further h = tt
part_stays tail bytes ended (b ∷ rest) [] h = absurd cc
part_stays tail bytes ended (b ∷ rest) (c ∷ further) h =
    let e : c ∷ further ≡ b ∷ (rest ++ tail) = cc in
    let place = same_place bytes (b ∷ rest) tail in
    let same : eqb (length (bytes ++ tail)) (length (b ∷ (rest ++ tail))) ≡ eqb (length bytes) (length (b ∷ rest)) = equal_alike (length bytes) (length (b ∷ rest)) (length tail) (length (bytes ++ tail)) (length (b ∷ (rest ++ tail))) (omega (arith, length-append bytes tail)) (omega (arith, length-append (b ∷ rest) tail)) in
    let goal : StaysWith tail (tag_part false bytes (b ∷ rest)) (tag_part ended (bytes ++ tail) (b ∷ (rest ++ tail))) =
    choose_scan tail (eqb b 62) (found tag_end rest) (cond (eqb b 47) (judged false bytes (length bytes - length (b ∷ rest)) (empty_end_at rest)) (cond (eqb (length bytes) (length (b ∷ rest))) (refused 0 Markup) (attribute_found false bytes (b ∷ rest) (attribute_at (b ∷ rest)))))
    (found tag_end (rest ++ tail)) (cond (eqb b 47) (judged ended (bytes ++ tail) (length (bytes ++ tail) - length (b ∷ (rest ++ tail))) (empty_end_at (rest ++ tail))) (cond (eqb (length (bytes ++ tail)) (length (b ∷ (rest ++ tail)))) (refused 0 Markup) (attribute_found ended (bytes ++ tail) (b ∷ (rest ++ tail)) (attribute_at (b ∷ (rest ++ tail))))))
    refl
    (choose_scan tail (eqb b 47) (judged false bytes (length bytes - length (b ∷ rest)) (empty_end_at rest)) (cond (eqb (length bytes) (length (b ∷ rest))) (refused 0 Markup) (attribute_found false bytes (b ∷ rest) (attribute_at (b ∷ rest))))
    (judged ended (bytes ++ tail) (length (bytes ++ tail) - length (b ∷ (rest ++ tail))) (empty_end_at (rest ++ tail))) (cond (eqb (length (bytes ++ tail)) (length (b ∷ (rest ++ tail)))) (refused 0 Markup) (attribute_found ended (bytes ++ tail) (b ∷ (rest ++ tail)) (attribute_at (b ∷ (rest ++ tail)))))
    (judged_stays tail bytes ended (length bytes - length (b ∷ rest)) (length (bytes ++ tail) - length (b ∷ (rest ++ tail))) (empty_end_at rest) (empty_end_at (rest ++ tail)) place (empty_end_stays tail rest))
    (rw same (choose_scan tail (eqb (length bytes) (length (b ∷ rest))) (refused 0 Markup) (attribute_found false bytes (b ∷ rest) (attribute_at (b ∷ rest))) (refused 0 Markup) (attribute_found ended (bytes ++ tail) (b ∷ (rest ++ tail)) (attribute_at (b ∷ (rest ++ tail))))
    refl (attribute_found_stays tail bytes (b ∷ rest) ended (attribute_at (b ∷ rest)) (attribute_at (b ∷ (rest ++ tail))) (attribute_stays tail (b ∷ rest)))))) in
    subst (λ (xs : List ℕ). StaysWith tail (tag_part false bytes (b ∷ rest)) (tag_part ended (bytes ++ tail) xs)) (sym e) goal

blank_stays : (tail : List ℕ) (ended : Bool) (here further : List ℕ) → Stays (rest_on tail) (some_behind here) (some_behind further) → StaysWith tail (blank false here) (blank ended further)
blank_stays tail ended [] further h = tt
blank_stays tail ended (b ∷ rest) [] h = absurd cc
blank_stays tail ended (b ∷ rest) (c ∷ further) h =
    let e : c ∷ further ≡ b ∷ (rest ++ tail) = cc in
    subst (λ (xs : List ℕ). StaysWith tail (blank false (b ∷ rest)) (blank ended xs)) (sym e)
    (choose_scan tail (eqb b 60) (found skipped (b ∷ rest)) (refused 0 Text) (found skipped (b ∷ (rest ++ tail))) (refused 0 Text) refl refl)

outside_stays : (tail : List ℕ) (ended : Bool) (bytes : List ℕ) → StaysWith tail (outside false bytes) (outside ended (bytes ++ tail))
outside_stays tail ended [] = tt
outside_stays tail ended (b ∷ bytes) =
    choose_scan tail (eqb b 60) (judged false (b ∷ bytes) 0 (markup_at bytes)) (blank false (behind_spaces (b ∷ bytes))) (judged ended (b ∷ (bytes ++ tail)) 0 (markup_at (bytes ++ tail))) (blank ended (behind_spaces (b ∷ (bytes ++ tail))))
    (judged_stays tail (b ∷ bytes) ended 0 0 (markup_at bytes) (markup_at (bytes ++ tail)) refl (markup_stays tail bytes))
    (blank_stays tail ended (behind_spaces (b ∷ bytes)) (behind_spaces (b ∷ (bytes ++ tail))) (spaces_stay tail (b ∷ bytes)))

declared_stays : (tail : List ℕ) (ended : Bool) (bytes : List ℕ) (r s : Result (List ℕ) Stop) → Stays (rest_on tail) r s → StaysWith tail (declared false bytes r) (declared ended (bytes ++ tail) s)
declared_stays tail ended bytes (Ok rest) s h = subst (λ s. StaysWith tail (judged false bytes 0 (declaration_at rest)) (declared ended (bytes ++ tail) s)) (sym h) (judged_stays tail bytes ended 0 0 (declaration_at rest) (declaration_at (rest ++ tail)) refl (declaration_stays tail rest))
declared_stays tail ended bytes (Err Want) s h = tt
declared_stays tail ended bytes (Err Malformed) s h = subst (λ s. StaysWith tail (outside false bytes) (declared ended (bytes ++ tail) s)) (sym h) (outside_stays tail ended bytes)

marked_stays : (tail : List ℕ) (ended : Bool) (bytes : List ℕ) (r s : Result (List ℕ) Stop) → Stays (rest_on tail) r s → StaysWith tail (marked false bytes r) (marked ended (bytes ++ tail) s)
marked_stays tail ended bytes (Ok rest) s h = rw h refl
marked_stays tail ended bytes (Err Want) s h = tt
marked_stays tail ended bytes (Err Malformed) s h = subst (λ s. StaysWith tail (behind_mark false bytes) (marked ended (bytes ++ tail) s)) (sym h) (declared_stays tail ended bytes (declares bytes) (declares (bytes ++ tail)) (declares_stays tail bytes))

pub judged_once : IsJudgedOnce
judged_once Start ended bytes tail = marked_stays tail ended bytes (mark_at bytes) (mark_at (bytes ++ tail)) (literal_stays tail (0xEF ∷ 0xBB ∷ 0xBF ∷ []) bytes)
judged_once Marked ended bytes tail = declared_stays tail ended bytes (declares bytes) (declares (bytes ++ tail)) (declares_stays tail bytes)
judged_once Between ended bytes tail = outside_stays tail ended bytes
judged_once InTag ended bytes tail = part_stays tail bytes ended (behind_spaces bytes) (behind_spaces (bytes ++ tail)) (spaces_stay tail bytes)
judged_once After ended [] tail = tt
judged_once After ended (b ∷ bytes) tail = outside_stays tail ended (b ∷ bytes)
