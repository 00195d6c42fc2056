-- What a reader takes of the bytes is as long as what it reads.
use Rattle.std.proofs.Common.{◌≡◌, ℕ, suc, ◌+◌, ◌-◌, ◌<◌, ◌≤◌, Bool, true, false, ◌&&◌, ◌||◌, cond, eqb, List, [], ◌∷◌, length, Option, Some, None, Result, Ok, Err, refl, ap, subst, arith}
use Rattle.std.proofs.lemmas.Bool.Decides.{nat_tests}
use Rattle.std.specs.Prelude.{codes}
use Rattle.ob_scan.specs.declared.stop.Stop.{Stop}
use Rattle.ob_scan.specs.declared.stop.Stop.TheVariants.{Want, Malformed}
use Rattle.ob_scan.specs.declared.piece.Place.{Place}
use Rattle.ob_scan.specs.declared.piece.Place.TheVariants.{Start, Marked, Between, InTag, After}
use Rattle.ob_scan.specs.declared.piece.Why.TheVariants.{Text, Markup}
use Rattle.ob_scan.specs.declared.reading.Ends.{Ends}
use Rattle.ob_scan.specs.declared.reading.Ends.TheVariants.{Name, Target, Value}
use Rattle.ob_scan.specs.declared.character.Progress.{Progress}
use Rattle.ob_scan.specs.declared.character.Progress.TheVariants.{Whole}
use Rattle.ob_scan.specs.Characters.{after_byte}
use Rattle.ob_scan.specs.Reading.{◌>>=◌, literal, behind_spaces, spaces, is_whole, ends_at, run_from, run, not_empty, word, behind_pair}
use Rattle.ob_scan.specs.Constructs.{Construct, opening, tag_end, empty_end, closing, skipped, ending, Scanned, found, more, refused, wanting, judged, comment_at, is_xml, behind_target, instruction_at, end_tag_at, tag_name_at, markup_at, closed_by, value_at, attribute_at, bad_reference, checked, attribute_found, empty_end_at, tag_part, blank, outside, behind_element, version_at, encoding_at, standalone_at, optional, declaration_at, declares, declared, mark_at, marked, scan}
use Rattle.ob_scan.proofs.Suffixes.{Leaves, suffix_len, spaces_suffix, spaces_leaves, rest_of, all_of, markup_leaves}
use Rattle.ob_scan.proofs.Declared.{Takes, declaration_leaves, declares_takes, mark_takes}
use Rattle.ob_size_laws.specs.Sizes.{size}

-- what was read costs at most so much
abbrev pub Costs : {X : Type 0} → (X → ℕ) → ℕ → Result X Stop → Type 0
Costs cost n (Ok x) = cost x ≤ n
Costs cost n (Err e) = Unit {0}

-- these bytes and those behind
abbrev pub literal_cost : List ℕ → List ℕ → ℕ
literal_cost text rest = length text + length rest

pub literal_costs : (text bytes : List ℕ) → Costs (literal_cost text) (length bytes) (literal text bytes)
literal_costs [] bytes = omega arith
literal_costs (c ∷ cs) [] = tt
literal_costs (c ∷ cs) (b ∷ bytes) = elim (eqb b c) as (λ v. Costs (literal_cost (c ∷ cs)) (length (b ∷ bytes)) (cond v (literal cs bytes) (Err Malformed))) [
  | true ↦ one (literal cs bytes) (literal_costs cs bytes)
  | false ↦ tt
]
  where
    one : (r : Result (List ℕ) Stop) → Costs (literal_cost cs) (length bytes) r → Costs (literal_cost (c ∷ cs)) (length (b ∷ bytes)) r
    one (Ok rest) h = omega (arith, h)
    one (Err e) h = tt

abbrev rest_cost : List ℕ → ℕ
rest_cost rest = length rest

spaces_cost : (bytes : List ℕ) → Costs rest_cost (length bytes) (spaces bytes)
spaces_cost bytes = on (spaces bytes) (spaces_leaves bytes)
  where
    on : (r : Result (List ℕ) Stop) → Leaves all_of bytes r → Costs rest_cost (length bytes) r
    on (Ok rest) s = suffix_len rest bytes s
    on (Err e) s = tt

-- a run and the bytes behind
abbrev run_cost : List ℕ × List ℕ → ℕ
run_cost x = length x.0 + length x.1

run_costs : (ends : Ends) (progress : Progress) (bytes : List ℕ) → Costs run_cost (length bytes) (run_from ends progress bytes)
run_costs ends progress [] = tt
run_costs ends progress (b ∷ bytes) = elim (is_whole progress && ends_at ends b) as (λ v. Costs run_cost (length (b ∷ bytes)) (cond v (Ok ([], b ∷ bytes)) (after_byte progress b >>= λ next. run_from ends next bytes >>= λ x. Ok (b ∷ x.0, x.1)))) [
  | true ↦ omega arith
  | false ↦ on (after_byte progress b) (λ next. run_costs ends next bytes)
]
  where
    with_one : (r : Result (List ℕ × List ℕ) Stop) → Costs run_cost (length bytes) r → Costs run_cost (length (b ∷ bytes)) (r >>= λ x. Ok (b ∷ x.0, x.1))
    with_one (Ok x) h = omega (arith, h)
    with_one (Err e) h = tt

    on : (next : Result Progress Stop) → ((next : Progress) → Costs run_cost (length bytes) (run_from ends next bytes)) → Costs run_cost (length (b ∷ bytes)) (next >>= λ next. run_from ends next bytes >>= λ x. Ok (b ∷ x.0, x.1))
    on (Ok next) later = with_one (run_from ends next bytes) (later next)
    on (Err e) later = tt

word_costs : (ends : Ends) (bytes : List ℕ) → Costs run_cost (length bytes) (word ends bytes)
word_costs ends bytes = some (run ends bytes) (run_costs ends Whole bytes)
  where
    some : (r : Result (List ℕ × List ℕ) Stop) → Costs run_cost (length bytes) r → Costs run_cost (length bytes) (r >>= not_empty)
    some (Err e) h = tt
    some (Ok x) h = elim (eqb (length x.0) 0) as (λ v. Costs run_cost (length bytes) (cond v (Err Malformed) (Ok x))) [ true ↦ tt | false ↦ h ]

-- ---- tags

-- a construct and the bytes behind
abbrev found_cost : Construct × List ℕ → ℕ
found_cost x = size x.0 + length x.1

tag_name_costs : (bytes : List ℕ) → Costs found_cost (suc (length bytes)) (tag_name_at bytes)
unfolding tag_name_at
tag_name_costs bytes = on (word Name bytes) (word_costs Name bytes)
  where
    on : (r : Result (List ℕ × List ℕ) Stop) → Costs run_cost (length bytes) r → Costs found_cost (suc (length bytes)) (r >>= λ name. Ok (opening name.0, name.1))
    on (Ok x) h = omega (arith, h)
    on (Err e) h = tt

end_tag_costs : (bytes : List ℕ) → Costs found_cost (suc (suc (length bytes))) (end_tag_at bytes)
unfolding end_tag_at
end_tag_costs bytes = named (word Name bytes) (word_costs Name bytes)
  where
    closes : (name rest : List ℕ) (n : ℕ) (r : Result (List ℕ) Stop) → length name + length rest ≤ n → Costs (literal_cost (codes ">")) (length rest) r → Costs found_cost (suc (suc n)) (r >>= λ behind. Ok (closing name, behind))
    closes name rest n (Ok behind) le h = omega (arith, le, h)
    closes name rest n (Err e) le h = tt

    spaced : (name rest : List ℕ) (n : ℕ) (r : Result (List ℕ) Stop) → length name + length rest ≤ n → Costs rest_cost (length rest) r → Costs found_cost (suc (suc n)) (r >>= λ behind. literal (codes ">") behind >>= λ last. Ok (closing name, last))
    spaced name rest n (Ok behind) le h = closes name behind n (literal (codes ">") behind) (omega (arith, le, h)) (literal_costs (codes ">") behind)
    spaced name rest n (Err e) le h = tt

    named : (r : Result (List ℕ × List ℕ) Stop) → Costs run_cost (length bytes) r → Costs found_cost (suc (suc (length bytes))) (r >>= λ name. spaces name.1 >>= λ behind. literal (codes ">") behind >>= λ last. Ok (closing name.0, last))
    named (Ok x) h = spaced x.0 x.1 (length bytes) (spaces x.1) h (spaces_cost x.1)
    named (Err e) h = tt

-- a reader that gives nothing but what is skipped
abbrev Skips : Result (Construct × List ℕ) Stop → Type 0
Skips (Ok x) = x.0 ≡ skipped
Skips (Err e) = Unit {0}

skips_then : {X : Type 0} (r : Result X Stop) (f : X → Result (Construct × List ℕ) Stop) → ((x : X) → Skips (f x)) → Skips (r >>= f)
skips_then (Ok x) f h = h x
skips_then (Err e) f h = tt

skipped_costs : (bytes : List ℕ) (n : ℕ) (r : Result (Construct × List ℕ) Stop) → length bytes ≤ n → Skips r → Leaves rest_of bytes r → Costs found_cost n r
skipped_costs bytes n (Ok x) le e s = (let rest = suffix_len x.1 bytes s in let none : size x.0 ≡ 0 = ap size e in omega (arith, le, rest, none))
skipped_costs bytes n (Err e) le h s = tt

comment_skips : (bytes : List ℕ) → Skips (comment_at bytes)
unfolding comment_at
comment_skips bytes =
    skips_then (literal (codes "--") bytes) (λ body. behind_pair 45 45 body >>= λ behind. literal (codes ">") behind >>= λ rest. Ok (skipped, rest))
    (λ body. skips_then (behind_pair 45 45 body) (λ behind. literal (codes ">") behind >>= λ rest. Ok (skipped, rest))
    (λ behind. skips_then (literal (codes ">") behind) (λ rest. Ok (skipped, rest)) (λ rest. refl)))

instruction_skips : (bytes : List ℕ) → Skips (instruction_at bytes)
unfolding instruction_at
instruction_skips bytes =
    skips_then (word Target bytes) (λ target. cond (is_xml target.0) (Err Malformed) (behind_target target.1) >>= λ rest. Ok (skipped, rest))
    (λ target. skips_then (cond (is_xml target.0) (Err Malformed) (behind_target target.1)) (λ rest. Ok (skipped, rest)) (λ rest. refl))

declaration_skips : (bytes : List ℕ) → Skips (declaration_at bytes)
unfolding declaration_at
declaration_skips bytes =
    skips_then (spaces bytes) (λ first. version_at first >>= λ version. optional 101 encoding_at version >>= λ encoding. optional 115 standalone_at encoding >>= λ standalone. spaces standalone >>= λ last. literal (codes "?>") last >>= λ rest. Ok (skipped, rest))
    (λ first. skips_then (version_at first) (λ version. optional 101 encoding_at version >>= λ encoding. optional 115 standalone_at encoding >>= λ standalone. spaces standalone >>= λ last. literal (codes "?>") last >>= λ rest. Ok (skipped, rest))
    (λ version. skips_then (optional 101 encoding_at version) (λ encoding. optional 115 standalone_at encoding >>= λ standalone. spaces standalone >>= λ last. literal (codes "?>") last >>= λ rest. Ok (skipped, rest))
    (λ encoding. skips_then (optional 115 standalone_at encoding) (λ standalone. spaces standalone >>= λ last. literal (codes "?>") last >>= λ rest. Ok (skipped, rest))
    (λ standalone. skips_then (spaces standalone) (λ last. literal (codes "?>") last >>= λ rest. Ok (skipped, rest))
    (λ last. skips_then (literal (codes "?>") last) (λ rest. Ok (skipped, rest)) (λ rest. refl))))))

choose : (n : ℕ) (b : Bool) (r s : Result (Construct × List ℕ) Stop) → Costs found_cost n r → Costs found_cost n s → Costs found_cost n (cond b r s)
choose n true r s p q = p
choose n false r s p q = q

-- behind a `<`
markup_costs : (bytes : List ℕ) → Costs found_cost (suc (length bytes)) (markup_at bytes)
markup_costs [] = tt
markup_costs (b ∷ bytes) =
    choose (suc (length (b ∷ bytes))) (eqb b 33) (comment_at bytes) (cond (eqb b 63) (instruction_at bytes) (cond (eqb b 47) (end_tag_at bytes) (tag_name_at (b ∷ bytes))))
    (skipped_costs (33 ∷ bytes) (suc (length (b ∷ bytes))) (comment_at bytes) (omega arith) (comment_skips bytes) (markup_leaves (33 ∷ bytes)))
    (choose (suc (length (b ∷ bytes))) (eqb b 63) (instruction_at bytes) (cond (eqb b 47) (end_tag_at bytes) (tag_name_at (b ∷ bytes)))
    (skipped_costs (63 ∷ bytes) (suc (length (b ∷ bytes))) (instruction_at bytes) (omega arith) (instruction_skips bytes) (markup_leaves (63 ∷ bytes)))
    (choose (suc (length (b ∷ bytes))) (eqb b 47) (end_tag_at bytes) (tag_name_at (b ∷ bytes)) (end_tag_costs bytes) (tag_name_costs (b ∷ bytes))))

-- ---- attributes

-- a value, its quotes and the bytes behind
abbrev value_cost : List ℕ × List ℕ → ℕ
value_cost x = (length x.0 + length x.1) + 2

value_costs : (bytes : List ℕ) → Costs value_cost (length bytes) (value_at bytes)
value_costs [] = tt
value_costs (b ∷ bytes) = elim (eqb b 34 || eqb b 39) as (λ v. Costs value_cost (length (b ∷ bytes)) (cond v (run (Value b) bytes >>= closed_by b) (Err Malformed))) [
  | true ↦ closes (run (Value b) bytes) (run_costs (Value b) Whole bytes)
  | false ↦ tt
]
  where
    closed : (value rest : List ℕ) → length value + length rest ≤ length bytes → Costs value_cost (length (b ∷ bytes)) (closed_by b (value, rest))
    closed value [] h = tt
    closed value (c ∷ rest) h = elim (eqb c b) as (λ v. Costs value_cost (length (b ∷ bytes)) (cond v (Ok (value, rest)) (Err Malformed))) [
      | true ↦ omega (arith, h)
      | false ↦ tt
    ]

    closes : (r : Result (List ℕ × List ℕ) Stop) → Costs run_cost (length bytes) r → Costs value_cost (length (b ∷ bytes)) (r >>= closed_by b)
    closes (Ok x) h = closed x.0 x.1 h
    closes (Err e) h = tt

-- a name, its value and the bytes behind, without the blank before
abbrev attribute_cost : (List ℕ × List ℕ) × List ℕ → ℕ
attribute_cost x = ((length x.0.0 + length x.0.1) + length x.1) + 3

attribute_costs : (bytes : List ℕ) → Costs attribute_cost (length bytes) (attribute_at bytes)
unfolding attribute_at
attribute_costs bytes = named (word Name bytes) (word_costs Name bytes)
  where
    given : (name rest : List ℕ) (n : ℕ) (r : Result (List ℕ × List ℕ) Stop) → length name + (length rest + 1) ≤ n → Costs value_cost (length rest) r → Costs attribute_cost n (r >>= λ value. Ok ((name, value.0), value.1))
    given name rest n (Ok x) le h = omega (arith, le, h)
    given name rest n (Err e) le h = tt

    quoted : (name rest : List ℕ) (n : ℕ) (r : Result (List ℕ) Stop) → length name + (length rest + 1) ≤ n → Costs rest_cost (length rest) r → Costs attribute_cost n (r >>= λ quoted. value_at quoted >>= λ value. Ok ((name, value.0), value.1))
    quoted name rest n (Ok behind) le h = given name behind n (value_at behind) (omega (arith, le, h)) (value_costs behind)
    quoted name rest n (Err e) le h = tt

    equals : (name rest : List ℕ) (n : ℕ) (r : Result (List ℕ) Stop) → length name + length rest ≤ n → Costs (literal_cost (codes "=")) (length rest) r → Costs attribute_cost n (r >>= λ behind. spaces behind >>= λ quoted. value_at quoted >>= λ value. Ok ((name, value.0), value.1))
    equals name rest n (Ok behind) le h = quoted name behind n (spaces behind) (omega (arith, le, h)) (spaces_cost behind)
    equals name rest n (Err e) le h = tt

    spaced : (name rest : List ℕ) (n : ℕ) (r : Result (List ℕ) Stop) → length name + length rest ≤ n → Costs rest_cost (length rest) r → Costs attribute_cost n (r >>= λ before. literal (codes "=") before >>= λ behind. spaces behind >>= λ quoted. value_at quoted >>= λ value. Ok ((name, value.0), value.1))
    spaced name rest n (Ok before) le h = equals name before n (literal (codes "=") before) (omega (arith, le, h)) (literal_costs (codes "=") before)
    spaced name rest n (Err e) le h = tt

    named : (r : Result (List ℕ × List ℕ) Stop) → Costs run_cost (length bytes) r → Costs attribute_cost (length bytes) (r >>= λ name. spaces name.1 >>= λ before. literal (codes "=") before >>= λ behind. spaces behind >>= λ quoted. value_at quoted >>= λ value. Ok ((name.0, value.0), value.1))
    named (Ok x) h = spaced x.0 x.1 (length bytes) (spaces x.1) h (spaces_cost x.1)
    named (Err e) h = tt

-- ---- what stands at a place

-- what was found and the bytes behind are no longer than the bytes
abbrev Holds : List ℕ → Scanned → Type 0
Holds bytes (found c rest) = size c + length rest ≤ length bytes
Holds bytes more = Unit {0}
Holds bytes (refused k why) = Unit {0}

want_holds : (ended : Bool) (bytes : List ℕ) → Holds bytes (wanting ended bytes)
want_holds true bytes = tt
want_holds false bytes = tt

either : (bytes : List ℕ) (b : Bool) (r s : Scanned) → Holds bytes r → Holds bytes s → Holds bytes (cond b r s)
either bytes true r s p q = p
either bytes false r s p q = q

judged_holds : (ended : Bool) (bytes : List ℕ) (place n : ℕ) (r : Result (Construct × List ℕ) Stop) → n ≤ length bytes → Costs found_cost n r → Holds bytes (judged ended bytes place r)
judged_holds ended bytes place n (Ok x) le h = omega (arith, le, h)
judged_holds ended bytes place n (Err Want) le h = want_holds ended bytes
judged_holds ended bytes place n (Err Malformed) le h = tt

blank_holds : (ended : Bool) (rest bytes : List ℕ) → length rest ≤ length bytes → Holds bytes (blank ended rest)
blank_holds ended [] bytes le = either bytes ended (found skipped []) more (omega arith) tt
blank_holds ended (b ∷ rest) bytes le = either bytes (eqb b 60) (found skipped (b ∷ rest)) (refused 0 Text) (omega (arith, le)) tt

outside_holds : (ended : Bool) (bytes : List ℕ) → Holds bytes (outside ended bytes)
outside_holds ended [] = want_holds ended []
outside_holds ended (b ∷ bytes) =
    either (b ∷ bytes) (eqb b 60) (judged ended (b ∷ bytes) 0 (markup_at bytes)) (blank ended (behind_spaces (b ∷ bytes)))
    (judged_holds ended (b ∷ bytes) 0 (suc (length bytes)) (markup_at bytes) (omega arith) (markup_costs bytes))
    (blank_holds ended (behind_spaces (b ∷ bytes)) (b ∷ bytes) (suffix_len (behind_spaces (b ∷ bytes)) (b ∷ bytes) (spaces_suffix (b ∷ bytes))))

behind_holds : (ended : Bool) (bytes : List ℕ) → Holds bytes (behind_element ended bytes)
behind_holds ended [] = either [] ended (found ending []) more (omega arith) tt
behind_holds ended (b ∷ bytes) = outside_holds ended (b ∷ bytes)

checked_holds : (bytes here : List ℕ) (x : (List ℕ × List ℕ) × List ℕ) (o : Option ℕ) → length here < length bytes → attribute_cost x ≤ length here → Holds bytes (checked bytes here x o)
checked_holds bytes here x None lt h = omega (arith, lt, h)
checked_holds bytes here x (Some k) lt h = tt

attribute_holds : (ended : Bool) (bytes here : List ℕ) → length here < length bytes → Holds bytes (attribute_found ended bytes here (attribute_at here))
attribute_holds ended bytes here lt = on (attribute_at here) (attribute_costs here)
  where
    on : (r : Result ((List ℕ × List ℕ) × List ℕ) Stop) → Costs attribute_cost (length here) r → Holds bytes (attribute_found ended bytes here r)
    on (Ok x) h = checked_holds bytes here x (bad_reference x.0.1) lt h
    on (Err Want) h = want_holds ended bytes
    on (Err Malformed) h = tt

empty_costs : (rest : List ℕ) → Costs found_cost (suc (length rest)) (empty_end_at rest)
empty_costs rest = on (literal (codes ">") rest) (literal_costs (codes ">") rest)
  where
    on : (r : Result (List ℕ) Stop) → Costs (literal_cost (codes ">")) (length rest) r → Costs found_cost (suc (length rest)) (r >>= λ behind. Ok (empty_end, behind))
    on (Ok behind) h = omega (arith, h)
    on (Err e) h = tt

part_holds : (ended : Bool) (bytes here : List ℕ) → length here ≤ length bytes → Holds bytes (tag_part ended bytes here)
part_holds ended bytes [] le = want_holds ended bytes
part_holds ended bytes (b ∷ rest) le =
    either bytes (eqb b 62) (found tag_end rest) (cond (eqb b 47) (judged ended bytes (length bytes - length (b ∷ rest)) (empty_end_at rest)) (cond (eqb (length bytes) (length (b ∷ rest))) (refused 0 Markup) (attribute_found ended bytes (b ∷ rest) (attribute_at (b ∷ rest)))))
    (omega (arith, le))
    (either bytes (eqb b 47) (judged ended bytes (length bytes - length (b ∷ rest)) (empty_end_at rest)) (cond (eqb (length bytes) (length (b ∷ rest))) (refused 0 Markup) (attribute_found ended bytes (b ∷ rest) (attribute_at (b ∷ rest))))
    (judged_holds ended bytes (length bytes - length (b ∷ rest)) (suc (length rest)) (empty_end_at rest) le (empty_costs rest))
    (last (eqb (length bytes) (length (b ∷ rest))) refl))
  where
    shorter : eqb (length bytes) (length (b ∷ rest)) ≡ false → length (b ∷ rest) < length bytes
    shorter e = strict (length bytes) (length (b ∷ rest)) e le
      where
        strict : (m n : ℕ) → eqb m n ≡ false → n ≤ m → n < m
        strict m n e le = grind (arith, nat_tests)

    last : (v : Bool) → eqb (length bytes) (length (b ∷ rest)) ≡ v → Holds bytes (cond v (refused 0 Markup) (attribute_found ended bytes (b ∷ rest) (attribute_at (b ∷ rest))))
    last true e = tt
    last false e = attribute_holds ended bytes (b ∷ rest) (shorter e)

declared_holds : (ended : Bool) (bytes : List ℕ) (r : Result (List ℕ) Stop) → Takes bytes r → Holds bytes (declared ended bytes r)
declared_holds ended bytes (Ok rest) t = judged_holds ended bytes 0 (length bytes) (declaration_at rest) (omega arith) (skipped_costs rest (length bytes) (declaration_at rest) (suffix_len rest bytes t.0) (declaration_skips rest) (declaration_leaves rest))
declared_holds ended bytes (Err Want) t = want_holds ended bytes
declared_holds ended bytes (Err Malformed) t = outside_holds ended bytes

marked_holds : (ended : Bool) (bytes : List ℕ) (r : Result (List ℕ) Stop) → Takes bytes r → Holds bytes (marked ended bytes r)
marked_holds ended bytes (Ok rest) t = omega (arith, suffix_len rest bytes t.0)
marked_holds ended bytes (Err Want) t = want_holds ended bytes
marked_holds ended bytes (Err Malformed) t = declared_holds ended bytes (declares bytes) (declares_takes bytes)

scan_holds : (place : Place) (ended : Bool) (bytes : List ℕ) → Holds bytes (scan place ended bytes)
scan_holds Start ended bytes = marked_holds ended bytes (mark_at bytes) (mark_takes bytes)
scan_holds Marked ended bytes = declared_holds ended bytes (declares bytes) (declares_takes bytes)
scan_holds Between ended bytes = outside_holds ended bytes
scan_holds InTag ended bytes = part_holds ended bytes (behind_spaces bytes) (suffix_len (behind_spaces bytes) bytes (spaces_suffix bytes))
scan_holds After ended bytes = behind_holds ended bytes

-- a construct and the bytes behind it are no longer than the bytes in which it was found
pub construct_fits : (place : Place) (ended : Bool) (bytes rest : List ℕ) (c : Construct) → scan place ended bytes ≡ found c rest → size c + length rest ≤ length bytes
construct_fits place ended bytes rest c e = subst (Holds bytes) e (scan_holds place ended bytes)
