-- The blocks that are read are those of the grammar, and the blocks of the grammar are read.
use Rattle.std.proofs.Common.{◌≡◌, ℕ, ◌<◌, ◌≤◌, ◌-◌, ◌^◌, eqb, false, List, [], ◌∷◌, ◌++◌, length, take, decimal, codes, Option, Some, None, option_map, unwrap_or, refl, sym, ap, subst, ◌∙◌, append_assoc, arith, length-append}
use Rattle.std.specs.Prelude.{IfSome}
use Rattle.std.proofs.lemmas.Bool.Decides.{nat_tests}
use Rattle.std.proofs.lemmas.Fmt.{decimal_nonempty, digits_decimal}
use Rattle.std.proofs.lemmas.List.{take_at}
use Rattle.std.proofs.lemmas.Option.{some_pair_parts}
use Rattle.ob_spelling.specs.DigitRun.{digits_front, after_digits}
use Rattle.ob_spelling.specs.Numeral.{AreDigits}
use Rattle.ob_spelling.proofs.NumeralLemmas.{decimal_numerals}
use Rattle.ob_record.specs.Parts.{Parts, verb_word, number_word, size_word, open_text, AreSmall}
use Rattle.ob_record.specs.Reading.{after, number_at, boot_at, open_at, behind_boot, block_at}
use Rattle.ob_record.specs.Runs.{boot_line}
use Rattle.ob_record.specs.Blocks.{block_text, IsBlock}
use Rattle.ob_record.proofs.Words.{bind_some, after_found, number_found, number_again}
use Rattle.ob_record.proofs.PartLaws.{open_again, open_found}

-- what stands behind the moment of an entry
abbrev behind_moment : Parts → List ℕ
behind_moment p =
    verb_word p.verb ++ (number_word (length p.target) 32 ++ (number_word (length p.body) 32 ++ (size_word (option_map length p.reply)
    ++ (p.target ++ (p.body ++ unwrap_or p.reply [])))))

no_word : (ds rest : List ℕ) → AreDigits ds → 0 < length ds → after (codes "boot ") (ds ++ rest) ≡ None
no_word [] rest digits some = absurd (omega arith)
no_word (d ∷ ds) rest digits some = (let other : eqb 98 d ≡ false = (let high = digits.0.1 in grind (arith, nat_tests)) in rw other refl)

-- an entry doesn't begin with the line of an opening
no_boot : (p : Parts) (rest : List ℕ) → AreSmall p → boot_at (open_text p ++ rest) ≡ None
unfolding boot_at
no_boot p rest small =
    let line : open_text p ++ rest ≡ decimal p.moment ++ (32 ∷ [] ++ behind_moment p ++ rest) =
    append_assoc (number_word p.moment 32) (behind_moment p) rest ∙ append_assoc (decimal p.moment) (32 ∷ []) (behind_moment p ++ rest) in
    let none : after (codes "boot ") (open_text p ++ rest) ≡ None =
    ap (after (codes "boot ")) line ∙ no_word (decimal p.moment) _ (digits_decimal decimal_numerals p.moment (omega (arith, small.moment))) (decimal_nonempty p.moment (omega (arith, small.moment))) in
    rw none refl

-- the line of an opening is read
boot_again : (boot : ℕ) (rest : List ℕ) → boot < 2 ^ 63 → boot_at (boot_line boot ++ rest) ≡ Some (boot, rest)
unfolding boot_at
boot_again boot rest small = number_again 10 boot rest refl small

boot_found : (bytes : List ℕ) (boot : ℕ) (rest : List ℕ) → boot_at bytes ≡ Some (boot, rest) → (boot < 2 ^ 63) × (bytes ≡ boot_line boot ++ rest)
unfolding boot_at
boot_found bytes boot rest e =
    let w = bind_some (after (codes "boot ") bytes) (λ (r : List ℕ). number_at 10 r) (boot, rest) e in
    let n = number_found 10 w.0 boot rest w.2 in
    (n.0, after_found (codes "boot ") bytes w.0 w.1 ∙ ap (λ (l : List ℕ). codes "boot " ++ l) n.1)

pub block_again : (boot : Option ℕ) (p : Parts) (rest : List ℕ) → IfSome boot (λ ms. ms < 2 ^ 63) → AreSmall p → block_at (block_text boot p ++ rest) ≡ Some ((boot, p), rest)
unfolding block_at
block_again None p rest first small = rw (no_boot p rest small, open_again p rest small) refl
block_again (Some boot) p rest first small =
    ap (λ (l : List ℕ). behind_boot l (boot_at l)) (append_assoc (boot_line boot) (open_text p) rest)
    ∙ rw (boot_again boot (open_text p ++ rest) first, open_again p rest small) refl

-- a block and what follows it
abbrev IsBlockBefore : List ℕ → List ℕ → Type 0
IsBlockBefore bytes rest = (block : List ℕ) × IsBlock block × (bytes ≡ block ++ rest)

behind_found : (bytes : List ℕ) (first : Option (ℕ × List ℕ)) (found : Option ℕ × Parts) (rest : List ℕ) → boot_at bytes ≡ first → behind_boot bytes first ≡ Some (found, rest) → IsBlockBefore bytes rest
behind_found bytes None found rest is e =
    let o = bind_some (open_at bytes) (λ (entry : Parts × List ℕ). Some ((None, entry.0), entry.1)) (found, rest) e in
    let parts = some_pair_parts (None, o.0.0) found o.0.1 rest o.2 in
    let entry = open_found bytes o.0.0 o.0.1 o.1 in
    (open_text o.0.0, record { boot = None; parts = o.0.0; boot_small = tt; small = entry.0; text = refl }, entry.1 ∙ ap (λ (l : List ℕ). open_text o.0.0 ++ l) parts.1)
behind_found bytes (Some (boot, more)) found rest is e =
    let o = bind_some (open_at more) (λ (entry : Parts × List ℕ). Some ((Some boot, entry.0), entry.1)) (found, rest) e in
    let parts = some_pair_parts (Some boot, o.0.0) found o.0.1 rest o.2 in
    let entry = open_found more o.0.0 o.0.1 o.1 in
    let line = boot_found bytes boot more is in (
      boot_line boot ++ open_text o.0.0,
      record { boot = Some boot; parts = o.0.0; boot_small = line.0; small = entry.0; text = refl },
      line.1 ∙ ap (λ (l : List ℕ). boot_line boot ++ l) (entry.1 ∙ ap (λ (l : List ℕ). open_text o.0.0 ++ l) parts.1) ∙ sym (append_assoc (boot_line boot) (open_text o.0.0) rest),
    )

pub block_found : (bytes : List ℕ) (found : Option ℕ × Parts) (rest : List ℕ) → block_at bytes ≡ Some (found, rest) → IsBlockBefore bytes rest
unfolding block_at
block_found bytes found rest e = behind_found bytes (boot_at bytes) found rest refl e

-- where none is read, none stands first
pub no_block : (bytes : List ℕ) → block_at bytes ≡ None → (block rest : List ℕ) → IsBlock block → bytes ≡ block ++ rest → ⊥
no_block bytes none block rest is same =
    absurd (let read : None ≡ Some ((is.boot, is.parts), rest) = sym none ∙ ap block_at (same ∙ ap (λ (l : List ℕ). l ++ rest) is.text) ∙ block_again is.boot is.parts rest is.boot_small is.small in cc)

-- of two blocks that the same bytes begin with, neither is longer
pub one_block : (a b x y : List ℕ) → IsBlock a → IsBlock b → a ++ x ≡ b ++ y → a ≡ b
one_block a b x y is is' same =
    let read : Some ((is.boot, is.parts), x) ≡ Some ((is'.boot, is'.parts), y) =
    sym (block_again is.boot is.parts x is.boot_small is.small) ∙ ap (λ (l : List ℕ). block_at (l ++ x)) (sym is.text) ∙ ap block_at same
    ∙ ap (λ (l : List ℕ). block_at (l ++ y)) is'.text ∙ block_again is'.boot is'.parts y is'.boot_small is'.small in
    let parts = some_pair_parts (is.boot, is.parts) (is'.boot, is'.parts) x y read in
    is.text ∙ ap (λ (l : Option ℕ × Parts). block_text l.0 l.1) parts.0 ∙ sym is'.text

nothing_read : block_at [] ≡ None
unfolding block_at boot_at open_at number_at digits_front after_digits
nothing_read = refl

-- a block has a byte
pub some_block : IsBlock [] → ⊥
some_block is = no_block [] nothing_read [] [] is refl

-- ---- results

abbrev Read : Type 0
Read = (Option ℕ × Parts) × List ℕ

mapped_some : (o : Option Read) (rest : List ℕ) → Some rest ≡ option_map (λ (x : Read). x.1) o → (found : Option ℕ × Parts) × (o ≡ Some (found, rest))
mapped_some None rest e = absurd cc
mapped_some (Some (found, more)) rest e = (found, let same : rest ≡ more = cc e in ap (λ (l : List ℕ). Some (found, l)) (sym same))

mapped_none : (o : Option Read) → None ≡ option_map (λ (x : Read). x.1) o → o ≡ None
mapped_none None e = refl
mapped_none (Some x) e = absurd cc

before_rest : (bytes rest : List ℕ) → Some rest ≡ option_map (λ (x : Read). x.1) (block_at bytes) → IsBlockBefore bytes rest
before_rest bytes rest e =
    let read = mapped_some (block_at bytes) rest e in
    block_found bytes read.0 rest read.1

-- what follows is no longer than all
pub rest_within : (bytes rest : List ℕ) → Some rest ≡ option_map (λ (x : Read). x.1) (block_at bytes) → length rest ≤ length bytes
rest_within bytes rest e =
    let b = before_rest bytes rest e in
    omega (arith, ap (λ (l : List ℕ). length l) b.2, length-append b.0 rest)

pub block_taken : (bytes rest : List ℕ) → Some rest ≡ option_map (λ (x : Read). x.1) (block_at bytes) → IsBlock (take (length bytes - length rest) bytes)
block_taken bytes rest e =
    let b = before_rest bytes rest e in
    let long : length b.0 ≡ length bytes - length rest = omega (arith, ap (λ (l : List ℕ). length l) b.2, length-append b.0 rest) in
    subst IsBlock (sym (ap (λ (l : List ℕ). take (length bytes - length rest) l) b.2 ∙ take_at b.0 rest (length bytes - length rest) long)) b.1

pub none_read : (bytes : List ℕ) → None ≡ option_map (λ (x : Read). x.1) (block_at bytes) → (block rest : List ℕ) → IsBlock block → bytes ≡ block ++ rest → ⊥
none_read bytes e = no_block bytes (mapped_none (block_at bytes) e)
