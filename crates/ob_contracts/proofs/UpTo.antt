-- Parts counted child by child, up to a limit.
use Rattle.std.proofs.Common.{◌≡◌, ℕ, zero, suc, ◌+◌, ◌-◌, ◌≤◌, List, [], ◌∷◌, ◌++◌, take, Some, None, refl, sym, ap, ◌∙◌, arith}
use Rattle.std.specs.Prelude.{slice_get, nat_lt, min}
use Rattle.std.proofs.lemmas.Bool.Decides.{nat_tests}
use Rattle.ob_object.specs.Object.{Object, Objects, none, node, in_row, children, count, parts, in_row-listed}
use Rattle.ob_contracts.specs.Inherit.{bare, bare_row}
use Rattle.ob_contracts.proofs.Built.{take_one_more, take_all}

pub count_bare_row : (r : Objects) → count (bare_row r) ≡ count r
count_bare_row none = refl
count_bare_row (node h below rest) = omega (arith, count_bare_row below, count_bare_row rest)

pub parts_bare : (o : Object) → parts (bare o) ≡ parts o
parts_bare o = ap (λ n. n + 1) (count_bare_row o.inner)

count_last : (xs : List Object) (x : Object) → count (in_row (xs ++ x ∷ [])) ≡ count (in_row xs) + parts x
count_last [] x = omega arith
count_last (y ∷ xs) x = omega (arith, count_last xs x)

-- the parts of the children up to a place
abbrev pub up_to : Object → ℕ → ℕ
up_to o i = count (in_row (take i (children o)))

up_to_more : (o x : Object) (i : ℕ) → Some x ≡ slice_get (children o) i → up_to o (i + 1) ≡ up_to o i + parts x
up_to_more o x i is = ap (λ l. count (in_row l)) (sym (take_one_more (children o) i x is)) ∙ count_last (take i (children o)) x

some_of : (cs : List Object) (i : ℕ) → count (in_row (take i cs)) ≤ count (in_row cs)
some_of cs zero = omega arith
some_of [] (suc i) = omega arith
some_of (c ∷ cs) (suc i) = omega (arith, some_of cs i)

all_of : (o : Object) → count (in_row (children o)) + 1 ≡ parts o
all_of o = ap (λ r. count r + 1) (in_row-listed o.inner)

pub first_left : (most : ℕ) (o : Object) → most - 1 ≡ most - (1 + up_to o 0)
first_left most o = ap (λ n. most - n) (omega (arith, none_yet (children o)))
  where
    none_yet : (cs : List Object) → count (in_row (take 0 cs)) ≡ 0
    none_yet [] = refl
    none_yet (c ∷ cs) = refl

pub next_left : (most left next : ℕ) (o x : Object) (i : ℕ) → Some x ≡ slice_get (children o) i → next ≡ left - parts x → left ≡ most - (1 + up_to o i) → next ≡ most - (1 + up_to o (i + 1))
next_left most left next o x i is one held = omega (arith, one, held, up_to_more o x i is)

pub none_left : (most left : ℕ) (o : Object) (i : ℕ) → left ≡ 0 → left ≡ most - (1 + up_to o i) → 0 ≡ most - parts o
none_left most left o i gone held = omega (arith, gone, held, some_of (children o) i, all_of o)

pub last_left : (most left : ℕ) (o : Object) (i : ℕ) → None ≡ slice_get (children o) i → left ≡ most - (1 + up_to o i) → left ≡ most - parts o
last_left most left o i past held = omega (arith, held, ap (λ l. count (in_row l)) (take_all (children o) i past), all_of o)

-- an object that is taken as it stands, without its href
pub bare_left : (most n : ℕ) (o made : Object) → bare o ≡ made → n ≡ most - parts o → n ≡ most - parts made
bare_left most n o made same is = is ∙ ap (λ k. most - k) (sym (parts_bare o) ∙ ap parts same)

-- a limit was passed where so many are counted up to one more
pub large_test : (left n p : ℕ) → left ≡ 513 - p → n ≡ 513 - left → nat_lt 512 n ≡ nat_lt 512 p
large_test left n p is e = within n p (omega (arith, is, e))
  where
    within : (n p : ℕ) → n ≡ min 513 p → nat_lt 512 n ≡ nat_lt 512 p
    within n p e = grind (arith, nat_tests, e)
