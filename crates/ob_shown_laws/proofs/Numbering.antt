-- Objects by their numbers in document order.
use Rattle.std.proofs.Common.{ℕ, ◌≡◌, zero, suc, ◌+◌, ◌-◌, ◌<◌, ◌≤◌, Bool, true, false, ◌&&◌, ◌||◌, cond, Option, Some, None, option_map, refl, sym, ap, ap₂, ◌∙◌, true≢false, arith}
use Rattle.std.specs.Prelude.{is_some, nat_lt, nat_le, option_and_then}
use Rattle.std.proofs.lemmas.Bool.Decides.{nat_tests}
use Rattle.ob_values.proofs.Bools.{bool_same, or_first, or_second, neither}
use Rattle.ob_object.specs.declared.head.Head.{Head}
use Rattle.ob_object.specs.Object.{Objects, none, node, count, parts}
use Rattle.ob_object.specs.Paths.{is_path, node_path}
use Rattle.ob_contracts.specs.Inherit.{or_else, only_if}
use Rattle.ob_site_rules.specs.Build.{Path}
use Rattle.ob_site_rules.specs.Shown.{dressed}
use Rattle.ob_tree.specs.Contexts.{Context, HandedDown, handed_down, under}
use Rattle.ob_shown_laws.specs.Standing.{Standing, inside, standing_in}
use Rattle.ob_shown_laws.specs.Changed.{is_in, is_round, PathsDiffer}
use Rattle.ob_shown_laws.specs.Numbered.{number_in, numbered, one_in, parent_in, root_row, NumbersTell, SitesAreNumbered}
use Rattle.ob_shown_laws.proofs.Touches.{there}
use Rattle.ob_shown_laws.proofs.Reaching.{at_row}

-- tests of numbers
lt_true : (a b : ℕ) → a < b → nat_lt a b ≡ true
lt_true a b h = grind (arith, nat_tests)

lt_false : (a b : ℕ) → b ≤ a → nat_lt a b ≡ false
lt_false a b h = grind (arith, nat_tests)

le_true : (a b : ℕ) → a ≤ b → nat_le a b ≡ true
le_true a b h = grind (arith, nat_tests)

le_false : (a b : ℕ) → b < a → nat_le a b ≡ false
le_false a b h = grind (arith, nat_tests)

is_lt : (a b : ℕ) → nat_lt a b ≡ true → a < b
is_lt a b h = grind (arith, nat_tests)

not_lt : (a b : ℕ) → nat_lt a b ≡ false → b ≤ a
not_lt a b h = grind (arith, nat_tests)

is_le : (a b : ℕ) → nat_le a b ≡ true → a ≤ b
is_le a b h = grind (arith, nat_tests)

same_le : (a b c d : ℕ) → (a ≤ b → c ≤ d) → (c ≤ d → a ≤ b) → nat_le a b ≡ nat_le c d
same_le a b c d f g = bool_same (nat_le a b) (nat_le c d) (λ e. le_true c d (f (is_le a b e))) (λ e. le_true a b (g (is_le c d e)))

same_lt : (a b c d : ℕ) → (a < b → c < d) → (c < d → a < b) → nat_lt a b ≡ nat_lt c d
same_lt a b c d f g = bool_same (nat_lt a b) (nat_lt c d) (λ e. lt_true c d (f (is_lt a b e))) (λ e. lt_true a b (g (is_lt c d e)))

some_number : (a b : ℕ) → Some a ≡ Some b → a ≡ b
some_number a b e = cc

-- which of a row's parts has a number
below_it : (n : ℕ) (r : HandedDown) (h : Head) (below rest : Objects) → n < count below → numbered (suc n) r (node h below rest) ≡ numbered n (handed_down (under r h.name) h) below
below_it n r h below rest lt =
    ap (λ b. cond b (numbered n (handed_down (under r h.name) h) below) (numbered (n - count below) r rest)) (lt_true n (count below) lt)

behind_it : (n : ℕ) (r : HandedDown) (h : Head) (below rest : Objects) → count below ≤ n → numbered (suc n) r (node h below rest) ≡ numbered (n - count below) r rest
behind_it n r h below rest le =
    ap (λ b. cond b (numbered n (handed_down (under r h.name) h) below) (numbered (n - count below) r rest)) (lt_false n (count below) le)

behind_by : (n : ℕ) (r : HandedDown) (h : Head) (below rest : Objects) → numbered (n + (count below + 1)) r (node h below rest) ≡ numbered n r rest
behind_by n r h below rest =
    let one : n + (count below + 1) ≡ suc (n + count below) = omega arith in
    let off : n + count below - count below ≡ n = omega arith in
    ap (λ k. numbered k r (node h below rest)) one ∙ behind_it (n + count below) r h below rest (omega arith) ∙ ap (λ k. numbered k r rest) off

below_by : (n : ℕ) (r : HandedDown) (h : Head) (below rest : Objects) → n < count below → numbered (n + 1) r (node h below rest) ≡ numbered n (handed_down (under r h.name) h) below
below_by n r h below rest lt =
    let one : n + 1 ≡ suc n = omega arith in
    ap (λ k. numbered k r (node h below rest)) one ∙ below_it n r h below rest lt

-- a node's number
some_number_either : (b : Bool) (i l : Option ℕ) → is_some (or_else (only_if b (Some 0)) (or_else i l)) ≡ (b || (is_some i || is_some l))
some_number_either true i l = refl
some_number_either false (Some n) l = refl
some_number_either false None l = refl

some_mapped : (f : ℕ → ℕ) (o : Option ℕ) → is_some (option_map f o) ≡ is_some o
some_mapped f None = refl
some_mapped f (Some n) = refl

pub number_there : (p : Path) (os : Objects) → is_some (number_in p os) ≡ is_in p os
number_there p none = refl
number_there p (node h below rest) =
    some_number_either (is_path p (node_path h)) (option_map (λ n. n + 1) (number_in p below)) (option_map (λ n. n + (count below + 1)) (number_in p rest))
    ∙ ap₂ (λ a b. is_path p (node_path h) || (a || b))
    (some_mapped (λ n. n + 1) (number_in p below) ∙ number_there p below)
    (some_mapped (λ n. n + (count below + 1)) (number_in p rest) ∙ number_there p rest)

-- the three places of a node in a row
pub data Found (p : Path) (h : Head) (below rest : Objects) (n : ℕ) : Type 0 where
  Here : is_path p (node_path h) ≡ true → n ≡ 0 → Found p h below rest n
  Below : (m : ℕ) → is_path p (node_path h) ≡ false → number_in p below ≡ Some m → n ≡ m + 1 → Found p h below rest n
  Behind : (m : ℕ) → is_path p (node_path h) ≡ false → number_in p below ≡ None → number_in p rest ≡ Some m → n ≡ m + (count below + 1) → Found p h below rest n

pub found : (p : Path) (h : Head) (below rest : Objects) (n : ℕ) → number_in p (node h below rest) ≡ Some n → Found p h below rest n
found p h below rest n e = go (is_path p (node_path h)) refl (number_in p below) refl (number_in p rest) refl e
  where
    go : (b : Bool) → is_path p (node_path h) ≡ b → (i : Option ℕ) → number_in p below ≡ i → (l : Option ℕ) → number_in p rest ≡ l
        → or_else (only_if b (Some 0)) (or_else (option_map (λ n. n + 1) i) (option_map (λ n. n + (count below + 1)) l)) ≡ Some n → Found p h below rest n
    go true f i g l k e = Here f (sym (some_number 0 n e))
    go false f (Some m) g l k e = Below m f g (sym (some_number (m + 1) n e))
    go false f None g (Some m) k e = Behind m f g k (sym (some_number (m + (count below + 1)) n e))
    go false f None g None k e = absurd cc

pub number_less : (p : Path) (os : Objects) (n : ℕ) → number_in p os ≡ Some n → n < count os
number_less p none n e = absurd cc
number_less p (node h below rest) n e = go (found p h below rest n e) (λ m f. number_less p below m f) (λ m f. number_less p rest m f)
  where
    go : Found p h below rest n → ((m : ℕ) → number_in p below ≡ Some m → m < count below) → ((m : ℕ) → number_in p rest ≡ Some m → m < count rest) → n < count below + count rest + 1
    go (Here f g) deep later = omega (arith, g)
    go (Below m f g k) deep later = omega (arith, k, deep m g)
    go (Behind m f g k l) deep later = omega (arith, l, later m k)

first_if : (a b : Option Standing) → is_some a ≡ true → or_else a b ≡ a
first_if None b e = absurd cc
first_if (Some x) b e = refl

-- a node is found by its number
pub found_numbered : (p : Path) (r : HandedDown) (os : Objects) → standing_in p r os ≡ option_and_then (λ n. numbered n r os) (number_in p os)
found_numbered p r none = refl
found_numbered p r (node h below rest) =
    go (is_path p (node_path h)) (number_in p below) refl (number_in p rest) refl (found_numbered p d below) (found_numbered p r rest)
  where
    d : HandedDown
    d = handed_down (under r h.name) h

    x : Standing
    x = record { context = under r h.name; object = record { head = h; inner = below } }

    go : (b : Bool) (i : Option ℕ) → number_in p below ≡ i → (l : Option ℕ) → number_in p rest ≡ l
        → standing_in p d below ≡ option_and_then (λ n. numbered n d below) (number_in p below)
        → standing_in p r rest ≡ option_and_then (λ n. numbered n r rest) (number_in p rest)
        → or_else (only_if b (Some x)) (or_else (standing_in p d below) (standing_in p r rest))
        ≡ option_and_then (λ n. numbered n r (node h below rest)) (or_else (only_if b (Some 0)) (or_else (option_map (λ n. n + 1) i) (option_map (λ n. n + (count below + 1)) l)))
    go true i f l g deep later = refl
    go false (Some n) f l g deep later =
        first_if (standing_in p d below) (standing_in p r rest) (there p d below ∙ sym (number_there p below) ∙ ap is_some f)
        ∙ deep ∙ ap (option_and_then (λ n. numbered n d below)) f
        ∙ sym (below_by n r h below rest (number_less p below n f))
    go false None f (Some n) g deep later =
        ap (λ o. or_else o (standing_in p r rest)) (deep ∙ ap (option_and_then (λ n. numbered n d below)) f)
        ∙ later ∙ ap (option_and_then (λ n. numbered n r rest)) g
        ∙ sym (behind_by n r h below rest)
    go false None f None g deep later =
        ap (λ o. or_else o (standing_in p r rest)) (deep ∙ ap (option_and_then (λ n. numbered n d below)) f)
        ∙ later ∙ ap (option_and_then (λ n. numbered n r rest)) g

-- an object of the row itself stands where the row does
split : (n c : ℕ) → ((n < c) → ⊥) → c ≤ n
split n c f = go (nat_lt n c) refl
  where
    go : (b : Bool) → nat_lt n c ≡ b → c ≤ n
    go true e = absurd (f (is_lt n c e))
    go false e = not_lt n c e

pub of_row : (r : HandedDown) (os : Objects) (n : ℕ) (x : Standing) → parent_in n os ≡ None → numbered n r os ≡ Some x → x.context ≡ under r x.object.head.name
of_row r none n x e f = absurd cc
of_row r (node h below rest) zero x e f =
    let is : record { context = under r h.name; object = record { head = h; inner = below } } ≡ x = some_standing f in
    ap (λ (y : Standing). y.context) (sym is) ∙ ap (λ (y : Standing). under r y.object.head.name) is
  where
    some_standing : {a b : Standing} → Some a ≡ Some b → a ≡ b
    some_standing e = cc
of_row r (node h below rest) (suc n) x e f = go (nat_lt n (count below)) e f (λ g k. of_row r rest (n - count below) x g k)
  where
    no_parent : (o : Option ℕ) → option_map (λ k. k + (count below + 1)) o ≡ None → o ≡ None
    no_parent None e = refl
    no_parent (Some k) e = absurd cc

    go : (b : Bool) → cond b (Some (one_in (parent_in n below))) (option_map (λ k. k + (count below + 1)) (parent_in (n - count below) rest)) ≡ None
        → cond b (numbered n (handed_down (under r h.name) h) below) (numbered (n - count below) r rest) ≡ Some x
        → (parent_in (n - count below) rest ≡ None → numbered (n - count below) r rest ≡ Some x → x.context ≡ under r x.object.head.name) → x.context ≡ under r x.object.head.name
    go true e f later = absurd cc
    go false e f later = later (no_parent (parent_in (n - count below) rest) e) f

parent_less : (os : Objects) (n k : ℕ) → parent_in n os ≡ Some k → k < n
parent_less none n k e = absurd cc
parent_less (node h below rest) zero k e = absurd cc
parent_less (node h below rest) (suc n) k e = go (nat_lt n (count below)) refl (parent_in n below) refl (parent_in (n - count below) rest) refl e (λ m f. parent_less below n m f) (λ m f. parent_less rest (n - count below) m f)
  where
    go : (b : Bool) → nat_lt n (count below) ≡ b → (i : Option ℕ) → parent_in n below ≡ i → (l : Option ℕ) → parent_in (n - count below) rest ≡ l
        → cond b (Some (one_in i)) (option_map (λ k. k + (count below + 1)) l) ≡ Some k
        → ((m : ℕ) → parent_in n below ≡ Some m → m < n) → ((m : ℕ) → parent_in (n - count below) rest ≡ Some m → m < n - count below) → k < suc n
    go true t None f l g e deep later = let is : 0 ≡ k = some_number 0 k e in omega (arith, is)
    go true t (Some m) f l g e deep later = let is : m + 1 ≡ k = some_number (m + 1) k e in omega (arith, is, deep m f)
    go false t i f None g e deep later = absurd cc
    go false t i f (Some m) g e deep later =
        let is : m + (count below + 1) ≡ k = some_number (m + (count below + 1)) k e in
        let past : count below ≤ n = not_lt n (count below) t in omega (arith, is, past, later m g)

-- a child stands inside the object that it is in
pub of_parent : (r : HandedDown) (os : Objects) (n k : ℕ) (x y : Standing) → parent_in n os ≡ Some k → numbered k r os ≡ Some x → numbered n r os ≡ Some y → y ≡ inside x y.object
of_parent r none n k x y e f g = absurd cc
of_parent r (node h below rest) zero k x y e f g = absurd cc
of_parent r (node h below rest) (suc n) k x y e f g =
    go (nat_lt n (count below)) refl (parent_in n below) refl (parent_in (n - count below) rest) refl e g
    (λ m a b c. of_parent d below n m x y a b c) (λ m a b c. of_parent r rest (n - count below) m x y a b c)
  where
    d : HandedDown
    d = handed_down (under r h.name) h

    some_standing : {a b : Standing} → Some a ≡ Some b → a ≡ b
    some_standing e = cc

    go : (b : Bool) → nat_lt n (count below) ≡ b → (i : Option ℕ) → parent_in n below ≡ i → (l : Option ℕ) → parent_in (n - count below) rest ≡ l
        → cond b (Some (one_in i)) (option_map (λ k. k + (count below + 1)) l) ≡ Some k
        → cond b (numbered n d below) (numbered (n - count below) r rest) ≡ Some y
        → ((m : ℕ) → parent_in n below ≡ Some m → numbered m d below ≡ Some x → numbered n d below ≡ Some y → y ≡ inside x y.object)
        → ((m : ℕ) → parent_in (n - count below) rest ≡ Some m → numbered m r rest ≡ Some x → numbered (n - count below) r rest ≡ Some y → y ≡ inside x y.object)
        → y ≡ inside x y.object
    go true t None a l b e g deep later =
        let zero_ : 0 ≡ k = some_number 0 k e in
        let is : record { context = under r h.name; object = record { head = h; inner = below } } ≡ x = some_standing (ap (λ m. numbered m r (node h below rest)) zero_ ∙ f) in
        ap (λ (c : Context). record { context = c; object = y.object }) (of_row d below n y a g)
        ∙ ap (λ (z : Standing). inside z y.object) is
    go true t (Some m) a l b e g deep later =
        let one : m + 1 ≡ k = some_number (m + 1) k e in
        let less : m < n = parent_less below n m a in
        let inner : m < count below = omega (arith, less, is_lt n (count below) t) in
        deep m a (sym (below_by m r h below rest inner) ∙ ap (λ m. numbered m r (node h below rest)) one ∙ f) g
    go false t i a None b e g deep later = absurd cc
    go false t i a (Some m) b e g deep later =
        let one : m + (count below + 1) ≡ k = some_number (m + (count below + 1)) k e in
        later m b (sym (behind_by m r h below rest) ∙ ap (λ m. numbered m r (node h below rest)) one ∙ f) g

-- the nodes in an object of a row are in the row, and its parts are parts of it
or_in : (a b c : Bool) → (b ≡ true → c ≡ true) → (a || b) ≡ true → (a || c) ≡ true
or_in true b c f e = refl
or_in false b c f e = f e

round_in : (p : Path) (r : HandedDown) (os : Objects) (k : ℕ) (x : Standing) → numbered k r os ≡ Some x → is_round p x.object ≡ true → is_in p os ≡ true
round_in p r none k x e f = absurd cc
round_in p r (node h below rest) zero x e f =
    or_in (is_path p (node_path h)) (is_in p below) (is_in p below || is_in p rest) (or_first (is_in p below) (is_in p rest))
    (ap (λ (y : Standing). is_round p y.object) (some_standing e) ∙ f)
  where
    some_standing : {a b : Standing} → Some a ≡ Some b → a ≡ b
    some_standing e = cc
round_in p r (node h below rest) (suc k) x e f =
    go (nat_lt k (count below)) e (λ g. round_in p (handed_down (under r h.name) h) below k x g f) (λ g. round_in p r rest (k - count below) x g f)
  where
    go : (b : Bool) → cond b (numbered k (handed_down (under r h.name) h) below) (numbered (k - count below) r rest) ≡ Some x
        → (numbered k (handed_down (under r h.name) h) below ≡ Some x → is_in p below ≡ true) → (numbered (k - count below) r rest ≡ Some x → is_in p rest ≡ true)
        → (is_path p (node_path h) || (is_in p below || is_in p rest)) ≡ true
    go true e deep later = or_second (is_path p (node_path h)) (is_in p below || is_in p rest) (or_first (is_in p below) (is_in p rest) (deep e))
    go false e deep later = or_second (is_path p (node_path h)) (is_in p below || is_in p rest) (or_second (is_in p below) (is_in p rest) (later e))

parts_in : (r : HandedDown) (os : Objects) (k : ℕ) (x : Standing) → numbered k r os ≡ Some x → k + parts x.object ≤ count os
parts_in r none k x e = absurd cc
parts_in r (node h below rest) zero x e =
    let same : count below + 1 ≡ parts x.object = ap (λ (y : Standing). parts y.object) (some_standing e) in omega (arith, same)
  where
    some_standing : {a b : Standing} → Some a ≡ Some b → a ≡ b
    some_standing e = cc
parts_in r (node h below rest) (suc k) x e =
    go (nat_lt k (count below)) refl e (λ g. parts_in (handed_down (under r h.name) h) below k x g) (λ g. parts_in r rest (k - count below) x g)
  where
    go : (b : Bool) → nat_lt k (count below) ≡ b → cond b (numbered k (handed_down (under r h.name) h) below) (numbered (k - count below) r rest) ≡ Some x
        → (numbered k (handed_down (under r h.name) h) below ≡ Some x → k + parts x.object ≤ count below) → (numbered (k - count below) r rest ≡ Some x → k - count below + parts x.object ≤ count rest)
        → suc k + parts x.object ≤ count below + count rest + 1
    go true t e deep later = omega (arith, deep e)
    go false t e deep later = omega (arith, later e, not_lt k (count below) t)

not_in : (p : Path) (r : HandedDown) (os : Objects) (k : ℕ) (x : Standing) → numbered k r os ≡ Some x → is_in p os ≡ false → is_round p x.object ≡ false
not_in p r os k x e f = go (is_round p x.object) refl
  where
    go : (b : Bool) → is_round p x.object ≡ b → b ≡ false
    go true g = absurd (true≢false (sym (round_in p r os k x e g) ∙ f))
    go false g = refl

pub nowhere_in : (r : HandedDown) (os : Objects) (p : Path) (k : ℕ) (x : Standing) → number_in p os ≡ None → numbered k r os ≡ Some x → is_round p x.object ≡ false
nowhere_in r os p k x e f = not_in p r os k x f (sym (number_there p os) ∙ ap is_some e)

-- a number is from one on, and not further than so many
abbrev is_within : ℕ → ℕ → ℕ → Bool
is_within k n w = nat_le k n && nat_lt n (k + w)

within_true : (k n w : ℕ) → k ≤ n → n < k + w → is_within k n w ≡ true
within_true k n w a b = ap₂ (λ x y. x && y) (le_true k n a) (lt_true n (k + w) b)

before_it : (k n w : ℕ) → n < k → is_within k n w ≡ false
before_it k n w a = ap (λ x. x && nat_lt n (k + w)) (le_false k n a)

after_it : (k n w : ℕ) → k + w ≤ n → is_within k n w ≡ false
after_it k n w a = ap (λ x. nat_le k n && x) (lt_false n (k + w) a) ∙ and_false (nat_le k n)
  where
    and_false : (x : Bool) → (x && false) ≡ false
    and_false true = refl
    and_false false = refl

moved_by : (k n w m : ℕ) → is_within k n w ≡ is_within (k + m) (n + m) w
moved_by k n w m =
    ap₂ (λ x y. x && y)
    (same_le k n (k + m) (n + m) (λ a. omega (arith, a)) (λ a. omega (arith, a)))
    (same_lt n (k + w) (n + m) (k + m + w) (λ a. omega (arith, a)) (λ a. omega (arith, a)))

pub round_by : (r : HandedDown) (os : Objects) → PathsDiffer os → (p : Path) (n k : ℕ) (x : Standing) → number_in p os ≡ Some n → numbered k r os ≡ Some x → is_round p x.object ≡ is_within k n (parts x.object)
round_by r none d p n k x e f = absurd cc
round_by r (node h below rest) d p n zero x e f =
    ap (λ (y : Standing). is_round p y.object) (sym is) ∙ go (found p h below rest n e) ∙ ap (λ (y : Standing). is_within 0 n (parts y.object)) is
  where
    some_standing : {a b : Standing} → Some a ≡ Some b → a ≡ b
    some_standing e = cc

    is : record { context = under r h.name; object = record { head = h; inner = below } } ≡ x
    is = some_standing f

    go : Found p h below rest n → (is_path p (node_path h) || is_in p below) ≡ is_within 0 n (count below + 1)
    go (Here a b) = or_first (is_path p (node_path h)) (is_in p below) a ∙ sym (within_true 0 n (count below + 1) (omega arith) (omega (arith, b)))
    go (Below m a b c) =
        or_second (is_path p (node_path h)) (is_in p below) (sym (number_there p below) ∙ ap is_some b)
        ∙ sym (within_true 0 n (count below + 1) (omega arith) (omega (arith, c, number_less p below m b)))
    go (Behind m a b c e) =
        ap₂ (λ u v. u || v) a (sym (number_there p below) ∙ ap is_some b)
        ∙ sym (after_it 0 n (count below + 1) (omega (arith, e)))
round_by r (node h below rest) d p n (suc k) x e f =
    go (nat_lt k (count below)) refl f (found p h below rest n e)
    (λ m a b. round_by (handed_down (under r h.name) h) below d.2 p m k x a b)
    (λ m a b. round_by r rest d.3 p m (k - count below) x a b)
  where
    go : (b : Bool) → nat_lt k (count below) ≡ b → cond b (numbered k (handed_down (under r h.name) h) below) (numbered (k - count below) r rest) ≡ Some x → Found p h below rest n
        → ((m : ℕ) → number_in p below ≡ Some m → numbered k (handed_down (under r h.name) h) below ≡ Some x → is_round p x.object ≡ is_within k m (parts x.object))
        → ((m : ℕ) → number_in p rest ≡ Some m → numbered (k - count below) r rest ≡ Some x → is_round p x.object ≡ is_within (k - count below) m (parts x.object))
        → is_round p x.object ≡ is_within (suc k) n (parts x.object)
    go true t g (Here a b) deep later =
        not_in p (handed_down (under r h.name) h) below k x g (neither (is_in p below) (is_in p rest) (d.0 p a)).0
        ∙ sym (before_it (suc k) n (parts x.object) (omega (arith, b)))
    go true t g (Below m a b c) deep later =
        let one : k + 1 ≡ suc k = omega arith in
        deep m b g ∙ moved_by k m (parts x.object) 1 ∙ ap₂ (λ u v. is_within u v (parts x.object)) one (sym c)
    go true t g (Behind m a b c e) deep later =
        not_in p (handed_down (under r h.name) h) below k x g (sym (number_there p below) ∙ ap is_some b)
        ∙ sym (after_it (suc k) n (parts x.object) (omega (arith, e, parts_in (handed_down (under r h.name) h) below k x g)))
    go false t g (Here a b) deep later =
        not_in p r rest (k - count below) x g (neither (is_in p below) (is_in p rest) (d.0 p a)).1
        ∙ sym (before_it (suc k) n (parts x.object) (omega (arith, b)))
    go false t g (Below m a b c) deep later =
        not_in p r rest (k - count below) x g (d.1 p (sym (number_there p below) ∙ ap is_some b))
        ∙ sym (before_it (suc k) n (parts x.object) (omega (arith, c, number_less p below m b, not_lt k (count below) t)))
    go false t g (Behind m a b c e) deep later =
        let past : count below ≤ k = not_lt k (count below) t in
        let one : k - count below + (count below + 1) ≡ suc k = omega (arith, past) in
        later m c g ∙ moved_by (k - count below) m (parts x.object) (count below + 1) ∙ ap₂ (λ u v. is_within u v (parts x.object)) one (sym e)

-- a row in which objects are numbered
pub numbers_tell : (r : HandedDown) (os : Objects) → NumbersTell r os
numbers_tell r os = record {
  found = λ p. found_numbered p r os;
  first = λ n x e f. of_row r os n x e f;
  child = λ n k x y e f g. of_parent r os n k x y e f g;
  round = λ d p n k x e f. round_by r os d p n k x e f;
  nowhere = λ p k x e f. nowhere_in r os p k x e f;
}

pub sites_numbered : SitesAreNumbered
sites_numbered plan s = record {
  root = at_row plan s;
  numbers = numbers_tell (root_row s.library) (node (dressed plan s).head (dressed plan s).inner none);
}
