-- Names that are put and parts that are added up, one object after another.
use Rattle.std.proofs.Common.{◌≡◌, ℕ, ◌+◌, ◌-◌, ◌<◌, ◌≤◌, Bool, true, false, cond, not, ◌&&◌, ◌||◌, List, [], ◌∷◌, ◌++◌, map, filter, length, take, drop, get_or, Option, Some, None, refl, sym, ap, ◌∙◌, subst, append_assoc, arith}
use Rattle.std.specs.Prelude.{is_some, slice_get, bytes_eq, option_map, find}
use Rattle.std.specs.Ordering.{nat_cmp}
use Rattle.std.specs.Cmp.Lexicographic.{slice_cmp}
use Rattle.std.specs.BTreeSet.{Updates, contains_by}
use denote.Ref.{Bor}
use Rattle.std.proofs.lemmas.List.{append-nil, take_more, take_all}
use Rattle.std.proofs.lemmas.Map.Text.{is_eq-slice_cmp}
use Rattle.std.proofs.lemmas.Option.{slice_get-get_or}
use Rattle.ob_values.proofs.Bools.{or_assoc, or_false}
use Rattle.ob_object.specs.Object.{Object, none, in_row, children, count, parts}
use Rattle.ob_object.specs.WellFormed.{is_taken, has_name, NamesDiffer}
use Rattle.ob_contracts.specs.Found.{lent}
use Rattle.ob_contracts.specs.Inherit.{Contracts, Words, words_in, contract_of, present, overridden, result_of, missing, is_new}
use Rattle.ob_contracts.proofs.Distinct.{free_at}
use Rattle.ob_contracts.proofs.Missing.{taken-append}
use Rattle.ob_roles.proofs.Named.{taken_first, filter_behind}
use Rattle.ob_roles.proofs.Taken.{rest_more, rest_past}
use Rattle.ob_site_rules.specs.State.{is_among, at}
use Rattle.ob_site_file.specs.declared.derived.Derived.{Derived}
use Rattle.ob_site_file.specs.Sizes.{Texts, has_text, HasNames, is_fresh, row_count, stand_in, stood}
use Rattle.ob_site_file.proofs.Sizes.{left_both, left_next, left_none, left_end, count_append, row_append, row_one, result_parts}

or_cond : (b c : Bool) → cond b true c ≡ (c || b)
or_cond true true = refl
or_cond true false = refl
or_cond false true = refl
or_cond false false = refl

-- a text more in a set
pub text_more : (set new : Texts) (key : Bor (List ℕ)) → Updates (λ x y. slice_cmp nat_cmp x.now y.now) set new key true → (t : List ℕ) → has_text new t ≡ (has_text set t || bytes_eq key.now t)
text_more set new key up t =
    up.0 (record { ref_ptr = (0, 0); now = t })
    ∙ ap (λ b. cond b true (has_text set t)) (is_eq-slice_cmp key.now t)
    ∙ or_cond (bytes_eq key.now t) (has_text set t)

taken_behind : (n : List ℕ) (os : List Object) (o : Object) → is_taken (Some n) (os ++ o ∷ []) ≡ (is_taken (Some n) os || has_name n o.head.name)
taken_behind n os o = taken-append n os (o ∷ []) ∙ ap (λ b. is_taken (Some n) os || b) (taken_first n o [] ∙ or_false (has_name n o.head.name))

taken_next : (n : List ℕ) (before cs : List Object) (i : ℕ) (x : Object) → i < length cs → x ≡ get_or cs i x → is_taken (Some n) (before ++ take (i + 1) cs) ≡ (is_taken (Some n) (before ++ take i cs) || has_name n x.head.name)
taken_next n before cs i x h is =
    ap (λ l. is_taken (Some n) (before ++ l)) (take_more cs i x h ∙ ap (λ y. take i cs ++ y ∷ []) (sym is))
    ∙ ap (is_taken (Some n)) (sym (append_assoc before (take i cs) (x ∷ [])))
    ∙ taken_behind n (before ++ take i cs) x

take_none : {A : Type 0} (xs : List A) → take 0 xs ≡ []
take_none [] = refl
take_none (x ∷ xs) = refl

count_if : (b : Bool) (x : Object) → count (in_row (cond b (x ∷ []) [])) ≡ cond b (parts x) 0
count_if true x = omega arith
count_if false x = refl

-- whether the next child of a source is new, by a set of the names before it
fresh_at : (set : Texts) (before cs : List Object) (i : ℕ) (x : Object) (n : Option (List ℕ)) → x.head.name ≡ n → NamesDiffer cs → i < length cs → x ≡ get_or cs i x → HasNames set (before ++ take i cs) → is_fresh set n ≡ (is_some n && not (is_taken n before))
fresh_at set before cs i x None e d h is names = refl
fresh_at set before cs i x (Some n) e d h is names =
    let here : Some x ≡ slice_get cs i = ap (λ z. Some z) is ∙ sym (slice_get-get_or cs i x h) in
    let free : is_taken (Some n) (take i cs) ≡ false = subst (λ (m : Option (List ℕ)). is_taken m (take i cs) ≡ false) e (free_at cs i x d here) in
    ap not (names n ∙ taken-append n before (take i cs) ∙ ap (λ b. is_taken (Some n) before || b) free ∙ or_false (is_taken (Some n) before))

-- the children of a source up to a place: what is left of the limit
pub record Up (most : ℕ) (before cs : List Object) (i left : ℕ) (set : Texts) : Type 0 where
  pub counted : left ≡ most - count (in_row (filter (is_new before) (take i cs)))
  pub names : HasNames set (before ++ take i cs)

pub up_first : (most : ℕ) (before cs : List Object) (set : Texts) → HasNames set before → Up most before cs 0 most set
up_first most before cs set names = record {
  counted = let no_more : count (in_row (filter (is_new before) (take 0 cs))) ≡ 0 = ap (λ l. count (in_row (filter (is_new before) l))) (take_none cs) in omega (arith, no_more);
  names = λ n. names n ∙ ap (is_taken (Some n)) (sym (ap (λ l. before ++ l) (take_none cs) ∙ append-nil before));
}

pub up_more : (most : ℕ) (before cs : List Object) (i left next : ℕ) (x : Object) (set new : Texts) → NamesDiffer cs → i < length cs → x ≡ get_or cs i x → next ≡ left - cond (is_fresh set x.head.name) (parts x) 0
    → ((q : List ℕ) → has_text new q ≡ (has_text set q || has_name q x.head.name)) → Up most before cs i left set → Up most before cs (i + 1) next new
up_more most before cs i left next x set new d h is one put p =
    let A = filter (is_new before) (take i cs) in
    let fresh : is_fresh set x.head.name ≡ is_new before x = fresh_at set before cs i x x.head.name refl d h is p.names in
    let all : filter (is_new before) (take (i + 1) cs) ≡ A ++ cond (is_new before x) (x ∷ []) [] =
    ap (filter (is_new before)) (take_more cs i x h ∙ ap (λ y. take i cs ++ y ∷ []) (sym is)) ∙ filter_behind (is_new before) (take i cs) x in
    let counts : count (in_row (filter (is_new before) (take (i + 1) cs))) ≡ count (in_row A) + cond (is_new before x) (parts x) 0 =
    ap (λ l. count (in_row l)) all ∙ count_append A (cond (is_new before x) (x ∷ []) []) ∙ ap (λ m. count (in_row A) + m) (count_if (is_new before x) x) in
    record {
      counted = left_both most left next (count (in_row A)) (cond (is_new before x) (parts x) 0) p.counted (one ∙ ap (λ b. left - cond b (parts x) 0) fresh) ∙ ap (λ m. most - m) (sym counts);
      names = λ q. put q ∙ ap (λ b. b || has_name q x.head.name) (p.names q) ∙ sym (taken_next q before cs i x h is);
    }

pub up_parts : (most : ℕ) (before cs : List Object) (i left : ℕ) (set : Texts) → length cs ≤ i → Up most before cs i left set → left ≡ most - count (in_row (filter (is_new before) cs))
up_parts most before cs i left set h p = p.counted ∙ ap (λ l. most - count (in_row (filter (is_new before) l))) (take_all i cs h)

pub up_names : (most : ℕ) (before cs : List Object) (i left : ℕ) (set : Texts) → length cs ≤ i → Up most before cs i left set → HasNames set (before ++ cs)
up_names most before cs i left set h p = λ n. p.names n ∙ ap (λ l. is_taken (Some n) (before ++ l)) (take_all i cs h)

-- what is missing of the sources from a place on
pub record Left (most : ℕ) (before : List Object) (from : List (Bor Object)) (i left : ℕ) (set : Texts) : Type 0 where
  pub there : List Object
  pub names : HasNames set there
  pub rest : left - count (in_row (missing there (lent (drop i from)))) ≡ most - count (in_row (missing before (lent from)))

pub left_first : (most : ℕ) (before : List Object) (from : List (Bor Object)) (set : Texts) → HasNames set before → Left most before from 0 most set
left_first most before from set names = record { there = before; names = names; rest = refl }

pub left_more : (most : ℕ) (before : List Object) (from : List (Bor Object)) (i left next : ℕ) (x : Bor Object) (set new : Texts) → i < length from → x ≡ get_or from i x
    → ((b : List Object) → HasNames set b → next ≡ left - count (in_row (filter (is_new b) (children x.now)))) → ((b : List Object) → HasNames set b → HasNames new (b ++ children x.now))
    → Left most before from i left set → Left most before from (i + 1) next new
left_more most before from i left next x set new h is one put p =
    let cs = children x.now in
    let R = missing (p.there ++ cs) (lent (drop (i + 1) from)) in
    let N = filter (is_new p.there) cs in
    let split : count (in_row (missing p.there (lent (drop i from)))) ≡ count (in_row N) + count (in_row R) =
    ap (λ l. count (in_row (missing p.there (lent l)))) (rest_more from i x h is) ∙ count_append N R in
    record {
      there = p.there ++ cs;
      names = put p.there p.names;
      rest = left_next left next (count (in_row N)) (count (in_row R)) (count (in_row (missing p.there (lent (drop i from))))) (most - count (in_row (missing before (lent from)))) split (one p.there p.names) p.rest;
    }

pub left_all : (most : ℕ) (before : List Object) (from : List (Bor Object)) (i left : ℕ) (set : Texts) → length from ≤ i → Left most before from i left set → left ≡ most - count (in_row (missing before (lent from)))
left_all most before from i left set h p =
    left_end left (count (in_row (missing p.there (lent (drop i from))))) (most - count (in_row (missing before (lent from)))) (ap (λ l. count (in_row (missing p.there (lent l)))) (rest_past from i h)) p.rest

pub left_over : (most : ℕ) (before : List Object) (from : List (Bor Object)) (i left : ℕ) (set : Texts) → left ≡ 0 → Left most before from i left set → 0 ≡ most - count (in_row (missing before (lent from)))
left_over most before from i left set h p =
    left_none left (count (in_row (missing p.there (lent (drop i from))))) (most - count (in_row (missing before (lent from)))) h p.rest

-- the parts of a child that roles derive
pub ref_parts : (lib : Contracts) (g : Option Words) (over : Option Object) (n : List ℕ) → parts (result_of lib (stand_in true n) g over) ≡ 1
ref_parts lib g over n = result_parts lib (stand_in true n) g over

pub other_parts : (lib : Contracts) (g : Option Words) (over : Option Object) (n : List ℕ) → parts (result_of lib (stand_in false n) g over) ≡ count (in_row (missing [] (present (map (contract_of lib) (words_in g) ++ over ∷ [])))) + 1
other_parts lib g over n = result_parts lib (stand_in false n) g over ∙ ap (λ m. m + 1) (omega arith)

map_behind : {A B : Type 0} (f : A → B) (xs : List A) (x : A) → map f (xs ++ x ∷ []) ≡ map f xs ++ f x ∷ []
map_behind f [] x = refl
map_behind f (y ∷ xs) x = ap (λ l. f y ∷ l) (map_behind f xs x)

-- one derived child more
pub derived_more : (most : ℕ) (lib : Contracts) (g : Option Words) (ss : List Object) (ds : List Derived) (i left next : ℕ) (d x : Derived) → i < length ds → x ≡ get_or ds i d
    → next ≡ left - parts (result_of lib (stood x) g (overridden (Some x.name.now) ss))
    → left ≡ most - row_count lib g ss (in_row (map stood (take i ds))) → next ≡ most - row_count lib g ss (in_row (map stood (take (i + 1) ds)))
derived_more most lib g ss ds i left next d x h is one p =
    let A = map stood (take i ds) in
    let all : map stood (take (i + 1) ds) ≡ A ++ stood x ∷ [] = ap (map stood) (take_more ds i d h ∙ ap (λ y. take i ds ++ y ∷ []) (sym is)) ∙ map_behind stood (take i ds) x in
    let counts : row_count lib g ss (in_row (map stood (take (i + 1) ds))) ≡ row_count lib g ss (in_row A) + parts (result_of lib (stood x) g (overridden (Some x.name.now) ss)) =
    ap (λ l. row_count lib g ss (in_row l)) all ∙ row_append lib g ss A (stood x ∷ []) ∙ ap (λ m. row_count lib g ss (in_row A) + m) (omega (arith, row_one lib g ss (stood x).head (stood x).inner none)) in
    left_both most left next (row_count lib g ss (in_row A)) (parts (result_of lib (stood x) g (overridden (Some x.name.now) ss))) p one ∙ ap (λ m. most - m) (sym counts)

-- the names of own children and of derived ones
pub own_more : (cs : List Object) (i : ℕ) (x : Object) (set new : Texts) → i < length cs → x ≡ get_or cs i x → ((q : List ℕ) → has_text new q ≡ (has_text set q || has_name q x.head.name)) → HasNames set (take i cs) → HasNames new (take (i + 1) cs)
own_more cs i x set new h is put names = λ q. put q ∙ ap (λ b. b || has_name q x.head.name) (names q) ∙ sym (taken_next q [] cs i x h is)

pub named_more : (os : List Object) (ds : List Derived) (i : ℕ) (d x : Derived) (set new : Texts) → i < length ds → x ≡ get_or ds i d → ((q : List ℕ) → has_text new q ≡ (has_text set q || bytes_eq x.name.now q))
    → HasNames set (os ++ map stood (take i ds)) → HasNames new (os ++ map stood (take (i + 1) ds))
named_more os ds i d x set new h is put names = λ q.
    put q ∙ ap (λ b. b || bytes_eq x.name.now q) (names q)
    ∙ sym (ap (λ l. is_taken (Some q) (os ++ l)) (ap (map stood) (take_more ds i d h ∙ ap (λ y. take i ds ++ y ∷ []) (sym is)) ∙ map_behind stood (take i ds) x)
    ∙ ap (is_taken (Some q)) (sym (append_assoc os (map stood (take i ds)) (stood x ∷ [])))
    ∙ taken_behind q (os ++ map stood (take i ds)) (stood x))

-- texts in sets
pub among_more : (t : List ℕ) (ts : List (List ℕ)) (i : ℕ) (x : List ℕ) → i < length ts → x ≡ get_or ts i x → is_among t (take (i + 1) ts) ≡ (is_among t (take i ts) || bytes_eq x t)
among_more t ts i x h is = ap (is_among t) (take_more ts i x h ∙ ap (λ y. take i ts ++ y ∷ []) (sym is)) ∙ behind (take i ts)
  where
    behind : (xs : List (List ℕ)) → is_among t (xs ++ x ∷ []) ≡ (is_among t xs || bytes_eq x t)
    behind [] = or_false (bytes_eq x t)
    behind (y ∷ xs) = ap (λ b. bytes_eq y t || b) (behind xs) ∙ sym (or_assoc (bytes_eq y t) (is_among t xs) (bytes_eq x t))

there_first : {A : Type 0} (t : List ℕ) (e : List ℕ × A) (es : List (List ℕ × A)) → is_some (at t (e ∷ es)) ≡ (bytes_eq e.0 t || is_some (at t es))
there_first t e es = go (bytes_eq e.0 t)
  where
    go : (b : Bool) → is_some (option_map (λ e. e.1) (cond b (Some e) (find (λ e. bytes_eq e.0 t) es))) ≡ (b || is_some (at t es))
    go true = refl
    go false = refl

pub there_more : {A B : Type 0} (f : (List ℕ × A) → (List ℕ × B)) → ((e : List ℕ × A) → (f e).0 ≡ e.0) → (t : List ℕ) (es : List (List ℕ × A)) (i : ℕ) (x : List ℕ × A) → i < length es → x ≡ get_or es i x
    → is_some (at t (map f (take (i + 1) es))) ≡ (is_some (at t (map f (take i es))) || bytes_eq x.0 t)
there_more {A} {B} f same t es i x h is = ap (λ l. is_some (at t (map f l))) (take_more es i x h ∙ ap (λ y. take i es ++ y ∷ []) (sym is)) ∙ behind (take i es)
  where
    behind : (xs : List (List ℕ × A)) → is_some (at t (map f (xs ++ x ∷ []))) ≡ (is_some (at t (map f xs)) || bytes_eq x.0 t)
    behind [] = there_first t (f x) [] ∙ ap (λ (k : List ℕ). bytes_eq k t || false) (same x) ∙ or_false (bytes_eq x.0 t)
    behind (y ∷ xs) =
        there_first t (f y) (map f (xs ++ x ∷ [])) ∙ ap (λ b. bytes_eq (f y).0 t || b) (behind xs)
        ∙ sym (or_assoc (bytes_eq (f y).0 t) (is_some (at t (map f xs))) (bytes_eq x.0 t)) ∙ ap (λ b. b || bytes_eq x.0 t) (sym (there_first t (f y) (map f xs)))

pub names_none : (set : Texts) → set.keys ≡ [] → HasNames set []
names_none set e = λ n. ap (λ (ks : List (Bor (List ℕ))). contains_by (λ k. slice_cmp nat_cmp n k.now) (record { keys = ks })) e

pub own_first : (cs : List Object) (set : Texts) → set.keys ≡ [] → HasNames set (take 0 cs)
own_first cs set e = λ n. names_none set e n ∙ ap (is_taken (Some n)) (sym (take_none cs))

pub names_first : (os : List Object) (ds : List Derived) (set : Texts) → HasNames set os → HasNames set (os ++ map stood (take 0 ds))
names_first os ds set names = λ n. names n ∙ ap (is_taken (Some n)) (sym (ap (λ l. os ++ map stood l) (take_none ds) ∙ append-nil os))

pub derived_first : (most : ℕ) (lib : Contracts) (g : Option Words) (ss : List Object) (ds : List Derived) → most ≡ most - row_count lib g ss (in_row (map stood (take 0 ds)))
derived_first most lib g ss ds =
    let no_more : row_count lib g ss (in_row (map stood (take 0 ds))) ≡ 0 = ap (λ l. row_count lib g ss (in_row (map stood l))) (take_none ds) in
    omega (arith, no_more)

-- texts of which none is in a set yet
pub among_first : (ts : List (List ℕ)) (set : Texts) → set.keys ≡ [] → (t : List ℕ) → has_text set t ≡ is_among t (take 0 ts)
among_first ts set e t = names_none set e t ∙ ap (is_among t) (sym (take_none ts))

pub there_none : {A B : Type 0} (f : (List ℕ × A) → (List ℕ × B)) (es : List (List ℕ × A)) (set : Texts) → set.keys ≡ [] → (t : List ℕ) → has_text set t ≡ is_some (at t (map f (take 0 es)))
there_none f es set e t = names_none set e t ∙ ap (λ l. is_some (at t (map f l))) (sym (take_none es))
