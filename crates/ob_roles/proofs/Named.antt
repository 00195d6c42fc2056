-- Which names are taken in lists of objects, and what is missing of them.
use Rattle.std.proofs.Common.{◌≡◌, ℕ, zero, suc, ◌+◌, ◌<◌, ◌≤◌, Bool, true, false, cond, not, ◌&&◌, ◌||◌, List, [], ◌∷◌, ◌++◌, filter, length, take, drop, get_or, Option, Some, None, refl, sym, ap, ap₂, ◌∙◌, subst, append_assoc, arith, true≢false}
use Rattle.std.specs.Prelude.{is_some, slice_get}
use Rattle.std.specs.Option.{option_copied}
use Rattle.std.specs.Str.{bytes_eq}
use denote.Ref.{Bor}
use Rattle.std.proofs.lemmas.List.{append-nil, take_more, take_all}
use Rattle.std.proofs.lemmas.Slice.Eq.{bytes_eq-Decides}
use Rattle.ob_object.specs.Object.{Object, Objects, none, node, listed, in_row, children, listed-in_row, in_row-listed}
use Rattle.ob_object.specs.WellFormed.{NamesDiffer, is_taken, has_name, named, with_child}
use Rattle.ob_contracts.specs.Found.{lent}
use Rattle.ob_contracts.specs.Inherit.{is_new, missing}
use Rattle.ob_contracts.proofs.Distinct.{free_at}
use Rattle.ob_contracts.proofs.Missing.{taken-append}
use Rattle.ob_roles.specs.Worded.{with_more}
use Rattle.ob_roles.proofs.Taken.{rest_more as lent_more, rest_past}

-- a name is taken by the first object, or by one behind it
pub taken_first : (n : List ℕ) (o : Object) (os : List Object) → is_taken (Some n) (o ∷ os) ≡ (has_name n o.head.name || is_taken (Some n) os)
taken_first n o os = go (has_name n o.head.name)
  where
    go : (b : Bool) → is_some (cond b (Some o) (named n os)) ≡ (b || is_some (named n os))
    go true = refl
    go false = refl

-- one list takes the names that the other takes
abbrev pub Same : List Object → List Object → Type 0
Same xs ys = (n : List ℕ) → is_taken (Some n) xs ≡ is_taken (Some n) ys

pub same_taken : (n : Option (List ℕ)) (xs ys : List Object) → Same xs ys → is_taken n xs ≡ is_taken n ys
same_taken None xs ys s = refl
same_taken (Some n) xs ys s = s n

new_named : (n : List ℕ) (name : Option (List ℕ)) (made : List Object) → has_name n name ≡ true → is_taken (Some n) made ≡ false → (is_some name && not (is_taken name made)) ≡ true
new_named n None made h free = absurd (true≢false (sym h))
new_named n (Some m) made h free =
    let same : m ≡ n = (bytes_eq-Decides m n).0 h in
    ap not (ap (λ z. is_taken (Some z) made) same ∙ free)

-- a name that isn't there is taken among those that are new where it is taken at all
taken_new : (made cs : List Object) (n : List ℕ) → is_taken (Some n) made ≡ false → is_taken (Some n) (filter (is_new made) cs) ≡ is_taken (Some n) cs
taken_new made [] n free = refl
taken_new made (o ∷ cs) n free = go (taken_new made cs n free) (has_name n o.head.name) (is_new made o) refl refl
  where
    go : is_taken (Some n) (filter (is_new made) cs) ≡ is_taken (Some n) cs → (b d : Bool) → has_name n o.head.name ≡ b → is_new made o ≡ d → is_taken (Some n) (filter (is_new made) (o ∷ cs)) ≡ is_taken (Some n) (o ∷ cs)
    go rest true true e f =
        ap (λ x. is_taken (Some n) (cond x (o ∷ filter (is_new made) cs) (filter (is_new made) cs))) f
        ∙ taken_first n o (filter (is_new made) cs) ∙ ap (λ x. x || is_taken (Some n) (filter (is_new made) cs)) e
        ∙ sym (taken_first n o cs ∙ ap (λ x. x || is_taken (Some n) cs) e)
    go rest true false e f = absurd (true≢false (sym (new_named n o.head.name made e free) ∙ f))
    go rest false true e f =
        ap (λ x. is_taken (Some n) (cond x (o ∷ filter (is_new made) cs) (filter (is_new made) cs))) f
        ∙ taken_first n o (filter (is_new made) cs) ∙ ap (λ x. x || is_taken (Some n) (filter (is_new made) cs)) e
        ∙ rest ∙ sym (taken_first n o cs ∙ ap (λ x. x || is_taken (Some n) cs) e)
    go rest false false e f =
        ap (λ x. is_taken (Some n) (cond x (o ∷ filter (is_new made) cs) (filter (is_new made) cs))) f
        ∙ rest ∙ sym (taken_first n o cs ∙ ap (λ x. x || is_taken (Some n) cs) e)

or_if : (a b c : Bool) → (a ≡ false → b ≡ c) → (a || b) ≡ (a || c)
or_if true b c h = refl
or_if false b c h = h refl

-- those that are new behind the one list take the names that all take behind the other
pub same_more : (there made cs : List Object) → Same there made → Same (there ++ cs) (made ++ filter (is_new made) cs)
same_more there made cs s = λ n.
    taken-append n there cs ∙ ap (λ b. b || is_taken (Some n) cs) (s n)
    ∙ sym (taken-append n made (filter (is_new made) cs) ∙ or_if (is_taken (Some n) made) (is_taken (Some n) (filter (is_new made) cs)) (is_taken (Some n) cs) (taken_new made cs n))

pub same_new : (there made cs : List Object) → Same there made → filter (is_new there) cs ≡ filter (is_new made) cs
same_new there made [] s = refl
same_new there made (o ∷ cs) s =
    ap₂ (λ b l. cond b (o ∷ l) l) (ap (λ b. is_some o.head.name && not b) (same_taken o.head.name there made s)) (same_new there made cs s)

-- What was made so far, and what is missing of the sources from a place on, is all. The names there are those of what was made.
pub record Missing (all : List (Bor Object)) (i : ℕ) (whole made : List Object) : Type 0 where
  pub there : List Object
  pub same : Same there made
  pub left : made ++ missing there (lent (drop i all)) ≡ whole

pub missing_first : (all : List (Bor Object)) (below own : List Object) → Same below own → Missing all 0 (own ++ missing below (lent all)) own
missing_first all below own s = record { there = below; same = s; left = refl }

pub missing_more : (all : List (Bor Object)) (i : ℕ) (x : Bor Object) (whole made new : List Object) → i < length all → x ≡ get_or all i x → new ≡ made ++ filter (is_new made) (children x.now)
    → Missing all i whole made → Missing all (i + 1) whole new
missing_more all i x whole made new h is put p =
    let cs = children x.now in
    let rest = lent (drop (i + 1) all) in
    record {
      there = p.there ++ cs;
      same = subst (Same (p.there ++ cs)) (sym put) (same_more p.there made cs p.same);
      left =
          ap (λ l. l ++ missing (p.there ++ cs) rest) (put ∙ ap (λ l. made ++ l) (sym (same_new p.there made cs p.same)))
          ∙ append_assoc made (filter (is_new p.there) cs) (missing (p.there ++ cs) rest)
          ∙ ap (λ l. made ++ l) (sym (ap (λ l. missing p.there (lent l)) (lent_more all i x h is)))
          ∙ p.left;
    }

pub missing_all : (all : List (Bor Object)) (i : ℕ) (whole made : List Object) → length all ≤ i → Missing all i whole made → made ≡ whole
missing_all all i whole made h p = sym (append-nil made) ∙ ap (λ l. made ++ missing p.there (lent l)) (sym (rest_past all i h)) ∙ p.left

-- a name that isn't taken isn't taken among some of the objects
free_filter : (P : Object → Bool) (n : List ℕ) (cs : List Object) → is_taken (Some n) cs ≡ false → is_taken (Some n) (filter P cs) ≡ false
free_filter P n [] h = refl
free_filter P n (o ∷ cs) h = go (free_filter P n cs) (has_name n o.head.name) (P o) refl refl (sym (taken_first n o cs) ∙ h)
  where
    go : (is_taken (Some n) cs ≡ false → is_taken (Some n) (filter P cs) ≡ false) → (b d : Bool) → has_name n o.head.name ≡ b → P o ≡ d → (has_name n o.head.name || is_taken (Some n) cs) ≡ false → is_taken (Some n) (filter P (o ∷ cs)) ≡ false
    go rest true d e f g = absurd (true≢false (sym (ap (λ x. x || is_taken (Some n) cs) e) ∙ g))
    go rest false true e f g =
        ap (λ x. is_taken (Some n) (cond x (o ∷ filter P cs) (filter P cs))) f ∙ taken_first n o (filter P cs)
        ∙ ap (λ x. x || is_taken (Some n) (filter P cs)) e ∙ rest (sym (ap (λ x. x || is_taken (Some n) cs) e) ∙ g)
    go rest false false e f g =
        ap (λ x. is_taken (Some n) (cond x (o ∷ filter P cs) (filter P cs))) f ∙ rest (sym (ap (λ x. x || is_taken (Some n) cs) e) ∙ g)

pub filter_behind : (P : Object → Bool) (xs : List Object) (o : Object) → filter P (xs ++ o ∷ []) ≡ filter P xs ++ cond (P o) (o ∷ []) []
filter_behind P [] o = go (P o)
  where
    go : (b : Bool) → cond b (o ∷ []) [] ≡ [] ++ cond b (o ∷ []) []
    go true = refl
    go false = refl
filter_behind P (x ∷ xs) o = go (filter_behind P xs o) (P x)
  where
    go : filter P (xs ++ o ∷ []) ≡ filter P xs ++ cond (P o) (o ∷ []) [] → (b : Bool) → cond b (x ∷ filter P (xs ++ o ∷ [])) (filter P (xs ++ o ∷ [])) ≡ cond b (x ∷ filter P xs) (filter P xs) ++ cond (P o) (o ∷ []) []
    go rest true = ap (λ l. x ∷ l) rest
    go rest false = rest

-- whether the next child of a source is put: by what there was before all of them
next_taken : (old cs : List Object) (i : ℕ) (x : Object) (n : Option (List ℕ)) → x.head.name ≡ n → NamesDiffer cs → Some x ≡ slice_get cs i → is_taken n (old ++ filter (is_new old) (take i cs)) ≡ is_taken n old
next_taken old cs i x None e d at = refl
next_taken old cs i x (Some n) e d at =
    let free : is_taken (Some n) (take i cs) ≡ false = subst (λ (m : Option (List ℕ)). is_taken m (take i cs) ≡ false) e (free_at cs i x d at) in
    taken-append n old (filter (is_new old) (take i cs))
    ∙ ap (λ b. is_taken (Some n) old || b) (free_filter (is_new old) n (take i cs) free)
    ∙ or_false (is_taken (Some n) old)
  where
    or_false : (b : Bool) → (b || false) ≡ b
    or_false true = refl
    or_false false = refl

get_at : (cs : List Object) (i : ℕ) (x : Object) → i < length cs → x ≡ get_or cs i x → Some x ≡ slice_get cs i
get_at [] i x h is = absurd (omega arith)
get_at (c ∷ cs) zero x h is = ap Some is
get_at (c ∷ cs) (suc i) x h is = get_at cs i x (omega arith) is

more_none : (o : Object) (cs : List Object) → cs ≡ [] → o ≡ with_more o cs
more_none o cs e = ap (λ (r : Objects). let x : Object = record { head = o.head; inner = r } in x) (sym (ap in_row (ap (λ l. children o ++ l) e ∙ append-nil (children o)) ∙ in_row-listed o.inner))

pub more_first : (o : Object) (cs : List Object) → o ≡ with_more o (filter (is_new (children o)) (take 0 cs))
more_first o cs = more_none o (filter (is_new (children o)) (take 0 cs)) (none_taken cs)
  where
    none_taken : (cs : List Object) → filter (is_new (children o)) (take 0 cs) ≡ []
    none_taken [] = refl
    none_taken (c ∷ cs) = refl

more_put : (o x : Object) (made : List Object) → with_child (with_more o made) x ≡ with_more o (made ++ x ∷ [])
more_put o x made =
    ap (λ (l : List Object). let r : Object = record { head = o.head; inner = in_row (l ++ x ∷ []) } in r) (listed-in_row (children o ++ made))
    ∙ ap (λ (l : List Object). let r : Object = record { head = o.head; inner = in_row l } in r) (append_assoc (children o) made (x ∷ []))

-- one child of a source more, which has a name
pub more_named : (o cur new x copy : Object) (cs : List Object) (i : ℕ) → NamesDiffer cs → i < length cs → x ≡ get_or cs i x → is_some x.head.name ≡ true → copy ≡ x
    → new ≡ cond (is_taken copy.head.name (children cur)) cur (with_child cur copy)
    → cur ≡ with_more o (filter (is_new (children o)) (take i cs)) → new ≡ with_more o (filter (is_new (children o)) (take (i + 1) cs))
more_named o cur new x copy cs i d h is some same put p = go (is_taken x.head.name old) refl
  where
    old : List Object
    old = children o

    made : List Object
    made = filter (is_new old) (take i cs)

    there : is_taken copy.head.name (children cur) ≡ is_taken x.head.name old
    there =
        ap₂ (λ (z w : Object). is_taken z.head.name (children w)) same p
        ∙ ap (λ l. is_taken x.head.name l) (listed-in_row (old ++ made))
        ∙ next_taken old cs i x x.head.name refl d (get_at cs i x h is)

    all : filter (is_new old) (take (i + 1) cs) ≡ made ++ cond (is_new old x) (x ∷ []) []
    all = ap (filter (is_new old)) (take_more cs i x h ∙ ap (λ y. take i cs ++ y ∷ []) (sym is)) ∙ filter_behind (is_new old) (take i cs) x

    new_is : (b : Bool) → is_taken x.head.name old ≡ b → is_new old x ≡ not b
    new_is b e = ap₂ (λ s t. s && not t) some e

    go : (b : Bool) → is_taken x.head.name old ≡ b → new ≡ with_more o (filter (is_new old) (take (i + 1) cs))
    go true e =
        put ∙ ap (λ t. cond t cur (with_child cur copy)) (there ∙ e) ∙ p
        ∙ ap (with_more o) (sym (all ∙ ap (λ t. made ++ cond t (x ∷ []) []) (new_is true e) ∙ append-nil made))
    go false e =
        put ∙ ap (λ t. cond t cur (with_child cur copy)) (there ∙ e) ∙ ap₂ with_child p same ∙ more_put o x made
        ∙ ap (with_more o) (sym (all ∙ ap (λ t. made ++ cond t (x ∷ []) []) (new_is false e)))

-- one without a name
pub more_nameless : (o cur x : Object) (cs : List Object) (i : ℕ) → i < length cs → x ≡ get_or cs i x → is_some x.head.name ≡ false
    → cur ≡ with_more o (filter (is_new (children o)) (take i cs)) → cur ≡ with_more o (filter (is_new (children o)) (take (i + 1) cs))
more_nameless o cur x cs i h is nameless p =
    p ∙ ap (with_more o) (
    sym (
    ap (filter (is_new (children o))) (take_more cs i x h ∙ ap (λ y. take i cs ++ y ∷ []) (sym is))
    ∙ filter_behind (is_new (children o)) (take i cs) x
    ∙ ap (λ b. filter (is_new (children o)) (take i cs) ++ cond (b && not (is_taken x.head.name (children o))) (x ∷ []) []) nameless
    ∙ append-nil (filter (is_new (children o)) (take i cs))
    )
    )

-- one that was put, if its name was new
pub more_one : (o cur new x : Object) (cs : List Object) (i : ℕ) → NamesDiffer cs → i < length cs → x ≡ get_or cs i x → new ≡ cond (is_new (children cur) x) (with_child cur x) cur
    → cur ≡ with_more o (filter (is_new (children o)) (take i cs)) → new ≡ with_more o (filter (is_new (children o)) (take (i + 1) cs))
more_one o cur new x cs i d h is put p = go (is_some x.head.name) refl
  where
    taken : Bool
    taken = is_taken x.head.name (children cur)

    turned : (t : Bool) → cond (not t) (with_child cur x) cur ≡ cond t cur (with_child cur x)
    turned true = refl
    turned false = refl

    go : (b : Bool) → is_some x.head.name ≡ b → new ≡ with_more o (filter (is_new (children o)) (take (i + 1) cs))
    go true e = more_named o cur new x x cs i d h is e refl (put ∙ ap (λ b. cond (b && not taken) (with_child cur x) cur) e ∙ turned taken) p
    go false e = put ∙ ap (λ b. cond (b && not taken) (with_child cur x) cur) e ∙ more_nameless o cur x cs i h is e p

pub more_all : (o cur : Object) (cs ds : List Object) (i : ℕ) → length cs ≤ i → cs ≡ ds → cur ≡ with_more o (filter (is_new (children o)) (take i cs)) → cur ≡ with_more o (filter (is_new (children o)) ds)
more_all o cur cs ds i h e p = p ∙ ap (λ l. with_more o (filter (is_new (children o)) l)) (take_all i cs h ∙ e)

pub some_copied : (o : Option (Bor (List ℕ))) → is_some (option_copied o) ≡ is_some o
some_copied None = refl
some_copied (Some x) = refl
