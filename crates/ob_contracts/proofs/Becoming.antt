-- What an object becomes where it inherits: its head, its own children, and those that it inherits.
use Rattle.std.proofs.Common.{◌≡◌, ℕ, zero, suc, ◌+◌, ◌<◌, ◌≤◌, Bool, true, false, List, [], ◌∷◌, ◌++◌, map, take, drop, length, get_or, Some, refl, sym, ap, ◌∙◌, subst, arith}
use Rattle.std.proofs.lemmas.List.{length-append, length-drop, length-map, length-take, drop_more, get_or_at, take_at}
use Rattle.std.specs.Option.{option_copied}
use denote.Ref.{Bor}
use Rattle.ob_object.specs.Completed.{completed}
use Rattle.ob_object.specs.declared.head.Head.{Head}
use Rattle.ob_object.specs.Object.{Object, Objects, none, listed, in_row, children, parts, count, listed-in_row, in_row-listed}
use Rattle.ob_contracts.specs.Found.{lent}
use Rattle.ob_contracts.specs.Given.{headed}
use Rattle.ob_contracts.specs.Inherit.{Contracts, bare, implied_by, inherited_head, missing, overridden, result_of, row_results}
use Rattle.ob_contracts.specs.Settings.{child_in, completed_in, sources_in}
use Rattle.ob_contracts.specs.Shown.{finish, shown_result, view_sources}
use Rattle.ob_contracts.specs.declared.completing.Setting.{Setting}
use Rattle.ob_contracts.specs.declared.reading.View.{View}
use Rattle.ob_contracts.proofs.At.{children-finish}
use Rattle.ob_contracts.proofs.Children.{append-none, listed-row_results}
use Rattle.ob_contracts.proofs.Views.{lent_at, length-lent, map-append, mapped_more, result_head, take_past}

map_twice : {A B C : Type 0} (F : B → C) (G : A → B) (xs : List A) → map F (map G xs) ≡ map (λ x. F (G x)) xs
map_twice F G [] = refl
map_twice F G (x ∷ xs) = ap (λ l. F (G x) ∷ l) (map_twice F G xs)

result_children : (s : Setting) (o : Object)
    → children (result_of s.library.now o (option_copied s.implied) (option_copied s.over))
    ≡ map (λ c. result_of s.library.now c (implied_by (inherited_head o.head (sources_in s o))) (overridden c.head.name (sources_in s o))) (children o) ++ map bare (missing (children o) (sources_in s o))
unfolding result_of
result_children s o =
    listed-in_row (listed (row_results s.library.now (implied_by (inherited_head o.head (sources_in s o))) (sources_in s o) o.inner) ++ map bare (missing (children o) (sources_in s o)))
    ∙ ap (λ l. l ++ map bare (missing (children o) (sources_in s o))) (listed-row_results s.library.now (implied_by (inherited_head o.head (sources_in s o))) (sources_in s o) o.inner)

-- its own children come first, each as what it becomes, and then those that it inherits
pub children_in : (s : Setting) (o : Object) → children (completed_in s o) ≡ map (child_in s o) (children o) ++ map (λ c. finish s.defaults (bare c)) (missing (children o) (sources_in s o))
children_in s o =
    let d = s.defaults in
    let result = λ (c : Object). result_of s.library.now c (implied_by (inherited_head o.head (sources_in s o))) (overridden c.head.name (sources_in s o)) in
    let taken = missing (children o) (sources_in s o) in
    children-finish d (result_of s.library.now o (option_copied s.implied) (option_copied s.over))
    ∙ ap (map (finish d)) (result_children s o)
    ∙ map-append (finish d) (map result (children o)) (map bare taken)
    ∙ ap (λ l. l ++ map (finish d) (map bare taken)) (map_twice (finish d) result (children o))
    ∙ ap (λ l. map (child_in s o) (children o) ++ l) (map_twice (finish d) bare taken)

finish_head : (d : Bool) (o p : Object) → o.head ≡ p.head → (finish d o).head ≡ (finish d p).head
finish_head true o p e = ap (λ (h : Head). let x : Object = record { head = h; inner = none } in (finish true x).head) e
finish_head false o p e = e

-- its head is what its sources make of it
pub head_in : (s : Setting) (o : Object) → (finish s.defaults (headed o (sources_in s o))).head ≡ (completed_in s o).head
head_in s o = finish_head s.defaults (headed o (sources_in s o)) (result_of s.library.now o (option_copied s.implied) (option_copied s.over)) (sym (result_head s.library.now o (option_copied s.implied) (option_copied s.over)))

-- by what a view of it looks up
pub head_by : (s : Setting) (o : Object) (ss : List Object) (h : Head) → h ≡ (finish s.defaults (headed o ss)).head → ss ≡ sources_in s o → h ≡ (completed_in s o).head
head_by s o ss h is same = is ∙ ap (λ (l : List Object). (finish s.defaults (headed o l)).head) same ∙ head_in s o

-- it has the children, and takes the head
pub whole_in : (s : Setting) (o filled new : Object) (g : Head) → filled ≡ record o { inner = (completed_in s o).inner } → new ≡ record filled { head = completed filled.head g } → completed o.head g ≡ (completed_in s o).head → new ≡ completed_in s o
whole_in s o filled new g fill head is =
    head
    ∙ ap (λ (x : Object). let y : Object = record { head = completed x.head g; inner = x.inner } in y) fill
    ∙ ap (λ (h : Head). let y : Object = record { head = h; inner = (completed_in s o).inner } in y) is

-- the children are put
pub filled_in : (s : Setting) (o : Object) (all : List Object) → all ≡ children (completed_in s o) → record o { inner = in_row all } ≡ record o { inner = (completed_in s o).inner }
filled_in s o all is =
    ap (λ (r : Objects). let x : Object = record { head = o.head; inner = r } in x) (ap in_row is ∙ in_row-listed (completed_in s o).inner)

-- what is handed down to a child makes of it what it becomes
pub child_becomes : (s : Setting) (own c x : Object) (v : View) → v.library.now ≡ s.library.now → shown_result v ≡ result_of s.library.now own (option_copied s.implied) (option_copied s.over) → view_sources v ≡ sources_in s own
    → x ≡ finish s.defaults (result_of v.library.now c (implied_by (shown_result v).head) (overridden c.head.name (view_sources v))) → x ≡ child_in s own c
child_becomes s own c x v lib shows from is =
    let d = s.defaults in
    is
    ∙ ap (λ (l : Contracts). finish d (result_of l c (implied_by (shown_result v).head) (overridden c.head.name (view_sources v)))) lib
    ∙ ap (λ (h : Head). finish d (result_of s.library.now c (implied_by h) (overridden c.head.name (view_sources v)))) (ap (λ (o : Object). o.head) shows ∙ result_head s.library.now own (option_copied s.implied) (option_copied s.over))
    ∙ ap (λ (ss : List Object). finish d (result_of s.library.now c (implied_by (inherited_head own.head (sources_in s own))) (overridden c.head.name ss))) from

-- one copy more
pub copies_more : (F : Object → Object) (rs : List (Bor Object)) (i : ℕ) (r : Bor Object) (x : Object) (old new : List Object) → i < length rs → r ≡ get_or rs i r → new ≡ old ++ x ∷ [] → x ≡ F r.now
    → old ≡ map F (take i (lent rs)) → new ≡ map F (take (i + 1) (lent rs))
copies_more F rs i r x old new h is put copy held =
    put ∙ ap (λ l. l ++ x ∷ []) held ∙ ap (λ y. map F (take i (lent rs)) ++ y ∷ []) copy
    ∙ mapped_more F (lent rs) i r.now (ap (λ (b : Bor Object). Some b.now) is ∙ lent_at rs i r h)

pub copies_all : (F : Object → Object) (rs us : List (Bor Object)) (i : ℕ) (made : List Object) → rs ≡ us → length rs ≤ i → made ≡ map F (take i (lent rs)) → made ≡ map F (lent us)
copies_all F rs us i made same h held =
    held ∙ ap (map F) (take_past (lent rs) i (omega (arith, length-lent rs))) ∙ ap (λ l. map F (lent l)) same

-- where those in front of a place were written over, the object there is the one that was there
pub read_here : (F : Object → Object) (xs ys : List Object) (i : ℕ) (x : Object) → i < length xs → ys ≡ map F (take i xs) ++ drop i xs → x ≡ get_or ys i x → x ≡ get_or xs i x
read_here F xs ys i x h written is =
    let front = map F (take i xs) in
    let long : length front ≡ i = length-map (take i xs) F ∙ omega (arith, length-take i xs) in
    is ∙ ap (λ l. get_or l i x) (written ∙ ap (λ l. front ++ l) (drop_more xs i x h)) ∙ get_or_at front _ _ x i long

pub as_long : (F : Object → Object) (xs ys : List Object) (i : ℕ) → i ≤ length xs → ys ≡ map F (take i xs) ++ drop i xs → length ys ≡ length xs
as_long F xs ys i h written =
    let front = map F (take i xs) in
    ap length written ∙ omega (arith, length-append front (drop i xs), length-map (take i xs) F, length-take i xs, length-drop i xs, h)

drop_past : (os : List Object) (i : ℕ) → length os ≤ i → drop i os ≡ []
drop_past [] zero h = refl
drop_past [] (suc i) h = refl
drop_past (o ∷ os) zero h = absurd (omega (arith, h))
drop_past (o ∷ os) (suc i) h = drop_past os i (omega (arith, h))

-- all were written over
pub all_written : (F : Object → Object) (xs ys : List Object) (i : ℕ) → length xs ≤ i → ys ≡ map F (take i xs) ++ drop i xs → ys ≡ map F xs
all_written F xs ys i h written =
    written ∙ ap (λ l. map F l ++ drop i xs) (take_past xs i h) ∙ ap (λ l. map F xs ++ l) (drop_past xs i h) ∙ sym (append-none (map F xs))

pub none_written : (F : Object → Object) (xs : List Object) → length xs ≡ 0 → xs ≡ map F xs
none_written F [] h = refl
none_written F (x ∷ xs) h = absurd (omega (arith, h))

-- a slice that was lent, given back with its length
pub given_back : (n : ℕ) (new spare : List Object) → length new ≡ n → take n (new ++ spare) ≡ new
given_back n new spare h = take_at new spare n h

-- an object of a row has no more parts than the row has
pub within : (os : List Object) (i : ℕ) (x : Object) → i < length os → x ≡ get_or os i x → parts x ≤ count (in_row os)
within [] i x h is = absurd (omega arith)
within (o ∷ os) zero x h is = omega (arith, ap parts is)
within (o ∷ os) (suc i) x h is = omega (arith, within os i x (omega arith) is)
