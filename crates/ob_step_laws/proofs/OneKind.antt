-- Nodes whose paths are apart.
use Rattle.std.proofs.Common.{◌≡◌, Bool, true, false, ◌||◌, bytes_eq, List, [], ◌∷◌, ◌++◌, Option, Some, None, refl, sym, ap, ◌∙◌, true≢false}
use Rattle.std.specs.Prelude.{is_some}
use Rattle.std.proofs.lemmas.Slice.Eq.{bytes_eq-Decides}
use Rattle.ob_values.proofs.Bools.{or_true, neither_left, neither_right, both_false}
use Rattle.ob_object.specs.declared.kind.Kind.{Kind}
use Rattle.ob_object.specs.declared.head.Head.{Head}
use Rattle.ob_object.specs.Object.{Objects, none, node, Object}
use Rattle.ob_object.specs.Paths.{is_path, node_path}
use Rattle.ob_contracts.specs.Inherit.{or_else, only_if}
use Rattle.ob_site_rules.specs.Build.{Path}
use Rattle.ob_site_rules.specs.State.{is_among}
use Rattle.ob_site_rules.specs.Shown.{node_in}
use Rattle.ob_site_rules.specs.Loading.{listed_path}
use Rattle.ob_plain_state.specs.States.{IsOfKindAt, NodesAre}
use Rattle.ob_step_laws.specs.Laws.{Apart, row_paths, kind_or_obj, ApartAreOfOneKind}

assoc : (a b c : Bool) → (a || (b || c)) ≡ ((a || b) || c)
assoc true b c = refl
assoc false b c = refl

pub among_append : (p : Path) (xs ys : List Path) → is_among p (xs ++ ys) ≡ (is_among p xs || is_among p ys)
among_append p [] ys = refl
among_append p (x ∷ xs) ys = ap (λ b. bytes_eq x p || b) (among_append p xs ys) ∙ assoc (bytes_eq x p) (is_among p xs) (is_among p ys)

pub apart_first : (xs ys : List Path) → Apart (xs ++ ys) → Apart xs
apart_first [] ys a = tt
apart_first (x ∷ xs) ys a = (neither_left (is_among x xs) (is_among x ys) (sym (among_append x xs ys) ∙ a.0), apart_first xs ys a.1)

pub apart_second : (xs ys : List Path) → Apart (xs ++ ys) → Apart ys
apart_second [] ys a = a
apart_second (x ∷ xs) ys a = apart_second xs ys a.1

-- what is among the first isn't among the others
pub apart_not : (xs ys : List Path) (p : Path) → Apart (xs ++ ys) → is_among p ys ≡ true → is_among p xs ≡ false
apart_not [] ys p a h = refl
apart_not (x ∷ xs) ys p a h =
    both_false (bytes_eq x p) (is_among p xs) (other x (bytes_eq x p) refl (neither_right (is_among x xs) (is_among x ys) (sym (among_append x xs ys) ∙ a.0)) h) (apart_not xs ys p a.1 h)
  where
    other : (x : Path) (b : Bool) → bytes_eq x p ≡ b → is_among x ys ≡ false → is_among p ys ≡ true → b ≡ false
    other x false e out hit = refl
    other x true e out hit = absurd (true≢false (sym hit ∙ ap (λ q. is_among q ys) (sym ((bytes_eq-Decides x p).0 e)) ∙ out))

or_else_some : (a b : Option Object) → is_some (or_else a b) ≡ (is_some a || is_some b)
or_else_some None b = refl
or_else_some (Some o) b = refl

only_some : (b : Bool) (o : Object) → is_some (only_if b (Some o)) ≡ b
only_some true o = refl
only_some false o = refl

pub listed_is : (p : Path) (q : Option Path) → is_among p (listed_path q) ≡ is_path p q
listed_is p None = refl
listed_is p (Some q) = or_false (bytes_eq q p)
  where
    or_false : (b : Bool) → (b || false) ≡ b
    or_false true = refl
    or_false false = refl

-- a node is found exactly at the paths of the row
pub there : (p : Path) (r : Objects) → is_some (node_in p r) ≡ is_among p (row_paths r)
there p none = refl
there p (node h inner rest) =
    or_else_some (only_if (is_path p (node_path h)) (Some (record { head = h; inner = inner }))) (or_else (node_in p inner) (node_in p rest))
    ∙ ap (λ b. b || is_some (or_else (node_in p inner) (node_in p rest))) (only_some (is_path p (node_path h)) (record { head = h; inner = inner }) ∙ sym (listed_is p (node_path h)))
    ∙ ap (λ b. is_among p (listed_path (node_path h)) || b) (or_else_some (node_in p inner) (node_in p rest)
    ∙ ap (λ b. b || is_some (node_in p rest)) (there p inner) ∙ ap (λ b. is_among p (row_paths inner) || b) (there p rest) ∙ sym (among_append p (row_paths inner) (row_paths rest)))
    ∙ sym (among_append p (listed_path (node_path h)) (row_paths inner ++ row_paths rest))

nothing : (o : Option Object) → is_some o ≡ false → o ≡ None
nothing None h = refl
nothing (Some x) h = absurd (true≢false h)

else_first : (a b : Option Object) → is_some a ≡ true → or_else a b ≡ a
else_first None b h = absurd (true≢false (sym h))
else_first (Some x) b h = refl

else_second : (a b : Option Object) → is_some a ≡ false → or_else a b ≡ b
else_second None b h = refl
else_second (Some x) b h = absurd (true≢false h)

-- a node in the first object of a row
found_inner : (p : Path) (h : Head) (inner rest : Objects) → is_among p (listed_path (node_path h)) ≡ false → is_among p (row_paths inner) ≡ true → node_in p (node h inner rest) ≡ node_in p inner
found_inner p h inner rest out hit =
    else_second (only_if (is_path p (node_path h)) (Some (record { head = h; inner = inner }))) (or_else (node_in p inner) (node_in p rest))
    (only_some (is_path p (node_path h)) (record { head = h; inner = inner }) ∙ sym (listed_is p (node_path h)) ∙ out)
    ∙ else_first (node_in p inner) (node_in p rest) (there p inner ∙ hit)

found_rest : (p : Path) (h : Head) (inner rest : Objects) → is_among p (listed_path (node_path h)) ≡ false → is_among p (row_paths inner) ≡ false → node_in p (node h inner rest) ≡ node_in p rest
found_rest p h inner rest out other =
    else_second (only_if (is_path p (node_path h)) (Some (record { head = h; inner = inner }))) (or_else (node_in p inner) (node_in p rest))
    (only_some (is_path p (node_path h)) (record { head = h; inner = inner }) ∙ sym (listed_is p (node_path h)) ∙ out)
    ∙ else_second (node_in p inner) (node_in p rest) (there p inner ∙ other)

-- a function that tells the kind of each node that is found in a row
abbrev Tells : (Path → Kind) → Objects → Type 0
Tells g r = (p : Path) → is_among p (row_paths r) ≡ true → g p ≡ kind_or_obj (node_in p r)

own_kind : (g : Path → Kind) (h : Head) (inner rest : Objects) (q : Option Path) → node_path h ≡ q → Tells g (node h inner rest) → IsOfKindAt g q h.kind
own_kind g h inner rest None e t = tt
own_kind g h inner rest (Some p) e t =
    let same : bytes_eq p p ≡ true = (bytes_eq-Decides p p).1 refl in
    let here : is_path p (node_path h) ≡ true = ap (is_path p) e ∙ same in
    let among : is_among p (row_paths (node h inner rest)) ≡ true =
    among_append p (listed_path (node_path h)) (row_paths inner ++ row_paths rest) ∙ ap (λ b. b || is_among p (row_paths inner ++ row_paths rest)) (listed_is p (node_path h) ∙ here) in
    sym (t p among
    ∙ ap (λ b. kind_or_obj (or_else (only_if b (Some (record { head = h; inner = inner }))) (or_else (node_in p inner) (node_in p rest)))) here)

all_kinds : (g : Path → Kind) (r : Objects) → Apart (row_paths r) → Tells g r → NodesAre g r
all_kinds g none a t = tt
all_kinds g (node h inner rest) a t =
    let own = listed_path (node_path h) in
    let behind : Apart (row_paths inner ++ row_paths rest) = apart_second own (row_paths inner ++ row_paths rest) a in
    let inner_told : Tells g inner = λ p hit.
    let among : is_among p (row_paths inner ++ row_paths rest) ≡ true = among_append p (row_paths inner) (row_paths rest) ∙ ap (λ b. b || is_among p (row_paths rest)) hit in
    t p (among_append p own (row_paths inner ++ row_paths rest) ∙ ap (λ b. is_among p own || b) among ∙ or_true (is_among p own))
    ∙ ap kind_or_obj (found_inner p h inner rest (apart_not own (row_paths inner ++ row_paths rest) p a among) hit) in
    let rest_told : Tells g rest = λ p hit.
    let among : is_among p (row_paths inner ++ row_paths rest) ≡ true = among_append p (row_paths inner) (row_paths rest) ∙ ap (λ b. is_among p (row_paths inner) || b) hit ∙ or_true (is_among p (row_paths inner)) in
    t p (among_append p own (row_paths inner ++ row_paths rest) ∙ ap (λ b. is_among p own || b) among ∙ or_true (is_among p own))
    ∙ ap kind_or_obj (found_rest p h inner rest (apart_not own (row_paths inner ++ row_paths rest) p a among) (apart_not (row_paths inner) (row_paths rest) p behind hit)) in
    (own_kind g h inner rest (node_path h) refl t, all_kinds g inner (apart_first (row_paths inner) (row_paths rest) behind) inner_told, all_kinds g rest (apart_second (row_paths inner) (row_paths rest) behind) rest_told)

pub apart_are_of_one_kind : ApartAreOfOneKind
apart_are_of_one_kind r a = all_kinds (λ p. kind_or_obj (node_in p r)) r a (λ p hit. refl)
