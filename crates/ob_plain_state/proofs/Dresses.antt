-- The objects of a row, dressed.
use Rattle.std.proofs.Common.{◌≡◌, ℕ, zero, suc, ◌<◌, ◌≤◌, List, [], ◌∷◌, ◌++◌, map, length, take, get_or, Option, Some, None, refl, sym, ap, ◌∙◌, subst, arith, IsTrue}
use Rattle.std.proofs.lemmas.List.{map-append, take_all}
use Rattle.ob_object.specs.declared.head.Head.{Head}
use Rattle.ob_object.specs.Fits.{fits_head}
use Rattle.ob_object.specs.Object.{Object, Objects, none, node, listed, in_row, children}
use Rattle.ob_object.specs.WellFormed.{NamesDiffer}
use Rattle.ob_object.specs.Paths.{node_path}
use Rattle.ob_site_rules.specs.Build.{Path}
use Rattle.ob_site_rules.specs.Shown.{with_status_by, with_status_at, with_status, with_roles, derived, rule_of}
use Rattle.ob_site_rules.specs.State.{State}
use Rattle.ob_site_rules.specs.declared.plan.Plan.{Plan}
use Rattle.ob_plain_state.specs.States.{NamesAreFree}
use Rattle.ob_plain_state.proofs.Keeping.{names_of, NamesDiffer-same}
use Rattle.ob_plain_state.specs.Dressed.{dressed_object}

pub listed-with_roles : (plan : Plan) (s : State) (r : Objects) → listed (with_roles plan s r) ≡ map (dressed_object plan s) (listed r)
listed-with_roles plan s none = refl
listed-with_roles plan s (node h inner rest) =
    ap (λ l. dressed_object plan s (record { head = h; inner = inner }) ∷ l) (listed-with_roles plan s rest)

-- a dressed object from its children, dressed
pub dressed_from : (plan : Plan) (s : State) (o made : Object) (h : Head) (os : List Object) → made ≡ record { head = h; inner = in_row os } → h ≡ with_status plan s o.head
    → os ≡ map (dressed_object plan s) (children o) ++ derived plan s (node_path o.head) → made ≡ dressed_object plan s o
dressed_from plan s o made h os is head all =
    is
    ∙ ap (λ (k : Head). let x : Object = record { head = k; inner = in_row os } in x) head
    ∙ ap (λ (cs : List Object). let x : Object = record { head = with_status plan s o.head; inner = in_row cs } in x)
    (all ∙ ap (λ (cs : List Object). cs ++ derived plan s (node_path o.head)) (sym (listed-with_roles plan s o.inner)))

name_by : (plan : Plan) (s : State) (h : Head) (r : Option ℕ) → (with_status_by plan s h r).name ≡ h.name
name_by plan s h None = refl
name_by plan s h (Some r) = refl

name_at : (plan : Plan) (s : State) (h : Head) (o : Option Path) → (with_status_at plan s h o).name ≡ h.name
name_at plan s h None = refl
name_at plan s h (Some p) = name_by plan s h (rule_of plan p)

names_dressed : (plan : Plan) (s : State) (os : List Object) → names_of os ≡ names_of (map (dressed_object plan s) os)
names_dressed plan s [] = refl
names_dressed plan s (o ∷ os) =
    ap (λ n. n ∷ names_of os) (sym (name_at plan s o.head (node_path o.head)))
    ∙ ap (λ ns. (with_status plan s o.head).name ∷ ns) (names_dressed plan s os)

-- the children of a dressed object have different names
pub dressed_differ : (plan : Plan) (s : State) (o : Object) (os : List Object) → NamesAreFree plan s (node o.head o.inner none)
    → os ≡ map (dressed_object plan s) (children o) ++ derived plan s (node_path o.head) → NamesDiffer os
dressed_differ plan s o os free all =
    let name : Object → Option Path = λ x. x.head.name in
    let more : List Object = derived plan s (node_path o.head) in
    let names : names_of (children o ++ more) ≡ names_of os =
    map-append name (children o) more
    ∙ ap (λ ns. ns ++ names_of more) (names_dressed plan s (children o))
    ∙ sym (map-append name (map (dressed_object plan s) (children o)) more)
    ∙ ap (λ (l : List Object). names_of l) (sym all) in
    NamesDiffer-same _ _ names free.0

fits_by : (plan : Plan) (s : State) (h : Head) (r : Option ℕ) → fits_head (with_status_by plan s h r) ≡ fits_head h
fits_by plan s h None = refl
fits_by plan s h (Some r) = refl

fits_at : (plan : Plan) (s : State) (h : Head) (o : Option Path) → fits_head (with_status_at plan s h o) ≡ fits_head h
fits_at plan s h None = refl
fits_at plan s h (Some p) = fits_by plan s h (rule_of plan p)

-- a head with a status fits its kind as it did
pub status_fits : (plan : Plan) (s : State) (h k : Head) → k ≡ with_status plan s h → IsTrue (fits_head h) → IsTrue (fits_head k)
status_fits plan s h k is fits =
    subst (λ (x : Head). IsTrue (fits_head x)) (sym is) (fits_at plan s h (node_path h) ∙ fits)

-- what roles derive in an object of a row finds its names free
pub free_in : (plan : Plan) (s : State) (r : Objects) (i : ℕ) (x : Object) → NamesAreFree plan s r → i < length (listed r) → x ≡ get_or (listed r) i x → NamesAreFree plan s (node x.head x.inner none)
free_in plan s none i x free lt is = absurd (omega arith)
free_in plan s (node h inner rest) zero x free lt is =
    subst (λ (y : Object). NamesAreFree plan s (node y.head y.inner none)) (sym is) (free.0, free.1, tt)
free_in plan s (node h inner rest) (suc i) x free lt is = free_in plan s rest i x free.2 (omega arith) is

-- what roles derive in a child finds its names free
pub child_free : (plan : Plan) (s : State) (o : Object) (cs : List Object) (i : ℕ) (x : Object) → NamesAreFree plan s (node o.head o.inner none) → cs ≡ children o → i < length cs → x ≡ get_or cs i x → NamesAreFree plan s (node x.head x.inner none)
child_free plan s o cs i x free all lt is =
    free_in plan s o.inner i x free.1
    (subst (λ (l : List Object). i < length l) all lt)
    (subst (λ (l : List Object). x ≡ get_or l i x) all is)

-- its own children dressed, and the derived ones behind them
pub dressed_children : (plan : Plan) (s : State) (o : Object) (own more os cs : List Object) (i : ℕ) (path : Option Path) (h : Head) → os ≡ own ++ more → own ≡ map (dressed_object plan s) (take i cs) → length cs ≤ i → cs ≡ children o
    → more ≡ derived plan s path → path ≡ node_path h → h ≡ o.head → os ≡ map (dressed_object plan s) (children o) ++ derived plan s (node_path o.head)
dressed_children plan s o own more os cs i path h both dressed end all by_role at head =
    both
    ∙ ap (λ (l : List Object). l ++ more) (dressed ∙ ap (map (dressed_object plan s)) (take_all i cs end ∙ all))
    ∙ ap (λ (l : List Object). map (dressed_object plan s) (children o) ++ l) (by_role ∙ ap (derived plan s) (at ∙ ap node_path head))
