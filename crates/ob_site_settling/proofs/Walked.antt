-- The own objects are gone through, each with what is shown of it by two libraries.
use Rattle.std.proofs.Common.{ℕ, ◌≡◌, zero, suc, ◌+◌, ◌-◌, ◌^◌, ◌<◌, ◌≤◌, ◌↔◌, Bool, true, false, IsTrue, List, [], ◌∷◌, ◌++◌, length, get_or, Option, Some, None, option_map, refl, sym, ap, ◌∙◌, subst, arith}
use Rattle.std.specs.Prelude.{min, slice_get}
use Rattle.ob_values.proofs.Lists.{some_same}
use Rattle.ob_object.specs.declared.head.Head.{Head}
use Rattle.ob_object.specs.Object.{Objects, Object, count, parts, children}
use Rattle.ob_contracts.specs.Inherit.{Contracts}
use Rattle.ob_contracts.proofs.Names.{at_place}
use Rattle.ob_site_rules.specs.declared.plan.Plan.{Plan}
use Rattle.ob_site_rules.specs.State.{State}
use Rattle.ob_site_rules.specs.Shown.{dressed}
use Rattle.ob_tree.specs.Contexts.{Context, comes_to, under}
use Rattle.ob_shown_laws.specs.Alike.{row}
use Rattle.ob_shown_laws.specs.Changed.{PathsDiffer}
use Rattle.ob_shown_laws.specs.Own.{derived_own}
use Rattle.ob_tree.specs.declared.node.NodeId.{NodeId}
use Rattle.ob_tree.specs.Laid.{head_at, paths, width}
use Rattle.ob_tree.specs.Paths.{first_twice}
use Rattle.ob_tree.specs.Shown.{row as row_of, part_at, handed_at, standing_at}
use Rattle.ob_tree.proofs.Growing.{first, first_all, grows_for}
use Rattle.ob_tree.proofs.Reading.{length-listed}
use Rattle.ob_shown_laws.specs.OwnTree.{own_shown_at}
use Rattle.ob_site_reads.proofs.Stands.{stands}
use Rattle.ob_step_laws.specs.Defaults.{with_library}
use Rattle.ob_site_settling.specs.Otherwise.{AreOtherwise, AreOtherwiseBelow, AreShown}
use Rattle.ob_site_settling.specs.Watched.{can_be_watched}
use Rattle.ob_site_settling.proofs.Compared.{Compared, told_otherwise, not_otherwise, dressed_library, root_library}
use Rattle.ob_site_state.proofs.Stepping.{numbers_of}
use Rattle.ob_site_settling.proofs.Found.{none_below, one_more, one_less, none_more}
use Rattle.ob_site_settling.proofs.Inside.{nothing_inside}
use Rattle.ob_site_settling.proofs.Numbered.{child_at, more_counted, part_within}
use Rattle.ob_site_settling.proofs.Shown.{ChildShown, child_shown, shown_by}

begins : (s : State) (n : ℕ) (x : Object) → part_at n s.tree ≡ Some x → n + parts x ≤ parts s.tree
begins s n x is = omega (arith, part_within (row_of s.tree) n x is)

-- whether what is shown is the same tells whether a watch shows something else
tells : (plan : Plan) (s : State) (old : Contracts) (n : ℕ) (own before after : Object) (same : Bool) → AreShown plan s old n own before after → can_be_watched (Some own.head) ≡ true
    → IsTrue same ↔ (before ≡ after) → Compared plan s old n same
tells plan s old n own before after same shown watched iff =
    told_otherwise plan s old n d c k same shown.differ shown.once within (ap (λ (o : Option Head). can_be_watched o) head ∙ watched)
    (ap (option_map (derived_own plan s)) (sym shown.is)) (stands old) (stands s.library)
    (λ e. sym was ∙ iff.0 e ∙ is) (λ e. iff.1 (was ∙ e ∙ sym is))
  where
    d : Object
    d = derived_own plan s own

    within : n < parts s.tree
    within = omega (arith, begins s n own shown.is)

    head : head_at n s.tree ≡ Some own.head
    head = (grows_for s.tree own n within shown.is).head_is

    at : Contracts → Context
    at lib = under (handed_at lib n s.tree) own.head.name

    c : Context
    c = at old

    k : Context
    k = at s.library

    stands : (lib : Contracts) → Some (at lib) ≡ standing_at lib n s.tree
    stands lib = sym (ap (option_map (λ (h : Head). under (handed_at lib n s.tree) h.name)) head)

    was : before ≡ comes_to c d
    was = some_same (shown.before_is ∙ shown_by plan (with_library old s) n own shown.is) ∙ ap (comes_to c) (dressed_library plan s old own)

    is : after ≡ comes_to k d
    is = some_same (shown.after_is ∙ shown_by plan s n own shown.is)

-- one that can't be watched is passed over
pub passed_over : (plan : Plan) (s : State) (old : Contracts) (n : ℕ) (own before after : Object) (ns : List ℕ) → AreShown plan s old n own before after → can_be_watched (Some own.head) ≡ false
    → AreOtherwiseBelow plan (with_library old s) s.library n ns → AreOtherwiseBelow plan (with_library old s) s.library (n + 1) ns
passed_over plan s old n own before after ns shown off found =
    let head : head_at n s.tree ≡ Some own.head = (grows_for s.tree own n (omega (arith, begins s n own shown.is)) shown.is).head_is in
    one_less plan (with_library old s) s.library n ns found
    (not_otherwise plan s old n shown.differ (ap (λ (o : Option Head). can_be_watched o) head ∙ off))

-- where one is shown as before, so is what is in it
pub all_same : (plan : Plan) (s : State) (old : Contracts) (n : ℕ) (own before after : Object) (same : Bool) (ns : List ℕ) → AreShown plan s old n own before after → can_be_watched (Some own.head) ≡ true
    → IsTrue same ↔ (before ≡ after) → same ≡ true → AreOtherwiseBelow plan (with_library old s) s.library n ns → AreOtherwiseBelow plan (with_library old s) s.library (n + parts own) ns
all_same plan s old n own before after same ns shown watched iff e found =
    none_more plan (with_library old s) s.library n (n + parts own) ns found (omega arith)
    (nothing_inside plan (with_library old s) s.library n own (subst (λ (o : Object). PathsDiffer (row o)) (sym (root_library plan s old)) shown.differ) shown.once shown.is watched
    (λ o. true_false e ((tells plan s old n own before after same shown watched iff).tells o)))
  where
    true_false : {b : Bool} → b ≡ true → b ≡ false → ⊥
    true_false f g = absurd cc

-- one that is shown otherwise is put
pub is_put : (plan : Plan) (s : State) (old : Contracts) (node : NodeId) (own before after : Object) (same : Bool) (nodes all : List NodeId) → AreShown plan s old node.number own before after
    → can_be_watched (Some own.head) ≡ true → IsTrue same ↔ (before ≡ after) → same ≡ false → all ≡ nodes ++ node ∷ []
    → AreOtherwiseBelow plan (with_library old s) s.library node.number (numbers_of nodes) → AreOtherwiseBelow plan (with_library old s) s.library (node.number + 1) (numbers_of all)
is_put plan s old node own before after same nodes all shown watched iff e is found =
    one_more plan (with_library old s) s.library node nodes all found ((tells plan s old node.number own before after same shown watched iff).told e) is

-- an own object that is made with another library is what is shown with that
dressed_other : (plan : Plan) (s : State) (old : Contracts) (q : Option Object) → option_map (derived_own plan s) q ≡ option_map (derived_own plan (with_library old s)) q
dressed_other plan s old None = refl
dressed_other plan s old (Some x) = ap (λ (o : Object). Some o) (sym (dressed_library plan s old x))

pub shown_before : (plan : Plan) (s : State) (old : Contracts) (n : ℕ) (c : Context) (d o : Object) → Some c ≡ standing_at old n s.tree → Some d ≡ option_map (derived_own plan s) (part_at n s.tree)
    → o ≡ comes_to c d → Some o ≡ own_shown_at plan (with_library old s) n
shown_before plan s old n c d o at made is = stands plan (with_library old s) n c d o at (made ∙ dressed_other plan s old (part_at n s.tree)) is

-- the children of one are shown in what is shown of it
pub record ChildrenShown (plan : Plan) (s : State) (old : Contracts) (k next : ℕ) (own before after : Object) : Type 0 where
  pub was : Object
  pub is : Object
  pub was_there : slice_get (children before) k ≡ Some was
  pub is_there : slice_get (children after) k ≡ Some is
  pub shown : (y : Object) → slice_get (children own) k ≡ Some y → AreShown plan s old next y was is

pub children_shown : (plan : Plan) (s : State) (old : Contracts) (n k next : ℕ) (own before after y : Object) → AreShown plan s old n own before after → slice_get (children own) k ≡ Some y
    → next ≡ n + (count (first k own.inner) + 1) → ChildrenShown plan s old k next own before after
children_shown plan s old n k next own before after y shown child at =
    let was : ChildShown plan (with_library old s) k next before = child_shown plan (with_library old s) n k next own y before shown.is child at shown.before_is in
    let is : ChildShown plan s k next after = child_shown plan s n k next own y after shown.is child at shown.after_is in
    record {
      was = was.shown;
      is = is.shown;
      was_there = was.there;
      is_there = is.there;
      shown = λ z there.
          record {
            differ = shown.differ;
            once = shown.once;
            is = (child_at s.tree own z n k next shown.is there at).is;
            before_is = was.is;
            after_is = is.is;
          };
    }

-- what is read at a place
pub item_at : (xs ys : List Object) (k : ℕ) (x : Object) → xs ≡ ys → k < length xs → x ≡ get_or xs k x → slice_get ys k ≡ Some x
item_at xs ys k x same lt is = subst (λ (l : List Object). slice_get l k ≡ Some x) same (sym (at_place xs k x lt is))

got_within : (xs : List Object) (k : ℕ) (x : Object) → slice_get xs k ≡ Some x → k < length xs
got_within [] k x e = absurd cc
got_within (y ∷ xs) zero x e = omega arith
got_within (y ∷ xs) (suc k) x e = omega (arith, got_within xs k x e)

same_length : (xs ys : List Object) (k : ℕ) → xs ≡ ys → k < length ys → k < length xs
same_length xs ys k same lt = subst (λ (l : List Object). k < length l) (sym same) lt

same_item : (xs ys : List Object) (k : ℕ) (x y : Object) → xs ≡ ys → slice_get ys k ≡ Some y → x ≡ get_or xs k x → y ≡ x
same_item xs ys k x y same there is = some_same (sym there ∙ item_at xs ys k x same (same_length xs ys k same (got_within ys k y there)) is)

-- a child that is there has its place in what is shown
pub was_within : (plan : Plan) (s : State) (old : Contracts) (n k next : ℕ) (own before after y : Object) (bs : List Object) → AreShown plan s old n own before after → slice_get (children own) k ≡ Some y
    → next ≡ n + (count (first k own.inner) + 1) → bs ≡ children before → k < length bs
was_within plan s old n k next own before after y bs shown child at same =
    let kid : ChildrenShown plan s old k next own before after = children_shown plan s old n k next own before after y shown child at in
    same_length bs (children before) k same (got_within (children before) k kid.was kid.was_there)

pub is_within : (plan : Plan) (s : State) (old : Contracts) (n k next : ℕ) (own before after y : Object) (ls : List Object) → AreShown plan s old n own before after → slice_get (children own) k ≡ Some y
    → next ≡ n + (count (first k own.inner) + 1) → ls ≡ children after → k < length ls
is_within plan s old n k next own before after y ls shown child at same =
    let kid : ChildrenShown plan s old k next own before after = children_shown plan s old n k next own before after y shown child at in
    same_length ls (children after) k same (got_within (children after) k kid.is kid.is_there)

pub child_are_shown : (plan : Plan) (s : State) (old : Contracts) (n k next : ℕ) (own before after y b a : Object) (bs ls : List Object) → AreShown plan s old n own before after → slice_get (children own) k ≡ Some y
    → next ≡ n + (count (first k own.inner) + 1) → bs ≡ children before → ls ≡ children after → b ≡ get_or bs k b → a ≡ get_or ls k a → AreShown plan s old next y b a
child_are_shown plan s old n k next own before after y b a bs ls shown child at was is b_is a_is =
    let kid : ChildrenShown plan s old k next own before after = children_shown plan s old n k next own before after y shown child at in
    subst (λ (x : Object). AreShown plan s old next y b x) (same_item ls (children after) k a kid.is is kid.is_there a_is)
    (subst (λ (x : Object). AreShown plan s old next y x kid.is) (same_item bs (children before) k b kid.was was kid.was_there b_is) (kid.shown y child))

-- it ends where its object does, or before
pub child_ends : (plan : Plan) (s : State) (old : Contracts) (n k next : ℕ) (own before after y : Object) → AreShown plan s old n own before after → slice_get (children own) k ≡ Some y
    → next ≡ n + (count (first k own.inner) + 1) → next + parts y ≤ n + parts own
child_ends plan s old n k next own before after y shown child at = (child_at s.tree own y n k next shown.is child at).within

-- parts that can be counted are counted
pub counted : (n m : ℕ) → m ≡ min n (2 ^ 64 - 1) → n < 2 ^ 64 → m ≡ n
counted n m e lt = omega (arith, e, lt)

-- the next number
pub next_child : (n k next : ℕ) (own y : Object) → slice_get (children own) k ≡ Some y → next ≡ n + (count (first k own.inner) + 1) → next + parts y ≡ n + (count (first (k + 1) own.inner) + 1)
next_child n k next own y child at = omega (arith, at, more_counted own.inner k y child)

-- at the end it is that of what is behind the object
pub all_gone_through : (n k next : ℕ) (own : Object) (xs : List Object) → xs ≡ children own → length xs ≤ k → next ≡ n + (count (first k own.inner) + 1) → next ≡ n + parts own
all_gone_through n k next own xs same le at =
    let wide : width own.inner ≤ k = omega (arith, le, ap (λ (l : List Object). length l) same, length-listed own.inner) in
    at ∙ ap (λ (r : Objects). n + (count r + 1)) (first_all own.inner k wide)

-- the root has all parts of the tree
pub same_root : (o own : Object) → Some own ≡ part_at 0 o → own ≡ o
same_root o own e = some_same e

-- so the root is gone through
pub root_walked : (plan : Plan) (s : State) (old : Contracts) (own before after : Object) (start nodes : List NodeId) → PathsDiffer (row (dressed plan s)) → first_twice [] (paths s.tree) ≡ None → Some own ≡ part_at 0 s.tree
    → Some before ≡ own_shown_at plan (with_library old s) 0 → Some after ≡ own_shown_at plan s 0 → start ≡ []
    → ((plan : Plan) (s : State) (old : Contracts) → AreShown plan s old 0 own before after → AreOtherwiseBelow plan (with_library old s) s.library 0 (numbers_of start)
    → AreOtherwiseBelow plan (with_library old s) s.library (0 + parts own) (numbers_of nodes))
    → AreOtherwise plan (with_library old s) s.library (numbers_of nodes)
root_walked plan s old own before after start nodes differ once own_is before_is after_is empty walked =
    let whole : own ≡ s.tree = same_root s.tree own own_is in
    let end : 0 + parts own ≡ parts s.tree = omega (arith, ap (λ (o : Object). parts o) whole) in
    subst (λ (n : ℕ). AreOtherwiseBelow plan (with_library old s) s.library n (numbers_of nodes)) end
    (walked plan s old (record { differ = differ; once = once; is = sym own_is; before_is = before_is; after_is = after_is })
    (subst (λ (l : List NodeId). AreOtherwiseBelow plan (with_library old s) s.library 0 (numbers_of l)) (sym empty) (none_below plan (with_library old s) s.library)))
