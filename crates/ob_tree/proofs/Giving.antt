-- Words that stand for those of an object, and for those that it gives to its children.
use Rattle.std.proofs.Common.{◌≡◌, ℕ, Bool, true, false, cond, [], Option, Some, None, refl, sym, ap, ◌∙◌, subst}
use Rattle.std.specs.Prelude.{option_map}
use Rattle.std.proofs.lemmas.Bool.{eqb-true}
use Rattle.std.specs.Cmp.{unsigned_ties}
use Rattle.std.specs.Ordering.{nat_cmp}
use Rattle.std.specs.BTreeMap.{BTreeMap, is_at, get}
use Rattle.std.specs.Map.{lookup}
use Rattle.ob_object.specs.declared.head.Head.{Head}
use Rattle.ob_object.specs.Object.{Object}
use Rattle.ob_contracts.specs.Inherit.{Contracts}
use Rattle.ob_tree.specs.declared.instead.Instead.{Instead}
use Rattle.ob_tree.specs.Contexts.{Context}
use Rattle.ob_tree.specs.Standings.{MayStand}
use Rattle.ob_tree.proofs.Walking.{may_stand_none}
use Rattle.ob_tree.specs.Laid.{head_at, leaf}
use Rattle.ob_tree.specs.Shown.{standing_at}
use Rattle.ob_tree.specs.Told.{IsToldAt, AreToldBy, words_for}
use Rattle.ob_tree.proofs.Wholes.{one_standing}

-- no words stand for any
none_told_at : (lib : Contracts) (o : Object) (n : ℕ) → IsToldAt lib o n None
none_told_at lib o n = λ c h stands there. may_stand_none c h

-- where none are lent, none are told
pub none_told : (lib : Contracts) (o : Object) → AreToldBy lib o (words_for None)
none_told lib o = none_told_at lib o

-- before the first
pub told_none : (lib : Contracts) (o : Object) (words : BTreeMap ℕ Instead) → words.entries ≡ [] → AreToldBy lib o (get nat_cmp words)
told_none lib o words e = λ n. subst (λ l. IsToldAt lib o n (lookup (is_at (nat_cmp n)) l)) (sym e) (none_told_at lib o n)

-- words that are told for one object more
pub told_more : (lib : Contracts) (o : Object) (old new : BTreeMap ℕ Instead) (n : ℕ) (ws : Instead) → ((m : ℕ) → get nat_cmp new m ≡ cond (is_at (nat_cmp n) m) (Some ws) (get nat_cmp old m))
    → IsToldAt lib o n (Some ws) → AreToldBy lib o (get nat_cmp old) → AreToldBy lib o (get nat_cmp new)
told_more lib o old new n ws up here told = λ m. subst (IsToldAt lib o m) (sym (up m)) (go m (is_at (nat_cmp n) m) refl)
  where
    go : (m : ℕ) (b : Bool) → is_at (nat_cmp n) m ≡ b → IsToldAt lib o m (cond b (Some ws) (get nat_cmp old m))
    go m false off = told m
    go m true on = subst (λ (k : ℕ). IsToldAt lib o k (Some ws)) (eqb-true n m (unsigned_ties n m ∙ on)) here

-- words that stand for those of an object where it stands are told for its number
pub told_at : (lib : Contracts) (o : Object) (n : ℕ) (r : Context) (h : Head) (told : Option Instead) → Some r ≡ standing_at lib n o → head_at n o ≡ Some h → MayStand r h told → IsToldAt lib o n told
told_at lib o n r h told stands there may = λ c g at is.
    let context : r ≡ c = one_standing r c (stands ∙ sym at) in
    let head : h ≡ g = cc in
    subst (λ (x : Context). MayStand x g told) context (subst (λ (x : Head). MayStand r x told) head may)

-- what an object says of itself, told by its own without children
pub own_head : (n : ℕ) (o own : Object) → Some own ≡ option_map leaf (head_at n o) → head_at n o ≡ Some own.head
own_head n o own is = by (head_at n o) is
  where
    by : (h : Option Head) → Some own ≡ option_map leaf h → h ≡ Some own.head
    by None e = absurd cc
    by (Some h) e = sym (ap (option_map (λ (x : Object). x.head)) e)
