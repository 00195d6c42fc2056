-- A tree of own objects is the site's.
use Rattle.std.proofs.Common.{ℕ, ◌≡◌, zero, suc, ◌+◌, ◌-◌, ◌<◌, ◌≤◌, Bool, true, false, not, ◌&&◌, cond, List, ◌++◌, Option, Some, None, option_map, refl, sym, ap, ap₂, ◌∙◌, arith}
use Rattle.std.specs.Prelude.{is_some, nat_lt, nat_le, option_and_then, slice_get}
use Rattle.std.proofs.lemmas.Bool.{ltb-true, ltb-false}
use Rattle.ob_object.specs.declared.head.Head.{Head}
use Rattle.ob_object.specs.Object.{Objects, none, node, Object, count, parts}
use Rattle.ob_object.specs.Paths.{is_path, node_path}
use Rattle.ob_contracts.specs.Inherit.{Contracts, or_else, only_if}
use Rattle.ob_site_rules.specs.Build.{Path}
use Rattle.ob_site_rules.specs.Shown.{derived_at, with_status, dressed, shown}
use Rattle.ob_site_rules.specs.State.{State}
use Rattle.ob_site_rules.specs.declared.plan.Plan.{Plan}
use Rattle.ob_tree.specs.Contexts.{Context, HandedDown, handed_down, under, comes_to}
use Rattle.ob_shown_laws.specs.Alike.{without_slot, without_values, DifferInSlots, DifferInValues}
use Rattle.ob_shown_laws.specs.Standing.{Standing, effective, root_standing}
use Rattle.ob_shown_laws.specs.Changed.{same_values, head_in, same_derived, is_in, is_round, PathsDiffer}
use Rattle.ob_shown_laws.specs.Numbered.{number_in, numbered, root_row}
use Rattle.ob_shown_laws.specs.Own.{derived_own}
use Rattle.ob_shown_laws.specs.OwnShown.{IsNotDerived, own_standing, dressed_standing}
use Rattle.ob_shown_laws.proofs.Standings.{node_of-effective}
use Rattle.ob_shown_laws.proofs.Numbering.{number_there, numbers_tell}
use Rattle.ob_shown_laws.proofs.Alikes.{under_alike, handed_alike}
use Rattle.ob_shown_laws.proofs.OwnStanding.{own_is_enough, own_tells_differences}
use Rattle.ob_tree.specs.Laid.{heads, paths, head_at}
use Rattle.ob_tree.specs.Paths.{place_of}
use Rattle.ob_tree.specs.Shown.{row, part_in, part_at, handed, handed_in, handed_at, standing_at}
use Rattle.ob_tree.proofs.Changing.{length-heads, got_left, got_right}
use Rattle.ob_tree.proofs.Contexts.{heads_row}
use Rattle.ob_shown_laws.specs.OwnTree.{own_shown_at, OwnTreesTell, OwnTreesTellChanges}
use Rattle.ob_shown_laws.proofs.Places.{place_at}

-- an object that stands so
abbrev pub standing : Context → Object → Standing
standing c o = record { context = c; object = o }

numbered_in : (r : HandedDown) (n : ℕ) (os : Objects) → numbered n r os ≡ option_map (λ x. standing (under (handed_in r n os) x.head.name) x) (part_in n os)
numbered_in r n none = refl
numbered_in r zero (node h inner rest) = refl
numbered_in r (suc n) (node h inner rest) = go (nat_lt n (count inner)) (numbered_in (handed r h) n inner) (numbered_in r (n - count inner) rest)
  where
    go : (b : Bool)
        → numbered n (handed r h) inner ≡ option_map (λ x. standing (under (handed_in (handed r h) n inner) x.head.name) x) (part_in n inner)
        → numbered (n - count inner) r rest ≡ option_map (λ x. standing (under (handed_in r (n - count inner) rest) x.head.name) x) (part_in (n - count inner) rest)
        → cond b (numbered n (handed r h) inner) (numbered (n - count inner) r rest)
        ≡ option_map (λ x. standing (under (cond b (handed_in (handed r h) n inner) (handed_in r (n - count inner) rest)) x.head.name) x) (cond b (part_in n inner) (part_in (n - count inner) rest))
    go true deep later = deep
    go false deep later = later

heads_in : (n : ℕ) (os : Objects) → slice_get (heads os) n ≡ option_map (λ x. x.head) (part_in n os)
heads_in n none = refl
heads_in zero (node h inner rest) = refl
heads_in (suc n) (node h inner rest) = go (nat_lt n (count inner)) refl (heads_in n inner) (heads_in (n - count inner) rest)
  where
    go : (b : Bool) → nat_lt n (count inner) ≡ b → slice_get (heads inner) n ≡ option_map (λ x. x.head) (part_in n inner)
        → slice_get (heads rest) (n - count inner) ≡ option_map (λ x. x.head) (part_in (n - count inner) rest)
        → slice_get (heads inner ++ heads rest) n ≡ option_map (λ x. x.head) (cond b (part_in n inner) (part_in (n - count inner) rest))
    go true is deep later =
        let lt : n < count inner = ltb-true n (count inner) is in
        got_left (heads inner) (heads rest) n (omega (arith, lt, length-heads inner)) ∙ deep
    go false is deep later =
        let le : count inner ≤ n = ltb-false n (count inner) is in
        got_right (heads inner) (heads rest) n (omega (arith, le, length-heads inner)) ∙ ap (λ (k : ℕ). slice_get (heads rest) (n - k)) (length-heads inner) ∙ later

head_of_part : (n : ℕ) (o : Object) → head_at n o ≡ option_map (λ x. x.head) (part_at n o)
head_of_part n o = ap (λ (l : List Head). slice_get l n) (sym (heads_row o)) ∙ heads_in n (row o)

-- the object of a number, where it stands
abbrev at_number : Contracts → ℕ → Object → Option Standing
at_number lib n o = option_and_then (λ c. option_map (standing c) (part_at n o)) (standing_at lib n o)

numbered_at : (lib : Contracts) (n : ℕ) (o : Object) → numbered n (root_row lib) (row o) ≡ at_number lib n o
numbered_at lib n o =
    numbered_in (root_row lib) n (row o) ∙ go (part_at n o)
    ∙ sym (ap (λ (q : Option Head). option_and_then (λ c. option_map (standing c) (part_at n o)) (option_map (λ h. under (handed_at lib n o) h.name) q)) (head_of_part n o))
  where
    go : (p : Option Object)
        → option_map (λ x. standing (under (handed_at lib n o) x.head.name) x) p
        ≡ option_and_then (λ c. option_map (standing c) p) (option_map (λ h. under (handed_at lib n o) h.name) (option_map (λ x. x.head) p))
    go None = refl
    go (Some x) = refl

-- the own node of a path by its number
own_numbered : (s : State) (p : Path) → own_standing s p ≡ option_and_then (λ n. numbered n (root_row s.library) (row s.tree)) (place_of p (paths s.tree))
own_numbered s p =
    (numbers_tell (root_row s.library) (row s.tree)).found p
    ∙ ap (option_and_then (λ n. numbered n (root_row s.library) (row s.tree))) (sym (place_at p s.tree))

then_each : {A B : Type 0} (f : A → B) (g : ℕ → Option A) (h : ℕ → Option B) → ((n : ℕ) → option_map f (g n) ≡ h n) → (o : Option ℕ) → option_map f (option_and_then g o) ≡ option_and_then h o
then_each f g h each None = refl
then_each f g h each (Some n) = each n

shown_of_number : (plan : Plan) (s : State) (n : ℕ) → option_map (λ x. effective (dressed_standing plan s x)) (numbered n (root_row s.library) (row s.tree)) ≡ own_shown_at plan s n
shown_of_number plan s n =
    ap (option_map (λ x. effective (dressed_standing plan s x))) (numbered_at s.library n s.tree) ∙ go (standing_at s.library n s.tree) (part_at n s.tree)
  where
    go : (c : Option Context) (o : Option Object)
        → option_map (λ x. effective (dressed_standing plan s x)) (option_and_then (λ c. option_map (standing c) o) c)
        ≡ option_and_then (λ c. option_map (λ o. comes_to c (derived_own plan s o)) o) c
    go None o = refl
    go (Some c) None = refl
    go (Some c) (Some o) = refl

shows : (plan : Plan) (s : State) (p : Path) → IsNotDerived plan s p (row s.tree) → shown plan s p ≡ option_and_then (own_shown_at plan s) (place_of p (paths s.tree))
shows plan s p off =
    (own_is_enough plan s).shows p off
    ∙ ap (option_map (λ x. effective (dressed_standing plan s x))) (own_numbered s p)
    ∙ then_each (λ x. effective (dressed_standing plan s x)) (λ n. numbered n (root_row s.library) (row s.tree)) (own_shown_at plan s) (shown_of_number plan s) (place_of p (paths s.tree))

is_own : (s : State) (p : Path) (n : ℕ) → place_of p (paths s.tree) ≡ Some n → is_in p (row s.tree) ≡ true
is_own s p n e = sym (number_there p (row s.tree)) ∙ ap is_some (sym (place_at p s.tree) ∙ e)

pub not_derived : (plan : Plan) (s : State) (p : Path) (n : ℕ) → PathsDiffer (row (dressed plan s)) → place_of p (paths s.tree) ≡ Some n → IsNotDerived plan s p (row s.tree)
not_derived plan s p n differ e = (own_is_enough plan s).own p differ (is_own s p n e)

-- the object of a number is there where its head is
pub part_there : (n : ℕ) (o : Object) (h : Head) → head_at n o ≡ Some h → (x : Object) × (part_at n o ≡ Some x) × (x.head ≡ h)
part_there n o h e = go (part_at n o) refl (sym (head_of_part n o) ∙ e)
  where
    some_same : {a b : Head} → Some a ≡ Some b → a ≡ b
    some_same f = cc

    go : (q : Option Object) → part_at n o ≡ q → option_map (λ x. x.head) q ≡ Some h → (x : Object) × (part_at n o ≡ Some x) × (x.head ≡ h)
    go None f g = absurd cc
    go (Some x) f g = (x, f, some_same g)

at_found : (lib : Contracts) (n : ℕ) (o x : Object) (c : Context) → standing_at lib n o ≡ Some c → part_at n o ≡ Some x → numbered n (root_row lib) (row o) ≡ Some (standing c x)
at_found lib n o x c e f =
    numbered_at lib n o
    ∙ ap₂ (λ (i : Option Context) (j : Option Object). option_and_then (λ c. option_map (standing c) j) i) e f

pub own_found : (s : State) (p : Path) (n : ℕ) (x : Object) (c : Context) → place_of p (paths s.tree) ≡ Some n → standing_at s.library n s.tree ≡ Some c → part_at n s.tree ≡ Some x → own_standing s p ≡ Some (standing c x)
own_found s p n x c at e f =
    own_numbered s p ∙ ap (option_and_then (λ n. numbered n (root_row s.library) (row s.tree))) at ∙ at_found s.library n s.tree x c e f

derives : (plan : Plan) (s : State) (p q : Path) (n place : ℕ) (h : Head) (d : Object) → PathsDiffer (row (dressed plan s)) → place_of q (paths s.tree) ≡ Some n → head_at n s.tree ≡ Some h
    → slice_get (derived_at plan s q) place ≡ Some d → node_path d.head ≡ Some p
    → shown plan s p ≡ option_map (λ c. comes_to (under (handed_down c h) d.head.name) d) (standing_at s.library n s.tree)
derives plan s p q n place h d differ at head is path =
    let x = part_there n s.tree h head in
    let c : Context = under (handed_at s.library n s.tree) h.name in
    let stands : standing_at s.library n s.tree ≡ Some c = ap (option_map (λ (k : Head). under (handed_at s.library n s.tree) k.name)) head in
    node_of-effective p (root_standing plan s)
    ∙ ap (option_map effective) ((own_is_enough plan s).derives p q (standing c x.0) place d differ (own_found s q n x.0 c at stands x.1) is path)
    ∙ ap (λ (k : Head). Some (comes_to (under (handed_down c k) d.head.name) d)) x.2
    ∙ sym (ap (option_map (λ c. comes_to (under (handed_down c h) d.head.name) d)) stands)

pub round : (plan : Plan) (s : State) (p : Path) (n k : ℕ) (x : Object) → PathsDiffer (row (dressed plan s)) → place_of p (paths s.tree) ≡ Some n → part_at k s.tree ≡ Some x
    → is_round p (derived_own plan s x) ≡ (nat_le k n && nat_lt n (k + parts x))
round plan s p n k x differ at here =
    let head : head_at k s.tree ≡ Some x.head = head_of_part k s.tree ∙ ap (option_map (λ (y : Object). y.head)) here in
    let c : Context = under (handed_at s.library k s.tree) x.head.name in
    let found : numbered k (root_row s.library) (row s.tree) ≡ Some (standing c x) =
    at_found s.library k s.tree x c (ap (option_map (λ (h : Head). under (handed_at s.library k s.tree) h.name)) head) here in
    (own_is_enough plan s).round p k (standing c x) (not_derived plan s p n differ at) found
    ∙ (numbers_tell (root_row s.library) (row s.tree)).round ((own_is_enough plan s).differ differ) p n k (standing c x) (sym (place_at p s.tree) ∙ at) found

pub own_trees_tell : OwnTreesTell
own_trees_tell plan s = record {
  shows = λ p off. shows plan s p off;
  shows_own = λ p n differ at. shows plan s p (not_derived plan s p n differ at) ∙ ap (option_and_then (own_shown_at plan s)) at;
  derives = λ p q n place h d differ at head is path. derives plan s p q n place h d differ at head is path;
  round = λ p n k x differ at here. round plan s p n k x differ at here;
  own = λ p n differ at. not_derived plan s p n differ at;
}

-- two states that differ in values alone
slot_path : (h k : Head) → without_slot h ≡ without_slot k → node_path h ≡ node_path k
slot_path h k e = ap (λ (u : Head). node_path u) e

slot_values : (h k : Head) → without_slot h ≡ without_slot k → without_values h ≡ without_values k
slot_values h k e = ap (λ (u : Head). without_values u) e

pub same_count : (os qs : Objects) → DifferInSlots os qs → count qs ≡ count os
same_count none none d = refl
same_count none (node k inner more) d = absurd d
same_count (node h below rest) none d = absurd d
same_count (node h below rest) (node k inner more) d = ap₂ (λ a b. a + b + 1) (same_count below inner d.2) (same_count rest more d.3)

-- the number of a node in a row, by that of its first object's path and by those in the rows behind
abbrev number_of : Path → Option Path → Option ℕ → ℕ → Option ℕ → Option ℕ
number_of p o i c l = or_else (only_if (is_path p o) (Some 0)) (or_else (option_map (λ n. n + 1) i) (option_map (λ n. n + (c + 1)) l))

same_numbers : (p : Path) (os qs : Objects) → DifferInSlots os qs → number_in p qs ≡ number_in p os
same_numbers p none none d = refl
same_numbers p none (node k inner more) d = absurd d
same_numbers p (node h below rest) none d = absurd d
same_numbers p (node h below rest) (node k inner more) d =
    ap (λ (o : Option Path). number_of p o (number_in p inner) (count inner) (number_in p more)) (sym (slot_path h k d.0))
    ∙ ap (λ (i : Option ℕ). number_of p (node_path h) i (count inner) (number_in p more)) (same_numbers p below inner d.2)
    ∙ ap₂ (λ (c : ℕ) (l : Option ℕ). number_of p (node_path h) (number_in p below) c l) (same_count below inner d.2) (same_numbers p rest more d.3)

stand_same : (r : HandedDown) (n : ℕ) (os qs : Objects) → DifferInSlots os qs → option_map (λ x. x.context) (numbered n r qs) ≡ option_map (λ x. x.context) (numbered n r os)
stand_same r n none none d = refl
stand_same r n none (node k inner more) d = absurd d
stand_same r n (node h below rest) none d = absurd d
stand_same r zero (node h below rest) (node k inner more) d = ap (λ (c : Context). Some c) (under_alike r h k (slot_values h k d.0))
stand_same r (suc n) (node h below rest) (node k inner more) d =
    ap (λ (m : ℕ). option_map (λ (x : Standing). x.context) (cond (nat_lt n m) (numbered n (handed_down (under r k.name) k) inner) (numbered (n - m) r more))) (same_count below inner d.2)
    ∙ ap (λ (e : HandedDown). option_map (λ (x : Standing). x.context) (cond (nat_lt n (count below)) (numbered n e inner) (numbered (n - count below) r more)))
    (ap (λ (c : Context). handed_down c k) (under_alike r h k (slot_values h k d.0)) ∙ handed_alike (under r h.name) h k (slot_values h k d.0))
    ∙ go (nat_lt n (count below)) (stand_same (handed_down (under r h.name) h) n below inner d.2) (stand_same r (n - count below) rest more d.3)
  where
    go : (b : Bool)
        → option_map (λ x. x.context) (numbered n (handed_down (under r h.name) h) inner) ≡ option_map (λ x. x.context) (numbered n (handed_down (under r h.name) h) below)
        → option_map (λ x. x.context) (numbered (n - count below) r more) ≡ option_map (λ x. x.context) (numbered (n - count below) r rest)
        → option_map (λ (x : Standing). x.context) (cond b (numbered n (handed_down (under r h.name) h) inner) (numbered (n - count below) r more))
        ≡ option_map (λ (x : Standing). x.context) (cond b (numbered n (handed_down (under r h.name) h) below) (numbered (n - count below) r rest))
    go true deep later = deep
    go false deep later = later

-- where the object of a number stands
context_at : (lib : Contracts) (n : ℕ) (o : Object) → option_map (λ x. x.context) (numbered n (root_row lib) (row o)) ≡ standing_at lib n o
context_at lib n o =
    ap (option_map (λ (x : Standing). x.context)) (numbered_in (root_row lib) n (row o))
    ∙ go (part_at n o)
    ∙ sym (ap (option_map (λ (h : Head). under (handed_at lib n o) h.name)) (head_of_part n o))
  where
    go : (p : Option Object)
        → option_map (λ x. x.context) (option_map (λ x. standing (under (handed_at lib n o) x.head.name) x) p)
        ≡ option_map (λ h. under (handed_at lib n o) h.name) (option_map (λ x. x.head) p)
    go None = refl
    go (Some x) = refl

places : (s t : State) (p : Path) → DifferInValues s t → place_of p (paths t.tree) ≡ place_of p (paths s.tree)
places s t p values = place_at p t.tree ∙ same_numbers p (row s.tree) (row t.tree) values.tree ∙ sym (place_at p s.tree)

stands : (s t : State) (n : ℕ) → DifferInValues s t → standing_at t.library n t.tree ≡ standing_at s.library n s.tree
stands s t n values =
    ap (λ (lib : Contracts). standing_at lib n t.tree) (sym values.library)
    ∙ sym (context_at s.library n t.tree)
    ∙ stand_same (root_row s.library) n (row s.tree) (row t.tree) values.tree
    ∙ context_at s.library n s.tree

pub own_trees_tell_changes : OwnTreesTellChanges
own_trees_tell_changes plan s t values = record {
  places = λ p. places s t p values;
  stands = λ n. stands s t n values;
  differs_by = λ p n h k c off at here there where_.
      (let x = part_there n s.tree h here in
      let y = part_there n t.tree k there in
      let before : own_standing s p ≡ Some (standing c x.0) = own_found s p n x.0 c at where_ x.1 in
      let after : own_standing t p ≡ Some (standing c y.0) = own_found t p n y.0 c (places s t p values ∙ at) (stands s t n values ∙ where_) y.1 in
      (own_tells_differences plan s t values).differs_by p (standing c x.0) (standing c y.0) off before after
      ∙ ap₂ (λ (u v : Head). not (same_values (head_in c (with_status plan s u)) (head_in c (with_status plan t v)) && same_derived plan s t p)) x.2 y.2);
}
