-- Words that are told stay so where an object is given another slot.
use Rattle.std.proofs.Common.{◌≡◌, ℕ, zero, suc, ◌-◌, Bool, true, false, cond, List, [], ◌∷◌, ◌++◌, map, Option, Some, None, refl, sym, ap, ap₂, ◌∙◌, subst}
use Rattle.std.specs.Prelude.{nat_lt, slice_get, option_map, option_and_then}
use Rattle.std.proofs.lemmas.List.{map-append}
use Rattle.std.proofs.lemmas.Option.{slice_get-map}
use Rattle.std.specs.Ordering.{nat_cmp}
use Rattle.std.specs.BTreeMap.{BTreeMap, is_at}
use Rattle.std.specs.Map.{lookup}
use denote.Ref.{Bor}
use Rattle.ob_object.specs.declared.head.Head.{Head}
use Rattle.ob_object.specs.declared.head.Slot.{Slot}
use Rattle.ob_object.specs.declared.head.Slot.TheVariants.{Absent}
use Rattle.ob_object.specs.Object.{Objects, none, node, Object, count}
use Rattle.ob_contracts.specs.Inherit.{Contracts}
use Rattle.ob_contracts.specs.Tellers.{TellsIn}
use Rattle.ob_tree.specs.declared.instead.Instead.{Instead}
use Rattle.ob_tree.specs.Contexts.{Context, HandedDown, handed_down, under, comes_to}
use Rattle.ob_tree.specs.Standings.{MayStand, is_of, items_of}
use Rattle.ob_tree.specs.Laid.{heads, heads_of, head_at, leaf, changed_in, changed}
use Rattle.ob_tree.specs.Shown.{at_top, effective_in, handed, handed_in, handed_at, standing_at}
use Rattle.ob_tree.specs.Told.{IsToldAt, AreToldBy, words_for}
use Rattle.ob_tree.proofs.Changing.{count-changed_in}
use Rattle.ob_ground.specs.Grounds.{Taught, WordsStand, alone_at, words_at, inside_at}

-- what an object says of itself but for its slot: all that it hands down is told by that
abbrev rest_of : Head → Head
rest_of h = record h { slot = Absent }

abbrev rests : List Head → List Head
rests hs = map rest_of hs

-- words stay told for an object whose parts say the same of themselves but for their slots, and take the same
kept_at : (lib : Contracts) (m : ℕ) (o : Object) (told : Option Instead) (c : Context) (h : Head) (at : Option Head) → head_at m o ≡ at → Some (rest_of h) ≡ option_map rest_of at
    → Some c ≡ Some (under (handed_at lib m o) h.name) → IsToldAt lib o m told → MayStand c h told
kept_at lib m o told c h None there e stands t = absurd cc
kept_at lib m o told c h (Some g) there e stands t =
    let same : rest_of h ≡ rest_of g = cc in
    let here : Some c ≡ standing_at lib m o =
    stands ∙ ap (λ (x : Head). Some (under (handed_at lib m o) x.name)) same ∙ sym (ap (option_map (λ (x : Head). under (handed_at lib m o) x.name)) there) in
    let may = t c g here there in
    record {
      is = subst (λ (x : Head). TellsIn c.library (is_of told) x.is) (sym same) may.is;
      items = subst (λ (x : Head). TellsIn c.library (items_of told) (handed_down c x).implied) (sym same) may.items;
    }

kept_by : (lib : Contracts) (told : ℕ → Option Instead) (o p : Object) → ((m : ℕ) → option_map rest_of (head_at m p) ≡ option_map rest_of (head_at m o)) → ((m : ℕ) → handed_at lib m p ≡ handed_at lib m o)
    → AreToldBy lib o told → AreToldBy lib p told
kept_by lib told o p rest takes t = λ m c h stands there.
    kept_at lib m o (told m) c h (head_at m o) refl (sym (ap (option_map rest_of) there) ∙ rest m)
    (stands ∙ ap (option_map (λ (x : Head). under (handed_at lib m p) x.name)) there ∙ ap (λ (d : HandedDown). Some (under d h.name)) (takes m)) (t m)

module _ (slot : Slot) where
  abbrev with_slot : Head → Head
  with_slot h = record h { slot = slot }

  rest_by : (h : Head) (inner rest left right : Objects) (b : Bool) → rests (heads left) ≡ rests (heads inner) → rests (heads right) ≡ rests (heads rest)
      → rests (heads (cond b (node h left rest) (node h inner right))) ≡ rests (h ∷ (heads inner ++ heads rest))
  rest_by h inner rest left right true l r =
      ap (λ x. rest_of h ∷ x) (map-append rest_of (heads left) (heads rest) ∙ ap (λ x. x ++ rests (heads rest)) l ∙ sym (map-append rest_of (heads inner) (heads rest)))
  rest_by h inner rest left right false l r =
      ap (λ x. rest_of h ∷ x) (map-append rest_of (heads inner) (heads right) ∙ ap (λ x. rests (heads inner) ++ x) r ∙ sym (map-append rest_of (heads inner) (heads rest)))

  rest_in : (r : Objects) (n : ℕ) → rests (heads (changed_in with_slot n r)) ≡ rests (heads r)
  rest_in none n = refl
  rest_in (node h inner rest) zero = refl
  rest_in (node h inner rest) (suc n) =
      rest_by h inner rest (changed_in with_slot n inner) (changed_in with_slot (n - count inner) rest) (nat_lt n (count inner)) (rest_in inner n) (rest_in rest (n - count inner))

  rest_whole : (n : ℕ) (o : Object) → rests (heads_of (changed with_slot n o)) ≡ rests (heads_of o)
  rest_whole zero o = refl
  rest_whole (suc n) o = ap (λ x. rest_of o.head ∷ x) (rest_in o.inner n)

  rest_at : (n m : ℕ) (o : Object) → option_map rest_of (head_at m (changed with_slot n o)) ≡ option_map rest_of (head_at m o)
  rest_at n m o = sym (slice_get-map rest_of (heads_of (changed with_slot n o)) m) ∙ ap (λ l. slice_get l m) (rest_whole n o) ∙ slice_get-map rest_of (heads_of o) m

  -- what an object takes stays
  takes_by : (h : Head) (inner rest left right : Objects) (c : HandedDown) (m : ℕ) (b : Bool) → count left ≡ count inner
      → ((c : HandedDown) (m : ℕ) → handed_in c m left ≡ handed_in c m inner) → ((c : HandedDown) (m : ℕ) → handed_in c m right ≡ handed_in c m rest)
      → handed_in c (suc m) (cond b (node h left rest) (node h inner right)) ≡ handed_in c (suc m) (node h inner rest)
  takes_by h inner rest left right c m true n l r =
      ap (λ (k : ℕ). cond (nat_lt m k) (handed_in (handed c h) m left) (handed_in c (m - k) rest)) n
      ∙ ap (λ (d : HandedDown). cond (nat_lt m (count inner)) d (handed_in c (m - count inner) rest)) (l (handed c h) m)
  takes_by h inner rest left right c m false n l r =
      ap (λ (d : HandedDown). cond (nat_lt m (count inner)) (handed_in (handed c h) m inner) d) (r c (m - count inner))

  takes_first : (h : Head) (inner rest left right : Objects) (c : HandedDown) (b : Bool) → handed_in c zero (cond b (node h left rest) (node h inner right)) ≡ c
  takes_first h inner rest left right c true = refl
  takes_first h inner rest left right c false = refl

  takes_in : (r : Objects) (c : HandedDown) (n m : ℕ) → handed_in c m (changed_in with_slot n r) ≡ handed_in c m r
  takes_in none c n m = refl
  takes_in (node h inner rest) c zero zero = refl
  takes_in (node h inner rest) c zero (suc m) = refl
  takes_in (node h inner rest) c (suc n) zero = takes_first h inner rest (changed_in with_slot n inner) (changed_in with_slot (n - count inner) rest) c (nat_lt n (count inner))
  takes_in (node h inner rest) c (suc n) (suc m) =
      takes_by h inner rest (changed_in with_slot n inner) (changed_in with_slot (n - count inner) rest) c m (nat_lt n (count inner)) (count-changed_in with_slot inner n)
      (λ d k. takes_in inner d n k) (λ d k. takes_in rest d (n - count inner) k)

  takes_at : (lib : Contracts) (n m : ℕ) (o : Object) → handed_at lib m (changed with_slot n o) ≡ handed_at lib m o
  takes_at lib zero zero o = refl
  takes_at lib zero (suc m) o = refl
  takes_at lib (suc n) zero o = refl
  takes_at lib (suc n) (suc m) o =
      takes_by o.head o.inner none (changed_in with_slot n o.inner) none (at_top lib) m true (count-changed_in with_slot o.inner n) (λ d k. takes_in o.inner d n k) (λ d k. refl)

-- a slot tells nothing
pub told_set : (slot : Slot) (n : ℕ) (o : Object) (t : Taught) → WordsStand o t → WordsStand (changed (λ h. record h { slot = slot }) n o) t
unfolding WordsStand
told_set slot n o t told =
    kept_by t.library (words_at t) o (changed (with_slot slot) n o) (λ m. rest_at slot n m o) (λ m. takes_at slot t.library n m o) told

-- nor did the one that was there
pub told_unset : (slot : Slot) (n : ℕ) (o : Object) (t : Taught) → WordsStand (changed (λ h. record h { slot = slot }) n o) t → WordsStand o t
unfolding WordsStand
told_unset slot n o t told =
    kept_by t.library (words_at t) (changed (with_slot slot) n o) o (λ m. sym (rest_at slot n m o)) (λ m. sym (takes_at slot t.library n m o)) told

-- words of a map that is lent
pub told_lent : (lib : Contracts) (o : Object) (t : Taught) (words : Bor (BTreeMap ℕ Instead)) → words.now.entries ≡ t.words → t.library ≡ lib → WordsStand o t → AreToldBy lib o (words_for (Some words))
unfolding WordsStand
told_lent lib o t words e l told =
    subst (λ (x : Contracts). AreToldBy x o (words_for (Some words))) l
    (subst (λ (x : List (ℕ × Instead)). AreToldBy t.library o (λ n. lookup (is_at (nat_cmp n)) x)) (sym e) told)

-- words that are told for an object may stand for its own where it stands
pub told_inside : (t : Taught) (o : Object) (r : Context) (n : ℕ) (h : Head) (told : Option Instead) → WordsStand o t → Some r ≡ standing_at t.library n o → head_at n o ≡ Some h → told ≡ words_at t n
    → MayStand r h told
unfolding WordsStand
told_inside t o r n h told are stands there is = subst (λ (x : Option Instead). MayStand r h x) (sym is) (are n r h stands there)

-- and where a child stands in it
pub stands_inside : (lib : Contracts) (o : Object) (r s : Context) (n : ℕ) (h : Head) (name : Option (List ℕ)) → Some r ≡ standing_at lib n o → head_at n o ≡ Some h → s ≡ under (handed_down r h) name
    → Some s ≡ inside_at lib n name o
stands_inside lib o r s n h name stands there is =
    ap (λ (x : Context). Some x) is
    ∙ ap (option_map (λ (c : Context). under (handed_down c h) name)) stands
    ∙ ap (option_and_then (λ (x : Head). option_map (λ (c : Context). under (handed_down c x) name) (standing_at lib n o))) (sym there)

-- and what it comes to there without its children
pub stands_alone : (lib : Contracts) (o own : Object) (r : Context) (n : ℕ) → Some r ≡ standing_at lib n o → Some own ≡ option_map leaf (head_at n o) → Some (comes_to r own) ≡ alone_at lib n o
stands_alone lib o own r n stands there = by (head_at n o) stands there
  where
    takes : HandedDown
    takes = handed_at lib n o

    by : (h : Option Head) → Some r ≡ option_map (λ h. under takes h.name) h → Some own ≡ option_map leaf h → Some (comes_to r own) ≡ option_map (effective_in takes) (option_map leaf h)
    by None s e = absurd cc
    by (Some h) s e =
        let at : r ≡ under takes h.name = cc in
        let is : own ≡ leaf h = cc in
        ap₂ (λ (c : Context) (x : Object). Some (comes_to c x)) at is
