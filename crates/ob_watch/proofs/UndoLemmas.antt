-- Additions taken back.
use Rattle.std.proofs.Common.{◌≡◌, ℕ, zero, suc, ◌≤◌, Bool, true, false, cond, ◌||◌, List, [], ◌∷◌, ◌++◌, length, take, refl, sym, ap, subst, ◌∙◌, arith}
use Rattle.std.specs.Prelude.{Option, Some, None, is_some, option_to_list}
use Rattle.std.specs.List.{AllByRecursion}
use Rattle.std.specs.Str.{bytes_eq}
use Rattle.std.proofs.lemmas.Slice.Eq.{bytes_eq-Decides}
use Rattle.ob_watch.specs.declared.item.Item.{Item}
use Rattle.ob_watch.specs.Items.{Text, found_item, has_text, put_item, put_over}
use Rattle.ob_watch.specs.Restoring.{restored}
use Rattle.ob_watch.specs.Undo.{Undo, Undoes}
use Rattle.ob_watch.proofs.ItemLemmas.{found_has, put_differs}

-- ---- what is put back last was replaced first

pub restored_push : (xs : List Item) (x : Item) (items : List Item) → restored (xs ++ x ∷ []) items ≡ restored xs (put_over x items)
restored_push [] x items = refl
restored_push (y ∷ ys) x items = ap (put_over y) (restored_push ys x items)

-- ---- put_over leaves the texts

has_put_over : (x : Item) (items : List Item) (t : Text) → has_text (put_over x items) t ≡ has_text items t
has_put_over x [] t = refl
has_put_over x (y ∷ ys) t = go (bytes_eq y.text x.text) refl (has_put_over x ys t)
  where
    go : (b : Bool) → bytes_eq y.text x.text ≡ b → has_text (put_over x ys) t ≡ has_text ys t → has_text (cond b (x ∷ ys) (y ∷ put_over x ys)) t ≡ (bytes_eq y.text t || has_text ys t)
    go true same rest = ap (λ (u : Text). bytes_eq u t || has_text ys t) (sym ((bytes_eq-Decides y.text x.text).0 same))
    go false same rest = ap (λ b. bytes_eq y.text t || b) rest

length_put_over : (x : Item) (items : List Item) → length (put_over x items) ≡ length items
length_put_over x [] = refl
length_put_over x (y ∷ ys) = go (bytes_eq y.text x.text) (length_put_over x ys)
  where
    go : (b : Bool) → length (put_over x ys) ≡ length ys → length (cond b (x ∷ ys) (y ∷ put_over x ys)) ≡ suc (length ys)
    go true rest = refl
    go false rest = ap suc rest

has_restored : (xs items : List Item) (t : Text) → has_text (restored xs items) t ≡ has_text items t
has_restored [] items t = refl
has_restored (x ∷ xs) items t = has_put_over x (restored xs items) t ∙ has_restored xs items t

length_restored : (xs items : List Item) → length (restored xs items) ≡ length items
length_restored [] items = refl
length_restored (x ∷ xs) items = length_put_over x (restored xs items) ∙ length_restored xs items

-- ---- a new one at the end stays there

over_push : (x new : Item) (items : List Item) → has_text items x.text ≡ true → put_over x (items ++ new ∷ []) ≡ put_over x items ++ new ∷ []
over_push x new [] there = absurd (let e : false ≡ true = there in cc)
over_push x new (y ∷ ys) there = go (bytes_eq y.text x.text) there (over_push x new ys)
  where
    go : (b : Bool) → (b || has_text ys x.text) ≡ true → (has_text ys x.text ≡ true → put_over x (ys ++ new ∷ []) ≡ put_over x ys ++ new ∷ [])
        → cond b (x ∷ (ys ++ new ∷ [])) (y ∷ put_over x (ys ++ new ∷ [])) ≡ cond b (x ∷ ys) (y ∷ put_over x ys) ++ new ∷ []
    go true there rest = refl
    go false there rest = ap (λ (zs : List Item). y ∷ zs) (rest there)

restored_grown : (xs : List Item) (new : Item) (items : List Item) → AllByRecursion (λ x. has_text items x.text ≡ true) xs → restored xs (items ++ new ∷ []) ≡ restored xs items ++ new ∷ []
restored_grown [] new items there = refl
restored_grown (x ∷ xs) new items there =
    ap (put_over x) (restored_grown xs new items there.1)
    ∙ over_push x new (restored xs items) (has_restored xs items x.text ∙ there.0)

take_grown : (n : ℕ) (items : List Item) (new : Item) → n ≤ length items → take n (items ++ new ∷ []) ≡ take n items
take_grown zero items new le = refl
take_grown (suc n) [] new le = absurd (omega arith)
take_grown (suc n) (y ∷ ys) new le = ap (λ (zs : List Item). y ∷ zs) (take_grown n ys new (omega arith))

-- ---- texts of what is put

has_put : (new : Item) (items : List Item) (t : Text) → has_text items t ≡ true → has_text (put_item new items) t ≡ true
has_put new [] t there = absurd (let e : false ≡ true = there in cc)
has_put new (y ∷ ys) t there = go (bytes_eq y.text new.text) refl (bytes_eq y.text t) refl there (has_put new ys t)
  where
    go : (b : Bool) → bytes_eq y.text new.text ≡ b → (c : Bool) → bytes_eq y.text t ≡ c → (c || has_text ys t) ≡ true → (has_text ys t ≡ true → has_text (put_item new ys) t ≡ true)
        → has_text (cond b (new ∷ ys) (y ∷ put_item new ys)) t ≡ true
    go true same c is there rest = ap (λ (u : Text). bytes_eq u t || has_text ys t) (sym ((bytes_eq-Decides y.text new.text).0 same)) ∙ ap (λ d. d || has_text ys t) is ∙ there
    go false same true is there rest = ap (λ d. d || has_text (put_item new ys) t) is
    go false same false is there rest = ap (λ d. d || has_text (put_item new ys) t) is ∙ rest there

all_put : (new : Item) (items xs : List Item) → AllByRecursion (λ x. has_text items x.text ≡ true) xs → AllByRecursion (λ x. has_text (put_item new items) x.text ≡ true) xs
all_put new items [] there = tt
all_put new items (x ∷ xs) there = (has_put new items x.text there.0, all_put new items xs there.1)

all_push : (P : Item → Type 0) (xs : List Item) (x : Item) → AllByRecursion P xs → P x → AllByRecursion P (xs ++ x ∷ [])
all_push P [] x all here = (here, tt)
all_push P (y ∷ ys) x all here = (all.0, all_push P ys x all.1 here)

-- ---- what replaced an item, and is replaced by it

found_text : (t : Text) (items : List Item) (x : Item) → found_item t items ≡ Some x → x.text ≡ t
found_text t [] x found = absurd (let e : None ≡ Some x = found in cc)
found_text t (y ∷ ys) x found = go (bytes_eq y.text t) refl found (found_text t ys x)
  where
    go : (b : Bool) → bytes_eq y.text t ≡ b → cond b (Some y) (found_item t ys) ≡ Some x → (found_item t ys ≡ Some x → x.text ≡ t) → x.text ≡ t
    go true same found rest =
        let one : y ≡ x = cc in
        ap (λ (i : Item). i.text) (sym one) ∙ (bytes_eq-Decides y.text t).0 same
    go false same found rest = rest found

put_back : (new : Item) (items : List Item) (x : Item) → x.text ≡ new.text → found_item new.text items ≡ Some x → put_over x (put_item new items) ≡ items
put_back new [] x same found = absurd (let e : None ≡ Some x = found in cc)
put_back new (y ∷ ys) x same found = go (bytes_eq y.text new.text) refl found (put_back new ys x same)
  where
    reflexive : bytes_eq new.text x.text ≡ true
    reflexive = (bytes_eq-Decides new.text x.text).1 (sym same)

    go : (b : Bool) → bytes_eq y.text new.text ≡ b → cond b (Some y) (found_item new.text ys) ≡ Some x → (found_item new.text ys ≡ Some x → put_over x (put_item new ys) ≡ ys)
        → put_over x (cond b (new ∷ ys) (y ∷ put_item new ys)) ≡ y ∷ ys
    go true is found rest =
        let one : y ≡ x = cc in
        ap (λ b. cond b (x ∷ ys) (new ∷ put_over x ys)) reflexive ∙ ap (λ (i : Item). i ∷ ys) (sym one)
    go false is found rest =
        ap (λ b. cond b (x ∷ put_item new ys) (y ∷ put_over x (put_item new ys))) (ap (bytes_eq y.text) same ∙ is)
        ∙ ap (λ (zs : List Item). y ∷ zs) (rest found)

length_put : (new : Item) (items : List Item) → length items ≤ length (put_item new items)
length_put new [] = omega arith
length_put new (y ∷ ys) = go (bytes_eq y.text new.text) (length_put new ys)
  where
    go : (b : Bool) → length ys ≤ length (put_item new ys) → suc (length ys) ≤ length (cond b (new ∷ ys) (y ∷ put_item new ys))
    go true le = omega arith
    go false le = omega (arith, le)

none_has : (t : Text) (items : List Item) → found_item t items ≡ None → has_text items t ≡ false
none_has t items none = sym (found_has t items) ∙ ap is_some none

undoes_more : (new : Item) (before : ℕ) (xs items original : List Item) (old : Option Item) → old ≡ found_item new.text items
    → Undoes (record { before = before; replaced = xs }) items original → Undoes (record { before = before; replaced = xs ++ option_to_list old }) (put_item new items) original
undoes_more new before xs items original (Some x) found u =
    let text = found_text new.text items x (sym found) in
    record {
      back =
          ap (take before) (restored_push xs x (put_item new items) ∙ ap (restored xs) (put_back new items x text (sym found)))
          ∙ u.back;
      grown = omega (arith, u.grown, length_put new items);
      there = all_push _ xs x (all_put new items xs u.there)
          (has_put new items x.text (ap (has_text items) text ∙ sym (found_has new.text items) ∙ ap is_some (sym found)));
    }
undoes_more new before xs items original None found u =
    let last = put_differs new items (none_has new.text items (sym found)) in
    record {
      back =
          ap (take before) (append_nothing xs (put_item new items) ∙ ap (restored xs) last ∙ restored_grown xs new items u.there)
          ∙ take_grown before (restored xs items) new (subst (λ n. before ≤ n) (sym (length_restored xs items)) u.grown)
          ∙ u.back;
      grown = omega (arith, u.grown, length_put new items);
      there = subst (λ (ys : List Item). AllByRecursion (λ x. has_text (put_item new items) x.text ≡ true) ys) (sym (nothing_more xs)) (all_put new items xs u.there);
    }
  where
    nothing_more : (ys : List Item) → ys ++ [] ≡ ys
    nothing_more [] = refl
    nothing_more (y ∷ ys) = ap (λ (zs : List Item). y ∷ zs) (nothing_more ys)

    append_nothing : (ys us : List Item) → restored (ys ++ []) us ≡ restored ys us
    append_nothing ys us = ap (λ (zs : List Item). restored zs us) (nothing_more ys)

-- what takes additions back takes one more back
pub one_more_undone : (u left : Undo) (new : Item) (items original : List Item) (old : Option Item) → old ≡ found_item new.text items → left ≡ record { before = u.before; replaced = u.replaced ++ option_to_list old }
    → Undoes u items original → Undoes left (put_item new items) original
one_more_undone u left new items original old found same undoes =
    subst (λ (v : Undo). Undoes v (put_item new items) original) (sym same) (undoes_more new u.before u.replaced items original old found undoes)

pub none_undone : (items : List Item) → Undoes (record { before = length items; replaced = [] }) items items
none_undone items = record { back = take_all items; grown = omega arith; there = tt }
  where
    take_all : (xs : List Item) → take (length xs) xs ≡ xs
    take_all [] = refl
    take_all (x ∷ xs) = ap (λ (ys : List Item). x ∷ ys) (take_all xs)

-- ---- what is kept to take one more back

abbrev pub undo_of : ℕ → List Item → Undo
undo_of before xs = record { before = before; replaced = xs }

pub kept_one : (before : ℕ) (xs ys : List Item) (x : Item) (u : Undo) → undo_of before xs ≡ u → ys ≡ xs ++ x ∷ [] → undo_of before ys ≡ record { before = u.before; replaced = u.replaced ++ option_to_list (Some x) }
kept_one before xs ys x u view more =
    ap (undo_of before) more ∙ ap (λ (v : Undo). undo_of v.before (v.replaced ++ x ∷ [])) view

pub kept_none : (before : ℕ) (xs ys : List Item) (u : Undo) → undo_of before xs ≡ u → ys ≡ xs → undo_of before ys ≡ record { before = u.before; replaced = u.replaced ++ option_to_list None }
kept_none before xs ys u view same =
    ap (undo_of before) (same ∙ sym (nothing xs)) ∙ ap (λ (v : Undo). undo_of v.before (v.replaced ++ [])) view
  where
    nothing : (zs : List Item) → zs ++ [] ≡ zs
    nothing [] = refl
    nothing (z ∷ zs) = ap (λ (ws : List Item). z ∷ ws) (nothing zs)
