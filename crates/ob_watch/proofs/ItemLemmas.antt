-- A map from the texts of hrefs to items, as the list of the items.
use Rattle.std.proofs.Common.{◌≡◌, ℕ, zero, suc, Bool, true, false, cond, not, ◌||◌, List, [], ◌∷◌, ◌++◌, map, length, take, refl, sym, ap, subst, ◌∙◌}
use Rattle.std.specs.Prelude.{Option, Some, None, is_some, string_bytes, string_eq, String, if◌then◌else◌}
use Rattle.std.specs.List.{AllByRecursion, IsDistinct, filter}
use Rattle.std.specs.Str.{bytes_eq}
use Rattle.std.specs.declared.alloc.Global.{Global}
use Rattle.std.specs.Map.{lookup, set_value, keys_of}
use Rattle.std.specs.Map.Calls.{RetainsPairs}
use Rattle.std.proofs.lemmas.Slice.Eq.{bytes_eq-Decides}
use Rattle.std.proofs.lemmas.Map.Keys.{IsDistinct-head, IsDistinct-tail}
use Rattle.indexmap.specs.IndexMap.{insert_entry}
use Rattle.indexmap.proofs.CallerLemmas.{filter-RetainsPairs}
use Rattle.ob_values.proofs.Bools.{bool_same}
use Rattle.ob_watch.specs.declared.item.Tracked.{Tracked}
use Rattle.ob_watch.specs.declared.item.Item.{Item}
use Rattle.ob_watch.specs.Held.{Entries, items_of, StandUnderOwn}
use Rattle.ob_watch.specs.Items.{Text, Differ, among, changed_by, found_item, has_text, put_item, put_over}

-- ---- texts

pub bytes_eq_sym : (a b : Text) → bytes_eq a b ≡ bytes_eq b a
bytes_eq_sym a b =
    bool_same (bytes_eq a b) (bytes_eq b a)
    (λ e. (bytes_eq-Decides b a).1 (sym ((bytes_eq-Decides a b).0 e)))
    (λ e. (bytes_eq-Decides a b).1 (sym ((bytes_eq-Decides b a).0 e)))

-- ---- an insert puts

pub items_insert : (es : Entries) (k : String Global) (v : Item) → StandUnderOwn es → v.text ≡ string_bytes k → items_of (insert_entry string_eq es k v) ≡ put_item v (items_of es)
items_insert [] k v own is = refl
items_insert (e ∷ es) k v own is = go (bytes_eq (string_bytes k) (string_bytes e.0)) refl (items_insert es k v own.1 is)
  where
    test : bytes_eq e.1.text v.text ≡ bytes_eq (string_bytes k) (string_bytes e.0)
    test = ap (λ (t : Text). bytes_eq t v.text) own.0 ∙ ap (bytes_eq (string_bytes e.0)) is ∙ bytes_eq_sym (string_bytes e.0) (string_bytes k)

    go : (b : Bool) → bytes_eq (string_bytes k) (string_bytes e.0) ≡ b → items_of (insert_entry string_eq es k v) ≡ put_item v (items_of es)
        → items_of (if b then (e.0, v) ∷ es else e ∷ insert_entry string_eq es k v) ≡ put_item v (items_of (e ∷ es))
    go true same rest = sym (ap (λ b. cond b (v ∷ items_of es) (e.1 ∷ put_item v (items_of es))) (test ∙ same))
    go false same rest = ap (λ (hs : List Item). e.1 ∷ hs) rest ∙ sym (ap (λ b. cond b (v ∷ items_of es) (e.1 ∷ put_item v (items_of es))) (test ∙ same))

pub own_insert : (es : Entries) (k : String Global) (v : Item) → StandUnderOwn es → v.text ≡ string_bytes k → StandUnderOwn (insert_entry string_eq es k v)
own_insert [] k v own is = (is, tt)
own_insert (e ∷ es) k v own is = go (bytes_eq (string_bytes k) (string_bytes e.0)) refl (own_insert es k v own.1 is)
  where
    go : (b : Bool) → bytes_eq (string_bytes k) (string_bytes e.0) ≡ b → StandUnderOwn (insert_entry string_eq es k v) → StandUnderOwn (if b then (e.0, v) ∷ es else e ∷ insert_entry string_eq es k v)
    go true same rest = (is ∙ (bytes_eq-Decides (string_bytes k) (string_bytes e.0)).0 same, own.1)
    go false same rest = (own.0, rest)

-- ---- what is looked up is what is found

pub items_found : (t : Text) (es : Entries) → StandUnderOwn es → lookup (λ s. bytes_eq t (string_bytes s)) es ≡ found_item t (items_of es)
items_found t [] own = refl
items_found t (e ∷ es) own =
    ap (λ (o : Option Item). cond (bytes_eq t (string_bytes e.0)) (Some e.1) o) (items_found t es own.1)
    ∙ ap (λ b. cond b (Some e.1) (found_item t (items_of es))) (bytes_eq_sym t (string_bytes e.0) ∙ ap (λ (u : Text). bytes_eq u t) (sym own.0))

pub found_has : (t : Text) (items : List Item) → is_some (found_item t items) ≡ has_text items t
found_has t [] = refl
found_has t (x ∷ xs) = go (bytes_eq x.text t) (found_has t xs)
  where
    go : (b : Bool) → is_some (found_item t xs) ≡ has_text xs t → is_some (cond b (Some x) (found_item t xs)) ≡ (b || has_text xs t)
    go true rest = refl
    go false rest = rest

-- ---- an item put in the place of another

pub items_set : (es : Entries) (w : Item) → StandUnderOwn es → items_of (set_value (λ s. bytes_eq w.text (string_bytes s)) es w) ≡ put_over w (items_of es)
items_set [] w own = refl
items_set (e ∷ es) w own = go (bytes_eq w.text (string_bytes e.0)) refl (items_set es w own.1)
  where
    test : bytes_eq e.1.text w.text ≡ bytes_eq w.text (string_bytes e.0)
    test = bytes_eq_sym e.1.text w.text ∙ ap (bytes_eq w.text) own.0

    go : (b : Bool) → bytes_eq w.text (string_bytes e.0) ≡ b → items_of (set_value (λ s. bytes_eq w.text (string_bytes s)) es w) ≡ put_over w (items_of es)
        → items_of (cond b ((e.0, w) ∷ es) (e ∷ set_value (λ s. bytes_eq w.text (string_bytes s)) es w)) ≡ put_over w (items_of (e ∷ es))
    go true same rest = sym (ap (λ b. cond b (w ∷ items_of es) (e.1 ∷ put_over w (items_of es))) (test ∙ same))
    go false same rest = ap (λ (hs : List Item). e.1 ∷ hs) rest ∙ sym (ap (λ b. cond b (w ∷ items_of es) (e.1 ∷ put_over w (items_of es))) (test ∙ same))

pub own_set : (es : Entries) (w : Item) → StandUnderOwn es → StandUnderOwn (set_value (λ s. bytes_eq w.text (string_bytes s)) es w)
own_set [] w own = tt
own_set (e ∷ es) w own = go (bytes_eq w.text (string_bytes e.0)) refl (own_set es w own.1)
  where
    go : (b : Bool) → bytes_eq w.text (string_bytes e.0) ≡ b → StandUnderOwn (set_value (λ s. bytes_eq w.text (string_bytes s)) es w)
        → StandUnderOwn (cond b ((e.0, w) ∷ es) (e ∷ set_value (λ s. bytes_eq w.text (string_bytes s)) es w))
    go true same rest = ((bytes_eq-Decides w.text (string_bytes e.0)).0 same, own.1)
    go false same rest = (own.0, rest)

pub items_set_at : (t : Text) (es : Entries) (w : Item) → t ≡ w.text → StandUnderOwn es → items_of (set_value (λ s. bytes_eq t (string_bytes s)) es w) ≡ put_over w (items_of es)
items_set_at t es w is own = ap (λ (u : Text). items_of (set_value (λ s. bytes_eq u (string_bytes s)) es w)) is ∙ items_set es w own

pub own_set_at : (t : Text) (es : Entries) (w : Item) → t ≡ w.text → StandUnderOwn es → StandUnderOwn (set_value (λ s. bytes_eq t (string_bytes s)) es w)
own_set_at t es w is own = subst (λ (u : Text). StandUnderOwn (set_value (λ s. bytes_eq u (string_bytes s)) es w)) (sym is) (own_set es w own)

-- where none is of that href, nothing is put
pub put_over_nowhere : (w : Item) (items : List Item) → found_item w.text items ≡ None → put_over w items ≡ items
put_over_nowhere w [] none = refl
put_over_nowhere w (x ∷ xs) none = go (bytes_eq x.text w.text) none (put_over_nowhere w xs)
  where
    go : (b : Bool) → cond b (Some x) (found_item w.text xs) ≡ None → (found_item w.text xs ≡ None → put_over w xs ≡ xs) → cond b (w ∷ xs) (x ∷ put_over w xs) ≡ x ∷ xs
    go true none rest = absurd (let e : Some x ≡ None = none in cc)
    go false none rest = ap (λ (ys : List Item). x ∷ ys) (rest none)

-- ---- the first so many

pub own_take : (n : ℕ) (es : Entries) → StandUnderOwn es → StandUnderOwn (take n es)
own_take zero es own = tt
own_take (suc n) [] own = tt
own_take (suc n) (e ∷ es) own = (own.0, own_take n es own.1)

-- ---- what a remove leaves

abbrev stays : List Text → Item → Bool
stays texts i = not (among texts i.text)

abbrev stays_under : List Text → String Global × Item → Bool
stays_under texts e = not (among texts (string_bytes e.0))

pub items_filter : (texts : List Text) (es : Entries) → StandUnderOwn es → items_of (filter (stays_under texts) es) ≡ filter (stays texts) (items_of es)
items_filter texts [] own = refl
items_filter texts (e ∷ es) own = go (stays_under texts e) refl (items_filter texts es own.1)
  where
    go : (b : Bool) → stays_under texts e ≡ b → items_of (filter (stays_under texts) es) ≡ filter (stays texts) (items_of es)
        → items_of (cond b (e ∷ filter (stays_under texts) es) (filter (stays_under texts) es)) ≡ filter (stays texts) (items_of (e ∷ es))
    go true is rest = ap (λ (hs : List Item). e.1 ∷ hs) rest ∙ sym (ap (λ b. cond b (e.1 ∷ filter (stays texts) (items_of es)) (filter (stays texts) (items_of es))) (ap (λ (t : Text). not (among texts t)) own.0 ∙ is))
    go false is rest = rest ∙ sym (ap (λ b. cond b (e.1 ∷ filter (stays texts) (items_of es)) (filter (stays texts) (items_of es))) (ap (λ (t : Text). not (among texts t)) own.0 ∙ is))

own_filter : (texts : List Text) (es : Entries) → StandUnderOwn es → StandUnderOwn (filter (stays_under texts) es)
own_filter texts [] own = tt
own_filter texts (e ∷ es) own = go (stays_under texts e) (own_filter texts es own.1)
  where
    go : (b : Bool) → StandUnderOwn (filter (stays_under texts) es) → StandUnderOwn (cond b (e ∷ filter (stays_under texts) es) (filter (stays_under texts) es))
    go true rest = (own.0, rest)
    go false rest = rest

module _ {F : Type 0} (T : F → String Global → Item → Bool → Item → F → Type 0) (texts : List Text) (f : F)
    (says : (k : String Global) (v : Item) (b : Bool) (w : Item) (g : F) → T f k v b w g → (b ≡ not (among texts (string_bytes k))) × (w ≡ v) × (g ≡ f)) where
  retained : (es kept : Entries) → RetainsPairs T f es kept → kept ≡ filter (stays_under texts) es
  retained es kept h = filter-RetainsPairs T (stays_under texts) f says es kept h

  pub items_retained : (es kept : Entries) → StandUnderOwn es → RetainsPairs T f es kept → items_of kept ≡ filter (stays texts) (items_of es)
  items_retained es kept own h = ap items_of (retained es kept h) ∙ items_filter texts es own

  pub own_retained : (es kept : Entries) → StandUnderOwn es → RetainsPairs T f es kept → StandUnderOwn kept
  own_retained es kept own h = subst StandUnderOwn (sym (retained es kept h)) (own_filter texts es own)

-- ---- a change of each item leaves its text

pub own_changed : (f : Tracked → Tracked) (es : Entries) → StandUnderOwn es → StandUnderOwn (map (λ e. (e.0, changed_by f e.1)) es)
own_changed f [] own = tt
own_changed f (e ∷ es) own = (own.0, own_changed f es own.1)

-- ---- no two have one href

head_differs : (x : String Global × Item) (es : Entries) → x.1.text ≡ string_bytes x.0 → StandUnderOwn es → AllByRecursion (λ k. string_eq x.0 k ≡ false) (keys_of es)
    → AllByRecursion (λ (other : Item). bytes_eq x.1.text other.text ≡ false) (items_of es)
head_differs x [] is own all = tt
head_differs x (e ∷ es) is own all =
    (ap (λ (t : Text). bytes_eq t e.1.text) is ∙ ap (bytes_eq (string_bytes x.0)) own.0 ∙ all.0, head_differs x es is own.1 all.1)

pub items_differ : (es : Entries) → StandUnderOwn es → IsDistinct string_eq (keys_of es) → Differ (items_of es)
items_differ [] own distinct = tt
items_differ (e ∷ es) own distinct =
    (head_differs e es own.0 own.1 (IsDistinct-head string_eq e.0 (keys_of es) distinct), items_differ es own.1 (IsDistinct-tail string_eq e.0 (keys_of es) distinct))

-- an item that differs from those before it goes last
pub put_differs : (x : Item) (items : List Item) → has_text items x.text ≡ false → put_item x items ≡ items ++ x ∷ []
put_differs x [] none = refl
put_differs x (y ∷ ys) none = go (bytes_eq y.text x.text) none (put_differs x ys)
  where
    go : (b : Bool) → (b || has_text ys x.text) ≡ false → (has_text ys x.text ≡ false → put_item x ys ≡ ys ++ x ∷ []) → cond b (x ∷ ys) (y ∷ put_item x ys) ≡ y ∷ (ys ++ x ∷ [])
    go true none rest = absurd (let e : true ≡ false = none in cc)
    go false none rest = ap (λ (zs : List Item). y ∷ zs) (rest none)
