-- Walks over objects side by side, with their numbers.
use Rattle.std.proofs.Common.{◌≡◌, ℕ, ◌+◌, ◌<◌, ◌≤◌, zero, suc, List, [], ◌∷◌, ◌++◌, length, take, drop, get_or, Option, Some, None, refl, ap, sym, ◌∙◌, drop-cons, add-one, Bool, true, false, find}
use Rattle.std.specs.Prelude.{slice_get}
use Rattle.std.proofs.lemmas.List.{take_more}
use Rattle.ob_values.proofs.Lists.{drop_all}
use Rattle.ob_object.specs.Object.{Object, parts}
use Rattle.ob_object.specs.WellFormed.{has_name}
use Rattle.ob_parts.specs.Numbered.{Part, plus, numbered_from}
use Rattle.ob_parts.specs.Offences.{each}
use Rattle.ob_parts.specs.declared.offence.Offence.{Offence}
use Rattle.ob_parts.specs.Least.{earlier, least}
use Rattle.ob_parts.proofs.Earliest.{least_append, earlier_assoc, earlier_none}

some_one : {A : Type 0} (a b : A) → Some a ≡ Some b → a ≡ b
some_one a b e = cc

-- the object at a place, by an index
pub got : {A : Type 0} (xs : List A) (k : ℕ) (x : A) → slice_get xs k ≡ Some x → get_or xs k x ≡ x
got [] k x e = absurd (let f : None ≡ Some x = e in cc)
got (y ∷ ys) zero x e = some_one y x e
got (y ∷ ys) (suc k) x e = got ys k x e

-- the rest of the objects from a place on
pub ahead : (xs : List Object) (k : ℕ) (x : Object) → k < length xs → x ≡ get_or xs k x → drop k xs ≡ x ∷ drop (k + 1) xs
ahead xs k x h is = drop-cons xs k x h ∙ (ap (λ (n : ℕ). get_or xs k x ∷ drop n xs) (sym (add-one k)) ∙ ap (λ y. y ∷ drop (k + 1) xs) (sym is))

pub taken : (xs : List Object) (k : ℕ) (x : Object) → k < length xs → x ≡ get_or xs k x → take (k + 1) xs ≡ take k xs ++ x ∷ []
taken xs k x h is = take_more xs k x h ∙ ap (λ y. take k xs ++ y ∷ []) (sym is)

abbrev pub named_part : List ℕ → Part → Bool
named_part name c = has_name name c.object.head.name

skip : (name : List ℕ) (p : Part) (ps : List Part) → named_part name p ≡ false → find (named_part name) (p ∷ ps) ≡ find (named_part name) ps
skip name p ps e = rw e refl

stop : (name : List ℕ) (p : Part) (ps : List Part) → named_part name p ≡ true → find (named_part name) (p ∷ ps) ≡ Some p
stop name p ps e = rw e refl

-- the object at a place has another name
pub passed : (name : List ℕ) (n : ℕ) (xs : List Object) (k : ℕ) (x : Object) → k < length xs → x ≡ get_or xs k x → has_name name x.head.name ≡ false
    → find (named_part name) (numbered_from n (drop k xs)) ≡ find (named_part name) (numbered_from (plus n (parts x)) (drop (k + 1) xs))
passed name n xs k x h is other =
    ap (λ l. find (named_part name) (numbered_from n l)) (ahead xs k x h is)
    ∙ skip name (record { number = n; object = x }) (numbered_from (plus n (parts x)) (drop (k + 1) xs)) other

-- the object at a place has the name
pub found : (name : List ℕ) (n : ℕ) (xs : List Object) (k : ℕ) (x : Object) → k < length xs → x ≡ get_or xs k x → has_name name x.head.name ≡ true
    → find (named_part name) (numbered_from n (drop k xs)) ≡ Some (record { number = n; object = x })
found name n xs k x h is same =
    ap (λ l. find (named_part name) (numbered_from n l)) (ahead xs k x h is)
    ∙ stop name (record { number = n; object = x }) (numbered_from (plus n (parts x)) (drop (k + 1) xs)) same

-- none has it
pub none_found : (name : List ℕ) (n : ℕ) (xs : List Object) (k : ℕ) → length xs ≤ k → find (named_part name) (numbered_from n (drop k xs)) ≡ None
none_found name n xs k h = ap (λ l. find (named_part name) (numbered_from n l)) (drop_all xs k h)

-- one more object is judged
pub walk_more : {R : Type 0} (judge : List Object → Part → List (Offence R)) (first : Option (Offence R)) (n : ℕ) (xs : List Object) (k : ℕ) (x : Object) → k < length xs → x ≡ get_or xs k x
    → earlier (earlier first (least (judge (take k xs) (record { number = n; object = x })))) (least (each judge (take (k + 1) xs) (numbered_from (plus n (parts x)) (drop (k + 1) xs))))
    ≡ earlier first (least (each judge (take k xs) (numbered_from n (drop k xs))))
walk_more judge first n xs k x h is =
    let b = take k xs in
    let p : Part = record { number = n; object = x } in
    let ps = numbered_from (plus n (parts x)) (drop (k + 1) xs) in
    earlier_assoc first (least (judge b p)) (least (each judge (take (k + 1) xs) ps))
    ∙ ap (earlier first) (ap (λ c. earlier (least (judge b p)) (least (each judge c ps))) (taken xs k x h is)
    ∙ (sym (least_append (judge b p) (each judge (b ++ x ∷ []) ps))
    ∙ sym (ap (λ l. least (each judge b (numbered_from n l))) (ahead xs k x h is))))

-- all are judged
pub walk_end : {R : Type 0} (judge : List Object → Part → List (Offence R)) (first : Option (Offence R)) (n : ℕ) (xs : List Object) (k : ℕ) → length xs ≤ k
    → earlier first (least (each judge (take k xs) (numbered_from n (drop k xs)))) ≡ first
walk_end judge first n xs k h = ap (λ l. earlier first (least (each judge (take k xs) (numbered_from n l)))) (drop_all xs k h) ∙ earlier_none first
