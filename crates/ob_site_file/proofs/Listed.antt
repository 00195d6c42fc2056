-- The items of an own list, one child of a part after the other.
use Rattle.std.proofs.Common.{◌≡◌, ℕ, zero, suc, ◌+◌, ◌-◌, ◌^◌, ◌<◌, ◌≤◌, Bool, true, false, cond, ◌&&◌, List, [], ◌∷◌, ◌++◌, map, length, drop, get_or, Option, Some, None, refl, sym, ap, ◌∙◌, subst, arith, true≢false}
use Rattle.std.specs.Prelude.{min, is_some}
use Rattle.std.specs.List.{flat_map}
use Rattle.std.proofs.lemmas.List.{append-nil}
use Rattle.std.proofs.lemmas.Slice.Eq.{bytes_eq-Decides}
use Rattle.ob_values.proofs.Bools.{and_first}
use Rattle.ob_object.specs.declared.kind.Kind.TheVariants as kind
use Rattle.ob_object.specs.Kinds.{same_kind}
use Rattle.ob_object.specs.Object.{Object, children, count, parts, in_row}
use Rattle.ob_object.specs.WellFormed.{NamesDiffer, is_taken, has_name, named}
use Rattle.ob_site_rules.specs.Build.{Text}
use Rattle.ob_site_rules.specs.Roles.{is_part}
use Rattle.ob_site_rules.specs.Loading.{Part, numbered, items_of}
use Rattle.ob_hrefs.proofs.Rows.{inner_row}
use Rattle.ob_roles.proofs.PartRows.{Numbers, numbers_more, numbers_within}
use Rattle.ob_site_file.specs.Numbers.{IsNumbered}
use Rattle.ob_values.proofs.Lists.{drop_all}
use Rattle.ob_site_file.proofs.Rests.{rest_more}

-- the items of the lists of a name among children from a number on
abbrev pub items_in : Text → ℕ → List Object → List (ℕ × Object)
items_in name n cs = flat_map (λ c. cond (is_part name kind.List c.1.head) (numbered (c.0 + 1) (children c.1)) []) (numbered n cs)

abbrev objects : List (ℕ × Object) → List Object
objects is = map (λ i. i.1) is

numbered_objects : (n : ℕ) (os : List Object) → objects (numbered n os) ≡ os
numbered_objects n [] = refl
numbered_objects n (o ∷ os) = ap (λ l. o ∷ l) (numbered_objects (n + parts o) os)

first_name : (name : Text) (c : Object) (cs : List Object) → is_taken (Some name) (c ∷ cs) ≡ false → (has_name name c.head.name ≡ false) × (is_taken (Some name) cs ≡ false)
first_name name c cs free = go (has_name name c.head.name) free
  where
    go : (b : Bool) → is_some (cond b (Some c) (named name cs)) ≡ false → (b ≡ false) × (is_taken (Some name) cs ≡ false)
    go true h = absurd (true≢false h)
    go false h = (refl, h)

none_named : (name : Text) (n : ℕ) (cs : List Object) → is_taken (Some name) cs ≡ false → items_in name n cs ≡ []
none_named name n [] free = refl
none_named name n (c ∷ cs) free =
    let both = first_name name c cs free in
    ap (λ b. cond (b && same_kind c.head.kind kind.List) (numbered (n + 1) (children c)) [] ++ items_in name (n + parts c) cs) both.0
    ∙ none_named name (n + parts c) cs both.1

name_is : (name : Text) (n : Option Text) → has_name name n ≡ true → n ≡ Some name
name_is name None h = absurd (true≢false (sym h))
name_is name (Some m) h = ap Some ((bytes_eq-Decides m name).0 h)

differ_rest : (cs : List Object) (i : ℕ) → NamesDiffer cs → NamesDiffer (drop i cs)
differ_rest cs zero d = d
differ_rest [] (suc i) d = d
differ_rest (c ∷ cs) (suc i) d = differ_rest cs i d.1

at_list : (name : Text) (n : ℕ) (x : Object) (cs : List Object) → NamesDiffer (x ∷ cs) → is_part name kind.List x.head ≡ true → items_in name n (x ∷ cs) ≡ numbered (n + 1) (children x)
at_list name n x cs d is =
    let named = name_is name x.head.name (and_first (has_name name x.head.name) (same_kind x.head.kind kind.List) is) in
    let free : is_taken (Some name) cs ≡ false = subst (λ (m : Option Text). is_taken m cs ≡ false) named d.0 in
    ap (λ b. cond b (numbered (n + 1) (children x)) [] ++ items_in name (n + parts x) cs) is
    ∙ ap (λ l. numbered (n + 1) (children x) ++ l) (none_named name (n + parts x) cs free)
    ∙ append-nil (numbered (n + 1) (children x))

at_other : (name : Text) (n : ℕ) (x : Object) (cs : List Object) → is_part name kind.List x.head ≡ false → items_in name n (x ∷ cs) ≡ items_in name (n + parts x) cs
at_other name n x cs is = ap (λ b. cond b (numbered (n + 1) (children x)) [] ++ items_in name (n + parts x) cs) is

-- The items that are left are those of the part. The number is exact, or the greatest of 64 bits.
pub record ItemsLeft (name : Text) (p : Part) (all : List Object) (i : ℕ) (number : ℕ) : Type 0 where
  pub at : ℕ
  pub same : items_in name at (drop i all) ≡ items_of name p
  pub is : number ≡ min at (2 ^ 64 - 1)
  pub numbers : Numbers (p.number + 1) at all i

-- what is found: the items, which have these numbers where those of the part fit
pub record IsFound (name : Text) (p : Part) (number : ℕ) (os : List Object) : Type 0 where
  pub objects : os ≡ map (λ i. i.1) (items_of name p)
  pub items : IsNumbered p → numbered number os ≡ items_of name p
  pub within : IsNumbered p → number + count (in_row os) < 2 ^ 64

pub items_first : (name : Text) (p : Part) (all : List Object) (number : ℕ) → all ≡ children p.own → number ≡ min (p.number + 1) (2 ^ 64 - 1) → ItemsLeft name p all 0 number
items_first name p all number e is = record { at = p.number + 1; same = ap (items_in name (p.number + 1)) e; is = is; numbers = refl }

pub items_more : (name : Text) (p : Part) (all : List Object) (i number next : ℕ) (x : Object) → i < length all → x ≡ get_or all i x → is_part name kind.List x.head ≡ false
    → next ≡ min (number + min (parts x) (2 ^ 64 - 1)) (2 ^ 64 - 1) → ItemsLeft name p all i number → ItemsLeft name p all (i + 1) next
items_more name p all i number next x h is other step l =
    let held : number ≡ min l.at (2 ^ 64 - 1) = l.is in
    record {
      at = l.at + parts x;
      same = sym (ap (items_in name l.at) (rest_more all i x h is) ∙ at_other name l.at x (drop (i + 1) all) other) ∙ l.same;
      is = omega (arith, held, step);
      numbers = numbers_more (p.number + 1) l.at all i x h is l.numbers;
    }

pub items_found : (name : Text) (p : Part) (all : List Object) (i number first : ℕ) (x : Object) (os : List Object) → NamesDiffer all → all ≡ children p.own → i < length all → x ≡ get_or all i x → is_part name kind.List x.head ≡ true
    → first ≡ min (number + 1) (2 ^ 64 - 1) → os ≡ children x → ItemsLeft name p all i number → IsFound name p first os
items_found name p all i number first x os d row h is list step inner l =
    let rest : drop i all ≡ x ∷ drop (i + 1) all = rest_more all i x h is in
    let whole : numbered (l.at + 1) (children x) ≡ items_of name p =
    sym (ap (items_in name l.at) rest ∙ at_list name l.at x (drop (i + 1) all) (subst NamesDiffer rest (differ_rest all i d)) list) ∙ l.same in
    let held : number ≡ min l.at (2 ^ 64 - 1) = l.is in
    let within : l.at + count x.inner + 1 ≤ p.number + 1 + count (in_row all) = numbers_within (p.number + 1) l.at all i x h is l.numbers in
    let fits : in_row all ≡ p.own.inner = inner_row p.own all row in
    let counted : count (in_row all) ≡ count p.own.inner = ap count fits in
    let same : count (in_row os) ≡ count x.inner = ap count (inner_row x os inner) in
    record {
      objects = inner ∙ sym (numbered_objects (l.at + 1) (children x)) ∙ ap (map (λ i. i.1)) whole;
      items = λ n. let e : first ≡ l.at + 1 = exact first number l.at (count x.inner) p.number (count p.own.inner) step held (omega (arith, within, counted)) n in
          ap (λ m. numbered m os) e ∙ ap (numbered (l.at + 1)) inner ∙ whole;
      within = λ n. let e : first ≡ l.at + 1 = exact first number l.at (count x.inner) p.number (count p.own.inner) step held (omega (arith, within, counted)) n in
          below first l.at (count (in_row os)) (count x.inner) p.number (count p.own.inner) e same (omega (arith, within, counted)) n;
    }
  where
    exact : (first number at inner n all : ℕ) → first ≡ min (number + 1) (2 ^ 64 - 1) → number ≡ min at (2 ^ 64 - 1) → at + inner + 1 ≤ n + 1 + all → n + (all + 1) < 2 ^ 64 → first ≡ at + 1
    exact first number at inner n all e f w h = omega arith

    below : (first at os inner n all : ℕ) → first ≡ at + 1 → os ≡ inner → at + inner + 1 ≤ n + 1 + all → n + (all + 1) < 2 ^ 64 → first + os < 2 ^ 64
    below first at os inner n all e f w h = omega arith

pub items_none : (name : Text) (p : Part) (all : List Object) (i number : ℕ) → length all ≤ i → number < 2 ^ 64 → ItemsLeft name p all i number → IsFound name p number []
items_none name p all i number h fits l =
    let none : [] ≡ items_of name p = sym (ap (items_in name l.at) (drop_all all i h)) ∙ l.same in
    record { objects = ap (map (λ i. i.1)) none; items = λ n. none; within = λ n. omega (arith, fits) }
