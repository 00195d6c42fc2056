-- Objects with their words, one after the other.
use Rattle.std.proofs.Common.{◌≡◌, ℕ, zero, suc, ◌+◌, ◌<◌, ◌≤◌, Bool, true, false, cond, ◌||◌, List, [], ◌∷◌, ◌++◌, map, length, drop, get_or, Option, Some, None, refl, sym, ap, ◌∙◌, subst, append_assoc, arith}
use Rattle.std.specs.Prelude.{is_some, slice_get}
use Rattle.std.proofs.lemmas.List.{append-nil, map-append}
use Rattle.std.proofs.Math.Seq.{take-append_seam}
use Rattle.ob_object.specs.declared.kind.Kind.{Kind}
use Rattle.ob_object.specs.declared.head.Head.{Head}
use Rattle.ob_object.specs.Kinds.{has_of}
use Rattle.ob_object.specs.Object.{Object, Objects, none, node, listed, in_row, children, listed-in_row, in_row-listed}
use Rattle.ob_object.specs.WellFormed.{NamesDiffer, is_taken, has_name, named, with_child}
use Rattle.ob_contracts.specs.Inherit.{Contracts, Words, sources, overridden, inherited_head, implied_by, missing, only_if, or_else}
use Rattle.ob_contracts.proofs.Distinct.{free_at, differ_map}
use Rattle.ob_site_rules.specs.Roles.{thin, worded_row, worded}
use Rattle.ob_roles.specs.Few.{briefly, brief}
use Rattle.ob_roles.specs.Worded.{with_more, worded_at}
use Rattle.ob_roles.proofs.Brief.{row_brief, same_brief}
use Rattle.ob_hrefs.proofs.Rows.{row_more, row_past}
use Rattle.ob_roles.proofs.Named.{taken_first, Same}
use Rattle.ob_roles.proofs.InPlace.{TellFew, gives_few}

if_of : (k : Kind) (o : Option Words) → only_if (has_of k) (only_if (has_of k) o) ≡ only_if (has_of k) o
if_of k o = go (has_of k)
  where
    go : (b : Bool) → only_if b (only_if b o) ≡ only_if b o
    go true = refl
    go false = refl

-- the words that a list or a feed gives are given only by one
pub gives_once : (h : Head) (ss : List Object) (gives : Option Words) → gives ≡ implied_by (inherited_head h ss) → only_if (has_of h.kind) gives ≡ implied_by (inherited_head h ss)
gives_once h ss gives e = ap (only_if (has_of h.kind)) e ∙ if_of h.kind (inherited_head h ss).of

-- the words that an object gives to its children
abbrev pub gives_of : Contracts → Head → Option Words → Option Object → Option Words
gives_of lib h implied over = implied_by (inherited_head h (sources lib h implied over))

pub gives_are : (whole lib : Contracts) (x : Object) (h : Head) (implied gives : Option Words) (o : Option Object) (fs : List Object) → h ≡ x.head → gives ≡ implied_by (inherited_head h fs) → TellFew whole fs (sources lib x.head implied o)
    → gives ≡ gives_of lib x.head implied o
gives_are whole lib x h implied gives o fs same e like =
    e ∙ ap (λ k. implied_by (inherited_head k fs)) same ∙ gives_few whole x.head fs (sources lib x.head implied o) like

-- its head, with nothing but words
pub head_is : (lib : Contracts) (x : Object) (made : Head) (implied ws gives : Option Words) (o : Option Object) → gives ≡ gives_of lib x.head implied o → made ≡ thin x.head ws (only_if (has_of x.head.kind) gives)
    → made ≡ thin x.head ws (gives_of lib x.head implied o)
head_is lib x made implied ws gives o e is = is ∙ ap (thin x.head ws) (gives_once x.head (sources lib x.head implied o) gives e)

pub object_is : (o : Object) (h : Head) (cs : List Object) → o.head ≡ h → children o ≡ cs → o ≡ record { head = h; inner = in_row cs }
object_is o h cs e f =
    ap (λ (r : Objects). let x : Object = record { head = o.head; inner = r } in x) (sym (in_row-listed o.inner) ∙ ap in_row f)
    ∙ ap (λ (k : Head). let x : Object = record { head = k; inner = in_row cs } in x) e

module _ (lib : Contracts) (implied : Option Words) (above : List Object) where
  -- the names of a row stay
  pub row_same : (r : Objects) → Same (listed r) (listed (worded_row lib implied above r))
  row_same none = λ n. refl
  row_same (node h inner rest) = λ n.
      taken_first n (record { head = h; inner = inner }) (listed rest) ∙ ap (λ b. has_name n h.name || b) (row_same rest n)
      ∙ sym (taken_first n (worded_at lib implied (overridden h.name above) (record { head = h; inner = inner })) (listed (worded_row lib implied above rest)))

  row_free : (n : Option (List ℕ)) (r : Objects) → is_taken n (listed r) ≡ false → is_taken n (listed (worded_row lib implied above r)) ≡ false
  row_free None r h = refl
  row_free (Some n) r h = sym (row_same r n) ∙ h

  row_differ : (r : Objects) → NamesDiffer (listed r) → NamesDiffer (listed (worded_row lib implied above r))
  row_differ none d = d
  row_differ (node h inner rest) d = (row_free h.name rest d.0, row_differ rest d.1)

module _ (whole lib : Contracts) (implied : Option Words) (above : List Object) where
  -- a row with few words at each part
  abbrev pub few_row : Objects → List Object
  few_row r = map (brief whole) (listed (worded_row lib implied above r))

  pub few_same : (r : Objects) → Same (listed r) (few_row r)
  few_same r = λ n. row_same lib implied above r n ∙ same_brief whole (listed (worded_row lib implied above r)) n

  -- what is made so far of a row, and what is left of it, is the row
  abbrev pub Rows : List Object → ℕ → List Object → Type 0
  Rows all i made = made ++ few_row (in_row (drop i all)) ≡ few_row (in_row all)

  row_next : (all : List Object) (i : ℕ) (x : Object) → i < length all → x ≡ get_or all i x
      → few_row (in_row (drop i all)) ≡ brief whole (worded_at lib implied (overridden x.head.name above) x) ∷ few_row (in_row (drop (i + 1) all))
  row_next all i x h is = ap few_row (row_more all i x h is)

  at_seam : (xs : List Object) (o : Object) (os : List Object) → Some o ≡ slice_get (xs ++ o ∷ os) (length xs)
  at_seam [] o os = refl
  at_seam (x ∷ xs) o os = at_seam xs o os

  -- the next one has a new name
  next_free : (all made : List Object) (i : ℕ) (x one : Object) → NamesDiffer all → i < length all → x ≡ get_or all i x → one ≡ brief whole (worded_at lib implied (overridden x.head.name above) x) → Rows all i made → is_taken one.head.name made ≡ false
  next_free all made i x one d h is which p =
      let rest = few_row (in_row (drop (i + 1) all)) in
      let o = brief whole (worded_at lib implied (overridden x.head.name above) x) in
      let there : made ++ o ∷ rest ≡ few_row (in_row all) = ap (λ l. made ++ l) (sym (row_next all i x h is)) ∙ p in
      let differ : NamesDiffer (made ++ o ∷ rest) = subst NamesDiffer (sym there)
      (differ_map (brief whole) (λ x. refl) (listed (worded_row lib implied above (in_row all))) (row_differ lib implied above (in_row all) (subst NamesDiffer (sym (listed-in_row all)) d))) in
      subst (λ (z : Object). is_taken z.head.name made ≡ false) (sym which)
      (subst (λ (l : List Object). is_taken o.head.name l ≡ false) (take-append_seam made (o ∷ rest)) (free_at (made ++ o ∷ rest) (length made) o differ (at_seam made o rest)))

  pub rows_more : (all : List Object) (i : ℕ) (x one cur new : Object) → NamesDiffer all → i < length all → x ≡ get_or all i x → one ≡ brief whole (worded_at lib implied (overridden x.head.name above) x)
      → new ≡ cond (is_taken one.head.name (children cur)) cur (with_child cur one) → Rows all i (children cur) → Rows all (i + 1) (children new) × (new.head ≡ cur.head)
  rows_more all i x one cur new d h is which put p =
      let free = next_free all (children cur) i x one d h is which p in
      let pushed : new ≡ with_child cur one = put ∙ ap (λ b. cond b cur (with_child cur one)) free in
      let kids : children new ≡ children cur ++ one ∷ [] = ap children pushed ∙ listed-in_row (children cur ++ one ∷ []) in
      let rest = few_row (in_row (drop (i + 1) all)) in (
        ap (λ l. l ++ rest) kids ∙ append_assoc (children cur) (one ∷ []) rest ∙ ap (λ z. children cur ++ z ∷ rest) which
            ∙ ap (λ l. children cur ++ l) (sym (row_next all i x h is)) ∙ p,
        ap (λ (o : Object). o.head) pushed,
      )

  pub rows_first : (all made : List Object) → made ≡ [] → Rows all 0 made
  rows_first all made e = ap (λ l. l ++ few_row (in_row all)) e

  pub rows_all : (all made : List Object) (i : ℕ) → length all ≤ i → Rows all i made → made ≡ few_row (in_row all)
  rows_all all made i h p = sym (append-nil made) ∙ ap (λ r. made ++ few_row r) (sym (row_past all i h)) ∙ p

-- what is made of an object's own children and of what is missing is the object with few words at each part
pub whole_is : (whole lib : Contracts) (x made : Object) (ws implied : Option Words) (o : Option Object) (fs : List Object) → TellFew whole fs (sources lib x.head implied o) → made.head ≡ thin x.head ws (gives_of lib x.head implied o)
    → children made ≡ few_row whole lib (gives_of lib x.head implied o) (sources lib x.head implied o) x.inner ++ missing (children x) fs → made ≡ briefly whole ws (worded_at lib implied o x)
whole_is whole lib x made ws implied o fs like e f =
    let from = sources lib x.head implied o in
    let g = gives_of lib x.head implied o in
    let own = listed (worded_row lib g from x.inner) in
    let all : few_row whole lib g from x.inner ++ missing (children x) fs ≡ map (brief whole) (own ++ missing (children x) from) =
    ap (λ l. few_row whole lib g from x.inner ++ l) (like.lacks (children x)) ∙ sym (map-append (brief whole) own (missing (children x) from)) in
    object_is made (thin x.head ws g) (map (brief whole) (own ++ missing (children x) from)) e (f ∙ all)
    ∙ ap (λ (r : Objects). let y : Object = record { head = thin x.head ws g; inner = r } in y) (sym (row_brief whole (own ++ missing (children x) from)))

-- a contract by itself overrides nothing
pub worded_is : (lib : Contracts) (o : Object) → worded lib o ≡ worded_at lib None None o
worded_is lib o = ap (λ (p : Option Object). worded_at lib None p o) (no_over o.head.name)
  where
    no_over : (n : Option (List ℕ)) → overridden n [] ≡ None
    no_over None = refl
    no_over (Some n) = refl

no_other : (ws : Option Words) → or_else ws None ≡ ws
no_other None = refl
no_other (Some ws) = refl

-- a contract keeps its own words
pub contract_is : (whole lib : Contracts) (o : Object) → briefly whole o.head.is (worded_at lib None None o) ≡ briefly whole (worded lib o).head.is (worded lib o)
contract_is whole lib o =
    ap (λ (ws : Option Words). briefly whole ws (worded_at lib None None o)) (sym (no_other o.head.is))
    ∙ ap (λ (x : Object). briefly whole x.head.is x) (sym (worded_is lib o))
