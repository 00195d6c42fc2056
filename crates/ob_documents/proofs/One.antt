-- No bytes spell two documents.
use Rattle.std.proofs.Common.{◌≡◌, ℕ, suc, Bool, true, false, ◌⊎◌, inl, inr, List, [], ◌∷◌, ◌++◌, Option, Some, None, Result, Ok, refl, sym, ap, ◌∙◌, subst, append_assoc}
use Rattle.std.specs.Prelude.{codes}
use Rattle.ob_values.specs.Faults.{ValueFault}
use Rattle.ob_scan.specs.declared.piece.Place.{Place}
use Rattle.ob_scan.specs.declared.piece.Place.TheVariants as places
use Rattle.ob_scan.specs.Constructs.{Construct, opening, attribute, tag_end, empty_end, closing, skipped, ending, mark, declares, found, scan}
use Rattle.ob_object.specs.declared.kind.Kind.{Kind}
use Rattle.ob_object.specs.declared.kind.Kind.TheVariants as kind
use Rattle.ob_object.specs.declared.head.Head.{Head}
use Rattle.ob_object.specs.Object.{Objects, none, node, Object, empty_head}
use Rattle.ob_encoding.specs.declared.field.Field.{Field}
use Rattle.ob_encoding.specs.declared.part.Part.{Part}
use Rattle.ob_encoding.specs.Kinds.{same, kind_of}
use Rattle.ob_encoding.specs.Fields.{known}
use Rattle.ob_encoding.specs.Parts.{ReadsPart, put_part}
use Rattle.ob_encoding.specs.Names.{kind_name}
use Rattle.ob_xml.proofs.Unique.{OneText}
use Rattle.ob_documents.specs.Attributes.{Says, Tells, Tell, Describe, NamespaceBy, NamespaceIs}
use Rattle.ob_documents.specs.Grammar.{attributes_of, name_of, Element, empty, full, Content, nothing, pause, child, IsMark, AreSkipped}
use Rattle.ob_documents.specs.Spelling.{place_behind, Cuts, none as no_more, some, Spells}

abbrev pub OnePart : Type 0
OnePart = (k : Kind) (f : Field) (text : List ℕ) (a b : Result Part ValueFault) → ReadsPart k f text a → ReadsPart k f text b → a ≡ b

-- ---- what attributes say

pub ok_one : (p q : Part) (r s : Result Part ValueFault) → r ≡ Ok p → s ≡ Ok q → r ≡ s → p ≡ q
ok_one p q r s a b c = cc

says_one : OnePart → (o : Option Field) (k : Kind) (text : List ℕ) (before a b : Head) → Says o k text before a → Says o k text before b → a ≡ b
says_one one None k text before a b p q = p ∙ sym q
says_one one (Some f) k text before a b p q =
    let same_part : p.0 ≡ q.0 = ok_one p.0 q.0 (Ok p.0) (Ok q.0) refl refl (one k f text (Ok p.0) (Ok q.0) p.1 q.1) in
    p.2 ∙ ap (λ (x : Part). put_part x before) same_part ∙ sym q.2

tells_one : OneText → OnePart → (k : Kind) (x : List ℕ × List ℕ) (before a b : Head) → Tells k x before a → Tells k x before b → a ≡ b
tells_one texts one k x before a b p q =
    let text : p.0 ≡ q.0 = texts x.1 p.0 q.0 p.1 q.1 in
    says_one one (known k x.0) k p.0 before a b p.2 (subst (λ (t : List ℕ). Says (known k x.0) k t before b) (sym text) q.2)

tell_one : OneText → OnePart → (k : Kind) (xs : List (List ℕ × List ℕ)) (before a b : Head) → Tell k xs before a → Tell k xs before b → a ≡ b
tell_one texts one k [] before a b p q = p ∙ sym q
tell_one texts one k (x ∷ xs) before a b p q =
    let between : p.0 ≡ q.0 = tells_one texts one k x before p.0 q.0 p.1 q.1 in
    tell_one texts one k xs p.0 a b p.2 (subst (λ (h : Head). Tell k xs h b) (sym between) q.2)

namespace_by : OneText → (t : Bool) (raw : List ℕ) (a b : Option (List ℕ)) (A B : Type 0) → NamespaceBy t raw a A → NamespaceBy t raw b B → (A → B → a ≡ b) → a ≡ b
namespace_by texts true raw a b A B p q next = p.2 ∙ ap (λ (t : List ℕ). Some t) (texts raw p.0 q.0 p.1 q.1) ∙ sym q.2
namespace_by texts false raw a b A B p q next = next p q

namespace_one : OneText → (xs : List (List ℕ × List ℕ)) (a b : Option (List ℕ)) → NamespaceIs xs a → NamespaceIs xs b → a ≡ b
namespace_one texts [] a b p q = p ∙ sym q
namespace_one texts (x ∷ xs) a b p q = namespace_by texts (same x.0 (codes "xmlns")) x.1 a b (NamespaceIs xs a) (NamespaceIs xs b) p q (λ r s. namespace_one texts xs a b r s)

-- ---- kinds by their names

pub kind_back : (k : Kind) → kind_of (kind_name k) ≡ Some k
unfolding kind_of
kind_back kind.Obj = refl
kind_back kind.Bool = refl
kind_back kind.Int = refl
kind_back kind.Real = refl
kind_back kind.Str = refl
kind_back kind.Enum = refl
kind_back kind.Uri = refl
kind_back kind.Abstime = refl
kind_back kind.Reltime = refl
kind_back kind.Date = refl
kind_back kind.Time = refl
kind_back kind.List = refl
kind_back kind.Op = refl
kind_back kind.Feed = refl
kind_back kind.Ref = refl
kind_back kind.Err = refl

some_kind : (k l : Kind) (a b : Option Kind) → a ≡ Some k → b ≡ Some l → a ≡ b → k ≡ l
some_kind k l a b p q e = cc

kind_one : (k l : Kind) → kind_name k ≡ kind_name l → k ≡ l
kind_one k l e = some_kind k l (kind_of (kind_name k)) (kind_of (kind_name l)) (kind_back k) (kind_back l) (ap kind_of e)

-- attributes of tags of one kind describe one head
head_one : OneText → OnePart → (xs ys : List (List ℕ × List ℕ)) (g h : Head) → g.kind ≡ h.kind → xs ≡ ys → Describe xs g → Describe ys h → g ≡ h
head_one texts one xs ys g h k e p q =
    let there : Tell g.kind ys (empty_head g.kind) h = subst (λ (l : Kind). Tell l ys (empty_head l) h) (sym k) q.told in
    let here : Tell g.kind xs (empty_head g.kind) h = subst (λ (zs : List (List ℕ × List ℕ)). Tell g.kind zs (empty_head g.kind) h) (sym e) there in
    tell_one texts one g.kind xs (empty_head g.kind) g h p.told here

-- ---- the constructs of bytes

abbrev IsInner : Place → Type 0
IsInner places.After = ⊥
IsInner places.Start = Unit {0}
IsInner places.Marked = Unit {0}
IsInner places.Between = Unit {0}
IsInner places.InTag = Unit {0}

behind_inner : (c : Construct) → IsInner (place_behind c)
behind_inner (opening n) = tt
behind_inner (attribute n r) = tt
behind_inner tag_end = tt
behind_inner empty_end = tt
behind_inner (closing n) = tt
behind_inner skipped = tt
behind_inner ending = tt
behind_inner mark = tt

-- no construct stands at the end but behind the element
nothing_there : (place : Place) (c : Construct) (rest : List ℕ) → IsInner place → scan place true [] ≡ found c rest → ⊥
unfolding declares
nothing_there places.After c rest n e = n
nothing_there places.Start c rest n e = absurd cc
nothing_there places.Marked c rest n e = absurd cc
nothing_there places.Between c rest n e = absurd cc
nothing_there places.InTag c rest n e = absurd cc

record SameFound (c d : Construct) (r s : List ℕ) : Type 0 where
  construct_is : c ≡ d
  rest_is : r ≡ s

found_one : (c d : Construct) (r s : List ℕ) → found c r ≡ found d s → SameFound c d r s
found_one c d r s e = record { construct_is = cc; rest_is = cc }

pub cuts_one : (place : Place) (bytes : List ℕ) (cs ds : List Construct) → IsInner place → Cuts place bytes cs → Cuts place bytes ds → cs ≡ ds
cuts_one place bytes cs ds n (no_more p) (no_more q) = refl
cuts_one place bytes cs ds n (no_more p) (some q bs rest d es g k) = absurd (nothing_there p d rest n g)
cuts_one place bytes cs ds n (some p bs rest c es f h) (no_more q) = absurd (nothing_there p c rest n f)
cuts_one place bytes cs ds n (some p bs rest c es f h) (some q bt more d fs g k) =
    let e = found_one c d rest more (sym f ∙ g) in
    let back : Cuts (place_behind c) rest fs = subst (λ (b : Construct). Cuts (place_behind b) rest fs) (sym e.construct_is) (subst (λ (t : List ℕ). Cuts (place_behind d) t fs) (sym e.rest_is) k) in
    ap (λ (b : Construct). b ∷ es) e.construct_is ∙ ap (λ (t : List Construct). d ∷ t) (cuts_one (place_behind c) rest es fs (behind_inner c) h back)

-- ---- the attributes of a tag

abbrev IsOther : Construct → Type 0
IsOther (opening n) = Unit {0}
IsOther (attribute n r) = ⊥
IsOther tag_end = Unit {0}
IsOther empty_end = Unit {0}
IsOther (closing n) = Unit {0}
IsOther skipped = Unit {0}
IsOther ending = Unit {0}
IsOther mark = Unit {0}

record SameTag (xs ys : List (List ℕ × List ℕ)) (c d : Construct) (r s : List Construct) : Type 0 where
  attributes_are : xs ≡ ys
  end_is : c ≡ d
  rest_is : r ≡ s

record SameCons (c d : Construct) (r s : List Construct) : Type 0 where
  first_is : c ≡ d
  rest_is : r ≡ s

cons_one : (c d : Construct) (r s : List Construct) → c ∷ r ≡ d ∷ s → SameCons c d r s
cons_one c d r s e = record { first_is = cc; rest_is = cc }

record SamePair (x y : List ℕ × List ℕ) : Type 0 where
  name_is : x.0 ≡ y.0
  raw_is : x.1 ≡ y.1

attribute_one : (x y : List ℕ × List ℕ) → attribute x.0 x.1 ≡ attribute y.0 y.1 → SamePair x y
attribute_one x y e = record { name_is = cc; raw_is = cc }

abbrev pair : List ℕ → List ℕ → List ℕ × List ℕ
pair a b = (a, b)

pair_one : (x y : List ℕ × List ℕ) → SamePair x y → x ≡ y
pair_one x y p = ap (λ (n : List ℕ). pair n x.1) p.name_is ∙ ap (λ (r : List ℕ). pair y.0 r) p.raw_is

tag_one : (xs ys : List (List ℕ × List ℕ)) (c d : Construct) (r s : List Construct) → IsOther c → IsOther d → attributes_of xs ++ (c ∷ r) ≡ attributes_of ys ++ (d ∷ s) → SameTag xs ys c d r s
tag_one [] [] c d r s n m e = let t = cons_one c d r s e in record { attributes_are = refl; end_is = t.first_is; rest_is = t.rest_is }
tag_one [] (y ∷ ys) c d r s n m e = let t = cons_one c (attribute y.0 y.1) r (attributes_of ys ++ (d ∷ s)) e in absurd (subst IsOther t.first_is n)
tag_one (x ∷ xs) [] c d r s n m e = let t = cons_one (attribute x.0 x.1) d (attributes_of xs ++ (c ∷ r)) s e in absurd (subst IsOther (sym t.first_is) m)
tag_one (x ∷ xs) (y ∷ ys) c d r s n m e =
    let t = cons_one (attribute x.0 x.1) (attribute y.0 y.1) (attributes_of xs ++ (c ∷ r)) (attributes_of ys ++ (d ∷ s)) e in
    let first : x ≡ y = pair_one x y (attribute_one x y t.first_is) in
    let rest = tag_one xs ys c d r s n m t.rest_is in
    record { attributes_are = ap (λ (z : List ℕ × List ℕ). z ∷ xs) first ∙ ap (λ (zs : List (List ℕ × List ℕ)). y ∷ zs) rest.attributes_are; end_is = rest.end_is; rest_is = rest.rest_is }

-- ---- elements and what is in them

abbrev IsOpening : Construct → Type 0
IsOpening (opening n) = Unit {0}
IsOpening (attribute n r) = ⊥
IsOpening tag_end = ⊥
IsOpening empty_end = ⊥
IsOpening (closing n) = ⊥
IsOpening skipped = ⊥
IsOpening ending = ⊥
IsOpening mark = ⊥

abbrev IsClosing : Construct → Type 0
IsClosing (opening n) = ⊥
IsClosing (attribute n r) = ⊥
IsClosing tag_end = ⊥
IsClosing empty_end = ⊥
IsClosing (closing n) = Unit {0}
IsClosing skipped = ⊥
IsClosing ending = ⊥
IsClosing mark = ⊥

record Starts (cs : List Construct) : Type 0 where
  name : List ℕ
  tail : List Construct
  parts_are : cs ≡ opening name ∷ tail

starts : (level : ℕ) (xs : List (List ℕ × List ℕ)) (o : Object) (es : List Construct) → Element level xs o es → Starts es
starts level xs o es (empty l h ys few d) = record { name = name_of h; tail = attributes_of ys ++ (empty_end ∷ []); parts_are = refl }
starts level xs o es (full l h ys kids inner few d names c) = record { name = name_of h; tail = attributes_of ys ++ (tag_end ∷ (inner ++ (closing (name_of h) ∷ []))); parts_are = refl }

starts_on : (es r : List Construct) → Starts es → Starts (es ++ r)
starts_on es r s = record { name = s.name; tail = s.tail ++ r; parts_are = ap (λ (t : List Construct). t ++ r) s.parts_are }

record SameElement (xs ys : List (List ℕ × List ℕ)) (o p : Object) (r s : List Construct) : Type 0 where
  attributes_are : xs ≡ ys
  object_is : o ≡ p
  rest_is : r ≡ s

record SameContent (row more : Objects) (r s : List Construct) : Type 0 where
  row_is : row ≡ more
  rest_is : r ≡ s

record SameName (n m : List ℕ) (r s : List Construct) : Type 0 where
  name_is : n ≡ m
  rest_is : r ≡ s

open_one : (n m : List ℕ) (r s : List Construct) → opening n ∷ r ≡ opening m ∷ s → SameName n m r s
open_one n m r s e = record { name_is = cc; rest_is = cc }

abbrev object_of : Head → Objects → Object
object_of h below = record { head = h; inner = below }

close_rest : (n m : List ℕ) (r s : List Construct) → closing n ∷ r ≡ closing m ∷ s → r ≡ s
close_rest n m r s e = cc

-- what follows the content of an element: its end tag
record Closes (cs : List Construct) : Type 0 where
  name : List ℕ
  tail : List Construct
  parts_are : cs ≡ closing name ∷ tail

not_closed : (c : Construct) (r q : List Construct) → (IsClosing c → ⊥) → Closes q → c ∷ r ≡ q → ⊥
not_closed c r q refuse k e = let t = cons_one c (closing k.name) r k.tail (e ∙ k.parts_are) in refuse (subst IsClosing (sym t.first_is) tt)

open_not_closed : (es q : List Construct) → Starts es → Closes q → es ≡ q → ⊥
open_not_closed es q s k e = not_closed (opening s.name) s.tail q (λ h. h) k (sym s.parts_are ∙ e)

pause_not_open : (r es : List Construct) → Starts es → skipped ∷ r ≡ es → ⊥
pause_not_open r es s e = let t = cons_one skipped (opening s.name) r s.tail (e ∙ s.parts_are) in subst IsOpening (sym t.first_is) tt

pub empty_ends : (n : List ℕ) (ats r : List Construct) → (opening n ∷ (ats ++ (empty_end ∷ []))) ++ r ≡ opening n ∷ (ats ++ (empty_end ∷ r))
empty_ends n ats r = simp append_assoc

pub full_ends : (n : List ℕ) (ats inner r : List Construct) → (opening n ∷ (ats ++ (tag_end ∷ (inner ++ (closing n ∷ []))))) ++ r ≡ opening n ∷ (ats ++ (tag_end ∷ (inner ++ (closing n ∷ r))))
full_ends n ats inner r = simp append_assoc

end_apart : (c d : Construct) → c ≡ empty_end → d ≡ tag_end → c ≡ d → ⊥
end_apart c d p q e = absurd cc

mutual
  element_one : OneText → OnePart → (level : ℕ) (xs : List (List ℕ × List ℕ)) (o : Object) (es : List Construct) → Element level xs o es
      → (other : ℕ) (ys : List (List ℕ × List ℕ)) (p : Object) (fs : List Construct) → Element other ys p fs → (r s : List Construct) → es ++ r ≡ fs ++ s → SameElement xs ys o p r s
  element_one texts one level xs o es (empty l g as_ few d) other ys p fs (empty m h bs less f) r s e =
      let t = open_one (name_of g) (name_of h) (attributes_of as_ ++ (empty_end ∷ r)) (attributes_of bs ++ (empty_end ∷ s)) (sym (empty_ends (name_of g) (attributes_of as_) r) ∙ e ∙ empty_ends (name_of h) (attributes_of bs) s) in
      let tag = tag_one as_ bs empty_end empty_end r s tt tt t.rest_is in
      record {
        attributes_are = tag.attributes_are;
        object_is = ap (λ (x : Head). object_of x none) (head_one texts one as_ bs g h (kind_one g.kind h.kind t.name_is) tag.attributes_are d f);
        rest_is = tag.rest_is;
      }
  element_one texts one level xs o es (empty l g as_ few d) other ys p fs (full m h bs kids inner less f names c) r s e =
      let t = open_one (name_of g) (name_of h) (attributes_of as_ ++ (empty_end ∷ r)) (attributes_of bs ++ (tag_end ∷ (inner ++ (closing (name_of h) ∷ s)))) (sym (empty_ends (name_of g) (attributes_of as_) r) ∙ e ∙ full_ends (name_of h) (attributes_of bs) inner s) in
      let tag = tag_one as_ bs empty_end tag_end r (inner ++ (closing (name_of h) ∷ s)) tt tt t.rest_is in
      absurd (end_apart empty_end tag_end refl refl tag.end_is)
  element_one texts one level xs o es (full l g as_ kids inner few d names c) other ys p fs (empty m h bs less f) r s e =
      let t = open_one (name_of g) (name_of h) (attributes_of as_ ++ (tag_end ∷ (inner ++ (closing (name_of g) ∷ r)))) (attributes_of bs ++ (empty_end ∷ s)) (sym (full_ends (name_of g) (attributes_of as_) inner r) ∙ e ∙ empty_ends (name_of h) (attributes_of bs) s) in
      let tag = tag_one as_ bs tag_end empty_end (inner ++ (closing (name_of g) ∷ r)) s tt tt t.rest_is in
      absurd (end_apart empty_end tag_end refl refl (sym tag.end_is))
  element_one texts one level xs o es (full l g as_ kids inner few d names c) other ys p fs (full m h bs others within less f differ k) r s e =
      let t = open_one (name_of g) (name_of h) (attributes_of as_ ++ (tag_end ∷ (inner ++ (closing (name_of g) ∷ r)))) (attributes_of bs ++ (tag_end ∷ (within ++ (closing (name_of h) ∷ s)))) (sym (full_ends (name_of g) (attributes_of as_) inner r) ∙ e ∙ full_ends (name_of h) (attributes_of bs) within s) in
      let tag = tag_one as_ bs tag_end tag_end (inner ++ (closing (name_of g) ∷ r)) (within ++ (closing (name_of h) ∷ s)) tt tt t.rest_is in
      let content = content_one texts one (suc l) kids inner c (suc m) others within k (closing (name_of g) ∷ r) (closing (name_of h) ∷ s) (record { name = name_of g; tail = r; parts_are = refl }) (record { name = name_of h; tail = s; parts_are = refl }) tag.rest_is in
      record {
        attributes_are = tag.attributes_are;
        object_is = ap (λ (x : Head). object_of x kids) (head_one texts one as_ bs g h (kind_one g.kind h.kind t.name_is) tag.attributes_are d f) ∙ ap (λ (row : Objects). object_of h row) content.row_is;
        rest_is = close_rest (name_of g) (name_of h) r s content.rest_is;
      }

  content_one : OneText → OnePart → (level : ℕ) (row : Objects) (cs : List Construct) → Content level row cs
      → (other : ℕ) (more : Objects) (ds : List Construct) → Content other more ds → (r s : List Construct) → Closes r → Closes s → cs ++ r ≡ ds ++ s → SameContent row more r s
  content_one texts one level row cs (nothing l) other more ds (nothing m) r s p q e = record { row_is = refl; rest_is = e }
  content_one texts one level row cs (nothing l) other more ds (pause m kids fs k) r s p q e = absurd (not_closed skipped (fs ++ s) r (λ h. h) p (sym e))
  content_one texts one level row cs (nothing l) other more ds (child m ys o kids fs gs f k) r s p q e = absurd (open_not_closed ((fs ++ gs) ++ s) r (starts_on (fs ++ gs) s (starts_on fs gs (starts m ys o fs f))) p (sym e))
  content_one texts one level row cs (pause l kids fs h) other more ds (nothing m) r s p q e = absurd (not_closed skipped (fs ++ r) s (λ h. h) q e)
  content_one texts one level row cs (pause l kids fs h) other more ds (pause m others gs k) r s p q e =
      content_one texts one l kids fs h m others gs k r s p q (cons_one skipped skipped (fs ++ r) (gs ++ s) e).rest_is
  content_one texts one level row cs (pause l kids fs h) other more ds (child m ys o others gs hs f k) r s p q e = absurd (pause_not_open (fs ++ r) ((gs ++ hs) ++ s) (starts_on (gs ++ hs) s (starts_on gs hs (starts m ys o gs f))) e)
  content_one texts one level row cs (child l xs o kids es fs f h) other more ds (nothing m) r s p q e = absurd (open_not_closed ((es ++ fs) ++ r) s (starts_on (es ++ fs) r (starts_on es fs (starts l xs o es f))) q e)
  content_one texts one level row cs (child l xs o kids es fs f h) other more ds (pause m others gs k) r s p q e = absurd (pause_not_open (gs ++ s) ((es ++ fs) ++ r) (starts_on (es ++ fs) r (starts_on es fs (starts l xs o es f))) (sym e))
  content_one texts one level row cs (child l xs o kids es fs f h) other more ds (child m ys t others gs hs g k) r s p q e =
      let first = element_one texts one l xs o es f m ys t gs g (fs ++ r) (hs ++ s) (sym (append_assoc es fs r) ∙ e ∙ append_assoc gs hs s) in
      let rest = content_one texts one l kids fs h m others hs k r s p q first.rest_is in
      record { row_is = ap (λ (x : Object). node x.head x.inner kids) first.object_is ∙ ap (λ (x : Objects). node t.head t.inner x) rest.row_is; rest_is = rest.rest_is }

-- ---- what stands before the element

record IsPause (c : Construct) (cs : List Construct) : Type 0 where
  is : c ≡ skipped
  rest : AreSkipped cs

pauses : (c : Construct) (cs : List Construct) → AreSkipped (c ∷ cs) → IsPause c cs
pauses (opening n) cs h = absurd h
pauses (attribute n r) cs h = absurd h
pauses tag_end cs h = absurd h
pauses empty_end cs h = absurd h
pauses (closing n) cs h = absurd h
pauses skipped cs h = record { is = refl; rest = h }
pauses ending cs h = absurd h
pauses mark cs h = absurd h

marks : (cs : List Construct) → IsMark cs → (cs ≡ []) ⊎ (cs ≡ mark ∷ [])
marks [] h = inl refl
marks (opening n ∷ cs) h = absurd h
marks (attribute n r ∷ cs) h = absurd h
marks (tag_end ∷ cs) h = absurd h
marks (empty_end ∷ cs) h = absurd h
marks (closing n ∷ cs) h = absurd h
marks (skipped ∷ cs) h = absurd h
marks (ending ∷ cs) h = absurd h
marks (mark ∷ []) h = inr refl
marks (mark ∷ (c ∷ cs)) h = absurd h

before_one : (xs ys cs ds : List Construct) → AreSkipped xs → AreSkipped ys → Starts cs → Starts ds → xs ++ cs ≡ ys ++ ds → cs ≡ ds
before_one [] [] cs ds p q s t e = e
before_one [] (y ∷ ys) cs ds p q s t e =
    let w = pauses y ys q in
    absurd (pause_not_open (ys ++ ds) cs s (ap (λ (c : Construct). c ∷ (ys ++ ds)) (sym w.is) ∙ sym e))
before_one (x ∷ xs) [] cs ds p q s t e =
    let w = pauses x xs p in
    absurd (pause_not_open (xs ++ cs) ds t (ap (λ (c : Construct). c ∷ (xs ++ cs)) (sym w.is) ∙ e))
before_one (x ∷ xs) (y ∷ ys) cs ds p q s t e = before_one xs ys cs ds (pauses x xs p).rest (pauses y ys q).rest s t (cons_one x y (xs ++ cs) (ys ++ ds) e).rest_is

mark_not_open : (r es : List Construct) → Starts es → mark ∷ r ≡ es → ⊥
mark_not_open r es s e = let t = cons_one mark (opening s.name) r s.tail (e ∙ s.parts_are) in subst IsOpening (sym t.first_is) tt

mark_apart : (c : Construct) → c ≡ mark → c ≡ skipped → ⊥
mark_apart c p q = absurd cc

no_mark : (r xs cs : List Construct) → AreSkipped xs → Starts cs → mark ∷ r ≡ xs ++ cs → ⊥
no_mark r [] cs p s e = mark_not_open r cs s e
no_mark r (x ∷ xs) cs p s e = let t = cons_one mark x r (xs ++ cs) e in mark_apart x (sym t.first_is) (pauses x xs p).is

first_one : (a b xs ys cs ds : List Construct) → IsMark a → IsMark b → AreSkipped xs → AreSkipped ys → Starts cs → Starts ds → a ++ (xs ++ cs) ≡ b ++ (ys ++ ds) → cs ≡ ds
first_one a b xs ys cs ds m n p q s t e =
    elim (marks a m) [
      | inl left_none ↦ elim (marks b n) [
        | inl right_none ↦ before_one xs ys cs ds p q s t (ap (λ (z : List Construct). z ++ (xs ++ cs)) (sym left_none) ∙ e ∙ ap (λ (z : List Construct). z ++ (ys ++ ds)) right_none)
        | inr right_one ↦ absurd (no_mark (ys ++ ds) xs cs p s (ap (λ (z : List Construct). z ++ (ys ++ ds)) (sym right_one) ∙ sym e ∙ ap (λ (z : List Construct). z ++ (xs ++ cs)) left_none))
      ]
      | inr left_one ↦ elim (marks b n) [
        | inl right_none ↦ absurd (no_mark (xs ++ cs) ys ds q t (ap (λ (z : List Construct). z ++ (xs ++ cs)) (sym left_one) ∙ e ∙ ap (λ (z : List Construct). z ++ (ys ++ ds)) right_none))
        | inr right_one ↦ before_one xs ys cs ds p q s t (cons_one mark mark (xs ++ cs) (ys ++ ds) (ap (λ (z : List Construct). z ++ (xs ++ cs)) (sym left_one) ∙ e ∙ ap (λ (z : List Construct). z ++ (ys ++ ds)) right_one)).rest_is
      ]
    ]

-- ---- documents

pub one_document : OneText → OnePart → (bytes : List ℕ) (ns other : Option (List ℕ)) (o p : Object) → Spells bytes ns o → Spells bytes other p → (ns ≡ other) × (o ≡ p)
one_document texts one bytes ns other o p s t =
    let a = s.is_document in
    let b = t.is_document in
    let cs : s.constructs ≡ t.constructs = cuts_one places.Start bytes s.constructs t.constructs tt s.cut t.cut in
    let all = sym a.parts ∙ cs ∙ b.parts in
    let rest : a.element ++ a.after ≡ b.element ++ b.after = first_one a.first b.first a.before b.before (a.element ++ a.after) (b.element ++ b.after) a.is_mark b.is_mark a.before_skipped b.before_skipped
    (starts_on a.element a.after (starts 0 a.attributes o a.element a.is_element)) (starts_on b.element b.after (starts 0 b.attributes p b.element b.is_element)) all in
    let element = element_one texts one 0 a.attributes o a.element a.is_element 0 b.attributes p b.element b.is_element a.after b.after rest in
    (namespace_one texts a.attributes ns other a.namespace (subst (λ (xs : List (List ℕ × List ℕ)). NamespaceIs xs other) (sym element.attributes_are) b.namespace), element.object_is)
