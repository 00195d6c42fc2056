-- The tree of a document whose constructs are a document's.
use Rattle.std.proofs.Common.{◌≡◌, ℕ, suc, Bool, true, false, List, [], ◌∷◌, ◌++◌, Option, Some, None, refl, sym, ap, ◌∙◌, subst, append_assoc, append-nil}
use Rattle.std.specs.Prelude.{codes, map}
use Rattle.std.specs.List.{AllByRecursion, flat_map}
use Rattle.ob_scan.specs.declared.piece.Place.{Place}
use Rattle.ob_scan.specs.declared.piece.Place.TheVariants.{Start, Marked, Between, InTag}
use Rattle.ob_scan.specs.Constructs.{Construct, found, scan}
use Rattle.ob_scan.specs.Constructs as scanned
use Rattle.ob_object.specs.declared.head.Head.{Head}
use Rattle.ob_object.specs.Object.{Objects, Object}
use Rattle.ob_documents.specs.Attributes.{Describe, NamespaceIs}
use Rattle.ob_documents.specs.Grammar.{attributes_of, name_of, IsMark, AreSkipped}
use Rattle.ob_documents.specs.Grammar as grammar
use Rattle.ob_documents.specs.Spelling.{place_behind, Cuts, Spells}
use Rattle.ob_documents.proofs.One.{empty_ends, full_ends}
use Rattle.ob_documents.specs.Spelling as spelling
use Rattle.ob_markup.specs.Characters.{IsBlank}
use Rattle.ob_markup.specs.Markup.{Declaration, print_declaration, IsDeclaration, IsTagName, EndTag, print_end_tag, IsEndTag}
use Rattle.ob_markup.specs.Pieces.{Piece, print_piece, IsPiece, RefersWell, StandsAt, HasForm}
use Rattle.ob_markup.specs.Pieces as pieces
use Rattle.ob_markup.specs.Scanning.{told, IsRead}
use Rattle.ob_markup.specs.Documents.{Spaced, print_spaced, IsSpaced, Tag, print_tag, IsTag, attributes_in, Filler, comment, instruction, print_filler, IsFiller, Element, empty, full, Content, last, filled, child, print_element, print_content, IsElement, IsContent, Misc, misc_end, misc_filler, print_misc, IsMisc, print_mark, print_declared, IsDeclared, TagSays, ElementSays, ContentSays, tag_of, IsDocumentOf}
use Rattle.ob_markup.proofs.Found.{found_ok}
use Rattle.ob_markup.proofs.Literals.{blank_both}
use Rattle.ob_markup.proofs.Said.{tell_say, namespace_stands}

-- ---- the first construct of a cut

record FirstCut (place : Place) (bytes : List ℕ) (c : Construct) (cs : List Construct) : Type 0 where
  rest : List ℕ
  read : IsRead place true bytes c rest
  behind : Cuts (place_behind c) rest cs

first_cut : (place : Place) (bytes : List ℕ) (c : Construct) (cs : List Construct) → Cuts place bytes (c ∷ cs) → FirstCut place bytes c cs
first_cut place bytes c cs (spelling.some p b rest d ds e h) = record { rest = rest; read = found_ok place true bytes c rest e; behind = h }

nothing_left : (place : Place) (bytes : List ℕ) → Cuts place bytes [] → bytes ≡ []
nothing_left place bytes (spelling.none p) = refl

-- ---- the piece of a construct

name_is : (n m : List ℕ) → scanned.opening n ≡ scanned.opening m → n ≡ m
name_is n m e = cc

opening_piece : (place : Place) (n bytes rest : List ℕ) (p : Piece) → scanned.opening n ≡ told p → IsPiece p → bytes ≡ print_piece p ++ rest → IsTagName n × (bytes ≡ 60 ∷ (n ++ rest))
opening_piece place n bytes rest (pieces.tag_name m) e f h =
    let same : m ≡ n = sym (name_is n m e) in
    (subst IsTagName same f, h ∙ ap (λ (xs : List ℕ). 60 ∷ (xs ++ rest)) same)
opening_piece place n bytes rest pieces.byte_order_mark e f h = absurd cc
opening_piece place n bytes rest (pieces.declaration d) e f h = absurd cc
opening_piece place n bytes rest (pieces.white_space s) e f h = absurd cc
opening_piece place n bytes rest (pieces.comment t) e f h = absurd cc
opening_piece place n bytes rest (pieces.instruction i) e f h = absurd cc
opening_piece place n bytes rest (pieces.attribute s a) e f h = absurd cc
opening_piece place n bytes rest (pieces.tag_end s) e f h = absurd cc
opening_piece place n bytes rest (pieces.empty_end s) e f h = absurd cc
opening_piece place n bytes rest (pieces.end_tag t) e f h = absurd cc
opening_piece place n bytes rest pieces.input_end e f h = absurd cc

record AttributePiece (n v bytes rest : List ℕ) : Type 0 where
  spaced : Spaced
  form : IsSpaced spaced
  name : spaced.attribute.name ≡ n
  value : spaced.attribute.value ≡ v
  printed : bytes ≡ print_spaced spaced ++ rest

parts_are : (n v m w : List ℕ) → scanned.attribute n v ≡ scanned.attribute m w → (m ≡ n) × (w ≡ v)
parts_are n v m w e = (cc, cc)

attribute_piece : (n v bytes rest : List ℕ) (p : Piece) → scanned.attribute n v ≡ told p → IsPiece p → RefersWell p → bytes ≡ print_piece p ++ rest → AttributePiece n v bytes rest
attribute_piece n v bytes rest (pieces.attribute s a) e f r h =
    let same = parts_are n v a.name a.value e in
    record { spaced = record { space = s; attribute = a }; form = record { space = f.0; attribute = f.1; references = r }; name = same.0; value = same.1; printed = h }
attribute_piece n v bytes rest pieces.byte_order_mark e f r h = absurd cc
attribute_piece n v bytes rest (pieces.declaration d) e f r h = absurd cc
attribute_piece n v bytes rest (pieces.white_space s) e f r h = absurd cc
attribute_piece n v bytes rest (pieces.comment t) e f r h = absurd cc
attribute_piece n v bytes rest (pieces.instruction i) e f r h = absurd cc
attribute_piece n v bytes rest (pieces.tag_name m) e f r h = absurd cc
attribute_piece n v bytes rest (pieces.tag_end s) e f r h = absurd cc
attribute_piece n v bytes rest (pieces.empty_end s) e f r h = absurd cc
attribute_piece n v bytes rest (pieces.end_tag t) e f r h = absurd cc
attribute_piece n v bytes rest pieces.input_end e f r h = absurd cc

record EndPiece (text bytes rest : List ℕ) : Type 0 where
  space : List ℕ
  blank : IsBlank space
  printed : bytes ≡ (space ++ text) ++ rest

tag_end_piece : (bytes rest : List ℕ) (p : Piece) → scanned.tag_end ≡ told p → IsPiece p → bytes ≡ print_piece p ++ rest → EndPiece (codes ">") bytes rest
tag_end_piece bytes rest (pieces.tag_end s) e f h = record { space = s; blank = f; printed = h }
tag_end_piece bytes rest pieces.byte_order_mark e f h = absurd cc
tag_end_piece bytes rest (pieces.declaration d) e f h = absurd cc
tag_end_piece bytes rest (pieces.white_space s) e f h = absurd cc
tag_end_piece bytes rest (pieces.comment t) e f h = absurd cc
tag_end_piece bytes rest (pieces.instruction i) e f h = absurd cc
tag_end_piece bytes rest (pieces.tag_name m) e f h = absurd cc
tag_end_piece bytes rest (pieces.attribute s a) e f h = absurd cc
tag_end_piece bytes rest (pieces.empty_end s) e f h = absurd cc
tag_end_piece bytes rest (pieces.end_tag t) e f h = absurd cc
tag_end_piece bytes rest pieces.input_end e f h = absurd cc

empty_end_piece : (bytes rest : List ℕ) (p : Piece) → scanned.empty_end ≡ told p → IsPiece p → bytes ≡ print_piece p ++ rest → EndPiece (codes "/>") bytes rest
empty_end_piece bytes rest (pieces.empty_end s) e f h = record { space = s; blank = f; printed = h }
empty_end_piece bytes rest pieces.byte_order_mark e f h = absurd cc
empty_end_piece bytes rest (pieces.declaration d) e f h = absurd cc
empty_end_piece bytes rest (pieces.white_space s) e f h = absurd cc
empty_end_piece bytes rest (pieces.comment t) e f h = absurd cc
empty_end_piece bytes rest (pieces.instruction i) e f h = absurd cc
empty_end_piece bytes rest (pieces.tag_name m) e f h = absurd cc
empty_end_piece bytes rest (pieces.attribute s a) e f h = absurd cc
empty_end_piece bytes rest (pieces.tag_end s) e f h = absurd cc
empty_end_piece bytes rest (pieces.end_tag t) e f h = absurd cc
empty_end_piece bytes rest pieces.input_end e f h = absurd cc

record ClosingPiece (n bytes rest : List ℕ) : Type 0 where
  tag : EndTag
  form : IsEndTag tag
  name : tag.name ≡ n
  printed : bytes ≡ print_end_tag tag ++ rest

close_is : (n m : List ℕ) → scanned.closing n ≡ scanned.closing m → m ≡ n
close_is n m e = cc

closing_piece : (n bytes rest : List ℕ) (p : Piece) → scanned.closing n ≡ told p → IsPiece p → bytes ≡ print_piece p ++ rest → ClosingPiece n bytes rest
closing_piece n bytes rest (pieces.end_tag t) e f h = record { tag = t; form = f; name = close_is n t.name e; printed = h }
closing_piece n bytes rest pieces.byte_order_mark e f h = absurd cc
closing_piece n bytes rest (pieces.declaration d) e f h = absurd cc
closing_piece n bytes rest (pieces.white_space s) e f h = absurd cc
closing_piece n bytes rest (pieces.comment t) e f h = absurd cc
closing_piece n bytes rest (pieces.instruction i) e f h = absurd cc
closing_piece n bytes rest (pieces.tag_name m) e f h = absurd cc
closing_piece n bytes rest (pieces.attribute s a) e f h = absurd cc
closing_piece n bytes rest (pieces.tag_end s) e f h = absurd cc
closing_piece n bytes rest (pieces.empty_end s) e f h = absurd cc
closing_piece n bytes rest pieces.input_end e f h = absurd cc

-- what is skipped: white space, a comment or an instruction, or the declaration
data SkippedPiece (place : Place) (bytes rest : List ℕ) : Type 0 where
  spaced : (s : List ℕ) → IsBlank s → bytes ≡ s ++ rest → SkippedPiece place bytes rest
  filler : (f : Filler) → IsFiller f → bytes ≡ print_filler f ++ rest → SkippedPiece place bytes rest
  declared : (d : Declaration) → StandsAt place (pieces.declaration d) → IsDeclaration d → bytes ≡ print_declaration d ++ rest → SkippedPiece place bytes rest

skipped_piece : (place : Place) (bytes rest : List ℕ) (p : Piece) → scanned.skipped ≡ told p → StandsAt place p → IsPiece p → bytes ≡ print_piece p ++ rest → SkippedPiece place bytes rest
skipped_piece place bytes rest (pieces.declaration d) e s f h = declared d s f h
skipped_piece place bytes rest (pieces.white_space t) e s f h = spaced t f.1 h
skipped_piece place bytes rest (pieces.comment t) e s f h = filler (comment t) f h
skipped_piece place bytes rest (pieces.instruction i) e s f h = filler (instruction i) f h
skipped_piece place bytes rest pieces.byte_order_mark e s f h = absurd cc
skipped_piece place bytes rest (pieces.tag_name m) e s f h = absurd cc
skipped_piece place bytes rest (pieces.attribute t a) e s f h = absurd cc
skipped_piece place bytes rest (pieces.tag_end t) e s f h = absurd cc
skipped_piece place bytes rest (pieces.empty_end t) e s f h = absurd cc
skipped_piece place bytes rest (pieces.end_tag t) e s f h = absurd cc
skipped_piece place bytes rest pieces.input_end e s f h = absurd cc

mark_piece : (bytes rest : List ℕ) (p : Piece) → scanned.mark ≡ told p → bytes ≡ print_piece p ++ rest → bytes ≡ print_mark true ++ rest
mark_piece bytes rest pieces.byte_order_mark e h = h
mark_piece bytes rest (pieces.declaration d) e h = absurd cc
mark_piece bytes rest (pieces.white_space s) e h = absurd cc
mark_piece bytes rest (pieces.comment t) e h = absurd cc
mark_piece bytes rest (pieces.instruction i) e h = absurd cc
mark_piece bytes rest (pieces.tag_name m) e h = absurd cc
mark_piece bytes rest (pieces.attribute s a) e h = absurd cc
mark_piece bytes rest (pieces.tag_end s) e h = absurd cc
mark_piece bytes rest (pieces.empty_end s) e h = absurd cc
mark_piece bytes rest (pieces.end_tag t) e h = absurd cc
mark_piece bytes rest pieces.input_end e h = absurd cc

-- ---- tags

abbrev pub pair_of : Spaced → List ℕ × List ℕ
pair_of s = (s.attribute.name, s.attribute.value)

record AttributesRead (bytes : List ℕ) (attributes : List (List ℕ × List ℕ)) (cs : List Construct) : Type 0 where
  spaced : List Spaced
  forms : AllByRecursion IsSpaced spaced
  are : map pair_of spaced ≡ attributes
  rest : List ℕ
  printed : bytes ≡ flat_map print_spaced spaced ++ rest
  behind : Cuts InTag rest cs

pair_is : (s : Spaced) (a : List ℕ × List ℕ) → s.attribute.name ≡ a.0 → s.attribute.value ≡ a.1 → pair_of s ≡ a
pair_is s a e h = rw (e, h) refl

attributes_read : (bytes : List ℕ) (attributes : List (List ℕ × List ℕ)) (cs : List Construct) → Cuts InTag bytes (attributes_of attributes ++ cs) → AttributesRead bytes attributes cs
attributes_read bytes [] cs h = record { spaced = []; forms = tt; are = refl; rest = bytes; printed = refl; behind = h }
attributes_read bytes (a ∷ attributes) cs h =
    let f = first_cut InTag bytes (scanned.attribute a.0 a.1) (attributes_of attributes ++ cs) h in
    let p = attribute_piece a.0 a.1 bytes f.rest f.read.piece f.read.told_is f.read.form.form f.read.refers f.read.form.printed in
    let later = attributes_read f.rest attributes cs f.behind in
    record {
      spaced = p.spaced ∷ later.spaced;
      forms = (p.form, later.forms);
      are = ap (λ (x : List ℕ × List ℕ). x ∷ map pair_of later.spaced) (pair_is p.spaced a p.name p.value) ∙ ap (λ (xs : List (List ℕ × List ℕ)). a ∷ xs) later.are;
      rest = later.rest;
      printed = p.printed ∙ ap (λ (xs : List ℕ). print_spaced p.spaced ++ xs) later.printed ∙ sym (append_assoc (print_spaced p.spaced) (flat_map print_spaced later.spaced) later.rest);
      behind = later.behind;
    }

-- a tag up to its end
record TagRead (text bytes name : List ℕ) (attributes : List (List ℕ × List ℕ)) (c : Construct) (cs : List Construct) : Type 0 where
  tag : Tag
  form : IsTag tag
  name_is : tag.name ≡ name
  are : attributes_in tag ≡ attributes
  rest : List ℕ
  printed : bytes ≡ (print_tag tag ++ text) ++ rest
  behind : Cuts (place_behind c) rest cs

tag_parts : (name : List ℕ) (attributes : List Spaced) (space text rest : List ℕ) → 60 ∷ (name ++ (flat_map print_spaced attributes ++ ((space ++ text) ++ rest))) ≡ ((60 ∷ (name ++ (flat_map print_spaced attributes ++ space))) ++ text) ++ rest
tag_parts name attributes space text rest = simp append_assoc

tag_read : (text : List ℕ) (c : Construct) (place : Place) (bytes name : List ℕ) (attributes : List (List ℕ × List ℕ)) (cs : List Construct)
    → ((bytes rest : List ℕ) → IsRead InTag true bytes c rest → EndPiece text bytes rest) → Cuts place bytes (scanned.opening name ∷ (attributes_of attributes ++ (c ∷ cs))) → TagRead text bytes name attributes c cs
tag_read text c place bytes name attributes cs ends h =
    let f = first_cut place bytes (scanned.opening name) (attributes_of attributes ++ (c ∷ cs)) h in
    let o = opening_piece place name bytes f.rest f.read.piece f.read.told_is f.read.form.form f.read.form.printed in
    let a = attributes_read f.rest attributes (c ∷ cs) f.behind in
    let l = first_cut InTag a.rest c cs a.behind in
    let e = ends a.rest l.rest l.read in
    record {
      tag = record { name = name; attributes = a.spaced; space = e.space };
      form = record { name = o.0; attributes = a.forms; space = e.blank };
      name_is = refl;
      are = a.are;
      rest = l.rest;
      printed = o.1 ∙ ap (λ (xs : List ℕ). 60 ∷ (name ++ xs)) (a.printed ∙ ap (λ (xs : List ℕ). flat_map print_spaced a.spaced ++ xs) e.printed) ∙ tag_parts name a.spaced e.space text l.rest;
      behind = l.behind;
    }

ends_empty : (bytes rest : List ℕ) → IsRead InTag true bytes scanned.empty_end rest → EndPiece (codes "/>") bytes rest
ends_empty bytes rest r = empty_end_piece bytes rest r.piece r.told_is r.form.form r.form.printed

ends_start : (bytes rest : List ℕ) → IsRead InTag true bytes scanned.tag_end rest → EndPiece (codes ">") bytes rest
ends_start bytes rest r = tag_end_piece bytes rest r.piece r.told_is r.form.form r.form.printed

tag_says : (t : Tag) (h : Head) (attributes : List (List ℕ × List ℕ)) → t.name ≡ name_of h → attributes_in t ≡ attributes → Describe attributes h → TagSays t h
tag_says t h attributes n e d =
    let there : Describe (attributes_in t) h = subst (λ (xs : List (List ℕ × List ℕ)). Describe xs h) (sym e) d in
    record { name = n; distinct = there.distinct; said = tell_say h.kind (attributes_in t) _ h there.told; fits = there.fits }

-- ---- elements

record ElementRead (level : ℕ) (attributes : List (List ℕ × List ℕ)) (o : Object) (bytes : List ℕ) (cs : List Construct) : Type 0 where
  element : Element
  form : IsElement element
  says : ElementSays level element o.head o.inner
  are : attributes_in (tag_of element) ≡ attributes
  rest : List ℕ
  printed : bytes ≡ print_element element ++ rest
  behind : Cuts Between rest cs

record ContentRead (level : ℕ) (row : Objects) (bytes : List ℕ) (cs : List Construct) : Type 0 where
  content : Content
  form : IsContent content
  says : ContentSays level content row
  rest : List ℕ
  printed : bytes ≡ print_content content ++ rest
  behind : Cuts Between rest cs

-- white space before content
record Widened (level : ℕ) (row : Objects) (s : List ℕ) (c : Content) : Type 0 where
  content : Content
  form : IsContent content
  says : ContentSays level content row
  printed : print_content content ≡ s ++ print_content c

widen : (level : ℕ) (row : Objects) (s : List ℕ) (c : Content) → IsBlank s → IsContent c → ContentSays level c row → Widened level row s c
widen level row s (last space) b f h = record { content = last (s ++ space); form = blank_both s space b f; says = h; printed = refl }
widen level row s (filled space g content) b f h = record { content = filled (s ++ space) g content; form = (blank_both s space b f.0, f.1, f.2); says = h; printed = append_assoc s space (print_filler g ++ print_content content) }
widen level row s (child space e content) b f h = record { content = child (s ++ space) e content; form = (blank_both s space b f.0, f.1, f.2); says = h; printed = append_assoc s space (print_element e ++ print_content content) }

content_behind : (level : ℕ) (row : Objects) (place : Place) (bytes rest : List ℕ) (cs : List Construct) → place ≡ Between → SkippedPiece place bytes rest → ContentRead level row rest cs → ContentRead level row bytes cs
content_behind level row place bytes rest cs e (spaced s b h) c =
    let w = widen level row s c.content b c.form c.says in
    record { content = w.content; form = w.form; says = w.says; rest = c.rest; printed = h ∙ ap (λ (xs : List ℕ). s ++ xs) c.printed ∙ sym (append_assoc s (print_content c.content) c.rest) ∙ ap (λ (xs : List ℕ). xs ++ c.rest) (sym w.printed); behind = c.behind }
content_behind level row place bytes rest cs e (filler f i h) c = record {
  content = filled [] f c.content;
  form = (tt, i, c.form);
  says = c.says;
  rest = c.rest;
  printed = h ∙ ap (λ (xs : List ℕ). print_filler f ++ xs) c.printed ∙ sym (append_assoc (print_filler f) (print_content c.content) c.rest);
  behind = c.behind;
}
content_behind level row place bytes rest cs e (declared d s i h) c = absurd (subst (λ (p : Place). StandsAt p (pieces.declaration d)) e s)

pub full_parts : (tag inner end rest : List ℕ) → (tag ++ codes ">") ++ (inner ++ (end ++ rest)) ≡ (tag ++ (codes ">" ++ (inner ++ end))) ++ rest
full_parts tag inner end rest = simp append_assoc

mutual
  element_read : (level : ℕ) (attributes : List (List ℕ × List ℕ)) (o : Object) (es : List Construct) → grammar.Element level attributes o es → (place : Place) (bytes : List ℕ) (cs : List Construct) → Cuts place bytes (es ++ cs) → ElementRead level attributes o bytes cs
  element_read level attributes o es (grammar.empty n h as_ few d) place bytes cs cut =
      let t = tag_read (codes "/>") scanned.empty_end place bytes (name_of h) as_ cs ends_empty (subst (Cuts place bytes) (empty_ends (name_of h) (attributes_of as_) cs) cut) in
      record { element = empty t.tag; form = t.form; says = (few, tag_says t.tag h as_ t.name_is t.are d, refl); are = t.are; rest = t.rest; printed = t.printed; behind = t.behind }
  element_read level attributes o es (grammar.full n h as_ kids inner few d names content) place bytes cs cut =
      let t = tag_read (codes ">") scanned.tag_end place bytes (name_of h) as_ (inner ++ (scanned.closing (name_of h) ∷ cs)) ends_start (subst (Cuts place bytes) (full_ends (name_of h) (attributes_of as_) inner cs) cut) in
      let c = content_read (suc level) kids inner content t.rest (scanned.closing (name_of h) ∷ cs) t.behind in
      let l = first_cut Between c.rest (scanned.closing (name_of h)) cs c.behind in
      let e = closing_piece (name_of h) c.rest l.rest l.read.piece l.read.told_is l.read.form.form l.read.form.printed in
      record {
        element = full t.tag c.content e.tag;
        form = (t.form, c.form, e.form, e.name ∙ sym t.name_is);
        says = (few, tag_says t.tag h as_ t.name_is t.are d, names, c.says);
        are = t.are;
        rest = l.rest;
        printed = t.printed ∙ ap (λ (xs : List ℕ). (print_tag t.tag ++ codes ">") ++ xs) (c.printed ∙ ap (λ (xs : List ℕ). print_content c.content ++ xs) e.printed) ∙ full_parts (print_tag t.tag) (print_content c.content) (print_end_tag e.tag) l.rest;
        behind = l.behind;
      }

  content_read : (level : ℕ) (row : Objects) (inner : List Construct) → grammar.Content level row inner → (bytes : List ℕ) (cs : List Construct) → Cuts Between bytes (inner ++ cs) → ContentRead level row bytes cs
  content_read level row inner (grammar.nothing n) bytes cs cut = record { content = last []; form = tt; says = refl; rest = bytes; printed = refl; behind = cut }
  content_read level row inner (grammar.pause n kids ds content) bytes cs cut =
      let f = first_cut Between bytes scanned.skipped (ds ++ cs) cut in
      let p = skipped_piece Between bytes f.rest f.read.piece f.read.told_is f.read.form.stands f.read.form.form f.read.form.printed in
      content_behind level row Between bytes f.rest cs refl p (content_read level row ds content f.rest cs f.behind)
  content_read level row inner (grammar.child n as_ o kids es ds element content) bytes cs cut =
      let e = element_read level as_ o es element Between bytes (ds ++ cs) (subst (Cuts Between bytes) (append_assoc es ds cs) cut) in
      let c = content_read level kids ds content e.rest cs e.behind in
      record {
        content = child [] e.element c.content;
        form = (tt, e.form, c.form);
        says = (o.head, o.inner, kids, refl, e.says, c.says);
        rest = c.rest;
        printed = e.printed ∙ ap (λ (xs : List ℕ). print_element e.element ++ xs) c.printed ∙ sym (append_assoc (print_element e.element) (print_content c.content) c.rest);
        behind = c.behind;
      }

-- ---- documents

record MiscRead (bytes : List ℕ) (cs : List Construct) : Type 0 where
  misc : Misc
  form : IsMisc misc
  rest : List ℕ
  printed : bytes ≡ print_misc misc ++ rest
  behind : Cuts Between rest cs

record WideMisc (s : List ℕ) (m : Misc) : Type 0 where
  misc : Misc
  form : IsMisc misc
  printed : print_misc misc ≡ s ++ print_misc m

widen_misc : (s : List ℕ) (m : Misc) → IsBlank s → IsMisc m → WideMisc s m
widen_misc s (misc_end space) b f = record { misc = misc_end (s ++ space); form = blank_both s space b f; printed = refl }
widen_misc s (misc_filler space g m) b f = record { misc = misc_filler (s ++ space) g m; form = (blank_both s space b f.0, f.1, f.2); printed = append_assoc s space (print_filler g ++ print_misc m) }

-- the declaration, or none
record PrologRead (place : Place) (bytes : List ℕ) (cs : List Construct) : Type 0 where
  declaration : Option Declaration
  declared : IsDeclared declaration
  misc : Misc
  form : IsMisc misc
  rest : List ℕ
  printed : bytes ≡ print_declared declaration ++ (print_misc misc ++ rest)
  last_place : Place
  behind : Cuts last_place rest cs

misc_behind : (place : Place) (bytes rest : List ℕ) (cs : List Construct) → SkippedPiece place bytes rest → MiscRead rest cs → PrologRead place bytes cs
misc_behind place bytes rest cs (spaced s b h) m =
    let w = widen_misc s m.misc b m.form in
    record { declaration = None; declared = tt; misc = w.misc; form = w.form; rest = m.rest; printed = h ∙ ap (λ (xs : List ℕ). s ++ xs) m.printed ∙ sym (append_assoc s (print_misc m.misc) m.rest) ∙ ap (λ (xs : List ℕ). xs ++ m.rest) (sym w.printed); last_place = Between; behind = m.behind }
misc_behind place bytes rest cs (filler f i h) m = record {
  declaration = None;
  declared = tt;
  misc = misc_filler [] f m.misc;
  form = (tt, i, m.form);
  rest = m.rest;
  printed = h ∙ ap (λ (xs : List ℕ). print_filler f ++ xs) m.printed ∙ sym (append_assoc (print_filler f) (print_misc m.misc) m.rest);
  last_place = Between;
  behind = m.behind;
}
misc_behind place bytes rest cs (declared d s i h) m = record {
  declaration = Some d;
  declared = i;
  misc = m.misc;
  form = m.form;
  rest = m.rest;
  printed = h ∙ ap (λ (xs : List ℕ). print_declaration d ++ xs) m.printed;
  last_place = Between;
  behind = m.behind;
}

no_declaration : (bytes rest : List ℕ) (cs : List Construct) → SkippedPiece Between bytes rest → MiscRead rest cs → MiscRead bytes cs
no_declaration bytes rest cs (spaced s b h) m =
    let w = widen_misc s m.misc b m.form in
    record { misc = w.misc; form = w.form; rest = m.rest; printed = h ∙ ap (λ (xs : List ℕ). s ++ xs) m.printed ∙ sym (append_assoc s (print_misc m.misc) m.rest) ∙ ap (λ (xs : List ℕ). xs ++ m.rest) (sym w.printed); behind = m.behind }
no_declaration bytes rest cs (filler f i h) m = record {
  misc = misc_filler [] f m.misc;
  form = (tt, i, m.form);
  rest = m.rest;
  printed = h ∙ ap (λ (xs : List ℕ). print_filler f ++ xs) m.printed ∙ sym (append_assoc (print_filler f) (print_misc m.misc) m.rest);
  behind = m.behind;
}
no_declaration bytes rest cs (declared d s i h) m = absurd s

misc_read : (ds : List Construct) (bytes : List ℕ) (cs : List Construct) → AreSkipped ds → Cuts Between bytes (ds ++ cs) → MiscRead bytes cs
misc_read [] bytes cs a cut = record { misc = misc_end []; form = tt; rest = bytes; printed = refl; behind = cut }
misc_read (scanned.skipped ∷ ds) bytes cs a cut =
    let f = first_cut Between bytes scanned.skipped (ds ++ cs) cut in
    no_declaration bytes f.rest cs (skipped_piece Between bytes f.rest f.read.piece f.read.told_is f.read.form.stands f.read.form.form f.read.form.printed) (misc_read ds f.rest cs a f.behind)
misc_read (scanned.opening n ∷ ds) bytes cs a cut = absurd a
misc_read (scanned.attribute n v ∷ ds) bytes cs a cut = absurd a
misc_read (scanned.tag_end ∷ ds) bytes cs a cut = absurd a
misc_read (scanned.empty_end ∷ ds) bytes cs a cut = absurd a
misc_read (scanned.closing n ∷ ds) bytes cs a cut = absurd a
misc_read (scanned.ending ∷ ds) bytes cs a cut = absurd a
misc_read (scanned.mark ∷ ds) bytes cs a cut = absurd a

prolog_read : (place : Place) (ds : List Construct) (bytes : List ℕ) (cs : List Construct) → AreSkipped ds → Cuts place bytes (ds ++ cs) → PrologRead place bytes cs
prolog_read place [] bytes cs a cut = record { declaration = None; declared = tt; misc = misc_end []; form = tt; rest = bytes; printed = refl; last_place = place; behind = cut }
prolog_read place (scanned.skipped ∷ ds) bytes cs a cut =
    let f = first_cut place bytes scanned.skipped (ds ++ cs) cut in
    misc_behind place bytes f.rest cs (skipped_piece place bytes f.rest f.read.piece f.read.told_is f.read.form.stands f.read.form.form f.read.form.printed) (misc_read ds f.rest cs a f.behind)
prolog_read place (scanned.opening n ∷ ds) bytes cs a cut = absurd a
prolog_read place (scanned.attribute n v ∷ ds) bytes cs a cut = absurd a
prolog_read place (scanned.tag_end ∷ ds) bytes cs a cut = absurd a
prolog_read place (scanned.empty_end ∷ ds) bytes cs a cut = absurd a
prolog_read place (scanned.closing n ∷ ds) bytes cs a cut = absurd a
prolog_read place (scanned.ending ∷ ds) bytes cs a cut = absurd a
prolog_read place (scanned.mark ∷ ds) bytes cs a cut = absurd a

record MarkRead (bytes : List ℕ) (cs : List Construct) : Type 0 where
  marked : Bool
  rest : List ℕ
  printed : bytes ≡ print_mark marked ++ rest
  last_place : Place
  behind : Cuts last_place rest cs

mark_read : (first : List Construct) (bytes : List ℕ) (cs : List Construct) → IsMark first → Cuts Start bytes (first ++ cs) → MarkRead bytes cs
mark_read [] bytes cs m cut = record { marked = false; rest = bytes; printed = refl; last_place = Start; behind = cut }
mark_read (scanned.mark ∷ []) bytes cs m cut =
    let f = first_cut Start bytes scanned.mark cs cut in
    record { marked = true; rest = f.rest; printed = mark_piece bytes f.rest f.read.piece f.read.told_is f.read.form.printed; last_place = Marked; behind = f.behind }
mark_read (scanned.mark ∷ (c ∷ first)) bytes cs m cut = absurd m
mark_read (scanned.skipped ∷ first) bytes cs m cut = absurd m
mark_read (scanned.opening n ∷ first) bytes cs m cut = absurd m
mark_read (scanned.attribute n v ∷ first) bytes cs m cut = absurd m
mark_read (scanned.tag_end ∷ first) bytes cs m cut = absurd m
mark_read (scanned.empty_end ∷ first) bytes cs m cut = absurd m
mark_read (scanned.closing n ∷ first) bytes cs m cut = absurd m
mark_read (scanned.ending ∷ first) bytes cs m cut = absurd m

pub tree_of : (bytes : List ℕ) (ns : Option (List ℕ)) (o : Object) → Spells bytes ns o → IsDocumentOf bytes ns o
tree_of bytes ns o s =
    let d = s.is_document in
    let cut : Cuts Start bytes (d.first ++ (d.before ++ (d.element ++ d.after))) = subst (Cuts Start bytes) d.parts s.cut in
    let m = mark_read d.first bytes (d.before ++ (d.element ++ d.after)) d.is_mark cut in
    let p = prolog_read m.last_place d.before m.rest (d.element ++ d.after) d.before_skipped m.behind in
    let e = element_read 0 d.attributes o d.element d.is_element p.last_place p.rest d.after p.behind in
    let last_cut : Cuts Between e.rest (d.after ++ []) = subst (Cuts Between e.rest) (sym (append-nil d.after)) e.behind in
    let l = misc_read d.after e.rest [] d.after_skipped last_cut in
    let none_left : l.rest ≡ [] = nothing_left Between l.rest l.behind in
    record {
      small = s.small;
      document = record { marked = m.marked; declaration = p.declaration; prolog = p.misc; root = e.element; behind = l.misc };
      form = record { declaration = p.declared; prolog = p.form; root = e.form; behind = l.form };
      printed = m.printed ∙ ap (λ (xs : List ℕ). print_mark m.marked ++ xs) (p.printed ∙ ap (λ (xs : List ℕ). print_declared p.declaration ++ (print_misc p.misc ++ xs))
          (e.printed ∙ ap (λ (xs : List ℕ). print_element e.element ++ xs) (l.printed ∙ ap (λ (xs : List ℕ). print_misc l.misc ++ xs) none_left ∙ append-nil (print_misc l.misc))));
      namespace = namespace_stands (attributes_in (tag_of e.element)) ns (subst (λ (xs : List (List ℕ × List ℕ)). NamespaceIs xs ns) (sym e.are) d.namespace);
      says = e.says;
    }
