-- The canonical text of an object is cut into the constructs of its element.
use Rattle.std.proofs.Common.{◌≡◌, ℕ, suc, ◌<◌, List, [], ◌∷◌, ◌++◌, refl, sym, ◌∙◌, subst, append_assoc, arith}
use Rattle.std.specs.Prelude.{Option, Some, None, IsTrue}
use Rattle.std.proofs.lemmas.List.{append-nil}
use Rattle.ob_scan.specs.declared.piece.Place.TheVariants.{Start, Between, InTag}
use Rattle.ob_scan.specs.Constructs.{Construct, opening, attribute, tag_end, empty_end, closing}
use Rattle.ob_object.specs.declared.head.Head.{Head}
use Rattle.ob_object.specs.Object.{Objects, none, node, Object, listed}
use Rattle.ob_object.specs.WellFormed.{NamesDiffer}
use Rattle.ob_encoding.specs.Escaped.{escaped}
use Rattle.ob_encoding.specs.Canonical.{attribute_text, attributes, attributes_text, start_text, end_text, row_text, canonical_text}
use Rattle.ob_documents.specs.Attributes.{Describe}
use Rattle.ob_documents.specs.Grammar.{attributes_of, name_of, Element, empty, full, Content, nothing, child}
use Rattle.ob_documents.specs.Spelling.{Cuts, none as no_more, some}
use Rattle.ob_documents.specs.Carried.{IsTextIfThere}
use Rattle.ob_documents.proofs.Pieces.{is_written_name, attribute_is_found, Follows, opening_is_found, first_opening_is_found, closing_is_found, kind_is_written}

-- the attributes that are there, ats they are written
abbrev pub present : List (List ℕ × Option (List ℕ)) → List (List ℕ × List ℕ)
present [] = []
present ((n, None) ∷ es) = present es
present ((n, Some text) ∷ es) = (n, escaped text) ∷ present es

-- names that are written, and texts of XML characters
abbrev pub AreWritable : List (List ℕ × Option (List ℕ)) → Type 0
AreWritable [] = Unit {0}
AreWritable ((n, o) ∷ es) = IsTrue (is_written_name n) × IsTextIfThere o × AreWritable es

one_attribute : (n text rest : List ℕ) → (32 ∷ (n ++ 61 ∷ 34 ∷ []) ++ (escaped text ++ 34 ∷ [])) ++ rest ≡ 32 ∷ (n ++ (61 ∷ 34 ∷ (escaped text ++ (34 ∷ rest))))
one_attribute n text rest = simp append_assoc

pub cuts_attributes : (es : List (List ℕ × Option (List ℕ))) (rest : List ℕ) (cs : List Construct) → AreWritable es → Cuts InTag rest cs → Cuts InTag (attributes_text es ++ rest) (attributes_of (present es) ++ cs)
cuts_attributes [] rest cs w h = h
cuts_attributes ((n, None) ∷ es) rest cs w h = cuts_attributes es rest cs w.2 h
cuts_attributes ((n, Some text) ∷ es) rest cs w h =
    let behind : List ℕ = attributes_text es ++ rest in
    let all : List ℕ = 32 ∷ (n ++ (61 ∷ 34 ∷ (escaped text ++ (34 ∷ behind)))) in
    let is : attributes_text ((n, Some text) ∷ es) ++ rest ≡ all = append_assoc (attribute_text (n, Some text)) (attributes_text es) rest ∙ one_attribute n text behind in
    subst (λ (bs : List ℕ). Cuts InTag bs (attribute n (escaped text) ∷ (attributes_of (present es) ++ cs))) (sym is)
    (some InTag all behind (attribute n (escaped text)) (attributes_of (present es) ++ cs) (attribute_is_found n text behind w.0 w.1) (cuts_attributes es rest cs w.2 h))

-- behind the kind stands white space, or the end of the tag
follows : (es : List (List ℕ × Option (List ℕ))) (b : ℕ) (rest : List ℕ) → Follows (b ∷ rest) → Follows (attributes_text es ++ (b ∷ rest))
follows [] b rest h = h
follows ((n, None) ∷ es) b rest h = follows es b rest h
follows ((n, Some text) ∷ es) b rest h = refl

-- what is known of each object that is written: its attributes can be written, and they describe it
pub record IsReadable (ns : Option (List ℕ)) (h : Head) : Type 0 where
  pub writable : AreWritable (attributes ns h)
  pub describes : Describe (present (attributes ns h)) h

abbrev pub IsRowReadable : ℕ → Objects → Type 0
IsRowReadable level none = Unit {0}
IsRowReadable level (node h below rest) = (level < 32) × IsReadable None h × NamesDiffer (listed below) × IsRowReadable (suc level) below × IsRowReadable level rest

-- the element of an object: its constructs, and its text cut at a place where a tag may begin
pub record IsElementCut (ns : Option (List ℕ)) (level : ℕ) (h : Head) (below : Objects) (rest : List ℕ) (cs : List Construct) : Type 0 where
  pub constructs : List Construct
  pub element : Element level (present (attributes ns h)) (record { head = h; inner = below }) constructs
  pub last : List ℕ
  pub first : Follows last
  pub bytes : (start_text ns h ++ end_text h.kind below (row_text below)) ++ rest ≡ 60 ∷ (name_of h ++ last)
  pub tag : List Construct
  pub is_tag : constructs ++ cs ≡ opening (name_of h) ∷ tag
  pub cut : Cuts InTag last tag

cut_between : (ns : Option (List ℕ)) (level : ℕ) (h : Head) (below : Objects) (rest : List ℕ) (cs : List Construct) (e : IsElementCut ns level h below rest cs) → Cuts Between ((start_text ns h ++ end_text h.kind below (row_text below)) ++ rest) (e.constructs ++ cs)
cut_between ns level h below rest cs e =
    subst (λ (bs : List ℕ). Cuts Between bs (e.constructs ++ cs)) (sym e.bytes)
    (subst (λ (ds : List Construct). Cuts Between (60 ∷ (name_of h ++ e.last)) ds) (sym e.is_tag)
    (some Between (60 ∷ (name_of h ++ e.last)) e.last (opening (name_of h)) e.tag (opening_is_found (name_of h) e.last (kind_is_written h.kind) e.first) e.cut))

empty_bytes : (n ats rest : List ℕ) → (60 ∷ (n ++ ats) ++ 47 ∷ 62 ∷ []) ++ rest ≡ 60 ∷ (n ++ (ats ++ (47 ∷ 62 ∷ rest)))
empty_bytes n ats rest = simp append_assoc

full_bytes : (n ats inner rest : List ℕ) → (60 ∷ (n ++ ats) ++ 62 ∷ (inner ++ 60 ∷ 47 ∷ (n ++ 62 ∷ []))) ++ rest ≡ 60 ∷ (n ++ (ats ++ (62 ∷ (inner ++ (60 ∷ 47 ∷ (n ++ (62 ∷ rest)))))))
full_bytes n ats inner rest = simp append_assoc

empty_pieces : (ats cs : List Construct) (o : Construct) → (o ∷ (ats ++ (empty_end ∷ []))) ++ cs ≡ o ∷ (ats ++ (empty_end ∷ cs))
empty_pieces ats cs o = simp append_assoc

full_pieces : (ats inner cs : List Construct) (o c : Construct) → (o ∷ (ats ++ (tag_end ∷ (inner ++ (c ∷ []))))) ++ cs ≡ o ∷ (ats ++ (tag_end ∷ (inner ++ (c ∷ cs))))
full_pieces ats inner cs o c = simp append_assoc

-- what is made of a row of children in front of any other text
abbrev pub RowCut : ℕ → Objects → Type 0
RowCut level row = (rest : List ℕ) (cs : List Construct) → Cuts Between rest cs → (ds : List Construct) × Content level row ds × Cuts Between (row_text row ++ rest) (ds ++ cs)

pub element_cut : (ns : Option (List ℕ)) (level : ℕ) (h : Head) (below : Objects) (rest : List ℕ) (cs : List Construct) → level < 32 → IsReadable ns h → NamesDiffer (listed below) → RowCut (suc level) below → Cuts Between rest cs → IsElementCut ns level h below rest cs
element_cut ns level h none rest cs few r names row cut =
    let es = attributes ns h in
    let ats : List Construct = attributes_of (present es) in
    record {
      constructs = opening (name_of h) ∷ (ats ++ (empty_end ∷ []));
      element = empty level h (present es) few r.describes;
      last = attributes_text es ++ (47 ∷ 62 ∷ rest);
      first = follows es 47 (62 ∷ rest) refl;
      bytes = empty_bytes (name_of h) (attributes_text es) rest;
      tag = ats ++ (empty_end ∷ cs);
      is_tag = empty_pieces ats cs (opening (name_of h));
      cut = cuts_attributes es (47 ∷ 62 ∷ rest) (empty_end ∷ cs) r.writable (some InTag (47 ∷ 62 ∷ rest) rest empty_end cs refl cut);
    }
element_cut ns level h (node g low more) rest cs few r names row cut =
    let es = attributes ns h in
    let ats : List Construct = attributes_of (present es) in
    let below : Objects = node g low more in
    let close : List ℕ = 60 ∷ 47 ∷ (name_of h ++ (62 ∷ rest)) in
    let closed : Cuts Between close (closing (name_of h) ∷ cs) = some Between close rest (closing (name_of h)) cs (closing_is_found (name_of h) rest (kind_is_written h.kind)) cut in
    let inner = row close (closing (name_of h) ∷ cs) closed in
    record {
      constructs = opening (name_of h) ∷ (ats ++ (tag_end ∷ (inner.0 ++ (closing (name_of h) ∷ []))));
      element = full level h (present es) below inner.0 few r.describes names inner.1;
      last = attributes_text es ++ (62 ∷ (row_text below ++ close));
      first = follows es 62 (row_text below ++ close) refl;
      bytes = full_bytes (name_of h) (attributes_text es) (row_text below) rest;
      tag = ats ++ (tag_end ∷ (inner.0 ++ (closing (name_of h) ∷ cs)));
      is_tag = full_pieces ats inner.0 cs (opening (name_of h)) (closing (name_of h));
      cut = cuts_attributes es (62 ∷ (row_text below ++ close)) (tag_end ∷ (inner.0 ++ (closing (name_of h) ∷ cs))) r.writable (some InTag (62 ∷ (row_text below ++ close)) (row_text below ++ close) tag_end (inner.0 ++ (closing (name_of h) ∷ cs)) refl inner.2);
    }

pub row_cut : (row : Objects) (level : ℕ) → IsRowReadable level row → RowCut level row
row_cut none level r = λ rest cs cut. ([], nothing level, cut)
row_cut (node h below more) level r = λ rest cs cut.
    let f = row_cut more level r.4 rest cs cut in
    let e = element_cut None level h below (row_text more ++ rest) (f.0 ++ cs) r.0 r.1 r.2 (row_cut below (suc level) r.3) f.2 in
    let o : Object = record { head = h; inner = below } in (
      e.constructs ++ f.0,
      child level (present (attributes None h)) o more e.constructs f.0 e.element f.1,
      subst (λ (bs : List ℕ). Cuts Between bs ((e.constructs ++ f.0) ++ cs)) (sym (append_assoc (start_text None h ++ end_text h.kind below (row_text below)) (row_text more) rest))
          (subst (λ (ds : List Construct). Cuts Between ((start_text None h ++ end_text h.kind below (row_text below)) ++ (row_text more ++ rest)) ds) (sym (append_assoc e.constructs f.0 cs))
          (cut_between None level h below (row_text more ++ rest) (f.0 ++ cs) e)),
    )

-- the canonical text of a whole document, from the very start
pub document_cut : (ns : Option (List ℕ)) (o : Object) → IsReadable ns o.head → NamesDiffer (listed o.inner) → IsRowReadable 1 o.inner
    → (cs : List Construct) × Element 0 (present (attributes ns o.head)) o cs × Cuts Start (canonical_text ns o) cs
document_cut ns o r names row =
    let e = element_cut ns 0 o.head o.inner [] [] (omega arith) r names (row_cut o.inner 1 row) (no_more Between) in
    let tag : List ℕ = 60 ∷ (name_of o.head ++ e.last) in
    let cut : Cuts Start tag (opening (name_of o.head) ∷ e.tag) = some Start tag e.last (opening (name_of o.head)) e.tag (first_opening_is_found (name_of o.head) e.last (kind_is_written o.head.kind) e.first) e.cut in
    let pieces : opening (name_of o.head) ∷ e.tag ≡ e.constructs = sym e.is_tag ∙ append-nil e.constructs in
    let bytes : tag ≡ canonical_text ns o = sym e.bytes ∙ append-nil (canonical_text ns o) in (
      e.constructs,
      e.element,
      subst (λ (bs : List ℕ). Cuts Start bs e.constructs) bytes (subst (λ (ds : List Construct). Cuts Start tag ds) pieces cut),
    )
