-- The bytes of a document's tree are cut into the constructs of a document.
use Rattle.std.proofs.Common.{◌≡◌, ℕ, suc, ◌<◌, Bool, true, false, List, [], ◌∷◌, ◌++◌, Option, Some, None, refl, sym, ap, ◌∙◌, subst, append_assoc, append-nil, arith}
use Rattle.std.specs.Prelude.{codes, map}
use Rattle.std.specs.List.{AllByRecursion, flat_map}
use Rattle.ob_scan.specs.declared.piece.Place.{Place}
use Rattle.ob_scan.specs.declared.piece.Place.TheVariants.{Start, Marked, Between, InTag, After}
use Rattle.ob_scan.specs.Constructs.{Construct, found, scan}
use Rattle.ob_scan.specs.Constructs as scanned
use Rattle.ob_object.specs.declared.head.Head.{Head}
use Rattle.ob_object.specs.Object.{Objects, none, node, Object, listed, empty_head}
use Rattle.ob_object.specs.WellFormed.{NamesDiffer}
use Rattle.ob_documents.specs.Attributes.{Describe}
use Rattle.ob_documents.specs.Grammar.{attributes_of, name_of, IsMark, AreSkipped}
use Rattle.ob_documents.specs.Grammar as grammar
use Rattle.ob_documents.specs.Spelling.{place_behind, Cuts, Spells}
use Rattle.ob_documents.specs.Spelling as spelling
use Rattle.ob_markup.specs.Characters.{is_white, is_name_byte, IsBlank, IsSpace}
use Rattle.ob_markup.specs.Markup.{Instruction, Declaration, print_attribute, EndTag, print_end_tag, IsEndTag}
use Rattle.ob_markup.specs.Pieces.{Piece, print_piece, IsPiece, RefersWell, StandsAt, EndsName, EndsSpace, MayFollow}
use Rattle.ob_markup.specs.Pieces as pieces
use Rattle.ob_markup.specs.Scanning.{told}
use Rattle.ob_markup.specs.Documents.{Spaced, print_spaced, IsSpaced, Tag, print_tag, IsTag, attributes_in, Filler, comment, instruction, print_filler, IsFiller, Element, empty, full, Content, last, filled, child, print_element, print_content, IsElement, IsContent, Misc, misc_end, misc_filler, print_misc, IsMisc, print_mark, print_declared, IsDeclared, TagSays, ElementSays, ContentSays, tag_of, IsDocumentOf}
use Rattle.ob_markup.proofs.Found.{IsOutside}
use Rattle.ob_markup.proofs.Again.{found_again}
use Rattle.ob_markup.proofs.Said.{say_tell, stands_namespace}
use Rattle.ob_markup.proofs.Trees.{pair_of, full_parts}

-- cut from each place outside tags
abbrev CutsOutside : List ℕ → List Construct → Type 0
CutsOutside bytes cs = (place : Place) → IsOutside place → Cuts place bytes cs

cut_piece : (place : Place) (p : Piece) (rest : List ℕ) (cs : List Construct) → StandsAt place p → IsPiece p → MayFollow true p rest → RefersWell p → Cuts (place_behind (told p)) rest cs → Cuts place (print_piece p ++ rest) (told p ∷ cs)
cut_piece place p rest cs s f w r h = spelling.some place (print_piece p ++ rest) rest (told p) cs (found_again place true (print_piece p ++ rest) p rest s f refl w r) h

-- ---- white space, comments and instructions

white_stands : (s : List ℕ) (place : Place) → IsOutside place → StandsAt place (pieces.white_space s)
white_stands s Start o = tt
white_stands s Marked o = tt
white_stands s Between o = tt
white_stands s InTag o = o
white_stands s After o = tt

comment_stands : (s : List ℕ) (place : Place) → IsOutside place → StandsAt place (pieces.comment s)
comment_stands s Start o = tt
comment_stands s Marked o = tt
comment_stands s Between o = tt
comment_stands s InTag o = o
comment_stands s After o = tt

instruction_stands : (i : Instruction) (place : Place) → IsOutside place → StandsAt place (pieces.instruction i)
instruction_stands i Start o = tt
instruction_stands i Marked o = tt
instruction_stands i Between o = tt
instruction_stands i InTag o = o
instruction_stands i After o = tt

name_stands : (n : List ℕ) (place : Place) → IsOutside place → StandsAt place (pieces.tag_name n)
name_stands n Start o = tt
name_stands n Marked o = tt
name_stands n Between o = tt
name_stands n InTag o = o
name_stands n After o = tt

record SkippedCut (bytes : List ℕ) (cs : List Construct) : Type 0 where
  skips : List Construct
  skipped : AreSkipped skips
  cut : CutsOutside bytes (skips ++ cs)

-- white space or nothing, before a < or the end
blank_cut : (s rest : List ℕ) (cs : List Construct) → IsBlank s → EndsSpace true rest → CutsOutside rest cs → SkippedCut (s ++ rest) cs
blank_cut [] rest cs b e h = record { skips = []; skipped = tt; cut = h }
blank_cut (x ∷ s) rest cs b e h = record {
  skips = scanned.skipped ∷ [];
  skipped = tt;
  cut = λ place o. cut_piece place (pieces.white_space (x ∷ s)) rest cs (white_stands (x ∷ s) place o) (omega arith, b) e tt (h Between tt);
}

filler_cut : (f : Filler) (rest : List ℕ) (cs : List Construct) → IsFiller f → CutsOutside rest cs → CutsOutside (print_filler f ++ rest) (scanned.skipped ∷ cs)
filler_cut (comment t) rest cs f h place o = cut_piece place (pieces.comment t) rest cs (comment_stands t place o) f tt tt (h Between tt)
filler_cut (instruction i) rest cs f h place o = cut_piece place (pieces.instruction i) rest cs (instruction_stands i place o) f tt tt (h Between tt)

filler_first : (f : Filler) (rest : List ℕ) → EndsSpace true (print_filler f ++ rest)
filler_first (comment t) rest = refl
filler_first (instruction i) rest = refl

at_bytes : (bytes other : List ℕ) (cs : List Construct) → bytes ≡ other → CutsOutside other cs → CutsOutside bytes cs
at_bytes bytes other cs e h place o = subst (λ (xs : List ℕ). Cuts place xs cs) (sym e) (h place o)

both_skipped : (ds es : List Construct) → AreSkipped ds → AreSkipped es → AreSkipped (ds ++ es)
both_skipped [] es a b = b
both_skipped (scanned.skipped ∷ ds) es a b = both_skipped ds es a b
both_skipped (scanned.opening n ∷ ds) es a b = absurd a
both_skipped (scanned.attribute n v ∷ ds) es a b = absurd a
both_skipped (scanned.tag_end ∷ ds) es a b = absurd a
both_skipped (scanned.empty_end ∷ ds) es a b = absurd a
both_skipped (scanned.closing n ∷ ds) es a b = absurd a
both_skipped (scanned.ending ∷ ds) es a b = absurd a
both_skipped (scanned.mark ∷ ds) es a b = absurd a

at_constructs : (bytes : List ℕ) (cs ds : List Construct) → cs ≡ ds → CutsOutside bytes cs → CutsOutside bytes ds
at_constructs bytes cs ds e h place o = subst (Cuts place bytes) e (h place o)

misc_cut : (m : Misc) (rest : List ℕ) (cs : List Construct) → IsMisc m → EndsSpace true rest → CutsOutside rest cs → SkippedCut (print_misc m ++ rest) cs
misc_cut (misc_end space) rest cs f e h = blank_cut space rest cs f e h
misc_cut (misc_filler space g m) rest cs f e h =
    let later = misc_cut m rest cs f.2 e h in
    let behind : CutsOutside (print_filler g ++ (print_misc m ++ rest)) (scanned.skipped ∷ (later.skips ++ cs)) = filler_cut g (print_misc m ++ rest) (later.skips ++ cs) f.1 later.cut in
    let white = blank_cut space (print_filler g ++ (print_misc m ++ rest)) (scanned.skipped ∷ (later.skips ++ cs)) f.0 (filler_first g (print_misc m ++ rest)) behind in
    let bytes : (space ++ (print_filler g ++ print_misc m)) ++ rest ≡ space ++ (print_filler g ++ (print_misc m ++ rest)) = simp append_assoc in
    record {
      skips = white.skips ++ (scanned.skipped ∷ later.skips);
      skipped = both_skipped white.skips (scanned.skipped ∷ later.skips) white.skipped later.skipped;
      cut = at_bytes ((space ++ (print_filler g ++ print_misc m)) ++ rest) (space ++ (print_filler g ++ (print_misc m ++ rest))) ((white.skips ++ (scanned.skipped ∷ later.skips)) ++ cs) bytes
          (at_constructs (space ++ (print_filler g ++ (print_misc m ++ rest))) (white.skips ++ (scanned.skipped ∷ (later.skips ++ cs))) ((white.skips ++ (scanned.skipped ∷ later.skips)) ++ cs) (sym (append_assoc white.skips (scanned.skipped ∷ later.skips) cs)) white.cut);
    }

-- ---- tags

attributes_cut : (attributes : List Spaced) (rest : List ℕ) (cs : List Construct) → AllByRecursion IsSpaced attributes → Cuts InTag rest cs → Cuts InTag (flat_map print_spaced attributes ++ rest) (attributes_of (map pair_of attributes) ++ cs)
attributes_cut [] rest cs f h = h
attributes_cut (a ∷ attributes) rest cs f h =
    let behind = attributes_cut attributes rest cs f.1 h in
    let bytes : (print_spaced a ++ flat_map print_spaced attributes) ++ rest ≡ print_spaced a ++ (flat_map print_spaced attributes ++ rest) = append_assoc (print_spaced a) (flat_map print_spaced attributes) rest in
    subst (λ (xs : List ℕ). Cuts InTag xs (scanned.attribute a.attribute.name a.attribute.value ∷ (attributes_of (map pair_of attributes) ++ cs))) (sym bytes)
    (cut_piece InTag (pieces.attribute a.space a.attribute) (flat_map print_spaced attributes ++ rest) (attributes_of (map pair_of attributes) ++ cs) tt (f.0.space, f.0.attribute) tt f.0.references behind)

white_ends : (b : ℕ) → is_white b ≡ true → is_name_byte b ≡ false
white_ends b e = rw e refl

space_ends : (s : List ℕ) (b : ℕ) (xs : List ℕ) → IsBlank s → is_name_byte b ≡ false → EndsName (s ++ (b ∷ xs))
space_ends [] b xs w e = e
space_ends (x ∷ s) b xs w e = white_ends x w.0

spaced_ends : (space xs : List ℕ) → IsSpace space → EndsName (space ++ xs)
spaced_ends [] xs s = absurd (omega (arith, s.0))
spaced_ends (x ∷ space) xs s = white_ends x s.1.0

at_end : (xs ys : List ℕ) → xs ≡ ys → EndsName ys → EndsName xs
at_end xs ys e h = subst EndsName (sym e) h

tag_ends : (attributes : List Spaced) (space : List ℕ) (b : ℕ) (xs : List ℕ) → AllByRecursion IsSpaced attributes → IsBlank space → is_name_byte b ≡ false → EndsName (flat_map print_spaced attributes ++ (space ++ (b ∷ xs)))
tag_ends [] space b xs f w e = space_ends space b xs w e
tag_ends (a ∷ attributes) space b xs f w e =
    at_end ((print_spaced a ++ flat_map print_spaced attributes) ++ (space ++ (b ∷ xs))) (a.space ++ (print_attribute a.attribute ++ (flat_map print_spaced attributes ++ (space ++ (b ∷ xs)))))
    (append_assoc (print_spaced a) (flat_map print_spaced attributes) (space ++ (b ∷ xs)) ∙ append_assoc a.space (print_attribute a.attribute) (flat_map print_spaced attributes ++ (space ++ (b ∷ xs))))
    (spaced_ends a.space (print_attribute a.attribute ++ (flat_map print_spaced attributes ++ (space ++ (b ∷ xs)))) f.0.space)

-- a tag whose end is cut
tag_cut : (t : Tag) (b : ℕ) (xs : List ℕ) (cs : List Construct) → IsTag t → is_name_byte b ≡ false → Cuts InTag (t.space ++ (b ∷ xs)) cs
    → CutsOutside (print_tag t ++ (b ∷ xs)) (scanned.opening t.name ∷ (attributes_of (attributes_in t) ++ cs))
tag_cut t b xs cs f e h place o =
    let behind : Cuts InTag (flat_map print_spaced t.attributes ++ (t.space ++ (b ∷ xs))) (attributes_of (attributes_in t) ++ cs) = attributes_cut t.attributes (t.space ++ (b ∷ xs)) cs f.attributes h in
    let bytes : print_tag t ++ (b ∷ xs) ≡ (60 ∷ t.name) ++ (flat_map print_spaced t.attributes ++ (t.space ++ (b ∷ xs))) = simp append_assoc in
    subst (λ (ys : List ℕ). Cuts place ys (scanned.opening t.name ∷ (attributes_of (attributes_in t) ++ cs))) (sym bytes)
    (cut_piece place (pieces.tag_name t.name) (flat_map print_spaced t.attributes ++ (t.space ++ (b ∷ xs))) (attributes_of (attributes_in t) ++ cs) (name_stands t.name place o) f.name (tag_ends t.attributes t.space b xs f.attributes f.space e) tt behind)

empty_end_cut : (space rest : List ℕ) (cs : List Construct) → IsBlank space → CutsOutside rest cs → Cuts InTag (space ++ (47 ∷ 62 ∷ rest)) (scanned.empty_end ∷ cs)
empty_end_cut space rest cs b h =
    subst (λ (ys : List ℕ). Cuts InTag ys (scanned.empty_end ∷ cs)) (append_assoc space (codes "/>") rest) (cut_piece InTag (pieces.empty_end space) rest cs tt b tt tt (h Between tt))

tag_end_cut : (space rest : List ℕ) (cs : List Construct) → IsBlank space → CutsOutside rest cs → Cuts InTag (space ++ (62 ∷ rest)) (scanned.tag_end ∷ cs)
tag_end_cut space rest cs b h =
    subst (λ (ys : List ℕ). Cuts InTag ys (scanned.tag_end ∷ cs)) (append_assoc space (codes ">") rest) (cut_piece InTag (pieces.tag_end space) rest cs tt b tt tt (h Between tt))

end_stands : (t : EndTag) (place : Place) → IsOutside place → StandsAt place (pieces.end_tag t)
end_stands t Start o = tt
end_stands t Marked o = tt
end_stands t Between o = tt
end_stands t InTag o = o
end_stands t After o = tt

describes : (t : Tag) (h : Head) → TagSays t h → Describe (attributes_in t) h
describes t h s = record { distinct = s.distinct; told = say_tell h.kind (attributes_in t) (empty_head h.kind) h s.said; fits = s.fits }

-- ---- elements

record ElementCut (level : ℕ) (tag : Tag) (h : Head) (inner : Objects) (bytes rest : List ℕ) : Type 0 where
  constructs : List Construct
  element : grammar.Element level (attributes_in tag) (record { head = h; inner = inner }) constructs
  cut : (cs : List Construct) → CutsOutside rest cs → CutsOutside (bytes ++ rest) (constructs ++ cs)

record ContentCut (level : ℕ) (row : Objects) (bytes rest : List ℕ) : Type 0 where
  constructs : List Construct
  content : grammar.Content level row constructs
  cut : (cs : List Construct) → CutsOutside rest cs → CutsOutside (bytes ++ rest) (constructs ++ cs)

-- skipped constructs before content
paused : (level : ℕ) (row : Objects) (ds cs : List Construct) → AreSkipped ds → grammar.Content level row cs → grammar.Content level row (ds ++ cs)
paused level row [] cs a c = c
paused level row (scanned.skipped ∷ ds) cs a c = grammar.pause level row (ds ++ cs) (paused level row ds cs a c)
paused level row (scanned.opening n ∷ ds) cs a c = absurd a
paused level row (scanned.attribute n v ∷ ds) cs a c = absurd a
paused level row (scanned.tag_end ∷ ds) cs a c = absurd a
paused level row (scanned.empty_end ∷ ds) cs a c = absurd a
paused level row (scanned.closing n ∷ ds) cs a c = absurd a
paused level row (scanned.ending ∷ ds) cs a c = absurd a
paused level row (scanned.mark ∷ ds) cs a c = absurd a

-- the skips of white space, whatever is cut behind it
abbrev skips_of : List ℕ → List Construct
skips_of [] = []
skips_of (x ∷ s) = scanned.skipped ∷ []

skips_skipped : (s : List ℕ) → AreSkipped (skips_of s)
skips_skipped [] = tt
skips_skipped (x ∷ s) = tt

space_cut : (s rest : List ℕ) (cs : List Construct) → IsBlank s → EndsSpace true rest → CutsOutside rest cs → CutsOutside (s ++ rest) (skips_of s ++ cs)
space_cut [] rest cs b e h place o = h place o
space_cut (x ∷ s) rest cs b e h place o = cut_piece place (pieces.white_space (x ∷ s)) rest cs (white_stands (x ∷ s) place o) (omega arith, b) e tt (h Between tt)

element_first : (e : Element) (rest : List ℕ) → EndsSpace true (print_element e ++ rest)
element_first (empty tag) rest = refl
element_first (full tag content end) rest = refl

empty_constructs : (n : List ℕ) (ats cs : List Construct) → scanned.opening n ∷ (ats ++ (scanned.empty_end ∷ cs)) ≡ (scanned.opening n ∷ (ats ++ (scanned.empty_end ∷ []))) ++ cs
empty_constructs n ats cs = simp append_assoc

full_constructs : (n : List ℕ) (ats inner cs : List Construct) → scanned.opening n ∷ (ats ++ (scanned.tag_end ∷ (inner ++ (scanned.closing n ∷ cs)))) ≡ (scanned.opening n ∷ (ats ++ (scanned.tag_end ∷ (inner ++ (scanned.closing n ∷ []))))) ++ cs
full_constructs n ats inner cs = simp append_assoc

named : (t : Tag) (h : Head) (m : List ℕ) → t.name ≡ name_of h → m ≡ t.name → m ≡ name_of h
named t h m e f = f ∙ e

no_inner : (level : ℕ) (tag : Tag) (h : Head) (inner : Objects) (bytes rest : List ℕ) → inner ≡ none → ElementCut level tag h none bytes rest → ElementCut level tag h inner bytes rest
no_inner level tag h inner bytes rest e c = subst (λ (i : Objects). ElementCut level tag h i bytes rest) (sym e) c

empty_cut : (level : ℕ) (tag : Tag) (h : Head) (rest : List ℕ) → IsTag tag → level < 32 → TagSays tag h → ElementCut level tag h none (print_tag tag ++ codes "/>") rest
empty_cut level tag h rest f few s = record {
  constructs = scanned.opening (name_of h) ∷ (attributes_of (attributes_in tag) ++ (scanned.empty_end ∷ []));
  element = grammar.empty level h (attributes_in tag) few (describes tag h s);
  cut = λ cs k.
      let cut = tag_cut tag 47 (62 ∷ rest) (scanned.empty_end ∷ cs) f refl (empty_end_cut tag.space rest cs f.space k) in
      let names : scanned.opening tag.name ∷ (attributes_of (attributes_in tag) ++ (scanned.empty_end ∷ cs)) ≡ (scanned.opening (name_of h) ∷ (attributes_of (attributes_in tag) ++ (scanned.empty_end ∷ []))) ++ cs =
      ap (λ (n : List ℕ). scanned.opening n ∷ (attributes_of (attributes_in tag) ++ (scanned.empty_end ∷ cs))) s.name ∙ empty_constructs (name_of h) (attributes_of (attributes_in tag)) cs in
      at_bytes ((print_tag tag ++ codes "/>") ++ rest) (print_tag tag ++ (47 ∷ 62 ∷ rest)) ((scanned.opening (name_of h) ∷ (attributes_of (attributes_in tag) ++ (scanned.empty_end ∷ []))) ++ cs) (append_assoc (print_tag tag) (codes "/>") rest)
      (at_constructs (print_tag tag ++ (47 ∷ 62 ∷ rest)) (scanned.opening tag.name ∷ (attributes_of (attributes_in tag) ++ (scanned.empty_end ∷ cs))) ((scanned.opening (name_of h) ∷ (attributes_of (attributes_in tag) ++ (scanned.empty_end ∷ []))) ++ cs) names cut);
}

full_cut : (level : ℕ) (tag : Tag) (content : List ℕ) (end : EndTag) (h : Head) (inner : Objects) (rest : List ℕ) → IsTag tag → level < 32 → TagSays tag h → NamesDiffer (listed inner) → IsEndTag end → end.name ≡ tag.name
    → ContentCut (suc level) inner content (print_end_tag end ++ rest) → ElementCut level tag h inner (print_tag tag ++ (codes ">" ++ (content ++ print_end_tag end))) rest
full_cut level tag content end h inner rest f few s names g e c = record {
  constructs = scanned.opening (name_of h) ∷ (attributes_of (attributes_in tag) ++ (scanned.tag_end ∷ (c.constructs ++ (scanned.closing (name_of h) ∷ []))));
  element = grammar.full level h (attributes_in tag) inner c.constructs few (describes tag h s) names c.content;
  cut = λ cs k.
      let end_cut : CutsOutside (print_end_tag end ++ rest) (scanned.closing end.name ∷ cs) = λ place o. cut_piece place (pieces.end_tag end) rest cs (end_stands end place o) g tt tt (k Between tt) in
      let content_cut = c.cut (scanned.closing end.name ∷ cs) end_cut in
      let cut = tag_cut tag 62 (content ++ (print_end_tag end ++ rest)) (scanned.tag_end ∷ (c.constructs ++ (scanned.closing end.name ∷ cs))) f refl (tag_end_cut tag.space (content ++ (print_end_tag end ++ rest)) (c.constructs ++ (scanned.closing end.name ∷ cs)) f.space content_cut) in
      let constructs : scanned.opening tag.name ∷ (attributes_of (attributes_in tag) ++ (scanned.tag_end ∷ (c.constructs ++ (scanned.closing end.name ∷ cs)))) ≡ (scanned.opening (name_of h) ∷ (attributes_of (attributes_in tag) ++ (scanned.tag_end ∷ (c.constructs ++ (scanned.closing (name_of h) ∷ []))))) ++ cs =
      ap (λ (n : List ℕ). scanned.opening n ∷ (attributes_of (attributes_in tag) ++ (scanned.tag_end ∷ (c.constructs ++ (scanned.closing end.name ∷ cs))))) s.name
      ∙ ap (λ (n : List ℕ). scanned.opening (name_of h) ∷ (attributes_of (attributes_in tag) ++ (scanned.tag_end ∷ (c.constructs ++ (scanned.closing n ∷ cs))))) (named tag h end.name s.name e)
      ∙ full_constructs (name_of h) (attributes_of (attributes_in tag)) c.constructs cs in
      let bytes : (print_tag tag ++ (codes ">" ++ (content ++ print_end_tag end))) ++ rest ≡ print_tag tag ++ (62 ∷ (content ++ (print_end_tag end ++ rest))) = sym (full_parts (print_tag tag) content (print_end_tag end) rest) ∙ append_assoc (print_tag tag) (codes ">") (content ++ (print_end_tag end ++ rest)) in
      at_bytes ((print_tag tag ++ (codes ">" ++ (content ++ print_end_tag end))) ++ rest) (print_tag tag ++ (62 ∷ (content ++ (print_end_tag end ++ rest)))) ((scanned.opening (name_of h) ∷ (attributes_of (attributes_in tag) ++ (scanned.tag_end ∷ (c.constructs ++ (scanned.closing (name_of h) ∷ []))))) ++ cs) bytes
      (at_constructs (print_tag tag ++ (62 ∷ (content ++ (print_end_tag end ++ rest)))) (scanned.opening tag.name ∷ (attributes_of (attributes_in tag) ++ (scanned.tag_end ∷ (c.constructs ++ (scanned.closing end.name ∷ cs))))) ((scanned.opening (name_of h) ∷ (attributes_of (attributes_in tag) ++ (scanned.tag_end ∷ (c.constructs ++ (scanned.closing (name_of h) ∷ []))))) ++ cs) constructs cut);
}

nothing_cut : (level : ℕ) (space : List ℕ) (row : Objects) (rest : List ℕ) → IsBlank space → row ≡ none → EndsSpace true rest → ContentCut level row space rest
nothing_cut level space row rest b e w = record {
  constructs = skips_of space ++ [];
  content = subst (λ (r : Objects). grammar.Content level r (skips_of space ++ [])) (sym e) (paused level none (skips_of space) [] (skips_skipped space) (grammar.nothing level));
  cut = λ cs k. at_constructs (space ++ rest) (skips_of space ++ cs) ((skips_of space ++ []) ++ cs) (ap (λ (ds : List Construct). ds ++ cs) (sym (append-nil (skips_of space)))) (space_cut space rest cs b w k);
}

filled_parts : (space f content rest : List ℕ) → (space ++ (f ++ content)) ++ rest ≡ space ++ (f ++ (content ++ rest))
filled_parts space f content rest = simp append_assoc

filled_cut : (level : ℕ) (space : List ℕ) (f : Filler) (content : List ℕ) (row : Objects) (rest : List ℕ) → IsBlank space → IsFiller f → ContentCut level row content rest → ContentCut level row (space ++ (print_filler f ++ content)) rest
filled_cut level space f content row rest b g c = record {
  constructs = skips_of space ++ (scanned.skipped ∷ c.constructs);
  content = paused level row (skips_of space) (scanned.skipped ∷ c.constructs) (skips_skipped space) (grammar.pause level row c.constructs c.content);
  cut = λ cs k.
      let cut = space_cut space (print_filler f ++ (content ++ rest)) (scanned.skipped ∷ (c.constructs ++ cs)) b (filler_first f (content ++ rest)) (filler_cut f (content ++ rest) (c.constructs ++ cs) g (c.cut cs k)) in
      at_bytes ((space ++ (print_filler f ++ content)) ++ rest) (space ++ (print_filler f ++ (content ++ rest))) ((skips_of space ++ (scanned.skipped ∷ c.constructs)) ++ cs) (filled_parts space (print_filler f) content rest)
      (at_constructs (space ++ (print_filler f ++ (content ++ rest))) (skips_of space ++ (scanned.skipped ∷ (c.constructs ++ cs))) ((skips_of space ++ (scanned.skipped ∷ c.constructs)) ++ cs) (sym (append_assoc (skips_of space) (scanned.skipped ∷ c.constructs) cs)) cut);
}

child_constructs : (ds es fs cs : List Construct) → ds ++ (es ++ (fs ++ cs)) ≡ (ds ++ (es ++ fs)) ++ cs
child_constructs ds es fs cs = simp append_assoc

child_cut : (level : ℕ) (space : List ℕ) (e : Element) (h : Head) (inner rows row : Objects) (content rest : List ℕ) → IsBlank space → row ≡ node h inner rows → ElementCut level (tag_of e) h inner (print_element e) (content ++ rest)
    → ContentCut level rows content rest → ContentCut level row (space ++ (print_element e ++ content)) rest
child_cut level space e h inner rows row content rest b same el c =
    let all : grammar.Content level (node h inner rows) (skips_of space ++ (el.constructs ++ c.constructs)) =
    paused level (node h inner rows) (skips_of space) (el.constructs ++ c.constructs) (skips_skipped space) (grammar.child level (attributes_in (tag_of e)) (record { head = h; inner = inner }) rows el.constructs c.constructs el.element c.content) in
    record {
      constructs = skips_of space ++ (el.constructs ++ c.constructs);
      content = subst (λ (r : Objects). grammar.Content level r (skips_of space ++ (el.constructs ++ c.constructs))) (sym same) all;
      cut = λ cs k.
          let cut = space_cut space (print_element e ++ (content ++ rest)) (el.constructs ++ (c.constructs ++ cs)) b (element_first e (content ++ rest)) (el.cut (c.constructs ++ cs) (c.cut cs k)) in
          at_bytes ((space ++ (print_element e ++ content)) ++ rest) (space ++ (print_element e ++ (content ++ rest))) ((skips_of space ++ (el.constructs ++ c.constructs)) ++ cs) (filled_parts space (print_element e) content rest)
          (at_constructs (space ++ (print_element e ++ (content ++ rest))) (skips_of space ++ (el.constructs ++ (c.constructs ++ cs))) ((skips_of space ++ (el.constructs ++ c.constructs)) ++ cs) (child_constructs (skips_of space) el.constructs c.constructs cs) cut);
    }

end_first : (t : EndTag) (rest : List ℕ) → EndsSpace true (print_end_tag t ++ rest)
end_first t rest = refl

mutual
  element_cut : (e : Element) (level : ℕ) (h : Head) (inner : Objects) (rest : List ℕ) → IsElement e → ElementSays level e h inner → ElementCut level (tag_of e) h inner (print_element e) rest
  element_cut (empty tag) level h inner rest f s = no_inner level tag h inner (print_tag tag ++ codes "/>") rest s.2 (empty_cut level tag h rest f s.0 s.1)
  element_cut (full tag content end) level h inner rest f s =
      full_cut level tag (print_content content) end h inner rest f.0 s.0 s.1 s.2 f.2 f.3 (content_cut content (suc level) inner (print_end_tag end ++ rest) f.1 s.3 (end_first end rest))

  content_cut : (c : Content) (level : ℕ) (row : Objects) (rest : List ℕ) → IsContent c → ContentSays level c row → EndsSpace true rest → ContentCut level row (print_content c) rest
  content_cut (last space) level row rest f s w = nothing_cut level space row rest f s w
  content_cut (filled space g content) level row rest f s w = filled_cut level space g (print_content content) row rest f.0 f.1 (content_cut content level row rest f.2 s w)
  content_cut (child space e content) level row rest f s w =
      child_cut level space e s.0 s.1 s.2 row (print_content content) rest f.0 s.3 (element_cut e level s.0 s.1 (print_content content ++ rest) f.1 s.4) (content_cut content level s.2 rest f.2 s.5 w)

-- ---- documents

no_rest : CutsOutside [] []
no_rest place o = spelling.none place

-- the declaration, or none, before what is cut
record DeclaredCut (place : Place) (bytes : List ℕ) (cs : List Construct) : Type 0 where
  skips : List Construct
  skipped : AreSkipped skips
  cut : Cuts place bytes (skips ++ cs)

abbrev MayDeclare : Place → Type 0
MayDeclare place = IsOutside place × ((d : Declaration) → StandsAt place (pieces.declaration d))

declared_cut : (place : Place) (o : Option Declaration) (rest : List ℕ) (cs : List Construct) → MayDeclare place → IsDeclared o → CutsOutside rest cs → DeclaredCut place (print_declared o ++ rest) cs
declared_cut place None rest cs m f h = record { skips = []; skipped = tt; cut = h place m.0 }
declared_cut place (Some d) rest cs m f h = record { skips = scanned.skipped ∷ []; skipped = tt; cut = cut_piece place (pieces.declaration d) rest cs (m.1 d) f tt tt (h Between tt) }

record MarkCut (bytes : List ℕ) (cs : List Construct) : Type 0 where
  first : List Construct
  is_mark : IsMark first
  cut : Cuts Start bytes (first ++ cs)

mark_cut : (b : Bool) (rest : List ℕ) (cs : List Construct) → Cuts Start rest cs → Cuts Marked rest cs → MarkCut (print_mark b ++ rest) cs
mark_cut true rest cs s m = record { first = scanned.mark ∷ []; is_mark = tt; cut = cut_piece Start pieces.byte_order_mark rest cs tt tt tt tt m }
mark_cut false rest cs s m = record { first = []; is_mark = tt; cut = s }

skips_are : (place other : Place) (o : Option Declaration) (rest : List ℕ) (cs : List Construct) (m : MayDeclare place) (n : MayDeclare other) (f : IsDeclared o) (h : CutsOutside rest cs) → (declared_cut place o rest cs m f h).skips ≡ (declared_cut other o rest cs n f h).skips
unfolding declared_cut
skips_are place other None rest cs m n f h = refl
skips_are place other (Some d) rest cs m n f h = refl

pub spelled_of : (bytes : List ℕ) (ns : Option (List ℕ)) (o : Object) → IsDocumentOf bytes ns o → Spells bytes ns o
spelled_of bytes ns o w =
    let d = w.document in
    let last_cut = misc_cut d.behind [] [] w.form.behind refl no_rest in
    let root = element_cut d.root 0 o.head o.inner (print_misc d.behind ++ []) w.form.root w.says in
    let root_cut : CutsOutside (print_element d.root ++ (print_misc d.behind ++ [])) (root.constructs ++ (last_cut.skips ++ [])) = root.cut (last_cut.skips ++ []) last_cut.cut in
    let prolog = misc_cut d.prolog (print_element d.root ++ (print_misc d.behind ++ [])) (root.constructs ++ (last_cut.skips ++ [])) w.form.prolog (element_first d.root (print_misc d.behind ++ [])) root_cut in
    let at_start = declared_cut Start d.declaration (print_misc d.prolog ++ (print_element d.root ++ (print_misc d.behind ++ []))) (prolog.skips ++ (root.constructs ++ (last_cut.skips ++ []))) (tt, λ x. tt) w.form.declaration prolog.cut in
    let at_mark = declared_cut Marked d.declaration (print_misc d.prolog ++ (print_element d.root ++ (print_misc d.behind ++ []))) (prolog.skips ++ (root.constructs ++ (last_cut.skips ++ []))) (tt, λ x. tt) w.form.declaration prolog.cut in
    let same : at_mark.skips ≡ at_start.skips = skips_are Marked Start d.declaration (print_misc d.prolog ++ (print_element d.root ++ (print_misc d.behind ++ []))) (prolog.skips ++ (root.constructs ++ (last_cut.skips ++ []))) (tt, λ x. tt) (tt, λ x. tt) w.form.declaration prolog.cut in
    let marked_cut : Cuts Marked (print_declared d.declaration ++ (print_misc d.prolog ++ (print_element d.root ++ (print_misc d.behind ++ [])))) (at_start.skips ++ (prolog.skips ++ (root.constructs ++ (last_cut.skips ++ [])))) =
    subst (λ (ds : List Construct). Cuts Marked (print_declared d.declaration ++ (print_misc d.prolog ++ (print_element d.root ++ (print_misc d.behind ++ [])))) (ds ++ (prolog.skips ++ (root.constructs ++ (last_cut.skips ++ []))))) same at_mark.cut in
    let m = mark_cut d.marked (print_declared d.declaration ++ (print_misc d.prolog ++ (print_element d.root ++ (print_misc d.behind ++ [])))) (at_start.skips ++ (prolog.skips ++ (root.constructs ++ (last_cut.skips ++ [])))) at_start.cut marked_cut in
    let whole : bytes ≡ print_mark d.marked ++ (print_declared d.declaration ++ (print_misc d.prolog ++ (print_element d.root ++ (print_misc d.behind ++ [])))) =
    w.printed ∙ ap (λ (xs : List ℕ). print_mark d.marked ++ (print_declared d.declaration ++ (print_misc d.prolog ++ (print_element d.root ++ xs)))) (sym (append-nil (print_misc d.behind))) in
    record {
      small = w.small;
      constructs = m.first ++ (at_start.skips ++ (prolog.skips ++ (root.constructs ++ (last_cut.skips ++ []))));
      cut = subst (λ (xs : List ℕ). Cuts Start xs (m.first ++ (at_start.skips ++ (prolog.skips ++ (root.constructs ++ (last_cut.skips ++ [])))))) (sym whole) m.cut;
      is_document = record {
        first = m.first;
        before = at_start.skips ++ prolog.skips;
        attributes = attributes_in (tag_of d.root);
        element = root.constructs;
        after = last_cut.skips ++ [];
        is_mark = m.is_mark;
        before_skipped = both_skipped at_start.skips prolog.skips at_start.skipped prolog.skipped;
        namespace = stands_namespace (attributes_in (tag_of d.root)) ns w.namespace;
        is_element = root.element;
        after_skipped = both_skipped last_cut.skips [] last_cut.skipped tt;
        parts = ap (λ (ds : List Construct). m.first ++ ds) (sym (append_assoc at_start.skips prolog.skips (root.constructs ++ (last_cut.skips ++ []))));
      };
    }
