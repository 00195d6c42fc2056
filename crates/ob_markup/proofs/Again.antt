-- Each piece that stands at a place is found there.
use Rattle.std.proofs.Common.{◌≡◌, ◌≢◌, ℕ, ◌+◌, ◌<◌, ◌⊎◌, inl, inr, Bool, true, false, cond, eqb, List, [], ◌∷◌, ◌++◌, length, Result, Ok, Err, refl, sym, ap, ◌∙◌, subst, append_assoc, length-append, arith}
use Rattle.std.specs.Prelude.{codes}
use Rattle.std.specs.Str.{str_to_ascii_lowercase}
use Rattle.std.proofs.lemmas.Bool.{eqb-true}
use Rattle.std.proofs.lemmas.Bool.Decides.{nat_tests, eqb_tells}
use Rattle.ob_scan.specs.declared.stop.Stop.{Stop}
use Rattle.ob_scan.specs.declared.stop.Stop.TheVariants.{Malformed}
use Rattle.ob_scan.specs.declared.reading.Ends.TheVariants.{Name}
use Rattle.ob_scan.specs.declared.piece.Place.{Place}
use Rattle.ob_scan.specs.declared.piece.Place.TheVariants.{Start, Marked, Between, InTag, After}
use Rattle.ob_scan.specs.Reading.{◌>>=◌, is_space, literal, behind_spaces}
use Rattle.ob_scan.specs.Constructs.{Construct, Scanned, found, refused, comment_at, instruction_at, end_tag_at, tag_name_at, markup_at, attribute_at, bad_reference, declaration_at, one_space, declares, mark_at, judged, checked, attribute_found, empty_end_at, tag_part, in_tag, blank, outside, behind_element, declared, behind_mark, marked, scan}
use Rattle.ob_scan.specs.Constructs as scanned
use Rattle.ob_markup.specs.Characters.{AllPass, IsBlank, IsSpace, is_name_byte, IsName, is_target_byte}
use Rattle.ob_markup.specs.Markup.{IsComment, Instruction, BeginsWhite, IsInstruction, Declaration, print_declaration, IsDeclaration, IsTagName, Attribute, print_attribute, IsAttribute, EndTag, IsEndTag}
use Rattle.ob_markup.specs.Pieces.{Piece, byte_order_mark, declaration, white_space, comment, instruction, tag_name, attribute, tag_end, empty_end, end_tag, input_end, print_piece, IsPiece, RefersWell, StandsAt, EndsSpace, IsEnd, MayFollow}
use Rattle.ob_markup.specs.Scanning.{told, IsRead, FindsPieces}
use Rattle.ob_markup.proofs.Literals.{MaybeDark, behind_again}
use Rattle.ob_markup.proofs.Runs.{EndsRun}
use Rattle.ob_markup.proofs.Forms.{comment_again, comment_print, instruction_again, instruction_print, tag_name_again, end_tag_again, end_tag_print, attribute_bytes, attribute_again, attribute_print}
use Rattle.ob_markup.proofs.Declarations.{declaration_again}
use Rattle.ob_markup.proofs.References.{no_bad_again}
use Rattle.ob_markup.proofs.Found.{IsOutside, name_ends, found_ok}

-- bytes that begin a construct outside tags, and no declaration
pub record Outside (ended : Bool) (bytes : List ℕ) (c : Construct) (rest : List ℕ) : Type 0 where
  first : ℕ
  behind : List ℕ
  parts : bytes ≡ first ∷ behind
  no_mark : mark_at bytes ≡ Err Malformed
  no_declaration : declares bytes ≡ Err Malformed
  is : outside ended bytes ≡ found c rest

outside_scan : (place : Place) (ended : Bool) (bytes : List ℕ) (c : Construct) (rest : List ℕ) → IsOutside place → Outside ended bytes c rest → scan place ended bytes ≡ found c rest
outside_scan Start ended bytes c rest o h = ap (marked ended bytes) h.no_mark ∙ ap (declared ended bytes) h.no_declaration ∙ h.is
outside_scan Marked ended bytes c rest o h = ap (declared ended bytes) h.no_declaration ∙ h.is
outside_scan Between ended bytes c rest o h = h.is
outside_scan InTag ended bytes c rest o h = absurd o
outside_scan After ended bytes c rest o h = ap (behind_element ended) h.parts ∙ ap (outside ended) (sym h.parts) ∙ h.is

not_in_tag : (place : Place) (p : Piece) → (StandsAt InTag p → ⊥) → StandsAt place p → IsOutside place
not_in_tag Start p n s = tt
not_in_tag Marked p n s = tt
not_in_tag Between p n s = tt
not_in_tag InTag p n s = n s
not_in_tag After p n s = tt

-- ---- comments, instructions, tags

at_bytes : (ended : Bool) (bytes other : List ℕ) (c : Construct) (rest : List ℕ) → bytes ≡ other → Outside ended other c rest → Outside ended bytes c rest
at_bytes ended bytes other c rest e h = subst (λ (xs : List ℕ). Outside ended xs c rest) (sym e) h

judged_ok : (ended : Bool) (bytes : List ℕ) (place : ℕ) (r : Result (Construct × List ℕ) Stop) (c : Construct) (rest : List ℕ) → r ≡ Ok (c, rest) → judged ended bytes place r ≡ found c rest
judged_ok ended bytes place r c rest e = ap (judged ended bytes place) e

comment_outside : (ended : Bool) (text rest : List ℕ) → IsComment text → Outside ended (60 ∷ 33 ∷ 45 ∷ 45 ∷ (text ++ (45 ∷ 45 ∷ 62 ∷ rest))) scanned.skipped rest
unfolding declares
comment_outside ended text rest form =
    let behind : List ℕ = 33 ∷ 45 ∷ 45 ∷ (text ++ (45 ∷ 45 ∷ 62 ∷ rest)) in
    record { first = 60; behind = behind; parts = refl; no_mark = refl; no_declaration = refl; is = judged_ok ended (60 ∷ behind) 0 (markup_at behind) scanned.skipped rest (comment_again text rest form) }

end_tag_outside : (ended : Bool) (t : EndTag) (rest : List ℕ) → IsEndTag t → Outside ended (60 ∷ 47 ∷ (t.name ++ (t.space ++ (62 ∷ rest)))) (scanned.closing t.name) rest
unfolding declares
end_tag_outside ended t rest form =
    let behind : List ℕ = 47 ∷ (t.name ++ (t.space ++ (62 ∷ rest))) in
    record { first = 60; behind = behind; parts = refl; no_mark = refl; no_declaration = refl; is = judged_ok ended (60 ∷ behind) 0 (markup_at behind) (scanned.closing t.name) rest (end_tag_again t rest form) }

-- what follows a target that isn't xml is no declaration's
target_apart : (b c : ℕ) → is_target_byte b ≡ true → (is_space c ≡ true) ⊎ (c ≡ 63) → eqb c b ≡ false
target_apart b c h (inl w) = grind (arith, nat_tests)
target_apart b c h (inr e) = grind (arith, nat_tests)

-- white space, or the ? of the end
abbrev EndsTarget : List ℕ → Type 0
EndsTarget [] = ⊥
EndsTarget (c ∷ bytes) = (is_space c ≡ true) ⊎ (c ≡ 63)

no_xml_byte : (c x : ℕ) (text bytes : List ℕ) → is_target_byte x ≡ true → (is_space c ≡ true) ⊎ (c ≡ 63) → literal (x ∷ text) (c ∷ bytes) ≡ Err Malformed
no_xml_byte c x text bytes t e = rw (target_apart x c t e) refl

-- a byte that begins what isn't read
first_apart : (c b : ℕ) (text bytes : List ℕ) → eqb b c ≡ false → (literal (c ∷ text) (b ∷ bytes) >>= one_space) ≡ Err Malformed
first_apart c b text bytes e = rw e refl

first_same : (c b : ℕ) (text bytes : List ℕ) → eqb b c ≡ true → (literal (c ∷ text) (b ∷ bytes) >>= one_space) ≡ (literal text bytes >>= one_space)
first_same c b text bytes e = rw e refl

not_space : (b : ℕ) → is_target_byte b ≡ true → is_space b ≡ false
not_space b e = grind (arith, nat_tests)

read_target : (text target more : List ℕ) → AllPass is_target_byte text → AllPass is_target_byte target → EndsTarget more → target ≢ text → (literal text (target ++ more) >>= one_space) ≡ Err Malformed
read_target [] [] more x t e n = absurd (n refl)
read_target [] (b ∷ target) more x t e n = rw (not_space b t.0) refl
read_target (c ∷ text) [] [] x t e n = absurd e
read_target (c ∷ text) [] (m ∷ more) x t e n = first_apart c m text more (target_apart c m x.0 e)
read_target (c ∷ text) (b ∷ target) more x t e n = on (eqb b c) refl (λ m. read_target text target more x.1 t.1 e m)
  where
    on : (v : Bool) → eqb b c ≡ v → (target ≢ text → (literal text (target ++ more) >>= one_space) ≡ Err Malformed) → (literal (c ∷ text) (b ∷ (target ++ more)) >>= one_space) ≡ Err Malformed
    on true p later =
        let same : b ≡ c = eqb-true b c p in
        first_same c b text (target ++ more) p ∙ later (λ h. n (ap (λ (y : ℕ). y ∷ target) same ∙ ap (λ (ys : List ℕ). c ∷ ys) h))
    on false p later = first_apart c b text (target ++ more) p

ends_target : (content rest : List ℕ) → BeginsWhite content → EndsTarget (content ++ (63 ∷ 62 ∷ rest))
ends_target [] rest w = inr refl
ends_target (b ∷ content) rest w = inl w

instruction_declares : (i : Instruction) (rest : List ℕ) → IsInstruction i → declares (60 ∷ 63 ∷ (i.target ++ (i.content ++ (63 ∷ 62 ∷ rest)))) ≡ Err Malformed
unfolding declares
instruction_declares i rest form =
    read_target (codes "xml") i.target (i.content ++ (63 ∷ 62 ∷ rest)) (refl, (refl, (refl, tt))) form.target.bytes (ends_target i.content rest form.apart)
    (λ e. form.not_xml (ap str_to_ascii_lowercase e))

instruction_outside : (ended : Bool) (i : Instruction) (rest : List ℕ) → IsInstruction i → Outside ended (60 ∷ 63 ∷ (i.target ++ (i.content ++ (63 ∷ 62 ∷ rest)))) scanned.skipped rest
instruction_outside ended i rest form =
    let behind : List ℕ = 63 ∷ (i.target ++ (i.content ++ (63 ∷ 62 ∷ rest))) in
    record { first = 60; behind = behind; parts = refl; no_mark = refl; no_declaration = instruction_declares i rest form; is = judged_ok ended (60 ∷ behind) 0 (markup_at behind) scanned.skipped rest (instruction_again i rest form) }

no_byte : (b c : ℕ) → b ≢ c → eqb b c ≡ false
no_byte b c n = on (eqb_tells b c)
  where
    on : ((eqb b c ≡ true) × (b ≡ c)) ⊎ ((eqb b c ≡ false) × (b ≢ c)) → eqb b c ≡ false
    on (inl h) = absurd (n h.1)
    on (inr h) = h.0

no_slash : (b : ℕ) → is_name_byte b ≡ true → eqb b 47 ≡ false
no_slash b e = grind (arith, nat_tests)

no_declaration_name : (b : ℕ) (bytes : List ℕ) → b ≢ 63 → declares (60 ∷ b ∷ bytes) ≡ Err Malformed
unfolding declares
no_declaration_name b bytes n = rw (no_byte b 63 n) refl

name_outside : (ended : Bool) (name rest : List ℕ) → IsTagName name → EndsRun Name rest → Outside ended (60 ∷ (name ++ rest)) (scanned.opening name) rest
name_outside ended [] rest form e = absurd form.begins
name_outside ended (b ∷ name) rest form e =
    let behind : List ℕ = b ∷ (name ++ rest) in
    let chosen : markup_at (b ∷ (name ++ rest)) ≡ tag_name_at (b ∷ (name ++ rest)) = rw (no_byte b 33 form.begins.0, no_byte b 63 form.begins.1, no_slash b form.form.bytes.0) refl in
    record {
      first = 60;
      behind = behind;
      parts = refl;
      no_mark = refl;
      no_declaration = no_declaration_name b (name ++ rest) form.begins.1;
      is = judged_ok ended (60 ∷ behind) 0 (markup_at behind) (scanned.opening (b ∷ name)) rest (chosen ∙ tag_name_again (b ∷ name) rest form.form e);
    }

-- ---- white space

white_no : (w : ℕ) → is_space w ≡ true → (eqb w 60 ≡ false) × (eqb w 0xEF ≡ false)
white_no w e = (grind (arith, nat_tests), grind (arith, nat_tests))

space_dark : (ended : Bool) (rest : List ℕ) → EndsSpace ended rest → MaybeDark rest
space_dark ended [] e = tt
space_dark ended (b ∷ rest) e = rw e refl

space_blank : (ended : Bool) (rest : List ℕ) → EndsSpace ended rest → blank ended rest ≡ found scanned.skipped rest
space_blank ended [] e = rw e refl
space_blank ended (b ∷ rest) e = rw e refl

white_declares : (w : ℕ) (bytes : List ℕ) → eqb w 60 ≡ false → declares (w ∷ bytes) ≡ Err Malformed
unfolding declares
white_declares w bytes e = rw e refl

white_outside : (ended : Bool) (s rest : List ℕ) → IsSpace s → EndsSpace ended rest → Outside ended (s ++ rest) scanned.skipped rest
white_outside ended [] rest w e = absurd (omega (arith, w.0))
white_outside ended (b ∷ s) rest w e =
    let n = white_no b w.1.0 in
    let last : blank ended (behind_spaces (b ∷ (s ++ rest))) ≡ found scanned.skipped rest = ap (blank ended) (behind_again (b ∷ s) rest w.1 (space_dark ended rest e)) ∙ space_blank ended rest e in
    record {
      first = b;
      behind = s ++ rest;
      parts = refl;
      no_mark = rw n.1 refl;
      no_declaration = white_declares b (s ++ rest) n.0;
      is = chosen (eqb b 60) (judged ended (b ∷ (s ++ rest)) 0 (markup_at (s ++ rest))) (blank ended (behind_spaces (b ∷ (s ++ rest)))) (found scanned.skipped rest) n.0 last;
    }
  where
    chosen : (v : Bool) (r s t : Scanned) → v ≡ false → s ≡ t → cond v r s ≡ t
    chosen true r s t e h = absurd cc
    chosen false r s t e h = h

-- ---- the declaration

declaration_first : (d : Declaration) (rest : List ℕ) → mark_at (print_declaration d ++ rest) ≡ Err Malformed
declaration_first d rest = refl

marked_declaration : (ended : Bool) (bytes : List ℕ) (d : Declaration) (rest : List ℕ) → IsDeclaration d → bytes ≡ print_declaration d ++ rest → behind_mark ended bytes ≡ found scanned.skipped rest
marked_declaration ended bytes d rest form e =
    let a = declaration_again d rest form in
    ap (declared ended bytes) (ap declares e ∙ a.declares_it) ∙ ap (judged ended bytes 0) a.read

-- ---- in a tag

abbrev BeginsName : List ℕ → Type 0
BeginsName [] = ⊥
BeginsName (b ∷ bytes) = is_name_byte b ≡ true

begins_name : (name more : List ℕ) → IsName name → BeginsName (name ++ more)
begins_name [] more form = absurd (omega (arith, form.some))
begins_name (b ∷ name) more form = form.bytes.0

record NameByte (b : ℕ) : Type 0 where
  dark : is_space b ≡ false
  no_close : eqb b 62 ≡ false
  no_slash : eqb b 47 ≡ false

name_byte : (b : ℕ) → is_name_byte b ≡ true → NameByte b
name_byte b e = record { dark = grind (arith, nat_tests); no_close = grind (arith, nat_tests); no_slash = grind (arith, nat_tests) }

begins_dark : (here : List ℕ) → BeginsName here → MaybeDark here
begins_dark [] h = tt
begins_dark (b ∷ here) h = (name_byte b h).dark

longer : (bytes white here : List ℕ) → bytes ≡ white ++ here → 0 < length white → eqb (length bytes) (length here) ≡ false
longer bytes white here e s = no_byte (length bytes) (length here) (λ h. apart h)
  where
    apart : length bytes ≡ length here → ⊥
    apart h = let n : length bytes ≡ length white + length here = ap length e ∙ length-append white here in absurd (omega arith)

tag_attribute : (ended : Bool) (bytes here white : List ℕ) → bytes ≡ white ++ here → IsSpace white → BeginsName here → tag_part ended bytes here ≡ attribute_found ended bytes here (attribute_at here)
tag_attribute ended bytes [] white e w h = absurd h
tag_attribute ended bytes (b ∷ here) white e w h =
    let n = name_byte b h in
    rw (n.no_close, n.no_slash, longer bytes white (b ∷ here) e w.0) refl

-- what is found of an attribute, or refused of its references
pub attribute_scan : (ended : Bool) (bytes space : List ℕ) (a : Attribute) (rest : List ℕ) → IsSpace space → IsAttribute a → bytes ≡ (space ++ print_attribute a) ++ rest
    → in_tag ended bytes ≡ checked bytes (attribute_bytes a rest) ((a.name, a.value), rest) (bad_reference a.value)
attribute_scan ended bytes space a rest w form e =
    let here : List ℕ = attribute_bytes a rest in
    let parts : bytes ≡ space ++ attribute_bytes a rest = e ∙ append_assoc space (print_attribute a) rest ∙ ap (λ (xs : List ℕ). space ++ xs) (attribute_print a rest) in
    let begins : BeginsName (attribute_bytes a rest) = begins_name a.name (a.equals.before ++ (61 ∷ (a.equals.after ++ (a.quote ∷ (a.value ++ (a.quote ∷ rest)))))) form.name in
    ap (tag_part ended bytes) (ap behind_spaces parts ∙ behind_again space (attribute_bytes a rest) w.1 (begins_dark (attribute_bytes a rest) begins))
    ∙ tag_attribute ended bytes (attribute_bytes a rest) space parts w begins
    ∙ ap (attribute_found ended bytes (attribute_bytes a rest)) (attribute_again a rest form)

tag_end_scan : (ended : Bool) (bytes space rest : List ℕ) → IsBlank space → bytes ≡ (space ++ codes ">") ++ rest → in_tag ended bytes ≡ found scanned.tag_end rest
tag_end_scan ended bytes space rest w e = ap (tag_part ended bytes) (ap behind_spaces (e ∙ append_assoc space (codes ">") rest) ∙ behind_again space (62 ∷ rest) w refl)

empty_end_scan : (ended : Bool) (bytes space rest : List ℕ) → IsBlank space → bytes ≡ (space ++ codes "/>") ++ rest → in_tag ended bytes ≡ found scanned.empty_end rest
empty_end_scan ended bytes space rest w e = ap (tag_part ended bytes) (ap behind_spaces (e ∙ append_assoc space (codes "/>") rest) ∙ behind_again space (47 ∷ 62 ∷ rest) w refl)

end_scan : (ended : Bool) (bytes rest : List ℕ) → bytes ≡ rest → IsEnd ended rest → behind_element ended bytes ≡ found scanned.ending rest
end_scan ended bytes [] e h = ap (behind_element ended) e ∙ rw h refl
end_scan ended bytes (b ∷ rest) e h = absurd h

-- ---- each piece

pub found_again : (place : Place) (ended : Bool) (bytes : List ℕ) (p : Piece) (rest : List ℕ) → StandsAt place p → IsPiece p → bytes ≡ print_piece p ++ rest → MayFollow ended p rest → RefersWell p → scan place ended bytes ≡ found (told p) rest
found_again Start ended bytes byte_order_mark rest s f e w r = ap (λ (xs : List ℕ). marked ended xs (mark_at xs)) e
found_again Marked ended bytes byte_order_mark rest s f e w r = absurd s
found_again Between ended bytes byte_order_mark rest s f e w r = absurd s
found_again InTag ended bytes byte_order_mark rest s f e w r = absurd s
found_again After ended bytes byte_order_mark rest s f e w r = absurd s
found_again Start ended bytes (declaration d) rest s f e w r = ap (marked ended bytes) (ap mark_at e ∙ declaration_first d rest) ∙ marked_declaration ended bytes d rest f e
found_again Marked ended bytes (declaration d) rest s f e w r = marked_declaration ended bytes d rest f e
found_again Between ended bytes (declaration d) rest s f e w r = absurd s
found_again InTag ended bytes (declaration d) rest s f e w r = absurd s
found_again After ended bytes (declaration d) rest s f e w r = absurd s
found_again place ended bytes (white_space t) rest s f e w r = outside_scan place ended bytes scanned.skipped rest (not_in_tag place (white_space t) (λ h. h) s) (at_bytes ended bytes (t ++ rest) scanned.skipped rest e (white_outside ended t rest f w))
found_again place ended bytes (comment t) rest s f e w r =
    outside_scan place ended bytes scanned.skipped rest (not_in_tag place (comment t) (λ h. h) s) (at_bytes ended bytes (60 ∷ 33 ∷ 45 ∷ 45 ∷ (t ++ (45 ∷ 45 ∷ 62 ∷ rest))) scanned.skipped rest (e ∙ comment_print t rest) (comment_outside ended t rest f))
found_again place ended bytes (instruction i) rest s f e w r =
    outside_scan place ended bytes scanned.skipped rest (not_in_tag place (instruction i) (λ h. h) s) (at_bytes ended bytes (60 ∷ 63 ∷ (i.target ++ (i.content ++ (63 ∷ 62 ∷ rest)))) scanned.skipped rest (e ∙ instruction_print i rest) (instruction_outside ended i rest f))
found_again place ended bytes (tag_name n) rest s f e w r = outside_scan place ended bytes (scanned.opening n) rest (not_in_tag place (tag_name n) (λ h. h) s) (at_bytes ended bytes (60 ∷ (n ++ rest)) (scanned.opening n) rest e (name_outside ended n rest f (name_ends rest w)))
found_again place ended bytes (end_tag t) rest s f e w r =
    outside_scan place ended bytes (scanned.closing t.name) rest (not_in_tag place (end_tag t) (λ h. h) s) (at_bytes ended bytes (60 ∷ 47 ∷ (t.name ++ (t.space ++ (62 ∷ rest)))) (scanned.closing t.name) rest (e ∙ end_tag_print t rest) (end_tag_outside ended t rest f))
found_again InTag ended bytes (attribute space a) rest s f e w r =
    attribute_scan ended bytes space a rest f.0 f.1 e ∙ ap (checked bytes (attribute_bytes a rest) ((a.name, a.value), rest)) (no_bad_again a.value r)
found_again Start ended bytes (attribute space a) rest s f e w r = absurd s
found_again Marked ended bytes (attribute space a) rest s f e w r = absurd s
found_again Between ended bytes (attribute space a) rest s f e w r = absurd s
found_again After ended bytes (attribute space a) rest s f e w r = absurd s
found_again InTag ended bytes (tag_end space) rest s f e w r = tag_end_scan ended bytes space rest f e
found_again Start ended bytes (tag_end space) rest s f e w r = absurd s
found_again Marked ended bytes (tag_end space) rest s f e w r = absurd s
found_again Between ended bytes (tag_end space) rest s f e w r = absurd s
found_again After ended bytes (tag_end space) rest s f e w r = absurd s
found_again InTag ended bytes (empty_end space) rest s f e w r = empty_end_scan ended bytes space rest f e
found_again Start ended bytes (empty_end space) rest s f e w r = absurd s
found_again Marked ended bytes (empty_end space) rest s f e w r = absurd s
found_again Between ended bytes (empty_end space) rest s f e w r = absurd s
found_again After ended bytes (empty_end space) rest s f e w r = absurd s
found_again After ended bytes input_end rest s f e w r = end_scan ended bytes rest e w
found_again Start ended bytes input_end rest s f e w r = absurd s
found_again Marked ended bytes input_end rest s f e w r = absurd s
found_again Between ended bytes input_end rest s f e w r = absurd s
found_again InTag ended bytes input_end rest s f e w r = absurd s

read_again : (place : Place) (ended : Bool) (bytes : List ℕ) (c : Construct) (rest : List ℕ) → IsRead place ended bytes c rest → scan place ended bytes ≡ found c rest
read_again place ended bytes c rest r =
    found_again place ended bytes r.piece rest r.form.stands r.form.form r.form.printed r.form.follows r.refers ∙ ap (λ (d : Construct). found d rest) (sym r.told_is)

pub finds_pieces : FindsPieces
finds_pieces place ended bytes c rest = (found_ok place ended bytes c rest, read_again place ended bytes c rest)
