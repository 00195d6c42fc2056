-- What the scanner finds at a place is a piece, and each piece is found.
use Rattle.std.proofs.Common.{◌≡◌, ℕ, ◌-◌, ◌<◌, Bool, true, false, not, cond, eqb, List, [], ◌∷◌, ◌++◌, length, Option, Some, None, Result, Ok, Err, refl, sym, ap, ◌∙◌, subst, append_assoc, arith}
use Rattle.std.specs.Prelude.{codes}
use Rattle.std.proofs.lemmas.Bool.{eqb-true, eq-eqb}
use Rattle.ob_scan.specs.declared.stop.Stop.{Stop}
use Rattle.ob_scan.specs.declared.stop.Stop.TheVariants.{Want, Malformed}
use Rattle.ob_scan.specs.declared.reading.Ends.TheVariants.{Name}
use Rattle.ob_scan.specs.declared.piece.Why.TheVariants as whys
use Rattle.ob_scan.specs.declared.piece.Place.{Place}
use Rattle.ob_scan.specs.declared.piece.Place.TheVariants.{Start, Marked, Between, InTag, After}
use Rattle.ob_scan.specs.Reading.{ends_at, behind_spaces}
use Rattle.ob_scan.specs.Constructs.{Construct, Scanned, found, more, refused, comment_at, instruction_at, end_tag_at, tag_name_at, markup_at, attribute_at, bad_reference, declaration_at, one_space, declares, mark_at, wanting, judged, checked, attribute_found, empty_end_at, tag_part, in_tag, blank, outside, behind_element, declared, behind_mark, marked, starting, scan}
use Rattle.ob_scan.specs.Constructs as scanned
use Rattle.ob_markup.specs.Characters.{IsSpace}
use Rattle.ob_markup.specs.References.{HasReferences}
use Rattle.ob_markup.specs.Markup.{Declaration, print_attribute}
use Rattle.ob_markup.specs.Pieces.{Piece, byte_order_mark, declaration, white_space, comment, instruction, tag_name, attribute, tag_end, empty_end, end_tag, input_end, print_piece, IsPiece, RefersWell, StandsAt, EndsName, EndsSpace, MayFollow}
use Rattle.ob_markup.specs.Scanning.{told, IsRead}
use Rattle.ob_markup.proofs.Literals.{literal_ok, Spaced, spaced}
use Rattle.ob_markup.proofs.Runs.{EndsRun, ok_of}
use Rattle.ob_markup.proofs.Forms.{CommentFound, comment_ok, comment_print, InstructionFound, instruction_ok, instruction_print, NameFound, tag_name_ok, tag_name_is, EndTagFound, end_tag_ok, end_tag_print, empty_end_ok, attribute_bytes, attribute_ok, attribute_print}
use Rattle.ob_markup.proofs.Declarations.{declaration_ok}
use Rattle.ob_markup.proofs.References.{no_bad_ok}

-- ---- what judging found

judged_found : (ended : Bool) (bytes : List ℕ) (place : ℕ) (r : Result (Construct × List ℕ) Stop) (c : Construct) (rest : List ℕ) → judged ended bytes place r ≡ found c rest → r ≡ Ok (c, rest)
judged_found ended bytes place (Ok x) c rest e =
    let first : x.0 ≡ c = cc in
    let second : x.1 ≡ rest = cc in
    both x c rest first second
  where
    both : (x : Construct × List ℕ) (c : Construct) (rest : List ℕ) → x.0 ≡ c → x.1 ≡ rest → ok_of x ≡ ok_of (c, rest)
    both x c rest p q = rw (p, q) refl
judged_found true bytes place (Err Want) c rest e = absurd cc
judged_found false bytes place (Err Want) c rest e = absurd cc
judged_found ended bytes place (Err Malformed) c rest e = absurd cc

pub same_found : (c d : Construct) (r s : List ℕ) → found c r ≡ found d s → (c ≡ d) × (r ≡ s)
same_found c d r s e = (cc, cc)

wanting_found : (ended : Bool) (bytes : List ℕ) (c : Construct) (rest : List ℕ) → wanting ended bytes ≡ found c rest → ⊥
wanting_found true bytes c rest e = cc
wanting_found false bytes c rest e = cc

-- ---- a piece outside tags

abbrev pub StandsOutside : Piece → Type 0
StandsOutside p = StandsAt Start p × StandsAt Marked p × StandsAt Between p × StandsAt After p

pub record ReadOutside (ended : Bool) (bytes : List ℕ) (c : Construct) (rest : List ℕ) : Type 0 where
  piece : Piece
  stands : StandsOutside piece
  form : IsPiece piece
  printed : bytes ≡ print_piece piece ++ rest
  follows : MayFollow ended piece rest
  refers : RefersWell piece
  told_is : c ≡ told piece

abbrev pub IsOutside : Place → Type 0
IsOutside Start = Unit {0}
IsOutside Marked = Unit {0}
IsOutside Between = Unit {0}
IsOutside InTag = ⊥
IsOutside After = Unit {0}

stands_there : (place : Place) (p : Piece) → IsOutside place → StandsOutside p → StandsAt place p
stands_there Start p o s = s.0
stands_there Marked p o s = s.1
stands_there Between p o s = s.2
stands_there InTag p o s = absurd o
stands_there After p o s = s.3

pub read_at : (place : Place) (ended : Bool) (bytes : List ℕ) (c : Construct) (rest : List ℕ) → IsOutside place → ReadOutside ended bytes c rest → IsRead place ended bytes c rest
read_at place ended bytes c rest o r = record {
  piece = r.piece;
  form = record { stands = stands_there place r.piece o r.stands; form = r.form; printed = r.printed; follows = r.follows };
  refers = r.refers;
  told_is = r.told_is;
}

ends_name : (rest : List ℕ) → EndsRun Name rest → EndsName rest
ends_name [] h = absurd h
ends_name (b ∷ rest) h = ap not h

pub name_ends : (rest : List ℕ) → EndsName rest → EndsRun Name rest
name_ends [] h = absurd h
name_ends (b ∷ rest) h = not_false (ends_at Name b) h
  where
    not_false : (v : Bool) → not v ≡ false → v ≡ true
    not_false true e = refl
    not_false false e = absurd cc

of_comment : (ended : Bool) (c : Construct) (bytes rest : List ℕ) → CommentFound c bytes rest → ReadOutside ended (60 ∷ 33 ∷ bytes) c rest
of_comment ended c bytes rest f = record {
  piece = comment f.text;
  stands = (tt, tt, tt, tt);
  form = f.form;
  printed = ap (λ (xs : List ℕ). 60 ∷ 33 ∷ xs) f.parts ∙ sym (comment_print f.text rest);
  follows = tt;
  refers = tt;
  told_is = f.is;
}

of_instruction : (ended : Bool) (c : Construct) (bytes rest : List ℕ) → InstructionFound c bytes rest → ReadOutside ended (60 ∷ 63 ∷ bytes) c rest
of_instruction ended c bytes rest f = record {
  piece = instruction f.instruction;
  stands = (tt, tt, tt, tt);
  form = f.form;
  printed = ap (λ (xs : List ℕ). 60 ∷ 63 ∷ xs) f.parts ∙ sym (instruction_print f.instruction rest);
  follows = tt;
  refers = tt;
  told_is = f.is;
}

of_end_tag : (ended : Bool) (c : Construct) (bytes rest : List ℕ) → EndTagFound c bytes rest → ReadOutside ended (60 ∷ 47 ∷ bytes) c rest
of_end_tag ended c bytes rest f = record {
  piece = end_tag f.tag;
  stands = (tt, tt, tt, tt);
  form = f.form;
  printed = ap (λ (xs : List ℕ). 60 ∷ 47 ∷ xs) f.parts ∙ sym (end_tag_print f.tag rest);
  follows = tt;
  refers = tt;
  told_is = f.is;
}

of_tag_name : (ended : Bool) (c : Construct) (b : ℕ) (bytes rest : List ℕ) → eqb b 33 ≡ false → eqb b 63 ≡ false → NameFound c (b ∷ bytes) rest → ReadOutside ended (60 ∷ b ∷ bytes) c rest
of_tag_name ended c b bytes rest p q f = record {
  piece = tag_name f.name;
  stands = (tt, tt, tt, tt);
  form = tag_name_is f.name b bytes rest f.form f.parts p q;
  printed = ap (λ (xs : List ℕ). 60 ∷ xs) f.parts;
  follows = ends_name rest f.stops;
  refers = tt;
  told_is = f.is;
}

behind_byte : (ended : Bool) (b x : ℕ) (bytes : List ℕ) (c : Construct) (rest : List ℕ) → b ≡ x → ReadOutside ended (60 ∷ x ∷ bytes) c rest → ReadOutside ended (60 ∷ b ∷ bytes) c rest
behind_byte ended b x bytes c rest e h = subst (λ (y : ℕ). ReadOutside ended (60 ∷ y ∷ bytes) c rest) (sym e) h

markup_ok : (ended : Bool) (bytes : List ℕ) (c : Construct) (rest : List ℕ) → markup_at bytes ≡ Ok (c, rest) → ReadOutside ended (60 ∷ bytes) c rest
markup_ok ended [] c rest e = absurd cc
markup_ok ended (b ∷ bytes) c rest e = on (eqb b 33) (eqb b 63) (eqb b 47) refl refl refl e
  where
    on : (s t u : Bool) → eqb b 33 ≡ s → eqb b 63 ≡ t → eqb b 47 ≡ u → cond s (comment_at bytes) (cond t (instruction_at bytes) (cond u (end_tag_at bytes) (tag_name_at (b ∷ bytes)))) ≡ Ok (c, rest) → ReadOutside ended (60 ∷ b ∷ bytes) c rest
    on true t u p q r h = behind_byte ended b 33 bytes c rest (eqb-true b 33 p) (of_comment ended c bytes rest (comment_ok bytes c rest h))
    on false true u p q r h = behind_byte ended b 63 bytes c rest (eqb-true b 63 q) (of_instruction ended c bytes rest (instruction_ok bytes c rest h))
    on false false true p q r h = behind_byte ended b 47 bytes c rest (eqb-true b 47 r) (of_end_tag ended c bytes rest (end_tag_ok bytes c rest h))
    on false false false p q r h = of_tag_name ended c b bytes rest p q (tag_name_ok (b ∷ bytes) c rest h)

-- ---- white space outside tags

record BlankFound (ended : Bool) (xs : List ℕ) (c : Construct) (rest : List ℕ) : Type 0 where
  rest_is : xs ≡ rest
  ends : EndsSpace ended rest
  is : c ≡ scanned.skipped

blank_ok : (ended : Bool) (xs : List ℕ) (c : Construct) (rest : List ℕ) → blank ended xs ≡ found c rest → BlankFound ended xs c rest
blank_ok true [] c rest e =
    let s = same_found scanned.skipped c [] rest e in
    record { rest_is = s.1; ends = subst (EndsSpace true) s.1 refl; is = sym s.0 }
blank_ok false [] c rest e = absurd cc
blank_ok ended (x ∷ xs) c rest e = on (eqb x 60) refl e
  where
    on : (v : Bool) → eqb x 60 ≡ v → cond v (found scanned.skipped (x ∷ xs)) (refused 0 whys.Text) ≡ found c rest → BlankFound ended (x ∷ xs) c rest
    on true t h =
        let s = same_found scanned.skipped c (x ∷ xs) rest h in
        record { rest_is = s.1; ends = subst (EndsSpace ended) s.1 (eqb-true x 60 t); is = sym s.0 }
    on false t h = absurd cc

some_white : (ended : Bool) (b : ℕ) (bytes white rest : List ℕ) → b ∷ bytes ≡ white ++ rest → eqb b 60 ≡ false → EndsSpace ended rest → 0 < length white
some_white ended b bytes (w ∷ white) rest e n h = omega arith
some_white ended b bytes [] [] e n h = absurd cc
some_white ended b bytes [] (r ∷ rest) e n h =
    let same : b ≡ r = cc in
    let f : true ≡ false = sym (eq-eqb b 60 (same ∙ h)) ∙ n in
    absurd cc

of_blank : (ended : Bool) (b : ℕ) (bytes : List ℕ) (c : Construct) (rest : List ℕ) → eqb b 60 ≡ false → blank ended (behind_spaces (b ∷ bytes)) ≡ found c rest → ReadOutside ended (b ∷ bytes) c rest
of_blank ended b bytes c rest n e =
    let f = blank_ok ended (behind_spaces (b ∷ bytes)) c rest e in
    let s = spaced (b ∷ bytes) in
    let parts : b ∷ bytes ≡ s.white ++ rest = s.parts ∙ ap (λ (xs : List ℕ). s.white ++ xs) f.rest_is in
    record {
      piece = white_space s.white;
      stands = (tt, tt, tt, tt);
      form = (some_white ended b bytes s.white rest parts n f.ends, s.is_white);
      printed = parts;
      follows = f.ends;
      refers = tt;
      told_is = f.is;
    }

pub outside_ok : (ended : Bool) (bytes : List ℕ) (c : Construct) (rest : List ℕ) → outside ended bytes ≡ found c rest → ReadOutside ended bytes c rest
outside_ok ended [] c rest e = absurd (wanting_found ended [] c rest e)
outside_ok ended (b ∷ bytes) c rest e = on (eqb b 60) refl e
  where
    on : (v : Bool) → eqb b 60 ≡ v → cond v (judged ended (b ∷ bytes) 0 (markup_at bytes)) (blank ended (behind_spaces (b ∷ bytes))) ≡ found c rest → ReadOutside ended (b ∷ bytes) c rest
    on true t h =
        let is : b ≡ 60 = eqb-true b 60 t in
        subst (λ (y : ℕ). ReadOutside ended (y ∷ bytes) c rest) (sym is) (markup_ok ended bytes c rest (judged_found ended (b ∷ bytes) 0 (markup_at bytes) c rest h))
    on false t h = of_blank ended b bytes c rest t h

-- ---- at the start

abbrev pub MayDeclare : Place → Type 0
MayDeclare place = IsOutside place × ((d : Declaration) → StandsAt place (declaration d))

declared_ok : (place : Place) (ended : Bool) (bytes : List ℕ) (c : Construct) (rest : List ℕ) → MayDeclare place → (r : Result (List ℕ) Stop) → declares bytes ≡ r → declared ended bytes r ≡ found c rest → IsRead place ended bytes c rest
declared_ok place ended bytes c rest m (Ok behind) e h =
    let d = declaration_ok bytes behind c rest e (judged_found ended bytes 0 (declaration_at behind) c rest h) in
    record {
      piece = declaration d.0;
      form = record { stands = m.1 d.0; form = d.1; printed = d.2; follows = tt };
      refers = tt;
      told_is = d.3;
    }
declared_ok place ended bytes c rest m (Err Want) e h = absurd (wanting_found ended bytes c rest h)
declared_ok place ended bytes c rest m (Err Malformed) e h = read_at place ended bytes c rest m.0 (outside_ok ended bytes c rest h)

marked_ok : (ended : Bool) (bytes : List ℕ) (c : Construct) (rest : List ℕ) (r : Result (List ℕ) Stop) → mark_at bytes ≡ r → marked ended bytes r ≡ found c rest → IsRead Start ended bytes c rest
marked_ok ended bytes c rest (Ok behind) e h =
    let s = same_found scanned.mark c behind rest h in
    record {
      piece = byte_order_mark;
      form = record { stands = tt; form = tt; printed = literal_ok (0xEF ∷ 0xBB ∷ 0xBF ∷ []) bytes behind e ∙ ap (λ (xs : List ℕ). 0xEF ∷ 0xBB ∷ 0xBF ∷ xs) s.1; follows = tt };
      refers = tt;
      told_is = sym s.0;
    }
marked_ok ended bytes c rest (Err Want) e h = absurd (wanting_found ended bytes c rest h)
marked_ok ended bytes c rest (Err Malformed) e h = declared_ok Start ended bytes c rest (tt, λ d. tt) (declares bytes) refl h

element_ok : (ended : Bool) (bytes : List ℕ) (c : Construct) (rest : List ℕ) → behind_element ended bytes ≡ found c rest → IsRead After ended bytes c rest
element_ok true [] c rest e =
    let s = same_found scanned.ending c [] rest e in
    record {
      piece = input_end;
      form = record { stands = tt; form = tt; printed = s.1; follows = subst (λ (xs : List ℕ). MayFollow true input_end xs) s.1 refl };
      refers = tt;
      told_is = sym s.0;
    }
element_ok false [] c rest e = absurd cc
element_ok ended (b ∷ bytes) c rest e = read_at After ended (b ∷ bytes) c rest tt (outside_ok ended (b ∷ bytes) c rest e)

-- ---- in a tag

some_length : (white rest : List ℕ) → eqb (length (white ++ rest)) (length rest) ≡ false → 0 < length white
some_length [] rest e = let t : true ≡ false = sym (eq-eqb (length rest) (length rest) refl) ∙ e in absurd cc
some_length (w ∷ white) rest e = omega arith

attribute_read : (ended : Bool) (bytes here white : List ℕ) (c : Construct) (rest : List ℕ) (r : Result ((List ℕ × List ℕ) × List ℕ) Stop) → attribute_at here ≡ r → bytes ≡ white ++ here → IsSpace white
    → attribute_found ended bytes here r ≡ found c rest → IsRead InTag ended bytes c rest
attribute_read ended bytes here white c rest (Err Want) e p w h = absurd (wanting_found ended bytes c rest h)
attribute_read ended bytes here white c rest (Err Malformed) e p w h = absurd cc
attribute_read ended bytes here white c rest (Ok x) e p w h = on (bad_reference x.0.1) refl h
  where
    on : (o : Option ℕ) → bad_reference x.0.1 ≡ o → checked bytes here x o ≡ found c rest → IsRead InTag ended bytes c rest
    on (Some k) b h = absurd cc
    on None b h =
        let f = attribute_ok here x e in
        let s = same_found (scanned.attribute x.0.0 x.0.1) c x.1 rest h in
        let names : scanned.attribute x.0.0 x.0.1 ≡ scanned.attribute f.attribute.name f.attribute.value = ap (λ (n : List ℕ). scanned.attribute n x.0.1) f.name ∙ ap (λ (v : List ℕ). scanned.attribute f.attribute.name v) f.value in
        record {
          piece = attribute white f.attribute;
          form = record {
            stands = tt;
            form = (w, f.form);
            printed = p ∙ ap (λ (xs : List ℕ). white ++ xs) (f.parts ∙ ap (attribute_bytes f.attribute) s.1 ∙ sym (attribute_print f.attribute rest)) ∙ sym (append_assoc white (print_attribute f.attribute) rest);
            follows = tt;
          };
          refers = subst HasReferences f.value (no_bad_ok x.0.1 b);
          told_is = sym s.0 ∙ names;
        }

part_ok : (ended : Bool) (bytes here : List ℕ) (c : Construct) (rest : List ℕ) → Spaced bytes here → tag_part ended bytes here ≡ found c rest → IsRead InTag ended bytes c rest
part_ok ended bytes [] c rest s e = absurd (wanting_found ended bytes c rest e)
part_ok ended bytes (b ∷ here) c rest s e = on (eqb b 62) (eqb b 47) (eqb (length bytes) (length (b ∷ here))) refl refl refl e
  where
    printed : (last : List ℕ) → b ∷ here ≡ last ++ rest → bytes ≡ (s.white ++ last) ++ rest
    printed last h = s.parts ∙ ap (λ (xs : List ℕ). s.white ++ xs) h ∙ sym (append_assoc s.white last rest)

    on : (p q r : Bool) → eqb b 62 ≡ p → eqb b 47 ≡ q → eqb (length bytes) (length (b ∷ here)) ≡ r
        → cond p (found scanned.tag_end here) (cond q (judged ended bytes (length bytes - length (b ∷ here)) (empty_end_at here)) (cond r (refused 0 whys.Markup) (attribute_found ended bytes (b ∷ here) (attribute_at (b ∷ here))))) ≡ found c rest → IsRead InTag ended bytes c rest
    on true q r t u v h =
        let f = same_found scanned.tag_end c here rest h in
        let is : b ≡ 62 = eqb-true b 62 t in
        record {
          piece = tag_end s.white;
          form = record { stands = tt; form = s.is_white; printed = printed (codes ">") (ap (λ (x : ℕ). x ∷ here) is ∙ ap (λ (xs : List ℕ). 62 ∷ xs) f.1); follows = tt };
          refers = tt;
          told_is = sym f.0;
        }
    on false true r t u v h =
        let f = empty_end_ok here c rest (judged_found ended bytes (length bytes - length (b ∷ here)) (empty_end_at here) c rest h) in
        let is : b ≡ 47 = eqb-true b 47 u in
        record {
          piece = empty_end s.white;
          form = record { stands = tt; form = s.is_white; printed = printed (codes "/>") (ap (λ (x : ℕ). x ∷ here) is ∙ ap (λ (xs : List ℕ). 47 ∷ xs) f.0); follows = tt };
          refers = tt;
          told_is = f.1;
        }
    on false false true t u v h = absurd cc
    on false false false t u v h =
        let n : eqb (length (s.white ++ (b ∷ here))) (length (b ∷ here)) ≡ false = ap (λ (xs : List ℕ). eqb (length xs) (length (b ∷ here))) (sym s.parts) ∙ v in
        attribute_read ended bytes (b ∷ here) s.white c rest (attribute_at (b ∷ here)) refl s.parts (some_length s.white (b ∷ here) n, s.is_white) h

pub found_ok : (place : Place) (ended : Bool) (bytes : List ℕ) (c : Construct) (rest : List ℕ) → scan place ended bytes ≡ found c rest → IsRead place ended bytes c rest
found_ok Start ended bytes c rest e = marked_ok ended bytes c rest (mark_at bytes) refl e
found_ok Marked ended bytes c rest e = declared_ok Marked ended bytes c rest (tt, λ d. tt) (declares bytes) refl e
found_ok Between ended bytes c rest e = read_at Between ended bytes c rest tt (outside_ok ended bytes c rest e)
found_ok InTag ended bytes c rest e = part_ok ended bytes (behind_spaces bytes) c rest (spaced bytes) e
found_ok After ended bytes c rest e = element_ok ended bytes c rest e
