-- What the readers of comments, instructions and tags read, and where.
use Rattle.std.proofs.Common.{◌≡◌, ◌≢◌, ℕ, ◌<◌, ◌≤◌, ◌⊎◌, inl, inr, Bool, true, false, ◌&&◌, ◌||◌, cond, eqb, List, [], ◌∷◌, ◌++◌, length, Result, Ok, Err, refl, sym, ap, ◌∙◌, subst, append_assoc, arith}
use Rattle.std.specs.Prelude.{codes}
use Rattle.std.specs.Char.{to_ascii_lowercase}
use Rattle.std.specs.Str.{str_to_ascii_lowercase}
use Rattle.std.proofs.lemmas.Bool.{eqb-true, eq-eqb}
use Rattle.std.proofs.lemmas.Bool.Decides.{nat_tests}
use Rattle.ob_values.specs.XmlText.{IsXmlText}
use Rattle.ob_scan.specs.declared.stop.Stop.{Stop}
use Rattle.ob_scan.specs.declared.stop.Stop.TheVariants.{Malformed}
use Rattle.ob_scan.specs.declared.character.Progress.{Progress}
use Rattle.ob_scan.specs.declared.character.Progress.TheVariants.{Whole}
use Rattle.ob_scan.specs.Characters.{after_byte}
use Rattle.ob_scan.specs.declared.reading.Ends.TheVariants.{Name, Target, Value}
use Rattle.ob_scan.specs.Reading.{◌>>=◌, is_space, literal, spaces, run, word, behind_pair}
use Rattle.ob_scan.specs.Constructs.{Construct, skipped, opening, closing, empty_end, comment_at, is_letter, is_xml, behind_target, instruction_at, end_tag_at, tag_name_at, closed_by, value_at, attribute_at, empty_end_at}
use Rattle.ob_markup.specs.Characters.{IsBlank, HasNo, IsName, IsQuote}
use Rattle.ob_markup.specs.References.{IsValue}
use Rattle.ob_markup.specs.Markup.{print_comment, IsComment, Instruction, print_instruction, BeginsWhite, IsInstruction, BeginsTag, IsTagName, Attribute, print_attribute, IsAttribute, EndTag, print_end_tag, IsEndTag}
use Rattle.ob_markup.proofs.Walks.{Chars, chars_text}
use Rattle.ob_markup.proofs.Characters.{text_chars}
use Rattle.ob_markup.proofs.Literals.{bind_ok, bind_both, literal_ok, spaces_ok, spaces_again}
use Rattle.ob_markup.proofs.Runs.{EndsRun, name_low, target_low, value_low, run_ok, run_again, word_ok, word_again, ok_of, same_ok}
use Rattle.ob_markup.proofs.Pairs.{Stands, behind_pair_ok, behind_pair_again}

pub dash : Stands 45
dash = record { low = omega arith; alone = refl }

pub question : Stands 63
question = record { low = omega arith; alone = refl }

pub first_of_pair : {A B : Type 0} (a c : A) (b d : B) → ok_of {A = A × B} (a, b) ≡ ok_of {A = A × B} (c, d) → a ≡ c
first_of_pair a c b d e = ap (λ x. x.0) (same_ok (a, b) (c, d) e)

pub second_of_pair : {A B : Type 0} (a c : A) (b d : B) → ok_of {A = A × B} (a, b) ≡ ok_of {A = A × B} (c, d) → b ≡ d
second_of_pair a c b d e = ap (λ x. x.1) (same_ok (a, b) (c, d) e)

-- ---- comments

pub record CommentFound (c : Construct) (bytes rest : List ℕ) : Type 0 where
  pub text : List ℕ
  pub form : IsComment text
  pub parts : bytes ≡ 45 ∷ 45 ∷ (text ++ (45 ∷ 45 ∷ 62 ∷ rest))
  pub is : c ≡ skipped

pub comment_ok : (bytes : List ℕ) (c : Construct) (rest : List ℕ) → comment_at bytes ≡ Ok (c, rest) → CommentFound c bytes rest
unfolding comment_at
comment_ok bytes c rest e =
    let e1 = bind_ok (literal (codes "--") bytes) (λ body. behind_pair 45 45 body >>= λ behind. literal (codes ">") behind >>= λ rest. Ok (skipped, rest)) (c, rest) e in
    let e2 = bind_ok (behind_pair 45 45 e1.mid) (λ behind. literal (codes ">") behind >>= λ rest. Ok (skipped, rest)) (c, rest) e1.second in
    let e3 = bind_ok (literal (codes ">") e2.mid) (λ rest. Ok (skipped, rest)) (c, rest) e2.second in
    let b = behind_pair_ok 45 45 e1.mid e2.mid dash e2.first in
    let last : e2.mid ≡ 62 ∷ rest = literal_ok (codes ">") e2.mid e3.mid e3.first ∙ ap (λ (ys : List ℕ). 62 ∷ ys) (second_of_pair skipped c e3.mid rest e3.second) in
    record {
      text = b.text;
      form = record { characters = chars_text b.text b.chars; no_dashes = b.has_no };
      parts = literal_ok (codes "--") bytes e1.mid e1.first ∙ ap (λ (ys : List ℕ). 45 ∷ 45 ∷ ys) (b.parts ∙ ap (λ (ys : List ℕ). b.text ++ (45 ∷ 45 ∷ ys)) last);
      is = sym (first_of_pair skipped c e3.mid rest e3.second);
    }

pub comment_again : (text rest : List ℕ) → IsComment text → comment_at (45 ∷ 45 ∷ (text ++ (45 ∷ 45 ∷ 62 ∷ rest))) ≡ Ok (skipped, rest)
unfolding comment_at
comment_again text rest form = rw (behind_pair_again 45 45 text (62 ∷ rest) dash (text_chars text form.characters) form.no_dashes) refl

pub comment_print : (text rest : List ℕ) → print_comment text ++ rest ≡ 60 ∷ 33 ∷ 45 ∷ 45 ∷ (text ++ (45 ∷ 45 ∷ 62 ∷ rest))
comment_print text rest = ap (λ (ys : List ℕ). 60 ∷ 33 ∷ 45 ∷ 45 ∷ ys) (append_assoc text (codes "-->") rest)

-- ---- instructions

letter_lower : (l b : ℕ) → 97 ≤ l → l ≤ 122 → is_letter l b ≡ true → to_ascii_lowercase b ≡ l
letter_lower l b h k e = grind (arith, nat_tests)

lower_letter : (l b : ℕ) → 97 ≤ l → l ≤ 122 → to_ascii_lowercase b ≡ l → is_letter l b ≡ true
lower_letter l b h k e = grind (arith, nat_tests)

three : (a b c : Bool) → (a && b && c) ≡ true → (a ≡ true) × (b ≡ true) × (c ≡ true)
three true true true e = (refl, refl, refl)
three true true false e = absurd cc
three true false c e = absurd cc
three false b c e = absurd cc

xml_lower : (t : List ℕ) → is_xml t ≡ true → str_to_ascii_lowercase t ≡ codes "xml"
xml_lower [] e = absurd cc
xml_lower (x ∷ []) e = absurd cc
xml_lower (x ∷ (m ∷ [])) e = absurd cc
xml_lower (x ∷ (m ∷ (l ∷ []))) e =
    let t = three (is_letter 120 x) (is_letter 109 m) (is_letter 108 l) e in
    rw (letter_lower 120 x (omega arith) (omega arith) t.0, letter_lower 109 m (omega arith) (omega arith) t.1, letter_lower 108 l (omega arith) (omega arith) t.2) refl
xml_lower (x ∷ (m ∷ (l ∷ (y ∷ t)))) e = absurd cc

lower_xml : (t : List ℕ) → str_to_ascii_lowercase t ≡ codes "xml" → is_xml t ≡ true
lower_xml [] e = absurd cc
lower_xml (x ∷ []) e = absurd cc
lower_xml (x ∷ (m ∷ [])) e = absurd cc
lower_xml (x ∷ (m ∷ (l ∷ []))) e =
    let a : to_ascii_lowercase x ≡ 120 = cc in
    let b : to_ascii_lowercase m ≡ 109 = cc in
    let c : to_ascii_lowercase l ≡ 108 = cc in
    rw (lower_letter 120 x (omega arith) (omega arith) a, lower_letter 109 m (omega arith) (omega arith) b, lower_letter 108 l (omega arith) (omega arith) c) refl
lower_xml (x ∷ (m ∷ (l ∷ (y ∷ t)))) e = absurd cc

pub not_xml : (t : List ℕ) → str_to_ascii_lowercase t ≢ codes "xml" → is_xml t ≡ false
not_xml t n = on (is_xml t) refl
  where
    on : (v : Bool) → is_xml t ≡ v → v ≡ false
    on true e = absurd (n (xml_lower t e))
    on false e = refl

false_not_xml : (t : List ℕ) → is_xml t ≡ false → str_to_ascii_lowercase t ≢ codes "xml"
false_not_xml t e h = let f : true ≡ false = sym (lower_xml t h) ∙ e in cc

-- behind the target
pub record ContentFound (bytes rest : List ℕ) : Type 0 where
  pub content : List ℕ
  pub apart : BeginsWhite content
  pub chars : Chars Whole content
  pub no_end : HasNo (codes "?>") content
  pub parts : bytes ≡ content ++ (63 ∷ 62 ∷ rest)

nothing_has_no : HasNo (codes "?>") []
nothing_has_no [] back e = cc
nothing_has_no (x ∷ front) back e = cc

white_byte : (b : ℕ) → is_space b ≡ true → (b ≡ 32) ⊎ ((b ≡ 9) ⊎ ((b ≡ 10) ⊎ (b ≡ 13)))
white_byte b e = grind (arith, nat_tests)

white_alone : (b : ℕ) (more : List ℕ) → is_space b ≡ true → Chars Whole more → Chars Whole (b ∷ more)
white_alone b more e h = on (white_byte b e)
  where
    of : (c : ℕ) → b ≡ c → Chars Whole (c ∷ more) → Chars Whole (b ∷ more)
    of c same k = subst (λ (x : ℕ). Chars Whole (x ∷ more)) (sym same) k

    on : (b ≡ 32) ⊎ ((b ≡ 9) ⊎ ((b ≡ 10) ⊎ (b ≡ 13))) → Chars Whole (b ∷ more)
    on (inl s) = of 32 s (Whole, refl, h)
    on (inr (inl s)) = of 9 s (Whole, refl, h)
    on (inr (inr (inl s))) = of 10 s (Whole, refl, h)
    on (inr (inr (inr s))) = of 13 s (Whole, refl, h)

-- white space begins no ?>
white_has_no : (b : ℕ) (text : List ℕ) → is_space b ≡ true → HasNo (codes "?>") (text ++ (63 ∷ [])) → HasNo (codes "?>") (b ∷ text)
white_has_no b text e h [] back f =
    let same : b ≡ 63 = cc in
    let s : true ≡ false = sym e ∙ ap is_space same in cc
white_has_no b text e h (x ∷ front) back f =
    let later : text ≡ front ++ (63 ∷ 62 ∷ back) = cc in
    h front (back ++ (63 ∷ [])) (ap (λ (ys : List ℕ). ys ++ (63 ∷ [])) later ∙ append_assoc front (63 ∷ 62 ∷ back) (63 ∷ []))

pub target_ok : (bytes rest : List ℕ) → behind_target bytes ≡ Ok rest → ContentFound bytes rest
target_ok [] rest e = absurd cc
target_ok (b ∷ bytes) rest e = on (eqb b 63) (is_space b) refl refl e
  where
    on : (s t : Bool) → eqb b 63 ≡ s → is_space b ≡ t → cond s (literal (codes ">") bytes) (cond t (behind_pair 63 62 bytes) (Err Malformed)) ≡ Ok rest → ContentFound (b ∷ bytes) rest
    on true t p q h =
        let is : b ≡ 63 = eqb-true b 63 p in
        record { content = []; apart = tt; chars = refl; no_end = nothing_has_no; parts = ap (λ (y : ℕ). y ∷ bytes) is ∙ ap (λ (ys : List ℕ). 63 ∷ ys) (literal_ok (codes ">") bytes rest h) }
    on false true p q h =
        let found = behind_pair_ok 63 62 bytes rest question h in
        record {
          content = b ∷ found.text;
          apart = q;
          chars = white_alone b found.text q found.chars;
          no_end = white_has_no b found.text q found.has_no;
          parts = ap (λ (ys : List ℕ). b ∷ ys) found.parts;
        }
    on false false p q h = absurd cc

-- text that has no ?> has none where a ? follows it
no_end_behind : (text : List ℕ) → HasNo (codes "?>") text → HasNo (codes "?>") (text ++ (63 ∷ []))
no_end_behind [] h [] back e = cc
no_end_behind [] h (x ∷ []) back e = cc
no_end_behind [] h (x ∷ (y ∷ front)) back e = cc
no_end_behind (t ∷ []) h [] back e = let second : ◌≡◌ {A = ℕ} 63 62 = cc in absurd (omega (arith, second))
no_end_behind (t ∷ (u ∷ text)) h [] back e =
    let first : t ≡ 63 = cc in
    let second : u ≡ 62 = cc in
    h [] text (ap (λ (x : ℕ). x ∷ u ∷ text) first ∙ ap (λ (x : ℕ). 63 ∷ x ∷ text) second)
no_end_behind (t ∷ text) h (x ∷ front) back e =
    let later : text ++ (63 ∷ []) ≡ front ++ (63 ∷ 62 ∷ back) = cc in
    no_end_behind text (λ front back f. h (t ∷ front) back (ap (λ (ys : List ℕ). t ∷ ys) f)) front back later

pub target_again : (content rest : List ℕ) → BeginsWhite content → IsXmlText content → HasNo (codes "?>") content → behind_target (content ++ (63 ∷ 62 ∷ rest)) ≡ Ok rest
target_again [] rest w t n = refl
target_again (b ∷ content) rest w t n =
    let dark : eqb b 63 ≡ false = grind (arith, nat_tests) in
    let chars : Chars Whole (b ∷ content) = text_chars (b ∷ content) t in
    let inner : Chars Whole content = subst (λ p. Chars p content) (alone chars.0 chars.1) chars.2 in
    let has_no : HasNo (codes "?>") (content ++ (63 ∷ [])) = no_end_behind content (λ front back f. n (b ∷ front) back (ap (λ (ys : List ℕ). b ∷ ys) f)) in
    rw (dark, w) (behind_pair_again 63 62 content rest question inner has_no)
  where
    alone : (p : Progress) → after_byte Whole b ≡ Ok p → p ≡ Whole
    alone p e = same_ok p Whole (sym e ∙ (white_alone b [] w refl).1 ∙ ap (λ (q : Progress). Ok q) (white_alone b [] w refl).2)

pub record InstructionFound (c : Construct) (bytes rest : List ℕ) : Type 0 where
  pub instruction : Instruction
  pub form : IsInstruction instruction
  pub parts : bytes ≡ instruction.target ++ (instruction.content ++ (63 ∷ 62 ∷ rest))
  pub is : c ≡ skipped

chosen : {A : Type 0} (t : Bool) (r : Result A Stop) (x : A) → cond t (Err Malformed) r ≡ Ok x → (t ≡ false) × (r ≡ Ok x)
chosen true r x e = absurd cc
chosen false r x e = (refl, e)

pub instruction_ok : (bytes : List ℕ) (c : Construct) (rest : List ℕ) → instruction_at bytes ≡ Ok (c, rest) → InstructionFound c bytes rest
unfolding instruction_at
instruction_ok bytes c rest e =
    let e1 = bind_ok (word Target bytes) (λ target. cond (is_xml target.0) (Err Malformed) (behind_target target.1) >>= λ rest. Ok (skipped, rest)) (c, rest) e in
    let e2 = bind_ok (cond (is_xml e1.mid.0) (Err Malformed) (behind_target e1.mid.1)) (λ rest. Ok (skipped, rest)) (c, rest) e1.second in
    let t = chosen (is_xml e1.mid.0) (behind_target e1.mid.1) e2.mid e2.first in
    let w = word_ok Target bytes e1.mid target_low e1.first in
    let found = target_ok e1.mid.1 e2.mid t.1 in
    let last : e2.mid ≡ rest = second_of_pair skipped c e2.mid rest e2.second in
    record {
      instruction = record { target = e1.mid.0; content = found.content };
      form = record {
        target = record { some = w.some; characters = chars_text e1.mid.0 w.run.chars; bytes = w.run.within };
        not_xml = false_not_xml e1.mid.0 t.0;
        apart = found.apart;
        characters = chars_text found.content found.chars;
        no_end = found.no_end;
      };
      parts = w.run.parts ∙ ap (λ (ys : List ℕ). e1.mid.0 ++ ys) (found.parts ∙ ap (λ (ys : List ℕ). found.content ++ (63 ∷ 62 ∷ ys)) last);
      is = sym (first_of_pair skipped c e2.mid rest e2.second);
    }

ends_target : (content rest : List ℕ) → BeginsWhite content → EndsRun Target (content ++ (63 ∷ 62 ∷ rest))
ends_target [] rest w = refl
ends_target (b ∷ content) rest w = rw w refl

pub instruction_again : (i : Instruction) (rest : List ℕ) → IsInstruction i → instruction_at (i.target ++ (i.content ++ (63 ∷ 62 ∷ rest))) ≡ Ok (skipped, rest)
unfolding instruction_at
instruction_again i rest form =
    let w = word_again Target i.target (i.content ++ (63 ∷ 62 ∷ rest)) form.target.some (text_chars i.target form.target.characters) form.target.bytes (ends_target i.content rest form.apart) in
    rw (w, not_xml i.target form.not_xml, target_again i.content rest form.apart form.characters form.no_end) refl

pub instruction_print : (i : Instruction) (rest : List ℕ) → print_instruction i ++ rest ≡ 60 ∷ 63 ∷ (i.target ++ (i.content ++ (63 ∷ 62 ∷ rest)))
instruction_print i rest =
    ap (λ (ys : List ℕ). 60 ∷ 63 ∷ ys) (append_assoc i.target (i.content ++ codes "?>") rest ∙ ap (λ (ys : List ℕ). i.target ++ ys) (append_assoc i.content (codes "?>") rest))

-- ---- tags

pub record NameFound (c : Construct) (bytes rest : List ℕ) : Type 0 where
  pub name : List ℕ
  pub form : IsName name
  pub parts : bytes ≡ name ++ rest
  pub stops : EndsRun Name rest
  pub is : c ≡ opening name

not_33 : (b : ℕ) → eqb b 33 ≡ false → b ≢ 33
not_33 b e h = let f : true ≡ false = sym (eq-eqb b 33 h) ∙ e in cc

not_63 : (b : ℕ) → eqb b 63 ≡ false → b ≢ 63
not_63 b e h = let f : true ≡ false = sym (eq-eqb b 63 h) ∙ e in cc

begins_tag : (name : List ℕ) (b : ℕ) (bytes rest : List ℕ) → 0 < length name → b ∷ bytes ≡ name ++ rest → eqb b 33 ≡ false → eqb b 63 ≡ false → BeginsTag name
begins_tag [] b bytes rest some e p q = absurd (omega (arith, some))
begins_tag (n ∷ name) b bytes rest some e p q = let same : b ≡ n = cc in subst (λ (x : ℕ). (x ≢ 33) × (x ≢ 63)) same (not_33 b p, not_63 b q)

pub tag_name_is : (name : List ℕ) (b : ℕ) (bytes rest : List ℕ) → IsName name → b ∷ bytes ≡ name ++ rest → eqb b 33 ≡ false → eqb b 63 ≡ false → IsTagName name
tag_name_is name b bytes rest form e p q = record { form = form; begins = begins_tag name b bytes rest form.some e p q }

pub tag_name_ok : (bytes : List ℕ) (c : Construct) (rest : List ℕ) → tag_name_at bytes ≡ Ok (c, rest) → NameFound c bytes rest
unfolding tag_name_at
tag_name_ok bytes c rest e =
    let e1 = bind_ok (word Name bytes) (λ name. Ok (opening name.0, name.1)) (c, rest) e in
    let w = word_ok Name bytes e1.mid name_low e1.first in
    let last : e1.mid.1 ≡ rest = second_of_pair (opening e1.mid.0) c e1.mid.1 rest e1.second in
    record {
      name = e1.mid.0;
      form = record { some = w.some; characters = chars_text e1.mid.0 w.run.chars; bytes = w.run.within };
      parts = w.run.parts ∙ ap (λ (ys : List ℕ). e1.mid.0 ++ ys) last;
      stops = subst (EndsRun Name) last w.run.stops;
      is = sym (first_of_pair (opening e1.mid.0) c e1.mid.1 rest e1.second);
    }

pub name_again : (name rest : List ℕ) → IsName name → EndsRun Name rest → word Name (name ++ rest) ≡ Ok (name, rest)
name_again name rest form stops = word_again Name name rest form.some (text_chars name form.characters) form.bytes stops

pub tag_name_again : (name rest : List ℕ) → IsName name → EndsRun Name rest → tag_name_at (name ++ rest) ≡ Ok (opening name, rest)
unfolding tag_name_at
tag_name_again name rest form stops = rw (name_again name rest form stops) refl

pub record EndTagFound (c : Construct) (bytes rest : List ℕ) : Type 0 where
  pub tag : EndTag
  pub form : IsEndTag tag
  pub parts : bytes ≡ tag.name ++ (tag.space ++ (62 ∷ rest))
  pub is : c ≡ closing tag.name

pub end_tag_ok : (bytes : List ℕ) (c : Construct) (rest : List ℕ) → end_tag_at bytes ≡ Ok (c, rest) → EndTagFound c bytes rest
unfolding end_tag_at
end_tag_ok bytes c rest e =
    let e1 = bind_ok (word Name bytes) (λ name. spaces name.1 >>= λ behind. literal (codes ">") behind >>= λ rest. Ok (closing name.0, rest)) (c, rest) e in
    let e2 = bind_ok (spaces e1.mid.1) (λ behind. literal (codes ">") behind >>= λ rest. Ok (closing e1.mid.0, rest)) (c, rest) e1.second in
    let e3 = bind_ok (literal (codes ">") e2.mid) (λ rest. Ok (closing e1.mid.0, rest)) (c, rest) e2.second in
    let w = word_ok Name bytes e1.mid name_low e1.first in
    let s = spaces_ok e1.mid.1 e2.mid e2.first in
    let last : e2.mid ≡ 62 ∷ rest = literal_ok (codes ">") e2.mid e3.mid e3.first ∙ ap (λ (ys : List ℕ). 62 ∷ ys) (second_of_pair (closing e1.mid.0) c e3.mid rest e3.second) in
    record {
      tag = record { name = e1.mid.0; space = s.white };
      form = record { name = record { some = w.some; characters = chars_text e1.mid.0 w.run.chars; bytes = w.run.within }; space = s.is_white };
      parts = w.run.parts ∙ ap (λ (ys : List ℕ). e1.mid.0 ++ ys) (s.parts ∙ ap (λ (ys : List ℕ). s.white ++ ys) last);
      is = sym (first_of_pair (closing e1.mid.0) c e3.mid rest e3.second);
    }

-- white space, or a byte that ends a name, ends one
pub blank_ends : (space : List ℕ) (b : ℕ) (rest : List ℕ) → IsBlank space → EndsRun Name (b ∷ rest) → EndsRun Name (space ++ (b ∷ rest))
blank_ends [] b rest w h = h
blank_ends (x ∷ space) b rest w h = rw w.0 refl

pub end_tag_again : (t : EndTag) (rest : List ℕ) → IsEndTag t → end_tag_at (t.name ++ (t.space ++ (62 ∷ rest))) ≡ Ok (closing t.name, rest)
unfolding end_tag_at
end_tag_again t rest form =
    rw (name_again t.name (t.space ++ (62 ∷ rest)) form.name (blank_ends t.space 62 rest form.space refl), spaces_again t.space (62 ∷ rest) form.space refl) refl

pub end_tag_print : (t : EndTag) (rest : List ℕ) → print_end_tag t ++ rest ≡ 60 ∷ 47 ∷ (t.name ++ (t.space ++ (62 ∷ rest)))
end_tag_print t rest =
    ap (λ (ys : List ℕ). 60 ∷ 47 ∷ ys) (append_assoc t.name (t.space ++ codes ">") rest ∙ ap (λ (ys : List ℕ). t.name ++ ys) (append_assoc t.space (codes ">") rest))

pub empty_end_ok : (bytes : List ℕ) (c : Construct) (rest : List ℕ) → empty_end_at bytes ≡ Ok (c, rest) → (bytes ≡ 62 ∷ rest) × (c ≡ empty_end)
empty_end_ok bytes c rest e =
    let e1 = bind_ok (literal (codes ">") bytes) (λ rest. Ok (empty_end, rest)) (c, rest) e in
    (literal_ok (codes ">") bytes e1.mid e1.first ∙ ap (λ (ys : List ℕ). 62 ∷ ys) (second_of_pair empty_end c e1.mid rest e1.second), sym (first_of_pair empty_end c e1.mid rest e1.second))

-- ---- attributes

pub is_quote : (b : ℕ) → (eqb b 34 || eqb b 39) ≡ true → IsQuote b
is_quote b e = grind (arith, nat_tests)

pub quote_is : (b : ℕ) → IsQuote b → (eqb b 34 || eqb b 39) ≡ true
quote_is b (inl e) = rw e refl
quote_is b (inr e) = rw e refl

pub quote_low : (b : ℕ) → IsQuote b → b < 128
quote_low b (inl e) = omega (arith, e)
quote_low b (inr e) = omega (arith, e)

pub record ValueFound (x : List ℕ × List ℕ) (bytes : List ℕ) : Type 0 where
  pub quote : ℕ
  pub is_quote : IsQuote quote
  pub value : IsValue quote x.0
  pub parts : bytes ≡ quote ∷ (x.0 ++ (quote ∷ x.1))

-- the quote closes the value
record Closed (quote : ℕ) (x y : List ℕ × List ℕ) : Type 0 where
  value : x.0 ≡ y.0
  rest : x.1 ≡ quote ∷ y.1

closed_ok : (quote : ℕ) (x y : List ℕ × List ℕ) → closed_by quote x ≡ Ok y → Closed quote x y
closed_ok quote (value, []) y e = absurd cc
closed_ok quote (value, b ∷ rest) y e = on (eqb b quote) refl e
  where
    on : (v : Bool) → eqb b quote ≡ v → cond v (Ok (value, rest)) (Err Malformed) ≡ Ok y → Closed quote (value, b ∷ rest) y
    on true t h =
        let same : b ≡ quote = eqb-true b quote t in
        let is : (value, rest) ≡ y = same_ok (value, rest) y h in
        record { value = ap (λ z. z.0) is; rest = ap (λ (z : ℕ). z ∷ rest) same ∙ ap (λ (z : List ℕ × List ℕ). quote ∷ z.1) is }
    on false t h = absurd cc

pub value_ok : (bytes : List ℕ) (x : List ℕ × List ℕ) → value_at bytes ≡ Ok x → ValueFound x bytes
value_ok [] x e = absurd cc
value_ok (b ∷ bytes) x e = on (eqb b 34 || eqb b 39) refl e
  where
    on : (v : Bool) → (eqb b 34 || eqb b 39) ≡ v → cond v (run (Value b) bytes >>= closed_by b) (Err Malformed) ≡ Ok x → ValueFound x (b ∷ bytes)
    on true t h =
        let q = is_quote b t in
        let e1 = bind_ok (run (Value b) bytes) (closed_by b) x h in
        let found = run_ok (Value b) Whole bytes e1.mid (value_low b (quote_low b q)) tt e1.first in
        let closed = closed_ok b e1.mid x e1.second in
        record {
          quote = b;
          is_quote = q;
          value = subst (IsValue b) closed.value (record { characters = chars_text e1.mid.0 found.chars; bytes = found.within });
          parts = ap (λ (ys : List ℕ). b ∷ ys) (found.parts ∙ ap (λ (ys : List ℕ). ys ++ e1.mid.1) closed.value ∙ ap (λ (ys : List ℕ). x.0 ++ ys) closed.rest);
        }
    on false t h = absurd cc

closes : (quote : ℕ) (rest : List ℕ) → EndsRun (Value quote) (quote ∷ rest)
closes quote rest = rw (eq-eqb quote quote refl) refl

closed_again : (quote : ℕ) (value rest : List ℕ) → closed_by quote (value, quote ∷ rest) ≡ Ok (value, rest)
closed_again quote value rest = rw (eq-eqb quote quote refl) refl

pub value_again : (quote : ℕ) (value rest : List ℕ) → IsQuote quote → IsValue quote value → value_at (quote ∷ (value ++ (quote ∷ rest))) ≡ Ok (value, rest)
value_again quote value rest q form =
    rw (quote_is quote q) (bind_both (run (Value quote) (value ++ (quote ∷ rest))) (closed_by quote) (value, quote ∷ rest) (value, rest)
    (run_again (Value quote) Whole value (quote ∷ rest) (text_chars value form.characters) form.bytes (closes quote rest)) (closed_again quote value rest))

-- an attribute's bytes, and those behind it
abbrev pub attribute_bytes : Attribute → List ℕ → List ℕ
attribute_bytes a rest = a.name ++ (a.equals.before ++ (61 ∷ (a.equals.after ++ (a.quote ∷ (a.value ++ (a.quote ∷ rest))))))

pub record AttributeFound (x : (List ℕ × List ℕ) × List ℕ) (bytes : List ℕ) : Type 0 where
  pub attribute : Attribute
  pub form : IsAttribute attribute
  pub parts : bytes ≡ attribute_bytes attribute x.1
  pub name : x.0.0 ≡ attribute.name
  pub value : x.0.1 ≡ attribute.value

pub attribute_ok : (bytes : List ℕ) (x : (List ℕ × List ℕ) × List ℕ) → attribute_at bytes ≡ Ok x → AttributeFound x bytes
unfolding attribute_at
attribute_ok bytes x e =
    let e1 = bind_ok (word Name bytes) (λ name. spaces name.1 >>= λ before. literal (codes "=") before >>= λ behind. spaces behind >>= λ quoted. value_at quoted >>= λ value. Ok ((name.0, value.0), value.1)) x e in
    let name : List ℕ = e1.mid.0 in
    let e2 = bind_ok (spaces e1.mid.1) (λ before. literal (codes "=") before >>= λ behind. spaces behind >>= λ quoted. value_at quoted >>= λ value. Ok ((e1.mid.0, value.0), value.1)) x e1.second in
    let e3 = bind_ok (literal (codes "=") e2.mid) (λ behind. spaces behind >>= λ quoted. value_at quoted >>= λ value. Ok ((e1.mid.0, value.0), value.1)) x e2.second in
    let e4 = bind_ok (spaces e3.mid) (λ quoted. value_at quoted >>= λ value. Ok ((e1.mid.0, value.0), value.1)) x e3.second in
    let e5 = bind_ok (value_at e4.mid) (λ value. Ok ((e1.mid.0, value.0), value.1)) x e4.second in
    let w = word_ok Name bytes e1.mid name_low e1.first in
    let s = spaces_ok e1.mid.1 e2.mid e2.first in
    let t = spaces_ok e3.mid e4.mid e4.first in
    let v = value_ok e4.mid e5.mid e5.first in
    let is : ((e1.mid.0, e5.mid.0), e5.mid.1) ≡ x = same_ok ((e1.mid.0, e5.mid.0), e5.mid.1) x e5.second in
    let rest : e5.mid.1 ≡ x.1 = ap (λ (y : (List ℕ × List ℕ) × List ℕ). y.1) is in
    record {
      attribute = record { name = e1.mid.0; equals = record { before = s.white; after = t.white }; quote = v.quote; value = e5.mid.0 };
      form = record {
        name = record { some = w.some; characters = chars_text e1.mid.0 w.run.chars; bytes = w.run.within };
        equals = record { before = s.is_white; after = t.is_white };
        quote = v.is_quote;
        value = v.value;
      };
      parts = w.run.parts ∙ ap (λ (ys : List ℕ). e1.mid.0 ++ ys) (s.parts ∙ ap (λ (ys : List ℕ). s.white ++ ys) (literal_ok (codes "=") e2.mid e3.mid e3.first
          ∙ ap (λ (ys : List ℕ). 61 ∷ ys) (t.parts ∙ ap (λ (ys : List ℕ). t.white ++ ys) (v.parts ∙ ap (λ (ys : List ℕ). v.quote ∷ (e5.mid.0 ++ (v.quote ∷ ys))) rest))));
      name = sym (ap (λ (y : (List ℕ × List ℕ) × List ℕ). y.0.0) is);
      value = sym (ap (λ (y : (List ℕ × List ℕ) × List ℕ). y.0.1) is);
    }

pub quote_dark : (b : ℕ) → IsQuote b → is_space b ≡ false
quote_dark b (inl e) = rw e refl
quote_dark b (inr e) = rw e refl

pub attribute_again : (a : Attribute) (rest : List ℕ) → IsAttribute a → attribute_at (attribute_bytes a rest) ≡ Ok ((a.name, a.value), rest)
unfolding attribute_at
attribute_again a rest form =
    let value : List ℕ = a.quote ∷ (a.value ++ (a.quote ∷ rest)) in
    let behind : List ℕ = a.equals.before ++ (61 ∷ (a.equals.after ++ (a.quote ∷ (a.value ++ (a.quote ∷ rest))))) in
    rw (
      name_again a.name (a.equals.before ++ (61 ∷ (a.equals.after ++ (a.quote ∷ (a.value ++ (a.quote ∷ rest)))))) form.name (blank_ends a.equals.before 61 (a.equals.after ++ (a.quote ∷ (a.value ++ (a.quote ∷ rest)))) form.equals.before refl),
      spaces_again a.equals.before (61 ∷ (a.equals.after ++ (a.quote ∷ (a.value ++ (a.quote ∷ rest))))) form.equals.before refl,
      spaces_again a.equals.after (a.quote ∷ (a.value ++ (a.quote ∷ rest))) form.equals.after (quote_dark a.quote form.quote),
      value_again a.quote a.value rest form.quote form.value,
    ) refl

pub attribute_print : (a : Attribute) (rest : List ℕ) → print_attribute a ++ rest ≡ attribute_bytes a rest
attribute_print a rest = simp append_assoc
