-- What the reader of the declaration reads.
use Rattle.std.proofs.Common.{◌≡◌, ℕ, ◌+◌, ◌⊎◌, inl, inr, Bool, true, false, ◌&&◌, ◌||◌, cond, eqb, List, [], ◌∷◌, ◌++◌, Option, Some, None, Result, Ok, Err, refl, sym, ap, ◌∙◌, subst, append_assoc, arith}
use Rattle.std.specs.Prelude.{codes}
use Rattle.std.specs.List.{AllByRecursion}
use Rattle.std.specs.Char.{to_ascii_lowercase}
use Rattle.std.specs.Str.{str_to_ascii_lowercase}
use Rattle.std.proofs.lemmas.Bool.{eqb-true, eq-eqb}
use Rattle.std.proofs.lemmas.Bool.Decides.{nat_tests}
use Rattle.ob_scan.specs.declared.stop.Stop.{Stop}
use Rattle.ob_scan.specs.declared.stop.Stop.TheVariants.{Want, Malformed}
use Rattle.ob_scan.specs.Characters.{within}
use Rattle.ob_scan.specs.Reading.{◌>>=◌, is_space, literal, spaces}
use Rattle.ob_scan.specs.Constructs.{Construct, skipped, or_word, is_caseless, caseless, quote_at, opened, version_at, encoding_at, standalone_at, part_or, optional, declaration_at, one_space, declares}
use Rattle.ob_markup.specs.Characters.{IsBlank, IsSpace, IsQuote, Equals, IsEquals}
use Rattle.ob_markup.specs.Markup.{Setting, print_setting, IsSetting, IsVersion, IsEncoding, IsStandalone, Declaration, print_optional, print_declaration, IsOptional, IsDeclaration}
use Rattle.ob_markup.proofs.Literals.{bind_ok, bind_both, literal_ok, literal_again, Spaced, spaces_ok, spaces_again}
use Rattle.ob_markup.proofs.Runs.{same_ok}
use Rattle.ob_markup.proofs.Forms.{first_of_pair, second_of_pair, is_quote, quote_is, quote_dark}

-- ---- words in any case

small_letter : (c b : ℕ) → to_ascii_lowercase c ≡ c → is_caseless c b ≡ true → to_ascii_lowercase b ≡ c
small_letter c b s e = on (eqb b c) refl e
  where
    on : (v : Bool) → eqb b c ≡ v → (v || (within 97 122 c && eqb (b + 32) c)) ≡ true → to_ascii_lowercase b ≡ c
    on true t h = let same : b ≡ c = eqb-true b c t in ap to_ascii_lowercase same ∙ s
    on false t h = grind (arith, nat_tests)

letter_caseless : (c b : ℕ) → to_ascii_lowercase b ≡ c → is_caseless c b ≡ true
letter_caseless c b e = grind (arith, nat_tests)

-- no capital stands in it
abbrev pub IsSmall : List ℕ → Type 0
IsSmall text = AllByRecursion (λ c. to_ascii_lowercase c ≡ c) text

-- a value that was read
pub record ValueRead (IsAllowed : List ℕ → Type 0) (bytes rest : List ℕ) : Type 0 where
  pub value : List ℕ
  pub allowed : IsAllowed value
  pub parts : bytes ≡ value ++ rest

pub caseless_ok : (text bytes rest : List ℕ) → IsSmall text → caseless text bytes ≡ Ok rest → ValueRead (λ v. str_to_ascii_lowercase v ≡ text) bytes rest
caseless_ok [] bytes rest s e = record { value = []; allowed = refl; parts = same_ok bytes rest e }
caseless_ok (c ∷ cs) [] rest s e = absurd cc
caseless_ok (c ∷ cs) (b ∷ bytes) rest s e = on (is_caseless c b) refl e (caseless_ok cs bytes rest s.1)
  where
    on : (v : Bool) → is_caseless c b ≡ v → cond v (caseless cs bytes) (Err Malformed) ≡ Ok rest → (caseless cs bytes ≡ Ok rest → ValueRead (λ v. str_to_ascii_lowercase v ≡ cs) bytes rest)
        → ValueRead (λ v. str_to_ascii_lowercase v ≡ c ∷ cs) (b ∷ bytes) rest
    on true t h later =
        let found = later h in
        record { value = b ∷ found.value; allowed = ap (λ (x : ℕ). x ∷ str_to_ascii_lowercase found.value) (small_letter c b s.0 t) ∙ ap (λ (xs : List ℕ). c ∷ xs) found.allowed; parts = ap (λ (xs : List ℕ). b ∷ xs) found.parts }
    on false t h later = absurd cc

pub caseless_again : (text value rest : List ℕ) → str_to_ascii_lowercase value ≡ text → caseless text (value ++ rest) ≡ Ok rest
caseless_again [] [] rest e = refl
caseless_again [] (b ∷ value) rest e = absurd cc
caseless_again (c ∷ cs) [] rest e = absurd cc
caseless_again (c ∷ cs) (b ∷ value) rest e =
    let first : to_ascii_lowercase b ≡ c = cc in
    let later : str_to_ascii_lowercase value ≡ cs = cc in
    rw (letter_caseless c b first) (caseless_again cs value rest later)

or_ok : (r s : Result (List ℕ) Stop) (rest : List ℕ) → or_word r s ≡ Ok rest → (r ≡ Ok rest) ⊎ (s ≡ Ok rest)
or_ok (Ok x) s rest e = inl e
or_ok (Err Want) s rest e = absurd cc
or_ok (Err Malformed) s rest e = inr e

or_first : (r s : Result (List ℕ) Stop) (rest : List ℕ) → r ≡ Ok rest → or_word r s ≡ Ok rest
or_first r s rest e = ap (λ r. or_word r s) e

or_second : (r s : Result (List ℕ) Stop) (rest : List ℕ) → r ≡ Err Malformed → s ≡ Ok rest → or_word r s ≡ Ok rest
or_second r s rest e h = ap (λ r. or_word r s) e ∙ h

encoding_read : (bytes rest : List ℕ) → or_word (caseless (codes "utf-8") bytes) (caseless (codes "us-ascii") bytes) ≡ Ok rest → ValueRead IsEncoding bytes rest
encoding_read bytes rest e = on (or_ok (caseless (codes "utf-8") bytes) (caseless (codes "us-ascii") bytes) rest e)
  where
    on : (caseless (codes "utf-8") bytes ≡ Ok rest) ⊎ (caseless (codes "us-ascii") bytes ≡ Ok rest) → ValueRead IsEncoding bytes rest
    on (inl h) = let v = caseless_ok (codes "utf-8") bytes rest (refl, (refl, (refl, (refl, (refl, tt))))) h in record { value = v.value; allowed = inl v.allowed; parts = v.parts }
    on (inr h) = let v = caseless_ok (codes "us-ascii") bytes rest (refl, (refl, (refl, (refl, (refl, (refl, (refl, (refl, tt)))))))) h in record { value = v.value; allowed = inr v.allowed; parts = v.parts }

s_no_t : (b : ℕ) → to_ascii_lowercase b ≡ 115 → is_caseless 116 b ≡ false
s_no_t b e = grind (arith, nat_tests)

not_utf : (value rest : List ℕ) → str_to_ascii_lowercase value ≡ codes "us-ascii" → caseless (codes "utf-8") (value ++ rest) ≡ Err Malformed
not_utf [] rest e = absurd cc
not_utf (a ∷ []) rest e = absurd cc
not_utf (a ∷ (b ∷ value)) rest e =
    let first : to_ascii_lowercase a ≡ 117 = cc in
    let second : to_ascii_lowercase b ≡ 115 = cc in
    rw (letter_caseless 117 a first, s_no_t b second) refl

encoding_again : (value rest : List ℕ) → IsEncoding value → or_word (caseless (codes "utf-8") (value ++ rest)) (caseless (codes "us-ascii") (value ++ rest)) ≡ Ok rest
encoding_again value rest (inl e) = or_first (caseless (codes "utf-8") (value ++ rest)) (caseless (codes "us-ascii") (value ++ rest)) rest (caseless_again (codes "utf-8") value rest e)
encoding_again value rest (inr e) = or_second (caseless (codes "utf-8") (value ++ rest)) (caseless (codes "us-ascii") (value ++ rest)) rest (not_utf value rest e) (caseless_again (codes "us-ascii") value rest e)

standalone_read : (bytes rest : List ℕ) → or_word (literal (codes "yes") bytes) (literal (codes "no") bytes) ≡ Ok rest → ValueRead IsStandalone bytes rest
standalone_read bytes rest e = on (or_ok (literal (codes "yes") bytes) (literal (codes "no") bytes) rest e)
  where
    on : (literal (codes "yes") bytes ≡ Ok rest) ⊎ (literal (codes "no") bytes ≡ Ok rest) → ValueRead IsStandalone bytes rest
    on (inl h) = record { value = codes "yes"; allowed = inl refl; parts = literal_ok (codes "yes") bytes rest h }
    on (inr h) = record { value = codes "no"; allowed = inr refl; parts = literal_ok (codes "no") bytes rest h }

standalone_again : (value rest : List ℕ) → IsStandalone value → or_word (literal (codes "yes") (value ++ rest)) (literal (codes "no") (value ++ rest)) ≡ Ok rest
standalone_again value rest (inl e) = rw e refl
standalone_again value rest (inr e) = rw e refl

version_read : (bytes rest : List ℕ) → literal (codes "1.0") bytes ≡ Ok rest → ValueRead IsVersion bytes rest
version_read bytes rest h = record { value = codes "1.0"; allowed = refl; parts = literal_ok (codes "1.0") bytes rest h }

version_again : (value rest : List ℕ) → IsVersion value → literal (codes "1.0") (value ++ rest) ≡ Ok rest
version_again value rest e = rw e refl

-- ---- a part of the declaration, from its name on

abbrev pub part_bytes : List ℕ → Equals → ℕ → List ℕ → List ℕ → List ℕ
part_bytes name equals quote value rest = name ++ (equals.before ++ (61 ∷ (equals.after ++ (quote ∷ (value ++ (quote ∷ rest))))))

record OpenedFound (name bytes : List ℕ) (x : ℕ × List ℕ) : Type 0 where
  equals : Equals
  form : IsEquals equals
  quote : IsQuote x.0
  parts : bytes ≡ name ++ (equals.before ++ (61 ∷ (equals.after ++ (x.0 ∷ x.1))))

pub quote_ok : (bytes : List ℕ) (x : ℕ × List ℕ) → quote_at bytes ≡ Ok x → IsQuote x.0 × (bytes ≡ x.0 ∷ x.1)
quote_ok [] x e = absurd cc
quote_ok (b ∷ bytes) x e = on (eqb b 34 || eqb b 39) refl e
  where
    on : (v : Bool) → (eqb b 34 || eqb b 39) ≡ v → cond v (Ok (b, bytes)) (Err Malformed) ≡ Ok x → IsQuote x.0 × (b ∷ bytes ≡ x.0 ∷ x.1)
    on true t h =
        let same : (b, bytes) ≡ x = same_ok (b, bytes) x h in
        (subst (λ (y : ℕ × List ℕ). IsQuote y.0) same (is_quote b t), ap (λ (y : ℕ × List ℕ). y.0 ∷ y.1) same)
    on false t h = absurd cc

opened_ok : (name bytes : List ℕ) (x : ℕ × List ℕ) → opened name bytes ≡ Ok x → OpenedFound name bytes x
unfolding opened
opened_ok name bytes x e =
    let e1 = bind_ok (literal name bytes) (λ behind. spaces behind >>= λ before. literal (codes "=") before >>= λ equals. spaces equals >>= λ quoted. quote_at quoted) x e in
    let e2 = bind_ok (spaces e1.mid) (λ before. literal (codes "=") before >>= λ equals. spaces equals >>= λ quoted. quote_at quoted) x e1.second in
    let e3 = bind_ok (literal (codes "=") e2.mid) (λ equals. spaces equals >>= λ quoted. quote_at quoted) x e2.second in
    let e4 = bind_ok (spaces e3.mid) (λ quoted. quote_at quoted) x e3.second in
    let s = spaces_ok e1.mid e2.mid e2.first in
    let t = spaces_ok e3.mid e4.mid e4.first in
    let q = quote_ok e4.mid x e4.second in
    record {
      equals = record { before = s.white; after = t.white };
      form = record { before = s.is_white; after = t.is_white };
      quote = q.0;
      parts = literal_ok name bytes e1.mid e1.first ∙ ap (λ (ys : List ℕ). name ++ ys) (s.parts ∙ ap (λ (ys : List ℕ). s.white ++ ys) (literal_ok (codes "=") e2.mid e3.mid e3.first
          ∙ ap (λ (ys : List ℕ). 61 ∷ ys) (t.parts ∙ ap (λ (ys : List ℕ). t.white ++ ys) q.1)));
    }

opened_again : (name : List ℕ) (equals : Equals) (quote : ℕ) (rest : List ℕ) → IsEquals equals → IsQuote quote → opened name (name ++ (equals.before ++ (61 ∷ (equals.after ++ (quote ∷ rest))))) ≡ Ok (quote, rest)
unfolding opened
opened_again name equals quote rest form q =
    rw (
      literal_again name (equals.before ++ (61 ∷ (equals.after ++ (quote ∷ rest)))),
      spaces_again equals.before (61 ∷ (equals.after ++ (quote ∷ rest))) form.before refl,
      spaces_again equals.after (quote ∷ rest) form.after (quote_dark quote q),
      quote_is quote q,
    ) refl

record PartFound (name : List ℕ) (IsAllowed : List ℕ → Type 0) (bytes rest : List ℕ) : Type 0 where
  equals : Equals
  form : IsEquals equals
  quote : ℕ
  is_quote : IsQuote quote
  value : List ℕ
  allowed : IsAllowed value
  parts : bytes ≡ part_bytes name equals quote value rest

abbrev pub read_part : List ℕ → (List ℕ → Result (List ℕ) Stop) → List ℕ → Result (List ℕ) Stop
read_part name read bytes = opened name bytes >>= λ value. read value.1 >>= λ behind. literal (value.0 ∷ []) behind

part_ok : (name : List ℕ) (read : List ℕ → Result (List ℕ) Stop) (IsAllowed : List ℕ → Type 0) (bytes rest : List ℕ) → ((bytes rest : List ℕ) → read bytes ≡ Ok rest → ValueRead IsAllowed bytes rest)
    → read_part name read bytes ≡ Ok rest → PartFound name IsAllowed bytes rest
part_ok name read IsAllowed bytes rest reads e =
    let e1 = bind_ok (opened name bytes) (λ value. read value.1 >>= λ behind. literal (value.0 ∷ []) behind) rest e in
    let e2 = bind_ok (read e1.mid.1) (λ behind. literal (e1.mid.0 ∷ []) behind) rest e1.second in
    let o = opened_ok name bytes e1.mid e1.first in
    let v = reads e1.mid.1 e2.mid e2.first in
    record {
      equals = o.equals;
      form = o.form;
      quote = e1.mid.0;
      is_quote = o.quote;
      value = v.value;
      allowed = v.allowed;
      parts = o.parts ∙ ap (λ (ys : List ℕ). name ++ (o.equals.before ++ (61 ∷ (o.equals.after ++ (e1.mid.0 ∷ ys))))) (v.parts ∙ ap (λ (ys : List ℕ). v.value ++ ys) (literal_ok (e1.mid.0 ∷ []) e2.mid rest e2.second));
    }

part_again : (name : List ℕ) (read : List ℕ → Result (List ℕ) Stop) (equals : Equals) (quote : ℕ) (value rest : List ℕ) → IsEquals equals → IsQuote quote
    → read (value ++ (quote ∷ rest)) ≡ Ok (quote ∷ rest) → read_part name read (part_bytes name equals quote value rest) ≡ Ok rest
part_again name read equals quote value rest form q reads =
    rw (opened_again name equals quote (value ++ (quote ∷ rest)) form q, reads) (literal_again (quote ∷ []) rest)

-- ---- a part behind its white space

abbrev pub setting_bytes : List ℕ → Setting → List ℕ → List ℕ
setting_bytes name s rest = s.space ++ part_bytes name s.equals s.quote s.value rest

pub setting_print : (name : List ℕ) (s : Setting) (rest : List ℕ) → print_setting name s ++ rest ≡ setting_bytes name s rest
setting_print name s rest = simp append_assoc

abbrev pub optional_bytes : List ℕ → Option Setting → List ℕ → List ℕ
optional_bytes name None rest = rest
optional_bytes name (Some s) rest = setting_bytes name s rest

pub optional_print : (name : List ℕ) (o : Option Setting) (rest : List ℕ) → print_optional name o ++ rest ≡ optional_bytes name o rest
optional_print name None rest = refl
optional_print name (Some s) rest = setting_print name s rest

record OptionalFound (name : List ℕ) (IsAllowed : List ℕ → Type 0) (bytes rest : List ℕ) : Type 0 where
  setting : Option Setting
  form : IsOptional IsAllowed setting
  parts : bytes ≡ optional_bytes name setting rest

-- a letter begins the part, or there is none
part_or_ok : (letter : ℕ) (part : List ℕ → Result (List ℕ) Stop) (before here rest : List ℕ) → part_or letter part before here ≡ Ok rest → (part here ≡ Ok rest) ⊎ (before ≡ rest)
part_or_ok letter part before [] rest e = absurd cc
part_or_ok letter part before (b ∷ here) rest e = on (eqb b letter) e
  where
    on : (v : Bool) → cond v (part (b ∷ here)) (Ok before) ≡ Ok rest → (part (b ∷ here) ≡ Ok rest) ⊎ (before ≡ rest)
    on true h = inl h
    on false h = inr (same_ok before rest h)

with_space : (name : List ℕ) (IsAllowed : List ℕ → Type 0) (space here rest : List ℕ) → IsSpace space → PartFound name IsAllowed here rest → OptionalFound name IsAllowed (space ++ here) rest
with_space name IsAllowed space here rest s found = record {
  setting = Some (record { space = space; equals = found.equals; quote = found.quote; value = found.value });
  form = record { space = s; equals = found.form; quote = found.is_quote; value = found.allowed };
  parts = ap (λ (ys : List ℕ). space ++ ys) found.parts;
}

nothing_there : (name : List ℕ) (IsAllowed : List ℕ → Type 0) (bytes rest : List ℕ) → bytes ≡ rest → OptionalFound name IsAllowed bytes rest
nothing_there name IsAllowed bytes rest e = record { setting = None; form = tt; parts = e }

optional_ok : (name : List ℕ) (IsAllowed : List ℕ → Type 0) (letter : ℕ) (part : List ℕ → Result (List ℕ) Stop) (bytes rest : List ℕ)
    → ((bytes rest : List ℕ) → part bytes ≡ Ok rest → PartFound name IsAllowed bytes rest) → optional letter part bytes ≡ Ok rest → OptionalFound name IsAllowed bytes rest
optional_ok name IsAllowed letter part [] rest reads e = absurd cc
optional_ok name IsAllowed letter part (b ∷ bytes) rest reads e = on (is_space b) refl e
  where
    either : (here : List ℕ) → Spaced bytes here → is_space b ≡ true → (part here ≡ Ok rest) ⊎ (b ∷ bytes ≡ rest) → OptionalFound name IsAllowed (b ∷ bytes) rest
    either here s w (inl h) =
        let found = with_space name IsAllowed (b ∷ s.white) here rest (omega arith, (w, s.is_white)) (reads here rest h) in
        subst (λ (ys : List ℕ). OptionalFound name IsAllowed (b ∷ ys) rest) (sym s.parts) found
    either here s w (inr h) = nothing_there name IsAllowed (b ∷ bytes) rest h

    on : (v : Bool) → is_space b ≡ v → cond v (spaces bytes >>= part_or letter part (b ∷ bytes)) (Ok (b ∷ bytes)) ≡ Ok rest → OptionalFound name IsAllowed (b ∷ bytes) rest
    on true w h =
        let e1 = bind_ok (spaces bytes) (part_or letter part (b ∷ bytes)) rest h in
        either e1.mid (spaces_ok bytes e1.mid e1.first) w (part_or_ok letter part (b ∷ bytes) e1.mid rest e1.second)
    on false w h = nothing_there name IsAllowed (b ∷ bytes) rest (same_ok (b ∷ bytes) rest h)

-- white space, and then another byte
record Front (letter : ℕ) (bytes : List ℕ) : Type 0 where
  white : List ℕ
  pub byte : ℕ
  more : List ℕ
  is_white : IsBlank white
  dark : is_space byte ≡ false
  other : eqb byte letter ≡ false
  parts : bytes ≡ white ++ (byte ∷ more)

pub front_again : (letter : ℕ) (part : List ℕ → Result (List ℕ) Stop) (white : List ℕ) (byte : ℕ) (more : List ℕ) → IsBlank white → is_space byte ≡ false → eqb byte letter ≡ false
    → optional letter part (white ++ (byte ∷ more)) ≡ Ok (white ++ (byte ∷ more))
front_again letter part [] byte more w d o = rw d refl
front_again letter part (b ∷ white) byte more w d o = rw (w.0, spaces_again white (byte ∷ more) w.1 d, o) refl

none_again : (letter : ℕ) (part : List ℕ → Result (List ℕ) Stop) (bytes : List ℕ) → Front letter bytes → optional letter part bytes ≡ Ok bytes
none_again letter part bytes f =
    ap (optional letter part) f.parts ∙ front_again letter part f.white f.byte f.more f.is_white f.dark f.other ∙ ap (λ (ys : List ℕ). Ok ys) (sym f.parts)

some_again : (letter : ℕ) (part : List ℕ → Result (List ℕ) Stop) (space here rest : List ℕ) → IsSpace space → is_space letter ≡ false → part (letter ∷ here) ≡ Ok rest → optional letter part (space ++ (letter ∷ here)) ≡ Ok rest
some_again letter part [] here rest s d h = absurd (omega (arith, s.0))
some_again letter part (b ∷ space) here rest s d h = rw (s.1.0, spaces_again space (letter ∷ here) s.1.1 d, eq-eqb letter letter refl) h

-- ---- the declaration

pub version_at_is : (bytes : List ℕ) → version_at bytes ≡ read_part (codes "version") (literal (codes "1.0")) bytes
unfolding version_at
version_at_is bytes = refl

pub encoding_at_is : (bytes : List ℕ) → encoding_at bytes ≡ read_part (codes "encoding") (λ bytes. or_word (caseless (codes "utf-8") bytes) (caseless (codes "us-ascii") bytes)) bytes
unfolding encoding_at
encoding_at_is bytes = refl

pub standalone_at_is : (bytes : List ℕ) → standalone_at bytes ≡ read_part (codes "standalone") (λ bytes. or_word (literal (codes "yes") bytes) (literal (codes "no") bytes)) bytes
unfolding standalone_at
standalone_at_is bytes = refl

version_ok : (bytes rest : List ℕ) → version_at bytes ≡ Ok rest → PartFound (codes "version") IsVersion bytes rest
version_ok bytes rest e = part_ok (codes "version") (literal (codes "1.0")) IsVersion bytes rest version_read (sym (version_at_is bytes) ∙ e)

encoding_ok : (bytes rest : List ℕ) → encoding_at bytes ≡ Ok rest → PartFound (codes "encoding") IsEncoding bytes rest
encoding_ok bytes rest e = part_ok (codes "encoding") (λ bytes. or_word (caseless (codes "utf-8") bytes) (caseless (codes "us-ascii") bytes)) IsEncoding bytes rest encoding_read (sym (encoding_at_is bytes) ∙ e)

standalone_ok : (bytes rest : List ℕ) → standalone_at bytes ≡ Ok rest → PartFound (codes "standalone") IsStandalone bytes rest
standalone_ok bytes rest e = part_ok (codes "standalone") (λ bytes. or_word (literal (codes "yes") bytes) (literal (codes "no") bytes)) IsStandalone bytes rest standalone_read (sym (standalone_at_is bytes) ∙ e)

abbrev pub last_bytes : Declaration → List ℕ → List ℕ
last_bytes d rest = d.space ++ (63 ∷ 62 ∷ rest)

abbrev pub declaration_bytes : Declaration → List ℕ → List ℕ
declaration_bytes d rest = setting_bytes (codes "version") d.version (optional_bytes (codes "encoding") d.encoding (optional_bytes (codes "standalone") d.standalone (last_bytes d rest)))

pub declaration_print : (d : Declaration) (rest : List ℕ) → print_declaration d ++ rest ≡ codes "<?xml" ++ declaration_bytes d rest
declaration_print d rest =
    let e1 : (d.space ++ codes "?>") ++ rest ≡ last_bytes d rest = append_assoc d.space (codes "?>") rest in
    let e2 : (print_optional (codes "standalone") d.standalone ++ (d.space ++ codes "?>")) ++ rest ≡ optional_bytes (codes "standalone") d.standalone (last_bytes d rest) =
    append_assoc (print_optional (codes "standalone") d.standalone) (d.space ++ codes "?>") rest ∙ ap (λ (ys : List ℕ). print_optional (codes "standalone") d.standalone ++ ys) e1
    ∙ optional_print (codes "standalone") d.standalone (last_bytes d rest) in
    let e3 : (print_optional (codes "encoding") d.encoding ++ (print_optional (codes "standalone") d.standalone ++ (d.space ++ codes "?>"))) ++ rest ≡ optional_bytes (codes "encoding") d.encoding (optional_bytes (codes "standalone") d.standalone (last_bytes d rest)) =
    append_assoc (print_optional (codes "encoding") d.encoding) (print_optional (codes "standalone") d.standalone ++ (d.space ++ codes "?>")) rest ∙ ap (λ (ys : List ℕ). print_optional (codes "encoding") d.encoding ++ ys) e2
    ∙ optional_print (codes "encoding") d.encoding (optional_bytes (codes "standalone") d.standalone (last_bytes d rest)) in
    ap (λ (ys : List ℕ). codes "<?xml" ++ ys)
    (append_assoc (print_setting (codes "version") d.version) (print_optional (codes "encoding") d.encoding ++ (print_optional (codes "standalone") d.standalone ++ (d.space ++ codes "?>"))) rest
    ∙ ap (λ (ys : List ℕ). print_setting (codes "version") d.version ++ ys) e3 ∙ setting_print (codes "version") d.version (optional_bytes (codes "encoding") d.encoding (optional_bytes (codes "standalone") d.standalone (last_bytes d rest))))

pub record DeclarationFound (c : Construct) (bytes rest : List ℕ) : Type 0 where
  pub declaration : Declaration
  pub form : IsDeclaration declaration
  pub parts : bytes ≡ declaration_bytes declaration rest
  pub is : c ≡ skipped

-- behind <?xml and a white byte
behind_white : (w : ℕ) (bytes : List ℕ) (c : Construct) (rest : List ℕ) → is_space w ≡ true → declaration_at bytes ≡ Ok (c, rest) → DeclarationFound c (w ∷ bytes) rest
unfolding declaration_at
behind_white w bytes c rest white e =
    let e1 = bind_ok (spaces bytes) (λ first. version_at first >>= λ version. optional 101 encoding_at version >>= λ encoding. optional 115 standalone_at encoding >>= λ standalone. spaces standalone >>= λ last. literal (codes "?>") last >>= λ rest. Ok (skipped, rest)) (c, rest) e in
    let e2 = bind_ok (version_at e1.mid) (λ version. optional 101 encoding_at version >>= λ encoding. optional 115 standalone_at encoding >>= λ standalone. spaces standalone >>= λ last. literal (codes "?>") last >>= λ rest. Ok (skipped, rest)) (c, rest) e1.second in
    let e3 = bind_ok (optional 101 encoding_at e2.mid) (λ encoding. optional 115 standalone_at encoding >>= λ standalone. spaces standalone >>= λ last. literal (codes "?>") last >>= λ rest. Ok (skipped, rest)) (c, rest) e2.second in
    let e4 = bind_ok (optional 115 standalone_at e3.mid) (λ standalone. spaces standalone >>= λ last. literal (codes "?>") last >>= λ rest. Ok (skipped, rest)) (c, rest) e3.second in
    let e5 = bind_ok (spaces e4.mid) (λ last. literal (codes "?>") last >>= λ rest. Ok (skipped, rest)) (c, rest) e4.second in
    let e6 = bind_ok (literal (codes "?>") e5.mid) (λ rest. Ok (skipped, rest)) (c, rest) e5.second in
    let s = spaces_ok bytes e1.mid e1.first in
    let v = version_ok e1.mid e2.mid e2.first in
    let n = optional_ok (codes "encoding") IsEncoding 101 encoding_at e2.mid e3.mid encoding_ok e3.first in
    let a = optional_ok (codes "standalone") IsStandalone 115 standalone_at e3.mid e4.mid standalone_ok e4.first in
    let t = spaces_ok e4.mid e5.mid e5.first in
    let version : Setting = record { space = w ∷ s.white; equals = v.equals; quote = v.quote; value = v.value } in
    let last : e4.mid ≡ t.white ++ (63 ∷ 62 ∷ rest) = t.parts ∙ ap (λ (ys : List ℕ). t.white ++ ys) (literal_ok (codes "?>") e5.mid e6.mid e6.first ∙ ap (λ (ys : List ℕ). 63 ∷ 62 ∷ ys) (second_of_pair skipped c e6.mid rest e6.second)) in
    let third : e3.mid ≡ optional_bytes (codes "standalone") a.setting (t.white ++ (63 ∷ 62 ∷ rest)) = a.parts ∙ ap (optional_bytes (codes "standalone") a.setting) last in
    let second : e2.mid ≡ optional_bytes (codes "encoding") n.setting (optional_bytes (codes "standalone") a.setting (t.white ++ (63 ∷ 62 ∷ rest))) = n.parts ∙ ap (optional_bytes (codes "encoding") n.setting) third in
    record {
      declaration = record { version = version; encoding = n.setting; standalone = a.setting; space = t.white };
      form = record {
        version = record { space = (omega arith, (white, s.is_white)); equals = v.form; quote = v.is_quote; value = v.allowed };
        encoding = n.form;
        standalone = a.form;
        space = t.is_white;
      };
      parts = ap (λ (ys : List ℕ). w ∷ ys) (s.parts ∙ ap (λ (ys : List ℕ). s.white ++ ys) (v.parts ∙ ap (part_bytes (codes "version") v.equals v.quote v.value) second));
      is = sym (first_of_pair skipped c e6.mid rest e6.second);
    }

pub record OneSpace (bytes rest : List ℕ) : Type 0 where
  pub byte : ℕ
  pub white : is_space byte ≡ true
  pub parts : bytes ≡ byte ∷ rest

pub one_space_ok : (bytes rest : List ℕ) → one_space bytes ≡ Ok rest → OneSpace bytes rest
one_space_ok [] rest e = absurd cc
one_space_ok (b ∷ bytes) rest e = on (is_space b) refl e
  where
    on : (v : Bool) → is_space b ≡ v → cond v (Ok bytes) (Err Malformed) ≡ Ok rest → OneSpace (b ∷ bytes) rest
    on true w h = record { byte = b; white = w; parts = ap (λ (ys : List ℕ). b ∷ ys) (same_ok bytes rest h) }
    on false w h = absurd cc

pub declaration_ok : (bytes behind : List ℕ) (c : Construct) (rest : List ℕ) → declares bytes ≡ Ok behind → declaration_at behind ≡ Ok (c, rest)
    → (d : Declaration) × IsDeclaration d × (bytes ≡ print_declaration d ++ rest) × (c ≡ skipped)
unfolding declares
declaration_ok bytes behind c rest e h =
    let e1 = bind_ok (literal (codes "<?xml") bytes) one_space behind e in
    let one = one_space_ok e1.mid behind e1.second in
    let found = behind_white one.byte behind c rest one.white h in
    (found.declaration, found.form, literal_ok (codes "<?xml") bytes e1.mid e1.first ∙ ap (λ (ys : List ℕ). codes "<?xml" ++ ys) (one.parts ∙ found.parts) ∙ sym (declaration_print found.declaration rest), found.is)

-- ---- and back

last_front : (letter : ℕ) (space rest : List ℕ) → eqb 63 letter ≡ false → IsBlank space → Front letter (space ++ (63 ∷ 62 ∷ rest))
last_front letter space rest o w = record { white = space; byte = 63; more = 62 ∷ rest; is_white = w; dark = refl; other = o; parts = refl }

standalone_front : (o : Option Setting) (space rest : List ℕ) → IsOptional IsStandalone o → IsBlank space → Front 101 (optional_bytes (codes "standalone") o (space ++ (63 ∷ 62 ∷ rest)))
standalone_front None space rest form w = last_front 101 space rest refl w
standalone_front (Some s) space rest form w = record {
  white = s.space;
  byte = 115;
  more = codes "tandalone" ++ (s.equals.before ++ (61 ∷ (s.equals.after ++ (s.quote ∷ (s.value ++ (s.quote ∷ (space ++ (63 ∷ 62 ∷ rest))))))));
  is_white = form.space.1;
  dark = refl;
  other = refl;
  parts = refl;
}

setting_again : (letter : ℕ) (name : List ℕ) (part : List ℕ → Result (List ℕ) Stop) (read : List ℕ → Result (List ℕ) Stop) (IsAllowed : List ℕ → Type 0) (s : Setting) (rest : List ℕ) → is_space letter ≡ false
    → ((bytes : List ℕ) → part bytes ≡ read_part (letter ∷ name) read bytes) → ((value rest : List ℕ) → IsAllowed value → read (value ++ rest) ≡ Ok rest) → IsSetting IsAllowed s
    → optional letter part (setting_bytes (letter ∷ name) s rest) ≡ Ok rest
setting_again letter name part read IsAllowed s rest d same reads form =
    let here : List ℕ = name ++ (s.equals.before ++ (61 ∷ (s.equals.after ++ (s.quote ∷ (s.value ++ (s.quote ∷ rest)))))) in
    some_again letter part s.space here rest form.space d
    (same (letter ∷ here) ∙ part_again (letter ∷ name) read s.equals s.quote s.value rest form.equals form.quote (reads s.value (s.quote ∷ rest) form.value))

encoding_or : (o : Option Setting) (rest : List ℕ) → IsOptional IsEncoding o → Front 101 rest → optional 101 encoding_at (optional_bytes (codes "encoding") o rest) ≡ Ok rest
encoding_or None rest form f = none_again 101 encoding_at rest f
encoding_or (Some s) rest form f = setting_again 101 (codes "ncoding") encoding_at (λ bytes. or_word (caseless (codes "utf-8") bytes) (caseless (codes "us-ascii") bytes)) IsEncoding s rest refl encoding_at_is encoding_again form

standalone_or : (o : Option Setting) (rest : List ℕ) → IsOptional IsStandalone o → Front 115 rest → optional 115 standalone_at (optional_bytes (codes "standalone") o rest) ≡ Ok rest
standalone_or None rest form f = none_again 115 standalone_at rest f
standalone_or (Some s) rest form f = setting_again 115 (codes "tandalone") standalone_at (λ bytes. or_word (literal (codes "yes") bytes) (literal (codes "no") bytes)) IsStandalone s rest refl standalone_at_is standalone_again form

version_part_again : (s : Setting) (rest : List ℕ) → IsSetting IsVersion s → version_at (part_bytes (codes "version") s.equals s.quote s.value rest) ≡ Ok rest
version_part_again s rest form =
    version_at_is (part_bytes (codes "version") s.equals s.quote s.value rest)
    ∙ part_again (codes "version") (literal (codes "1.0")) s.equals s.quote s.value rest form.equals form.quote (version_again s.value (s.quote ∷ rest) form.value)

-- a declaration's bytes are read
pub record DeclarationAgain (d : Declaration) (rest : List ℕ) : Type 0 where
  pub behind : List ℕ
  pub declares_it : declares (print_declaration d ++ rest) ≡ Ok behind
  pub read : declaration_at behind ≡ Ok (skipped, rest)

after_spaces : (white : List ℕ) (d : Declaration) (rest : List ℕ) → IsBlank white → IsDeclaration d
    → declaration_at (white ++ part_bytes (codes "version") d.version.equals d.version.quote d.version.value (optional_bytes (codes "encoding") d.encoding (optional_bytes (codes "standalone") d.standalone (last_bytes d rest)))) ≡ Ok (skipped, rest)
unfolding declaration_at
after_spaces white d rest w form =
    let fourth : List ℕ = d.space ++ (63 ∷ 62 ∷ rest) in
    let third : List ℕ = optional_bytes (codes "standalone") d.standalone (d.space ++ (63 ∷ 62 ∷ rest)) in
    let second : List ℕ = optional_bytes (codes "encoding") d.encoding third in
    let first : List ℕ = part_bytes (codes "version") d.version.equals d.version.quote d.version.value second in
    bind_both (spaces (white ++ first)) (λ first. version_at first >>= λ version. optional 101 encoding_at version >>= λ encoding. optional 115 standalone_at encoding >>= λ standalone. spaces standalone >>= λ last. literal (codes "?>") last >>= λ rest. Ok (skipped, rest)) first (skipped, rest)
    (spaces_again white first w refl)
    (bind_both (version_at first) (λ version. optional 101 encoding_at version >>= λ encoding. optional 115 standalone_at encoding >>= λ standalone. spaces standalone >>= λ last. literal (codes "?>") last >>= λ rest. Ok (skipped, rest)) second (skipped, rest)
    (version_part_again d.version second form.version)
    (bind_both (optional 101 encoding_at second) (λ encoding. optional 115 standalone_at encoding >>= λ standalone. spaces standalone >>= λ last. literal (codes "?>") last >>= λ rest. Ok (skipped, rest)) third (skipped, rest)
    (encoding_or d.encoding third form.encoding (standalone_front d.standalone d.space rest form.standalone form.space))
    (bind_both (optional 115 standalone_at third) (λ standalone. spaces standalone >>= λ last. literal (codes "?>") last >>= λ rest. Ok (skipped, rest)) fourth (skipped, rest)
    (standalone_or d.standalone fourth form.standalone (last_front 115 d.space rest refl form.space))
    (bind_both (spaces fourth) (λ last. literal (codes "?>") last >>= λ rest. Ok (skipped, rest)) (63 ∷ 62 ∷ rest) (skipped, rest)
    (spaces_again d.space (63 ∷ 62 ∷ rest) form.space refl) refl))))

declares_again : (w : ℕ) (rest : List ℕ) → is_space w ≡ true → declares (codes "<?xml" ++ (w ∷ rest)) ≡ Ok rest
unfolding declares
declares_again w rest e = rw e refl

from_space : (space : List ℕ) (d : Declaration) (rest : List ℕ) → d.version.space ≡ space → IsSpace space → IsDeclaration d → DeclarationAgain d rest
from_space [] d rest e s form = absurd (omega (arith, s.0))
from_space (w ∷ white) d rest e s form =
    let behind : List ℕ = white ++ part_bytes (codes "version") d.version.equals d.version.quote d.version.value (optional_bytes (codes "encoding") d.encoding (optional_bytes (codes "standalone") d.standalone (last_bytes d rest))) in
    record {
      behind = behind;
      declares_it = ap declares (declaration_print d rest ∙ ap (λ (ys : List ℕ). codes "<?xml" ++ (ys ++ part_bytes (codes "version") d.version.equals d.version.quote d.version.value (optional_bytes (codes "encoding") d.encoding (optional_bytes (codes "standalone") d.standalone (last_bytes d rest))))) e)
          ∙ declares_again w behind s.1.0;
      read = after_spaces white d rest s.1.1 form;
    }

pub declaration_again : (d : Declaration) (rest : List ℕ) → IsDeclaration d → DeclarationAgain d rest
declaration_again d rest form = from_space d.version.space d rest refl form.version.space form
