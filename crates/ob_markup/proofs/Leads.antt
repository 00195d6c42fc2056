-- A reader that wants bytes can be given some behind which it has read.
use Rattle.std.proofs.Common.{◌≡◌, ℕ, ◌+◌, ◌<◌, Bool, true, false, ◌||◌, cond, eqb, List, [], ◌∷◌, ◌++◌, length, Result, Ok, Err, refl, sym, ap, ◌∙◌, append_assoc, length-append, arith}
use Rattle.std.specs.Prelude.{codes}
use Rattle.ob_scan.specs.declared.stop.Stop.{Stop}
use Rattle.ob_scan.specs.declared.stop.Stop.TheVariants.{Want, Malformed}
use Rattle.ob_scan.specs.declared.character.Progress.TheVariants.{Whole}
use Rattle.ob_scan.specs.declared.reading.Ends.{Ends}
use Rattle.ob_scan.specs.declared.reading.Ends.TheVariants.{Name, Target, Value}
use Rattle.ob_scan.specs.Reading.{◌>>=◌, is_space, ends_at, literal, spaces, run, word, behind_pair}
use Rattle.ob_scan.specs.Constructs.{Construct, skipped, opening, closing, comment_at, is_xml, behind_target, instruction_at, end_tag_at, tag_name_at, closed_by, value_at, attribute_at}
use Rattle.ob_scan.proofs.Longer.{rest_on, pair_on}
use Rattle.ob_markup.specs.Characters.{AllPass, IsQuote}
use Rattle.ob_markup.specs.References.{IsValue}
use Rattle.ob_markup.proofs.Walks.{Chars, chars_text, chars_both}
use Rattle.ob_markup.proofs.Literals.{bind_ok, bind_both, Wanting, at_first, behind, bind_want, literal_ok, literal_again, literal_want, spaces_ok, spaces_dark, spaces_again, spaces_want, IsDark}
use Rattle.ob_markup.proofs.Runs.{goes_on, EndsRun, EndsLow, name_low, target_low, value_low, run_ok, run_want, word_ok, word_again, word_want, same_ok}
use Rattle.ob_markup.proofs.Pairs.{Stands, behind_pair_ok, behind_pair_again, pair_want}
use Rattle.ob_markup.proofs.Forms.{dash, question, target_ok, target_again, is_quote, quote_low, value_ok, value_again}

-- bytes that were added, behind which it has read this
pub record Led {X Y : Type 0} (grow : List ℕ → X → X) (Q : Y → Type 0) (f : X → Result Y Stop) (x : X) : Type 0 where
  pub tail : List ℕ
  pub value : Y
  pub is : f (grow tail x) ≡ Ok value
  pub holds : Q value

-- what was read stays, and what wants bytes can be given some
pub record Leads {X Y : Type 0} (grow : List ℕ → X → X) (grown : List ℕ → Y → Y) (Q : Y → Type 0) (f : X → Result Y Stop) : Type 0 where
  pub stays : (x : X) (y : Y) (tail : List ℕ) → f x ≡ Ok y → f (grow tail x) ≡ Ok (grown tail y)
  pub leads : (x : X) → f x ≡ Err Want → Led grow Q f x

pub record Reads {Y : Type 0} (Q : Y → Type 0) (s : Result Y Stop) : Type 0 where
  pub value : Y
  pub is : s ≡ Ok value
  pub holds : Q value

pub then_leads : {X Y Z : Type 0} (g : List ℕ → X → X) (h : List ℕ → Y → Y) (k : List ℕ → Z → Z) (P : Y → Type 0) (Q : Z → Type 0) (r : X → Result Y Stop) (f : Y → Result Z Stop)
    → Leads g h P r → Leads h k Q f → ((y : Y) → P y → Reads Q (f y)) → Leads g k Q (λ x. r x >>= f)
then_leads g h k P Q r f a b ends = record {
  stays = λ x z tail e.
      let s = bind_ok (r x) f z e in
      bind_both (r (g tail x)) f (h tail s.mid) (k tail z) (a.stays x s.mid tail s.first) (b.stays s.mid z tail s.second);
  leads = λ x e. on x (bind_want (r x) f e);
}
  where
    on : (x : _) → Wanting (r x) f → Led g Q (λ x. r x >>= f) x
    on x (at_first e) =
        let l = a.leads x e in
        let last = ends l.value l.holds in
        record { tail = l.tail; value = last.value; is = bind_both (r (g l.tail x)) f l.value last.value l.is last.is; holds = last.holds }
    on x (behind y e w) =
        let l = b.leads y w in
        record { tail = l.tail; value = l.value; is = bind_both (r (g l.tail x)) f (h l.tail y) l.value (a.stays x y l.tail e) l.is; holds = l.holds }

-- these bytes are left
abbrev pub Left : List ℕ → List ℕ → Type 0
Left after rest = rest ≡ after

abbrev pub Any : {Y : Type 0} → Y → Type 0
Any y = Unit {0}

-- a reader of bytes behind what was read before
pub pair_leads : {A Y : Type 0} (k : List ℕ → Y → Y) (Q : Y → Type 0) (f : A → List ℕ → Result Y Stop) → ((a : A) → Leads rest_on k Q (f a)) → Leads pair_on k Q (λ (x : A × List ℕ). f x.0 x.1)
pair_leads k Q f l = record {
  stays = λ x y tail e. (l x.0).stays x.1 y tail e;
  leads = λ x e. let h = (l x.0).leads x.1 e in record { tail = h.tail; value = h.value; is = h.is; holds = h.holds };
}

pub skipped_leads : (c : Construct) → Leads rest_on (pair_on {A = Construct}) Any (λ rest. Ok (c, rest))
skipped_leads c = record {
  stays = λ x y tail e. ap (λ (z : Construct × List ℕ). Ok (z.0, z.1 ++ tail)) (same_ok (c, x) y e);
  leads = λ x e. absurd cc;
}

pub any_read : (c : Construct) (rest : List ℕ) → Reads (Any {Y = Construct × List ℕ}) (Ok (c, rest))
any_read c rest = record { value = (c, rest); is = refl; holds = tt }

-- what stands there is read where these bytes are left
pub left_reads : {Y : Type 0} (Q : Y → Type 0) (f : List ℕ → Result Y Stop) (after : List ℕ) (value : Y) → f after ≡ Ok value → Q value → (rest : List ℕ) → Left after rest → Reads Q (f rest)
left_reads Q f after value e q rest l = record { value = value; is = ap f l ∙ e; holds = q }

-- ---- parts

pub literal_leads : (text after : List ℕ) → Leads rest_on rest_on (Left after) (literal text)
literal_leads text after = record {
  stays = λ bytes rest tail e.
      let parts : bytes ++ tail ≡ text ++ (rest ++ tail) = ap (λ (xs : List ℕ). xs ++ tail) (literal_ok text bytes rest e) ∙ append_assoc text rest tail in
      ap (literal text) parts ∙ literal_again text (rest ++ tail);
  leads = λ bytes e.
      let w = literal_want text bytes e in
      let parts : bytes ++ (w.0 ++ after) ≡ text ++ after = sym (append_assoc bytes w.0 after) ∙ ap (λ (xs : List ℕ). xs ++ after) w.1 in
      record { tail = w.0 ++ after; value = after; is = ap (literal text) parts ∙ literal_again text after; holds = refl };
}

dark_on : (rest tail : List ℕ) → IsDark rest → IsDark (rest ++ tail)
dark_on [] tail d = absurd d
dark_on (b ∷ rest) tail d = d

pub spaces_leads : (b : ℕ) (after : List ℕ) → is_space b ≡ false → Leads rest_on rest_on (Left (b ∷ after)) spaces
spaces_leads b after d = record {
  stays = λ bytes rest tail e.
      let s = spaces_ok bytes rest e in
      let parts : bytes ++ tail ≡ s.white ++ (rest ++ tail) = ap (λ (xs : List ℕ). xs ++ tail) s.parts ∙ append_assoc s.white rest tail in
      ap spaces parts ∙ spaces_again s.white (rest ++ tail) s.is_white (dark_on rest tail (spaces_dark bytes rest e));
  leads = λ bytes e. record { tail = b ∷ after; value = b ∷ after; is = spaces_again bytes (b ∷ after) (spaces_want bytes e) d; holds = refl };
}

ends_on : (ends : Ends) (rest tail : List ℕ) → EndsRun ends rest → EndsRun ends (rest ++ tail)
ends_on ends [] tail h = absurd h
ends_on ends (b ∷ rest) tail h = h

pass_both : (test : ℕ → Bool) (xs ys : List ℕ) → AllPass test xs → AllPass test ys → AllPass test (xs ++ ys)
pass_both test [] ys h k = k
pass_both test (x ∷ xs) ys h k = (h.0, pass_both test xs ys h.1 k)

-- a word of four letters or more, and what follows it
pub record LongWord (after : List ℕ) (x : List ℕ × List ℕ) : Type 0 where
  pub left : x.1 ≡ after
  pub long : 3 < length x.0

pub word_leads : (ends : Ends) (b : ℕ) (after : List ℕ) → EndsLow ends → goes_on ends 97 ≡ true → ends_at ends b ≡ true → Leads rest_on pair_on (LongWord (b ∷ after)) (word ends)
word_leads ends b after low letter stop = record {
  stays = λ bytes x tail e.
      let w = word_ok ends bytes x low e in
      let parts : bytes ++ tail ≡ x.0 ++ (x.1 ++ tail) = ap (λ (xs : List ℕ). xs ++ tail) w.run.parts ∙ append_assoc x.0 x.1 tail in
      ap (word ends) parts ∙ word_again ends x.0 (x.1 ++ tail) w.some w.run.chars w.run.within (ends_on ends x.1 tail w.run.stops);
  leads = λ bytes e.
      let end = word_want ends bytes low e in
      let letters : List ℕ = codes "aaaa" in
      let text : List ℕ = (bytes ++ end.tail) ++ codes "aaaa" in
      let chars : Chars Whole ((bytes ++ end.tail) ++ codes "aaaa") = chars_both Whole (bytes ++ end.tail) (codes "aaaa") end.chars (Whole, refl, (Whole, refl, (Whole, refl, (Whole, refl, refl)))) in
      let within : AllPass (goes_on ends) ((bytes ++ end.tail) ++ codes "aaaa") = pass_both (goes_on ends) (bytes ++ end.tail) (codes "aaaa") end.within (letter, (letter, (letter, (letter, tt)))) in
      let long : length ((bytes ++ end.tail) ++ codes "aaaa") ≡ length (bytes ++ end.tail) + 4 = length-append (bytes ++ end.tail) (codes "aaaa") in
      let parts : bytes ++ (end.tail ++ (codes "aaaa" ++ (b ∷ after))) ≡ ((bytes ++ end.tail) ++ codes "aaaa") ++ (b ∷ after) =
      sym (append_assoc bytes end.tail (codes "aaaa" ++ (b ∷ after))) ∙ sym (append_assoc (bytes ++ end.tail) (codes "aaaa") (b ∷ after)) in
      record {
        tail = end.tail ++ (codes "aaaa" ++ (b ∷ after));
        value = ((bytes ++ end.tail) ++ codes "aaaa", b ∷ after);
        is = ap (word ends) parts ∙ word_again ends ((bytes ++ end.tail) ++ codes "aaaa") (b ∷ after) (omega arith) chars within stop;
        holds = record { left = refl; long = omega arith };
      };
}

pub behind_pair_leads : (a b : ℕ) (after : List ℕ) → Stands a → b < 128 → Leads rest_on rest_on (Left after) (behind_pair a b)
behind_pair_leads a b after s low = record {
  stays = λ bytes rest tail e.
      let f = behind_pair_ok a b bytes rest s e in
      let parts : bytes ++ tail ≡ f.text ++ (a ∷ b ∷ (rest ++ tail)) = ap (λ (xs : List ℕ). xs ++ tail) f.parts ∙ append_assoc f.text (a ∷ b ∷ rest) tail in
      ap (behind_pair a b) parts ∙ behind_pair_again a b f.text (rest ++ tail) s f.chars f.has_no;
  leads = λ bytes e. let c = pair_want a b false Whole bytes s low tt e in record { tail = c.tail ++ after; value = after; is = c.left after; holds = refl };
}

-- ---- comments and tags

pub comment_leads : Leads rest_on pair_on Any comment_at
unfolding comment_at
comment_leads =
    then_leads rest_on rest_on pair_on (Left (codes "-->")) Any (literal (codes "--")) (λ body. behind_pair 45 45 body >>= λ behind. literal (codes ">") behind >>= λ rest. Ok (skipped, rest)) (literal_leads (codes "--") (codes "-->"))
    (then_leads rest_on rest_on pair_on (Left (codes ">")) Any (behind_pair 45 45) (λ behind. literal (codes ">") behind >>= λ rest. Ok (skipped, rest)) (behind_pair_leads 45 45 (codes ">") dash (omega arith))
    (then_leads rest_on rest_on pair_on (Left []) Any (literal (codes ">")) (λ rest. Ok (skipped, rest)) (literal_leads (codes ">") []) (skipped_leads skipped) (λ rest l. any_read skipped rest))
    (left_reads Any (λ behind. literal (codes ">") behind >>= λ rest. Ok (skipped, rest)) (codes ">") (skipped, []) refl tt))
    (left_reads Any (λ body. behind_pair 45 45 body >>= λ behind. literal (codes ">") behind >>= λ rest. Ok (skipped, rest)) (codes "-->") (skipped, []) refl tt)

target_leads : Leads rest_on rest_on (Left []) behind_target
target_leads = record {
  stays = λ bytes rest tail e.
      let f = target_ok bytes rest e in
      let parts : bytes ++ tail ≡ f.content ++ (63 ∷ 62 ∷ (rest ++ tail)) = ap (λ (xs : List ℕ). xs ++ tail) f.parts ∙ append_assoc f.content (63 ∷ 62 ∷ rest) tail in
      ap behind_target parts ∙ target_again f.content (rest ++ tail) f.apart (chars_text f.content f.chars) f.no_end;
  leads = λ bytes e. on bytes e;
}
  where
    first : (b : ℕ) (bytes : List ℕ) (s t : Bool) → eqb b 63 ≡ s → is_space b ≡ t → cond s (literal (codes ">") bytes) (cond t (behind_pair 63 62 bytes) (Err Malformed)) ≡ Err Want → Led rest_on (Left []) behind_target (b ∷ bytes)
    first b bytes true t p q e =
        let l = (literal_leads (codes ">") []).leads bytes e in
        record { tail = l.tail; value = l.value; is = rw p l.is; holds = l.holds }
    first b bytes false true p q e =
        let l = (behind_pair_leads 63 62 [] question (omega arith)).leads bytes e in
        record { tail = l.tail; value = l.value; is = rw (p, q) l.is; holds = l.holds }
    first b bytes false false p q e = absurd cc

    on : (bytes : List ℕ) → behind_target bytes ≡ Err Want → Led rest_on (Left []) behind_target bytes
    on [] e = record { tail = codes "?>"; value = []; is = refl; holds = refl }
    on (b ∷ bytes) e = first b bytes (eqb b 63) (is_space b) refl refl e

chosen_leads : (t : Bool) → Leads rest_on rest_on (Left []) (λ bytes. cond t (Err Malformed) (behind_target bytes))
chosen_leads true = record { stays = λ bytes rest tail e. absurd cc; leads = λ bytes e. absurd cc }
chosen_leads false = record { stays = target_leads.stays; leads = λ bytes e. let l = target_leads.leads bytes e in record { tail = l.tail; value = l.value; is = l.is; holds = l.holds } }

abbrev behind_name : List ℕ → List ℕ → Result (Construct × List ℕ) Stop
behind_name target bytes = cond (is_xml target) (Err Malformed) (behind_target bytes) >>= λ rest. Ok (skipped, rest)

long_no_xml : (t : List ℕ) → 3 < length t → is_xml t ≡ false
long_no_xml [] h = absurd (omega arith)
long_no_xml (x ∷ []) h = absurd (omega arith)
long_no_xml (x ∷ (m ∷ [])) h = absurd (omega arith)
long_no_xml (x ∷ (m ∷ (l ∷ []))) h = absurd (omega arith)
long_no_xml (x ∷ (m ∷ (l ∷ (y ∷ t)))) h = refl

target_reads : (x : List ℕ × List ℕ) → LongWord (codes "?>") x → Reads (Any {Y = Construct × List ℕ}) (behind_name x.0 x.1)
target_reads x w = record {
  value = (skipped, []);
  is = ap (λ (t : Bool). cond t (Err Malformed) (behind_target x.1) >>= λ rest. Ok (skipped, rest)) (long_no_xml x.0 w.long) ∙ ap (λ (xs : List ℕ). behind_target xs >>= λ rest. Ok (skipped, rest)) w.left;
  holds = tt;
}

pub instruction_leads : Leads rest_on pair_on Any instruction_at
unfolding instruction_at
instruction_leads =
    then_leads rest_on pair_on pair_on (LongWord (codes "?>")) Any (word Target) (λ x. behind_name x.0 x.1) (word_leads Target 63 (codes ">") target_low refl refl)
    (pair_leads pair_on Any behind_name (λ target. then_leads rest_on rest_on pair_on (Left []) Any (λ bytes. cond (is_xml target) (Err Malformed) (behind_target bytes)) (λ rest. Ok (skipped, rest)) (chosen_leads (is_xml target)) (skipped_leads skipped) (λ rest l. any_read skipped rest)))
    target_reads

abbrev close_tag : List ℕ → List ℕ → Result (Construct × List ℕ) Stop
close_tag name bytes = spaces bytes >>= λ behind. literal (codes ">") behind >>= λ rest. Ok (closing name, rest)

close_reads : (x : List ℕ × List ℕ) → LongWord (codes ">") x → Reads (Any {Y = Construct × List ℕ}) (close_tag x.0 x.1)
close_reads x w = record { value = (closing x.0, []); is = ap (close_tag x.0) w.left; holds = tt }

pub end_tag_leads : Leads rest_on pair_on Any end_tag_at
unfolding end_tag_at
end_tag_leads =
    then_leads rest_on pair_on pair_on (LongWord (codes ">")) Any (word Name) (λ x. close_tag x.0 x.1) (word_leads Name 62 [] name_low refl refl)
    (pair_leads pair_on Any close_tag (λ name.
    then_leads rest_on rest_on pair_on (Left (codes ">")) Any spaces (λ behind. literal (codes ">") behind >>= λ rest. Ok (closing name, rest)) (spaces_leads 62 [] refl)
    (then_leads rest_on rest_on pair_on (Left []) Any (literal (codes ">")) (λ rest. Ok (closing name, rest)) (literal_leads (codes ">") []) (skipped_leads (closing name)) (λ rest l. any_read (closing name) rest))
    (left_reads Any (λ behind. literal (codes ">") behind >>= λ rest. Ok (closing name, rest)) (codes ">") (closing name, []) refl tt)))
    close_reads

pub tag_name_leads : Leads rest_on pair_on Any tag_name_at
unfolding tag_name_at
tag_name_leads =
    then_leads rest_on pair_on pair_on (LongWord (codes ">")) Any (word Name) (λ x. Ok (opening x.0, x.1)) (word_leads Name 62 [] name_low refl refl)
    (pair_leads pair_on Any (λ name rest. Ok (opening name, rest)) (λ name. skipped_leads (opening name))) (λ x w. any_read (opening x.0) x.1)

-- ---- attributes

abbrev Named : Type 0
Named = (List ℕ × List ℕ) × List ℕ

value_leads : Leads rest_on pair_on Any value_at
value_leads = record {
  stays = λ bytes x tail e.
      let f = value_ok bytes x e in
      let parts : bytes ++ tail ≡ f.quote ∷ (x.0 ++ (f.quote ∷ (x.1 ++ tail))) = ap (λ (xs : List ℕ). xs ++ tail) f.parts ∙ ap (λ (xs : List ℕ). f.quote ∷ xs) (append_assoc x.0 (f.quote ∷ x.1) tail) in
      ap value_at parts ∙ value_again f.quote x.0 (x.1 ++ tail) f.is_quote f.value;
  leads = λ bytes e. on bytes e;
}
  where
    unclosed : (b : ℕ) (x : List ℕ × List ℕ) → EndsRun (Value b) x.1 → closed_by b x ≡ Err Want → ⊥
    unclosed b (value, []) h e = h
    unclosed b (value, c ∷ rest) h e = never (eqb c b) e
      where
        never : (v : Bool) → cond {A = Result (List ℕ × List ℕ) Stop} v (Ok (value, rest)) (Err Malformed) ≡ Err Want → ⊥
        never true e = cc
        never false e = cc

    last : (b : ℕ) (bytes : List ℕ) → IsQuote b → Wanting (run (Value b) bytes) (closed_by b) → Led rest_on (Any {Y = List ℕ × List ℕ}) value_at (b ∷ bytes)
    last b bytes q (at_first e) =
        let end = run_want (Value b) Whole bytes (value_low b (quote_low b q)) tt e in
        let value : IsValue b (bytes ++ end.tail) = record { characters = chars_text (bytes ++ end.tail) end.chars; bytes = end.within } in
        record {
          tail = end.tail ++ (b ∷ []);
          value = (bytes ++ end.tail, []);
          is = ap (λ (xs : List ℕ). value_at (b ∷ xs)) (sym (append_assoc bytes end.tail (b ∷ []))) ∙ value_again b (bytes ++ end.tail) [] q value;
          holds = tt;
        }
    last b bytes q (behind x e w) = absurd (unclosed b x (run_ok (Value b) Whole bytes x (value_low b (quote_low b q)) tt e).stops w)

    first : (b : ℕ) (bytes : List ℕ) (v : Bool) → (eqb b 34 || eqb b 39) ≡ v → cond v (run (Value b) bytes >>= closed_by b) (Err Malformed) ≡ Err Want → Led rest_on (Any {Y = List ℕ × List ℕ}) value_at (b ∷ bytes)
    first b bytes true t e = last b bytes (is_quote b t) (bind_want (run (Value b) bytes) (closed_by b) e)
    first b bytes false t e = absurd cc

    on : (bytes : List ℕ) → value_at bytes ≡ Err Want → Led rest_on (Any {Y = List ℕ × List ℕ}) value_at bytes
    on [] e = record { tail = 34 ∷ 34 ∷ []; value = ([], []); is = refl; holds = tt }
    on (b ∷ bytes) e = first b bytes (eqb b 34 || eqb b 39) refl e

abbrev name_value : List ℕ → List ℕ × List ℕ → Result Named Stop
name_value name value = Ok ((name, value.0), value.1)

named_leads : (name : List ℕ) → Leads pair_on (pair_on {A = List ℕ × List ℕ}) Any (name_value name)
named_leads name = record {
  stays = λ x y tail e. ap (λ (z : Named). Ok (z.0, z.1 ++ tail)) (same_ok ((name, x.0), x.1) y e);
  leads = λ x e. absurd cc;
}

named_read : (name : List ℕ) (value : List ℕ × List ℕ) → Reads (Any {Y = Named}) (name_value name value)
named_read name value = record { value = ((name, value.0), value.1); is = refl; holds = tt }

abbrev behind_attribute_name : List ℕ → List ℕ → Result Named Stop
behind_attribute_name name bytes = spaces bytes >>= λ before. literal (codes "=") before >>= λ behind. spaces behind >>= λ quoted. value_at quoted >>= name_value name

name_reads : (x : List ℕ × List ℕ) → LongWord (61 ∷ 34 ∷ 34 ∷ []) x → Reads (Any {Y = Named}) (behind_attribute_name x.0 x.1)
name_reads x w = record { value = ((x.0, []), []); is = ap (behind_attribute_name x.0) w.left; holds = tt }

behind_name_leads : (name : List ℕ) → Leads rest_on pair_on Any (behind_attribute_name name)
behind_name_leads name =
    then_leads rest_on rest_on pair_on (Left (61 ∷ 34 ∷ 34 ∷ [])) Any spaces (λ before. literal (codes "=") before >>= λ behind. spaces behind >>= λ quoted. value_at quoted >>= name_value name) (spaces_leads 61 (34 ∷ 34 ∷ []) refl)
    (then_leads rest_on rest_on pair_on (Left (34 ∷ 34 ∷ [])) Any (literal (codes "=")) (λ behind. spaces behind >>= λ quoted. value_at quoted >>= name_value name) (literal_leads (codes "=") (34 ∷ 34 ∷ []))
    (then_leads rest_on rest_on pair_on (Left (34 ∷ 34 ∷ [])) Any spaces (λ quoted. value_at quoted >>= name_value name) (spaces_leads 34 (34 ∷ []) refl)
    (then_leads rest_on pair_on pair_on Any Any value_at (name_value name) value_leads (named_leads name) (λ value u. named_read name value))
    (left_reads Any (λ quoted. value_at quoted >>= name_value name) (34 ∷ 34 ∷ []) ((name, []), []) refl tt))
    (left_reads Any (λ behind. spaces behind >>= λ quoted. value_at quoted >>= name_value name) (34 ∷ 34 ∷ []) ((name, []), []) refl tt))
    (left_reads Any (λ before. literal (codes "=") before >>= λ behind. spaces behind >>= λ quoted. value_at quoted >>= name_value name) (61 ∷ 34 ∷ 34 ∷ []) ((name, []), []) refl tt)

pub attribute_leads : Leads rest_on pair_on Any attribute_at
unfolding attribute_at
attribute_leads =
    then_leads rest_on pair_on pair_on (LongWord (61 ∷ 34 ∷ 34 ∷ [])) Any (word Name) (λ x. behind_attribute_name x.0 x.1) (word_leads Name 61 (34 ∷ 34 ∷ []) name_low refl refl)
    (pair_leads pair_on Any behind_attribute_name behind_name_leads) name_reads
