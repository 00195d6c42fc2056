-- What a construct that isn't whole waits for.
use Rattle.std.proofs.Common.{◌≡◌, ℕ, zero, suc, ◌<◌, ◌≤◌, drop, Bool, true, false, ◌&&◌, ◌||◌, cond, eqb, List, [], ◌∷◌, ◌++◌, length, get_or, Option, Some, None, Result, Ok, Err, refl, sym, ap, subst, ◌∙◌, arith, length-append}
use Rattle.std.specs.Prelude.{codes, is_some, IfSome}
use Rattle.std.proofs.lemmas.List.{append-nil}
use Rattle.std.proofs.lemmas.Bool.{cond-false}
use Rattle.std.proofs.lemmas.Bool.Decides.{nat_tests}
use Rattle.ob_scan.specs.declared.stop.Stop.{Stop}
use Rattle.ob_scan.specs.declared.stop.Stop.TheVariants.{Want, Malformed}
use Rattle.ob_scan.specs.declared.reading.Ends.{Ends}
use Rattle.ob_scan.specs.declared.reading.Ends.TheVariants.{Name, Target, Value}
use Rattle.ob_scan.specs.declared.character.Progress.{Progress}
use Rattle.ob_scan.specs.declared.piece.Place.{Place}
use Rattle.ob_scan.specs.declared.piece.Place.TheVariants.{Start, Marked, Between, InTag, After}
use Rattle.ob_scan.specs.declared.piece.Why.TheVariants.{Markup}
use Rattle.ob_scan.specs.declared.wait.Wait.{Wait}
use Rattle.ob_scan.specs.declared.wait.Wait.TheVariants.{Next, Spaces, Run, Pair}
use Rattle.ob_scan.specs.Characters.{after_byte}
use Rattle.ob_scan.specs.Reading.{◌>>=◌, is_space, literal, behind_spaces, some_behind, spaces, is_whole, ends_at, run_from, run, not_empty, word, behind_pair_from, behind_pair}
use Rattle.ob_scan.specs.Constructs.{Construct, opening, closing, skipped, then_read, comment_at, is_xml, behind_target, instruction_at, end_tag_at, tag_name_at, markup_at, closed_by, value_at, attribute_at, Scanned, more, refused, judged, attribute_found, tag_part, blank, declares, declared, mark_at, marked, scan}
use Rattle.ob_scan.specs.Waiting.{waits_on, after_wait, after_all, IsWaiting, Wants, behind_name, IsOutside}
use Rattle.ob_scan.proofs.Longer.{Stays, rest_on, pair_on, literal_stays, spaces_stay, word_stays, declares_stays, equal_alike}
use Rattle.ob_scan.proofs.Meanings.{Fine, scan_fine}

pub next_waits : (place : Place) (bytes : List ℕ) → scan place false bytes ≡ more → IsWaiting place bytes Next
next_waits place bytes h [] e = ap (scan place false) (append-nil bytes) ∙ h
next_waits place bytes h (b ∷ tail) e = absurd cc

-- nothing is waited for at the end
pub more_before : (place : Place) (ended : Bool) (bytes : List ℕ) → more ≡ scan place ended bytes → scan place false bytes ≡ more
more_before place false bytes h = sym h
more_before place true bytes h = absurd (subst (Fine true) (sym h) (scan_fine place true bytes))

-- ---- reading more bytes that go on with what is wanted

some_weaker : {A : Type 0} (P Q : A → Type 0) (o : Option A) → ((x : A) → P x → Q x) → IfSome o P → IfSome o Q
some_weaker P Q None f h = tt
some_weaker P Q (Some x) f h = f x h

-- a reader that stays
after_ok : {X : Type 0} (grow : X → X) (r s : Result X Stop) (x : X) → r ≡ Ok x → Stays grow r s → s ≡ Ok (grow x)
after_ok grow r s x e h = subst (λ (r : Result _ Stop). Stays grow r s) e h

-- the byte before what was read
abbrev one_more : ℕ → List ℕ × List ℕ → Result (List ℕ × List ℕ) Stop
one_more b x = Ok (b ∷ x.0, x.1)

abbrev nothing_read : ℕ → List ℕ → Result (List ℕ × List ℕ) Stop
nothing_read b tail = Ok ([], b ∷ tail)

run_going : (ends : Ends) (progress : Progress) (tail : List ℕ) → is_some (after_all (Run ends progress) tail) ≡ true → run_from ends progress tail ≡ Err Want
run_going ends progress [] h = refl
run_going ends progress (b ∷ tail) h = by_end (is_whole progress && ends_at ends b) refl h (λ next k. run_going ends next tail k)
  where
    on : (r : Result Progress Stop) → after_byte progress b ≡ r → is_some (then_read (waits_on r (λ p. Run ends p)) (λ n. after_all n tail)) ≡ true → ((next : Progress) → is_some (after_all (Run ends next) tail) ≡ true → run_from ends next tail ≡ Err Want)
        → (r >>= λ next. run_from ends next tail >>= one_more b) ≡ Err Want
    on (Err e) r h later = absurd cc
    on (Ok next) r h later = rw (later next h) refl

    by_end : (v : Bool) → (is_whole progress && ends_at ends b) ≡ v → is_some (then_read (cond v None (waits_on (after_byte progress b) (λ p. Run ends p))) (λ n. after_all n tail)) ≡ true
        → ((next : Progress) → is_some (after_all (Run ends next) tail) ≡ true → run_from ends next tail ≡ Err Want)
        → cond v (nothing_read b tail) (after_byte progress b >>= λ next. run_from ends next tail >>= one_more b) ≡ Err Want
    by_end true e h later = absurd cc
    by_end false e h later = on (after_byte progress b) refl h later

pub run_goes : (ends : Ends) (progress next : Progress) (b : ℕ) (rest : List ℕ) → (is_whole progress && ends_at ends b) ≡ false → after_byte progress b ≡ Ok next → run_from ends next rest ≡ Err Want → run_from ends progress (b ∷ rest) ≡ Err Want
run_goes ends progress next b rest e f h = rw (e, f, h) refl

pair_going : (a b : ℕ) (seen : Bool) (progress : Progress) (tail : List ℕ) → is_some (after_all (Pair a b seen progress) tail) ≡ true → behind_pair_from a b seen progress tail ≡ Err Want
pair_going a b seen progress [] h = refl
pair_going a b seen progress (x ∷ tail) h = by_end (seen && eqb x b) refl h (λ next k. pair_going a b (eqb x a) next tail k)
  where
    on : (r : Result Progress Stop) → after_byte progress x ≡ r → is_some (then_read (waits_on r (λ p. Pair a b (eqb x a) p)) (λ n. after_all n tail)) ≡ true → ((next : Progress) → is_some (after_all (Pair a b (eqb x a) next) tail) ≡ true → behind_pair_from a b (eqb x a) next tail ≡ Err Want)
        → (r >>= λ next. behind_pair_from a b (eqb x a) next tail) ≡ Err Want
    on (Err e) r h later = absurd cc
    on (Ok next) r h later = later next h

    by_end : (v : Bool) → (seen && eqb x b) ≡ v → is_some (then_read (cond v None (waits_on (after_byte progress x) (λ p. Pair a b (eqb x a) p))) (λ n. after_all n tail)) ≡ true
        → ((next : Progress) → is_some (after_all (Pair a b (eqb x a) next) tail) ≡ true → behind_pair_from a b (eqb x a) next tail ≡ Err Want)
        → cond v (Ok tail) (after_byte progress x >>= λ next. behind_pair_from a b (eqb x a) next tail) ≡ Err Want
    by_end true e h later = absurd cc
    by_end false e h later = on (after_byte progress x) refl h later

pub pair_goes : (a b : ℕ) (seen : Bool) (progress next : Progress) (x : ℕ) (rest : List ℕ) → (seen && eqb x b) ≡ false → after_byte progress x ≡ Ok next → behind_pair_from a b (eqb x a) next rest ≡ Err Want → behind_pair_from a b seen progress (x ∷ rest) ≡ Err Want
pair_goes a b seen progress next x rest e f h = rw (e, f, h) refl

spaces_going : (tail : List ℕ) → is_some (after_all Spaces tail) ≡ true → behind_spaces tail ≡ []
spaces_going [] h = refl
spaces_going (b ∷ tail) h = by_test (is_space b) refl h (λ k. spaces_going tail k)
  where
    by_test : (v : Bool) → is_space b ≡ v → is_some (then_read (cond v (Some Spaces) None) (λ n. after_all n tail)) ≡ true → (is_some (after_all Spaces tail) ≡ true → behind_spaces tail ≡ []) → cond v (behind_spaces tail) (b ∷ tail) ≡ []
    by_test true e h later = later h
    by_test false e h later = absurd cc

spaces_more : (bytes tail : List ℕ) → behind_spaces bytes ≡ [] → behind_spaces (bytes ++ tail) ≡ behind_spaces tail
spaces_more [] tail h = refl
spaces_more (b ∷ bytes) tail h = by_test (is_space b) refl h (λ k. spaces_more bytes tail k)
  where
    by_test : (v : Bool) → is_space b ≡ v → cond v (behind_spaces bytes) (b ∷ bytes) ≡ [] → (behind_spaces bytes ≡ [] → behind_spaces (bytes ++ tail) ≡ behind_spaces tail) → cond v (behind_spaces (bytes ++ tail)) (b ∷ (bytes ++ tail)) ≡ behind_spaces tail
    by_test true e h later = later h
    by_test false e h later = absurd cc

-- all is white space still
still_spaces : (bytes tail : List ℕ) → behind_spaces bytes ≡ [] → is_some (after_all Spaces tail) ≡ true → behind_spaces (bytes ++ tail) ≡ []
still_spaces bytes tail h t = spaces_more bytes tail h ∙ spaces_going tail t

spaces_want : (bytes tail : List ℕ) → behind_spaces bytes ≡ [] → is_some (after_all Spaces tail) ≡ true → spaces (bytes ++ tail) ≡ Err Want
spaces_want bytes tail h t = ap some_behind (still_spaces bytes tail h t)

-- ---- constructs

empty_is : (xs : List ℕ) → true ≡ eqb (length xs) 0 → xs ≡ []
empty_is [] e = refl
empty_is (x ∷ xs) e = absurd (grind (arith, nat_tests))

pub run_wants : (ends : Ends) (progress : Progress) (bytes : List ℕ) → ((tail : List ℕ) → run_from ends progress tail ≡ Err Want → run ends (bytes ++ tail) ≡ Err Want) → Wants (run ends) bytes (Run ends progress)
run_wants ends progress bytes h tail t = h tail (run_going ends progress tail t)

pub pair_wants : (a b : ℕ) (seen : Bool) (progress : Progress) (bytes : List ℕ) → ((tail : List ℕ) → behind_pair_from a b seen progress tail ≡ Err Want → behind_pair a b (bytes ++ tail) ≡ Err Want) → Wants (behind_pair a b) bytes (Pair a b seen progress)
pair_wants a b seen progress bytes h tail t = h tail (pair_going a b seen progress tail t)

word_wants : (ends : Ends) (bytes : List ℕ) (w : Wait) → Wants (run ends) bytes w → Wants (word ends) bytes w
word_wants ends bytes w h tail t = ap (λ (r : Result (List ℕ × List ℕ) Stop). r >>= not_empty) (h tail t)

comment_body : (bytes body : List ℕ) (w : Wait) → literal (codes "--") bytes ≡ Ok body → Wants (behind_pair 45 45) body w → Wants comment_at bytes w
unfolding comment_at
comment_body bytes body w e h tail t =
    let l : literal (codes "--") (bytes ++ tail) ≡ Ok (body ++ tail) = after_ok (rest_on tail) (literal (codes "--") bytes) (literal (codes "--") (bytes ++ tail)) body e (literal_stays tail (codes "--") bytes) in
    ap (λ (r : Result (List ℕ) Stop). r >>= λ body. behind_pair 45 45 body >>= λ behind. literal (codes ">") behind >>= λ rest. Ok (skipped, rest)) l
    ∙ ap (λ (r : Result (List ℕ) Stop). r >>= λ behind. literal (codes ">") behind >>= λ rest. Ok (skipped, rest)) (h tail t)

pub comment_wants : (bytes body : List ℕ) (o : Option Wait) → Ok body ≡ literal (codes "--") bytes → IfSome o (λ w. Wants (behind_pair 45 45) body w) → IfSome o (λ w. Wants comment_at bytes w)
comment_wants bytes body o e h = some_weaker (λ w. Wants (behind_pair 45 45) body w) (λ w. Wants comment_at bytes w) o (λ w k. comment_body bytes body w (sym e) k) h

target_wants : (bytes : List ℕ) (w : Wait) → Wants (run Target) bytes w → Wants instruction_at bytes w
unfolding instruction_at
target_wants bytes w h tail t = ap (λ (r : Result (List ℕ × List ℕ) Stop). r >>= λ target. cond (is_xml target.0) (Err Malformed) (behind_target target.1) >>= λ rest. Ok (skipped, rest)) (word_wants Target bytes w h tail t)

pub instruction_target : (bytes : List ℕ) (o : Option Wait) → IfSome o (λ w. Wants (run Target) bytes w) → IfSome o (λ w. Wants instruction_at bytes w)
instruction_target bytes o h = some_weaker (λ w. Wants (run Target) bytes w) (λ w. Wants instruction_at bytes w) o (λ w k. target_wants bytes w k) h

body_wants : (bytes target behind : List ℕ) (w : Wait) → word Target bytes ≡ Ok (target, behind) → is_xml target ≡ false → Wants behind_target behind w → Wants instruction_at bytes w
unfolding instruction_at
body_wants bytes target behind w e x h tail t =
    let l : word Target (bytes ++ tail) ≡ Ok (target, behind ++ tail) = after_ok (pair_on tail) (word Target bytes) (word Target (bytes ++ tail)) (target, behind) e (word_stays tail Target bytes) in
    ap (λ (r : Result (List ℕ × List ℕ) Stop). r >>= λ target. cond (is_xml target.0) (Err Malformed) (behind_target target.1) >>= λ rest. Ok (skipped, rest)) l
    ∙ rw x (ap (λ (r : Result (List ℕ) Stop). r >>= λ rest. Ok (skipped, rest)) (h tail t))

pub instruction_body : (bytes target behind : List ℕ) (o : Option Wait) → Ok (target, behind) ≡ word Target bytes → is_xml target ≡ false
    → IfSome o (λ w. Wants behind_target behind w) → IfSome o (λ w. Wants instruction_at bytes w)
instruction_body bytes target behind o e x h = some_weaker (λ w. Wants behind_target behind w) (λ w. Wants instruction_at bytes w) o (λ w k. body_wants bytes target behind w (sym e) x k) h

pub target_body : (b : ℕ) (rest : List ℕ) (o : Option Wait) → is_space b ≡ true → IfSome o (λ w. Wants (behind_pair 63 62) rest w) → IfSome o (λ w. Wants behind_target (b ∷ rest) w)
target_body b rest o s h =
    let no_question : eqb b 63 ≡ false = grind (arith, nat_tests) in
    some_weaker (λ w. Wants (behind_pair 63 62) rest w) (λ w. Wants behind_target (b ∷ rest) w) o (λ w k tail t. rw (no_question, s) (k tail t)) h

end_name_wants : (bytes : List ℕ) (w : Wait) → Wants (run Name) bytes w → Wants end_tag_at bytes w
unfolding end_tag_at
end_name_wants bytes w h tail t = ap (λ (r : Result (List ℕ × List ℕ) Stop). r >>= λ name. spaces name.1 >>= λ behind. literal (codes ">") behind >>= λ rest. Ok (closing name.0, rest)) (word_wants Name bytes w h tail t)

pub end_name : (bytes : List ℕ) (o : Option Wait) → IfSome o (λ w. Wants (run Name) bytes w) → IfSome o (λ w. Wants end_tag_at bytes w)
end_name bytes o h = some_weaker (λ w. Wants (run Name) bytes w) (λ w. Wants end_tag_at bytes w) o (λ w k. end_name_wants bytes w k) h

pub end_spaces : (bytes name behind : List ℕ) → Ok (name, behind) ≡ word Name bytes → true ≡ eqb (length (behind_spaces behind)) 0 → Wants end_tag_at bytes Spaces
unfolding end_tag_at
end_spaces bytes name behind e z tail t =
    let s : behind_spaces behind ≡ [] = empty_is (behind_spaces behind) z in
    let l : word Name (bytes ++ tail) ≡ Ok (name, behind ++ tail) = after_ok (pair_on tail) (word Name bytes) (word Name (bytes ++ tail)) (name, behind) (sym e) (word_stays tail Name bytes) in
    ap (λ (r : Result (List ℕ × List ℕ) Stop). r >>= λ name. spaces name.1 >>= λ behind. literal (codes ">") behind >>= λ rest. Ok (closing name.0, rest)) l
    ∙ ap (λ (r : Result (List ℕ) Stop). r >>= λ behind. literal (codes ">") behind >>= λ rest. Ok (closing name, rest)) (spaces_want behind tail s t)

name_wants : (bytes : List ℕ) (w : Wait) → Wants (run Name) bytes w → Wants tag_name_at bytes w
unfolding tag_name_at
name_wants bytes w h tail t = ap (λ (r : Result (List ℕ × List ℕ) Stop). r >>= λ name. Ok (opening name.0, name.1)) (word_wants Name bytes w h tail t)

pub tag_name : (bytes : List ℕ) (o : Option Wait) → IfSome o (λ w. Wants (run Name) bytes w) → IfSome o (λ w. Wants tag_name_at bytes w)
tag_name bytes o h = some_weaker (λ w. Wants (run Name) bytes w) (λ w. Wants tag_name_at bytes w) o (λ w k. name_wants bytes w k) h

pub behind_tag_name : (b : ℕ) (bytes : List ℕ) (o : Option Wait) → eqb b 33 ≡ false → eqb b 63 ≡ false → eqb b 47 ≡ false → IfSome o (λ w. Wants tag_name_at (b ∷ bytes) w) → IfSome o (λ w. Wants markup_at (b ∷ bytes) w)
behind_tag_name b bytes o p q r h = some_weaker (λ w. Wants tag_name_at (b ∷ bytes) w) (λ w. Wants markup_at (b ∷ bytes) w) o (λ w k tail t. rw (p, q, r) (k tail t)) h

pub outside_markup : (bytes : List ℕ) (o : Option Wait) → IfSome o (λ w. Wants markup_at bytes w) → IfSome o (λ w. IsWaiting Between (60 ∷ bytes) w)
outside_markup bytes o h = some_weaker (λ w. Wants markup_at bytes w) (λ w. IsWaiting Between (60 ∷ bytes) w) o (λ w k tail t. ap (λ (r : Result (Construct × List ℕ) Stop). judged false (60 ∷ (bytes ++ tail)) 0 r) (k tail t)) h

first_space : (b : ℕ) (bytes : List ℕ) → behind_spaces (b ∷ bytes) ≡ [] → is_space b ≡ true
first_space b bytes s = on (is_space b) s
  where
    on : (v : Bool) → cond v (behind_spaces bytes) (b ∷ bytes) ≡ [] → v ≡ true
    on true h = refl
    on false h = absurd cc

pub outside_spaces : (bytes : List ℕ) → 0 < length bytes → true ≡ eqb (length (behind_spaces bytes)) 0 → IsWaiting Between bytes Spaces
outside_spaces [] some s tail t = absurd (omega arith)
outside_spaces (b ∷ bytes) some s tail t =
    let none : behind_spaces (b ∷ bytes) ≡ [] = empty_is (behind_spaces (b ∷ bytes)) s in
    let white : is_space b ≡ true = first_space b bytes none in
    let e : eqb b 60 ≡ false = grind (arith, nat_tests) in
    cond-false _ _ _ e ∙ ap (blank false) (still_spaces (b ∷ bytes) tail none t)

-- ---- in a tag

spaces_none : (bytes : List ℕ) → Err Want ≡ spaces bytes → behind_spaces bytes ≡ []
spaces_none bytes e = on (behind_spaces bytes) e
  where
    on : (xs : List ℕ) → Err Want ≡ some_behind xs → xs ≡ []
    on [] h = refl
    on (x ∷ xs) h = absurd cc

-- white space can't be malformed
spaces_stop : (bytes : List ℕ) (e : Stop) → Err e ≡ spaces bytes → behind_spaces bytes ≡ []
spaces_stop bytes e h = on (behind_spaces bytes) h
  where
    on : (xs : List ℕ) → Err e ≡ some_behind xs → xs ≡ []
    on [] h = refl
    on (x ∷ xs) h = absurd cc

spaces_ok : (bytes before tail : List ℕ) → spaces bytes ≡ Ok before → spaces (bytes ++ tail) ≡ Ok (before ++ tail)
spaces_ok bytes before tail e = after_ok (rest_on tail) (spaces bytes) (spaces (bytes ++ tail)) before e (spaces_stay tail bytes)

equals_ok : (bytes behind tail : List ℕ) → literal (codes "=") bytes ≡ Ok behind → literal (codes "=") (bytes ++ tail) ≡ Ok (behind ++ tail)
equals_ok bytes behind tail e = after_ok (rest_on tail) (literal (codes "=") bytes) (literal (codes "=") (bytes ++ tail)) behind e (literal_stays tail (codes "=") bytes)

pub value_spaces : (bytes : List ℕ) (e : Stop) → Err e ≡ spaces bytes → (name : List ℕ) → Wants (behind_name name) bytes Spaces
unfolding behind_name
value_spaces bytes e s name tail t = ap (λ (r : Result (List ℕ) Stop). r >>= λ before. literal (codes "=") before >>= λ behind. spaces behind >>= λ quoted. value_at quoted >>= λ value. Ok ((name, value.0), value.1)) (spaces_want bytes tail (spaces_stop bytes e s) t)

pub equals_spaces : (bytes before behind : List ℕ) (e : Stop) → Ok before ≡ spaces bytes → Ok behind ≡ literal (codes "=") before → Err e ≡ spaces behind → (name : List ℕ) → Wants (behind_name name) bytes Spaces
unfolding behind_name
equals_spaces bytes before behind e p q s name tail t =
    ap (λ (r : Result (List ℕ) Stop). r >>= λ before. literal (codes "=") before >>= λ behind. spaces behind >>= λ quoted. value_at quoted >>= λ value. Ok ((name, value.0), value.1)) (spaces_ok bytes before tail (sym p))
    ∙ ap (λ (r : Result (List ℕ) Stop). r >>= λ behind. spaces behind >>= λ quoted. value_at quoted >>= λ value. Ok ((name, value.0), value.1)) (equals_ok before behind tail (sym q))
    ∙ ap (λ (r : Result (List ℕ) Stop). r >>= λ quoted. value_at quoted >>= λ value. Ok ((name, value.0), value.1)) (spaces_want behind tail (spaces_stop behind e s) t)

pub quote_run : (quote : ℕ) (value : List ℕ) (o : Option Wait) → (eqb quote 34 || eqb quote 39) ≡ true → IfSome o (λ w. Wants (run (Value quote)) value w) → IfSome o (λ w. Wants value_at (quote ∷ value) w)
quote_run quote value o s h = some_weaker (λ w. Wants (run (Value quote)) value w) (λ w. Wants value_at (quote ∷ value) w) o (λ w k tail t. rw s (ap (λ (x : Result (List ℕ × List ℕ) Stop). x >>= closed_by quote) (k tail t))) h

value_run : (bytes before behind quoted name : List ℕ) (w : Wait) → spaces bytes ≡ Ok before → literal (codes "=") before ≡ Ok behind → spaces behind ≡ Ok quoted → Wants value_at quoted w → Wants (behind_name name) bytes w
unfolding behind_name
value_run bytes before behind quoted name w p q r h tail t =
    ap (λ (r : Result (List ℕ) Stop). r >>= λ before. literal (codes "=") before >>= λ behind. spaces behind >>= λ quoted. value_at quoted >>= λ value. Ok ((name, value.0), value.1)) (spaces_ok bytes before tail p)
    ∙ ap (λ (r : Result (List ℕ) Stop). r >>= λ behind. spaces behind >>= λ quoted. value_at quoted >>= λ value. Ok ((name, value.0), value.1)) (equals_ok before behind tail q)
    ∙ ap (λ (r : Result (List ℕ) Stop). r >>= λ quoted. value_at quoted >>= λ value. Ok ((name, value.0), value.1)) (spaces_ok behind quoted tail r)
    ∙ ap (λ (r : Result (List ℕ × List ℕ) Stop). r >>= λ value. Ok ((name, value.0), value.1)) (h tail t)

pub value_wants : (bytes before behind quoted : List ℕ) (o : Option Wait) → Ok before ≡ spaces bytes → Ok behind ≡ literal (codes "=") before → Ok quoted ≡ spaces behind
    → IfSome o (λ w. Wants value_at quoted w) → IfSome o (λ w. (name : List ℕ) → Wants (behind_name name) bytes w)
value_wants bytes before behind quoted o p q r h = some_weaker (λ w. Wants value_at quoted w) (λ w. (name : List ℕ) → Wants (behind_name name) bytes w) o (λ w k name. value_run bytes before behind quoted name w (sym p) (sym q) (sym r) k) h

attribute_name_wants : (bytes : List ℕ) (w : Wait) → Wants (run Name) bytes w → Wants attribute_at bytes w
unfolding attribute_at
attribute_name_wants bytes w h tail t = ap (λ (r : Result (List ℕ × List ℕ) Stop). r >>= λ name. spaces name.1 >>= λ before. literal (codes "=") before >>= λ behind. spaces behind >>= λ quoted. value_at quoted >>= λ value. Ok ((name.0, value.0), value.1)) (word_wants Name bytes w h tail t)

pub attribute_name : (bytes : List ℕ) (o : Option Wait) → IfSome o (λ w. Wants (run Name) bytes w) → IfSome o (λ w. Wants attribute_at bytes w)
attribute_name bytes o h = some_weaker (λ w. Wants (run Name) bytes w) (λ w. Wants attribute_at bytes w) o (λ w k. attribute_name_wants bytes w k) h

attribute_rest_wants : (bytes name rest : List ℕ) (w : Wait) → word Name bytes ≡ Ok (name, rest) → Wants (behind_name name) rest w → Wants attribute_at bytes w
unfolding attribute_at behind_name
attribute_rest_wants bytes name rest w e h tail t =
    let l : word Name (bytes ++ tail) ≡ Ok (name, rest ++ tail) = after_ok (pair_on tail) (word Name bytes) (word Name (bytes ++ tail)) (name, rest) e (word_stays tail Name bytes) in
    ap (λ (r : Result (List ℕ × List ℕ) Stop). r >>= λ name. spaces name.1 >>= λ before. literal (codes "=") before >>= λ behind. spaces behind >>= λ quoted. value_at quoted >>= λ value. Ok ((name.0, value.0), value.1)) l
    ∙ h tail t

pub attribute_rest : (bytes name rest : List ℕ) (o : Option Wait) → Ok (name, rest) ≡ word Name bytes → IfSome o (λ w. (n : List ℕ) → Wants (behind_name n) rest w) → IfSome o (λ w. Wants attribute_at bytes w)
attribute_rest bytes name rest o e h = some_weaker (λ w. (n : List ℕ) → Wants (behind_name n) rest w) (λ w. Wants attribute_at bytes w) o (λ w k. attribute_rest_wants bytes name rest w (sym e) (k name)) h

pub tag_spaces : (bytes : List ℕ) → true ≡ eqb (length (behind_spaces bytes)) 0 → IsWaiting InTag bytes Spaces
tag_spaces bytes s tail t = ap (tag_part false (bytes ++ tail)) (still_spaces bytes tail (empty_is (behind_spaces bytes) s) t)

front_is : (here : List ℕ) (b : ℕ) (rest : List ℕ) → some_behind here ≡ Ok (b ∷ rest) → here ≡ b ∷ rest
front_is [] b rest e = absurd cc
front_is (c ∷ here) b rest e = cc

more_differs : (bytes : List ℕ) (b : ℕ) (rest : List ℕ) → tag_part false bytes (b ∷ rest) ≡ more → eqb b 62 ≡ false → eqb b 47 ≡ false → eqb (length bytes) (length (b ∷ rest)) ≡ false
more_differs bytes b rest e p q = on (eqb (length bytes) (length (b ∷ rest))) (sym (cond-false _ _ _ p ∙ cond-false _ _ _ q) ∙ e)
  where
    on : (v : Bool) → cond v (refused 0 Markup) (attribute_found false bytes (b ∷ rest) (attribute_at (b ∷ rest))) ≡ more → v ≡ false
    on true h = absurd cc
    on false h = refl

tag_wants : (bytes : List ℕ) (b : ℕ) (rest : List ℕ) (w : Wait) → behind_spaces bytes ≡ b ∷ rest → eqb b 62 ≡ false → eqb b 47 ≡ false → scan InTag false bytes ≡ more → Wants attribute_at (b ∷ rest) w → IsWaiting InTag bytes w
tag_wants bytes b rest w e p q m h tail t =
    let here : spaces (bytes ++ tail) ≡ Ok (b ∷ (rest ++ tail)) = spaces_ok bytes (b ∷ rest) tail (ap some_behind e) in
    let front : behind_spaces (bytes ++ tail) ≡ b ∷ (rest ++ tail) = front_is (behind_spaces (bytes ++ tail)) b (rest ++ tail) here in
    let differ : eqb (length bytes) (length (b ∷ rest)) ≡ false = more_differs bytes b rest (ap (tag_part false bytes) (sym e) ∙ m) p q in
    let still : eqb (length (bytes ++ tail)) (length (b ∷ (rest ++ tail))) ≡ false =
    equal_alike (length bytes) (length (b ∷ rest)) (length tail) (length (bytes ++ tail)) (length (b ∷ (rest ++ tail))) (length-append bytes tail) (length-append (b ∷ rest) tail) ∙ differ in
    ap (tag_part false (bytes ++ tail)) front ∙ cond-false _ _ _ p ∙ cond-false _ _ _ q ∙ cond-false _ _ _ still ∙ ap (attribute_found false (bytes ++ tail) (b ∷ (rest ++ tail))) (h tail t)

pub tag_attribute : (bytes here : List ℕ) (o : Option Wait) → here ≡ behind_spaces bytes → false ≡ eqb (length here) 0 → (get_or here 0 0 ≡ 62 → ⊥) → (get_or here 0 0 ≡ 47 → ⊥) → scan InTag false bytes ≡ more
    → IfSome o (λ w. Wants attribute_at here w) → IfSome o (λ w. IsWaiting InTag bytes w)
tag_attribute bytes [] o e some p q m h = absurd (grind (arith, nat_tests))
tag_attribute bytes (b ∷ rest) o e some p q m h =
    let no_end : eqb b 62 ≡ false = grind (arith, nat_tests) in
    let no_slash : eqb b 47 ≡ false = grind (arith, nat_tests) in
    some_weaker (λ w. Wants attribute_at (b ∷ rest) w) (λ w. IsWaiting InTag bytes w) o (λ w k. tag_wants bytes b rest w (sym e) no_end no_slash m k) h

-- ---- places

pub no_declaration : (bytes : List ℕ) (w : Wait) → Err Malformed ≡ declares bytes → IsWaiting Between bytes w → IsWaiting Marked bytes w
no_declaration bytes w e h tail t =
    let d : declares (bytes ++ tail) ≡ Err Malformed = subst (λ (r : Result (List ℕ) Stop). Stays (rest_on tail) r (declares (bytes ++ tail))) (sym e) (declares_stays tail bytes) in
    ap (declared false (bytes ++ tail)) d ∙ h tail t

pub no_mark : (bytes : List ℕ) (w : Wait) → Err Malformed ≡ mark_at bytes → IsWaiting Marked bytes w → IsWaiting Start bytes w
no_mark bytes w e h tail t =
    let d : mark_at (bytes ++ tail) ≡ Err Malformed = subst (λ (r : Result (List ℕ) Stop). Stays (rest_on tail) r (mark_at (bytes ++ tail))) (sym e) (literal_stays tail (0xEF ∷ 0xBB ∷ 0xBF ∷ []) bytes) in
    ap (marked false (bytes ++ tail)) d ∙ h tail t

pub after_some : (bytes : List ℕ) (w : Wait) → 0 < length bytes → IsWaiting Between bytes w → IsWaiting After bytes w
after_some [] w some h tail t = absurd (omega arith)
after_some (b ∷ bytes) w some h tail t = h tail t

pub outside_there : (place : Place) (bytes : List ℕ) (answer : Bool) (w : Wait) → IsOutside place bytes answer → answer ≡ true → IsWaiting Between bytes w → IsWaiting place bytes w
outside_there Start bytes answer w o e h = let p = o e in no_mark bytes w p.0 (no_declaration bytes w p.1 h)
outside_there Marked bytes answer w o e h = no_declaration bytes w (o e) h
outside_there Between bytes answer w o e h = h
outside_there InTag bytes answer w o e h = absurd cc
outside_there After bytes answer w o e h = after_some bytes w (o e) h

pub found_outside : (place : Place) (bytes : List ℕ) (answer : Bool) (found : Option Wait) → IsOutside place bytes answer → answer ≡ true → IfSome found (λ w. IsWaiting Between bytes w) → IfSome found (λ w. IsWaiting place bytes w)
found_outside place bytes answer found o e h = some_weaker (λ w. IsWaiting Between bytes w) (λ w. IsWaiting place bytes w) found (λ w k. outside_there place bytes answer w o e k) h

drop_past : (xs : List ℕ) (n : ℕ) → length xs ≤ n → drop n xs ≡ []
drop_past [] n le = drop_none n
  where
    drop_none : (m : ℕ) → drop {A = ℕ} m [] ≡ []
    drop_none zero = refl
    drop_none (suc m) = refl
drop_past (x ∷ xs) zero le = absurd (omega arith)
drop_past (x ∷ xs) (suc n) le = drop_past xs n (omega arith)

pub none_left : (xs : List ℕ) (n : ℕ) → length xs ≤ n → drop n xs ≡ []
none_left xs n le = drop_past xs n le
