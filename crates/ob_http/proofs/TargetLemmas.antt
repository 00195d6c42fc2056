-- Lemmas on bytes that end inside a target.
use Rattle.std.proofs.Common.{◌≡◌, ℕ, ◌+◌, ◌<◌, ◌↔◌, IsTrue, Bool, true, false, ◌==◌, List, [], ◌∷◌, ◌++◌, length, take, drop, Option, Some, None, position, refl, sym, ap, ◌∙◌, subst, arith, append_assoc, nat_lt, not, add-one, one-add, suc, take_at, drop_at, length-append, ◌≢◌}
use Rattle.std.proofs.lemmas.Bool.{and_parts, ltb-true, lt-ltb, cond-true, ne_eqb, eqb-true, true≢false}
use Rattle.std.specs.List.{list_all, prefix_len}
use Rattle.httparse.specs.Grammar.{LineEnd, print_end, print_blank, AllPass, IsToken, is_token, is_token_byte, is_uri_byte, EndsInTarget}
use Rattle.httparse.specs.Pieces.{Stops, is_newline}
use Rattle.httparse.proofs.PieceLemmas.{print_end_unique, newline_not_stopped, Stops_token, space_ends_token}
use Rattle.httparse.proofs.ReadLemmas.{blank_more}
use Rattle.std.proofs.lemmas.List.Sums.{AllPass-from_list_all, list_all-from_AllPass}
use Rattle.std.proofs.lemmas.List.Elements.{All-head, All-tail}
use Rattle.ob_http.proofs.MemberLemmas.{some_is}
use Rattle.ob_http.specs.Target.{BeginsWithNewline, is_line_to_target}

-- ---- the empty lines

-- one line more
pub one_blank_more : (bytes rest next : List ℕ) → ((blank : List LineEnd) × (bytes ≡ print_blank blank ++ rest))
    → ((end : LineEnd) × (rest ≡ print_end end ++ next)) → (blank : List LineEnd) × (bytes ≡ print_blank blank ++ next)
one_blank_more bytes rest next (blank, whole) (end, more) = (blank ++ end ∷ [], blank_more blank end bytes rest next whole more)

-- the bytes behind them are the same, however they are told
pub blank_unique : (es fs : List LineEnd) (x y : List ℕ) → print_blank es ++ x ≡ print_blank fs ++ y
    → ¬ (BeginsWithNewline x) → Stops is_newline y → x ≡ y
blank_unique [] [] x y same left right = same
blank_unique [] (f ∷ fs) x y same left right = absurd (left (f, print_blank fs ++ y, same ∙ append_assoc (print_end f) (print_blank fs) y))
blank_unique (e ∷ es) [] x y same left right =
    absurd (newline_not_stopped e (print_blank es ++ x) y (sym (append_assoc (print_end e) (print_blank es) x) ∙ same) right)
blank_unique (e ∷ es) (f ∷ fs) x y same left right =
    let (_, rest) = print_end_unique e f (print_blank es ++ x) (print_blank fs ++ y)
    (sym (append_assoc (print_end e) (print_blank es) x) ∙ same ∙ append_assoc (print_end f) (print_blank fs) y) in
    blank_unique es fs x y rest left right

-- ---- the line

abbrev other : ℕ → Bool
other b = not (b == 32)

-- the line round its first space
round_space : (line : List ℕ) → prefix_len other line < length line
    → line ≡ take (prefix_len other line) line ++ 32 ∷ drop (prefix_len other line + 1) line
round_space [] inside = absurd (omega arith)
round_space (b ∷ bs) inside = by_test (round_space bs) inside (b == 32) refl
  where
    by_test : (prefix_len other bs < length bs → bs ≡ take (prefix_len other bs) bs ++ 32 ∷ drop (prefix_len other bs + 1) bs)
        → prefix_len other (b ∷ bs) < length (b ∷ bs) → (t : Bool) → (b == 32) ≡ t
        → b ∷ bs ≡ take (prefix_len other (b ∷ bs)) (b ∷ bs) ++ 32 ∷ drop (prefix_len other (b ∷ bs) + 1) (b ∷ bs)
    by_test later room true space = rw space (ap (λ x. x ∷ bs) (eqb-true b 32 space))
    by_test later room false no_space =
        let n = prefix_len other bs in
        let here : 1 + n < length (b ∷ bs) = rw no_space at room in
        let size : length (b ∷ bs) ≡ length bs + 1 = sym (add-one (length bs)) in
        let short : n < length bs = omega arith in
        let one : 1 + n ≡ suc n = one-add n in
        let next : 1 + n + 1 ≡ suc (n + 1) = omega arith in
        rw (no_space, next, one) (ap (λ xs. b ∷ xs) (later short))

-- the first space stands behind the token
space_after : (m t : List ℕ) → AllPass is_token_byte m → prefix_len other (m ++ 32 ∷ t) ≡ length m
space_after [] t token = refl
space_after (b ∷ m) t token =
    let first = All-head (λ x. IsTrue (is_token_byte x)) b m token in
    let differs : b ≢ 32 = λ same. true≢false (sym first ∙ ap is_token_byte same ∙ space_ends_token) in
    let later = space_after m t (All-tail (λ x. IsTrue (is_token_byte x)) b m token) in
    rw (ne_eqb b 32 differs, later) (one-add (length m))

position_after : (m t : List ℕ) → AllPass is_token_byte m → position (λ b. b == 32) (m ++ 32 ∷ t) ≡ Some (length m)
position_after m t token =
    let place = space_after m t token in
    let size : length (32 ∷ t) ≡ length t + 1 = sym (add-one (length t)) in
    let inside : length m < length (m ++ 32 ∷ t) = omega (arith, length-append m (32 ∷ t)) in
    rw place (cond-true _ _ _ (lt-ltb (length m) (length (m ++ 32 ∷ t)) inside))

abbrev IsLine : List ℕ → Type 0
IsLine line = (m : List ℕ) × (t : List ℕ) × IsToken m × AllPass is_uri_byte t × (line ≡ m ++ 32 ∷ t)

line_from : (line : List ℕ) (o : Option ℕ) → position (λ b. b == 32) line ≡ o → is_line_to_target line o ≡ true → IsLine line
line_from line None place yes_it = absurd (true≢false (sym yes_it))
line_from line (Some end) place is_line =
    let (inside, same) = some_is (nat_lt (prefix_len other line) (length line)) (prefix_len other line) end place in
    let split : line ≡ take end line ++ 32 ∷ drop (end + 1) line =
    subst (λ n. line ≡ take n line ++ 32 ∷ drop (n + 1) line) same (round_space line (ltb-true _ _ inside)) in
    let (token, target) = and_parts (is_token (take end line)) (list_all is_uri_byte (drop (end + 1) line)) is_line in
    let (some, all) = and_parts _ _ token in (
      take end line,
      drop (end + 1) line,
      (ltb-true _ _ some, AllPass-from_list_all is_token_byte _ all),
      AllPass-from_list_all is_uri_byte _ target,
      split,
    )

line_to : (line : List ℕ) → IsLine line → is_line_to_target line (position (λ b. b == 32) line) ≡ true
line_to line (m, t, token, target, split) =
    subst (λ l. is_line_to_target l (position (λ b. b == 32) l) ≡ true) (sym split) (
    let front = take_at m (32 ∷ t) (length m) refl in
    let back : drop (length m + 1) (m ++ 32 ∷ t) ≡ t =
    ap (drop (length m + 1)) (sym (append_assoc m (32 ∷ []) t))
    ∙ drop_at (m ++ 32 ∷ []) t (length m + 1) (length-append m (32 ∷ [])) in
    let some = lt-ltb 0 (length m) token.0 in
    let all = list_all-from_AllPass is_token_byte m token.1 in
    let rest = list_all-from_AllPass is_uri_byte t target in
    rw (position_after m t token.1, front, back) (cc)
    )

-- so the test tells whether the bytes end in a target
pub ends_is : (bytes line : List ℕ) → ((blank : List LineEnd) × (bytes ≡ print_blank blank ++ line)) → ¬ (BeginsWithNewline line)
    → (r : Bool) → r ≡ is_line_to_target line (position (λ b. b == 32) line) → IsTrue r ↔ EndsInTarget bytes
ends_is bytes line (blank, whole) stops r told = (
  λ is_so.
      let (m, t, token, target, split) = line_from line _ refl (sym told ∙ is_so) in
      (blank, m, t, token, target, whole ∙ ap (λ l. print_blank blank ++ l) split ∙ sym (append_assoc (print_blank blank) m (32 ∷ t))),
  λ (es, m, t, token, target, spelled).
      let line_is = blank_unique blank es line (m ++ 32 ∷ t) (sym whole ∙ spelled ∙ append_assoc (print_blank es) m (32 ∷ t)) stops
      (Stops_token m (32 ∷ t) token.0 token.1) in
      told ∙ line_to line (m, t, token, target, line_is),
)
