-- What a crash leaves in each step of an append, and of a repair.
use Rattle.std.proofs.Common.{◌≡◌, inl, inr, ℕ, zero, suc, ◌+◌, ◌-◌, List, [], ◌∷◌, ◌++◌, length, get_or, take, drop, refl, sym, ◌∙◌, ap, subst, arith, append_assoc, length-append, length-drop, length-take, take-append-drop}
use Rattle.std.proofs.lemmas.Bool.{cases_eq}
use Rattle.std.proofs.lemmas.List.{take_at, drop_at, drop_more, take_all, drop_all, append-nil}
use Rattle.std.specs.List.{AllByRecursion}
use Rattle.ob_journal.specs.Device.{Holds, Torn, Cut, Follows, Only}
use Rattle.ob_journal.specs.Journal.{front, at_rest, IsLast, closed_gate, broken_gate, Stands, IsBeforeOrAfter, IsUnmade, IsFront}
use Rattle.ob_journal.proofs.Fronts.{front-push, all_push, behind, short_tail, front_tail, is_front}

take_past : (xs ys : List ℕ) (m n : ℕ) → m ≡ length xs + n → take m (xs ++ ys) ≡ xs ++ take n ys
take_past [] ys m n is = let same : m ≡ n = omega arith in ap (λ (k : ℕ). take k ys) same
take_past (x ∷ xs) ys zero n is = absurd (omega arith)
take_past (x ∷ xs) ys (suc m) n is = ap (λ (l : List ℕ). x ∷ l) (take_past xs ys m n (omega arith))

module _ (IsEntry : List ℕ → Type 0) (one : (a b x y : List ℕ) → IsEntry a → IsEntry b → a ++ x ≡ b ++ y → a ≡ b) where
  -- nothing but a closed gate follows the entry that is appended
  appended_last : (e closed : List ℕ) → IsEntry e → closed ≡ e ++ 0 ∷ [] → IsLast IsEntry closed
  appended_last e closed is closed_is first rest entry same =
      let split : first ++ rest ≡ e ++ 0 ∷ [] = sym same ∙ closed_is in
      let first_is : first ≡ e = one first e rest (0 ∷ []) entry is split in
      inr (behind e rest (0 ∷ []) (ap (λ (l : List ℕ). l ++ rest) (sym first_is) ∙ split))

module _ (IsEntry : List ℕ → Type 0) (es : List (List ℕ)) (valid : AllByRecursion IsEntry es) (g : ℕ) (g_is : g ≡ length (front es)) where
  pub rest_length : length (at_rest es) ≡ g + 1
  rest_length = omega (arith, g_is, length-append (front es) (0 ∷ []))

  -- a file at rest stands for its entries
  pub rest_stands : Stands IsEntry (at_rest es) es
  rest_stands = record { end = 0 ∷ []; valid = valid; split = refl; tail = closed_gate [] refl }

  -- the closed gate stands in each outcome of the first write
  torn_behind : (n : ℕ) (c : List ℕ) → Torn (g + 1) n (at_rest es) c → Stands IsEntry c es
  torn_behind n c torn =
      let before : take (g + 1) c ≡ at_rest es = torn.before ∙ take_all _ _ (omega (arith, rest_length)) in
      record {
        end = 0 ∷ drop (g + 1) c;
        valid = valid;
        split = sym (take-append-drop (g + 1) c) ∙ ap (λ (l : List ℕ). l ++ drop (g + 1) c) before ∙ append_assoc (front es) (0 ∷ []) (drop (g + 1) c);
        tail = closed_gate (drop (g + 1) c) refl;
      }

  pub written_behind : (bytes c : List ℕ) → Holds (at_rest es) (g + 1) bytes c → c ≡ at_rest es ++ bytes
  written_behind bytes c holds =
      holds
      ∙ ap (λ (l : List ℕ). l ++ bytes ++ drop (g + 1 + length bytes) (at_rest es)) (take_all _ _ (omega (arith, rest_length)))
      ∙ ap (λ (l : List ℕ). at_rest es ++ bytes ++ l) (drop_all (g + 1 + length bytes) (at_rest es) (omega (arith, rest_length)))
      ∙ append-nil (at_rest es ++ bytes)

  staged_split : (bytes : List ℕ) → at_rest es ++ bytes ≡ front es ++ 0 ∷ bytes
  staged_split bytes = append_assoc (front es) (0 ∷ []) bytes

  pub staged_length : (bytes : List ℕ) → length (at_rest es ++ bytes) ≡ g + 1 + length bytes
  staged_length bytes = omega (arith, rest_length, length-append (at_rest es) bytes)

  staged_front : (bytes : List ℕ) → take g (at_rest es ++ bytes) ≡ front es
  staged_front bytes = ap (λ (l : List ℕ). take g l) (staged_split bytes) ∙ take_at (front es) (0 ∷ bytes) g (sym g_is)

  staged_back : (bytes : List ℕ) → drop (g + 1) (at_rest es ++ bytes) ≡ bytes
  staged_back bytes = drop_at (at_rest es) bytes (g + 1) rest_length

  -- the entry stands whole in each outcome of the second write
  torn_gate : ((a b x y : List ℕ) → IsEntry a → IsEntry b → a ++ x ≡ b ++ y → a ≡ b) → (e bytes : List ℕ) → IsEntry e → bytes ≡ e ++ 0 ∷ [] → (c : List ℕ) → Torn g 1 (at_rest es ++ bytes) c → IsBeforeOrAfter IsEntry es e c
  torn_gate one e bytes is bytes_is c torn =
      let gate = get_or c g 0 in
      let rest : drop g c ≡ gate ∷ bytes =
      drop_more c g 0 (omega (arith, torn.no_shorter, staged_length bytes)) ∙ ap (λ (l : List ℕ). gate ∷ l) (torn.after ∙ staged_back bytes) in
      let whole : c ≡ front es ++ gate ∷ bytes = sym (take-append-drop g c) ∙ ap (λ (l : List ℕ). l ++ drop g c) (torn.before ∙ staged_front bytes) ∙ ap (λ (l : List ℕ). front es ++ l) rest in
      elim (cases_eq gate 10) [
        | inl open_gate ↦ inr (record {
          end = 0 ∷ [];
          valid = all_push IsEntry es e valid is;
          split = whole ∙ ap (λ (k : ℕ). front es ++ k ∷ bytes) open_gate ∙ ap (λ (l : List ℕ). front es ++ 10 ∷ l) bytes_is ∙ sym (front-push es e (0 ∷ []));
          tail = closed_gate [] refl;
        })
        | inr shut ↦ inl (record { end = gate ∷ bytes; valid = valid; split = whole; tail = broken_gate gate bytes shut refl (appended_last IsEntry one e bytes is bytes_is) })
      ]

  pub written_gate : (e bytes : List ℕ) → bytes ≡ e ++ 0 ∷ [] → (c : List ℕ) → Holds (at_rest es ++ bytes) g (10 ∷ []) c → c ≡ at_rest (es ++ e ∷ [])
  written_gate e bytes bytes_is c holds =
      holds
      ∙ ap (λ (l : List ℕ). l ++ (10 ∷ []) ++ drop (g + 1) (at_rest es ++ bytes)) (staged_front bytes)
      ∙ ap (λ (l : List ℕ). front es ++ (10 ∷ []) ++ l) (staged_back bytes ∙ bytes_is)
      ∙ append_assoc (front es) (10 ∷ []) (e ++ 0 ∷ [])
      ∙ sym (front-push es e (0 ∷ []))

  -- where the gate is then
  pub next_gate : (e bytes : List ℕ) → bytes ≡ e ++ 0 ∷ [] → g + length bytes ≡ length (front (es ++ e ∷ []))
  next_gate e bytes bytes_is =
      omega (arith, g_is, ap length bytes_is, length-append e (0 ∷ []), ap length (front-push es e []), length-append (front (es ++ e ∷ [])) [], length-append (front es) (10 ∷ (e ++ [])), length-append e [])

  pub stage_crash : (n : ℕ) (old new : List ℕ → Type 0) → Only (at_rest es) old → Follows (Torn (g + 1) n) old new → (c : List ℕ) → new c → Stands IsEntry c es
  stage_crash n old new only follows c left =
      let from = follows c left in
      torn_behind n c (subst (λ f. Torn (g + 1) n f c) (only from.0 from.1) from.2)

  pub gate_crash : ((a b x y : List ℕ) → IsEntry a → IsEntry b → a ++ x ≡ b ++ y → a ≡ b) → (e bytes : List ℕ) → IsEntry e → bytes ≡ e ++ 0 ∷ [] → (old new : List ℕ → Type 0) → Only (at_rest es ++ bytes) old → Follows (Torn g 1) old new → (c : List ℕ) → new c → IsBeforeOrAfter IsEntry es e c
  gate_crash one e bytes is bytes_is old new only follows c left =
      let from = follows c left in
      torn_gate one e bytes is bytes_is c (subst (λ f. Torn g 1 f c) (only from.0 from.1) from.2)

-- ---- making

-- any file of so few bytes may be left
torn_made : (file c : List ℕ) → IsUnmade file → Torn 0 14 file c → IsUnmade c
torn_made file c short torn = omega (arith, short, torn.no_longer)

pub make_crash : (file : List ℕ) → IsUnmade file → (old new : List ℕ → Type 0) → Only file old → Follows (Torn 0 14) old new → (c : List ℕ) → new c → IsUnmade c
make_crash file short old new only follows c left =
    let from = follows c left in
    torn_made file c short (subst (λ f. Torn 0 14 f c) (only from.0 from.1) from.2)

pub made : (file c : List ℕ) → IsUnmade file → Holds file 0 (at_rest []) c → c ≡ at_rest []
made file c short holds = holds ∙ ap (λ (l : List ℕ). at_rest [] ++ l) (drop_all 14 file short) ∙ append-nil (at_rest [])

-- ---- repair

module _ (IsEntry : List ℕ → Type 0) (one : (a b x y : List ℕ) → IsEntry a → IsEntry b → a ++ x ≡ b ++ y → a ≡ b) (some : IsEntry [] → ⊥)
    (file : List ℕ) (n : ℕ) (es : List (List ℕ)) (f : IsFront IsEntry file n) (stands : Stands IsEntry file es) where
  pub cut_done : take n file ≡ front es
  cut_done = is_front IsEntry one some file n es f stands

  pub end_is : n ≡ length (front es)
  end_is = omega (arith, length-take n file, f.within, ap length cut_done)

  -- any cut keeps the entries
  pub cut_keeps : (c : List ℕ) → Cut n file c → Stands IsEntry c es
  cut_keeps c cut =
      let k = length c - n in
      let split : file ≡ front es ++ drop n file = sym (take-append-drop n file) ∙ ap (λ (l : List ℕ). l ++ drop n file) cut_done in
      record {
        end = take k (drop n file);
        valid = stands.valid;
        split = sym cut.front ∙ ap (λ (l : List ℕ). take (length c) l) split ∙ take_past (front es) (drop n file) (length c) k (omega (arith, cut.no_shorter, end_is));
        tail = front_tail IsEntry (drop n file) k f.tail;
      }

  -- one byte behind the front is a tail
  pub torn_end : (c : List ℕ) → Torn n 1 (front es) c → Stands IsEntry c es
  torn_end c torn =
      let before : take n c ≡ front es = torn.before ∙ take_all n (front es) (omega (arith, end_is)) in
      record {
        end = drop n c;
        valid = stands.valid;
        split = sym (take-append-drop n c) ∙ ap (λ (l : List ℕ). l ++ drop n c) before;
        tail = short_tail IsEntry (drop n c) (omega (arith, length-drop n c, end_is, torn.no_longer));
      }

  pub written_end : (c : List ℕ) → Holds (front es) n (0 ∷ []) c → c ≡ at_rest es
  written_end c holds =
      holds
      ∙ ap (λ (l : List ℕ). l ++ (0 ∷ []) ++ drop (n + 1) (front es)) (take_all n (front es) (omega (arith, end_is)))
      ∙ ap (λ (l : List ℕ). front es ++ (0 ∷ []) ++ l) (drop_all (n + 1) (front es) (omega (arith, end_is)))
      ∙ append-nil (at_rest es)
