-- Fronts of files, and what their ends may be.
use Rattle.std.proofs.Common.{◌≡◌, ◌≢◌, ◌⊎◌, inl, inr, ℕ, zero, suc, ◌<◌, ◌≤◌, ◌+◌, List, [], ◌∷◌, ◌++◌, length, get_or, take, drop, length-drop, length-take, refl, sym, ◌∙◌, ap, ap₂, subst, arith, append_assoc, length-append, take-append-drop, drop_at, drop-drop}
use Rattle.std.specs.List.{AllByRecursion}
use Rattle.std.proofs.Math.Seq.{take-add}
use Rattle.std.proofs.lemmas.Bool.{cases_eq}
use Rattle.std.proofs.lemmas.List.{take_at, take_all, append-nil}
use Rattle.ob_journal.specs.Journal.{first_line, blocks, front, NoBlock, IsLast, IsTail, nothing, closed_gate, open_gate, broken_gate, AreBlocks, Stands, Says, IsUnmade, IsFront, IsNoJournalAt, at_start, in_tail, OneMeaning}

pub blocks-push : (es : List (List ℕ)) (e : List ℕ) → blocks (es ++ e ∷ []) ≡ blocks es ++ (10 ∷ (e ++ []))
blocks-push [] e = refl
blocks-push (x ∷ es) e = ap (λ (l : List ℕ). 10 ∷ (x ++ l)) (blocks-push es e) ∙ ap (λ (l : List ℕ). 10 ∷ l) (sym (append_assoc x (blocks es) (10 ∷ (e ++ []))))

pub all_push : (P : List ℕ → Type 0) (es : List (List ℕ)) (e : List ℕ) → AllByRecursion P es → P e → AllByRecursion P (es ++ e ∷ [])
all_push P [] e all is = (is, tt)
all_push P (x ∷ es) e all is = (all.0, all_push P es e all.1 is)

-- one entry more, and what stands behind it
pub front-push : (es : List (List ℕ)) (e rest : List ℕ) → front (es ++ e ∷ []) ++ rest ≡ front es ++ (10 ∷ (e ++ rest))
front-push es e rest =
    ap (λ (l : List ℕ). (first_line ++ l) ++ rest) (blocks-push es e)
    ∙ append_assoc first_line (blocks es ++ (10 ∷ (e ++ []))) rest
    ∙ ap (λ (l : List ℕ). first_line ++ l) (append_assoc (blocks es) (10 ∷ (e ++ [])) rest)
    ∙ ap (λ (l : List ℕ). first_line ++ (blocks es ++ (10 ∷ l))) (append_assoc e [] rest)
    ∙ sym (append_assoc first_line (blocks es) (10 ∷ (e ++ rest)))

pub head_is : (a b : ℕ) (x y : List ℕ) → a ∷ x ≡ b ∷ y → a ≡ b
head_is a b x y same = ap (λ (l : List ℕ). get_or l 0 0) same

pub tail_is : (a b : ℕ) (x y : List ℕ) → a ∷ x ≡ b ∷ y → x ≡ y
tail_is a b x y same = ap (λ (l : List ℕ). drop 1 l) same

-- what stands behind the same front is the same
pub behind : (a x y : List ℕ) → a ++ x ≡ a ++ y → x ≡ y
behind a x y same = sym (drop_at a x (length a) refl) ∙ ap (λ (l : List ℕ). drop (length a) l) same ∙ drop_at a y (length a) refl

-- a front of nothing, or of a closed gate, is one of them
front_few : (rest more : List ℕ) → (rest ++ more ≡ []) ⊎ (rest ++ more ≡ 0 ∷ []) → (rest ≡ []) ⊎ (rest ≡ 0 ∷ [])
front_few [] more few = inl refl
front_few (b ∷ []) more (inl few) = absurd (cc few)
front_few (b ∷ []) more (inr few) = inr (ap (λ (k : ℕ). k ∷ []) (head_is b 0 more [] few))
front_few (b ∷ c ∷ rest) more (inl few) = absurd (cc few)
front_few (b ∷ c ∷ rest) more (inr few) = absurd (cc (tail_is b 0 (c ∷ (rest ++ more)) [] few))

behind_is : (file rest : List ℕ) → file ≡ first_line ++ rest → drop 13 file ≡ rest
behind_is file rest is = ap (λ (l : List ℕ). drop 13 l) is ∙ drop_at first_line rest 13 refl

module _ (IsEntry : List ℕ → Type 0) where
  pub nothing_ends : NoBlock IsEntry []
  nothing_ends e rest is same = absurd (cc same)

  pub shut_ends : (gate : ℕ) (rest : List ℕ) → gate ≢ 10 → NoBlock IsEntry (gate ∷ rest)
  shut_ends gate rest shut e more is same = shut (head_is gate 10 rest (e ++ more) same)

  -- a byte alone is no block
  one_byte : (IsEntry [] → ⊥) → (b : ℕ) → (e rest : List ℕ) → IsEntry e → b ∷ [] ≡ 10 ∷ (e ++ rest) → ⊥
  one_byte some b [] rest is same = some is
  one_byte some b (x ∷ e) rest is same = absurd (cc (tail_is b 10 [] (x ∷ (e ++ rest)) same))

  -- no block stands first in a tail
  pub tail_ends : (IsEntry [] → ⊥) → (end : List ℕ) → IsTail IsEntry end → NoBlock IsEntry end
  tail_ends some end (nothing is) e rest entry same = nothing_ends e rest entry (sym is ∙ same)
  tail_ends some end (closed_gate more is) e rest entry same = shut_ends 0 more (omega arith) e rest entry (sym is ∙ same)
  tail_ends some end (open_gate is) e rest entry same = one_byte some 10 e rest entry (sym is ∙ same)
  tail_ends some end (broken_gate gate behind shut is last) e rest entry same = shut_ends gate behind shut e rest entry (sym is ∙ same)

  -- ---- tails

  nothing_last : IsLast IsEntry []
  nothing_last [] rest entry same = inl (sym same)
  nothing_last (x ∷ e) rest entry same = absurd (cc same)

  front_last : (bytes : List ℕ) (n : ℕ) → IsLast IsEntry bytes → IsLast IsEntry (take n bytes)
  front_last bytes n last e rest entry same =
      front_few rest (drop n bytes)
      (last e (rest ++ drop n bytes) entry (sym (take-append-drop n bytes) ∙ ap (λ (l : List ℕ). l ++ drop n bytes) same ∙ append_assoc e rest (drop n bytes)))

  -- a front of a tail is one
  pub front_tail : (end : List ℕ) (n : ℕ) → IsTail IsEntry end → IsTail IsEntry (take n end)
  front_tail end zero tail = nothing refl
  front_tail end (suc n) (nothing is) = nothing (ap (take (suc n)) is)
  front_tail end (suc n) (closed_gate rest is) = closed_gate (take n rest) (ap (take (suc n)) is)
  front_tail end (suc n) (open_gate is) = open_gate (ap (take (suc n)) is ∙ take_all (suc n) (10 ∷ []) (omega arith))
  front_tail end (suc n) (broken_gate gate behind shut is last) = broken_gate gate (take n behind) shut (ap (take (suc n)) is) (front_last behind n last)

  -- at most one byte is a tail
  pub short_tail : (end : List ℕ) → length end < 2 → IsTail IsEntry end
  short_tail [] short = nothing refl
  short_tail (b ∷ []) short = elim (cases_eq b 10) [
    | inl opened ↦ open_gate (ap (λ (k : ℕ). k ∷ []) opened)
    | inr shut ↦ broken_gate b [] shut refl nothing_last
  ]
  short_tail (b ∷ c ∷ end) short = absurd (omega (arith, short))

  -- before the first block
  pub no_blocks : (bytes : List ℕ) → AreBlocks IsEntry bytes 0
  no_blocks bytes = record { within = omega arith; entries = []; valid = tt; blocks_are = refl }

  -- one block more
  pub more_blocks : (bytes : List ℕ) (at n : ℕ) → AreBlocks IsEntry bytes at → n ≤ length (drop at bytes) → (e : List ℕ) → IsEntry e → take n (drop at bytes) ≡ 10 ∷ e → AreBlocks IsEntry bytes (at + n)
  more_blocks bytes at n so_far le e is same = record {
    within = omega (arith, so_far.within, le, length-drop at bytes);
    entries = so_far.entries ++ e ∷ [];
    valid = all_push IsEntry so_far.entries e so_far.valid is;
    blocks_are =
        take-add at n bytes ∙ ap₂ (λ (x y : List ℕ). x ++ y) so_far.blocks_are (same ∙ ap (λ (l : List ℕ). 10 ∷ l) (sym (append-nil e)))
        ∙ sym (blocks-push so_far.entries e);
  }

  -- behind the first line
  pub front_of : (file rest : List ℕ) (n : ℕ) → file ≡ first_line ++ rest → AreBlocks IsEntry rest n → IsTail IsEntry (drop n rest) → IsFront IsEntry file (13 + n)
  front_of file rest n is found tail = record {
    within = omega (arith, ap length is, length-append first_line rest, found.within);
    entries = found.entries;
    valid = found.valid;
    front_is = take-add 13 n file ∙ ap₂ (λ (x y : List ℕ). x ++ take n y) (ap (λ (l : List ℕ). take 13 l) is ∙ take_at first_line rest 13 refl) (behind_is file rest is) ∙ ap (λ (l : List ℕ). first_line ++ l) found.blocks_are;
    tail = subst (IsTail IsEntry) (sym (ap (λ (l : List ℕ). drop n l) (behind_is file rest is)) ∙ drop-drop n 13 file) tail;
  }

  -- and where no tail follows
  pub broken_at : (file rest : List ℕ) (n : ℕ) → file ≡ first_line ++ rest → (found : AreBlocks IsEntry rest n) → NoBlock IsEntry (drop n rest) → (IsTail IsEntry (drop n rest) → ⊥) → IsNoJournalAt IsEntry file (13 + n)
  broken_at file rest n is found none no_tail =
      let split : file ≡ front found.entries ++ drop n rest =
      is ∙ ap (λ (l : List ℕ). first_line ++ l) (sym (take-append-drop n rest) ∙ ap (λ (l : List ℕ). l ++ drop n rest) found.blocks_are) ∙ sym (append_assoc first_line (blocks found.entries) (drop n rest)) in
      let place : 13 + n ≡ length (front found.entries) = omega (arith, length-append first_line (blocks found.entries), ap length (sym found.blocks_are), length-take n rest, found.within) in
      in_tail found.entries (drop n rest) found.valid split place none no_tail

  -- what doesn't have the first line stands for nothing
  pub not_stands : (file : List ℕ) → ((rest : List ℕ) → file ≡ first_line ++ rest → ⊥) → (entries : List (List ℕ)) → Stands IsEntry file entries → ⊥
  not_stands file none entries stands = none (blocks entries ++ stands.end) (stands.split ∙ append_assoc first_line (blocks entries) stands.end)

  -- a file with an entry has more than 14 bytes
  none_in : (IsEntry [] → ⊥) → (file : List ℕ) (es : List (List ℕ)) → Stands IsEntry file es → IsUnmade file → es ≡ []
  none_in some file [] stands short = refl
  none_in some file ([] ∷ es) stands short = absurd (some stands.valid.0)
  none_in some file ((b ∷ e) ∷ es) stands short =
      absurd (omega (arith, short, ap length stands.split, length-append (front ((b ∷ e) ∷ es)) stands.end, length-append first_line (blocks ((b ∷ e) ∷ es))))

  -- at most one byte stands behind the first line of one that isn't made
  short_behind : (es : List (List ℕ)) (end file : List ℕ) → file ≡ front es ++ end → IsUnmade file → length end < 2
  short_behind es end file split short =
      omega (arith, short, ap length split, length-append (front es) end, length-append first_line (blocks es))

  -- one that isn't made says none
  pub unmade_says : (IsEntry [] → ⊥) → (file : List ℕ) (es : List (List ℕ)) → IsUnmade file → Says IsEntry file es → es ≡ []
  unmade_says some file es short (inl stands) = none_in some file es stands short
  unmade_says some file es short (inr unmade) = unmade.1

  module _ (one : (a b x y : List ℕ) → IsEntry a → IsEntry b → a ++ x ≡ b ++ y → a ≡ b) (some : IsEntry [] → ⊥) where
    same_blocks : (cs bs : List (List ℕ)) (x y : List ℕ) → AllByRecursion IsEntry cs → AllByRecursion IsEntry bs → NoBlock IsEntry x → NoBlock IsEntry y → blocks cs ++ x ≡ blocks bs ++ y → cs ≡ bs
    same_blocks [] [] x y all all' none none' same = refl
    same_blocks [] (b ∷ bs) x y all all' none none' same = absurd (none b (blocks bs ++ y) all'.0 (same ∙ ap (λ (l : List ℕ). 10 ∷ l) (append_assoc b (blocks bs) y)))
    same_blocks (a ∷ cs) [] x y all all' none none' same = absurd (none' a (blocks cs ++ x) all.0 (sym same ∙ ap (λ (l : List ℕ). 10 ∷ l) (append_assoc a (blocks cs) x)))
    same_blocks (a ∷ cs) (b ∷ bs) x y all all' none none' same =
        let split : a ++ (blocks cs ++ x) ≡ b ++ (blocks bs ++ y) =
        sym (append_assoc a (blocks cs) x) ∙ tail_is 10 10 ((a ++ blocks cs) ++ x) ((b ++ blocks bs) ++ y) same ∙ append_assoc b (blocks bs) y in
        let first : a ≡ b = one a b (blocks cs ++ x) (blocks bs ++ y) all.0 all'.0 split in
        let rest : blocks cs ++ x ≡ blocks bs ++ y = behind a (blocks cs ++ x) (blocks bs ++ y) (split ∙ ap (λ (l : List ℕ). l ++ (blocks bs ++ y)) (sym first)) in
        ap₂ (λ (e : List ℕ) (es : List (List ℕ)). e ∷ es) first (same_blocks cs bs x y all.1 all'.1 none none' rest)

    one_standing : (file : List ℕ) (cs bs : List (List ℕ)) → Stands IsEntry file cs → Stands IsEntry file bs → cs ≡ bs
    one_standing file cs bs p q =
        same_blocks cs bs p.end q.end p.valid q.valid (tail_ends some p.end p.tail) (tail_ends some q.end q.tail)
        (behind first_line (blocks cs ++ p.end) (blocks bs ++ q.end) (sym (append_assoc first_line (blocks cs) p.end) ∙ sym p.split ∙ q.split ∙ append_assoc first_line (blocks bs) q.end))

    -- a front with a tail behind it is what the file stands for
    pub front_stands : (file : List ℕ) (n : ℕ) → (f : IsFront IsEntry file n) → Stands IsEntry file f.entries
    front_stands file n f = record {
      end = drop n file;
      valid = f.valid;
      split = sym (take-append-drop n file) ∙ ap (λ (l : List ℕ). l ++ drop n file) f.front_is;
      tail = f.tail;
    }

    pub is_front : (file : List ℕ) (n : ℕ) (entries : List (List ℕ)) → (f : IsFront IsEntry file n) → Stands IsEntry file entries → take n file ≡ front entries
    is_front file n entries f stands = f.front_is ∙ ap front (one_standing file f.entries entries (front_stands file n f) stands)

    -- a file with a front says what stands in it
    pub says_stands : (file : List ℕ) (n : ℕ) (entries : List (List ℕ)) → IsFront IsEntry file n → Says IsEntry file entries → Stands IsEntry file entries
    says_stands file n entries f (inl stands) = stands
    says_stands file n entries f (inr unmade) =
        let stands = front_stands file n f in
        subst (λ (l : List (List ℕ)). Stands IsEntry file l) (none_in some file f.entries stands unmade.0 ∙ sym unmade.1) stands

    pub one_meaning : OneMeaning IsEntry
    one_meaning file cs bs (inl p) (inl q) = one_standing file cs bs p q
    one_meaning file cs bs (inl p) (inr q) = none_in some file cs p q.0 ∙ sym q.1
    one_meaning file cs bs (inr p) (inl q) = p.1 ∙ sym (none_in some file bs q p.0)
    one_meaning file cs bs (inr p) (inr q) = p.1 ∙ sym q.1

    -- a file that is no journal's says nothing
    pub not_says : (file : List ℕ) (place : ℕ) → IsNoJournalAt IsEntry file place → (entries : List (List ℕ)) → Says IsEntry file entries → ⊥
    not_says file place (at_start is made no_line) entries (inl stands) = not_stands file no_line entries stands
    not_says file place (at_start is made no_line) entries (inr unmade) = made unmade.0
    not_says file place (in_tail es end valid split is none no_tail) entries (inl stands) =
        let end_is : blocks entries ++ stands.end ≡ blocks es ++ end =
        behind first_line (blocks entries ++ stands.end) (blocks es ++ end) (sym (append_assoc first_line (blocks entries) stands.end) ∙ sym stands.split ∙ split ∙ append_assoc first_line (blocks es) end) in
        let same : entries ≡ es = same_blocks entries es stands.end end stands.valid valid (tail_ends some stands.end stands.tail) none end_is in
        no_tail (subst (IsTail IsEntry) (behind (blocks es) stands.end end (ap (λ (l : List (List ℕ)). blocks l ++ stands.end) (sym same) ∙ end_is)) stands.tail)
    not_says file place (in_tail es end valid split is none no_tail) entries (inr unmade) = no_tail (short_tail end (short_behind es end file split unmade.0))
