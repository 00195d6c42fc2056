-- What watches leave of what all may have, and which give way.
use Rattle.std.proofs.Common.{◌≡◌, ℕ, zero, suc, ◌+◌, ◌-◌, ◌<◌, ◌≤◌, ◌==◌, Bool, true, false, cond, not, ◌&&◌, ◌||◌, List, [], ◌∷◌, ◌++◌, map, length, take, get_or, refl, sym, ap, ap₂, subst, ◌∙◌, append_assoc, length-append, arith}
use Rattle.std.specs.Prelude.{Option, Some, None, nat_eq, nat_le, nat_lt, option_map, unwrap_or}
use Rattle.std.specs.List.{AllByRecursion, IsDistinct, filter}
use Rattle.std.specs.Map.{keys_of, remove_entry, values_of}
use Rattle.std.proofs.lemmas.Bool.Decides.{Decides-eqb, nat_tests}
use Rattle.std.proofs.lemmas.List.Sums.{count_by-le-length, length-filter}
use Rattle.std.proofs.lemmas.Map.Keys.{IsDistinct-cons, IsDistinct-head, IsDistinct-tail}
use Rattle.std.proofs.lemmas.Map.Made.{IsDistinct-keys_filter}
use Rattle.ob_watching.specs.Tables.{least, lesser, replace}
use Rattle.ob_watching.specs.Watches.{Room, last_number, max_bytes, max_bytes_in_all, max_items, max_items_in_all, max_watches}
use Rattle.ob_watch.specs.Adding.{is_full_at}
use Rattle.ob_watch.specs.Giving.{IsPart, is_busy, least_idle, sooner}
use Rattle.ob_watch.specs.Items.{bytes_of}
use Rattle.ob_watch.specs.Tables.{AllStandUntil, Leased, Table, bytes_in_all, idlest, is_idle, is_over, items_in_all, lacks_room, lapsed_at, live, new_watch, room_left, with_new, yielded_at, yielding}
use Rattle.ob_watch.proofs.LapseLemmas.{lapses_commute}
use Rattle.ob_watch.proofs.TableLemmas.{Numbered, elsewhere, eq_sym, none_replaced, removed_at, table}

-- ---- sums over watches

abbrev pub sum_of : (Leased → ℕ) → Numbered → ℕ
sum_of g [] = 0
sum_of g (e ∷ es) = g e.1 + sum_of g es

abbrev size : Leased → ℕ
size w = length w.items

abbrev weight : Leased → ℕ
weight w = bytes_of w.items

items_sum : (es : Numbered) → items_in_all es ≡ sum_of size es
items_sum [] = refl
items_sum (e ∷ es) = ap (λ n. length e.1.items + n) (items_sum es)

bytes_sum : (es : Numbered) → bytes_in_all es ≡ sum_of weight es
bytes_sum [] = refl
bytes_sum (e ∷ es) = ap (λ n. bytes_of e.1.items + n) (bytes_sum es)

-- what is left beside one more
abbrev pub less : Room → Leased → Room
less room w = record { items = room.items - length w.items; bytes = room.bytes - bytes_of w.items }

abbrev all_room : Room
all_room = record { items = max_items_in_all; bytes = max_bytes_in_all }

abbrev beside : ℕ → ℕ → Room
beside items bytes = record { items = max_items_in_all - items; bytes = max_bytes_in_all - bytes }

room_of : (es : Numbered) → room_left es ≡ beside (sum_of size es) (sum_of weight es)
room_of es = ap₂ beside (items_sum es) (bytes_sum es)

less_of : (items bytes : ℕ) (w : Leased) → less (beside items bytes) w ≡ beside (items + length w.items) (bytes + bytes_of w.items)
less_of items bytes w =
    let a : max_items_in_all - items - length w.items ≡ max_items_in_all - (items + length w.items) = omega arith in
    let b : max_bytes_in_all - bytes - bytes_of w.items ≡ max_bytes_in_all - (bytes + bytes_of w.items) = omega arith in
    λ i. record { items = a i; bytes = b i }

sum_push : (g : Leased → ℕ) (es : Numbered) (e : ℕ × Leased) → sum_of g (es ++ e ∷ []) ≡ sum_of g es + g e.1
sum_push g [] e = omega arith
sum_push g (x ∷ xs) e = let rest = sum_push g xs e in omega (arith, rest)

-- a sum over values, the next one added
abbrev pub sum_values : (Leased → ℕ) → List Leased → ℕ
sum_values g [] = 0
sum_values g (w ∷ ws) = g w + sum_values g ws

values_sum : (g : Leased → ℕ) (es : Numbered) (ws : List Leased) → map (λ e. e.1) es ≡ ws → sum_values g ws ≡ sum_of g es
values_sum g es ws is = ap (sum_values g) (sym is) ∙ go es
  where
    go : (xs : Numbered) → sum_values g (map (λ e. e.1) xs) ≡ sum_of g xs
    go [] = refl
    go (x ∷ xs) = ap (λ n. g x.1 + n) (go xs)

sum_next : (g : Leased → ℕ) (ws : List Leased) (k : ℕ) (w : Leased) → k < length ws → w ≡ get_or ws k w → sum_values g (take (k + 1) ws) ≡ sum_values g (take k ws) + g w
sum_next g [] k w lt at = absurd (omega arith)
sum_next g (x ∷ xs) zero w lt at = ap (λ (v : Leased). g v + 0) (sym at) ∙ (let e : g w + 0 ≡ 0 + g w = omega arith in e)
sum_next g (x ∷ xs) (suc k) w lt at =
    let next : suc k + 1 ≡ suc (k + 1) = omega arith in
    ap (λ n. sum_values g (take n (x ∷ xs))) next
    ∙ ap (λ n. g x + n) (sum_next g xs k w (omega arith) at)
    ∙ (let e : g x + (sum_values g (take k xs) + g w) ≡ g x + sum_values g (take k xs) + g w = omega arith in e)

abbrev pub room_values : List Leased → Room
room_values ws = beside (sum_values size ws) (sum_values weight ws)

pub room_values_next : (ws : List Leased) (k : ℕ) (w : Leased) (room next : Room) → k < length ws → w ≡ get_or ws k w → room ≡ room_values (take k ws) → next ≡ less room w → next ≡ room_values (take (k + 1) ws)
room_values_next ws k w room next lt at so left =
    left ∙ ap (λ (r : Room). less r w) so ∙ less_of (sum_values size (take k ws)) (sum_values weight (take k ws)) w
    ∙ ap₂ beside (sym (sum_next size ws k w lt at)) (sym (sum_next weight ws k w lt at))

take_whole : {A : Type 0} (xs : List A) (n : ℕ) → length xs ≤ n → take n xs ≡ xs
take_whole [] zero le = refl
take_whole [] (suc n) le = refl
take_whole (x ∷ xs) zero le = absurd (omega arith)
take_whole (x ∷ xs) (suc n) le = ap (λ ys. x ∷ ys) (take_whole xs n (omega arith))

pub room_values_end : (ws : List Leased) (k : ℕ) (room : Room) → length ws ≤ k → room ≡ room_values (take k ws) → (es : Numbered) → map (λ e. e.1) es ≡ ws → room ≡ room_left es
room_values_end ws k room end so es is =
    so ∙ ap room_values (take_whole ws k end) ∙ ap₂ beside (values_sum size es ws is) (values_sum weight es ws is) ∙ sym (room_of es)

-- ---- what the others leave

module _ (n now : ℕ) where
  abbrev pub others : Numbered → Numbered
  others es = replace n None (live now es)

  abbrev pub is_out : ℕ → Leased → Bool
  is_out k w = (k == n) || is_over now w

  one_other : (g : Leased → ℕ) (e : ℕ × Leased) (xs : Numbered) → sum_of g (replace n None (cond (not (is_over now e.1)) (e ∷ xs) xs)) ≡ cond (is_out e.0 e.1) 0 (g e.1) + sum_of g (replace n None xs)
  one_other g e xs = go (e.0 == n) refl (is_over now e.1)
    where
      plain : sum_of g (replace n None xs) ≡ 0 + sum_of g (replace n None xs)
      plain = omega arith

      go : (a : Bool) → (e.0 == n) ≡ a → (b : Bool) → sum_of g (replace n None (cond (not b) (e ∷ xs) xs)) ≡ cond (a || b) 0 (g e.1) + sum_of g (replace n None xs)
      go true is true = plain
      go true is false = ap (λ c. sum_of g (cond c (replace n None xs) (e ∷ replace n None xs))) is ∙ plain
      go false is true = plain
      go false is false = ap (λ c. sum_of g (cond c (replace n None xs) (e ∷ replace n None xs))) is

  others_next : (g : Leased → ℕ) (es : Numbered) (k m : ℕ) (w d : Leased) → k < length es → m ≡ get_or (keys_of es) k 0 → w ≡ get_or (values_of es) k d
      → sum_of g (others (take (k + 1) es)) ≡ sum_of g (others (take k es)) + cond (is_out m w) 0 (g w)
  others_next g [] k m w d lt key value = absurd (omega arith)
  others_next g (e ∷ es) zero m w d lt key value =
      let one : take (0 + 1) (e ∷ es) ≡ e ∷ [] = refl in
      ap (λ (xs : Numbered). sum_of g (others xs)) one
      ∙ one_other g e []
      ∙ ap₂ (λ (j : ℕ) (v : Leased). cond (is_out j v) 0 (g v) + 0) (sym key) (sym value)
      ∙ (let a : cond (is_out m w) 0 (g w) + 0 ≡ 0 + cond (is_out m w) 0 (g w) = omega arith in a)
  others_next g (e ∷ es) (suc k) m w d lt key value =
      let next : suc k + 1 ≡ suc (k + 1) = omega arith in
      ap (λ j. sum_of g (others (take j (e ∷ es)))) next
      ∙ one_other g e (live now (take (k + 1) es))
      ∙ ap (λ j. cond (is_out e.0 e.1) 0 (g e.1) + j) (others_next g es k m w d (omega arith) key value)
      ∙ (let a : cond (is_out e.0 e.1) 0 (g e.1) + (sum_of g (others (take k es)) + cond (is_out m w) 0 (g w)) ≡ cond (is_out e.0 e.1) 0 (g e.1) + sum_of g (others (take k es)) + cond (is_out m w) 0 (g w) = omega arith in a)
      ∙ ap (λ j. j + cond (is_out m w) 0 (g w)) (sym (one_other g e (live now (take k es))))

  pub room_next : (es : Numbered) (k m : ℕ) (w d : Leased) (room next : Room) → k < length es → m ≡ get_or (keys_of es) k 0 → w ≡ get_or (values_of es) k d
      → room ≡ room_left (others (take k es)) → next ≡ cond (is_out m w) room (less room w) → next ≡ room_left (others (take (k + 1) es))
  room_next es k m w d room next lt key value so left =
      left ∙ ap (λ (r : Room). cond (is_out m w) r (less r w)) (so ∙ room_of (others (take k es)))
      ∙ go (sum_of size (others (take k es))) (sum_of weight (others (take k es))) (is_out m w)
      ∙ ap₂ beside (sym (others_next size es k m w d lt key value)) (sym (others_next weight es k m w d lt key value))
      ∙ sym (room_of (others (take (k + 1) es)))
    where
      go : (items bytes : ℕ) (b : Bool) → cond b (beside items bytes) (less (beside items bytes) w) ≡ beside (items + cond b 0 (length w.items)) (bytes + cond b 0 (bytes_of w.items))
      go items bytes true = ap₂ beside (let a : items ≡ items + 0 = omega arith in a) (let a : bytes ≡ bytes + 0 = omega arith in a)
      go items bytes false = less_of items bytes w

  pub room_end : (es : Numbered) (k : ℕ) (room : Room) → length es ≤ k → room ≡ room_left (others (take k es)) → room ≡ room_left (others es)
  room_end es k room end so = so ∙ ap (λ (xs : Numbered). room_left (others xs)) (take_whole es k end)

-- ---- room for one more watch

length_push : {A : Type 0} (xs : List A) (x : A) → length (xs ++ x ∷ []) ≡ length xs + 1
length_push [] x = refl
length_push (y ∷ ys) x = let rest = length_push ys x in omega (arith, rest)

-- a new watch takes none
room_pushed : (ws : Numbered) (number now : ℕ) → room_left (ws ++ (number, new_watch now) ∷ []) ≡ room_left ws
room_pushed ws number now =
    room_of (ws ++ (number, new_watch now) ∷ [])
    ∙ ap₂ beside (sum_push size ws (number, new_watch now) ∙ (let a : sum_of size ws + 0 ≡ sum_of size ws = omega arith in a)) (sum_push weight ws (number, new_watch now) ∙ (let a : sum_of weight ws + 0 ≡ sum_of weight ws = omega arith in a))
    ∙ sym (room_of ws)

lacks_beside : (ws held : Numbered) (number now long : ℕ) (room : Room) (b : Bool) → held ≡ ws ++ (number, new_watch now) ∷ [] → long ≡ length held → room ≡ room_left held
    → b ≡ (nat_lt 1000 long || (nat_lt room.items max_items || nat_lt room.bytes max_bytes)) → b ≡ lacks_room ws
lacks_beside ws held number now long room b is counted left told =
    told
    ∙ ap₂ (λ (a : Bool) (r : Room). a || (nat_lt r.items max_items || nat_lt r.bytes max_bytes)) (ap (nat_lt 1000) (counted ∙ ap length is ∙ length_push ws (number, new_watch now)) ∙ one (length ws))
    (left ∙ ap room_left is ∙ room_pushed ws number now)
  where
    one : (n : ℕ) → nat_lt 1000 (n + 1) ≡ nat_le 1000 n
    one n = grind (arith, nat_tests)

pub lacks_long : (ws held : Numbered) (number now long : ℕ) → held ≡ ws ++ (number, new_watch now) ∷ [] → long ≡ length held → 1000 < long → true ≡ lacks_room ws
lacks_long ws held number now long is counted lt =
    let over : nat_lt 1000 long ≡ true = grind (arith, nat_tests) in
    lacks_beside ws held number now long (room_left held) true is counted refl
    (sym (ap (λ (a : Bool). a || (nat_lt (room_left held).items max_items || nat_lt (room_left held).bytes max_bytes)) over))

pub lacks_short : (ws held : Numbered) (number now long : ℕ) → held ≡ ws ++ (number, new_watch now) ∷ [] → long ≡ length held → long ≤ 1000 → (room : Room) → room ≡ room_left held
    → (b : Bool) → b ≡ (nat_lt room.items max_items || nat_lt room.bytes max_bytes) → b ≡ lacks_room ws
lacks_short ws held number now long is counted le room left b told =
    let few : nat_lt 1000 long ≡ false = grind (arith, nat_tests) in
    lacks_beside ws held number now long room b is counted left
    (told ∙ sym (ap (λ (a : Bool). a || (nat_lt room.items max_items || nat_lt room.bytes max_bytes)) few))

-- ---- the idlest

abbrev pub idle_ones : ℕ → Numbered → Numbered
idle_ones now ws = filter (λ e. is_idle now e.1) ws

abbrev touched_of : Leased → ℕ
touched_of w = w.touched

abbrev later_of : Option (ℕ × Leased) → ℕ × Leased → ℕ × Leased
later_of None e = e
later_of (Some b) e = cond (nat_le b.1.touched e.1.touched) b e

least_push : (es : Numbered) (e : ℕ × Leased) → least touched_of (es ++ e ∷ []) ≡ Some (later_of (least touched_of es) e)
least_push [] e = refl
least_push (x ∷ xs) e = ap (λ (o : Option (ℕ × Leased)). Some (lesser touched_of x o)) (least_push xs e) ∙ ap Some (go (least touched_of xs))
  where
    two : (a b : ℕ × Leased) (p q : Bool) → p ≡ not q → cond p a b ≡ cond q b a
    two a b true true is = absurd (let no : true ≡ false = is in cc)
    two a b true false is = refl
    two a b false true is = refl
    two a b false false is = absurd (let no : false ≡ true = is in cc)

    go : (o : Option (ℕ × Leased)) → lesser touched_of x (Some (later_of o e)) ≡ later_of (Some (lesser touched_of x o)) e
    go None = two e x (nat_lt e.1.touched x.1.touched) (nat_le x.1.touched e.1.touched) (grind (arith, nat_tests))
    go (Some b) = each (nat_le b.1.touched e.1.touched) refl (nat_lt b.1.touched x.1.touched) refl
      where
        each : (c : Bool) → nat_le b.1.touched e.1.touched ≡ c → (d : Bool) → nat_lt b.1.touched x.1.touched ≡ d
            → (let y : ℕ × Leased = cond c b e in cond (nat_lt y.1.touched x.1.touched) y x) ≡ (let z : ℕ × Leased = cond d b x in cond (nat_le z.1.touched e.1.touched) z e)
        each true le true lt = ap (λ p. cond p b x) lt ∙ sym (ap (λ p. cond p b e) le)
        each true le false lt = ap (λ p. cond p b x) lt ∙ sym (ap (λ p. cond p x e) (let all : nat_le x.1.touched e.1.touched ≡ true = grind (arith, nat_tests) in all))
        each false le true lt = ap (λ p. cond p e x) (let all : nat_lt e.1.touched x.1.touched ≡ true = grind (arith, nat_tests) in all) ∙ sym (ap (λ p. cond p b e) le)
        each false le false lt = two e x (nat_lt e.1.touched x.1.touched) (nat_le x.1.touched e.1.touched) (grind (arith, nat_tests))

abbrev pub pair_of : ℕ × Leased → ℕ × ℕ
pair_of e = (e.0, e.1.touched)

abbrev pub found_idle : ℕ → Numbered → Option (ℕ × ℕ)
found_idle now es = option_map pair_of (least touched_of (idle_ones now es))

filter_push : (p : ℕ × Leased → Bool) (es : Numbered) (e : ℕ × Leased) → filter p (es ++ e ∷ []) ≡ filter p es ++ cond (p e) (e ∷ []) []
filter_push p [] e = refl
filter_push p (x ∷ xs) e = go (p x) (filter_push p xs e)
  where
    go : (b : Bool) → filter p (xs ++ e ∷ []) ≡ filter p xs ++ cond (p e) (e ∷ []) [] → cond b (x ∷ filter p (xs ++ e ∷ [])) (filter p (xs ++ e ∷ [])) ≡ cond b (x ∷ filter p xs) (filter p xs) ++ cond (p e) (e ∷ []) []
    go true rest = ap (λ (ys : Numbered). x ∷ ys) rest
    go false rest = rest

append-none : (xs : Numbered) → xs ++ [] ≡ xs
append-none [] = refl
append-none (x ∷ xs) = ap (λ (ys : Numbered). x ∷ ys) (append-none xs)

pair_later : (o : Option (ℕ × Leased)) (e : ℕ × Leased) → pair_of (later_of o e) ≡ sooner (option_map pair_of o) (pair_of e)
pair_later None e = refl
pair_later (Some b) e = go (nat_le b.1.touched e.1.touched)
  where
    go : (c : Bool) → pair_of (cond c b e) ≡ cond c (pair_of b) (pair_of e)
    go true = refl
    go false = refl

idle_push : (now : ℕ) (es : Numbered) (e : ℕ × Leased) → found_idle now (es ++ e ∷ []) ≡ least_idle now (found_idle now es) e
idle_push now es e =
    ap (λ (xs : Numbered). option_map pair_of (least touched_of xs)) (filter_push (λ x. is_idle now x.1) es e) ∙ go (is_idle now e.1)
  where
    go : (c : Bool) → option_map pair_of (least touched_of (idle_ones now es ++ cond c (e ∷ []) [])) ≡ cond c (Some (sooner (found_idle now es) (pair_of e))) (found_idle now es)
    go true = ap (option_map pair_of) (least_push (idle_ones now es) e) ∙ ap Some (pair_later (least touched_of (idle_ones now es)) e)
    go false = ap (λ (xs : Numbered). option_map pair_of (least touched_of xs)) (append-none (idle_ones now es))

take_next : (es : Numbered) (k m : ℕ) (w d : Leased) → k < length es → m ≡ get_or (keys_of es) k 0 → w ≡ get_or (values_of es) k d → take (k + 1) es ≡ take k es ++ (m, w) ∷ []
take_next [] k m w d lt key value = absurd (omega arith)
take_next (e ∷ es) zero m w d lt key value =
    let one : take (0 + 1) (e ∷ es) ≡ e ∷ [] = refl in
    one ∙ ap₂ (λ (j : ℕ) (v : Leased). (j, v) ∷ []) (sym key) (sym value)
take_next (e ∷ es) (suc k) m w d lt key value =
    let next : suc k + 1 ≡ suc (k + 1) = omega arith in
    ap (λ j. take j (e ∷ es)) next ∙ ap (λ (xs : Numbered). e ∷ xs) (take_next es k m w d (omega arith) key value)

-- the first so many and the next
pub idle_next : (now : ℕ) (es : Numbered) (k m : ℕ) (w d : Leased) (found next : Option (ℕ × ℕ)) → k < length es → m ≡ get_or (keys_of es) k 0 → w ≡ get_or (values_of es) k d
    → found ≡ found_idle now (take k es) → next ≡ least_idle now found (m, w) → next ≡ found_idle now (take (k + 1) es)
idle_next now es k m w d found next lt key value so is =
    is ∙ ap (λ (o : Option (ℕ × ℕ)). least_idle now o (m, w)) so ∙ sym (idle_push now (take k es) (m, w)) ∙ sym (ap (found_idle now) (take_next es k m w d lt key value))

first_of : (o : Option (ℕ × Leased)) → option_map (λ e. e.0) o ≡ option_map (λ p. p.0) (option_map pair_of o)
first_of None = refl
first_of (Some e) = refl

pub idlest_end : (now : ℕ) (es : Numbered) (k : ℕ) (found : Option (ℕ × ℕ)) → length es ≤ k → found ≡ found_idle now (take k es) → option_map (λ p. p.0) found ≡ idlest now es
idlest_end now es k found end so =
    ap (option_map (λ p. p.0)) (so ∙ ap (found_idle now) (take_whole es k end)) ∙ sym (first_of (least touched_of (idle_ones now es)))

-- the new watch isn't idle
fresh : (now : ℕ) → is_idle now (new_watch now) ≡ false
fresh now = grind (arith, nat_tests)

pub idlest_pushed : (now : ℕ) (ws : Numbered) (number : ℕ) → idlest now (ws ++ (number, new_watch now) ∷ []) ≡ idlest now ws
idlest_pushed now ws number =
    ap (λ (xs : Numbered). option_map (λ e. e.0) (least touched_of xs))
    (filter_push (λ x. is_idle now x.1) ws (number, new_watch now) ∙ ap (λ c. idle_ones now ws ++ cond c ((number, new_watch now) ∷ []) []) (fresh now) ∙ append-none (idle_ones now ws))

-- ---- where it stands

record Splits {A : Type 0} (e : A) (xs : List A) : Type 0 where
  front : List A
  back : List A
  is : xs ≡ front ++ e ∷ back

split_more : {A : Type 0} (x e : A) (xs : List A) → Splits e xs → Splits e (x ∷ xs)
split_more x e xs s = record { front = x ∷ s.front; back = s.back; is = ap (λ ys. x ∷ ys) s.is }

least_there : (es : Numbered) (e : ℕ × Leased) → least touched_of es ≡ Some e → Splits e es
least_there [] e is = absurd (let no : None ≡ Some e = is in cc)
least_there (x ∷ xs) e is = go (least touched_of xs) refl is (least_there xs e)
  where
    go : (o : Option (ℕ × Leased)) → least touched_of xs ≡ o → Some (lesser touched_of x o) ≡ Some e → (least touched_of xs ≡ Some e → Splits e xs) → Splits e (x ∷ xs)
    go None rest is further = record { front = []; back = xs; is = ap (λ (y : ℕ × Leased). y ∷ xs) (let same : x ≡ e = cc in same) }
    go (Some y) rest is further = either (nat_lt y.1.touched x.1.touched) is
      where
        either : (b : Bool) → Some (cond b y x) ≡ Some e → Splits e (x ∷ xs)
        either true is = split_more x e xs (further (rest ∙ is))
        either false is = record { front = []; back = xs; is = ap (λ (y : ℕ × Leased). y ∷ xs) (let same : x ≡ e = cc in same) }

record SplitsOne (p : ℕ × Leased → Bool) (e : ℕ × Leased) (xs : Numbered) : Type 0 where
  split : Splits e xs
  passes : p e ≡ true

filter_there : (p : ℕ × Leased → Bool) (e : ℕ × Leased) (xs : Numbered) → Splits e (filter p xs) → SplitsOne p e xs
filter_there p e [] s = absurd (none s.front s.is)
  where
    none : (f : Numbered) → [] ≡ f ++ e ∷ s.back → ⊥
    none [] is = let no : [] ≡ e ∷ s.back = is in cc
    none (y ∷ ys) is = let no : [] ≡ y ∷ (ys ++ e ∷ s.back) = is in cc
filter_there p e (x ∷ xs) s = go (p x) refl s.front s.is (filter_there p e xs)
  where
    go : (b : Bool) → p x ≡ b → (f : Numbered) → cond b (x ∷ filter p xs) (filter p xs) ≡ f ++ e ∷ s.back → (Splits e (filter p xs) → SplitsOne p e xs) → SplitsOne p e (x ∷ xs)
    go true has [] is rest =
        let same : x ≡ e = cc in
        record { split = record { front = []; back = xs; is = ap (λ (y : ℕ × Leased). y ∷ xs) same }; passes = ap p (sym same) ∙ has }
    go true has (y ∷ ys) is rest =
        let more : filter p xs ≡ ys ++ e ∷ s.back = cc in
        let one = rest (record { front = ys; back = s.back; is = more }) in
        record { split = split_more x e xs one.split; passes = one.passes }
    go false has f is rest =
        let one = rest (record { front = f; back = s.back; is = is }) in
        record { split = split_more x e xs one.split; passes = one.passes }

-- the idlest of a number
record Idlest (now n : ℕ) (ws : Numbered) : Type 0 where
  entry : ℕ × Leased
  number : entry.0 ≡ n
  idle : is_idle now entry.1 ≡ true
  front : Numbered
  back : Numbered
  is : ws ≡ front ++ entry ∷ back

idlest_there : (now n : ℕ) (ws : Numbered) → idlest now ws ≡ Some n → Idlest now n ws
idlest_there now n ws is = go (least touched_of (idle_ones now ws)) refl is
  where
    go : (o : Option (ℕ × Leased)) → least touched_of (idle_ones now ws) ≡ o → option_map (λ e. e.0) o ≡ Some n → Idlest now n ws
    go None found is = absurd (let no : None ≡ Some n = is in cc)
    go (Some e) found is =
        let one = filter_there (λ x. is_idle now x.1) e ws (least_there (idle_ones now ws) e found) in
        record { entry = e; number = (let same : e.0 ≡ n = cc in same); idle = one.passes; front = one.split.front; back = one.split.back; is = one.split.is }

-- the entry of a number taken out of distinct ones
distinct_other : (x e : ℕ × Leased) (f b : Numbered) → AllByRecursion (λ k. nat_eq x.0 k ≡ false) (keys_of (f ++ e ∷ b)) → nat_eq x.0 e.0 ≡ false
distinct_other x e [] b all = all.0
distinct_other x e (y ∷ ys) b all = distinct_other x e ys b all.1

pub split_removed : (e : ℕ × Leased) (f b : Numbered) → IsDistinct nat_eq (keys_of (f ++ e ∷ b)) → replace e.0 None (f ++ e ∷ b) ≡ f ++ b
split_removed e [] b distinct =
    ap (λ c. cond c (replace e.0 None b) (e ∷ replace e.0 None b)) ((Decides-eqb e.0 e.0).1 refl)
    ∙ none_replaced e.0 None b (elsewhere e.0 b (IsDistinct-head nat_eq e.0 (keys_of b) distinct))
split_removed e (x ∷ f) b distinct =
    let other : nat_eq x.0 e.0 ≡ false = distinct_other x e f b (IsDistinct-head nat_eq x.0 (keys_of (f ++ e ∷ b)) distinct) in
    let apart : (x.0 == e.0) ≡ false = sym (eq_sym e.0 x.0) ∙ not_same e.0 x.0 other in
    ap (λ c. cond c (replace e.0 None (f ++ e ∷ b)) (x ∷ replace e.0 None (f ++ e ∷ b))) apart
    ∙ ap (λ (xs : Numbered). x ∷ xs) (split_removed e f b (IsDistinct-tail nat_eq x.0 (keys_of (f ++ e ∷ b)) distinct))
  where
    not_same : (a c : ℕ) → nat_eq c a ≡ false → nat_eq a c ≡ false
    not_same a c differ = eq_sym a c ∙ differ

distinct_none : (es : Numbered) → IsDistinct nat_eq (keys_of es) → IsDistinct nat_eq []
distinct_none [] distinct = distinct
distinct_none (e ∷ es) distinct = distinct_none es (IsDistinct-tail nat_eq e.0 (keys_of es) distinct)

-- the first ones of distinct ones
distinct_front : (f last : Numbered) → IsDistinct nat_eq (keys_of (f ++ last)) → IsDistinct nat_eq (keys_of f)
distinct_front [] last distinct = distinct_none last distinct
distinct_front (x ∷ f) last distinct =
    IsDistinct-cons nat_eq x.0 (keys_of f) (head f (IsDistinct-head nat_eq x.0 (keys_of (f ++ last)) distinct)) (distinct_front f last (IsDistinct-tail nat_eq x.0 (keys_of (f ++ last)) distinct))
  where
    head : (g : Numbered) → AllByRecursion (λ k. nat_eq x.0 k ≡ false) (keys_of (g ++ last)) → AllByRecursion (λ k. nat_eq x.0 k ≡ false) (keys_of g)
    head [] all = tt
    head (y ∷ g) all = (all.0, head g all.1)

-- ---- as many as stay

abbrev stays : ℕ → ℕ × Leased → Bool
stays now e = not (is_idle now e.1)

filter_append : (p : ℕ × Leased → Bool) (f b : Numbered) → filter p (f ++ b) ≡ filter p f ++ filter p b
filter_append p [] b = refl
filter_append p (x ∷ f) b = go (p x) (filter_append p f b)
  where
    go : (c : Bool) → filter p (f ++ b) ≡ filter p f ++ filter p b → cond c (x ∷ filter p (f ++ b)) (filter p (f ++ b)) ≡ cond c (x ∷ filter p f) (filter p f) ++ filter p b
    go true rest = ap (λ (ys : Numbered). x ∷ ys) rest
    go false rest = rest

-- one that gives way isn't among those that stay
same_staying : (now : ℕ) (e : ℕ × Leased) (f b : Numbered) → is_idle now e.1 ≡ true → filter (stays now) (f ++ e ∷ b) ≡ filter (stays now) (f ++ b)
same_staying now e f b idle =
    filter_append (stays now) f (e ∷ b)
    ∙ ap (λ c. filter (stays now) f ++ cond (not c) (e ∷ filter (stays now) b) (filter (stays now) b)) idle
    ∙ sym (filter_append (stays now) f b)

none_idle : (now : ℕ) (ws : Numbered) → idlest now ws ≡ None → filter (stays now) ws ≡ ws
none_idle now ws is = go ws (empty (idle_ones now ws) is)
  where
    empty : (es : Numbered) → option_map (λ e. e.0) (least touched_of es) ≡ None → es ≡ []
    empty [] is = refl
    empty (e ∷ es) is = absurd (let no : Some (lesser touched_of e (least touched_of es)).0 ≡ None = is in cc)

    go : (es : Numbered) → idle_ones now es ≡ [] → filter (stays now) es ≡ es
    go [] none = refl
    go (e ∷ es) none = each (is_idle now e.1) none (go es)
      where
        each : (c : Bool) → cond c (e ∷ idle_ones now es) (idle_ones now es) ≡ [] → (idle_ones now es ≡ [] → filter (stays now) es ≡ es) → cond (not c) (e ∷ filter (stays now) es) (filter (stays now) es) ≡ e ∷ es
        each true none rest = absurd (let no : e ∷ idle_ones now es ≡ [] = none in cc)
        each false none rest = ap (λ (xs : Numbered). e ∷ xs) (rest none)

few_staying : (now : ℕ) (ws : Numbered) → length (filter (stays now) ws) ≤ length ws
few_staying now ws = subst (λ (n : ℕ). n ≤ length ws) (sym (length-filter (stays now) ws)) (count_by-le-length (stays now) ws)

has_room : (a b : Bool) → (a || b) ≡ false → a ≡ false
has_room true b is = absurd (let no : true ≡ false = is in cc)
has_room false b is = refl

distinct_less : (e : ℕ × Leased) (f b : Numbered) → IsDistinct nat_eq (keys_of (f ++ e ∷ b)) → IsDistinct nat_eq (keys_of (f ++ b))
distinct_less e [] b distinct = IsDistinct-tail nat_eq e.0 (keys_of b) distinct
distinct_less e (x ∷ f) b distinct = IsDistinct-cons nat_eq x.0 (keys_of (f ++ b)) (head f (IsDistinct-head nat_eq x.0 (keys_of (f ++ e ∷ b)) distinct)) (distinct_less e f b (IsDistinct-tail nat_eq x.0 (keys_of (f ++ e ∷ b)) distinct))
  where
    head : (g : Numbered) → AllByRecursion (λ k. nat_eq x.0 k ≡ false) (keys_of (g ++ e ∷ b)) → AllByRecursion (λ k. nat_eq x.0 k ≡ false) (keys_of (g ++ b))
    head [] all = all.1
    head (y ∷ g) all = (all.0, head g all.1)

pub full_yielding : (most now : ℕ) (ws : Numbered) → IsDistinct nat_eq (keys_of ws) → length ws ≤ most → nat_le max_watches (length (yielding most now ws)) ≡ nat_le max_watches (length (filter (stays now) ws))
full_yielding zero now [] distinct le = refl
full_yielding zero now (w ∷ ws) distinct le = absurd (omega arith)
full_yielding (suc most) now ws distinct le = go (lacks_room ws) refl (idlest now ws) refl (full_yielding most now)
  where
    go : (b : Bool) → lacks_room ws ≡ b → (o : Option ℕ) → idlest now ws ≡ o
        → ((vs : Numbered) → IsDistinct nat_eq (keys_of vs) → length vs ≤ most → nat_le max_watches (length (yielding most now vs)) ≡ nat_le max_watches (length (filter (stays now) vs)))
        → nat_le max_watches (length (cond b (unwrap_or (option_map (λ n. yielding most now (replace n None ws)) o) ws) ws)) ≡ nat_le max_watches (length (filter (stays now) ws))
    go false room o is rest =
        let few = few_staying now ws in
        let under : nat_le max_watches (length ws) ≡ false = has_room (nat_le max_watches (length ws)) (nat_lt (room_left ws).items max_items || nat_lt (room_left ws).bytes max_bytes) room in
        let less : nat_le max_watches (length (filter (stays now) ws)) ≡ false = grind (arith, nat_tests) in
        under ∙ sym less
    go true lacks None is rest = ap (λ (xs : Numbered). nat_le max_watches (length xs)) (sym (none_idle now ws is))
    go true lacks (Some n) is rest =
        let one = idlest_there now n ws is in
        let apart : IsDistinct nat_eq (keys_of (one.front ++ one.entry ∷ one.back)) = subst (λ (xs : Numbered). IsDistinct nat_eq (keys_of xs)) one.is distinct in
        let left : replace n None ws ≡ one.front ++ one.back = ap₂ (λ (k : ℕ) (xs : Numbered). replace k None xs) (sym one.number) one.is ∙ split_removed one.entry one.front one.back apart in
        let long : length ws ≡ length one.front + suc (length one.back) = ap length one.is ∙ length-append one.front (one.entry ∷ one.back) in
        let short : length (one.front ++ one.back) ≡ length one.front + length one.back = length-append one.front one.back in
        ap (λ (xs : Numbered). nat_le max_watches (length (yielding most now xs))) left
        ∙ rest (one.front ++ one.back) (distinct_less one.entry one.front one.back apart) (omega (arith, long, short))
        ∙ ap (λ (xs : Numbered). nat_le max_watches (length xs)) (sym (same_staying now one.entry one.front one.back one.idle) ∙ ap (filter (stays now)) (sym one.is))

-- live ones that stay
pub busy_live : (now : ℕ) (ws : Numbered) → filter (stays now) (live now ws) ≡ filter (λ e. is_busy now e.1) ws
busy_live now [] = refl
busy_live now (w ∷ ws) = go (is_over now w.1) (busy_live now ws)
  where
    go : (b : Bool) → filter (stays now) (live now ws) ≡ filter (λ e. is_busy now e.1) ws
        → filter (stays now) (cond (not b) (w ∷ live now ws) (live now ws)) ≡ cond (not b && not (is_idle now w.1)) (w ∷ filter (λ e. is_busy now e.1) ws) (filter (λ e. is_busy now e.1) ws)
    go true rest = rest
    go false rest = ap (λ (xs : Numbered). cond (not (is_idle now w.1)) (w ∷ xs) xs) rest

-- ---- one gives way to the last

abbrev pub new_entry : ℕ → ℕ → ℕ × Leased
new_entry number now = (number, new_watch now)

-- The watches that are held, without those that gave way so far: so many more give way, and then they are what is left of these.
pub record Gives (most now number : ℕ) (ws held : Numbered) : Type 0 where
  pub now_held : Numbered
  pub is : held ≡ now_held ++ new_entry number now ∷ []
  pub fuel : ℕ
  pub rounds : most + fuel ≡ length ws
  pub same : yielding fuel now now_held ≡ yielding (length ws) now ws

pub gives_first : (now number : ℕ) (ws held : Numbered) → held ≡ ws ++ new_entry number now ∷ [] → Gives 0 now number ws held
gives_first now number ws held is = record { now_held = ws; is = is; fuel = length ws; rounds = omega arith; same = refl }

module _ (most now number : ℕ) (ws held : Numbered) (g : Gives most now number ws held) where
  -- there is room
  pub gives_room : lacks_room g.now_held ≡ false → held ≡ yielding (length ws) now ws ++ new_entry number now ∷ []
  gives_room room = g.is ∙ ap (λ (xs : Numbered). xs ++ new_entry number now ∷ []) (sym (go g.fuel) ∙ g.same)
    where
      go : (n : ℕ) → yielding n now g.now_held ≡ g.now_held
      go zero = refl
      go (suc n) = ap (λ b. cond b (unwrap_or (option_map (λ k. yielding n now (replace k None g.now_held)) (idlest now g.now_held)) g.now_held) g.now_held) room

  -- none is idle
  pub gives_none : idlest now held ≡ None → held ≡ yielding (length ws) now ws ++ new_entry number now ∷ []
  gives_none none = g.is ∙ ap (λ (xs : Numbered). xs ++ new_entry number now ∷ []) (sym (go g.fuel) ∙ g.same)
    where
      is_none : idlest now g.now_held ≡ None
      is_none = sym (idlest_pushed now g.now_held number) ∙ sym (ap (idlest now) g.is) ∙ none

      go : (n : ℕ) → yielding n now g.now_held ≡ g.now_held
      go zero = refl
      go (suc n) =
          ap (λ (o : Option ℕ). cond (lacks_room g.now_held) (unwrap_or (option_map (λ k. yielding n now (replace k None g.now_held)) o) g.now_held) g.now_held) is_none ∙ either (lacks_room g.now_held)
        where
          either : (b : Bool) → cond b g.now_held g.now_held ≡ g.now_held
          either true = refl
          either false = refl

  -- after the last round
  pub gives_end : length ws ≤ most → held ≡ yielding (length ws) now ws ++ new_entry number now ∷ []
  gives_end end = g.is ∙ ap (λ (xs : Numbered). xs ++ new_entry number now ∷ []) (ap (λ n. yielding n now g.now_held) (let none : 0 ≡ g.fuel = omega (arith, end, g.rounds) in none) ∙ g.same)

  -- one more gives way
  pub gives_one : (n : ℕ) (after : Numbered) → most < length ws → IsDistinct nat_eq (keys_of held) → lacks_room g.now_held ≡ true → idlest now held ≡ Some n → after ≡ replace n None held → Gives (most + 1) now number ws after
  gives_one n after lt distinct lacks found left = go g.fuel g.rounds g.same
    where
      one : Idlest now n g.now_held
      one = idlest_there now n g.now_held (sym (idlest_pushed now g.now_held number) ∙ sym (ap (idlest now) g.is) ∙ found)

      joined : held ≡ one.front ++ one.entry ∷ (one.back ++ new_entry number now ∷ [])
      joined = g.is ∙ ap (λ (xs : Numbered). xs ++ new_entry number now ∷ []) one.is ∙ append_assoc one.front (one.entry ∷ one.back) (new_entry number now ∷ [])

      apart : IsDistinct nat_eq (keys_of (one.front ++ one.entry ∷ (one.back ++ new_entry number now ∷ [])))
      apart = subst (λ (xs : Numbered). IsDistinct nat_eq (keys_of xs)) joined distinct

      rest : replace n None held ≡ (one.front ++ one.back) ++ new_entry number now ∷ []
      rest =
          ap₂ (λ (k : ℕ) (xs : Numbered). replace k None xs) (sym one.number) joined ∙ split_removed one.entry one.front (one.back ++ new_entry number now ∷ []) apart ∙ sym (append_assoc one.front one.back (new_entry number now ∷ []))

      own : (f b : Numbered) → IsDistinct nat_eq (keys_of (f ++ one.entry ∷ (b ++ new_entry number now ∷ []))) → IsDistinct nat_eq (keys_of (f ++ one.entry ∷ b))
      own f b distinct = distinct_front (f ++ one.entry ∷ b) (new_entry number now ∷ []) (subst (λ (xs : Numbered). IsDistinct nat_eq (keys_of xs)) (sym (append_assoc f (one.entry ∷ b) (new_entry number now ∷ []))) distinct)

      fewer : replace n None g.now_held ≡ one.front ++ one.back
      fewer =
          ap₂ (λ (k : ℕ) (xs : Numbered). replace k None xs) (sym one.number) one.is ∙ split_removed one.entry one.front one.back (own one.front one.back apart)

      go : (fuel : ℕ) → most + fuel ≡ length ws → yielding fuel now g.now_held ≡ yielding (length ws) now ws → Gives (most + 1) now number ws after
      go zero rounds same = absurd (omega (arith, rounds, lt))
      go (suc fuel) rounds same = record {
        now_held = one.front ++ one.back;
        is = left ∙ rest;
        fuel = fuel;
        rounds = omega (arith, rounds);
        same =
            ap (yielding fuel now) (sym fewer)
            ∙ sym (ap₂ (λ (b : Bool) (o : Option ℕ). cond b (unwrap_or (option_map (λ k. yielding fuel now (replace k None g.now_held)) o) g.now_held) g.now_held) lacks
            (sym (idlest_pushed now g.now_held number) ∙ sym (ap (idlest now) g.is) ∙ found))
            ∙ same;
      }

-- ---- what is held is a part of what was

part_whole : (es : Numbered) → IsPart es es
part_whole es = record { keeps = λ e. true; kept = sym (all es) }
  where
    all : (xs : Numbered) → filter (λ e. true) xs ≡ xs
    all [] = refl
    all (x ∷ xs) = ap (λ (ys : Numbered). x ∷ ys) (all xs)

filter_twice : (p q : ℕ × Leased → Bool) (es : Numbered) → filter q (filter p es) ≡ filter (λ e. p e && q e) es
filter_twice p q [] = refl
filter_twice p q (x ∷ xs) = go (p x) (filter_twice p q xs)
  where
    go : (b : Bool) → filter q (filter p xs) ≡ filter (λ e. p e && q e) xs → filter q (cond b (x ∷ filter p xs) (filter p xs)) ≡ cond (b && q x) (x ∷ filter (λ e. p e && q e) xs) (filter (λ e. p e && q e) xs)
    go true rest = ap (λ (ys : Numbered). cond (q x) (x ∷ ys) ys) rest
    go false rest = rest

removed_filter : (n : ℕ) (es : Numbered) → replace n None es ≡ filter (λ e. not (e.0 == n)) es
removed_filter n [] = refl
removed_filter n (x ∷ xs) = go (x.0 == n) (removed_filter n xs)
  where
    go : (b : Bool) → replace n None xs ≡ filter (λ e. not (e.0 == n)) xs → cond b (replace n None xs) (x ∷ replace n None xs) ≡ cond (not b) (x ∷ filter (λ e. not (e.0 == n)) xs) (filter (λ e. not (e.0 == n)) xs)
    go true rest = rest
    go false rest = ap (λ (ys : Numbered). x ∷ ys) rest

part_removed : (n : ℕ) (es held after : Numbered) → IsPart es held → after ≡ replace n None held → IsPart es after
part_removed n es held after part left = record {
  keeps = λ e. part.keeps e && not (e.0 == n);
  kept = left ∙ ap (replace n None) part.kept ∙ removed_filter n (filter part.keeps es) ∙ filter_twice part.keeps (λ e. not (e.0 == n)) es;
}

-- ---- one round after the other

-- what is held after so many rounds of what was
pub record Rounds (most now : ℕ) (old held : Numbered) : Type 0 where
  pub gives : (ws : Numbered) (number : ℕ) → old ≡ ws ++ new_entry number now ∷ [] → Gives most now number ws held
  pub part : IsPart old held
  pub differ : IsDistinct nat_eq (keys_of held)

pub rounds_first : (now : ℕ) (old : Numbered) → IsDistinct nat_eq (keys_of old) → Rounds 0 now old old
rounds_first now old differ = record { gives = λ ws number is. gives_first now number ws old is; part = part_whole old; differ = differ }

module _ (most now : ℕ) (old held : Numbered) (r : Rounds most now old held) where
  abbrev pub Ends : Type 0
  Ends = (ws : Numbered) (number : ℕ) → old ≡ ws ++ new_entry number now ∷ [] → held ≡ yielding (length ws) now ws ++ new_entry number now ∷ []

  -- what the last one leaves beside it
  abbrev Lacks : Bool → Type 0
  Lacks b = (ws : Numbered) (number moment : ℕ) → held ≡ ws ++ (number, new_watch moment) ∷ [] → b ≡ lacks_room ws

  pub ends_room : (b : Bool) → Lacks b → b ≡ false → Ends
  ends_room b told room ws number is = let g = r.gives ws number is in gives_room most now number ws held g (sym (told g.now_held number now g.is) ∙ room)

  pub ends_none : idlest now held ≡ None → Ends
  ends_none none ws number is = gives_none most now number ws held (r.gives ws number is) none

  pub ends_last : length old ≤ most + 1 → Ends
  ends_last end ws number is =
      let long : length old ≡ length ws + 1 = ap length is ∙ length_push ws (new_entry number now) in
      gives_end most now number ws held (r.gives ws number is) (omega (arith, long, end))

  pub rounds_one : (b : Bool) → Lacks b → b ≡ true → (n : ℕ) (after : Numbered) → most + 1 < length old → idlest now held ≡ Some n → after ≡ remove_entry (nat_eq n) held → IsDistinct nat_eq (keys_of after) → Rounds (most + 1) now old after
  rounds_one b told lacks n after lt found left differ =
      let taken : after ≡ replace n None held = left ∙ removed_at n held r.differ in
      record {
        gives = λ ws number is.
            let g = r.gives ws number is in
            let long : length old ≡ length ws + 1 = ap length is ∙ length_push ws (new_entry number now) in
            gives_one most now number ws held g n after (omega (arith, long, lt)) r.differ (sym (told g.now_held number now g.is) ∙ lacks) found taken;
        part = part_removed n old held after r.part taken;
        differ = differ;
      }

-- ---- after the sweep

pub part_stands : (m : ℕ) (es fs : Numbered) → IsPart es fs → AllStandUntil m es → AllStandUntil m fs
part_stands m es fs part all = subst (λ (xs : Numbered). AllStandUntil m xs) (sym part.kept) (go es all)
  where
    go : (xs : Numbered) → AllStandUntil m xs → AllStandUntil m (filter part.keeps xs)
    go [] each = tt
    go (x ∷ xs) each = one (part.keeps x) (go xs each.1)
      where
        one : (b : Bool) → AllStandUntil m (filter part.keeps xs) → AllStandUntil m (cond b (x ∷ filter part.keeps xs) (filter part.keeps xs))
        one true rest = (each.0, rest)
        one false rest = rest

pub part_live : (now : ℕ) (es fs : Numbered) → IsPart es fs → live now es ≡ es → live now fs ≡ fs
part_live now es fs part swept =
    ap (live now) part.kept ∙ filter_twice part.keeps (λ e. not (is_over now e.1)) es ∙ swap es ∙ sym (filter_twice (λ e. not (is_over now e.1)) part.keeps es)
    ∙ ap (filter part.keeps) swept ∙ sym part.kept
  where
    either : (a b : Bool) → (a && b) ≡ (b && a)
    either true true = refl
    either true false = refl
    either false true = refl
    either false false = refl

    swap : (xs : Numbered) → filter (λ e. part.keeps e && not (is_over now e.1)) xs ≡ filter (λ e. not (is_over now e.1) && part.keeps e) xs
    swap [] = refl
    swap (x ∷ xs) = ap₂ (λ (b : Bool) (ys : Numbered). cond b (x ∷ ys) ys) (either (part.keeps x) (not (is_over now x.1))) (swap xs)

live_twice : (now : ℕ) (es : Numbered) → live now (live now es) ≡ live now es
live_twice now [] = refl
live_twice now (x ∷ xs) = go (is_over now x.1) refl (live_twice now xs)
  where
    go : (b : Bool) → is_over now x.1 ≡ b → live now (live now xs) ≡ live now xs → live now (cond (not b) (x ∷ live now xs) (live now xs)) ≡ cond (not b) (x ∷ live now xs) (live now xs)
    go true over rest = rest
    go false over rest = ap (λ b. cond (not b) (x ∷ live now (live now xs)) (live now (live now xs))) over ∙ ap (λ (ys : Numbered). x ∷ ys) rest

-- what is left of watches that were swept
module _ (now : ℕ) (t swept : Table) (is : swept ≡ lapsed_at now t) (es : Numbered) (next : ℕ) (view : table es next ≡ swept) (held : Numbered) where
  pub swept_held : IsPart es held → lapsed_at now (table held next) ≡ table held next
  swept_held part =
      ap (λ (ws : Numbered). table ws next)
      (part_live now es held part (ap (λ (u : Table). live now u.watches) (view ∙ is) ∙ live_twice now t.watches ∙ sym (ap (λ (u : Table). u.watches) (view ∙ is))))

  pub gone_held : ((ws : Numbered) (number : ℕ) → es ≡ ws ++ new_entry number now ∷ [] → held ≡ yielding (length ws) now ws ++ new_entry number now ∷ [])
      → (before : Table) → t ≡ with_new now before → table held next ≡ with_new now (yielded_at now (lapsed_at now before))
  gone_held gone before made =
      let same : table es next ≡ with_new now (lapsed_at now before) = view ∙ is ∙ ap (lapsed_at now) made ∙ (lapses_commute now).makes before in
      let left = gone (live now before.watches) before.next (ap (λ (u : Table). u.watches) same) in
      ap₂ table left (ap (λ (u : Table). u.next) same)

-- ---- whether no more can be made

pub full_in : (now : ℕ) (es : Numbered) (next : ℕ) (t : Table) → table es next ≡ t → IsDistinct nat_eq (keys_of es) → (b : Bool) → b ≡ nat_le max_watches (length (filter (λ e. is_busy now e.1) es))
    → (b || nat_lt last_number next) ≡ is_full_at now t
full_in now es next t view differ b is =
    ap (λ c. c || nat_lt last_number next)
    (is ∙ ap (λ (xs : Numbered). nat_le max_watches (length xs)) (sym (busy_live now es))
    ∙ sym (full_yielding (length (live now es)) now (live now es) (IsDistinct-keys_filter nat_eq (λ e. not (is_over now e.1)) es differ) (omega arith)))
    ∙ ap (is_full_at now) view

pub few_busy : (now : ℕ) (es : Numbered) → length es < 1000 → false ≡ nat_le max_watches (length (filter (λ e. is_busy now e.1) es))
few_busy now es lt =
    let few : length (filter (λ e. is_busy now e.1) es) ≤ length es =
    subst (λ (n : ℕ). n ≤ length es) (sym (length-filter (λ e. is_busy now e.1) es)) (count_by-le-length (λ e. is_busy now e.1) es) in
    let less : nat_le 1000 (length (filter (λ e. is_busy now e.1) es)) ≡ false = grind (arith, nat_tests) in
    sym less
