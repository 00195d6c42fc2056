-- Alarms under their hrefs, all the lines of a board.
use Rattle.std.proofs.Common.{◌≡◌, ℕ, zero, suc, ◌+◌, ◌<◌, Bool, true, false, cond, List, [], ◌∷◌, ◌++◌, map, length, drop, take, get_or, refl, sym, ap, ◌∙◌, drop-cons, add-one, Bor, arith}
use Rattle.std.specs.Prelude.{Option, Some, None, slice_get, slice_set, option_map, option_and_then, is_none}
use Rattle.std.specs.BTreeMap.{BTreeMap, Updates, get_by}
use Rattle.std.specs.Cmp.Lexicographic.{slice_cmp}
use Rattle.std.specs.Ordering.{nat_cmp}
use Rattle.std.specs.Str.{bytes_eq}
use Rattle.std.proofs.lemmas.Map.Text.{btree_map_updates_str}
use Rattle.ob_client.specs.Tables.{place_of}
use Rattle.ob_client.proofs.TableLemmas.{place_last, put_last, put_there, texts_last, texts_there, within}
use Rattle.ob_object.specs.Object.{Object}
use Rattle.ob_watching.specs.WatchOuts.{Text}
use Rattle.ob_console.specs.Boards.{Line, put_line, line_at, alarm_of, board_from, first_other, Puts}
use Rattle.ob_console.specs.InHand.{shown, line, lines_in, IsIndex}
use Rattle.ob_console.specs.declared.alarm.Named.{Named}
use Rattle.ob_console.specs.declared.alarm.Alarm.{Alarm}

abbrev pub Alarms : Type 0
Alarms = List (Text × Alarm)

abbrev pub under : Text × Alarm → Line
under a = record { text = a.0; value = shown a.1 }

abbrev pub href_of : Line → Text
href_of l = l.text

-- ---- an alarm is put

pub lines_set : (all : Alarms) (n : ℕ) (a : Text × Alarm) → lines_in (slice_set all n a) ≡ slice_set (lines_in all) n (under a)
lines_set [] n a = refl
lines_set (b ∷ all) zero a = refl
lines_set (b ∷ all) (suc n) a = ap (λ (ls : List Line). under b ∷ ls) (lines_set all n a)

pub lines_push : (all : Alarms) (a : Text × Alarm) → lines_in (all ++ a ∷ []) ≡ lines_in all ++ under a ∷ []
lines_push [] a = refl
lines_push (b ∷ all) a = ap (λ (ls : List Line). under b ∷ ls) (lines_push all a)

pub lines_counted : (all : Alarms) → length (lines_in all) ≡ length all
lines_counted [] = refl
lines_counted (a ∷ all) = ap suc (lines_counted all)

hrefs_counted : (all : Alarms) → length (map href_of (lines_in all)) ≡ length all
hrefs_counted [] = refl
hrefs_counted (a ∷ all) = ap suc (hrefs_counted all)

pub place_within : (all : Alarms) (n : ℕ) (t : Text) → place_of t (map href_of (lines_in all)) ≡ Some n → n < length all
place_within all n t e = let w = within t (map href_of (lines_in all)) n e in omega (arith, w, hrefs_counted all)

pub put_over : (all : Alarms) (n : ℕ) (a : Text × Alarm) → place_of a.0 (map href_of (lines_in all)) ≡ Some n → lines_in (slice_set all n a) ≡ put_line (under a) (lines_in all)
put_over all n a e = lines_set all n a ∙ sym (put_there href_of (under a) (λ (l : Line). bytes_eq a.0 l.text) (λ l. refl) (lines_in all) n e)

pub index_over : (index : BTreeMap (Bor (List ℕ)) ℕ) (all : Alarms) (n : ℕ) (a : Text × Alarm) → IsIndex index (lines_in all) → place_of a.0 (map href_of (lines_in all)) ≡ Some n → IsIndex index (lines_in (slice_set all n a))
index_over index all n a is e t =
    is t ∙ ap (place_of t) (sym (ap (map href_of) (lines_set all n a) ∙ texts_there href_of (under a) (lines_in all) n e))

pub put_behind : (all : Alarms) (a : Text × Alarm) → place_of a.0 (map href_of (lines_in all)) ≡ None → lines_in (all ++ a ∷ []) ≡ put_line (under a) (lines_in all)
put_behind all a e = lines_push all a ∙ sym (put_last href_of (under a) (λ (l : Line). bytes_eq a.0 l.text) (λ l. refl) (lines_in all) e)

pub index_behind : (old new : BTreeMap (Bor (List ℕ)) ℕ) (key : Bor (List ℕ)) (all : Alarms) (a : Text × Alarm) → IsIndex old (lines_in all) → place_of a.0 (map href_of (lines_in all)) ≡ None → key.now ≡ a.0
    → Updates (λ x y. slice_cmp nat_cmp x.now y.now) old new key (Some (length all)) → IsIndex new (lines_in (all ++ a ∷ []))
index_behind old new key all a is none same up t =
    btree_map_updates_str key.now old new (Some (length all)) up t
    ∙ ap (λ (u : Text). cond (bytes_eq u t) (Some (length all)) (get_by (λ k. slice_cmp nat_cmp t k.now) old)) same
    ∙ ap (λ (n : ℕ). cond (bytes_eq a.0 t) (Some n) (get_by (λ k. slice_cmp nat_cmp t k.now) old)) (sym (hrefs_counted all))
    ∙ ap (cond (bytes_eq a.0 t) (Some (length (map href_of (lines_in all))))) (is t)
    ∙ sym (place_last a.0 (map href_of (lines_in all)) none t)
    ∙ ap (place_of t) (sym (ap (map href_of) (lines_push all a) ∙ texts_last href_of (under a) (lines_in all)))

-- ---- an alarm is looked for

pub line_more : (all : Alarms) (n : ℕ) (a : Text × Alarm) (t : Text) → n < length all → a ≡ get_or all n a → line_at t (lines_in (take n all)) ≡ None → bytes_eq t a.0 ≡ false → line_at t (lines_in (take (n + 1) all)) ≡ None
line_more all n a t lt at before off = ap (λ k. line_at t (lines_in (take k all))) (add-one n) ∙ go all n lt at before
  where
    go : (xs : Alarms) (n : ℕ) → n < length xs → a ≡ get_or xs n a → line_at t (lines_in (take n xs)) ≡ None → line_at t (lines_in (take (suc n) xs)) ≡ None
    go [] n lt at before = refl
    go (x ∷ xs) zero lt at before = ap (λ b. cond b (Some (under x)) None) (ap (λ (y : Text × Alarm). bytes_eq t y.0) (sym at) ∙ off)
    go (x ∷ xs) (suc n) lt at before = on (bytes_eq t x.0) before (go xs n (omega (arith, lt)) at)
      where
        on : (b : Bool) → cond b (Some (under x)) (line_at t (lines_in (take n xs))) ≡ None → (line_at t (lines_in (take n xs)) ≡ None → line_at t (lines_in (take (suc n) xs)) ≡ None)
            → cond b (Some (under x)) (line_at t (lines_in (take (suc n) xs))) ≡ None
        on true h rest = absurd (let f : Some (under x) ≡ None = h in cc)
        on false h rest = rest h

pub line_here : (all : Alarms) (n : ℕ) (a : Text × Alarm) (t : Text) → n < length all → a ≡ get_or all n a → line_at t (lines_in (take n all)) ≡ None → bytes_eq t a.0 ≡ true → line_at t (lines_in all) ≡ Some (under a)
line_here [] n a t lt at before on = absurd (omega (arith, lt))
line_here (x ∷ xs) zero a t lt at before on =
    ap (λ b. cond b (Some (under x)) (line_at t (lines_in xs))) (ap (λ (y : Text × Alarm). bytes_eq t y.0) (sym at) ∙ on) ∙ ap (λ (y : Text × Alarm). Some (under y)) (sym at)
line_here (x ∷ xs) (suc n) a t lt at before on = go (bytes_eq t x.0) before (λ h. line_here xs n a t (omega (arith, lt)) at h on)
  where
    go : (b : Bool) → cond b (Some (under x)) (line_at t (lines_in (take n xs))) ≡ None → (line_at t (lines_in (take n xs)) ≡ None → line_at t (lines_in xs) ≡ Some (under a))
        → cond b (Some (under x)) (line_at t (lines_in xs)) ≡ Some (under a)
    go true h rest = absurd (let f : Some (under x) ≡ None = h in cc)
    go false h rest = rest h

pub placed_alarm : (all : Alarms) (n : ℕ) (o : Option (Text × Alarm)) → slice_get all n ≡ o → option_map (λ (a : Text × Alarm). shown a.1) o ≡ option_map (λ (l : Line). l.value) (slice_get (lines_in all) n)
placed_alarm [] n o h = ap (option_map (λ (a : Text × Alarm). shown a.1)) (sym h)
placed_alarm (a ∷ all) zero o h = ap (option_map (λ (a : Text × Alarm). shown a.1)) (sym h)
placed_alarm (a ∷ all) (suc n) o h = placed_alarm all n o h

-- an event that is an alarm goes on, one that is none ends the board
pub board_more : (es : List Object) (i : ℕ) (e : Object) (old new : List Line) → i < length es → e ≡ get_or es i e → Puts old new e true → board_from old (drop i es) ≡ board_from new (drop (i + 1) es)
board_more es i e old new lt at p =
    ap (board_from old) (drop-cons es i e lt ∙ ap (λ (n : ℕ). get_or es i e ∷ drop n es) (sym (add-one i)) ∙ ap (λ (x : Object). x ∷ drop (i + 1) es) (sym at))
    ∙ ap (λ (o : Option Line). option_and_then (λ l. board_from (put_line l old) (drop (i + 1) es)) o) p.1
    ∙ ap (λ (ls : List Line). board_from ls (drop (i + 1) es)) (sym p.2)

first_cons : (n : ℕ) (o : Object) (os : List Object) (b : Bool) → is_none (alarm_of o) ≡ b → first_other n (o ∷ os) ≡ cond b (Some n) (first_other (n + 1) os)
first_cons n o os b e = ap (λ c. cond c (Some n) (first_other (n + 1) os)) e

pub first_more : (es : List Object) (i : ℕ) (e : Object) (l : Line) → i < length es → e ≡ get_or es i e → alarm_of e ≡ Some l → first_other i (drop i es) ≡ first_other (i + 1) (drop (i + 1) es)
first_more es i e l lt at alarm =
    ap (first_other i) (drop-cons es i e lt ∙ ap (λ (n : ℕ). get_or es i e ∷ drop n es) (sym (add-one i)) ∙ ap (λ (x : Object). x ∷ drop (i + 1) es) (sym at))
    ∙ first_cons i e (drop (i + 1) es) false (ap is_none alarm)

pub first_here : (es : List Object) (i : ℕ) (e : Object) → i < length es → e ≡ get_or es i e → alarm_of e ≡ None → first_other i (drop i es) ≡ Some i
first_here es i e lt at none =
    ap (first_other i) (drop-cons es i e lt ∙ ap (λ (n : ℕ). get_or es i e ∷ drop n es) (sym (add-one i)) ∙ ap (λ (x : Object). x ∷ drop (i + 1) es) (sym at))
    ∙ first_cons i e (drop (i + 1) es) true (ap is_none none)

pub known_alarm : (o : Option Named) (n : Named) (e : Option Line) → o ≡ Some n → option_map line o ≡ e → e ≡ Some (line n)
known_alarm o n e is told = sym told ∙ ap (option_map line) is
