-- Paths, and the entries that stand under them.
use Rattle.std.proofs.Common.{◌≡◌, ℕ, ◌+◌, ◌%◌, ◌/◌, ◌^◌, ◌<◌, ◌≤◌, Bool, true, false, cond, ◌&&◌, List, [], ◌∷◌, ◌++◌, length, take, drop, get_or, Option, Some, None, refl, sym, ap, ap₂, ◌∙◌, append_assoc, append-nil, true≢false, add-one, drop-cons, take-append-drop, Bor, ne_eqb, arith}
use Rattle.std.specs.Prelude.{bytes_eq, codes, decimal, find, is_some, slice_get, option_map, MatchOption, ◌==◌}
use lib.Seq.{take-append_seam}
use Rattle.std.proofs.lemmas.List.{at_drop_all}
use Rattle.std.proofs.lemmas.Option.{slice_get-get_or}
use Rattle.std.proofs.lemmas.Slice.Eq.{bytes_eq-Decides}
use Rattle.std.proofs.lemmas.Fmt.{decimal_by_steps}
use Rattle.std.proofs.lemmas.List.Folds.{list_all-append}
use Rattle.std.proofs.lemmas.Bool.Decides.{nat_tests}
use Rattle.ob_values.specs.XmlText.{is_printable}
use Rattle.ob_watching.specs.WatchOuts.{Text, Held}
use Rattle.ob_client.specs.Mirrors.{found}
use Rattle.ob_super.specs.Upstreams.{Upstream}
use Rattle.ob_super.specs.Trees.{Entry, list_at, object_at, object_path, the_entry, with_entry, entries_from, entry_in}
use Rattle.ob_super.specs.InHand.{IsBehind, HasEntry}

-- ---- what is behind a front

cancel : {A : Type 0} (p xs ys : List A) → p ++ xs ≡ p ++ ys → xs ≡ ys
cancel [] xs ys e = e
cancel (z ∷ p) xs ys e = cancel p xs ys (let h : z ∷ (p ++ xs) ≡ z ∷ (p ++ ys) = e in cc)

pub behind_not : (a b text : Text) → IsBehind a text None → IsBehind (a ++ b) text None
behind_not a b text h = λ rest e. h (b ++ rest) (e ∙ append_assoc a b rest)

pub behind_then : (a b text rest : Text) (r : Option Text) → IsBehind a text (Some rest) → IsBehind b rest r → IsBehind (a ++ b) text r
behind_then a b text rest None h k = λ more e. k more (cancel a rest (b ++ more) (sym h ∙ e ∙ append_assoc a b more))
behind_then a b text rest (Some more) h k = h ∙ ap (λ (x : Text). a ++ x) k ∙ sym (append_assoc a b more)

-- what strips a front tells
pub strips : (front text : Text) (r : Option (Bor Text)) → MatchOption r (bytes_eq (take (length front) text) front ≡ false)
    (λ x. (bytes_eq (take (length front) text) front ≡ true) × (x.now ≡ drop (length front) text) × (length x.now + length front ≡ length text)) → IsBehind front text (option_map (λ x. x.now) r)
strips front text None h = λ rest e.
    true≢false (sym ((bytes_eq-Decides (take (length front) text) front).1 (ap (take (length front)) e ∙ take-append_seam front rest)) ∙ h)
strips front text (Some x) h =
    sym (take-append-drop (length front) text)
    ∙ ap (λ (y : Text). y ++ drop (length front) text) ((bytes_eq-Decides (take (length front) text) front).0 h.0)
    ∙ ap (λ (y : Text). front ++ y) (sym h.1)

-- ---- paths

digit_printable : (n : ℕ) → n < 10 → is_printable ((48 + n) ∷ []) ≡ true
digit_printable n lt = grind (arith, nat_tests)

pub decimal_printable : (n : ℕ) → n < 2 ^ 64 → is_printable (decimal n) ≡ true
decimal_printable n lt =
    decimal_by_steps (λ n ds. is_printable ds ≡ true) digit_printable
    (λ n ds le h. let m : n % 10 < 10 = omega arith in list_all-append _ ds ((48 + n % 10) ∷ []) ∙ ap₂ (λ a b. a && b) h (digit_printable (n % 10) m)) n lt

pub behind_object : (name : Text) (i : ℕ) → object_at name i ≡ list_at name ++ decimal i
behind_object name i =
    sym (append_assoc (codes "/obix/") (name ++ codes "/") (decimal i) ∙ ap (λ (x : Text). codes "/obix/" ++ x) (append_assoc name (codes "/") (decimal i)))

pub same : (a b : Text) → a ≡ b → bytes_eq a b ≡ true
same a b e = (bytes_eq-Decides a b).1 e

of_same : (a b : Text) → bytes_eq a b ≡ true → a ≡ b
of_same a b e = (bytes_eq-Decides a b).0 e

not_same : (a b : Text) → (a ≡ b → ⊥) → bytes_eq a b ≡ false
not_same a b n = of (bytes_eq a b) refl
  where
    of : (t : Bool) → bytes_eq a b ≡ t → bytes_eq a b ≡ false
    of true e = absurd (n (of_same a b e))
    of false e = e

-- texts behind one front
pub same_behind : (p a b : Text) → bytes_eq (p ++ a) (p ++ b) ≡ bytes_eq a b
same_behind p a b = of (bytes_eq a b) refl
  where
    of : (t : Bool) → bytes_eq a b ≡ t → bytes_eq (p ++ a) (p ++ b) ≡ bytes_eq a b
    of true e = same (p ++ a) (p ++ b) (ap (λ (x : Text). p ++ x) (of_same a b e)) ∙ sym e
    of false e = not_same (p ++ a) (p ++ b) (λ f. true≢false (sym (same a b (cancel p a b f)) ∙ e)) ∙ sym e

pub no_path : (name path : Text) (i : ℕ) → IsBehind (list_at name) path None → bytes_eq (object_at name i) path ≡ false
no_path name path i none = not_same (object_at name i) path (λ e. none (decimal i) (sym e ∙ behind_object name i))

pub at_path : (name path rest : Text) (i : ℕ) → IsBehind (list_at name) path (Some rest) → bytes_eq (object_at name i) path ≡ bytes_eq (decimal i) rest
at_path name path rest i behind =
    ap (λ (x : Text). bytes_eq x path) (behind_object name i) ∙ ap (bytes_eq (list_at name ++ decimal i)) behind ∙ same_behind (list_at name) (decimal i) rest

-- ---- entries

abbrev pub at_in : Upstream → List Held → Text → ℕ → List Text → Option Entry
at_in u held path i hrefs = find (λ (e : Entry). bytes_eq e.path path) (entries_from u i hrefs held)

skip_kept : (u : Upstream) (path : Text) (i : ℕ) (href : Text) (h : Option Held) (es : List Entry) → (bytes_eq (object_path u i) path && is_some h) ≡ false
    → find (λ (e : Entry). bytes_eq e.path path) (with_entry u i href h es) ≡ find (λ (e : Entry). bytes_eq e.path path) es
skip_kept u path i href None es e = refl
skip_kept u path i href (Some h) es e = ap (λ b. cond b (Some (the_entry u i href h)) (find (λ (e : Entry). bytes_eq e.path path) es)) (left_of (bytes_eq (object_path u i) path) e)
  where
    left_of : (a : Bool) → (a && true) ≡ false → a ≡ false
    left_of true e = e
    left_of false e = refl

-- an href whose object isn't at the path, or isn't held
pub at_skip : (u : Upstream) (held : List Held) (path : Text) (i : ℕ) (href : Text) (hrefs : List Text) → (bytes_eq (object_path u i) path && is_some (found href held)) ≡ false
    → at_in u held path i (href ∷ hrefs) ≡ at_in u held path (i + 1) hrefs
at_skip u held path i href hrefs e = skip_kept u path i href (found href held) (entries_from u (i + 1) hrefs held) e

-- one whose object is
pub at_here : (u : Upstream) (held : List Held) (path : Text) (i : ℕ) (href : Text) (hrefs : List Text) (one : Held) → bytes_eq (object_path u i) path ≡ true → found href held ≡ Some one
    → at_in u held path i (href ∷ hrefs) ≡ Some (the_entry u i href one)
at_here u held path i href hrefs one e is =
    ap (λ (h : Option Held). find (λ (e : Entry). bytes_eq e.path path) (with_entry u i href h (entries_from u (i + 1) hrefs held))) is
    ∙ ap (λ b. cond b (Some (the_entry u i href one)) (at_in u held path (i + 1) hrefs)) e

-- no path of an object begins otherwise than the list's
pub at_none : (u : Upstream) (held : List Held) (path : Text) (i : ℕ) (hrefs : List Text) → IsBehind (list_at u.name) path None → at_in u held path i hrefs ≡ None
at_none u held path i [] none = refl
at_none u held path i (href ∷ hrefs) none =
    at_skip u held path i href hrefs (ap (λ b. b && is_some (found href held)) (no_path u.name path i none)) ∙ at_none u held path (i + 1) hrefs none

-- nothing is found where nothing is held
pub at_empty : (u : Upstream) (path : Text) (i : ℕ) (hrefs : List Text) → at_in u [] path i hrefs ≡ None
at_empty u path i [] = refl
at_empty u path i (href ∷ hrefs) = at_empty u path (i + 1) hrefs

-- ---- place by place

pub left_at : (hrefs : List Text) (i : ℕ) (x : Text) → i < length hrefs → x ≡ get_or hrefs i x → drop i hrefs ≡ x ∷ drop (i + 1) hrefs
left_at hrefs i x lt is =
    drop-cons hrefs i x lt ∙ ap (λ (n : ℕ). get_or hrefs i x ∷ drop n hrefs) (sym (add-one i)) ∙ ap (λ (y : Text). y ∷ drop (i + 1) hrefs) (sym is)

pub place_skip : (u : Upstream) (held : List Held) (path rest : Text) (i : ℕ) (href : Text) → IsBehind (list_at u.name) path (Some rest) → i < length u.hrefs → href ≡ get_or u.hrefs i href
    → (bytes_eq (decimal i) rest && is_some (found href held)) ≡ false → entry_in u held path ≡ at_in u held path i (drop i u.hrefs) → entry_in u held path ≡ at_in u held path (i + 1) (drop (i + 1) u.hrefs)
place_skip u held path rest i href behind lt is off so =
    so ∙ ap (at_in u held path i) (left_at u.hrefs i href lt is)
    ∙ at_skip u held path i href (drop (i + 1) u.hrefs) (ap (λ b. b && is_some (found href held)) (at_path u.name path rest i behind) ∙ off)

pub place_here : (u : Upstream) (held : List Held) (path rest : Text) (i : ℕ) (href : Text) → IsBehind (list_at u.name) path (Some rest) → i < length u.hrefs → href ≡ get_or u.hrefs i href
    → bytes_eq (decimal i) rest ≡ true → is_some (found href held) ≡ true → entry_in u held path ≡ at_in u held path i (drop i u.hrefs) → HasEntry u held i path
place_here u held path rest i href behind lt is num some so = of (found href held) refl some
  where
    of : (h : Option Held) → found href held ≡ h → is_some h ≡ true → HasEntry u held i path
    of None e t = absurd (true≢false (sym t))
    of (Some one) e t = record {
      href = href;
      one = one;
      within = lt;
      at = slice_get-get_or u.hrefs i href lt ∙ ap (λ (x : Text). Some x) (sym is);
      is_held = e;
      first = so ∙ ap (at_in u held path i) (left_at u.hrefs i href lt is) ∙ at_here u held path i href (drop (i + 1) u.hrefs) one (at_path u.name path rest i behind ∙ num) e;
    }

pub place_end : (u : Upstream) (held : List Held) (path : Text) (i : ℕ) → length u.hrefs ≤ i → entry_in u held path ≡ at_in u held path i (drop i u.hrefs) → entry_in u held path ≡ None
place_end u held path i le so = so ∙ at_drop_all (at_in u held path i) u.hrefs i le

-- the href at a place
pub href_at : (hrefs : List Text) (i : ℕ) (x href : Text) → i < length hrefs → x ≡ get_or hrefs i x → slice_get hrefs i ≡ Some href → x ≡ href
href_at hrefs i x href lt is at = let h : Some x ≡ Some href = ap (λ (y : Text). Some y) is ∙ sym (slice_get-get_or hrefs i x lt) ∙ at in cc

-- whatever stands in for an element that isn't there
pub get_same : (hrefs : List Text) (i : ℕ) (d e : Text) → i < length hrefs → get_or hrefs i d ≡ get_or hrefs i e
get_same hrefs i d e lt = let h : Some (get_or hrefs i d) ≡ Some (get_or hrefs i e) = sym (slice_get-get_or hrefs i d lt) ∙ slice_get-get_or hrefs i e lt in cc

pub and_false : (a b : Bool) → b ≡ false → (a && b) ≡ false
and_false true b e = e
and_false false b e = refl

pub false_and : (a b : Bool) → a ≡ false → (a && b) ≡ false
false_and a b e = ap (λ (x : Bool). x && b) e

-- the path of the list itself
pub list_there : (name path rest : Text) → IsBehind (list_at name) path (Some rest) → (length rest == 0) ≡ bytes_eq (list_at name) path
list_there name path rest behind =
    of rest ∙ sym (same_behind (list_at name) [] rest) ∙ ap (λ (x : Text). bytes_eq x (list_at name ++ rest)) (append-nil (list_at name)) ∙ ap (bytes_eq (list_at name)) (sym behind)
  where
    of : (rest : Text) → (length rest == 0) ≡ bytes_eq [] rest
    of [] = refl
    of (x ∷ xs) = ne_eqb (length (x ∷ xs)) 0 (λ e. omega (arith, e))

pub list_not : (name path : Text) → IsBehind (list_at name) path None → false ≡ bytes_eq (list_at name) path
list_not name path none = sym (not_same (list_at name) path (λ e. none [] (sym e ∙ sym (append-nil (list_at name)))))
