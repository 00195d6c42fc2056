-- Stamps after many touches.
use Rattle.std.proofs.Common.{◌≡◌, ℕ, zero, suc, ◌+◌, ◌<◌, ◌≤◌, Bool, true, false, ◌&&◌, ◌||◌, cond, List, [], ◌∷◌, ◌++◌, length, map, replicate, Option, Some, None, option_map, refl, sym, ap, ◌∙◌, arith}
use Rattle.std.specs.Prelude.{slice_get, nat_le, nat_lt}
use Rattle.std.specs.List.{list_any}
use Rattle.std.proofs.lemmas.Bool.{leb-true, ltb-true, le-leb, lt-ltb}
use Rattle.std.proofs.lemmas.Option.{slice_get-get_or}
use Rattle.ob_object.specs.Object.{Object, parts}
use Rattle.ob_tree.specs.declared.spot.Spot.{Spot}
use Rattle.ob_tree.specs.Laid.{spots_of, spot}
use Rattle.ob_tree.specs.Shown.{part_at}
use Rattle.ob_tree.specs.Stamps.{is_round, stamped, touched}
use Rattle.ob_tree.specs.Trees.{Stamped}
use Rattle.ob_tree.specs.LastTouch.{Stamping, Begins, Touches, Renumbers, done, all_done, NoneTouches, LastTouchesStamp}
use Rattle.ob_tree.proofs.StandsFor.{count_spots}
use Rattle.ob_tree.proofs.Touched.{length-stamped}
use Rattle.ob_tree.proofs.Growing.{Grows, grows_for}

stamped_at : (n now a : ℕ) (ss : List Spot) (xs : List ℕ) (k : ℕ) (s : Spot) → slice_get ss k ≡ Some s → length xs ≡ length ss
    → slice_get (stamped n now a ss xs) k ≡ option_map (λ (x : ℕ). cond (is_round (a + k) s n) now x) (slice_get xs k)
stamped_at n now a [] xs k s e len = absurd cc
stamped_at n now a (t ∷ ss) [] k s e len = absurd (omega (arith, len))
stamped_at n now a (t ∷ ss) (x ∷ xs) zero s e len =
    let same : t ≡ s = cc in
    let here : a ≡ a + 0 = omega arith in
    ap (λ (u : Spot). Some (cond (is_round a u n) now x)) same ∙ ap (λ (m : ℕ). Some (cond (is_round m s n) now x)) here
stamped_at n now a (t ∷ ss) (x ∷ xs) (suc k) s e len =
    let here : a + 1 + k ≡ a + suc k = omega arith in
    stamped_at n now (a + 1) ss xs k s e (omega (arith, len)) ∙ ap (λ (m : ℕ). option_map (λ (y : ℕ). cond (is_round m s n) now y) (slice_get xs k)) here

-- the stamp of an object after one touch
one_touch : (o x : Object) (xs : List ℕ) (n now k : ℕ) → length xs ≡ parts o → k < parts o → part_at k o ≡ Some x
    → slice_get (touched n now o xs) k ≡ option_map (λ (y : ℕ). cond (nat_le k n && nat_lt n (k + parts x)) now y) (slice_get xs k)
one_touch o x xs n now k len lt is =
    let g : Grows o k x = grows_for o x k lt is in
    let same : length xs ≡ length (spots_of 0 None o) = len ∙ sym (count_spots o (spots_of 0 None o) refl) in
    let here : 0 + k ≡ k = omega arith in
    stamped_at n now 0 (spots_of 0 None o) xs k (spot k g.up x.inner) g.spot_is same
    ∙ ap (λ (m : ℕ). option_map (λ (y : ℕ). cond (nat_le m n && nat_lt n (k + parts x)) now y) (slice_get xs k)) here

not_round : (k n e : ℕ) (a b : Bool) → nat_le k n ≡ a → nat_lt n e ≡ b → (k ≤ n → n < e → ⊥) → (a && b) ≡ false
not_round k n e false b f g h = refl
not_round k n e true false f g h = refl
not_round k n e true true f g h = absurd (h (leb-true k n f) (ltb-true n e g))

all_same : (q : Option ℕ) → option_map (λ (y : ℕ). y) q ≡ q
all_same None = refl
all_same (Some y) = refl

long : (o : Object) (xs : List ℕ) (n now : ℕ) → length xs ≡ parts o → length (touched n now o xs) ≡ parts o
long o xs n now len = length-stamped n now 0 (spots_of 0 None o) xs (len ∙ sym (count_spots o (spots_of 0 None o) refl)) ∙ len

length-replicated : (n x : ℕ) → length (replicate n x) ≡ n
length-replicated zero x = refl
length-replicated (suc n) x = ap suc (length-replicated n x)

-- there are as many stamps as before
still_long : (c : Stamping) (t : Stamped) → length t.stamps ≡ parts t.root → length (done c t).stamps ≡ parts (done c t).root
still_long Begins t len = len
still_long (Touches n) t len = long t.root t.stamps n t.steps len
still_long Renumbers t len = length-replicated (parts t.root) 1

same_root : (c : Stamping) (t : Stamped) → (done c t).root ≡ t.root
same_root Begins t = refl
same_root (Touches n) t = refl
same_root Renumbers t = refl

-- a part of the root is one after it too
still_less : (c : Stamping) (t : Stamped) (k : ℕ) → k < parts t.root → k < parts (done c t).root
still_less c t k lt = omega (arith, lt, ap parts (same_root c t))

still_there : (c : Stamping) (t : Stamped) (k : ℕ) (x : Object) → part_at k t.root ≡ Some x → part_at k (done c t).root ≡ Some x
still_there c t k x is = ap (part_at k) (same_root c t) ∙ is

untouched : (cs : List Stamping) (t : Stamped) (k : ℕ) (x : Object) → length t.stamps ≡ parts t.root → k < parts t.root → part_at k t.root ≡ Some x
    → NoneTouches k (k + parts x) cs → slice_get (all_done cs t).stamps k ≡ slice_get t.stamps k
untouched [] t k x len lt is off = refl
untouched (Begins ∷ cs) t k x len lt is off = untouched cs (done Begins t) k x len lt is off
untouched (Touches n ∷ cs) t k x len lt is off =
    untouched cs (done (Touches n) t) k x (long t.root t.stamps n t.steps len) lt is off.1
    ∙ one_touch t.root x t.stamps n t.steps k len lt is
    ∙ ap (λ (b : Bool). option_map (λ (y : ℕ). cond b t.steps y) (slice_get t.stamps k)) (not_round k n (k + parts x) (nat_le k n) (nat_lt n (k + parts x)) refl refl off.0)
    ∙ all_same (slice_get t.stamps k)
untouched (Renumbers ∷ cs) t k x len lt is off = absurd off

touch_stays : (behind : List Stamping) (n : ℕ) (t : Stamped) (k : ℕ) (x : Object) → length t.stamps ≡ parts t.root → k < parts t.root → part_at k t.root ≡ Some x → k ≤ n → n < k + parts x
    → NoneTouches k (k + parts x) behind → slice_get (all_done behind (done (Touches n) t)).stamps k ≡ Some t.steps
touch_stays behind n t k x len lt is from below off =
    untouched behind (done (Touches n) t) k x (long t.root t.stamps n t.steps len) lt is off
    ∙ one_touch t.root x t.stamps n t.steps k len lt is
    ∙ ap (λ (b : Bool). option_map (λ (y : ℕ). cond (b && nat_lt n (k + parts x)) t.steps y) (slice_get t.stamps k)) (le-leb k n from)
    ∙ ap (λ (b : Bool). option_map (λ (y : ℕ). cond b t.steps y) (slice_get t.stamps k)) (lt-ltb n (k + parts x) below)
    ∙ ap (option_map (λ (y : ℕ). t.steps)) (slice_get-get_or t.stamps k 0 (omega (arith, len, lt)))

last : (before behind : List Stamping) (n : ℕ) (t : Stamped) (k : ℕ) (x : Object) → length t.stamps ≡ parts t.root → k < parts t.root → part_at k t.root ≡ Some x → k ≤ n → n < k + parts x
    → NoneTouches k (k + parts x) behind → slice_get (all_done (before ++ Touches n ∷ behind) t).stamps k ≡ Some (all_done before t).steps
last [] behind n t k x len lt is from below off = touch_stays behind n t k x len lt is from below off
last (c ∷ cs) behind n t k x len lt is from below off =
    last cs behind n (done c t) k x (still_long c t len) (still_less c t k lt) (still_there c t k x is) from below off

replicated_at : (n k x : ℕ) → k < n → slice_get (replicate n x) k ≡ Some x
replicated_at zero k x lt = absurd (omega arith)
replicated_at (suc n) zero x lt = refl
replicated_at (suc n) (suc k) x lt = replicated_at n k x (omega arith)

renewed : (before behind : List Stamping) (t : Stamped) (k : ℕ) (x : Object) → length t.stamps ≡ parts t.root → k < parts t.root → part_at k t.root ≡ Some x
    → NoneTouches k (k + parts x) behind → slice_get (all_done (before ++ Renumbers ∷ behind) t).stamps k ≡ Some 1
renewed [] behind t k x len lt is off =
    untouched behind (done Renumbers t) k x (length-replicated (parts t.root) 1) lt is off ∙ replicated_at (parts t.root) k 1 lt
renewed (c ∷ cs) behind t k x len lt is off = renewed cs behind (done c t) k x (still_long c t len) (still_less c t k lt) (still_there c t k x is) off

once_more : (a b : Bool) (now : ℕ) (q : Option ℕ) → option_map (λ (y : ℕ). cond b now y) (option_map (λ (y : ℕ). cond a now y) q) ≡ option_map (λ (y : ℕ). cond (a || b) now y) q
once_more true true now None = refl
once_more true false now None = refl
once_more false true now None = refl
once_more false false now None = refl
once_more true true now (Some y) = refl
once_more true false now (Some y) = refl
once_more false true now (Some y) = refl
once_more false false now (Some y) = refl

many_touches : (ns : List ℕ) (t : Stamped) (k : ℕ) (x : Object) → length t.stamps ≡ parts t.root → k < parts t.root → part_at k t.root ≡ Some x
    → slice_get (all_done (map Touches ns) t).stamps k
    ≡ option_map (λ old. cond (list_any (λ n. nat_le k n && nat_lt n (k + parts x)) ns) t.steps old) (slice_get t.stamps k)
many_touches [] t k x len lt is = sym (all_same (slice_get t.stamps k))
many_touches (n ∷ ns) t k x len lt is =
    let behind : Bool = list_any (λ m. nat_le k m && nat_lt m (k + parts x)) ns in
    many_touches ns (done (Touches n) t) k x (long t.root t.stamps n t.steps len) lt is
    ∙ ap (option_map (λ (y : ℕ). cond behind t.steps y)) (one_touch t.root x t.stamps n t.steps k len lt is)
    ∙ once_more (nat_le k n && nat_lt n (k + parts x)) behind t.steps (slice_get t.stamps k)

pub last_touches_stamp : LastTouchesStamp
last_touches_stamp t k x len lt is =
    record {
      without = λ cs off. untouched cs t k x len lt is off;
      with_one = λ before behind n from below off. last before behind n t k x len lt is from below off;
      many = λ ns. many_touches ns t k x len lt is;
      anew = λ before behind off. renewed before behind t k x len lt is off;
    }
