-- Contracts of a library made anew one by one, where they are marked.
use Rattle.std.proofs.Common.{◌≡◌, ℕ, zero, suc, ◌+◌, ◌<◌, ◌≤◌, Bool, true, false, not, cond, List, [], ◌∷◌, ◌++◌, length, Option, Some, None, refl, sym, ap, ap₂, ◌∙◌, true≢false, subst, arith}
use Rattle.std.specs.Prelude.{slice_get}
use Rattle.ob_object.specs.Object.{Object, parts}
use Rattle.ob_contracts.specs.Inherit.{Contracts, result_of}
use Rattle.ob_contracts.specs.Standard.{with_added}
use Rattle.ob_contracts.specs.Renewing.{AreRenewedTo, MayRenew, uris, with_contract}
use Rattle.ob_contracts.specs.Ties.{AreMarked, AreTied, is_marked, is_marked_at, is_unmarked}
use Rattle.ob_contracts.proofs.Marked.{base_closed, here, names_unmarked}
use Rattle.ob_contracts.proofs.RenewedTo.{begins, ends, made_on, stays_on, made_small}

-- what stands at a place
pub at : {A : Type 0} {P : Type 0} (xs : List A) (i : ℕ) → i < length xs → ((x : A) → slice_get xs i ≡ Some x → P) → P
at [] i h k = absurd (omega (arith, h))
at (x ∷ xs) zero h k = k x refl
at (x ∷ xs) (suc i) h k = at xs i (omega (arith, h)) k

same_uri : (old new : Contracts) (i : ℕ) (c d : List ℕ × Object) → uris old ≡ uris new → slice_get old i ≡ Some c → slice_get new i ≡ Some d → c.0 ≡ d.0
same_uri [] new i c d e f g = absurd cc
same_uri (x ∷ xs) [] i c d e f g = absurd cc
same_uri (x ∷ xs) (y ∷ ys) zero c d e f g = let first : x.0 ≡ y.0 = cc in let a : x ≡ c = cc in let b : y ≡ d = cc in sym (ap (λ z. z.0) a) ∙ first ∙ ap (λ z. z.0) b
same_uri (x ∷ xs) (y ∷ ys) (suc i) c d e f g = let rest : uris xs ≡ uris ys = cc in same_uri xs ys i c d rest f g

pub same_length : (old new : Contracts) → uris old ≡ uris new → length old ≡ length new
same_length [] [] e = refl
same_length [] (y ∷ ys) e = absurd cc
same_length (x ∷ xs) [] e = absurd cc
same_length (x ∷ xs) (y ∷ ys) e = let rest : uris xs ≡ uris ys = cc in ap suc (same_length xs ys rest)

uris_last : (lib : Contracts) (u : List ℕ) (o : Object) → uris (lib ++ (u, o) ∷ []) ≡ uris lib ++ u ∷ []
uris_last [] u o = refl
uris_last (c ∷ cs) u o = ap (λ l. c.0 ∷ l) (uris_last cs u o)

pub uris_added : (lib more old new : Contracts) → uris lib ≡ uris more → uris old ≡ uris new → uris (with_added lib old) ≡ uris (with_added more new)
uris_added lib more [] [] e f = e
uris_added lib more [] (d ∷ ds) e f = absurd cc
uris_added lib more (c ∷ cs) [] e f = absurd cc
uris_added lib more (c ∷ cs) (d ∷ ds) e f =
    let first : c.0 ≡ d.0 = cc in
    let rest : uris cs ≡ uris ds = cc in
    uris_added (lib ++ (c.0, result_of lib c.1 None None) ∷ []) (more ++ (d.0, result_of more d.1 None None) ∷ []) cs ds
    (uris_last lib c.0 (result_of lib c.1 None None) ∙ ap₂ (λ l u. l ++ u ∷ []) e first ∙ sym (uris_last more d.0 (result_of more d.1 None None))) rest

module _ (base lib new : Contracts) (first : ℕ) (written : List Bool) (rows : List (List ℕ)) (marks : List Bool) (r : MayRenew base lib new first written) (m : AreMarked first written rows marks) (t : AreTied lib rows new) where
  abbrev good : List ℕ → Bool
  good = is_unmarked lib marks

  words : uris lib ≡ uris (with_added base new)
  words = ap uris r.made ∙ uris_added base base r.old new refl r.words

  abbrev pub RenewedTo : ℕ → Contracts → Type 0
  RenewedTo i now = AreRenewedTo good base r.old new i now

  pub renew_begins : RenewedTo 0 lib
  renew_begins = begins good base r.old new lib r.made (base_closed base new lib marks r.taken words (λ i h. m.before i (omega (arith, h, r.len))))

  unmarked_other : (i : ℕ) → i < length new → is_marked (first + i) marks ≡ false → is_marked i written ≡ false
  unmarked_other i h e = go (is_marked i written) refl
    where
      go : (b : Bool) → is_marked i written ≡ b → is_marked i written ≡ false
      go true is = absurd (true≢false (sym (m.itself i (omega (arith, h, t.0)) is) ∙ e))
      go false is = is

  pub renew_stays : (i : ℕ) (now : Contracts) → i < length new → is_marked (first + i) marks ≡ false → RenewedTo i now → RenewedTo (suc i) now
  renew_stays i now h e s =
      at rows i (omega (arith, h, t.0)) (λ row at_row. at new i h (λ d at_new.
      stays_on good base r.old new i now d d s (r.others i (unmarked_other i h e) ∙ at_new) at_new refl
      (names_unmarked base new lib marks r.taken words first written i rows row d m r.len at_row at_new (t.1 i row d at_row at_new) (omega (arith, h)) e)))

  module _ (i : ℕ) (now : Contracts) (d : List ℕ × Object) (at_new : slice_get new i ≡ Some d) (h : i < length new) (s : RenewedTo i now) where
    bad : is_marked (first + i) marks ≡ true → good d.0 ≡ false
    bad e =
        at rows i (omega (arith, h, t.0)) (λ row at_row.
        ap (λ o. not (is_marked_at o marks)) (here base new lib marks r.taken words first written i rows row d m r.len at_row at_new (t.1 i row d at_row at_new) (omega (arith, h)))
        ∙ ap not e)

    pub renew_made : is_marked (first + i) marks ≡ true → RenewedTo (suc i) (with_contract (first + i) (result_of now d.1 None None) now)
    renew_made e =
        at r.old i (omega (arith, h, same_length r.old new r.words)) (λ c at_old.
        made_on good base r.old new i now c d s at_old at_new (omega (arith, h)) (same_uri r.old new i c d r.words at_old at_new) r.taken r.words (first + i) (omega (arith, r.len)) (bad e))

    pub renew_small : parts (result_of now d.1 None None) ≤ 512
    renew_small =
        at r.old i (omega (arith, h, same_length r.old new r.words)) (λ c at_old.
        made_small good base r.old new i now c d s at_old at_new (omega (arith, h)) (same_uri r.old new i c d r.words at_old at_new) r.taken r.words)

  pub renew_ends : (now : Contracts) → RenewedTo (length new) now → now ≡ with_added base new
  renew_ends now s = ends good base r.old new (length new) now refl (sym (same_length r.old new r.words)) s
