-- The hrefs that were seen, as a set.
use Rattle.std.proofs.Common.{◌≡◌, ℕ, Bool, true, false, ◌||◌, cond, List, [], ◌∷◌, ◌++◌, refl, sym, ap, ap₂, ◌∙◌, true≢false}
use Rattle.std.proofs.Math.Bool.{or-false}
use Rattle.std.specs.BTreeSet.{BTreeSet}
use Rattle.std.specs.Str.{bytes_eq}
use Rattle.std.proofs.lemmas.List.Folds.{list_any-append}
use Rattle.std.proofs.lemmas.Slice.Eq.{bytes_eq-Decides}
use denote.Ref.{Bor}
use Rattle.ob_contracts.specs.Telling.{has_text}
use Rattle.ob_site_rules.specs.Build.{Text}
use Rattle.ob_site_rules.specs.Watched.{Asked}
use Rattle.ob_requests.specs.Calls.{holds_text, HaveSeen, ArePut}

either_way : (x y : List ℕ) → bytes_eq x y ≡ bytes_eq y x
either_way x y = go (bytes_eq x y) (bytes_eq y x) refl refl
  where
    go : (b c : Bool) → bytes_eq x y ≡ b → bytes_eq y x ≡ c → b ≡ c
    go true true e f = refl
    go true false e f = absurd (true≢false (sym ((bytes_eq-Decides y x).1 (sym ((bytes_eq-Decides x y).0 e))) ∙ f))
    go false true e f = absurd (true≢false (sym ((bytes_eq-Decides x y).1 (sym ((bytes_eq-Decides y x).0 f))) ∙ e))
    go false false e f = refl

module _ (set new : BTreeSet (Bor (List ℕ))) (kept : List Asked) (a : Asked) (more : (t : Text) → has_text new t ≡ (has_text set t || bytes_eq a.0 t)) (have : HaveSeen set kept) where
  -- its href was seen
  pub put_again : has_text set a.0 ≡ true → ArePut new kept kept a
  put_again there = record {
    kept = sym (ap (λ b. cond b kept (kept ++ a ∷ [])) (sym (have a.0) ∙ there));
    have = λ t. more t ∙ go t (bytes_eq a.0 t) refl ∙ have t;
  }
    where
      go : (t : Text) (b : Bool) → bytes_eq a.0 t ≡ b → (has_text set t || b) ≡ has_text set t
      go t true same =
          let seen : has_text set t ≡ true = ap (has_text set) (sym ((bytes_eq-Decides a.0 t).0 same)) ∙ there in
          ap (λ b. b || true) seen ∙ sym seen
      go t false other = or-false (has_text set t)

  -- it is put
  pub put_new : (all : List Asked) → has_text set a.0 ≡ false → all ≡ kept ++ a ∷ [] → ArePut new kept all a
  put_new all gone is = record {
    kept = is ∙ sym (ap (λ b. cond b kept (kept ++ a ∷ [])) (sym (have a.0) ∙ gone));
    have = λ t.
        more t
        ∙ ap₂ (λ b c. b || c) (have t) (either_way a.0 t ∙ sym (or-false (bytes_eq t a.0)))
        ∙ sym (list_any-append (λ (x : Asked). bytes_eq t x.0) kept (a ∷ []))
        ∙ ap (λ (l : List Asked). holds_text l t) (sym is);
  }
