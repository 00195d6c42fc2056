use Rattle.std.proofs.Common.{◌≡◌, Bool, true, false, cond, List, [], ◌∷◌, ◌++◌, Option, Some, None, refl, sym, ap, ◌∙◌, append_assoc}
use Rattle.std.specs.Prelude.{◌||◌}
use Rattle.std.specs.Str.{bytes_eq}
use Rattle.std.proofs.lemmas.List.{append-nil}
use Rattle.ob_object.specs.Object.{Object}
use Rattle.ob_watching.specs.Sites.{Site}
use Rattle.ob_watching.specs.Watches.{firsts as firsts_of, among}
use Rattle.ob_site_rules.specs.Build.{Text}
use Rattle.ob_site_rules.specs.Locating.{locate}
use Rattle.ob_site_rules.specs.declared.plan.Plan.{Plan}
use Rattle.ob_site_rules.specs.State.{State}
use Rattle.ob_site_rules.specs.Sites.{site}
use Rattle.ob_site_rules.specs.Watched.{Asked, lease_asked}
use Rattle.ob_requests.specs.Calls.{holds_text, firsts_behind, lease_in}
use Rattle.ob_requests.proofs.laws.as_the_site_says.Goals as goal

or_last : (a b : Bool) → (a || (b || false)) ≡ (b || a)
or_last true true = refl
or_last true false = refl
or_last false true = refl
or_last false false = refl

-- one more text, behind or in front
one_more : (kept : List Asked) (a : Asked) (t : Text) → holds_text (kept ++ a ∷ []) t ≡ (bytes_eq t a.0 || holds_text kept t)
one_more [] a t = or_last false (bytes_eq t a.0)
one_more (k ∷ kept) a t = ap (λ b. bytes_eq t k.0 || b) (one_more kept a t) ∙ turned (bytes_eq t k.0) (bytes_eq t a.0) (holds_text kept t)
  where
    turned : (a b c : Bool) → (a || (b || c)) ≡ (b || (a || c))
    turned true true c = refl
    turned true false c = refl
    turned false true c = refl
    turned false false c = refl

module _ (plan : Plan) where
  abbrev m : Site
  m = site locate plan

  same_firsts : (seen : List Text) (kept asked : List Asked) → ((t : Text) → among m seen t ≡ holds_text kept t) → kept ++ firsts_of m seen asked ≡ firsts_behind kept asked
  same_firsts seen kept [] same = append-nil kept
  same_firsts seen kept (a ∷ asked) same =
      go (among m seen a.0) (holds_text kept a.0) (same a.0) (same_firsts seen kept asked same)
      (same_firsts (a.0 ∷ seen) (kept ++ a ∷ []) asked (λ t. ap (λ b. bytes_eq t a.0 || b) (same t) ∙ sym (one_more kept a t)))
    where
      go : (b c : Bool) → b ≡ c → kept ++ firsts_of m seen asked ≡ firsts_behind kept asked → (kept ++ a ∷ []) ++ firsts_of m (a.0 ∷ seen) asked ≡ firsts_behind (kept ++ a ∷ []) asked → kept ++ cond b (firsts_of m seen asked) (a ∷ firsts_of m (a.0 ∷ seen) asked) ≡ firsts_behind (cond c kept (kept ++ a ∷ [])) asked
      go true true e dropped taken = dropped
      go false false e dropped taken = sym (append_assoc kept (a ∷ []) (firsts_of m (a.0 ∷ seen) asked)) ∙ taken
      go true false e dropped taken = absurd (cc)
      go false true e dropped taken = absurd (cc)

  same_lease : (s : State) (input : Option Object) → lease_asked s input ≡ lease_in s.library input
  same_lease s None = refl
  same_lease s (Some o) = refl

pub returns : goal.returns
returns c plan = record { first_asked = λ asked. same_firsts plan [] [] asked (λ t. refl); lease = same_lease plan }
