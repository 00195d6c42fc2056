-- The object of a watch tells its number, and isn't a refusal.
use Rattle.std.proofs.Common.{ℕ, ◌≡◌, ◌≢◌, ◌<◌, ◌^◌, List, [], ◌∷◌, ◌++◌, ap}
use Rattle.std.specs.Prelude.{decimal, codes, unwrap_or}
use Rattle.std.proofs.lemmas.Fmt.{decimal_injective}
use Rattle.std.proofs.lemmas.List.{same_from_push}
use Rattle.ob_object.specs.declared.kind.Kind.TheVariants as kind
use Rattle.ob_object.specs.Kinds.{number}
use Rattle.ob_object.specs.Object.{Object}
use Rattle.ob_watching.specs.Operations.{Told, Refused}
use Rattle.ob_site_rules.specs.Build.{Text}
use Rattle.ob_site_rules.specs.declared.fault.Fault.{Fault}
use Rattle.ob_site_rules.specs.declared.plan.Plan.{Plan}
use Rattle.ob_site_rules.specs.declared.watch_part.WatchPart.TheVariants.{Whole}
use Rattle.ob_site_rules.specs.Paths.{watch_path}
use Rattle.ob_site_rules.specs.Replies.{sent}

abbrev rest_of : List ℕ → List ℕ
rest_of [] = []
rest_of (x ∷ xs) = xs

same_behind : (front xs ys : List ℕ) → front ++ xs ≡ front ++ ys → xs ≡ ys
same_behind [] xs ys h = h
same_behind (c ∷ front) xs ys h = same_behind front xs ys (ap rest_of h)

abbrev href_of : Object → Text
href_of o = unwrap_or o.head.href []

pub told : (plan : Plan) (j k a b : ℕ) → j < 2 ^ 64 → k < 2 ^ 64 → sent plan (Told j a Whole) ≡ sent plan (Told k b Whole) → j ≡ k
told plan j k a b p q h =
    let paths : watch_path plan j ≡ watch_path plan k = ap href_of h in
    let front = plan.root ++ codes "watch/" in
    let numbers : front ++ decimal j ≡ front ++ decimal k = (same_from_push (front ++ decimal j) (front ++ decimal k) 47 47 paths).0 in
    decimal_injective j k p q (same_behind front (decimal j) (decimal k) numbers)

abbrev kind_number : Object → ℕ
kind_number o = number o.head.kind

not_err : number kind.Obj ≡ number kind.Err → ⊥
not_err e = absurd cc

pub told_refused : (plan : Plan) (n lease : ℕ) (fault : Fault) → sent plan (Told n lease Whole) ≢ sent plan (Refused fault)
told_refused plan n lease fault e = not_err (ap kind_number e)
