-- Rules that are numbered one after another.
use Rattle.std.proofs.Common.{List, Some, [], ap, append_assoc, arith, drop, get_or, length, suc, sym, zero, ℕ, ◌++◌, ◌+◌, ◌<◌, ◌∙◌, ◌∷◌, ◌≡◌, ◌≤◌}
use Rattle.std.specs.Prelude.{slice_get}
use Rattle.ob_alarms.specs.Soundness.{SourcesDiffer}
use Rattle.ob_alarms.specs.declared.rule.Rule.{Rule}
use Rattle.ob_site_rules.specs.Build.{Path}
use Rattle.ob_contracts.proofs.Children.{append-none}
use Rattle.ob_site_file.proofs.Rests.{rest_more}
use Rattle.ob_site_rules.specs.State.{numbered_from}
use Rattle.ob_site_rules.specs.declared.plan.PointRule.{PointRule}
use Rattle.ob_values.proofs.Lists.{drop_all}

source_at : (n : ℕ) (rs : List PointRule) (i : ℕ) (r : Rule) → slice_get (numbered_from n rs) i ≡ Some r → r.source ≡ n + i
source_at n [] i r is = cc
source_at n (x ∷ xs) zero r is =
    let e : record { source = n; path = x.source; low = x.low; high = x.high; needs_ack = x.needs_ack } ≡ r = cc in
    omega (arith, ap (λ (q : Rule). q.source) e)
source_at n (x ∷ xs) (suc i) r is = omega (arith, source_at (n + 1) xs i r is)

pub sources_differ : (rules : List Rule) (rs : List PointRule) → rules ≡ numbered_from 0 rs → SourcesDiffer rules
sources_differ rules rs same = λ i j r s a b e.
    omega (arith, source_at 0 rs i r (ap (λ l. slice_get l i) (sym same) ∙ a), source_at 0 rs j s (ap (λ l. slice_get l j) (sym same) ∙ b), e)

-- the rule of a point at a place, under a path
abbrev pub with_path : ℕ → PointRule → Path → Rule
with_path i r p = record { source = i; path = p; low = r.low; high = r.high; needs_ack = r.needs_ack }

-- one rule more
pub numbered_more : (rs : List PointRule) (i : ℕ) (r : PointRule) (made new : List Rule) (rule : Rule) → i < length rs → r ≡ get_or rs i r → new ≡ made ++ rule ∷ []
    → rule ≡ record { source = i; path = r.source; low = r.low; high = r.high; needs_ack = r.needs_ack }
    → made ++ numbered_from i (drop i rs) ≡ numbered_from 0 rs → new ++ numbered_from (i + 1) (drop (i + 1) rs) ≡ numbered_from 0 rs
numbered_more rs i r made new rule h is put this held =
    let rest = numbered_from (i + 1) (drop (i + 1) rs) in
    ap (λ l. l ++ rest) put
    ∙ append_assoc made (rule ∷ []) rest
    ∙ ap (λ x. made ++ x ∷ rest) this
    ∙ ap (λ (l : List PointRule). made ++ numbered_from i l) (sym (rest_more rs i r h is))
    ∙ held

pub numbered_all : (rs : List PointRule) (i : ℕ) (made : List Rule) → length rs ≤ i → made ++ numbered_from i (drop i rs) ≡ numbered_from 0 rs → made ≡ numbered_from 0 rs
numbered_all rs i made h held =
    append-none made ∙ ap (λ (l : List PointRule). made ++ numbered_from i l) (sym (drop_all rs i h)) ∙ held
