use Rattle.std.proofs.Common.{◌≡◌, ℕ, ◌<◌, false, ap, nat_le, subst, ◌∙◌, arith}
use Rattle.std.specs.Prelude.{count_by}
use Rattle.std.proofs.lemmas.Bool.Decides.{nat_tests}
use Rattle.ob_watch.specs.Giving.{is_busy}
use Rattle.ob_watch.proofs.GivingLemmas.{few_busy}
use Rattle.ob_watch.proofs.TableLemmas.{counted}
use Rattle.ob_watch.proofs.watches.are_thousand.Goals as goal

pub returns-then-len-ge1000 : goal.returns-then-len-ge1000
returns-then-len-ge1000 c =
    ap (nat_le 1000)
    (c.count_busy.ensures ∙ ap (count_by (is_busy c.args.now)) (c.as_slice.ensures ∙ c.values.ensures.rest) ∙ counted (is_busy c.args.now) c.args.held.now.entries)

pub returns-else-len-ge1000 : goal.returns-else-len-ge1000
returns-else-len-ge1000 c =
    let few : nat_le 1000 c.len.result ≡ false = grind (arith, nat_tests) in
    few ∙ few_busy c.args.now c.args.held.now.entries (subst (λ (n : ℕ). n < 1000) c.len.ensures.len c.if-len-ge1000.false)
