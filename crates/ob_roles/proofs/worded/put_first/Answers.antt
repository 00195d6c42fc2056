use Rattle.std.proofs.Common.{◌≡◌, ℕ, List, Some, sym, ◌∙◌, subst}
use Rattle.std.specs.Ordering.{nat_cmp}
use Rattle.std.specs.Cmp.Lexicographic.{slice_cmp}
use Rattle.std.specs.BTreeMap.{Updates}
use Rattle.ob_roles.proofs.Tabled.{holds_there, holds_more}
use Rattle.ob_roles.proofs.worded.put_first.Goals as goal

pub returns-in_ok-insert : goal.returns-in_ok-insert
returns-in_ok-insert c = λ lib holds.
    holds_more c.args.table.now c.insert.new.self lib c.args.word.now c.args.made (sym c.contains_key.ensures ∙ c.if-not-contains_key.true)
    (subst (λ (k : List ℕ). Updates (slice_cmp nat_cmp) c.args.table.now c.insert.new.self k (Some c.args.made)) c.in_ok-word.ensures c.in_ok-insert.ensures.updates) holds

pub returns-else-not-contains_key : goal.returns-else-not-contains_key
returns-else-not-contains_key c = λ lib holds. holds_there c.args.table.now lib c.args.word.now c.args.made (sym c.contains_key.ensures ∙ c.if-not-contains_key.false) holds
