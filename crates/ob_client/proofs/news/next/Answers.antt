use Rattle.std.proofs.Common.{◌≡◌, Some, ap, sym, subst, ◌∙◌}
use Rattle.std.specs.Prelude.{IfOk}
use Rattle.ob_watching.specs.WatchOuts.{Text, Held}
use Rattle.ob_client.specs.Mirrors.{found, can_follow}
use Rattle.ob_client.proofs.ShownLemmas.{some_text, next_some, next_none}
use Rattle.ob_client.proofs.TableLemmas.{own_found}
use Rattle.ob_client.proofs.news.next.Goals as goal

pub continued-requires-clause-href : goal.continued-requires-clause-href
continued-requires-clause-href c =
    some_text c.args.entry.now.head.href c.requires.href
    ∙ ap (λ x. Some x) (sym c.text_of.ensures ∙ own_found c.text_of.result.now c.args.table.now c.in-Some.old.now (sym c.in-Some.ensures))

pub continued-requires-clause-counted : goal.continued-requires-clause-counted
continued-requires-clause-counted c =
    ap (λ o. can_follow o c.args.entry.now) (c.in-Some.ensures ∙ ap (λ (t : Text). found t c.args.table.now) c.text_of.ensures) ∙ c.requires.counted

pub returns-in-Some : goal.returns-in-Some
returns-in-Some c =
    let there = sym (c.in-Some.ensures ∙ ap (λ (t : Text). found t c.args.table.now) c.text_of.ensures) in
    let same = sym (own_found c.text_of.result.now c.args.table.now c.in-Some.old.now (sym c.in-Some.ensures)) ∙ c.text_of.ensures in
    subst (λ (h : Held). IfOk c.continued.result (λ kept. kept ≡ h)) (next_some c.args.table.now c.args.entry.now c.in-Some.old.now there same) c.continued.ensures

pub returns-in-None : goal.returns-in-None
returns-in-None c =
    let there = sym (c.in-None.ensures ∙ ap (λ (t : Text). found t c.args.table.now) c.text_of.ensures) in
    subst (λ (h : Held). IfOk c.changed.result (λ kept. kept ≡ h)) (next_none c.args.table.now c.args.entry.now there) c.changed.ensures
