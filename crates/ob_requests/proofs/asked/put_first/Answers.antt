use Rattle.std.proofs.Common.{◌||◌, ◌++◌, ◌∷◌, [], ℕ, List, sym, ap, ◌∙◌}
use Rattle.std.specs.Str.{bytes_eq}
use Rattle.ob_contracts.specs.Telling.{has_text}
use Rattle.ob_contracts.proofs.Heads.{text_more, not_false}
use Rattle.ob_site_rules.specs.Watched.{Asked}
use Rattle.ob_values.proofs.Bools.{not_true}
use Rattle.ob_requests.proofs.Seeing.{put_again, put_new}
use Rattle.ob_requests.proofs.asked.put_first.Goals as goal

pub returns-then-not-fresh : goal.returns-then-not-fresh
returns-then-not-fresh c = λ have.
    put_again c.args.seen.now c.insert.new.self c.args.kept.now.items c.args.asked.now
    (λ t. text_more c.args.seen.now c.insert.new.self c.as_str.result c.in_ok-fresh.ensures.updates t ∙ ap (λ (w : List ℕ). has_text c.args.seen.now t || bytes_eq w t) c.as_str.ensures.value) have
    (ap (has_text c.args.seen.now) (sym c.as_str.ensures.value) ∙ not_false (has_text c.args.seen.now c.as_str.result.now) (sym c.in_ok-fresh.ensures.added ∙ c.if-not-fresh.true))

pub returns : goal.returns
returns c = λ have.
    put_new c.args.seen.now c.insert.new.self c.args.kept.now.items c.args.asked.now
    (λ t. text_more c.args.seen.now c.insert.new.self c.as_str.result c.in_ok-fresh.ensures.updates t ∙ ap (λ (w : List ℕ). has_text c.args.seen.now t || bytes_eq w t) c.as_str.ensures.value) have
    c.push.new.self.items
    (ap (has_text c.args.seen.now) (sym c.as_str.ensures.value) ∙ not_true (has_text c.args.seen.now c.as_str.result.now) (sym c.in_ok-fresh.ensures.added ∙ c.if-not-fresh.false))
    (c.in_ok-push.ensures.items ∙ ap (λ (x : Asked). c.args.kept.now.items ++ x ∷ []) c.in_ok-copy.ensures)
