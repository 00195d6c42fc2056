use Rattle.std.proofs.Common.{◌≡◌, ℕ, List, ap, sym, ◌∙◌}
use Rattle.std.proofs.lemmas.Result.{IfOk-weaker}
use Rattle.ob_watch.specs.Tables.{lapsed_at}
use Rattle.ob_watching.specs.Tables.{numbers_of}
use Rattle.ob_requests.proofs.Apart.{act_apart}
use Rattle.ob_site_rules.specs.Actions.{act_located}
use Rattle.ob_site_rules.specs.Locating.{locate}
use Rattle.ob_site.specs.Alike.{AnswersAlike}
use Rattle.ob_site.proofs.acting.numbers_for.Goals as goal

pub returns-then-posts_list : goal.returns-then-posts_list
returns-then-posts_list c =
    let k = c.args.state.now in
    let t = c.args.watches.now in
    let r = c.args.request.now in
    IfOk-weaker c.live_numbers.result (λ numbers. numbers.items ≡ numbers_of (lapsed_at c.time.result t).watches) (λ numbers. AnswersAlike r numbers.items (numbers_of (lapsed_at k.time t).watches))
    (λ numbers is plan s now p. ap (λ (ns : List ℕ). act_located locate plan s ns now r p) (is ∙ ap (λ (time : ℕ). numbers_of (lapsed_at time t).watches) c.time.ensures)) c.live_numbers.ensures

pub returns : goal.returns
returns c =
    let k = c.args.state.now in
    let t = c.args.watches.now in
    λ plan s now p. act_apart locate plan c.new.result.items (numbers_of (lapsed_at k.time t).watches) now s c.args.request.now p (sym c.posts_list.ensures ∙ c.if-posts_list.false)
