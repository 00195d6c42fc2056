use Rattle.std.proofs.Common.{ap, ◌∙◌, sym}
use Rattle.std.specs.Option.{option_copied}
use Rattle.ob_watch.proofs.TableLemmas.{none_live, one_live, over_live}
use Rattle.ob_watch.proofs.watches.live_watch.Goals as goal

pub returns-in_err-watch : goal.returns-in_err-watch
returns-in_err-watch c =
    ap option_copied c.from_residual.ensures
    ∙ none_live c.args.now c.args.number c.args.held.now.entries c.requires (sym c.get.ensures.value ∙ ap option_copied c.in_err-watch.was)

pub returns-then-has_lapsed : goal.returns-then-has_lapsed
returns-then-has_lapsed c =
    over_live c.args.now c.args.number c.args.held.now.entries c.requires c.in_ok-watch.watch.now (sym c.get.ensures.value ∙ ap option_copied c.in_ok-watch.was)
    (sym c.has_lapsed.ensures ∙ c.if-has_lapsed.true)

pub returns : goal.returns
returns c =
    one_live c.args.now c.args.number c.args.held.now.entries c.requires c.in_ok-watch.watch.now (sym c.get.ensures.value ∙ ap option_copied c.in_ok-watch.was)
    (sym c.has_lapsed.ensures ∙ c.if-has_lapsed.false)
