use Rattle.std.proofs.Common.{ℕ, List, map, refl, ap, ◌∙◌, is_some}
use Rattle.std.proofs.lemmas.Result.{IfOk-weaker}
use Rattle.ob_site_rules.specs.State.{at}
use Rattle.ob_plain_state.specs.States.{entry_of}
use Rattle.ob_plain_state.specs.declared.log.OpenedLog.{OpenedLog}
use Rattle.ob_site_file.specs.Opened.{site_of}
use Rattle.ob_site_file.specs.Sizes.{IsCounting}
use Rattle.ob_site_file.proofs.Opens.{rolled_there}
use Rattle.ob_site_file.proofs.document.is_large.Goals as goal

pub returns : goal.returns
returns c =
    let o = c.args.opened.now in
    let st = site_of o in
    let counts : IsCounting c.in_ok-counting.counting st.plan st.world.site = record {
      library = c.in_ok-counting.ensures.library;
      fixed = c.in_ok-counting.ensures.plan;
      points = c.in_ok-counting.ensures.points;
      histories = λ t. c.in_ok-counting.ensures.histories t ∙ ap (λ (ls : List (List ℕ × OpenedLog)). is_some (at t (map entry_of ls))) c.as_slice.ensures.value ∙ rolled_there t (map entry_of o.logs.items);
    } in
    IfOk-weaker c.is_too_large.result _ _ (λ large is. is st.plan st.world.site counts refl) c.is_too_large.ensures
