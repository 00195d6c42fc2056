use Rattle.std.proofs.Common.{◌≡◌, List, length, Some, None, option_map, refl, sym, ap, ◌∙◌}
use Rattle.std.specs.Prelude.{slice_get}
use Rattle.std.proofs.lemmas.Option.{slice_get_read, slice_get_past}
use Rattle.ob_history.specs.Logs.{History}
use Rattle.ob_site_rules.specs.Build.{Path}
use Rattle.ob_site_rules.specs.State.{at}
use Rattle.ob_site_state.specs.Kept.{Kept, log_of}
use Rattle.ob_site_state.proofs.Lookups.{found_log}
use Rattle.ob_site_state.proofs.state.State.log_at.Goals as goal

pub returns-in_default : goal.returns-in_default
returns-in_default c =
    let a = c.self.inside in
    found_log c.args.path.now a.contents.logs.items a.plan.histories None None c.self.invariant.kept.histories (c.in_default.ensures a.plan c.self.invariant.roles) refl
    ∙ ap (λ (k : Kept). at c.args.path.now k.now.logs) c.self.view_is

pub returns-in-Some-get : goal.returns-in-Some-get
returns-in-Some-get c =
    let a = c.self.inside in
    let ls = c.deref.result.now in
    let there : slice_get ls c.in-Some.place ≡ Some c.in-Some-get.entry.now = slice_get_read ls (length ls) c.in-Some.place c.in-Some-get.entry.now refl c.in-Some-get.ensures.lookup.3.0 c.in-Some-get.ensures.lookup.1 in
    found_log c.args.path.now a.contents.logs.items a.plan.histories (Some c.in-Some.place) (Some (log_of c.in-Some-get.entry.now.1)) c.self.invariant.kept.histories (c.in-Some.ensures a.plan c.self.invariant.roles)
    (ap (option_map (λ (l : Path × History). log_of l.1)) (sym there ∙ ap (λ (ls : List (Path × History)). slice_get ls c.in-Some.place) c.deref.ensures.value))
    ∙ ap (λ (k : Kept). at c.args.path.now k.now.logs) c.self.view_is

pub returns-in-None : goal.returns-in-None
returns-in-None c =
    let a = c.self.inside in
    let ls = c.deref.result.now in
    let there : slice_get ls c.in-Some.place ≡ None = slice_get_past ls c.in-Some.place c.in-None.ensures.lookup.3 in
    found_log c.args.path.now a.contents.logs.items a.plan.histories (Some c.in-Some.place) None c.self.invariant.kept.histories (c.in-Some.ensures a.plan c.self.invariant.roles)
    (ap (option_map (λ (l : Path × History). log_of l.1)) (sym there ∙ ap (λ (ls : List (Path × History)). slice_get ls c.in-Some.place) c.deref.ensures.value))
    ∙ ap (λ (k : Kept). at c.args.path.now k.now.logs) c.self.view_is
