use Rattle.std.proofs.Common.{◌≡◌, Option, sym, subst, ◌∙◌, ap, refl}
use Rattle.std.specs.Option.{option_copied}
use Rattle.ob_object.specs.Object.{Object}
use Rattle.ob_contracts.specs.Inherit.{Words, implied_by, overridden}
use Rattle.ob_contracts.specs.Tellers.{Telling, TellsIn}
use Rattle.ob_tree.specs.Contexts.{handed_down}
use Rattle.ob_tree.specs.Standings.{context}
use Rattle.ob_tree.proofs.Walking.{stands_under}
use Rattle.ob_tree.proofs.standing.Standing.inside.Goals as goal

pub invariant_of-result : goal.invariant_of-result
invariant_of-result g c =
    let h = c.args.own.now.head in
    let lib = c.args.self.now.library.now in
    let gives = c.implied_by.ensures ∙ c.view_told-view.ensures.words in
    record {
      stand =
          subst (λ (ws : Option Words). TellsIn lib (option_copied c.items_of.result) ws) (sym gives)
          (subst (λ (t : Option Telling). TellsIn lib t (handed_down (context c.args.self.now) h).implied) (sym c.items_of.ensures) c.requires.items);
    }

pub returns-clause-inside : goal.returns-clause-inside
returns-clause-inside g c =
    stands_under (context c.args.self.now) c.args.own.now.head (option_copied c.args.name) _ refl (c.implied_by.ensures ∙ c.view_told-view.ensures.words)
    (c.overridden.ensures ∙ ap (overridden (option_copied c.args.name)) c.view_told-view.ensures.sources)
