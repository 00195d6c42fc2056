use Rattle.std.proofs.Common.{List, sym, ap, ◌∙◌, subst}
use Rattle.ob_site_rules.specs.State.{State}
use Rattle.ob_site_state.specs.declared.change.Change.{Change}
use Rattle.ob_site_state.specs.Changes.{rewound, CanRewind}
use Rattle.ob_site_state.specs.Contents.{state_in}
use Rattle.ob_site_state.proofs.Rests.{rest_then}
use Rattle.ob_site_state.proofs.Rewinding.{CanRewind-last, rewound-append}
use Rattle.ob_site_state.proofs.contents.Contents.take_all_back.Goals as goal

pub take_back-requires : goal.take_back-requires
take_back-requires c =
    let s = state_in c.loop-change.self in
    (CanRewind-last c.pop.new.self.items c.in-Some.change s (subst (λ (l : List Change). CanRewind l s) c.in-Some.ensures.items c.loop-change.invariant.can)).0

pub loop-change-preserved : goal.loop-change-preserved
loop-change-preserved c =
    let s = state_in c.loop-change.self in
    let rest = CanRewind-last c.pop.new.self.items c.in-Some.change s (subst (λ (l : List Change). CanRewind l s) c.in-Some.ensures.items c.loop-change.invariant.can) in record {
      can = subst (λ (t : State). CanRewind c.pop.new.self.items t) (sym c.take_back.ensures.new) rest.1;
      rewinds =
          ap (rewound c.pop.new.self.items) c.take_back.ensures.new
          ∙ sym (rewound-append c.pop.new.self.items c.in-Some.change s)
          ∙ sym (ap (λ (l : List Change). rewound l s) c.in-Some.ensures.items)
          ∙ c.loop-change.invariant.rewinds;
      rest = rest_then c.args.self.now c.loop-change.self c.take_back.new.self c.loop-change.invariant.rest c.take_back.ensures.rest;
    }
