use Rattle.std.proofs.Common.{◌≡◌, true, Some, IfOk, Vec, Global, map, subst}
use Rattle.ob_super.specs.declared.upstream.Upstream.{Upstream}
use Rattle.ob_super.specs.Names.{are_apart}
use Rattle.ob_super.specs.Configs.{Judges}
use Rattle.ob_super.specs.Upstreams.{configured, offences}
use Rattle.ob_super.specs.InHand.{upstream}
use Rattle.ob_super.proofs.DownLemmas.{new_ok, new_apart, new_err}
use Rattle.ob_super.proofs.state.Super.new.Goals as goal

pub returns-in-Err : goal.returns-in-Err
returns-in-Err g c = record {
  configured = new_err g.row.L.Denot c.args.config.now c.args.wait_ms (λ (all : Vec Upstream Global). configured c.args.config.now ≡ Some (map upstream all.items)) c.in-Err.fault
      (subst (Judges (offences c.args.config.now) (λ (all : Vec Upstream Global). configured c.args.config.now ≡ Some (map upstream all.items))) c.in-Err.is c.upstreams.ensures.tells);
}

pub invariant_of-result : goal.invariant_of-result
invariant_of-result g c = record {
  apart = new_apart c.args.wait_ms c.in-Ok.upstreams.items c.in_ok-followed-in-Ok.followed.items
      (subst (λ r. IfOk r (λ (all : Vec Upstream Global). are_apart (map (λ (u : Upstream). u.name) all.items) ≡ true)) c.in-Ok.is c.upstreams.ensures.apart) c.in_ok-followed-in-Ok.ensures;
}

pub returns-in_ok-followed-in-Ok : goal.returns-in_ok-followed-in-Ok
returns-in_ok-followed-in-Ok g c = record {
  configured =
      let told = subst (Judges (offences c.args.config.now) (λ (all : Vec Upstream Global). configured c.args.config.now ≡ Some (map upstream all.items))) c.in-Ok.is c.upstreams.ensures.tells in
      new_ok c.args.config.now c.args.wait_ms c.in-Ok.upstreams.items c.in_ok-followed-in-Ok.followed.items told.0 told.1 c.in_ok-followed-in-Ok.ensures;
}
