use Rattle.std.proofs.Common.{◌≡◌, ◌++◌, [], refl, sym, ap, ◌∙◌, take, append_assoc, arith, take-append-drop}
use Rattle.ob_io.specs.Told.{Gains-none, Gains-then, Gains-kept}
use Rattle.ob_io.proofs.link.send.Goals as goal

pub loop-rest-init : goal.loop-rest-init
loop-rest-init g c = record { sent = []; split = refl; gained = Gains-none _; later = omega arith; left = refl; took = refl; reads = refl }

pub loop-rest-preserved : goal.loop-rest-preserved
loop-rest-preserved g c =
    let i = c.loop-rest.invariant in
    let rest = c.loop-rest.rest.now in
    let count = c.in-Ok.count in
    let whole : take count rest ++ c.split_at.result.1.now ≡ rest = ap (λ t. take count rest ++ t) c.split_at.ensures.back ∙ take-append-drop count rest in
    record {
      sent = i.sent ++ take count rest;
      split = i.split ∙ ap (λ t. i.sent ++ t) (sym whole) ∙ sym (append_assoc i.sent (take count rest) c.split_at.result.1.now);
      gained = Gains-then _ _ _ _ _ i.gained c.in-Ok.ensures.bytes;
      later = omega (arith, c.in-Ok.ensures.cause.later);
      left = c.write.ensures.apart.0 ∙ i.left;
      took = c.write.ensures.apart.1 ∙ i.took;
      reads = c.write.ensures.apart.2 ∙ i.reads;
    }

pub returns-in_default-clause-sends : goal.returns-in_default-clause-sends
returns-in_default-clause-sends g c =
    let i = c.loop-rest.invariant in
    record {
      sent = i.sent;
      gained = Gains-kept _ _ _ _ i.gained c.in_default.ensures.bytes;
      front = (c.loop-rest.rest.now, i.split);
      whole = tt;
    }
