use Rattle.std.proofs.Common.{List, ℕ, Option, ap}
use Rattle.ob_object.specs.Object.{Object}
use Rattle.ob_record.proofs.Bodies.{refused_body, bodies_found, bodies_none}
use Rattle.ob_record.proofs.decode.object_of.Goals as goal

pub returns-in-Ok-clause-found : goal.returns-in-Ok-clause-found
returns-in-Ok-clause-found c =
    bodies_found c.carried.ensures c.args.bytes.now c.in-Ok.doc.ns c.in-Ok.doc.root c.into_parts-parts.result.1 c.if_canonical.result
    (ap (λ (p : Option (List ℕ) × Object). p.1) c.into_parts-parts.ensures) c.in-Ok.ensures.spelled c.if_canonical.ensures.found

pub returns-in-Ok-clause-none : goal.returns-in-Ok-clause-none
returns-in-Ok-clause-none c =
    bodies_none c.text_spells.ensures c.one_document.ensures c.args.bytes.now c.in-Ok.doc.ns c.in-Ok.doc.root c.into_parts-parts.result.1 c.if_canonical.result
    (ap (λ (p : Option (List ℕ) × Object). p.1) c.into_parts-parts.ensures) c.in-Ok.ensures.spelled c.if_canonical.ensures.other

pub returns-in_default-clause-none : goal.returns-in_default-clause-none
returns-in_default-clause-none c = refused_body c.text_spells.ensures c.args.bytes.now (c.in-Err.ensures.unspelled c.in_default.not-Memory)
