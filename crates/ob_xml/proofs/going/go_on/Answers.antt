use Rattle.std.proofs.Common.{ℕ, ◌+◌, ◌≤◌, List, ◌++◌, length, false, refl, sym, subst, arith}
use Rattle.ob_xml.specs.Leading.{Leads}
use Rattle.ob_xml.specs.Judged.{max_len}
use Rattle.ob_xml.specs.Views.{state_of}
use Rattle.ob_xml.proofs.Takings.{taken_behind}
use Rattle.ob_xml.proofs.going.go_on.Goals as goal

pub returns-in-Ok : goal.returns-in-Ok
returns-in-Ok c = λ gone e l.
    let few : c.args.base + length c.args.kept.items ≤ max_len = omega (arith, c.requires.small, c.args.kept.ok.0) in
    taken_behind _ gone c.args.kept.items c.deref.result.now c.args.base c.in-Ok-Waiting.at c.in-Ok-Waiting.from c.deref.ensures.value e few c.in-Ok.ensures refl refl
    (rw c.in-Ok-Waiting.field-0-is at c.in-Ok-Waiting.ensures.shaped)
    ((rw c.in-Ok-Waiting.field-0-is at c.in-Ok-Waiting.ensures.ran) gone e (subst (λ (xs : List ℕ). Leads false (gone ++ xs) (state_of c.args.state) (c.args.base + c.args.at) c.args.base) (sym c.deref.ensures.value) l))
