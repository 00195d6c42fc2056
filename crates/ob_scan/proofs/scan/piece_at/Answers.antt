use Rattle.std.proofs.Common.{◌≡◌, ℕ, ◌+◌, ◌-◌, ◌≤◌, List, length, take, drop, sym, ap, subst, ◌∙◌, arith, length-drop}
use Rattle.std.proofs.lemmas.Grind.{common_steps}
use Rattle.ob_scan.specs.Constructs.{found, scan}
use Rattle.ob_scan.specs.View.{construct_of}
use Rattle.ob_scan.specs.Waiting.{IsWaiting}
use Rattle.ob_scan.proofs.Meanings.{Fine, scan_fine, has_value}
use Rattle.ob_scan.proofs.Waits.{more_before}
use Rattle.ob_scan.proofs.Places.{found_at, refused_at, advances, lead_short, first_at}
use Rattle.ob_scan.proofs.scan.piece_at.Goals as goal

from_place : (bytes : List ℕ) (at : ℕ) → at ≤ length bytes → take (length bytes - at) (drop at bytes) ≡ drop at bytes
from_place bytes at le = grind (arith, common_steps)

pub overflow_sub-result : goal.overflow_sub-result
overflow_sub-result c =
    let short : length c.skip_lead-here.result.now ≤ length (take (length c.args.bytes.now - c.args.at) (drop c.args.at c.args.bytes.now)) = lead_short c.args.place (take (length c.args.bytes.now - c.args.at) (drop c.args.at c.args.bytes.now)) c.skip_lead-here.result.now c.skip_lead-here.ensures in
    let part : length (take (length c.args.bytes.now - c.args.at) (drop c.args.at c.args.bytes.now)) ≡ length (drop c.args.at c.args.bytes.now) = ap length (from_place c.args.bytes.now c.args.at c.requires) in
    omega (arith, length-drop c.args.at c.args.bytes.now)

pub overflow_sub-result-in-Found : goal.overflow_sub-result-in-Found
overflow_sub-result-in-Found c =
    (found_at c.args.bytes.now _ c.args.at c.args.place c.args.end (construct_of c.in-Found.piece) c.in-Found.rest.now c.requires (from_place c.args.bytes.now c.args.at c.requires) c.in-Found.ensures).short

pub overflow_add-result : goal.overflow_add-result
overflow_add-result c =
    let le : c.args.at + c.in-Fault.k ≤ length c.args.bytes.now = refused_at c.args.bytes.now _ c.args.at c.args.place c.args.end c.in-Fault.k c.in-Fault.why c.requires (from_place c.args.bytes.now c.args.at c.requires) c.in-Fault.ensures in
    omega arith

pub returns-in-Found-clause-found : goal.returns-in-Found-clause-found
returns-in-Found-clause-found c =
    let f = found_at c.args.bytes.now _ c.args.at c.args.place c.args.end (construct_of c.in-Found.piece) c.in-Found.rest.now c.requires (from_place c.args.bytes.now c.args.at c.requires) c.in-Found.ensures in (
      ap (scan c.args.place c.args.end) (sym (from_place c.args.bytes.now c.args.at c.requires)) ∙ sym c.in-Found.ensures ∙ ap (found (construct_of c.in-Found.piece)) (sym f.behind),
      first_at c.args.place c.args.bytes.now (take (length c.args.bytes.now - c.args.at) (drop c.args.at c.args.bytes.now)) c.skip_lead-here.result.now c.args.at c.requires (from_place c.args.bytes.now c.args.at c.requires) c.skip_lead-here.ensures,
      f.later,
      omega arith,
    )

pub returns-in-Found-clause-advances : goal.returns-in-Found-clause-advances
returns-in-Found-clause-advances c =
    let f = found_at c.args.bytes.now _ c.args.at c.args.place c.args.end (construct_of c.in-Found.piece) c.in-Found.rest.now c.requires (from_place c.args.bytes.now c.args.at c.requires) c.in-Found.ensures in
    advances c.in-Found.piece c.args.at (length c.args.bytes.now - length c.skip_lead-here.result.now) (length c.args.bytes.now - length c.in-Found.rest.now) (length c.in-Found.rest.now) (length c.args.bytes.now - c.args.at) f.shorter (λ h. omega (arith, h))

pub returns-in-Found-clause-values : goal.returns-in-Found-clause-values
returns-in-Found-clause-values c =
    has_value c.in-Found.piece (length c.args.bytes.now - length c.skip_lead-here.result.now) (length c.args.bytes.now - length c.in-Found.rest.now) c.args.end
    (subst (Fine c.args.end) (sym c.in-Found.ensures) (scan_fine c.args.place c.args.end _))

pub wait_at-requires : goal.wait_at-requires
wait_at-requires c = more_before c.args.place c.args.end (take (length c.args.bytes.now - c.args.at) (drop c.args.at c.args.bytes.now)) c.in-More.ensures

pub returns-in-More-clause-waits : goal.returns-in-More-clause-waits
returns-in-More-clause-waits c = subst (λ (xs : List ℕ). IsWaiting c.args.place xs c.wait_at.result) (from_place c.args.bytes.now c.args.at c.requires) c.wait_at.ensures
