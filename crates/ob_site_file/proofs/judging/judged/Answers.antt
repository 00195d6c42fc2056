use Rattle.std.proofs.Common.{◌≡◌, rules, ◌∙◌}
use Rattle.ob_contracts.specs.Standard.{standard}
use Rattle.ob_site_rules.specs.Writes.{site_contracts}
use Rattle.ob_step_laws.proofs.Taking.{added_are_taken}
use Rattle.ob_site_file.specs.Passes.{site_roles}
use Rattle.ob_site_file.proofs.judging.judged.Goals as goal

pub returns-in_err-library-clause-err : goal.returns-in_err-library-clause-err
returns-in_err-library-clause-err c = let e = c.in_err-library.ensures.err c.args.base.now in search rules

pub returns-in_err-check_paths-clause-err : goal.returns-in_err-check_paths-clause-err
returns-in_err-check_paths-clause-err c =
    let root = c.args.root.now in
    let taken = c.in_ok-library.ensures.ok in
    let added = (added_are_taken standard c.in_ok-library.library (site_contracts root) taken).1 in
    let same : c.as_slice.result.now ≡ site_roles root = c.as_slice.ensures.value ∙ c.in_ok-roles.ensures added in
    let e = c.in_err-check_paths.ensures.err c.in_ok-library.library same taken in
    search rules

pub returns-in_err-check_rules-clause-err : goal.returns-in_err-check_rules-clause-err
returns-in_err-check_rules-clause-err c =
    let root = c.args.root.now in
    let taken = c.in_ok-library.ensures.ok in
    let added = (added_are_taken standard c.in_ok-library.library (site_contracts root) taken).1 in
    let same : c.as_slice.result.now ≡ site_roles root = c.as_slice.ensures.value ∙ c.in_ok-roles.ensures added in
    let same2 : c.as_slice-2.result.now ≡ site_roles root = c.as_slice-2.ensures.value ∙ c.in_ok-roles.ensures added in
    let e = c.in_err-check_rules.ensures.err c.args.base.now c.in_ok-library.library same2 taken (c.in_ok-check_paths.ensures.ok same) in
    search rules

pub returns-clause-roles : goal.returns-clause-roles
returns-clause-roles c =
    let root = c.args.root.now in
    c.in_ok-roles.ensures (added_are_taken standard c.in_ok-library.library (site_contracts root) c.in_ok-library.ensures.ok).1

pub returns-clause-apart : goal.returns-clause-apart
returns-clause-apart c =
    let root = c.args.root.now in
    let taken = c.in_ok-library.ensures.ok in
    let added = (added_are_taken standard c.in_ok-library.library (site_contracts root) taken).1 in
    let same : c.as_slice.result.now ≡ site_roles root = c.as_slice.ensures.value ∙ c.in_ok-roles.ensures added in
    record { library = c.in_ok-library.library; taken = taken; once = c.in_ok-check_paths.ensures.ok same; sound = c.in_ok-check_rules.ensures.ok (c.as_slice-2.ensures.value ∙ c.in_ok-roles.ensures added) }
