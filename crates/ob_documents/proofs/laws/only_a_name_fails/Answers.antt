use Rattle.ob_documents.proofs.Fitting.{known_parts, no_name, part_keeps}
use Rattle.ob_documents.proofs.laws.only_a_name_fails.Goals as goal

pub returns : goal.returns
returns c = λ h n text f p fits e other r. let is = known_parts h.kind n f e in part_keeps h f text p is.applies_is (no_name n f is.field_is other) r fits
