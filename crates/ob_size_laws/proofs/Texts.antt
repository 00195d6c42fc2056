-- The law, for proofs.
use Rattle.ob_size_laws.specs.Texts.{TextIsShort}
use Rattle.ob_size_laws.proofs.Printed.{parts_are_short}
use Rattle.ob_size_laws.proofs.Elements.{text_most}

pub text_is_short : TextIsShort
text_is_short = text_most parts_are_short
