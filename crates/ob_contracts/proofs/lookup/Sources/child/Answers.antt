use Rattle.std.proofs.Common.{Option, sym, ap, ◌∙◌}
use Rattle.std.specs.Option.{option_copied}
use Rattle.ob_contracts.specs.Places.{named_in, sources_of}
use Rattle.ob_contracts.specs.Tellers.{Telling}
use Rattle.ob_contracts.proofs.lookup.Sources.child.Goals as goal

pub returns-in-Some : goal.returns-in-Some
returns-in-Some c =
    let s = c.args.self.now in
    c.told_child.ensures
    ∙ sym (ap (λ (t : Option Telling). named_in s.library.now t (sources_of s) (option_copied s.over) c.args.name.now) (ap option_copied c.in-Some.is))

pub returns-in-None : goal.returns-in-None
returns-in-None c =
    let s = c.args.self.now in
    c.first_child.ensures
    ∙ sym (ap (λ (t : Option Telling). named_in s.library.now t (sources_of s) (option_copied s.over) c.args.name.now) (ap option_copied c.in-None.is))
