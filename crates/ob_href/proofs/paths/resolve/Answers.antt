use Rattle.std.proofs.Common.{Ok, ap, sym, ◌∙◌, subst, ◌≡◌, true}
use Rattle.ob_href.specs.Href.{is_path_text}
use Rattle.ob_href.proofs.OwnLemmas.{own_printable, own_word}
use Rattle.ob_href.proofs.paths.resolve.Goals as goal

pub from_ascii-requires : goal.from_ascii-requires
from_ascii-requires c = own_printable c.args.text.now (c.keeps.ensures.own c.if-keeps.true)

pub returns-then-keeps-clause-path : goal.returns-then-keeps-clause-path
returns-then-keeps-clause-path c = c.keeps.ensures.resolved c.if-keeps.true ∙ ap Ok (sym c.in_ok-from_ascii.ensures)

pub returns-then-keeps-clause-text : goal.returns-then-keeps-clause-text
returns-then-keeps-clause-text c =
    subst (λ p. is_path_text p ≡ true) (sym c.in_ok-from_ascii.ensures) (own_word c.args.text.now (c.keeps.ensures.own c.if-keeps.true))
