use Rattle.std.proofs.Common.{map, refl, sym, ap, ◌∙◌}
use Rattle.std.specs.Prelude.{option_and_then, string_bytes}
use Rattle.ob_contracts.specs.Tellers.{child_by}
use Rattle.ob_contracts.proofs.Taught.{tells_all, word_is}
use Rattle.ob_contracts.proofs.tellers.Tellers.of.Goals as goal

pub returns : goal.returns
returns c = λ ws e.
    let lib = c.args.library.now in
    let es = c.in_ok-names.names.entries in
    tells_all lib (record { all = c.args.all; heads = c.in_ok-heads.heads; names = map (λ x. (string_bytes x.0, x.1)) es }) c.args.all ws refl c.in_ok-heads.ensures
    (λ n. ap (option_and_then (child_by lib n)) (sym (word_is es n)) ∙ c.in_ok-names.ensures.gives n) e
