use Rattle.std.proofs.Common.{◌∙◌}
use Rattle.std.proofs.lemmas.Bool.{ne_eqb}
use Rattle.ob_http.proofs.FieldLemmas.{close_by}
use Rattle.ob_http.proofs.fields.asks_close.Goals as goal

pub returns-else-minor-eq0 : goal.returns-else-minor-eq0
returns-else-minor-eq0 c =
    c.names_close.ensures ∙ close_by c.args.bytes.now c.args.headers.now c.args.minor (ne_eqb c.args.minor 0 c.if-minor-eq0.false)
