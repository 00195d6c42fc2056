use Rattle.std.proofs.Common.{Some, rules}
use Rattle.std.proofs.lemmas.Map.Text.{btree_map_updates_text}
use Rattle.ob_client.proofs.table.lead.Goals as goal

pub returns-in-Some : goal.returns-in-Some
returns-in-Some c = λ t.
    btree_map_updates_text c.args.text.now c.args.places.now (c.get_mut.follows.lender c.args.place) (Some c.args.place) ((c.get_mut.follows.holds c.args.place).3 (search rules)) t
