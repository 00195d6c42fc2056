use Rattle.ob_program.proofs.ClientLemmas.{client_ran}
use Rattle.ob_program.proofs.client.run_client.Goals as goal

pub returns : goal.returns
returns g c =
    client_ran _ _ _ _ _ _ _ _ _ c.converse-ending.result c.exit_of-exit.result c.exit_of-exit.ensures c.converse-ending.ensures.talks c.converse-ending.ensures.link c.converse-ending.ensures.sink c.converse-ending.ensures.complete
    (c.tell.ensures _ c.words_of.ensures)
