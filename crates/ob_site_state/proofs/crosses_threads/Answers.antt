use denote.Param.Send.{sendable}
use Rattle.ob_site_state.proofs.Crossing.{state_send}
use Rattle.ob_site_state.proofs.crosses_threads.Goals as goal

pub is_send-requires-send-T : goal.is_send-requires-send-T
is_send-requires-send-T c κs = search (sendable, state_send)
