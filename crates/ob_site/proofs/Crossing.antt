-- A site may go to another thread, since its state and its watches may.
use denote.Param.Send.{IsSend, view_send, sendable}
use denote.Param.SendFields.{FieldsHave, declared_send}
use Rattle.ob_site_state.proofs.Crossing.{state_send}
use Rattle.ob_watch.proofs.watches.Watches.TheSendSync as watches
use Rattle.ob_site.specs.contracts.site.Site as site
use Rattle.ob_site.specs.contracts.site.Site.TheInside as inside

parts_send : IsSend inside.the_row
parts_send =
    let parts : FieldsHave IsSend (inside.the_type).parts = (search (sendable, state_send) depth 24, (search (sendable, watches.the_send) depth 24, tt)) in
    declared_send inside.the_type parts

pub site_send : IsSend site.the_row
site_send = view_send _ _ _ _ _ parts_send
