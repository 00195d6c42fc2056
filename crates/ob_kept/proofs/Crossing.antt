-- A site that is kept may go to another thread where its device may, and so may the one that workers share.
use denote.Ref.{NamedLft}
use denote.RattleType.{RattleType}
use denote.Param.Send.{IsSend, view_send, sendable}
use denote.Param.SendFields.{FieldsHave, declared_send}
use Rattle.std.proofs.Crossing as heap
use Rattle.ob_journal.specs.declared.device.Device as device
use Rattle.ob_site.proofs.Crossing.{site_send}
use Rattle.ob_times.proofs.moment.Moment.TheSendSync as moment
use Rattle.ob_kept.specs.contracts.kept.Kept as kept
use Rattle.ob_kept.specs.contracts.kept.Kept.TheInside as kept_inside
use Rattle.ob_kept.specs.contracts.serving.Shared as shared
use Rattle.ob_kept.specs.contracts.serving.Shared.TheInside as shared_inside

module _ (D : RattleType) (g : device.Ghosts D.Denot) (crosses : IsSend D) where
  kept_parts_send : IsSend (kept_inside.the_row D g)
  kept_parts_send =
      let parts : FieldsHave IsSend (kept_inside.the_type D g).parts = (
        search (sendable, site_send) depth 24,
        (
          search (sendable, heap.crosses, moment.the_send) depth 24,
          (search sendable depth 24, (search sendable depth 24, (search (sendable, heap.crosses) depth 24, tt))),
        ),
      ) in
      declared_send (kept_inside.the_type D g) parts

  kept_send : IsSend (kept.the_row D g)
  kept_send = view_send _ _ _ _ _ kept_parts_send

  module _ (κ : NamedLft) where
    shared_parts_send : IsSend (shared_inside.the_row κ D g)
    shared_parts_send =
        let parts : FieldsHave IsSend (shared_inside.the_type κ D g).parts = (search (sendable, kept_send) depth 24, (search (sendable, heap.crosses) depth 24, tt)) in
        declared_send (shared_inside.the_type κ D g) parts

    pub shared_send : IsSend (shared.the_row κ D g)
    shared_send = view_send _ _ _ _ _ shared_parts_send
