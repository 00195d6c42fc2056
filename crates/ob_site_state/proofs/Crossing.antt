-- The state of a site may go to another thread, since each of its parts may.
use denote.Enum.Declared as E
use denote.Param.Send.{IsSend, view_send, sendable}
use denote.Param.SendFields.{FieldsHave, VariantsHave, as_row_send, declared_send, variants_send}
use Rattle.std.proofs.Crossing as heap
use Rattle.std.proofs.MapsCrossing as maps
use Rattle.std.proofs.MapsCrossingOver as sets
use Rattle.ob_values.proofs.text.Text.TheSendSync as text
use Rattle.ob_values.specs.contracts.value.Value as value
use Rattle.ob_object.specs.contracts.head.Slot as slot
use Rattle.ob_object.proofs.attributes.Attributes.TheSendSync as attributes
use Rattle.ob_object.proofs.object.Obj.TheLaws.TheKnot as object
use Rattle.ob_alarms.proofs.board.Alarms.TheSendSync as board
use Rattle.ob_contracts.proofs.library.Defaults.TheSendSync as defaults
use Rattle.ob_contracts.specs.contracts.library.Library as library
use Rattle.ob_tree.proofs.instead.Instead.TheSendSync as instead
use Rattle.ob_tree.specs.contracts.tree.Tree as tree
use Rattle.ob_ground.specs.contracts.told.Told as told
use Rattle.ob_ground.specs.contracts.told.Told.TheInside as told_inside
use Rattle.ob_ground.specs.contracts.ground.Ground as ground
use Rattle.ob_ground.specs.contracts.ground.Ground.TheInside as ground_inside
use Rattle.ob_history.proofs.log.Log.TheSendSync as log
use Rattle.ob_times.proofs.moment.Moment.TheSendSync as moment
use Rattle.ob_site_rules.specs.contracts.plan.Plan as plan_type
use Rattle.ob_site_rules.proofs.plan.Plan.TheSendSync as plan
use Rattle.ob_site_state.specs.contracts.change.Change as change
use Rattle.ob_site_state.specs.contracts.contents.Contents as contents
use Rattle.ob_site_state.specs.contracts.own_contracts.OwnContracts as own_contracts
use Rattle.ob_site_state.specs.contracts.state.State as state
use Rattle.ob_site_state.specs.contracts.state.State.TheInside as state_inside

-- values
value_send : IsSend (E.row (E.declared value.enum))
value_send =
    let parts : VariantsHave IsSend (value.enum).parts = (
      (search sendable depth 24, tt),
      (
        (search sendable depth 24, tt),
        (
          (search sendable depth 24, tt),
          (
            (search (sendable, text.the_send) depth 24, tt),
            (
              (search (sendable, text.the_send) depth 24, tt),
              (
                (search (sendable, text.the_send) depth 24, tt),
                (
                  (search sendable depth 24, tt),
                  ((search sendable depth 24, tt), ((search sendable depth 24, tt), ((search sendable depth 24, tt), tt))),
                ),
              ),
            ),
          ),
        ),
      ),
    ) in
    variants_send value.enum parts

slot_send : IsSend (E.row (E.declared slot.enum))
slot_send =
    let parts : VariantsHave IsSend (slot.enum).parts = (tt, (tt, ((value_send, tt), tt))) in
    variants_send slot.enum parts

-- the library and the tree, with the words that are told
library_send : IsSend (library.the_field).row
library_send = search (sendable, heap.crosses, maps.crosses, sets.crosses, text.the_send, attributes.the_send, object.send-Obj, defaults.the_field_send) depth 24

tree_send : IsSend (tree.the_field).row
tree_send = search (sendable, heap.crosses, maps.crosses, sets.crosses, attributes.the_send, object.send-Obj) depth 24

told_parts_send : IsSend told_inside.the_row
told_parts_send =
    let parts : FieldsHave IsSend (told_inside.the_type).parts = (
      as_row_send library.the_field library_send,
      (search (sendable, maps.crosses, instead.the_send) depth 24, tt),
    ) in
    declared_send told_inside.the_type parts

told_send : IsSend (told.the_field).row
told_send = view_send _ _ _ _ _ told_parts_send

ground_parts_send : IsSend ground_inside.the_row
ground_parts_send =
    let parts : FieldsHave IsSend (ground_inside.the_type).parts = (
      as_row_send told.the_field told_send,
      (as_row_send tree.the_field tree_send, (search (sendable, heap.crosses, maps.crosses) depth 24, tt)),
    ) in
    declared_send ground_inside.the_type parts

ground_send : IsSend (ground.the_field).row
ground_send = view_send _ _ _ _ _ ground_parts_send

-- what a step changed
change_send : IsSend (E.row (E.declared change.enum))
change_send =
    let parts : VariantsHave IsSend (change.enum).parts = (
      (search sendable depth 24, (slot_send, tt)),
      (
        (search sendable depth 24, (search sendable depth 24, tt)),
        (
          (search sendable depth 24, (search sendable depth 24, tt)),
          ((as_row_send told.the_field told_send, tt), tt),
        ),
      ),
    ) in
    variants_send change.enum parts

contents_send : IsSend (contents.the_field).row
contents_send = search (sendable, heap.crosses, maps.crosses, text.the_send, board.the_send, log.the_send, ground_send) depth 24

own_contracts_send : IsSend (own_contracts.the_field).row
own_contracts_send = search (sendable, heap.crosses) depth 24

state_parts_send : IsSend state_inside.the_row
state_parts_send =
    let parts : FieldsHave IsSend (state_inside.the_type).parts = (
      search (sendable, heap.crosses) depth 24,
      (
        as_row_send plan_type.the_field plan.the_field_send,
        (
          search (sendable, moment.the_send) depth 24,
          (
            as_row_send contents.the_field contents_send,
            (
              as_row_send own_contracts.the_field own_contracts_send,
              (
                search (sendable, moment.the_send) depth 24,
                (
                  search (sendable, heap.crosses, change_send) depth 24,
                  (search (sendable, heap.crosses, maps.crosses) depth 24, tt),
                ),
              ),
            ),
          ),
        ),
      ),
    ) in
    declared_send state_inside.the_type parts

pub state_send : IsSend state.the_row
state_send = view_send _ _ _ _ _ state_parts_send
