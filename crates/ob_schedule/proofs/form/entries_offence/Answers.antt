use Rattle.std.proofs.Common.{ap, ap₂, sym, ◌∙◌, ◌+◌, [], take, drop}
use Rattle.std.specs.Prelude.{option_map}
use Rattle.ob_parts.specs.Least.{earlier, least}
use Rattle.ob_parts.specs.Numbered.{plus, numbered_from}
use Rattle.ob_parts.specs.Offences.{each}
use Rattle.ob_parts.proofs.Walk.{got, walk_more, walk_end}
use Rattle.ob_schedule.specs.Forms as form
use Rattle.ob_schedule.specs.Views.{point_of}
use Rattle.ob_schedule.proofs.form.entries_offence.Goals as goal

pub loop-place-init : goal.loop-place-init
loop-place-init g c =
    let judge = form.entry_offences (g.P.Points.rules c.args.points.now) (option_map point_of c.args.point) in
    ap (λ n. least (each judge [] (numbered_from n c.children-entries.result.now))) c.number_inside-number.ensures
    ∙ ap (λ l. least (each judge [] (numbered_from (plus c.args.list.number 1) l))) c.children-entries.ensures.value

pub loop-place-preserved : goal.loop-place-preserved
loop-place-preserved g c =
    let judge = form.entry_offences (g.P.Points.rules c.args.points.now) (option_map point_of c.args.point) in
    let objects = c.children-entries.result.now in
    let place = c.loop-place.place in
    let object = c.object_at-object.result.now in
    ap₂ (λ f n. earlier f (least (each judge (take (place + 1) objects) (numbered_from n (drop (place + 1) objects)))))
    (c.earlier-first.ensures ∙ ap (earlier c.loop-place.first) c.in_ok-found.ensures) c.number_behind-number.ensures
    ∙ (walk_more judge c.loop-place.first c.loop-place.number objects place object c.loop-place-test.true (sym (got objects place object c.object_at-object.ensures)) ∙ c.loop-place.invariant)

pub returns : goal.returns
returns g c =
    sym (walk_end (form.entry_offences (g.P.Points.rules c.args.points.now) (option_map point_of c.args.point)) c.loop-place.first c.loop-place.number c.children-entries.result.now c.loop-place.place c.loop-place-test.false) ∙ c.loop-place.invariant
