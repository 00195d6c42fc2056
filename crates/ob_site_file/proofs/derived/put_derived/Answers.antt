use Rattle.std.proofs.Common.{◌&&◌, ◌++◌, cond, [], map, ap, ◌∙◌}
use Rattle.std.specs.Prelude.{bytes_eq}
use Rattle.ob_object.specs.Paths.{is_path}
use Rattle.ob_site_rules.specs.declared.plan.Plan.{Plan}
use Rattle.ob_site_file.specs.Sizes.{stood}
use Rattle.ob_site_file.proofs.Sizes.{four_more, derived_plain, LobbyShapes, PointShapes, HistoryShapes, SubjectShapes}
use Rattle.ob_site_file.proofs.derived.put_derived.Goals as goal

pub returns : goal.returns
returns c = λ plan s k.
    let p = c.args.path.now in
    let l = c.is_lobby.result in
    let w = c.is_point.result in
    let h = c.is_history.result in
    let j = c.is_subject.result in
    four_more (map stood c.args.list.now.items) (map stood c.put_lobby.new.list.items) (map stood c.put_point.new.list.items) (map stood c.put_history.new.list.items) (map stood c.put_subject.new.list.items)
    (cond l LobbyShapes []) (cond w PointShapes []) (cond h HistoryShapes []) (cond j SubjectShapes []) c.in_ok-put_lobby.ensures c.in_ok-put_point.ensures c.in_ok-put_history.ensures c.in_ok-put_subject.ensures
    ∙ ap (λ z. map stood c.args.list.now.items ++ z)
    (derived_plain plan s p l w h j (c.is_lobby.ensures ∙ ap (λ (q : Plan). q.lobby && bytes_eq p q.root) k.fixed) (c.is_point.ensures ∙ k.points p) (c.is_history.ensures ∙ k.histories p)
    (c.is_subject.ensures ∙ ap (λ (q : Plan). is_path p q.subject) k.fixed))
