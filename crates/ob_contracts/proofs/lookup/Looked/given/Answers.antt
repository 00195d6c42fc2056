use Rattle.std.proofs.Common.{◌≡◌, ap, ◌∙◌}
use Rattle.ob_object.specs.declared.head.Head.{Head}
use Rattle.ob_object.specs.Object.{empty_head}
use Rattle.ob_contracts.specs.Given.{given_facets, given_head}
use Rattle.ob_contracts.specs.Places.{sources_of}
use Rattle.ob_contracts.proofs.Gifts.{completes_whole}
use Rattle.ob_contracts.proofs.lookup.Looked.given.Goals as goal

pub returns : goal.returns
returns c =
    let o = c.args.self.now.sources.own.now in
    let ss = sources_of c.args.self.now.sources in
    let s = c.in_ok-slot.slot in
    let filled : c.put_slot.new.self ≡ record (given_head o ss) { slot = s } =
    c.put_slot.ensures
    ∙ ap (λ (h : Head). let k : Head = record h { slot = s } in k)
    (c.in_ok-put_facets.ensures
    ∙ ap (λ (h : Head). let k : Head = record h { facets = given_facets o ss } in k)
    (c.in_ok-put_lists.ensures
    ∙ ap (λ (h : Head). let k : Head = record h { of = (given_head o ss).of; input = (given_head o ss).input; output = (given_head o ss).output } in k)
    (c.empty-given.ensures ∙ ap empty_head c.kind.ensures))) in
    completes_whole c.args.defaults o ss c.put_slot.new.self s filled c.in_ok-slot.ensures
