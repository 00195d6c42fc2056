use Rattle.std.proofs.Common.{◌≡◌, Ok, Option, Some, sym, subst}
use Rattle.std.specs.Prelude.{IfOk}
use Rattle.ob_site_rules.specs.Build.{Text}
use Rattle.ob_site_rules.specs.declared.fault.Fault.{Fault}
use Rattle.ob_site_watches.specs.declared.offering.Offer.{Offer}
use Rattle.ob_site_watches.specs.declared.offering.Offer.TheVariants as offer
use Rattle.ob_site_watches.specs.Offered.{refused_entry}
use Rattle.ob_site_watches.specs.Putting.{IsPut, OfHeld, refused_for}
use Rattle.ob_site_watches.proofs.Grown.{put_aside, put_nothing, put_refused}
use Rattle.ob_site_watches.proofs.adding.put_offer.Goals as goal

pub returns-in-Refused : goal.returns-in-Refused
returns-in-Refused g c =
    let k = c.args.state.now in
    let place = c.args.offered.place.now in
    let old = c.args.watches.now in
    let undo = c.args.undo.now in
    subst (λ (o : Offer). OfHeld place.number old (IsPut k place.number place.room o old old undo undo (Ok c.in-Refused.entry))) (sym c.in-Refused.is)
    (λ w there. put_refused place.number k place.room c.in-Refused.entry old undo w c.numbers-numbers.ensures.differ there)

pub returns-in-Some : goal.returns-in-Some
returns-in-Some g c =
    let k = c.args.state.now in
    let place = c.args.offered.place.now in
    let old = c.args.watches.now in
    let undo = c.args.undo.now in
    subst (λ (o : Offer). OfHeld place.number old (IsPut k place.number place.room o old old undo undo c.refused.result)) (sym c.in-Item.is)
    (λ w there. put_aside place.number k place.room c.in-Item.item c.in-Some.fault old undo w c.refused.result c.numbers-numbers.ensures.differ there
    (subst (λ (text : Text). refused_for k.plan place.room w text ≡ Some c.in-Some.fault) c.text.ensures (c.in-Some.ensures k.plan w there))
    (subst (λ (text : Text). IfOk c.refused.result (λ o. o ≡ refused_entry text c.in-Some.fault)) c.text-in-Some.ensures c.refused.ensures))

pub returns-in_err-entry : goal.returns-in_err-entry
returns-in_err-entry g c =
    let k = c.args.state.now in
    let place = c.args.offered.place.now in
    let old = c.args.watches.now in
    let undo = c.args.undo.now in
    subst (λ (o : Offer). OfHeld place.number old (IsPut k place.number place.room o old old undo undo c.from_residual.result)) (sym c.in-Item.is)
    (λ w there. put_nothing place.number k place.room (offer.Item c.in-Item.item) old undo w c.from_residual.result c.from_residual.ensures.0 c.numbers-numbers.ensures.differ there)

pub returns : goal.returns
returns g c =
    let k = c.args.state.now in
    let place = c.args.offered.place.now in
    let old = c.args.watches.now in
    let undo = c.args.undo.now in
    subst (λ (o : Offer). OfHeld place.number old (IsPut k place.number place.room o old c.put_item.new.watches undo c.put_item.new.undo c.put_item.result)) (sym c.in-Item.is)
    (c.put_item.ensures k c.in_ok-entry.ensures.entry)
