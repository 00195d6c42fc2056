use Rattle.std.proofs.Common.{ℕ, List, inl, inr, sym, IfOk, subst}
use Rattle.ob_journal.specs.Journal.{Stands, Says, IsUnmade, IsFront, Finds, IsSettled}
use Rattle.ob_journal.specs.declared.opening.Extent.{Extent}
use Rattle.ob_journal.proofs.Fronts.{unmade_says, says_stands}
use Rattle.ob_journal.proofs.Moments.{weaker}
use Rattle.ob_journal.proofs.opening.repair.Goals as goal

pub returns-in-Unmade-clause-settled : goal.returns-in-Unmade-clause-settled
returns-in-Unmade-clause-settled g c told entries says =
    let IsEntry = g.S.Shape.is_entry in
    let file = g.D.Device.seen c.args.device.now in
    let short : IsUnmade file = subst (λ (x : Extent). Finds IsEntry file x) c.in-Unmade.is (c.requires.found told) in
    let none = unmade_says IsEntry g.met.S.Shape.some_byte file entries short says in
    subst (λ (es : List (List ℕ)). IfOk c.make.result (λ end. IsSettled IsEntry g.D.Device.seen g.D.Device.may_leave es c.make.new.device end)) (sym none) (c.make.ensures.settled told)

pub returns-in-Unmade-clause-any_moment : goal.returns-in-Unmade-clause-any_moment
returns-in-Unmade-clause-any_moment g c told entries says =
    let IsEntry = g.S.Shape.is_entry in
    let file = g.D.Device.seen c.args.device.now in
    let short : IsUnmade file = subst (λ (x : Extent). Finds IsEntry file x) c.in-Unmade.is (c.requires.found told) in
    let none = unmade_says IsEntry g.met.S.Shape.some_byte file entries short says in
    weaker g.D.Device.moment g.D.Device.left_since c.args.device.now c.make.new.device IsUnmade (λ f. Says IsEntry f entries) (λ f is. inr (is, none)) (c.make.ensures.any_moment told)

pub returns-in-Entries-clause-settled : goal.returns-in-Entries-clause-settled
returns-in-Entries-clause-settled g c told entries says =
    let IsEntry = g.S.Shape.is_entry in
    let file = g.D.Device.seen c.args.device.now in
    let found : IsFront IsEntry file c.in-Entries.end = subst (λ (x : Extent). Finds IsEntry file x) c.in-Entries.is (c.requires.found told) in
    c.close.ensures.settled told entries (says_stands IsEntry g.met.S.Shape.one_first g.met.S.Shape.some_byte file c.in-Entries.end entries found says)

pub returns-in-Entries-clause-any_moment : goal.returns-in-Entries-clause-any_moment
returns-in-Entries-clause-any_moment g c told entries says =
    let IsEntry = g.S.Shape.is_entry in
    let file = g.D.Device.seen c.args.device.now in
    let found : IsFront IsEntry file c.in-Entries.end = subst (λ (x : Extent). Finds IsEntry file x) c.in-Entries.is (c.requires.found told) in
    let stands = says_stands IsEntry g.met.S.Shape.one_first g.met.S.Shape.some_byte file c.in-Entries.end entries found says in
    weaker g.D.Device.moment g.D.Device.left_since c.args.device.now c.close.new.device (λ f. Stands IsEntry f entries) (λ f. Says IsEntry f entries) (λ f is. inl is) (c.close.ensures.any_moment told entries stands)
