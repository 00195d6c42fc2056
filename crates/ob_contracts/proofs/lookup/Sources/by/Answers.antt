use Rattle.std.proofs.Common.{Option, sym, ap, ◌∙◌}
use Rattle.std.specs.Option.{option_copied}
use Rattle.ob_contracts.specs.Inherit.{inherited_head, present, words_in}
use Rattle.ob_contracts.specs.Places.{places_by}
use Rattle.ob_contracts.specs.Tellers.{Telling, heads_in}
use Rattle.ob_contracts.proofs.Taught.{heads_by, over_told, over_untold}
use Rattle.ob_contracts.proofs.lookup.Sources.by.Goals as goal

pub returns-in-Some-clause-places : goal.returns-in-Some-clause-places
returns-in-Some-clause-places c =
    c.told_by.ensures.places
    ∙ sym (ap (λ (t : Option Telling). places_by c.args.library.now c.args.own.now.head.kind (heads_in t (option_copied c.args.words)) (option_copied c.args.over)) (ap option_copied c.in-Some.is))

pub returns-in-Some-clause-head : goal.returns-in-Some-clause-head
returns-in-Some-clause-head c = λ h.
    ap (λ l. inherited_head h (present l)) (returns-in-Some-clause-places c)
    ∙ heads_by c.args.library.now c.args.own.now.head.kind (option_copied c.args.told) (option_copied c.args.words) (option_copied c.args.over) c.requires h

pub returns-in-Some-clause-over : goal.returns-in-Some-clause-over
returns-in-Some-clause-over c =
    over_told c.args.library.now c.args.own.now.head.kind c.in-Some.told.now (words_in (option_copied c.args.words)) (option_copied c.args.over) c.told_by.result
    (c.requires c.in-Some.told.now (ap option_copied c.in-Some.is)) c.told_by.ensures.child

pub returns-in-None-clause-places : goal.returns-in-None-clause-places
returns-in-None-clause-places c =
    c.new.ensures.places
    ∙ sym (ap (λ (t : Option Telling). places_by c.args.library.now c.args.own.now.head.kind (heads_in t (option_copied c.args.words)) (option_copied c.args.over)) (ap option_copied c.in-None.is))

pub returns-in-None-clause-head : goal.returns-in-None-clause-head
returns-in-None-clause-head c = λ h. ap (λ l. inherited_head h (present l)) c.new.ensures.places

pub returns-in-None-clause-over : goal.returns-in-None-clause-over
returns-in-None-clause-over c =
    over_untold c.new.result (places_by c.args.library.now c.args.own.now.head.kind (words_in (option_copied c.args.words)) (option_copied c.args.over)) (ap option_copied c.new.ensures.untold) c.new.ensures.places
