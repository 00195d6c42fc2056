use Rattle.std.proofs.Common.{sym, ◌∙◌}
use Rattle.ob_watch.proofs.MarkLemmas.{feed_has, object_has, over_marked, put_marked}
use Rattle.ob_watch.proofs.marks.after_put.Goals as goal

pub returns-then-mark-known-clause-put : goal.returns-then-mark-known-clause-put
returns-then-mark-known-clause-put c = λ before are.
    put_marked c.args.mark c.in_ok-known.known c.args.item.now before c.in_ok-known.was
    (object_has c.in_ok-known.known c.args.item.now.tracked c.in-Object.node c.in-Object.mark (sym c.tracked.ensures ∙ c.in-Object.is) c.if-mark-known.true) are

pub returns-then-mark-known-clause-over : goal.returns-then-mark-known-clause-over
returns-then-mark-known-clause-over c = λ before are.
    over_marked c.args.mark c.in_ok-known.known c.args.item.now before c.in_ok-known.was
    (object_has c.in_ok-known.known c.args.item.now.tracked c.in-Object.node c.in-Object.mark (sym c.tracked.ensures ∙ c.in-Object.is) c.if-mark-known.true) are

pub returns-in-Feed-clause-put : goal.returns-in-Feed-clause-put
returns-in-Feed-clause-put c = λ before are.
    put_marked c.args.mark c.in_ok-known.known c.args.item.now before c.in_ok-known.was
    (feed_has c.in_ok-known.known c.args.item.now.tracked c.in-Feed.feed c.in-Feed.filter c.in-Feed.given (sym c.tracked.ensures ∙ c.in-Feed.is)) are

pub returns-in-Feed-clause-over : goal.returns-in-Feed-clause-over
returns-in-Feed-clause-over c = λ before are.
    over_marked c.args.mark c.in_ok-known.known c.args.item.now before c.in_ok-known.was
    (feed_has c.in_ok-known.known c.args.item.now.tracked c.in-Feed.feed c.in-Feed.filter c.in-Feed.given (sym c.tracked.ensures ∙ c.in-Feed.is)) are
