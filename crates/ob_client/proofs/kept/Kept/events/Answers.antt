use Rattle.std.proofs.Common.{◌≡◌, ℕ, List, true, length, drop, ap, sym, ◌∙◌}
use Rattle.ob_object.specs.Object.{Object, children}
use Rattle.ob_watching.specs.WatchOuts.{Held, dropped_in}
use Rattle.ob_client.specs.Entries.{is_feed}
use Rattle.ob_client.specs.Shown.{dropped_child}
use Rattle.ob_client.specs.Mirrors.{events_in}
use Rattle.ob_client.proofs.ShownLemmas.{events_feed}
use Rattle.ob_client.proofs.kept.Kept.events.Goals as goal

pub returns : goal.returns
returns c =
    let s = c.self.inside.entry in
    let feed : is_feed s ≡ true = cc (c.is_feed.ensures, c.if-not-is_feed.false) in
    c.events_behind.ensures
    ∙ ap (λ (n : ℕ). drop (length (dropped_child n)) c.children.result.now) c.dropped_in.ensures.value
    ∙ ap (λ (os : List Object). drop (length (dropped_child (dropped_in (children s)))) os) c.children.ensures.value
    ∙ sym (events_feed s feed c.self.invariant)
    ∙ ap (λ (h : Held). events_in h.content) c.self.view_is
