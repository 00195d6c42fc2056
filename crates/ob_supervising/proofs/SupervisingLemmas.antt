-- Calls of a supervisor, one behind the other, and the service of a link by it.
use Rattle.std.proofs.Common.{◌≡◌, ℕ, List, [], ◌∷◌, Option, Some, None, Ok, Err, refl, sym, subst, ◌∙◌, inl, inr}
use Rattle.std.specs.declared.alloc.AllocError.{AllocError}
use Rattle.ob_io.specs.Dials.{Dial, Visit}
use Rattle.ob_io.specs.Links.{Inlet}
use Rattle.ob_server.specs.Exchange.{Call}
use Rattle.ob_server.specs.Answering.{AreAsked, ServesBy}
use Rattle.ob_server.specs.declared.end.LinkEnd.{LinkEnd}
use Rattle.ob_server.specs.declared.end.LinkEnd.TheVariants as ends
use Rattle.ob_super.specs.declared.state.Super.{Super}
use Rattle.ob_super.specs.InHand.{Outside, upstreams, IsNew, ManyAll, SupervisesAll, EndsAll}
use Rattle.ob_super.proofs.ChainLemmas.{supervises_none, supervises_more, runs, stops}
use Rattle.ob_supervising.specs.declared.supervising.Supervising.{Supervising}
use Rattle.ob_supervising.specs.Supervising.{request_of, reply_of, all_asked, told_by, Asks, AnswersLink, SupervisesLink}

module _ {L W : Type 0} (left taken held : L → Option (List ℕ)) (dials : W → Option (List Dial)) (visits : W → Option (List Visit)) where
  abbrev following : Supervising L × W → Super L
  following s = s.0.upstreams

  abbrev Chained : Supervising L × W → Supervising L × W → List Call → Type 0
  Chained s t calls =
      (upstreams (following t).followed.items ≡ upstreams (following s).followed.items)
      × SupervisesAll left taken held (told_by left taken held dials visits s.1) (told_by left taken held dials visits t.1) (following s) (following t) (all_asked calls)

  chain : (s t : Supervising L × W) (calls : List Call) → AreAsked (Asks left taken held dials visits) s t calls → Chained s t calls
  chain s t [] same = subst (λ (x : Supervising L × W). Chained s x []) (sym same) (refl, supervises_none left taken held (told_by left taken held dials visits s.1) (following s))
  chain s t (call ∷ calls) (mid, asks, rest) =
      let more = chain mid t calls rest in (
        more.0 ∙ asks.0,
        supervises_more left taken held (told_by left taken held dials visits s.1) (told_by left taken held dials visits mid.1) (told_by left taken held dials visits t.1)
            (following s) (following mid) (following t) (request_of call.request) (reply_of call.answer) (all_asked calls) asks.0 asks.1 more.1,
      )

  pub answers_link : (s t : Supervising L × W) (link link' : Inlet) (sent sent' given : Option (List ℕ)) (end : LinkEnd)
      → ServesBy (Asks left taken held dials visits) s t None link link' sent sent' (Some []) given end
      → AnswersLink left taken held (told_by left taken held dials visits s.1) (told_by left taken held dials visits t.1) (following s) (following t) link link' sent sent' end
  answers_link s t link link' sent sent' given end by =
      let chained = chain s t by.calls by.asked in
      record { calls = by.calls; given = given; serves = by.serves; memory = by.memory; same = chained.0; supervises = chained.1 }

  pub whole_run : (before mid late after : Outside) (old begun last : Super L) (rounds : ℕ) (x : Unit {0}) (link link' : Inlet) (sent sent' : Option (List ℕ)) (end : LinkEnd)
      → IsNew old → upstreams begun.followed.items ≡ upstreams old.followed.items → ManyAll left taken held before mid old begun rounds (Ok x)
      → AnswersLink left taken held mid late begun last link link' sent sent' end → EndsAll left taken held late after last.followed.items
      → SupervisesLink (upstreams old.followed.items) rounds before after link link' sent sent' end
  whole_run before mid late after old begun last rounds x link link' sent sent' end down same many a ends =
      inl (record {
        calls = a.calls;
        given = a.given;
        serves = a.serves;
        memory = a.memory;
        runs = runs left taken held before mid late after old begun last rounds x (all_asked a.calls) down same a.same many a.supervises ends;
      })

pub stopped_run : {L : Type 0} (left taken held : L → Option (List ℕ)) (before mid after : Outside) (old last : Super L) (rounds : ℕ) (x : AllocError) (link : Inlet) (sent : Option (List ℕ))
    → IsNew old → upstreams last.followed.items ≡ upstreams old.followed.items → ManyAll left taken held before mid old last rounds (Err x) → EndsAll left taken held mid after last.followed.items
    → SupervisesLink (upstreams old.followed.items) rounds before after link link sent sent ends.Memory
stopped_run left taken held before mid after old last rounds x link sent down same many ends =
    inr (record { memory = refl; link_is = refl; held_is = refl; stops = stops left taken held before mid after old last rounds x down same many ends })
