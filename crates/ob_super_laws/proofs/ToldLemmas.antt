-- Where the err `upstream down` is the reply.
use Rattle.std.proofs.Common.{◌≡◌, Bool, true, false, List, [], ◌∷◌, Option, Some, None, Result, Ok, refl, sym, ap, subst, ◌∙◌, true≢false, inl, inr}
use Rattle.std.specs.Prelude.{◌&&◌, ◌||◌, not}
use Rattle.std.specs.declared.alloc.AllocError.{AllocError}
use Rattle.ob_io.specs.Dials.{Visit}
use Rattle.ob_object.specs.Object.{Object}
use Rattle.ob_watching.specs.WatchOuts.{Text}
use Rattle.ob_asking.specs.declared.place.Place.{Place}
use Rattle.ob_asking.specs.declared.request.Request.{Request}
use Rattle.ob_asking.specs.Places.{place_at}
use Rattle.ob_super.specs.Upstreams.{Upstream}
use Rattle.ob_super.specs.Calls.{Call, put_on}
use Rattle.ob_super.specs.Turns.{Standing, Down, Up, is_up}
use Rattle.ob_super.specs.Trees.{Entry, entry_at, placed}
use Rattle.ob_super.specs.Rounds.{SendsTo, SendsIf, Sends, PutsHere, Puts, upstream_down, not_supported}
use Rattle.ob_super_laws.specs.Laws.{goes_down, IsTold}

-- none that stays as it is goes down
same_up : (b : Bool) → (b && not b) ≡ false
same_up true = refl
same_up false = refl

none_down : (ss : List Standing) → goes_down ss ss ≡ false
none_down [] = refl
none_down (s ∷ ss) = ap (λ (b : Bool). b || goes_down ss ss) (same_up (is_up s)) ∙ none_down ss

neither : (reply : Object) (b : Bool) → (reply ≡ upstream_down → ⊥) → b ≡ false → IsTold reply b
neither reply b other same = (λ e. absurd (other e), λ e. absurd (true≢false (sym e ∙ same)))

has_href : (path : Text) (o : Object) → placed path o ≡ upstream_down → ⊥
has_href path o e = absurd (let x : Some path ≡ None = ap (λ (o : Object). o.head.href) e in cc)

has_contract : not_supported ≡ upstream_down → ⊥
has_contract e = absurd (let x : not_supported.head.is ≡ None = ap (λ (o : Object). o.head.is) e in cc)

module _ (Told : Type 0) (u : Upstream) (olds : List Standing) (visits : List Visit) (reply : Object) where
  sent_to : (calls : List Call) (new : Standing) (path : Text) (q : Request) → SendsTo Told u calls new path q visits (Ok (Some reply)) → IsTold reply (goes_down (Up calls ∷ olds) (new ∷ olds))
  sent_to calls new path q sends = elim sends [
    | inl (o, is, up, none) ↦ neither reply (goes_down (Up calls ∷ olds) (new ∷ olds)) (λ e. has_href path o (sym is ∙ e)) (ap (λ (s : Standing). (true && not (is_up s)) || goes_down olds olds) up ∙ none_down olds)
    | inr (is, down, broken) ↦ (λ e. ap (λ (s : Standing). (true && not (is_up s)) || goes_down olds olds) down, λ e. is)
  ]

  sent_if : (calls : List Call) (new : Standing) (path : Text) (place : Option Place) (body : Option Object) → SendsIf Told u calls new path place body visits (Ok (Some reply)) → IsTold reply (goes_down (Up calls ∷ olds) (new ∷ olds))
  sent_if calls new path (Some place) body sends = sent_to calls new path (put_on place.target body) sends
  sent_if calls new path None body (is, up, none) =
      neither reply (goes_down (Up calls ∷ olds) (new ∷ olds)) (λ e. has_contract (sym (let x : reply ≡ not_supported = cc in x) ∙ e))
      (ap (λ (s : Standing). (true && not (is_up s)) || goes_down olds olds) up ∙ none_down olds)

  sent : (old new : Standing) (entry : Entry) (body : Option Object) → Sends Told u old new entry body visits (Ok (Some reply)) → IsTold reply (goes_down (old ∷ olds) (new ∷ olds))
  sent Down new entry body sends = absurd sends
  sent (Up calls) new entry body sends = sent_if calls new entry.path (place_at u.lobby.url entry.asked) body sends

here : (Told : Type 0) (u : Upstream) (old new : Standing) (olds news : List Standing) (body : Option Object) (visits : List Visit) (reply : Object) (behind : Type 0) → (behind → IsTold reply (goes_down olds news)) → (e : Option Entry)
    → PutsHere e (λ (entry : Entry). (news ≡ olds) × Sends Told u old new entry body visits (Ok (Some reply))) ((new ≡ old) × behind) → IsTold reply (goes_down (old ∷ olds) (new ∷ news))
here Told u old new olds news body visits reply behind more None (same, rest) =
    subst (IsTold reply) (sym (ap (λ (s : Standing). (is_up old && not (is_up s)) || goes_down olds news) same ∙ ap (λ (b : Bool). b || goes_down olds news) (same_up (is_up old)))) (more rest)
here Told u old new olds news body visits reply behind more (Some entry) (same, sends) =
    subst (λ (ss : List Standing). IsTold reply (goes_down (old ∷ olds) (new ∷ ss))) (sym same) (sent Told u olds visits reply old new entry body sends)

nothing : (reply : Object) → (let r : Result (Option Object) AllocError = Ok (Some reply) in r) ≡ Ok None → ⊥
nothing reply e = absurd (let x : (let r : Result (Option Object) AllocError = Ok (Some reply) in r) ≡ Ok None = e in cc)

pub told : (Told : Type 0) (us : List Upstream) (olds news : List Standing) (path : Text) (body : Option Object) (visits : List Visit) (reply : Object)
    → Puts Told us olds news path body visits (Ok (Some reply)) → IsTold reply (goes_down olds news)
told Told [] [] [] path body visits reply puts = absurd (nothing reply puts.0)
told Told [] [] (n ∷ news) path body visits reply puts = absurd puts
told Told [] (o ∷ olds) news path body visits reply puts = absurd puts
told Told (u ∷ us) [] news path body visits reply puts = absurd puts
told Told (u ∷ us) (o ∷ olds) [] path body visits reply puts = absurd puts
told Told (u ∷ us) (o ∷ olds) (n ∷ news) path body visits reply puts =
    here Told u o n olds news body visits reply (Puts Told us olds news path body visits (Ok (Some reply))) (told Told us olds news path body visits reply) (entry_at u o path) puts
