-- A watch is opened, call by call.
use Rattle.std.proofs.Common.{◌≡◌, Bool, true, false, List, [], ◌∷◌, ◌++◌, Option, Some, None, Result, Ok, Err, refl, sym, ap, subst, ◌∙◌, append_assoc, append-nil, inl, inr}
use Rattle.std.specs.Prelude.{cond, option_map, codes}
use Rattle.std.specs.Option.{option_map_or}
use Rattle.ob_object.specs.Object.{Object}
use Rattle.ob_watching.specs.WatchOuts.{Text}
use Rattle.ob_client.specs.Entries.{is_err}
use Rattle.ob_asking.specs.declared.place.Place.{Place}
use Rattle.ob_asking.specs.declared.request.Request.{Request}
use Rattle.ob_asking.specs.Places.{child_place}
use Rattle.ob_asking.specs.Watches.{get, watch_in}
use Rattle.ob_asking.specs.Wires.{Wire}
use Rattle.ob_asking.specs.declared.fault.Fault.{Fault}
use Rattle.ob_super.specs.Upstreams.{Upstream}
use Rattle.ob_super.specs.declared.asking.Watch.{Watch}
use Rattle.ob_super.specs.InHand as in_hand
use Rattle.ob_super.specs.Calls.{Stage, Lobby, Service, Make, Adding, Said, said, asking, added, to_add, request_at, led, next, spoken}
use Rattle.ob_super.specs.Turns.{is_polling}
use Rattle.ob_super.specs.Links.{HasSaid, HasBroken}
use Rattle.ob_super.specs.Rounds.{host}
use Rattle.ob_super.specs.Asking.{Answered, Broke, Brings, unless_err, Passes, in_round, Opens}

pub unless_err_map : {A B : Type 0} (f : A → B) (b : Bool) (x : Option A) → option_map f (cond b None x) ≡ cond b None (option_map f x)
unless_err_map f true x = refl
unless_err_map f false x = refl

abbrev pub map_result : {A B : Type 0} → (A → B) → Result A Fault → Result B Fault
map_result f (Ok x) = Ok (f x)
map_result f (Err e) = Err e

-- what a call brings, as the stage that it leads to
pub lead : {T : Type 0} (h : Text) (q : Request) (brings : Object → Option T) (f : T → Stage) (u : Upstream) (s : Stage) (old new : Wire) (r : Result T Fault)
    → h ≡ host u → q ≡ request_at u s → ((o : Object) → option_map f (unless_err brings o) ≡ next u s o)
    → Brings h q brings old new r → Brings (host u) (request_at u s) (led u s) old new (map_result f r)
lead h q brings f u s old new (Ok x) hs qs leads (o, e, a) =
    (o, sym (leads o) ∙ ap (option_map f) e, subst (λ (z : Request). Answered (host u) z o old new) qs (subst (λ (z : Text). Answered z q o old new) hs a))
lead h q brings f u s old new (Err e) hs qs leads b = elim b [
  | inl m ↦ inl (m.0, sym (leads m.0) ∙ ap (option_map f) m.1, m.2, subst (λ (z : Request). Answered (host u) z m.0 old new) qs (subst (λ (z : Text). Answered z q m.0 old new) hs m.3))
  | inr k ↦ inr (subst (λ (z : Request). Broke (host u) z e old new) qs (subst (λ (z : Text). Broke z q e old new) hs k))
]

spoken_more : (u : Upstream) (s t : Stage) (o : Object) (os : List Object) → next u s o ≡ Some t → spoken u s (in_round (o ∷ os)) ≡ said (request_at u s) o ∷ spoken u t (in_round os)
spoken_more u s t o os e = ap (λ (n : Option Stage). said (request_at u s) o ∷ option_map_or (λ (x : Stage). spoken u x (in_round os)) n []) e

pub spoken_last : (u : Upstream) (s : Stage) (o : Object) (n : Option Stage) → next u s o ≡ n → spoken u s (in_round (o ∷ [])) ≡ said (request_at u s) o ∷ []
spoken_last u s o None e = ap (λ (n : Option Stage). said (request_at u s) o ∷ option_map_or (λ (x : Stage). spoken u x (in_round [])) n []) e
spoken_last u s o (Some t) e = spoken_more u s t o [] e

behind : (ss more : List Said) (x : Said) (all : List Said) → all ≡ x ∷ more → (ss ++ x ∷ []) ++ more ≡ ss ++ all
behind ss more x all e = append_assoc ss (x ∷ []) more ∙ ap (λ (l : List Said). ss ++ l) (sym e)

pub opens_then : (u : Upstream) (s t : Stage) (old mid new : Wire) (r : Result Stage Fault) → is_polling (Some s) ≡ false
    → Brings (host u) (request_at u s) (led u s) old mid (Ok t) → Opens u t mid new r → Opens u s old new r
opens_then u s t old mid new (Ok p) going (o, e, a) (polling, (os, passes, says)) = (
  polling,
  (
    o ∷ os,
    (going, subst (λ (n : Option Stage). Passes u n os (Some p)) (sym e) passes),
    λ ss had. subst (λ (l : List Said). HasSaid (host u) l new) (behind ss (spoken u t (in_round os)) (said (request_at u s) o) _ (spoken_more u s t o os e)) (says (ss ++ said (request_at u s) o ∷ []) (a ss had)),
  ),
)
opens_then u s t old mid new (Err f) going (o, e, a) opens = elim opens [
  | inl m ↦ inl (
    o ∷ m.0,
    (going, subst (λ (n : Option Stage). Passes u n m.0 None) (sym e) m.1),
    m.2,
    λ ss had. subst (λ (l : List Said). HasSaid (host u) l new) (behind ss (spoken u t (in_round m.0)) (said (request_at u s) o) _ (spoken_more u s t o m.0 e)) (m.3 (ss ++ said (request_at u s) o ∷ []) (a ss had)),
  )
  | inr k ↦ inr (
    o ∷ k.0,
    k.1,
    k.2,
    (going, subst (λ (n : Option Stage). Passes u n k.0 (Some k.1)) (sym e) k.3),
    (k.4.0, λ ss had. subst (λ (l : List Said). HasBroken (host u) l (request_at u k.1) f new) (behind ss (spoken u t (in_round k.0)) (said (request_at u s) o) _ (spoken_more u s t o k.0 e)) (k.4.1 (ss ++ said (request_at u s) o ∷ []) (a ss had))),
  )
]

pub opens_last : (u : Upstream) (s p : Stage) (old new : Wire) → is_polling (Some s) ≡ false → is_polling (Some p) ≡ true
    → Brings (host u) (request_at u s) (led u s) old new (Ok p) → Opens u s old new (Ok p)
opens_last u s p old new going polling (o, e, a) =
    (polling, (o ∷ [], (going, sym e), λ ss had. subst (λ (l : List Said). HasSaid (host u) (ss ++ l) new) (sym (spoken_last u s o (Some p) e)) (a ss had)))

pub opens_not : (u : Upstream) (s : Stage) (old new : Wire) (f : Fault) → is_polling (Some s) ≡ false
    → Brings (host u) (request_at u s) (led u s) old new (Err f) → Opens u s old new (Err f)
opens_not u s old new f going b = elim b [
  | inl m ↦ inl (m.0 ∷ [], (going, sym m.1), m.2, λ ss had. subst (λ (l : List Said). HasSaid (host u) (ss ++ l) new) (sym (spoken_last u s m.0 None m.1)) (m.3 ss had))
  | inr k ↦ inr ([], s, going, refl, (k.0, λ ss had. subst (λ (l : List Said). HasBroken (host u) l (request_at u s) f new) (sym (append-nil ss)) (k.1 ss had)))
]

-- ---- the calls of an opening

both_led : (a b : Option Place) → option_map (λ (p : Text × Text). let s : Stage = Adding p.0 p.1 in s) (in_hand.both_targets a b) ≡ to_add a b
both_led None b = refl
both_led (Some a) None = refl
both_led (Some a) (Some b) = refl

pub lead_lobby : (h : Text) (u : Upstream) (old new : Wire) (r : Result Place Fault) → h ≡ host u → Brings h (get u.lobby) (λ o. child_place u.lobby.url o (codes "watchService")) old new r
    → Brings (host u) (request_at u Lobby) (led u Lobby) old new (map_result Service r)
lead_lobby h u old new r hs b =
    lead h (get u.lobby) (λ o. child_place u.lobby.url o (codes "watchService")) Service u Lobby old new r hs refl (λ o. unless_err_map Service (is_err o) (child_place u.lobby.url o (codes "watchService"))) b

pub lead_service : (h : Text) (u : Upstream) (place : Place) (old new : Wire) (r : Result Place Fault) → h ≡ host u → Brings h (get place) (λ o. child_place place.url o (codes "make")) old new r
    → Brings (host u) (request_at u (Service place)) (led u (Service place)) old new (map_result Make r)
lead_service h u place old new r hs b =
    lead h (get place) (λ o. child_place place.url o (codes "make")) Make u (Service place) old new r hs refl (λ o. unless_err_map Make (is_err o) (child_place place.url o (codes "make"))) b

pub lead_make : (h : Text) (u : Upstream) (place : Place) (old new : Wire) (r : Result (Text × Text) Fault) → h ≡ host u → Brings h (asking place.target None) (in_hand.ops_in place) old new r
    → Brings (host u) (request_at u (Make place)) (led u (Make place)) old new (map_result (λ (p : Text × Text). let s : Stage = Adding p.0 p.1 in s) r)
lead_make h u place old new r hs b =
    let f = λ (p : Text × Text). let s : Stage = Adding p.0 p.1 in s in
    lead h (asking place.target None) (in_hand.ops_in place) f u (Make place) old new r hs refl
    (λ o. unless_err_map f (is_err o) (in_hand.ops_in place o) ∙ ap (cond (is_err o) None) (both_led (child_place place.url o (codes "add")) (child_place place.url o (codes "pollChanges")))) b

pub opens_add : (h : Text) (u : Upstream) (add changes : Text) (old new : Wire) (r : Result Watch Fault) → h ≡ host u → Brings h (asking add (Some (watch_in u.hrefs))) (added changes) old new (in_hand.opened r)
    → Opens u (Adding add changes) old new (in_hand.opened r)
opens_add h u add changes old new (Ok w) hs b =
    opens_last u (Adding add changes) (in_hand.polling w) old new refl refl (subst (λ (z : Text). Brings z (asking add (Some (watch_in u.hrefs))) (added changes) old new (Ok (in_hand.polling w))) hs b)
opens_add h u add changes old new (Err e) hs b =
    opens_not u (Adding add changes) old new e refl (subst (λ (z : Text). Brings {T = Stage} z (asking add (Some (watch_in u.hrefs))) (added changes) old new (Err e)) hs b)
