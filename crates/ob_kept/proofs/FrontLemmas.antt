-- A site that is kept has been in the states in which its calls found it, but for those that were refused for want of room.
use Rattle.std.proofs.Common.{◌≡◌, ℕ, Bool, true, false, cond, List, [], ◌∷◌, ◌++◌, refl, sym, ap, subst, ◌∙◌, append_assoc}
use Rattle.std.proofs.lemmas.List.{append-nil}
use Rattle.ob_machine.specs.History.{IsAnswer, IsLegal, after, left_by}
use Rattle.ob_machine.specs.declared.call.Answer.{Answer}
use Rattle.ob_machine.specs.declared.call.Answer.TheVariants.{Done, NoMemory}
use Rattle.ob_object.specs.Object.{Object}
use Rattle.ob_site_laws.proofs.Seen.{keeps_watches}
use Rattle.ob_site_laws.specs.SiteLaws.{Call, acts, IsSoundSite}
use Rattle.ob_site_rules.specs.declared.request.Request.{Request}
use Rattle.ob_site_rules.specs.Sites.{SiteState}
use Rattle.ob_kept.specs.Fronts.{KeepsFronts, KeepsLaws, fronts, found_in, taken}
use Rattle.ob_kept.specs.Keeping.{Keeping, added, is_refused, kept_act, record_is_full, stepped}

-- ---- a step

module _ (k : Keeping) (r : Request) (moment : ℕ) where
  abbrev on : Keeping × Object
  on = (stepped k (added k r moment) (acts k.now r moment).0, (acts k.now r moment).1)

  pub refused_act : is_refused k r moment ≡ true → kept_act k r moment ≡ (k, record_is_full)
  refused_act is = ap (λ (b : Bool). cond b (let x : Keeping × Object = (k, record_is_full) in x) on) is

  pub stepped_act : is_refused k r moment ≡ false → kept_act k r moment ≡ on
  stepped_act is = ap (λ (b : Bool). cond b (let x : Keeping × Object = (k, record_is_full) in x) on) is

  -- a refused call leaves all as it was
  left_refused : is_refused k r moment ≡ true → (a : Answer Object) → left_by kept_act k r moment a ≡ k
  left_refused is (Done reply) = ap (λ (x : Keeping × Object). x.0) (refused_act is)
  left_refused is NoMemory = refl

  -- and another one the state that the site's step leaves
  left_now : is_refused k r moment ≡ false → (a : Answer Object) → (left_by kept_act k r moment a).now ≡ left_by acts k.now r moment a
  left_now is (Done reply) = ap (λ (x : Keeping × Object). x.0.now) (stepped_act is)
  left_now is NoMemory = refl

  answer_so : is_refused k r moment ≡ false → (a : Answer Object) → IsAnswer kept_act k r moment a → IsAnswer acts k.now r moment a
  answer_so is (Done reply) h = h ∙ ap (λ (x : Keeping × Object). x.1) (stepped_act is)
  answer_so is NoMemory h = tt

  -- ---- the states that it has been in, behind one call more in front of these

  record Fronts (l : Keeping) (a : Answer Object) (cs : List Call) : Type 0 where
    boot : l.boot ≡ k.boot
    opening : l.opening ≡ k.opening
    since : l.since ≡ k.since
    past : l.past ≡ k.past ++ (found_in k.now a ++ fronts (left_by acts k.now r moment a) cs)
    now : l.now ≡ after acts (left_by acts k.now r moment a) cs

  front_more : (l : Keeping) (a : Answer Object) (cs : List Call) → is_refused k r moment ≡ false → KeepsFronts (left_by kept_act k r moment a) l cs → Fronts l a cs
  front_more l (Done reply) cs is rest =
      let h : KeepsFronts on.0 l cs = subst (λ (x : Keeping). KeepsFronts x l cs) (ap (λ (x : Keeping × Object). x.0) (stepped_act is)) rest in
      record { boot = h.boot; opening = h.opening; since = h.since; past = h.past ∙ append_assoc k.past (k.now ∷ []) (fronts (acts k.now r moment).0 cs); now = h.now }
  front_more l NoMemory cs is rest = record { boot = rest.boot; opening = rest.opening; since = rest.since; past = rest.past; now = rest.now }

-- ---- all calls

pub keeps_fronts : (k : Keeping) (calls : List Call) → KeepsFronts k (after kept_act k calls) (taken k calls)
keeps_fronts k [] = record { boot = refl; opening = refl; since = refl; past = sym (append-nil k.past); now = refl }
keeps_fronts k (c ∷ cs) = go (is_refused k c.request c.moment) refl (keeps_fronts (left_by kept_act k c.request c.moment c.answer) cs)
  where
    left : Keeping
    left = left_by kept_act k c.request c.moment c.answer

    last : Keeping
    last = after kept_act left cs

    go : (b : Bool) → is_refused k c.request c.moment ≡ b → KeepsFronts left last (taken left cs) → KeepsFronts k last (cond b [] (c ∷ []) ++ taken left cs)
    go true is rest = subst (λ (x : Keeping). KeepsFronts x last (taken left cs)) (left_refused k c.request c.moment is c.answer) rest
    go false is rest =
        let h = front_more k c.request c.moment last c.answer (taken left cs) is rest in
        record { boot = h.boot; opening = h.opening; since = h.since; past = h.past; now = h.now }

-- its calls are the site's
pub legal_so : (k : Keeping) (calls : List Call) → IsLegal kept_act k calls → IsLegal acts k.now (taken k calls)
legal_so k [] legal = tt
legal_so k (c ∷ cs) (call, rest) = go (is_refused k c.request c.moment) refl (legal_so (left_by kept_act k c.request c.moment c.answer) cs rest)
  where
    left : Keeping
    left = left_by kept_act k c.request c.moment c.answer

    go : (b : Bool) → is_refused k c.request c.moment ≡ b → IsLegal acts left.now (taken left cs) → IsLegal acts k.now (cond b [] (c ∷ []) ++ taken left cs)
    go true is on = subst (λ (x : Keeping). IsLegal acts x.now (taken left cs)) (left_refused k c.request c.moment is c.answer) on
    go false is on = (
      record { caller = call.caller; moment = call.moment; answer = answer_so k c.request c.moment is c.answer call.answer },
      subst (λ (st : SiteState). IsLegal acts st (taken left cs)) (left_now k c.request c.moment is c.answer) on,
    )

pub keeps_laws : (k : Keeping) (calls : List Call) (l : Keeping) → IsSoundSite k.now → IsLegal kept_act k calls → l ≡ after kept_act k calls → KeepsLaws k calls l
keeps_laws k calls l sound legal is =
    let lawful = legal_so k calls legal in
    record {
      legal = lawful;
      watches = keeps_watches k.now sound (taken k calls) lawful;
      fronts = subst (λ (left : Keeping). KeepsFronts k left (taken k calls)) (sym is) (keeps_fronts k calls);
    }
