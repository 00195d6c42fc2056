-- What a step makes of a site that is kept, as contracts see it.
use Rattle.std.proofs.Common.{◌≡◌, ℕ, ◌+◌, ◌-◌, Bool, true, List, [], ◌∷◌, ◌++◌, length, take, refl, sym, ap, ap₂, ◌∙◌, arith, length-append}
use Rattle.std.proofs.lemmas.List.{take_at}
use Rattle.ob_object.specs.Object.{Object}
use Rattle.ob_site_laws.specs.SiteLaws.{acts}
use Rattle.ob_site_rules.specs.declared.request.Request.{Request}
use Rattle.ob_site_rules.specs.Sites.{SiteState}
use Rattle.ob_kept.specs.declared.recorder.Recorder.{Recorder}
use Rattle.ob_kept.specs.Keeping.{Keeping, is_refused, kept_act, record_is_full}
use Rattle.ob_kept.proofs.FrontLemmas.{refused_act, stepped_act}
use Rattle.ob_kept.proofs.Growing.{keeping, Goes, Stays}

module _ (opening : SiteState) (since : ℕ) where
  -- what differs between two of them
  same_parts : (boot boot' : ℕ) (past past' : List SiteState) (now now' : SiteState) (end end' next next' : ℕ) (begun begun' : Bool)
      → boot' ≡ boot → past' ≡ past → now' ≡ now → end' ≡ end → next' ≡ next → begun' ≡ begun
      → keeping boot' opening since past' now' end' next' begun' ≡ keeping boot opening since past now end next begun
  same_parts boot boot' past past' now now' end end' next next' begun begun' boot_is past_is now_is end_is next_is begun_is =
      ap (λ (b : ℕ). keeping b opening since past' now' end' next' begun') boot_is
      ∙ ap (λ (p : List SiteState). keeping boot opening since p now' end' next' begun') past_is
      ∙ ap (λ (st : SiteState). keeping boot opening since past st end' next' begun') now_is
      ∙ ap (λ (n : ℕ). keeping boot opening since past now n next' begun') end_is
      ∙ ap (λ (n : ℕ). keeping boot opening since past now end n begun') next_is
      ∙ ap (λ (b : Bool). keeping boot opening since past now end next b) begun_is

  module _ {D : Type 0} (k l : Recorder D) (past past' : List SiteState) (now now' : SiteState) (r : Request) (asked : ℕ) where
    abbrev from : Keeping
    from = keeping k.boot opening since past now k.journal.end k.next k.begun

    -- a step that was done
    pub acted_so : (reply : Object) → Goes opening since past now k l r asked → past' ≡ past ++ now ∷ [] → acts now r asked ≡ (now', reply)
        → kept_act from r asked ≡ (keeping l.boot opening since past' now' l.journal.end l.next l.begun, reply)
    acted_so reply goes pushed done =
        let left = ap (λ (x : SiteState × Object). x.0) done in
        stepped_act from r asked goes.room
        ∙ ap₂ (λ (x : Keeping) (o : Object). let both : Keeping × Object = (x, o) in both)
        (sym (same_parts k.boot l.boot (past ++ now ∷ []) past' (acts now r asked).0 now' _ l.journal.end _ l.next _ l.begun goes.boot pushed (sym left) goes.end goes.next goes.begun))
        (ap (λ (x : SiteState × Object). x.1) done)

    -- one that was not leaves it as it was
    pub stays_so : Stays k l → past' ≡ past → now' ≡ now → keeping l.boot opening since past' now' l.journal.end l.next l.begun ≡ from
    stays_so stays popped left =
        same_parts k.boot l.boot past past' now now' k.journal.end l.journal.end k.next l.next k.begun l.begun stays.boot popped left stays.end stays.next stays.begun

    -- and one that is refused
    pub refused_so : is_refused from r asked ≡ true → Stays k l → past' ≡ past → now' ≡ now → kept_act from r asked ≡ (keeping l.boot opening since past' now' l.journal.end l.next l.begun, record_is_full)
    refused_so refused stays popped left =
        refused_act from r asked refused ∙ ap (λ (x : Keeping). let both : Keeping × Object = (x, record_is_full) in both) (sym (stays_so stays popped left))

-- what was put last is taken away again
pub popped : {A : Type 0} (xs ys zs : List A) (v : A) (n : ℕ) → ys ≡ xs ++ v ∷ [] → n ≡ length ys → zs ≡ take (n - 1) ys → zs ≡ xs
popped xs ys zs v n pushed count left =
    let less : n - 1 ≡ length xs = omega (arith, count, ap length pushed, length-append xs (v ∷ [])) in
    left ∙ ap₂ (λ k l. take k l) less pushed ∙ take_at xs (v ∷ []) (length xs) refl
