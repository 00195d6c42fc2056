-- What a site leaves in which an entry is done again.
use Rattle.std.proofs.Common.{◌≡◌, ◌≢◌, ℕ, max, [], refl, sym, ◌∙◌, ap, ap₂, arith}
use Rattle.ob_object.specs.Object.{Object}
use Rattle.ob_site.specs.Views.{without_watches}
use Rattle.ob_site_laws.specs.SiteLaws.{acts, of_plan}
use Rattle.ob_site_rules.specs.declared.request.Request.{Request}
use Rattle.ob_site_rules.specs.Entries.{empty_object}
use Rattle.ob_site_rules.specs.Sites.{SiteState}
use Rattle.ob_values.specs.declared.verb.Verb.{Verb}
use Rattle.ob_values.specs.declared.verb.Verb.TheVariants.{Get, Put, Post}
use Rattle.ob_watching.specs.Watches.{World}
use Rattle.ob_kept.specs.Redone.{kept_reply, more_numbers, numbers_noted, request_redone, redone_as}

-- numbers are passed over
pub pass_so : (s u : SiteState) (next more : ℕ) → u ≡ without_watches s more → more ≡ more_numbers next → next ≡ s.world.next → u ≡ numbers_noted s
pass_so s u next more left more_is next_is = left ∙ ap (without_watches s) (more_is ∙ ap more_numbers next_is)

-- a step is done, and its watches are dropped
pub again_so : (s mid u : SiteState) (r : Request) (time : ℕ) (o : Object) → acts s r time ≡ (mid, o) → u ≡ without_watches mid 0 → u ≡ request_redone s r time
again_so s mid u r time o done left =
    let after : SiteState = (acts s r time).0 in
    let none : max after.world.next 0 ≡ after.world.next = omega arith in
    left
    ∙ sym (ap (λ (x : SiteState × Object). without_watches x.0 0) done)
    ∙ ap (λ (n : ℕ). let w : World (of_plan s.plan) = record { time = after.world.time; site = after.world.site; watches = []; next = n } in
    let x : SiteState = record { plan = s.plan; world = w } in x) none

pub reply_so : (s mid : SiteState) (r : Request) (time : ℕ) (o : Object) → acts s r time ≡ (mid, o) → o ≡ (acts s r time).1
reply_so s mid r time o done = sym (ap (λ (x : SiteState × Object). x.1) done)

-- by the verb of an entry
pub get_so : (verb : Verb) (s u : SiteState) (r : Request) (time : ℕ) (o : Object) → verb ≡ Get → u ≡ numbers_noted s → o ≡ empty_object → redone_as verb s r time ≡ (u, o)
get_so verb s u r time o is left reply =
    ap (λ (v : Verb). redone_as v s r time) is ∙ sym (ap₂ (λ (x : SiteState) (y : Object). let p : SiteState × Object = (x, y) in p) left reply)

pub other_so : (verb : Verb) (s u : SiteState) (r : Request) (time : ℕ) (o : Object) → verb ≢ Get → u ≡ request_redone s r time → o ≡ kept_reply r (acts s r time).1 → redone_as verb s r time ≡ (u, o)
other_so Get s u r time o other left reply = absurd (other refl)
other_so Put s u r time o other left reply = sym (ap₂ (λ (x : SiteState) (y : Object). let p : SiteState × Object = (x, y) in p) left reply)
other_so Post s u r time o other left reply = sym (ap₂ (λ (x : SiteState) (y : Object). let p : SiteState × Object = (x, y) in p) left reply)
