-- The states that a site which is kept has been in: those in which each call that was done has found it.
use Rattle.std.specs.Prelude.{◌≡◌, cond, List, [], ◌∷◌, ◌++◌}
use Rattle.ob_machine.specs.History.{IsLegal, after, left_by}
use Rattle.ob_machine.specs.declared.call.Answer.{Answer}
use Rattle.ob_machine.specs.declared.call.Answer.TheVariants.{Done, NoMemory}
use Rattle.ob_object.specs.Object.{Object}
use Rattle.ob_site_laws.specs.Seen.{KeepsWatches}
use Rattle.ob_site_laws.specs.SiteLaws.{Call, acts}
use Rattle.ob_site_rules.specs.Sites.{SiteState}
use Rattle.ob_kept.specs.Keeping.{Keeping, is_refused, kept_act}

-- the state that the site was in, where the call was done
abbrev pub found_in : SiteState → Answer Object → List SiteState
found_in st (Done reply) = st ∷ []
found_in st NoMemory = []

-- and so for each call of a history from this state
abbrev pub fronts : SiteState → List Call → List SiteState
fronts st [] = []
fronts st (c ∷ cs) = found_in st c.answer ++ fronts (left_by acts st c.request c.moment c.answer) cs

-- of calls that a site which is kept was asked, those that weren't refused for want of room in its file: a refused one left all as
-- it was
abbrev pub taken : Keeping → List Call → List Call
taken k [] = []
taken k (c ∷ cs) = cond (is_refused k c.request c.moment) [] (c ∷ []) ++ taken (left_by kept_act k c.request c.moment c.answer) cs

-- The site that is kept has done these calls: it is in the state in which they leave it, and has been in those in which they found
-- it.
pub record KeepsFronts (k l : Keeping) (calls : List Call) : Type 0 where
  pub boot : l.boot ≡ k.boot
  pub opening : l.opening ≡ k.opening
  pub since : l.since ≡ k.since
  pub past : l.past ≡ k.past ++ fronts k.now calls
  pub now : l.now ≡ after acts k.now calls

-- so each history of calls leaves it, where those that were refused are left out
abbrev pub EachFrontIsKept : Type 0
EachFrontIsKept = (k : Keeping) (calls : List Call) → KeepsFronts k (after kept_act k calls) (taken k calls)

-- What holds of all that a site which is kept was asked, but for what was refused for want of room: its answers are the site's, one
-- after the other, from the state that it was in; the laws of watches hold of them; and it has been in the states in which they found
-- it.
pub record KeepsLaws (k : Keeping) (calls : List Call) (l : Keeping) : Type 0 where
  pub legal : IsLegal acts k.now (taken k calls)
  pub watches : KeepsWatches k.now (taken k calls)
  pub fronts : KeepsFronts k l (taken k calls)
