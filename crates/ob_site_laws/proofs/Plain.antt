-- What is watched is plain.
use Rattle.std.proofs.Common.{◌≡◌, Bool, true, false, cond, None, refl}
use Rattle.std.specs.Prelude.{unwrap_or}
use Rattle.ob_object.specs.Object.{Object}
use Rattle.ob_site_rules.specs.Build.{Path, under_href, nameless}
use Rattle.ob_site_rules.specs.declared.plan.Plan.{Plan}
use Rattle.ob_site_rules.specs.State.{State}
use Rattle.ob_site_rules.specs.Entries.{empty_object}
use Rattle.ob_site_rules.specs.Replies.{is_plain}
use Rattle.ob_site_rules.specs.Shown.{shown}
use Rattle.ob_site_rules.specs.Sites.{plain_or_empty, watched_object}

plain : (o : Object) → is_plain (plain_or_empty o) ≡ true
plain o = go (is_plain o) refl
  where
    go : (b : Bool) → is_plain o ≡ b → let x : Object = cond b o empty_object in is_plain x ≡ true
    go true e = e
    go false e = refl

pub watched_plain : (plan : Plan) (s : State) (p : Path) → is_plain (watched_object plan s p) ≡ true
watched_plain plan s p = plain (under_href None (nameless (unwrap_or (shown plan s p) empty_object)))
