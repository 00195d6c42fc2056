-- The whole site: its state, its step, and what its watches see of it.
use Rattle.std.specs.Prelude.{ℕ, cond, nat_lt, length, List, Option, None, unwrap_or}
use Rattle.std.specs.Str.{bytes_eq}
use Rattle.url.specs.Parts.{Parts}
use Rattle.ob_object.specs.Object.{Object}
use Rattle.ob_history.specs.declared.records.Filter.{Filter}
use Rattle.ob_watching.specs.Operations.{NotFound}
use Rattle.ob_watching.specs.Sites.{Site}
use Rattle.ob_watching.specs.WatchOuts.{heard}
use Rattle.ob_watching.specs.Watches.{WorldOf, act}
use Rattle.ob_site_rules.specs.declared.request.Request.{Request}
use Rattle.ob_site_rules.specs.Build.{Text, Path, nameless, under_href}
use Rattle.ob_site_rules.specs.declared.fault.Fault.{Fault}
use Rattle.ob_site_rules.specs.declared.fault.Fault.TheVariants.{NoSuchObject, TooManyWatches, TooManyItems, TooManyItemsInAll, TooManyHrefBytes, HrefTooLong}
use Rattle.ob_site_rules.specs.Faults.{err}
use Rattle.ob_site_rules.specs.declared.plan.Plan.{Plan}
use Rattle.ob_site_rules.specs.State.{State, at, roll}
use Rattle.ob_site_rules.specs.declared.watch_part.WatchPart.{WatchPart}
use Rattle.ob_site_rules.specs.declared.watch_part.WatchPart.TheVariants.{Whole, Lease}
use Rattle.ob_site_rules.specs.Shown.{shown}
use Rattle.ob_site_rules.specs.Entries.{empty_object}
use Rattle.ob_site_rules.specs.Places.{event_places}
use Rattle.ob_site_rules.specs.Actions.{act_itself}
use Rattle.ob_site_rules.specs.Watched.{SiteFound, target_at, found_located, lease_asked, events_at, gone_at, passes, feed_there}
use Rattle.ob_site_rules.specs.Replies.{sent, is_plain}
use Rattle.ob_site_rules.specs.Sameness.{same_object}

-- an object that is read as itself, or else the empty one
abbrev pub plain_or_empty : Object → Object
plain_or_empty o = cond (is_plain o) o empty_object

-- What a watch shows of a node: the object without a name and without its own href, in whose place an entry has the asked
-- text. A feed or an err is never a watched object, so the empty object stands for nothing that is watched.
abbrev pub watched_object : Plan → State → Path → Object
watched_object plan s p = plain_or_empty (under_href None (nameless (unwrap_or (shown plan s p) empty_object)))

-- The whole state: the plan, and the time, what changes of the site, the watches and the next number.
pub record SiteState : Type 0 where
  pub plan : Plan
  pub world : WorldOf State Text Path Filter

-- `locate` is the path that a text leads to from the root's URL, if it leads to one
module _ (locate : Parts → Text → Option Path) where
  -- what an asked text names, after its length is looked at
  abbrev pub found : Plan → State → List ℕ → Text → Option Object → SiteFound
  found plan s numbers text input =
      cond (nat_lt 1024 (length text)) (NotFound HrefTooLong) (found_located plan s numbers input (locate plan.base text))

  -- a site of this plan, apart from its watches
  abbrev pub site : Plan → Site
  site plan = record {
    State = State;
    Request = Request;
    Reply = Object;
    Text = Text;
    Input = Option Object;
    Path = Path;
    Filter = Filter;
    Object = Object;
    Event = Object;
    Fault = Fault;
    Err = Object;
    Part = WatchPart;
    whole = Whole;
    lease = Lease;
    target = λ r. target_at plan r (locate plan.base r.target);
    find = found plan;
    act = act_itself locate plan;
    roll = roll;
    shown = watched_object plan;
    events = λ s p. events_at plan s (at p (event_places plan));
    gone = λ s p. gone_at s (at p (event_places plan));
    passes = passes;
    feed = feed_there plan;
    lease_asked = lease_asked;
    Sent = Object;
    err = err;
    sent = sent plan;
    heard = heard;
    same_text = bytes_eq;
    size = length;
    same = same_object;
    not_found = NoSuchObject;
    too_many_watches = TooManyWatches;
    too_many_items = TooManyItems;
    too_many_in_all = TooManyItemsInAll;
    too_many_bytes = TooManyHrefBytes;
  }

  -- what a request at a moment leaves, and the reply
  abbrev pub step : SiteState → Request → ℕ → SiteState × Object
  step st r moment =
      let done : WorldOf State Text Path Filter × Object = act (site st.plan) st.world r moment in
      (record { plan = st.plan; world = done.0 }, done.1)
