-- What the entries of a RECORD do to a site. Each is a call of a machine: the site, in which no watch stands behind a call.
use Rattle.std.specs.Prelude.{ℕ, ◌+◌, min, cond}
use Rattle.ob_values.specs.declared.verb.Verb.{Verb}
use Rattle.ob_values.specs.declared.verb.Verb.TheVariants.{Get, Put, Post}
use Rattle.ob_object.specs.Object.{Object}
use Rattle.ob_watching.specs.Watches.{last_number}
use Rattle.ob_site_rules.specs.declared.request.Request.{Request}
use Rattle.ob_requests.specs.BatchCalls.{posts_list}
use Rattle.ob_site_rules.specs.Entries.{empty_object}
use Rattle.ob_site_rules.specs.Sites.{SiteState}
use Rattle.ob_site_laws.specs.SiteLaws.{acts, of_plan}
use Rattle.ob_lasting.specs.Lasting.{restarted}
use Rattle.ob_lasting.specs.Records.{Request as TheRequest, Numbers, renewed}

-- how many numbers of watches one entry stands for
abbrev pub numbers_at_once : ℕ
numbers_at_once = 10_000

-- Where this is the number of the next watch, the first that, behind an entry of numbers, can't have been given.
abbrev pub more_numbers : ℕ → ℕ
more_numbers next = min (next + numbers_at_once) (last_number + 1)

-- What an entry keeps of a reply: all of it, but of a batch nothing, since an item that asks something of a watch is answered
-- otherwise once the watch is gone.
abbrev pub kept_reply : Request → Object → Object
kept_reply r reply = cond (posts_list r) empty_object reply

-- each number below some more may have been given
abbrev pub numbers_noted : SiteState → SiteState
numbers_noted s = record { plan = s.plan; world = renewed (of_plan s.plan) (restarted (of_plan s.plan) s.world s.world.time) (Numbers (more_numbers s.world.next)) }

-- a request is done again at a time
abbrev pub request_redone : SiteState → Request → ℕ → SiteState
request_redone s r time = record { plan = s.plan; world = renewed (of_plan s.plan) s.world (TheRequest r time) }

-- A request is done again, and no watch stands then; and what an entry keeps of the reply. No read is kept: an entry that gets
-- stands for numbers of watches.
abbrev pub redone_as : Verb → SiteState → Request → ℕ → SiteState × Object
redone_as Get s r time = (numbers_noted s, empty_object)
redone_as Put s r time = (request_redone s r time, kept_reply r (acts s r time).1)
redone_as Post s r time = (request_redone s r time, kept_reply r (acts s r time).1)

abbrev pub redone : SiteState → Request → ℕ → SiteState × Object
redone s r time = redone_as r.verb s r time
