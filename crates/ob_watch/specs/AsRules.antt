-- The marked watches are the watches of the whole site.
use Rattle.std.specs.Prelude.{◌≡◌, ℕ, true, false, not, max, nat_eq, List, [], ◌∷◌, map, Option, Some, None, option_and_then, option_map}
use Rattle.std.specs.List.{IsDistinct, filter}
use Rattle.ob_history.specs.declared.records.Filter.{Filter}
use Rattle.ob_tree.specs.declared.node.NodeId.{NodeId}
use Rattle.ob_tree.specs.Trees.{Stamped}
use Rattle.ob_watching.specs.Tables.{lookup, replace, numbers_of}
use Rattle.ob_watching.specs.Watches.{World, Reading, count, settled, reported, changes_of, begun, made, is_full, yielded, Distinct, Room}
use Rattle.ob_watching.specs.Watches as rules
use Rattle.ob_site_rules.specs.declared.fault.Fault.{Fault}
use Rattle.ob_site_rules.specs.declared.plan.Plan.{Plan}
use Rattle.ob_site_rules.specs.State.{State}
use Rattle.ob_watch.specs.declared.fault.WatchFault.{WatchFault}
use Rattle.ob_watch.specs.declared.fault.WatchFault.TheVariants.{Full, ItemsFull, AllItemsFull, AllBytesFull, NoWatch, Memory}
use Rattle.ob_watch.specs.declared.item.Item.{Item}
use Rattle.ob_watch.specs.Adding.{refusal}
use Rattle.ob_watch.specs.OfPlan.{of_plan}
use Rattle.ob_watch.specs.Fed.{IsFed, IsFeedOf}
use Rattle.ob_watch.specs.Feeds.{FeedLog, ever, feed_at}
use Rattle.ob_watch.specs.Flags.{flags, flag_of, flagged, flags_of, anew}
use Rattle.ob_watch.specs.Items.{Text, Differ, among, feed_item, has_text, is_due, marked_anew, object_item, put_item, reported_at}
use Rattle.ob_watch.specs.Marks.{AreStampsPast, IsMarkPast, IsStampedNext}
use Rattle.ob_watch.specs.Tables.{Leased, Table, at_number, has_no_place, is_over, lapsed_at, live, room_beside, with_all_items, with_new, yielded_at}

-- the state of the definitions: a site at a time, and the watches with flags
abbrev pub world_of : (plan : Plan) → ℕ → State → Stamped → Table → World (of_plan plan)
world_of plan time s t table = record { time = time; site = s; watches = flags_of t table.watches; next = table.next }

-- the table: what the definitions look up and count, and what they leave of it
pub record TablesAgree (plan : Plan) (t : Stamped) : Type 0 where
  pub begins : (time : ℕ) (s : State) (table : Table) (moment : ℕ)
      → begun (of_plan plan) (world_of plan time s t table) moment ≡ world_of plan (max time moment) s t (lapsed_at (max time moment) table)
  pub looks_up : (n : ℕ) (ws : List (ℕ × Leased)) → lookup n (flags_of t ws) ≡ option_map (flagged t) (lookup n ws)
  pub numbers : (ws : List (ℕ × Leased)) → numbers_of (flags_of t ws) ≡ numbers_of ws
  pub full : (time : ℕ) (s : State) (table : Table) → is_full (of_plan plan) (world_of plan time s t table) ≡ has_no_place table
  pub yields : (time : ℕ) (s : State) (table : Table) → yielded (of_plan plan) (world_of plan time s t table) ≡ world_of plan time s t (yielded_at time table)
  pub room : (n : ℕ) (ws : List (ℕ × Leased)) → rules.room_beside (of_plan plan) n (flags_of t ws) ≡ room_beside n ws
  pub makes : (time : ℕ) (s : State) (table : Table) → made (of_plan plan) (world_of plan time s t table) ≡ world_of plan time s t (with_new time table)
  pub replaces : (n : ℕ) (o : Option Leased) (ws : List (ℕ × Leased)) → replace n (option_map (flagged t) o) (flags_of t ws) ≡ flags_of t (replace n o ws)

-- what the definitions answer where an href is refused, or no watch is made
abbrev pub fault_of : Plan → WatchFault → Option Fault
fault_of plan NoWatch = Some (of_plan plan).not_found
fault_of plan Full = Some (of_plan plan).too_many_watches
fault_of plan ItemsFull = Some (of_plan plan).too_many_items
fault_of plan AllItemsFull = Some (of_plan plan).too_many_in_all
fault_of plan AllBytesFull = Some (of_plan plan).too_many_bytes
fault_of plan Memory = None

-- the items of a watch
pub record ItemsAgree (plan : Plan) (t : Stamped) : Type 0 where
  pub puts : (i : Item) (items : List Item) → rules.put_item (of_plan plan) (flags t i) (map (flags t) items) ≡ map (flags t) (put_item i items)
  pub has : (items : List Item) (text : Text) → rules.has_text (of_plan plan) (map (flags t) items) text ≡ has_text items text
  -- an href is refused for the same reason
  pub refuses : (room : Room) (w : Leased) (text : Text) → rules.refusal (of_plan plan) room (map (flags t) w.items) text ≡ option_and_then (fault_of plan) (refusal room w text)
  pub removes : (texts : List Text) (items : List Item)
      → filter (λ i. not (rules.among (of_plan plan) texts i.text)) (map (flags t) items) ≡ map (flags t) (filter (λ i. not (among texts i.text)) items)
  pub differ : (items : List Item) → Differ items → Distinct (of_plan plan) (map (flags t) items)

-- what is reported, where these are the feeds of the site
pub record ReportsAgree (plan : Plan) (t : Stamped) (feeds : List FeedLog) : Type 0 where
  -- an object that is added is reported, and so is a feed
  pub adds : AreStampsPast t → (text path : Text) (node : NodeId) → flags t (object_item text path node t.steps) ≡ record { text = text; path = path; tracked = rules.Object false }
  pub adds_feed : (s : State) (text path : Text) (feed : ℕ) (filter : Filter) → IsFeedOf plan s path (feed_at feeds feed)
      → flags t (feed_item text path feed filter (ever (feed_at feeds feed))) ≡ record { text = text; path = path; tracked = rules.Feed filter (count (of_plan plan) s path) }
  pub reports : AreStampsPast t → (s : State) (i : Item) → IsFed plan s feeds i → reported (of_plan plan) s (flags t i) ≡ flags t (reported_at t.steps feeds i)
  -- a poll gives an entry of exactly the items that are due
  pub due : (s : State) (i : Item) → IsFed plan s feeds i → is_due t feeds i ≡ true
      → (r : Reading (of_plan plan)) × (changes_of (of_plan plan) s i.text i.path (flag_of t i.tracked) ≡ r ∷ [])
  pub not_due : (s : State) (i : Item) → IsFed plan s feeds i → is_due t feeds i ≡ false → changes_of (of_plan plan) s i.text i.path (flag_of t i.tracked) ≡ []
  -- the end of a step: what it changed has the stamp of the next step, and nothing else has another
  pub settles : (before after : State) (u : Stamped) (i : Item) → IsMarkPast t.steps i
      → IsStampedNext t u i (not ((of_plan plan).same ((of_plan plan).shown before i.path) ((of_plan plan).shown after i.path)))
      → settled (of_plan plan) before after (flags t i) ≡ flags u i
  pub renumbers : (i : Item) → flags (anew t) (marked_anew t i) ≡ flags t i

-- a watch that is not over stays, whatever is done to it, and the others lapse as before
pub record LapsesCommute (now : ℕ) : Type 0 where
  pub replaces : (n : ℕ) (w : Leased) (ws : List (ℕ × Leased)) (v : Leased) → IsDistinct nat_eq (numbers_of ws) → lookup n (live now ws) ≡ Some v → is_over now w ≡ false
      → live now (replace n (Some w) ws) ≡ replace n (Some w) (live now ws)
  pub deletes : (n : ℕ) (ws : List (ℕ × Leased)) → live now (replace n None ws) ≡ replace n None (live now ws)
  pub makes : (table : Table) → lapsed_at now (with_new now table) ≡ with_new now (lapsed_at now table)
  pub items : (f : Item → Item) (ws : List (ℕ × Leased)) → live now (with_all_items f ws) ≡ with_all_items f (live now ws)
  pub twice : (n : ℕ) (f g : Leased → Leased) (ws : List (ℕ × Leased)) → at_number n f (at_number n g ws) ≡ at_number n (λ w. f (g w)) ws

abbrev pub AsRules : Type 0
AsRules = (plan : Plan) (t : Stamped) → TablesAgree plan t × (ItemsAgree plan t × ((feeds : List FeedLog) → ReportsAgree plan t feeds))

abbrev pub AllLapse : Type 0
AllLapse = (now : ℕ) → LapsesCommute now
