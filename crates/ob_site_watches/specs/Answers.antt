-- What is asked of watches, and how it is answered, by the flags that marks stand for.
use Rattle.std.specs.Prelude.{◌≡◌, ℕ, List, MatchBool}
use Rattle.std.specs.List.{AllByRecursion}
use Rattle.ob_object.specs.Object.{Object}
use Rattle.ob_watching.specs.Tables.{lookup}
use Rattle.ob_watching.specs.Watches.{Room, acted, first_lease, on_watch, reply_to, touched}
use Rattle.ob_watching.specs.Operations.{NewWatch}
use Rattle.ob_site_rules.specs.declared.request.Request.{Request}
use Rattle.ob_site_rules.specs.Computed.{watch_part_object}
use Rattle.ob_site_rules.specs.declared.fault.Fault.TheVariants.{TooManyWatches}
use Rattle.ob_site_rules.specs.Faults.{err}
use Rattle.ob_site_rules.specs.declared.watch_part.WatchPart.TheVariants.{Whole}
use Rattle.ob_site_rules.specs.declared.plan.Plan.{Plan}
use Rattle.ob_site_rules.specs.State.{State}
use Rattle.ob_tree.specs.Trees.{Stamped}
use Rattle.ob_site_rules.specs.Watched.{WatchOperation}
use Rattle.ob_site_rules.specs.Replies.{sent}
use Rattle.ob_site_state.specs.Kept.{Kept}
use Rattle.ob_site_state.specs.Stamping.{tree_of}
use Rattle.ob_watch.specs.Adding.{is_full_at}
use Rattle.ob_watch.specs.AsRules.{world_of}
use Rattle.ob_watch.specs.OfPlan.{of_plan}
use Rattle.ob_watch.specs.Flags.{flagged, flags_of}
use Rattle.ob_watch.specs.Tables.{Leased, Table, lapsed_at, live, with_new}
use Rattle.ob_site_watches.specs.Known.{AreSoundItems}

-- what is known of the items of each watch
abbrev pub AllKnown : Kept → Table → Type 0
AllKnown k table = AllByRecursion (λ e. AreSoundItems k e.1.items) table.watches

-- the reply to an operation on a watch, among watches of these numbers, which leave so much room
abbrev pub IsReply : Kept → ℕ → List ℕ → Room → ℕ → Leased → WatchOperation → Object → Type 0
IsReply k now numbers room n w op o = o ≡ sent k.plan (reply_to (of_plan k.plan) k.now numbers room n (touched (of_plan k.plan) now (flagged (tree_of k) w)) op)

-- The watches after an operation on the one of a number, and the reply. Watches whose lease has run out at this moment count
-- as gone, before and after.
pub record IsDone (k : Kept) (now : ℕ) (old new : Table) (n : ℕ) (op : WatchOperation) (o : Object) : Type 0 where
  pub watches : world_of k.plan now k.now (tree_of k) (lapsed_at now new)
      ≡ (on_watch (of_plan k.plan) (world_of k.plan now k.now (tree_of k) (lapsed_at now old)) n op (lookup n (flags_of (tree_of k) (live now old.watches)))).0
  pub reply : o ≡ sent k.plan (on_watch (of_plan k.plan) (world_of k.plan now k.now (tree_of k) (lapsed_at now old)) n op (lookup n (flags_of (tree_of k) (live now old.watches)))).1

-- One more watch was made, those that are to give way to it being held still, and the reply is what a client reads of it.
pub record IsOneMore (plan : Plan) (now : ℕ) (old new : Table) (o : Object) : Type 0 where
  pub table : new ≡ with_new now old
  pub reply : o ≡ watch_part_object plan old.next first_lease Whole

-- No more can be made, even where idle ones give way: the watches are as they were, and the reply is that refusal.
pub record IsNoMore (old new : Table) (o : Object) : Type 0 where
  pub table : new ≡ old
  pub reply : o ≡ err TooManyWatches

-- The watches after a new one is asked for, and the reply.
abbrev pub IsMade : Plan → ℕ → Table → Table → Object → Type 0
IsMade plan now old new o = MatchBool (is_full_at now old) (IsNoMore old new o) (IsOneMore plan now old new o)

-- The watches once that request is done, and its reply, whatever the state of the site and its tree.
pub record IsServed (plan : Plan) (now : ℕ) (old new : Table) (o : Object) : Type 0 where
  pub watches : (s : State) (t : Stamped) (r : Request) → world_of plan now s t (lapsed_at now new) ≡ (acted (of_plan plan) (world_of plan now s t (lapsed_at now old)) r NewWatch).0
  pub reply : (s : State) (t : Stamped) (r : Request) → o ≡ sent plan (acted (of_plan plan) (world_of plan now s t (lapsed_at now old)) r NewWatch).1
