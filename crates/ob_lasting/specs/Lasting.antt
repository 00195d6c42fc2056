-- What of a site's state lasts when its process ends, what a restart leaves, and that a step done again keeps it.
use Rattle.std.specs.Prelude.{◌≡◌, ℕ, ◌+◌, ◌≤◌, max, false, List, []}
use Rattle.ob_watching.specs.Operations.{NewWatch}
use Rattle.ob_watching.specs.Sites.{Site}
use Rattle.ob_watching.specs.Watches.{World, last_number, act, begun, is_full, yielded}

module _ (m : Site) where
  -- What lasts of two states is the same: the site, and the number of the next watch. The watches and the time don't last.
  pub record Lasts (v w : World m) : Type 0 where
    pub site : v.site ≡ w.site
    pub next : v.next ≡ w.next

  -- The state without its watches, at this time.
  abbrev pub restarted : World m → ℕ → World m
  restarted w time = record { time = time; site = w.site; watches = []; next = w.next }

  -- The server goes on from a new state after a restart: with the same site and no watch. No number below the old state's next
  -- one is given again, but some may be passed over, up to the last one. The time may be an earlier one, since a request that
  -- leaves nothing that lasts moves it.
  pub record IsRestartOf (old new : World m) : Type 0 where
    pub site : new.site ≡ old.site
    pub watches : new.watches ≡ []
    pub next : old.next ≤ new.next
    pub room : new.next ≤ last_number + 1
    pub time : new.time ≤ old.time

  -- the site that a request leaves doesn't depend on which watches stand
  abbrev pub IsApart : Type 0
  IsApart = (s : m.State) (ns ks : List ℕ) (r : m.Request) (now : ℕ) → (m.act s ns r now).0 ≡ (m.act s ks r now).0

  -- A step done again without the watches, at the time that the site had at it, leaves the same of what lasts, and that time;
  -- unless it was a make that was refused.
  abbrev pub DoneAgain : Type 0
  DoneAgain = (w : World m) (r : m.Request) (moment time : ℕ) → time ≤ max w.time moment →
      (m.target r ≡ NewWatch → is_full m (yielded m (begun m w moment)) ≡ false) →
      let left : World m = (act m w r moment).0 in
      let again : World m = (act m (restarted w time) r (max w.time moment)).0 in
      Lasts left again × (left.time ≡ again.time)

  -- Done again after any restart, numbers passed over, and a refused make too, it leaves a restart of what it left.
  abbrev pub DoneAgainFurther : Type 0
  DoneAgainFurther = (old new : World m) → IsRestartOf old new → (r : m.Request) (moment : ℕ) →
      let again : World m = (act m new r (max old.time moment)).0 in
      IsRestartOf (act m old r moment).0 (restarted again again.time)
