-- The requests that a site is asked, with the writes of schedules between them.
use Rattle.std.specs.Prelude.{◌≡◌, ℕ, max, codes, List, [], ◌∷◌, ◌++◌, length, Some, IfSome, slice_get}
use Rattle.jiff.specs.Words.{plain_zone}
use Rattle.ob_values.specs.declared.verb.Verb.TheVariants.{Post}
use Rattle.ob_object.specs.declared.kind.Kind.{Kind}
use Rattle.ob_object.specs.declared.kind.Kind.TheVariants as kind
use Rattle.ob_object.specs.declared.head.Slot.{Slot}
use Rattle.ob_object.specs.Object.{Object, empty_head, in_row}
use Rattle.ob_site_rules.specs.declared.request.Request.{Request}
use Rattle.ob_site_rules.specs.Build.{valued}
use Rattle.ob_site_rules.specs.Paths.{below}
use Rattle.ob_weekly.specs.declared.firing.Firing.{Firing}
use Rattle.ob_weekly.specs.declared.schedule.Schedule.{Schedule}
use Rattle.ob_weekly.specs.declared.schedule.Schedules.{Schedules}
use Rattle.ob_weekly.specs.Firings.{AreFirings, IsInForce}

-- a request, and the moment at which it is asked
abbrev pub Timed : Type 0
Timed = Request × ℕ

-- what `writePoint` is called with: an object with the value
abbrev pub written : Kind → Slot → Object
written k slot = record {
  head = empty_head kind.Obj;
  inner = in_row (valued k (codes "value") slot ∷ []);
}

-- the write of a slot to the point of a schedule; its target is `http://h` and the path of the point's op
abbrev pub post : Schedule → Slot → Request
post s slot = record { verb = Post; target = codes "http://h" ++ below s.point (codes "writePoint"); body = Some (written s.kind slot) }

-- the write that a firing makes, at its own instant
abbrev pub IsPostOf : Schedules → Firing → Timed → Type 0
IsPostOf s f t =
    (it : Schedule) × (slice_get s.list.items f.schedule ≡ Some it) × IfSome (slice_get it.entries.items f.entry) (λ e. t ≡ (post it e.slot, f.at))

-- the write that the schedule at a place makes at the boot: of its value in force
abbrev pub IsBootPost : Schedules → ℕ → ℕ → Timed → Type 0
IsBootPost s boot k t =
    (it : Schedule) × (slot : Slot) × (slice_get s.list.items k ≡ Some it) × IsInForce (plain_zone s.zone) s.list.items k boot slot × (t ≡ (post it slot, boot))

-- each of the second is what the first of its place makes
abbrev pub AreMade : {A B : Type 0} → (A → B → Type 0) → List A → List B → Type 0
AreMade P [] [] = Unit {0}
AreMade P [] (b ∷ bs) = ⊥
AreMade P (a ∷ more) [] = ⊥
AreMade P (a ∷ more) (b ∷ bs) = P a b × AreMade P more bs

-- of requests that may carry more than their moments, as the answers to them
module _ {A : Type 0} (timed : A → Timed) where
  -- at the boot each schedule writes its value in force, in the order of the schedules
  pub record IsBoot (s : Schedules) (boot : ℕ) (posts : List A) : Type 0 where
    pub count : length posts ≡ length s.list.items
    pub each : (k : ℕ) → IfSome (slice_get posts k) (λ a. IsBootPost s boot k (timed a))

  -- these are the writes of what fires after a moment and up to another
  abbrev pub ArePosts : Schedules → ℕ → ℕ → List A → Type 0
  ArePosts s from to posts =
      (firings : List Firing) × AreFirings (plain_zone s.zone) s.list.items from to firings × AreMade (λ f a. IsPostOf s f (timed a)) firings posts

  -- Before each request stand the writes of what fires after the greatest moment so far and up to that of the request.
  abbrev pub IsMerged : Schedules → ℕ → List A → List A → Type 0
  IsMerged s greatest [] merged = merged ≡ []
  IsMerged s greatest (r ∷ rs) merged =
      (posts rest : List A) × ArePosts s greatest (timed r).1 posts × (merged ≡ posts ++ r ∷ rest) × IsMerged s (max greatest (timed r).1) rs rest

  -- the writes of the boot, and then the requests with the writes between them
  pub record Merges (s : Schedules) (boot : ℕ) (requests merged : List A) : Type 0 where
    pub opening : List A
    pub rest : List A
    pub boot_is : IsBoot s boot opening
    pub between : IsMerged s boot requests rest
    pub merged_is : merged ≡ opening ++ rest
