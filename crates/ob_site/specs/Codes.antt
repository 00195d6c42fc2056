-- How a proof tells sites apart: each is stored as the tuple of its fields.
use Rattle.std.specs.Prelude.{◌≡◌, ◌⊎◌, ℕ, Bool, List, refl}
use Rattle.std.proofs.Common.{inl, inr}
use Rattle.std.specs.Coded.{Coded, code_by, coded×, coded⊎, coded_ℕ, coded_bool, coded_list}
use Rattle.ob_history.specs.declared.records.Filter.{Filter}
use Rattle.ob_history.specs.contracts.records.Filter.{the_row as filter_row}
use Rattle.ob_watching.specs.Watches.{TrackedOf, Object, Feed, ItemOf, WatchOf}
use Rattle.ob_site_rules.specs.Build.{Path, Text}
use Rattle.ob_site_rules.specs.declared.plan.Plan.{Plan}
use Rattle.ob_site_rules.specs.State.{State}
use Rattle.ob_site_rules.specs.Sites.{SiteState}
use Rattle.ob_site_state.specs.Codes.{text_code, plan_code, state_code}

abbrev Tracks : Type 0
Tracks = TrackedOf Filter

abbrev pub tracks_parts : Tracks → Bool ⊎ (Filter × ℕ)
tracks_parts (Object changed) = inl changed
tracks_parts (Feed filter given) = inr (filter, given)

abbrev pub tracks_of : Bool ⊎ (Filter × ℕ) → Tracks
tracks_of (inl changed) = Object changed
tracks_of (inr feed) = Feed feed.0 feed.1

pub tracks_back : (k : Tracks) → tracks_of (tracks_parts k) ≡ k
tracks_back (Object changed) = refl
tracks_back (Feed filter given) = refl

abbrev pub tracks_code : Coded Tracks
tracks_code = code_by (Bool ⊎ (Filter × ℕ)) (coded⊎ coded_bool (coded× filter_row.coded coded_ℕ)) tracks_parts tracks_of tracks_back

abbrev pub item_code : Coded (ItemOf Text Path Filter)
item_code =
    code_by (Text × (Path × Tracks)) (coded× text_code (coded× text_code tracks_code))
    (λ i. (i.text, (i.path, i.tracked))) (λ t. record { text = t.0; path = t.1.0; tracked = t.1.1 }) (λ _. refl)

abbrev pub watch_code : Coded (WatchOf Text Path Filter)
watch_code =
    code_by (ℕ × (ℕ × List (ItemOf Text Path Filter))) (coded× coded_ℕ (coded× coded_ℕ (coded_list item_code)))
    (λ w. (w.lease, (w.touched, w.items))) (λ t. record { lease = t.0; touched = t.1.0; items = t.1.1 }) (λ _. refl)

abbrev pub site_code : Coded SiteState
site_code =
    code_by (Plan × (ℕ × (State × (List (ℕ × WatchOf Text Path Filter) × ℕ))))
    (coded× plan_code (coded× coded_ℕ (coded× state_code (coded× (coded_list (coded× coded_ℕ watch_code)) coded_ℕ))))
    (λ s. (s.plan, (s.world.time, (s.world.site, (s.world.watches, s.world.next)))))
    (λ t. record { plan = t.0; world = record { time = t.1.0; site = t.1.1.0; watches = t.1.1.1.0; next = t.1.1.1.1 } }) (λ _. refl)
