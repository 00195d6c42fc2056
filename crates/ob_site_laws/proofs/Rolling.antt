-- Rolling drops the oldest records of each history and counts them.
use Rattle.std.proofs.Common.{arith, ◌≡◌, ℕ, ◌+◌, ◌-◌, ◌≤◌, Bool, true, false, cond, List, [], ◌∷◌, map, length, drop, Option, Some, None, refl, sym, ap, ◌∙◌, ap₂, subst}
use Rattle.std.proofs.lemmas.List.{length-drop, length-map}
use Rattle.std.specs.Prelude.{zero, suc, option_map, find}
use Rattle.std.specs.Str.{bytes_eq}
use Rattle.url.specs.Parts.{Parts}
use Rattle.ob_object.specs.Object.{Object}
use Rattle.ob_history.specs.declared.records.Record.{Record}
use Rattle.ob_watching.specs.Sites.{Site, HasRolled}
use Rattle.ob_site_rules.specs.Build.{Text, Path}
use Rattle.ob_site_rules.specs.declared.plan.Plan.{Plan}
use Rattle.ob_site_rules.specs.State.{Log, State, at, rolled, rolled_logs, roll}
use Rattle.ob_site_rules.specs.Entries.{record_object}
use Rattle.ob_site_rules.specs.Posts.{kept_in}
use Rattle.ob_site_rules.specs.declared.resource.Resource.{Resource}
use Rattle.ob_site_rules.specs.declared.resource.Resource.TheVariants.{About, Batch, Service, Make, AlarmAt, AckOf, WritePointOf, QueryOf, FeedOf, AlarmQuery, AlarmFeed, Node}
use Rattle.ob_site_rules.specs.Places.{event_places}
use Rattle.ob_site_rules.specs.Watched.{events_at, gone_in, gone_at}
use Rattle.ob_site_rules.specs.Sites.{site}

map_drop : {A B : Type 0} (f : A → B) (n : ℕ) (xs : List A) → map f (drop n xs) ≡ drop n (map f xs)
map_drop f zero xs = refl
map_drop f (suc n) [] = refl
map_drop f (suc n) (x ∷ xs) = map_drop f n xs

abbrev pub picked : Bool → Path × Log → Option (Path × Log) → Option Log
picked b l others =
    let there : Option (Path × Log) = cond b (Some l) others in
    option_map (λ e. e.1) there

-- the log of a history after all have rolled
pub rolled_at : (h : Path) (ls : List (Path × Log)) → at h (rolled_logs ls) ≡ option_map rolled (at h ls)
rolled_at h [] = refl
rolled_at h (l ∷ ls) = go (bytes_eq l.0 h) (rolled_at h ls)
  where
    go : (b : Bool) → at h (rolled_logs ls) ≡ option_map rolled (at h ls)
        → picked b (l.0, rolled l.1) (find (λ e. bytes_eq e.0 h) (rolled_logs ls)) ≡ option_map rolled (picked b l (find (λ e. bytes_eq e.0 h) ls))
    go true rest = refl
    go false rest = rest

abbrev Rolls : Option Log → Option Log → Type 0
Rolls before after = HasRolled Object (gone_in before) (gone_in after) (map record_object (kept_in before)) (map record_object (kept_in after))

abbrev log : Option ℕ → ℕ → List Record → Log
log c g k = record { capacity = c; gone = g; kept = k }

within : (n c m : ℕ) → n ≡ m → n - c ≤ m
within n c m e = omega (arith, e)

log_rolls : (c : Option ℕ) (g : ℕ) (k : List Record) → Rolls (Some (log c g k)) (Some (rolled (log c g k)))
log_rolls None g k = record { lost = 0; were_there = omega arith; kept = refl; counted = omega arith }
log_rolls (Some c) g k = record {
  lost = length k - c;
  were_there = within (length k) c (length (map record_object k)) (sym (length-map k record_object));
  kept = map_drop record_object (length k - c) k;
  counted = refl;
}

some_rolls : (o : Option Log) → Rolls o (option_map rolled o)
some_rolls None = record { lost = 0; were_there = omega arith; kept = refl; counted = refl }
some_rolls (Some l) = log_rolls l.capacity l.gone l.kept

nothing_rolls : HasRolled Object 0 0 [] []
nothing_rolls = record { lost = 0; were_there = omega arith; kept = refl; counted = refl }

events_roll : (n : ℕ) (es : List Object) → HasRolled Object n n es es
events_roll n es = record { lost = 0; were_there = omega arith; kept = refl; counted = omega arith }

place_rolls : (plan : Plan) (s : State) (place : Option Resource) → HasRolled Object (gone_at s place) (gone_at (roll s) place) (events_at plan s place) (events_at plan (roll s) place)
place_rolls plan s (Some (FeedOf h)) = subst (λ (o : Option Log). Rolls (at h s.logs) o) (sym (rolled_at h s.logs)) (some_rolls (at h s.logs))
place_rolls plan s (Some AlarmFeed) = events_roll 0 _
place_rolls plan s None = nothing_rolls
place_rolls plan s (Some (Node o)) = nothing_rolls
place_rolls plan s (Some About) = nothing_rolls
place_rolls plan s (Some Batch) = nothing_rolls
place_rolls plan s (Some Service) = nothing_rolls
place_rolls plan s (Some Make) = nothing_rolls
place_rolls plan s (Some (AlarmAt n)) = nothing_rolls
place_rolls plan s (Some (AckOf n)) = nothing_rolls
place_rolls plan s (Some (WritePointOf q)) = nothing_rolls
place_rolls plan s (Some (QueryOf h)) = nothing_rolls
place_rolls plan s (Some AlarmQuery) = nothing_rolls

log_rolls_once : (c : Option ℕ) (g : ℕ) (k : List Record) → rolled (rolled (log c g k)) ≡ rolled (log c g k)
log_rolls_once None g k = refl
log_rolls_once (Some c) g k =
    let left : List Record = drop (length k - c) k in
    let none : length left - c ≡ 0 = omega (arith, length-drop (length k - c) k) in
    ap (λ n. log (Some c) (g + (length k - c) + n) (drop n left)) none
    ∙ ap (λ n. log (Some c) n left) (plus_zero (g + (length k - c)))
  where
    plus_zero : (n : ℕ) → n + 0 ≡ n
    plus_zero n = omega arith

logs_roll_once : (ls : List (Path × Log)) → rolled_logs (rolled_logs ls) ≡ rolled_logs ls
logs_roll_once [] = refl
logs_roll_once (l ∷ ls) = ap₂ (λ (x : Log) (xs : List (Path × Log)). (l.0, x) ∷ xs) (log_rolls_once l.1.capacity l.1.gone l.1.kept) (logs_roll_once ls)

pub rolls_once : (s : State) → roll (roll s) ≡ roll s
rolls_once s = ap (λ (ls : List (Path × Log)). let u : State = record s { logs = ls } in u) (logs_roll_once s.logs)

module _ (locate : Parts → Text → Option Path) where
  pub rolls : (plan : Plan) → let m : Site = site locate plan in (s : m.State) (p : m.Path) → HasRolled m.Event (m.gone s p) (m.gone (m.roll s) p) (m.events s p) (m.events (m.roll s) p)
  rolls plan s p = place_rolls plan s (at p (event_places plan))
