-- The small site is lawful.
use Rattle.std.proofs.Common.{◌≡◌, ℕ, ◌+◌, ◌-◌, Bool, true, false, cond, List, [], ◌∷◌, ◌++◌, length, drop, Option, Some, None, refl, sym, ap, ap₂, ◌∙◌, append-nil, append_assoc, ◌==◌, add-zero, length-drop, arith}
use Rattle.std.specs.List.{AllByRecursion}
use Rattle.std.specs.Bool.{Decides}
use Rattle.std.proofs.lemmas.Bool.Decides.{Decides-eqb, Decides-and, Decides-like}
use Rattle.ob_watching.specs.Operations.{Told, Refused}
use Rattle.ob_watching.specs.Sites.{IsLawful, HasRolled}
use Rattle.ob_watching.specs.Small.{Sent, Fault, Whole, Event, Nodes, Request, Do, Batch, Make, Ask, AskNothing, Action, Get, Put, AskWatch, Outcome, Shown, source, feed_path, events, gone, written, put_value, do_one, do_all, act_itself, roll, same_values, small}

Decides-same_values : (xs ys : List ℕ) → Decides (same_values xs ys) (xs ≡ ys)
Decides-same_values [] [] = (λ _. refl, λ _. refl)
Decides-same_values [] (y ∷ ys) = (λ h. absurd (cc), λ h. absurd (cc))
Decides-same_values (x ∷ xs) [] = (λ h. absurd (cc), λ h. absurd (cc))
Decides-same_values (x ∷ xs) (y ∷ ys) =
    Decides-like _ (λ h. ap₂ (λ z zs. z ∷ zs) h.0 h.1) (λ h. (cc, cc)) (Decides-and _ _ (Decides-eqb x y) (Decides-same_values xs ys))

-- the records only get more, and none counts as gone
record Grows (s u : Nodes) : Type 0 where
  more : List Event
  kept : u.kept ≡ s.kept ++ more
  gone : u.gone ≡ s.gone

stays : (s : Nodes) → Grows s s
stays s = record { more = []; kept = sym (append-nil s.kept); gone = refl }

then : (s u v : Nodes) → Grows s u → Grows u v → Grows s v
then s u v h g = record { more = h.more ++ g.more; kept = g.kept ∙ ap (λ es. es ++ g.more) h.kept ∙ append_assoc s.kept h.more g.more; gone = g.gone ∙ h.gone }

grows_put : (s : Nodes) (path value now : ℕ) (old : Option ℕ) → Grows s (put_value s path value now old).0
grows_put s path value now None = stays s
grows_put s path value now (Some old) = go (old == value)
  where
    go : (b : Bool) → let done : Nodes × Outcome = cond b (s, Shown (value ∷ [])) (written s path value now, Shown (value ∷ [])) in Grows s done.0
    go true = stays s
    go false = record { more = cond (path == source) (record { time = now; value = value } ∷ []) []; kept = refl; gone = refl }

grows_one : (s : Nodes) (numbers : List ℕ) (action : Action) (now : ℕ) → Grows s (do_one s numbers action now).0
grows_one s numbers (Get path) now = stays s
grows_one s numbers (Put path value) now = grows_put s path value now _
grows_one s numbers (AskWatch n) now = stays s

grows_all : (s : Nodes) (numbers : List ℕ) (actions : List Action) (now : ℕ) → Grows s (do_all s numbers actions now).0
grows_all s numbers [] now = stays s
grows_all s numbers (action ∷ actions) now = then s (do_one s numbers action now).0 _ (grows_one s numbers action now) (grows_all (do_one s numbers action now).0 numbers actions now)

grows_act : (s : Nodes) (numbers : List ℕ) (r : Request) (now : ℕ) → Grows s (act_itself s numbers r now).0
grows_act s numbers (Do action) now = grows_one s numbers action now
grows_act s numbers (Batch actions) now = grows_all s numbers actions now
grows_act s numbers Make now = stays s
grows_act s numbers (Ask n op) now = stays s
grows_act s numbers AskNothing now = stays s

grows_at : (s u : Nodes) (path : ℕ) → Grows s u → (more : List Event) × (events u path ≡ events s path ++ more)
grows_at s u path g = (
  cond (path == feed_path) g.more [],
  elim (path == feed_path) as (λ b. cond b u.kept [] ≡ cond b s.kept [] ++ cond b g.more []) [ true ↦ g.kept | false ↦ refl ],
)

gone_at : (s u : Nodes) (path : ℕ) → Grows s u → gone u path ≡ gone s path
gone_at s u path g = ap (λ n. cond (path == feed_path) n 0) g.gone

rolls_at : (s : Nodes) (path : ℕ) → HasRolled Event (gone s path) (gone (roll s) path) (events s path) (events (roll s) path)
rolls_at s path = elim (path == feed_path) as (λ b. HasRolled Event (cond b s.gone 0) (cond b (s.gone + (length s.kept - s.capacity)) 0) (cond b s.kept []) (cond b (drop (length s.kept - s.capacity) s.kept) [])) [
  | true ↦ record { lost = length s.kept - s.capacity; were_there = omega arith; kept = refl; counted = refl }
  | false ↦ record { lost = 0; were_there = omega arith; kept = refl; counted = refl }
]

rolls_once : (s : Nodes) → roll (roll s) ≡ roll s
rolls_once s = ap (λ k. record { nodes = s.nodes; kept = drop k (drop n s.kept); gone = s.gone + n + k; capacity = s.capacity }) none ∙ ap (λ g. record { nodes = s.nodes; kept = drop n s.kept; gone = g; capacity = s.capacity }) (add-zero (s.gone + n))
  where
    n : ℕ
    n = length s.kept - s.capacity

    none : length (drop (length s.kept - s.capacity) s.kept) - s.capacity ≡ 0
    none = (let rest = length-drop (length s.kept - s.capacity) s.kept in omega (arith, rest))

told_number : (j k a b : ℕ) → ◌≡◌ {A = Sent} (Told j a Whole) (Told k b Whole) → j ≡ k
told_number j k a b h = cc

not_refused : (n lease : ℕ) (f : Fault) → ◌≡◌ {A = Sent} (Told n lease Whole) (Refused f) → ⊥
not_refused n lease f h = cc

any : (es : List Event) → AllByRecursion (λ e. Unit {0}) es
any [] = tt
any (e ∷ es) = (tt, any es)

pub small_lawful : IsLawful small
small_lawful = record {
  same_text = Decides-eqb;
  same = Decides-same_values;
  Readable = λ op r. Unit {0};
  heard_out = λ op gives rs h. refl;
  readable_object = λ op s text path. tt;
  IsEvent = λ e. Unit {0};
  events_are = λ s path. any _;
  readable_events = λ op text path es h. tt;
  readable_changes = λ text path dropped es h. tt;
  readable_fault = λ op fault text. tt;
  heard_nil = λ texts. refl;
  heard_refused = λ op f. refl;
  told = λ j k a b small_j small_k h. told_number j k a b h;
  told_refused = λ n lease f h. not_refused n lease f h;
  grows = λ s numbers r now path. grows_at s (act_itself s numbers r now).0 path (grows_act s numbers r now);
  counts = λ s numbers r now path. gone_at s (act_itself s numbers r now).0 path (grows_act s numbers r now);
  rolls = rolls_at;
  rolls_once = rolls_once;
}
