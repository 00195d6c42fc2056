-- What the small site becomes doesn't depend on which watches stand.
use Rattle.std.proofs.Common.{◌≡◌, ℕ, List, [], ◌∷◌, refl, ap, ◌∙◌}
use Rattle.ob_watching.specs.Small.{small, Nodes, Action, Get, Put, AskWatch, Do, Batch, Make, Ask, AskNothing, do_one, do_all}
use Rattle.ob_lasting.specs.Lasting.{IsApart}

one_apart : (s : Nodes) (ns ks : List ℕ) (a : Action) (now : ℕ) → (do_one s ns a now).0 ≡ (do_one s ks a now).0
one_apart s ns ks (Get path) now = refl
one_apart s ns ks (Put path value) now = refl
one_apart s ns ks (AskWatch n) now = refl

all_apart : (s : Nodes) (ns ks : List ℕ) (actions : List Action) (now : ℕ) → (do_all s ns actions now).0 ≡ (do_all s ks actions now).0
all_apart s ns ks [] now = refl
all_apart s ns ks (a ∷ actions) now =
    all_apart (do_one s ns a now).0 ns ks actions now ∙ ap (λ (s : Nodes). (do_all s ks actions now).0) (one_apart s ns ks a now)

pub small_apart : IsApart small
small_apart s ns ks (Do action) now = one_apart s ns ks action now
small_apart s ns ks (Batch actions) now = all_apart s ns ks actions now
small_apart s ns ks Make now = refl
small_apart s ns ks (Ask number operation) now = refl
small_apart s ns ks AskNothing now = refl
