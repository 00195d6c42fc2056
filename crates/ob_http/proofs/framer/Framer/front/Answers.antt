use Rattle.std.proofs.Common.{subst, ap, ◌∙◌, List, ℕ}
use Rattle.ob_http.specs.Request.{Stands}
use Rattle.ob_http.specs.Requests.{front_of}
use Rattle.ob_http.specs.Stream.{Received}
use Rattle.ob_http.proofs.framer.Framer.front.Goals as goal

pub returns : goal.returns
returns c =
    subst (λ (l : List ℕ). Stands l (front_of c.look_at.result)) (c.as_slice.ensures ∙ ap (λ (r : Received). r.kept) c.self.view_is) c.look_at.ensures
