-- A read of the site itself leaves it as it is.
use Rattle.std.proofs.Common.{◌≡◌, ℕ, List, sym, ap, ◌∙◌}
use Rattle.ob_values.specs.declared.verb.Verb.TheVariants.{Get}
use Rattle.ob_object.specs.Object.{Object}
use Rattle.ob_watching.specs.Operations.{Itself}
use Rattle.ob_watching.specs.Tables.{numbers_of}
use Rattle.ob_watching.specs.Watches.{World}
use Rattle.ob_site_rules.specs.declared.request.Request.{Request}
use Rattle.ob_site_rules.specs.State.{State}
use Rattle.ob_site_actions.proofs.Batched.{with_now}
use Rattle.ob_site_state.specs.Kept.{Kept}
use Rattle.ob_site_state.specs.Stamping.{tree_of}
use Rattle.ob_site_actions.specs.Stops.{IsDone}
use Rattle.ob_watch.specs.OfPlan.{of_plan}
use Rattle.ob_watch.specs.Flags.{flags_of}
use Rattle.ob_watch.specs.Tables.{Table, lapsed_at, live}
use Rattle.ob_watch.proofs.LawLemmas.{tables_agree}
use Rattle.ob_site.specs.Between.{IsBegun}
use Rattle.ob_site.specs.Steps.{IsAnswered, IsQuiet}
use Rattle.ob_site.proofs.Keeping.{acts_on, read_leaves}
use Rattle.ob_site.proofs.Unchanged.{quiet, quietly}

module _ (k : Kept) (t : Table) (r : Request) (o : Object) (get : r.verb ≡ Get) where
  -- the numbers of the watches that stand
  abbrev numbers : List ℕ
  numbers = numbers_of (live k.time t.watches)

  abbrev flagged : List ℕ
  flagged = numbers_of (flags_of (tree_of k) (live k.time t.watches))

  -- the world with another site in it
  abbrev world : State → World (of_plan k.plan)
  world s = record { time = k.time; site = s; watches = flags_of (tree_of k) (live k.time t.watches); next = t.next }

  read_quietly : o ≡ (acts_on k numbers r).1 → IsQuiet k t t r Itself o
  read_quietly reply = record {
    world = ap world (sym (read_leaves k flagged r get));
    reply = reply ∙ ap (λ (ns : List ℕ). (acts_on k ns r).1) (sym ((tables_agree k.plan (tree_of k)).numbers (live k.time t.watches)));
  }

  left : (l : Kept) → l ≡ with_now k (acts_on k numbers r).0 → l ≡ k
  left l is = is ∙ ap (with_now k) (read_leaves k numbers r get)

  -- so it is answered
  pub read_so : (l n : Kept) (u : Table) → IsBegun k t → IsDone k l (acts_on k numbers r) o → n ≡ quiet l → u ≡ lapsed_at l.time t → IsAnswered k n t u r Itself o
  read_so l n u begun done state swept =
      quietly k n t t u r Itself o begun (read_quietly done.answer) begun.kept
      (state ∙ ap quiet (left l done.after)) (swept ∙ ap (λ (x : Kept). lapsed_at x.time t) (left l done.after))
