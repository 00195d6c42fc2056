-- Names are free in each part of an object in which they are.
use Rattle.std.proofs.Common.{◌≡◌, ℕ, zero, suc, ◌-◌, Bool, true, false, cond, Some, sym, subst}
use Rattle.std.specs.Prelude.{nat_lt}
use Rattle.ob_values.proofs.Lists.{some_same}
use Rattle.ob_object.specs.Object.{Object, Objects, none, node, count}
use Rattle.ob_tree.specs.Shown.{part_in}
use Rattle.ob_site_rules.specs.declared.plan.Plan.{Plan}
use Rattle.ob_site_rules.specs.State.{State}
use Rattle.ob_plain_state.specs.States.{NamesAreFree}

pub free_part : (plan : Plan) (s : State) (n : ℕ) (r : Objects) (o : Object) → NamesAreFree plan s r → Some o ≡ part_in n r → NamesAreFree plan s (node o.head o.inner none)
free_part plan s n none o free is = absurd cc
free_part plan s zero (node h inner rest) o free is =
    subst (λ (x : Object). NamesAreFree plan s (node x.head x.inner none)) (sym (some_same is)) (free.0, free.1, tt)
free_part plan s (suc n) (node h inner rest) o free is =
    go (nat_lt n (count inner)) (λ e. free_part plan s n inner o free.1 e) (λ e. free_part plan s (n - count inner) rest o free.2 e) is
  where
    go : (b : Bool) → (Some o ≡ part_in n inner → NamesAreFree plan s (node o.head o.inner none))
        → (Some o ≡ part_in (n - count inner) rest → NamesAreFree plan s (node o.head o.inner none))
        → Some o ≡ cond b (part_in n inner) (part_in (n - count inner) rest) → NamesAreFree plan s (node o.head o.inner none)
    go true deep later e = deep e
    go false deep later e = later e
