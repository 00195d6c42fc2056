-- What a command has nothing to do with.
use Rattle.std.proofs.Common.{◌≡◌, ℕ, List, Option, Some, None, refl, subst}
use Rattle.std.specs.Prelude.{IsSome}
use Rattle.ob_command.specs.Command.{Command, stdio, schedule, auditing, serve, keep, compacting, check, watch, console, storm, supervise, help, version}
use Rattle.ob_command.specs.declared.server.Output.{Output}
use Rattle.ob_program.specs.Run.{LeavesAlone}

module _ (files devices source sink port dialer clock : Type 0) where
  pub stdio_apart : (asked : Option Command) (output : Output) (site : List ℕ) (at : Option ℕ) (tick : ℕ) → Some (stdio output site at tick) ≡ asked → devices → port → dialer → (IsSome at → clock)
      → LeavesAlone asked files devices source sink port dialer clock
  stdio_apart asked output site at tick is v p d unasked = subst (λ (c : Option Command). LeavesAlone c files devices source sink port dialer clock) is (by_at at unasked)
    where
      by_at : (a : Option ℕ) → (IsSome a → clock) → LeavesAlone (Some (stdio output site a tick)) files devices source sink port dialer clock
      by_at None h = (v, p, d)
      by_at (Some moment) h = (v, p, d, h refl)

  pub schedule_apart : (asked : Option Command) (site file : List ℕ) (at : Option ℕ) (tick : ℕ) → Some (schedule site file at tick) ≡ asked → devices → port → dialer → (IsSome at → clock)
      → LeavesAlone asked files devices source sink port dialer clock
  schedule_apart asked site file at tick is v p d unasked = subst (λ (c : Option Command). LeavesAlone c files devices source sink port dialer clock) is (by_at at unasked)
    where
      by_at : (a : Option ℕ) → (IsSome a → clock) → LeavesAlone (Some (schedule site file a tick)) files devices source sink port dialer clock
      by_at None h = (v, p, d)
      by_at (Some moment) h = (v, p, d, h refl)

  -- where nothing was touched, whatever the words are
  pub all_apart : (asked : Option Command) → files → devices → source → sink → port → dialer → clock → LeavesAlone asked files devices source sink port dialer clock
  all_apart None f v s k p d c = (f, v, s, k, p, d, c)
  all_apart (Some (stdio output site None tick)) f v s k p d c = (v, p, d)
  all_apart (Some (stdio output site (Some at) tick)) f v s k p d c = (v, p, d, c)
  all_apart (Some (schedule site file None tick)) f v s k p d c = (v, p, d)
  all_apart (Some (schedule site file (Some at) tick)) f v s k p d c = (v, p, d, c)
  all_apart (Some (serve site host place workers quota)) f v s k p d c = (v, s, d)
  all_apart (Some (keep site file host place workers quota)) f v s k p d c = (s, d)
  all_apart (Some (auditing site file)) f v s k p d c = (v, s, p, d, c)
  all_apart (Some (compacting site file new)) f v s k p d c = (s, p, d, c)
  all_apart (Some (check file)) f v s k p d c = (v, s, p, d, c)
  all_apart (Some (watch url hrefs polls retries)) f v s k p d c = (f, v, s, p, c)
  all_apart (Some (console url subject polls ack user)) f v s k p d c = (f, v, s, p, c)
  all_apart (Some (storm asked)) f v s k p d c = (f, v, s, p, d, c)
  all_apart (Some (supervise config rounds wait_ms)) f v s k p d c = (v, p, c)
  all_apart (Some (help verb)) f v s k p d c = (f, v, s, p, d, c)
  all_apart (Some version) f v s k p d c = (f, v, s, p, d, c)
