use Rattle.std.proofs.Common.{◌≡◌, ◌++◌, drop}
use Rattle.ob_console.specs.Screen.{screened, screened_behind}
use Rattle.ob_console.proofs.screen.put_screened.Given as goal

abbrev pub invariant-loop-place : goal.invariant-loop-place
invariant-loop-place l = l.out.items ++ screened_behind l.written (drop l.place l.text) ≡ l.fn.out.items ++ screened l.text
