use Rattle.std.proofs.Common.{◌≡◌, ◌+◌, ◌-◌, ◌++◌, ℕ, List, [], ◌∷◌, Some, None, drop, get_or, ap, ◌∙◌, arith, append_assoc}
use Rattle.ob_console.specs.Screen.{reference, screened_behind}
use Rattle.ob_console.proofs.ScreenLemmas.{next_written, next_at}
use Rattle.ob_console.proofs.screen.put_next.Goals as goal

pub returns-then-written-gt0 : goal.returns-then-written-gt0
returns-then-written-gt0 c = ap (λ (t : List ℕ). c.args.out.now.items ++ t) (next_written c.args.text.now c.args.place c.args.written c.requires c.if-written-gt0.true)

pub returns-in_ok-put_reference-in-Some : goal.returns-in_ok-put_reference-in-Some
returns-in_ok-put_reference-in-Some c =
    let out = c.args.out.now.items in
    let n = c.in-Some.character.number in
    let rest = screened_behind (c.in-Some.character.len - 1) (drop (c.args.place + 1) c.args.text.now) in
    let none : 0 ≡ c.args.written = omega (arith, c.if-written-gt0.false) in
    ap (λ (t : List ℕ). t ++ rest) c.in_ok-put_reference-in-Some.ensures
    ∙ append_assoc out (reference n) rest
    ∙ ap (λ (t : List ℕ). out ++ t) (next_at c.args.text.now c.args.place (Some (n, c.in-Some.character.len)) c.requires c.in-Some.ensures.value)
    ∙ ap (λ (w : ℕ). out ++ screened_behind w (drop c.args.place c.args.text.now)) none

pub returns-in_ok-push-in-None : goal.returns-in_ok-push-in-None
returns-in_ok-push-in-None c =
    let out = c.args.out.now.items in
    let rest = screened_behind 0 (drop (c.args.place + 1) c.args.text.now) in
    let none : 0 ≡ c.args.written = omega (arith, c.if-written-gt0.false) in
    ap (λ (t : List ℕ). t ++ rest) c.in_ok-push-in-None.ensures.items
    ∙ append_assoc out (get_or c.args.text.now c.args.place 0 ∷ []) rest
    ∙ ap (λ (t : List ℕ). out ++ t) (next_at c.args.text.now c.args.place None c.requires c.in-None.ensures.value)
    ∙ ap (λ (w : ℕ). out ++ screened_behind w (drop c.args.place c.args.text.now)) none
