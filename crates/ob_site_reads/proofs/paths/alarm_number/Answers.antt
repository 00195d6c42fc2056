use Rattle.std.proofs.Common.{ℕ, List, ◌++◌, Some, None, sym, ap, ap₂, ◌∙◌, arith}
use Rattle.std.specs.Prelude.{codes}
use Rattle.std.specs.Fmt.{decimal}
use Rattle.std.specs.Result.{result_ok}
use Rattle.std.proofs.lemmas.Fmt.{parse-decimal}
use Rattle.std.proofs.lemmas.Str.Pattern.{split_after}
use Rattle.ob_site_reads.proofs.Numbers.{behind_root, behind_word, no_slash}
use Rattle.ob_site_reads.proofs.paths.alarm_number.Goals as goal

pub returns-in-Some-split_once : goal.returns-in-Some-split_once
returns-in-Some-split_once c = λ n t small e.
    let root = c.in-Some.ensures.cases in
    let word = c.in-Some-strip_prefix.ensures.cases in
    let below = c.in-Some.below.now in
    let numbered = c.in-Some-strip_prefix.numbered.now in
    let behind =
    behind_root c.args.plan.now.root below c.args.path.now t n
    (sym c.as_str.ensures.value ∙ root.1.1 ∙ ap₂ (λ (f r : List ℕ). f ++ r) c.as_str-2.ensures.value (sym root.2)) e in
    let rest = behind_word below numbered t n (word.1.1 ∙ ap (λ (r : List ℕ). codes "alarm/" ++ r) (sym word.2)) behind in
    let parts = split_after 47 numbered (decimal n) t (Some (c.in-Some-split_once.digits, c.in-Some-split_once.field-0-1)) c.in-Some-split_once.ensures.cases (omega arith) rest (no_slash n small) in
    c.ok.ensures.value ∙ ap result_ok (parse-decimal 64 n c.in-Some-split_once.digits.now c.parse.result small small parts.0 c.parse.ensures.value.0)

pub returns-in-None : goal.returns-in-None
returns-in-None c = λ n t small e.
    let root = c.in-Some.ensures.cases in
    let word = c.in-Some-strip_prefix.ensures.cases in
    let below = c.in-Some.below.now in
    let numbered = c.in-Some-strip_prefix.numbered.now in
    let behind =
    behind_root c.args.plan.now.root below c.args.path.now t n
    (sym c.as_str.ensures.value ∙ root.1.1 ∙ ap₂ (λ (f r : List ℕ). f ++ r) c.as_str-2.ensures.value (sym root.2)) e in
    let rest = behind_word below numbered t n (word.1.1 ∙ ap (λ (r : List ℕ). codes "alarm/" ++ r) (sym word.2)) behind in
    absurd (split_after 47 numbered (decimal n) t None c.in-None.ensures.cases (omega arith) rest (no_slash n small))
