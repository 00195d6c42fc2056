use Rattle.std.proofs.Common.{◌≡◌, ◌+◌, sym, subst, arith}
use Rattle.ob_object.specs.Object.{parts}
use Rattle.ob_roles.proofs.PartRows.{Numbers, numbers_more, numbers_within}
use Rattle.ob_site_file.proofs.Ruled.{rules_more, rules_bad}
use Rattle.ob_site_file.proofs.rules.bad_rule.Goals as goal

pub returns-in-Some : goal.returns-in-Some
returns-in-Some c = λ ps sees.
    rules_bad ps c.args.items.now.number c.args.items.now.objects.now c.loop-item.item-index c.loop-item.sources c.broken_by.new.sources c.loop-item.number c.item-item.result c.in_ok-broken.broken c.in-Some.rule c.loop-item-test.true c.item-item.is c.in-Some.is
    (λ before has. c.in_ok-broken.ensures ps before sees has) (c.loop-item.invariant.left ps sees)

pub loop-item-preserved : goal.loop-item-preserved
loop-item-preserved c =
    let n = c.args.items.now.number in
    let all = c.args.items.now.objects.now in
    let i = c.loop-item.item-index in
    let x = c.item-item.result in
    let within = numbers_within n c.loop-item.number all i x c.loop-item-test.true c.item-item.is c.loop-item.invariant.numbers in
    let fits = c.requires in
    let same = c.parts-number.ensures in
    let step : c.loop-item.number + c.parts-number.result ≡ c.loop-item.number + parts x = omega (arith, within, fits, same) in
    record {
      numbers = subst (λ m. Numbers n m all (i + 1)) (sym step) (numbers_more n c.loop-item.number all i x c.loop-item-test.true c.item-item.is c.loop-item.invariant.numbers);
      left = λ ps sees.
          rules_more ps n all i c.loop-item.sources c.broken_by.new.sources c.loop-item.number (c.loop-item.number + c.parts-number.result) x c.in_ok-broken.broken c.loop-item-test.true c.item-item.is c.in-None.is
          (λ before has. c.in_ok-broken.ensures ps before sees has) step (c.loop-item.invariant.left ps sees);
    }
