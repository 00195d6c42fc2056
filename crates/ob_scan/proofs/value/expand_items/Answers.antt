use Rattle.std.proofs.Common.{ℕ, ◌-◌, ◌<◌, List, ◌++◌, length, sym, ap, subst, inl, Ok, arith}
use Rattle.std.specs.Prelude.{string_bytes}
use Rattle.ob_values.specs.XmlText.{IsXmlText}
use Rattle.ob_scan.specs.Expansion.{Expands, IsBadAt}
use Rattle.ob_scan.specs.Items.{item_text}
use Rattle.ob_scan.proofs.Expanding.{item_shorter, text_on, bad_further, ends_whole, bad_here}
use Rattle.ob_scan.proofs.XmlTexts.{xml_both, item_xml}
use Rattle.ob_scan.proofs.Meanings.{one_text, not_bad}
use Rattle.ob_scan.proofs.value.expand_items.Goals as goal

pub returns-in-None : goal.returns-in-None
returns-in-None c =
    let bad : IsBadAt c.args.raw.now (length c.args.raw.now - length c.loop-rest.rest.now) = bad_here c.args.raw.now c.loop-rest.rest.now c.loop-rest-test.ensures c.in-None.ensures.value c.loop-rest.invariant.bad in
    record { exact = bad; only = λ text h. absurd (not_bad c.args.raw.now text _ bad h) }

pub loop-rest-smaller : goal.loop-rest-smaller
loop-rest-smaller c = item_shorter c.loop-rest.rest.now (item_text c.in-Some.item) c.in-Some.behind.now c.in-Some.ensures.value

pub loop-rest-preserved : goal.loop-rest-preserved
loop-rest-preserved c =
    let shorter : length c.in-Some.behind.now < length c.loop-rest.rest.now = item_shorter c.loop-rest.rest.now (item_text c.in-Some.item) c.in-Some.behind.now c.in-Some.ensures.value in
    record {
      xml = subst IsXmlText (sym c.in_ok-push_item-in-Some.ensures) (xml_both (string_bytes c.loop-rest.out) (item_text c.in-Some.item) c.loop-rest.invariant.xml (item_xml c.in-Some.item c.in-Some.ensures.sound));
      short = omega (arith, c.loop-rest.invariant.short);
      text = subst (λ (out : List ℕ). (more : List ℕ) → Expands c.in-Some.behind.now more → Expands c.args.raw.now (out ++ more)) (sym c.in_ok-push_item-in-Some.ensures)
          (text_on c.args.raw.now c.loop-rest.rest.now (item_text c.in-Some.item) c.in-Some.behind.now (string_bytes c.loop-rest.out) c.in-Some.ensures.value c.loop-rest.invariant.text);
      bad = bad_further c.args.raw.now c.loop-rest.rest.now (item_text c.in-Some.item) c.in-Some.behind.now c.loop-rest.invariant.short c.in-Some.ensures.value c.loop-rest.invariant.bad;
    }

pub returns : goal.returns
returns c =
    let made : Expands c.args.raw.now c.in_ok-text.text = subst (Expands c.args.raw.now) (sym c.in_ok-text.ensures) (ends_whole c.args.raw.now c.loop-rest.rest.now (string_bytes c.loop-rest.out) c.loop-rest-test.ensures c.loop-rest.invariant.text) in
    record { exact = made; only = λ text h. inl (ap Ok (one_text c.args.raw.now c.in_ok-text.text text made h)) }
