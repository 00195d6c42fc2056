use Rattle.std.proofs.Common.{◌≡◌, ℕ, suc, ◌+◌, ◌-◌, ◌<◌, length, Some, cond, subst, ap, ◌∙◌, arith}
use Rattle.std.specs.BTreeMap.{get_by_text}
use Rattle.std.specs.Str.{bytes_eq}
use Rattle.std.proofs.lemmas.List.{length-map}
use Rattle.ob_watching.specs.WatchOuts.{Text, Held}
use Rattle.ob_client.specs.Tables.{texts_of, has_key, Leads}
use Rattle.ob_client.proofs.TableLemmas.{IsLed, key_at, keys_kept, keys_led, led_more, text_at, index_led}
use Rattle.ob_client.proofs.table.lead_all.Goals as goal

pub lead-requires : goal.lead-requires
lead-requires c =
    ap (has_key c.loop-later.places) c.text.ensures
    ∙ key_at c.loop-later.places c.args.kept.now (length c.args.kept.now - 1 - c.loop-later.later) c.index-kept-place.result (omega (arith, c.loop-later-test.true)) c.index-kept-place.is c.loop-later.invariant.keys

pub loop-later-preserved : goal.loop-later-preserved
loop-later-preserved c =
    let k = length c.args.kept.now - 1 - c.loop-later.later in
    let ts = texts_of c.args.kept.now in
    let x = c.index-kept-place.result in
    let lt : k < length c.args.kept.now = omega (arith, c.loop-later-test.true) in
    let counted : length ts ≡ length c.args.kept.now = length-map c.args.kept.now (λ (h : Held). h.text) in
    let leads : Leads c.loop-later.places c.lead.new.places x.text k =
    λ t. c.lead.ensures t ∙ ap (λ (u : Text). cond (bytes_eq u t) (Some k) (get_by_text c.loop-later.places t)) c.text.ensures in
    let here : length c.args.kept.now - c.loop-later.later ≡ suc k = omega (arith, c.loop-later-test.true) in
    let there : k ≡ length c.args.kept.now - (c.loop-later.later + 1) = omega (arith, c.loop-later-test.true) in
    record {
      led = subst (λ (n : ℕ). IsLed c.lead.new.places n ts) there
          (led_more c.loop-later.places c.lead.new.places k ts x.text (subst (λ (n : ℕ). IsLed c.loop-later.places n ts) here c.loop-later.invariant.led) (omega (arith, lt, counted)) (text_at c.args.kept.now k x lt c.index-kept-place.is) leads);
      keys = keys_kept c.loop-later.places c.lead.new.places ts (keys_led c.loop-later.places c.lead.new.places x.text k leads) c.loop-later.invariant.keys;
    }

pub returns : goal.returns
returns c =
    let none : length c.args.kept.now - c.loop-later.later ≡ 0 = omega (arith, c.loop-later-test.false) in
    index_led c.loop-later.places (texts_of c.args.kept.now) (subst (λ (n : ℕ). IsLed c.loop-later.places n (texts_of c.args.kept.now)) none c.loop-later.invariant.led)
