use Rattle.std.proofs.Common.{◌≡◌, ℕ, Some, None, map, subst, sym, ap, ◌∙◌, arith}
use Rattle.std.specs.BTreeMap.{Updates}
use Rattle.std.specs.Cmp.Lexicographic.{slice_cmp}
use Rattle.std.specs.Ordering.{nat_cmp}
use Rattle.ob_watching.specs.WatchOuts.{Text}
use Rattle.ob_client.specs.Tables.{place_of}
use Rattle.ob_console.specs.Boards.{Line, put_line}
use Rattle.ob_console.specs.InHand.{shown, lines_in, IsIndex}
use Rattle.ob_console.proofs.BoardLemmas.{Alarms, href_of, place_within, put_over, index_over, put_behind, index_behind}
use Rattle.ob_console.proofs.board.put_alarm.Goals as goal

pub index_mut-requires : goal.index_mut-requires
index_mut-requires c =
    let inside = place_within c.args.alarms.now.items c.in-Some.place c.as_str.result.now (sym (c.requires c.as_str.result.now) ∙ sym c.get.ensures.value ∙ sym c.in-Some.ensures) in
    omega (arith, inside, c.args.alarms.now.ok.0)

pub returns-in-Some-clause-index : goal.returns-in-Some-clause-index
returns-in-Some-clause-index c =
    let hrefs = map href_of (lines_in c.args.alarms.now.items) in
    let at : place_of c.in_ok-copy.copy hrefs ≡ Some c.in-Some.place =
    ap (λ (t : Text). place_of t hrefs) (c.in_ok-copy.ensures ∙ sym c.as_str.ensures.value) ∙ sym (c.requires c.as_str.result.now) ∙ sym c.get.ensures.value ∙ sym c.in-Some.ensures in
    index_over c.args.places.now c.args.alarms.now.items c.in-Some.place (c.in_ok-copy.copy, c.args.named.alarm) c.requires at

pub returns-in-Some-clause-put : goal.returns-in-Some-clause-put
returns-in-Some-clause-put c =
    let hrefs = map href_of (lines_in c.args.alarms.now.items) in
    let at : place_of c.in_ok-copy.copy hrefs ≡ Some c.in-Some.place =
    ap (λ (t : Text). place_of t hrefs) (c.in_ok-copy.ensures ∙ sym c.as_str.ensures.value) ∙ sym (c.requires c.as_str.result.now) ∙ sym c.get.ensures.value ∙ sym c.in-Some.ensures in
    put_over c.args.alarms.now.items c.in-Some.place (c.in_ok-copy.copy, c.args.named.alarm) at
    ∙ ap (λ (t : Text). put_line (let l : Line = record { text = t; value = shown c.args.named.alarm } in l) (lines_in c.args.alarms.now.items)) c.in_ok-copy.ensures

pub returns-in_ok-push-in-None-clause-index : goal.returns-in_ok-push-in-None-clause-index
returns-in_ok-push-in-None-clause-index c =
    let all = c.args.alarms.now.items in
    let hrefs = map href_of (lines_in all) in
    let none : place_of c.in_ok-copy.copy hrefs ≡ None =
    ap (λ (t : Text). place_of t hrefs) (c.in_ok-copy.ensures ∙ sym c.as_str.ensures.value) ∙ sym (c.requires c.as_str.result.now) ∙ sym c.get.ensures.value ∙ sym c.in-None.ensures in
    subst (λ (xs : Alarms). IsIndex c.insert.new.self (lines_in xs)) (sym c.in_ok-push-in-None.ensures.items)
    (index_behind c.args.places.now c.insert.new.self c.as_str-in-None.result all (c.in_ok-copy.copy, c.args.named.alarm) c.requires none (c.as_str-in-None.ensures.value ∙ sym c.in_ok-copy.ensures)
    (subst (λ (n : ℕ). Updates (λ x y. slice_cmp nat_cmp x.now y.now) c.args.places.now c.insert.new.self c.as_str-in-None.result (Some n)) (c.len.ensures ∙ c.args.alarms.now.ok.0) c.in_ok-insert-in-None.ensures.updates))

pub returns-in_ok-push-in-None-clause-put : goal.returns-in_ok-push-in-None-clause-put
returns-in_ok-push-in-None-clause-put c =
    let all = c.args.alarms.now.items in
    let hrefs = map href_of (lines_in all) in
    let none : place_of c.in_ok-copy.copy hrefs ≡ None =
    ap (λ (t : Text). place_of t hrefs) (c.in_ok-copy.ensures ∙ sym c.as_str.ensures.value) ∙ sym (c.requires c.as_str.result.now) ∙ sym c.get.ensures.value ∙ sym c.in-None.ensures in
    ap lines_in c.in_ok-push-in-None.ensures.items
    ∙ put_behind all (c.in_ok-copy.copy, c.args.named.alarm) none
    ∙ ap (λ (t : Text). put_line (let l : Line = record { text = t; value = shown c.args.named.alarm } in l) (lines_in all)) c.in_ok-copy.ensures
