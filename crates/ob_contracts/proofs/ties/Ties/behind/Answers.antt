use Rattle.std.proofs.Common.{◌≡◌, ◌+◌, ◌-◌, ◌||◌, List, ℕ, Bool, [], ◌∷◌, ◌++◌, map, take, length, sym, ap, ap₂, ◌∙◌, subst, arith, add-one}
use Rattle.std.specs.List.{list_any}
use Rattle.std.proofs.Math.Seq.{take-suc}
use Rattle.std.proofs.lemmas.List.{map-append}
use Rattle.ob_contracts.specs.Ties.{AreMarked, is_marked}
use Rattle.ob_contracts.proofs.Tied.{marks_more}
use Rattle.ob_contracts.proofs.ties.Ties.behind.Goals as goal

pub loop-row-preserved : goal.loop-row-preserved
loop-row-preserved c =
    let rows = c.as_slice-row-items.result.now in
    let i = c.loop-row.row-index in
    let x = c.row-item.result in
    let written = c.args.written.now in
    let next : take i rows ++ x ∷ [] ≡ take (i + 1) rows = rw add-one (sym (take-suc rows i x c.loop-row-test.true ∙ ap (λ y. take i rows ++ y ∷ []) (sym c.row-item.is))) in
    let more : map (λ r. r.items) (take i rows) ++ x.items ∷ [] ≡ map (λ r. r.items) (take (i + 1) rows) = sym (map-append (λ r. r.items) (take i rows) (x ∷ [])) ∙ ap (map (λ r. r.items)) next in
    let b : c.or-marked.result ≡ (is_marked (length c.loop-row.marks.items - c.args.first) written || list_any (λ k. is_marked k c.loop-row.marks.items) x.items) =
    c.or-marked.ensures
    ∙ ap₂ (λ (n m : Bool). n || m) (c.is_marked-own.ensures ∙ ap (λ (ms : List Bool). is_marked (length ms - c.args.first) written) c.as_slice-known.ensures.value)
    (c.names_marked-named.ensures ∙ ap₂ (λ (ms : List Bool) (r : List ℕ). list_any (λ k. is_marked k ms) r) c.as_slice-known.ensures.value c.as_slice.ensures.value) in
    subst (λ (l : List (List ℕ)). AreMarked c.args.first written l c.push.new.self.items) more
    (subst (λ (ms : List Bool). AreMarked c.args.first written (map (λ r. r.items) (take i rows) ++ x.items ∷ []) ms) (sym c.in_ok-push.ensures.items)
    (marks_more c.args.first written (map (λ r. r.items) (take i rows)) x.items c.loop-row.marks.items c.or-marked.result b c.loop-row.invariant))
