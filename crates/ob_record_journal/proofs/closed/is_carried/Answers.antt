use Rattle.std.proofs.Common.{◌≡◌, ◌≤◌, ℕ, List, None, arith, length, sym, ap, subst}
use Rattle.std.proofs.lemmas.Bool.{le-leb, leb-true}
use Rattle.ob_encoding.specs.Canonical.{canonical_text}
use Rattle.ob_record.specs.Runs.{IsBody}
use Rattle.ob_record_journal.proofs.Closing.{body_shallow, shallow_body}
use Rattle.ob_record_journal.proofs.closed.is_carried.Goals as goal

pub returns-then-not-are_shallow : goal.returns-then-not-are_shallow
returns-then-not-are_shallow c = (
  λ no. absurd (cc no),
  λ body.
      let yes = c.are_shallow.ensures.1 (body_shallow c.in-Some.object c.children.result.now c.children.ensures.value (subst IsBody c.in-Some.is body)) in
      absurd (cc (c.if-not-are_shallow.true, yes)),
)

pub returns : goal.returns
returns c = (
  λ yes.
      let short : length c.in_ok-text.text.items ≤ 16_777_216 = omega (arith, c.len.ensures, leb-true c.len.result 16_777_216 yes) in
      subst IsBody (sym c.in-Some.is)
      (shallow_body c.in-Some.object c.children.result.now c.in_ok-text.text.items c.held_carried.ensures c.is_held.ensures c.children.ensures.value (c.are_shallow.ensures.0 (cc c.if-not-are_shallow.false)) c.in_ok-text.ensures short),
  λ body.
      let short : length (canonical_text None c.in-Some.object) ≤ 16_777_216 = (subst IsBody c.in-Some.is body).1 in
      let same : length c.in_ok-text.text.items ≡ length (canonical_text None c.in-Some.object) = ap (λ (l : List ℕ). length l) c.in_ok-text.ensures in
      le-leb c.len.result 16_777_216 (omega (arith, c.len.ensures, same, short)),
)
