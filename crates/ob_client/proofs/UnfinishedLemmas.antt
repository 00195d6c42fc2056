-- A part of a message has not more bytes than a head and a body may have.
use Rattle.std.proofs.Common.{◌≡◌, ℕ, ◌+◌, ◌<◌, ◌≤◌, Bool, true, false, cond, leb, List, length, refl, ap, subst, arith, length-append, length-take}
use Rattle.std.specs.Prelude.{codes, Option, None, Result, Ok, Err}
use Rattle.std.proofs.lemmas.Bool.{leb-true, leb-false}
use Rattle.ob_http.specs.declared.fault.FrameFault.{FrameFault}
use Rattle.ob_http.specs.declared.fault.FrameFault.TheVariants.{Head, NoLength, BodyBig}
use Rattle.ob_http.specs.declared.reply.Reply.{Reply}
use Rattle.ob_http.specs.Fields.{Fields, within, has_field, content_length, body_length}
use Rattle.ob_http.specs.Message.{whole, refused, unfinished, head, hopeless, long, short, head_limit, field_limit, looked_at, Shape, length_by, fields_by, with_body, StandsBy}
use Rattle.ob_http.specs.Reply.{reply_limit, reply_shape}
use Rattle.ob_http.specs.Replies.{TakesReply}
use Rattle.ob_http.proofs.MessageLemmas.{IsGrammar}
use Rattle.ob_http.proofs.HeadLemmas.{response_grammar}

-- ---- the length of a body

within_small : (limit n : ℕ) (r : Result ℕ FrameFault) → within limit r ≡ Ok n → n ≤ limit
within_small limit n (Ok m) same = by_test (leb m limit) refl same
  where
    by_test : (t : Bool) → leb m limit ≡ t → cond t (Ok m) (Err BodyBig) ≡ Ok n → n ≤ limit
    by_test true is e = let le = leb-true m limit is in let eq : m ≡ n = cc in omega arith
    by_test false is e = absurd (cc)
within_small limit n (Err fault) same = absurd (cc)

body_small : (absent : Result ℕ FrameFault) (limit n : ℕ) (fs : Fields) → body_length absent limit fs ≡ Ok n → n ≤ limit
body_small absent limit n fs same = by_test (has_field (codes "transfer-encoding") fs) same
  where
    by_test : (t : Bool) → cond t (Err NoLength) (within limit (content_length absent fs)) ≡ Ok n → n ≤ limit
    by_test true e = absurd (cc)
    by_test false e = within_small limit n (content_length absent fs) e

-- ---- the front

module _ {H M : Type 0} (Reads : List ℕ → H → List ℕ → Type 0) (IsHopeless : List ℕ → Type 0) (shape : Shape H M) (law : IsGrammar Reads IsHopeless shape.print) where
  head_size : (bytes rest : List ℕ) (h : H) → Reads (looked_at bytes) h rest → length (shape.print h) ≤ head_limit
  head_size bytes rest h reads = omega (arith, ap length (law.text (looked_at bytes) h rest reads), length-append (shape.print h) rest, length-take head_limit bytes)

  behind_head : (bytes : List ℕ) (h : H) → length (shape.print h) ≤ head_limit → (r : Result ℕ FrameFault) → ((n : ℕ) → r ≡ Ok n → n ≤ shape.limit)
      → with_body shape bytes h r ≡ unfinished → length bytes < head_limit + shape.limit
  behind_head bytes h start (Err fault) small same = absurd (cc)
  behind_head bytes h start (Ok n) small same = by_test _ _ (leb (length (shape.print h) + n) (length bytes)) refl same
    where
      by_test : (m : M) (k : ℕ) (t : Bool) → leb (length (shape.print h) + n) (length bytes) ≡ t → cond t (whole m k) unfinished ≡ unfinished → length bytes < head_limit + shape.limit
      by_test m k true is e = absurd (cc)
      by_test m k false is e = omega (arith, leb-false (length (shape.print h) + n) (length bytes) is, small n refl, start)

  behind_few : (bytes : List ℕ) (h : H) → length (shape.print h) ≤ head_limit → (t : Bool)
      → cond t (with_body shape bytes h (length_by shape h)) (refused Head) ≡ unfinished → length bytes < head_limit + shape.limit
  behind_few bytes h start true same =
      behind_head bytes h start (length_by shape h) (λ n is. body_small shape.absent shape.limit n (fields_by shape h) is) same
  behind_few bytes h start false same = absurd (cc)

  unfinished_size : (bytes : List ℕ) → StandsBy Reads IsHopeless shape bytes unfinished → length bytes < head_limit + shape.limit
  unfinished_size bytes (head h, opens, same) =
      behind_few bytes h (head_size bytes opens.0 h opens.1) (leb (length (shape.lines h)) field_limit) same
  unfinished_size bytes (hopeless, opens, same) = absurd (cc)
  unfinished_size bytes (long, opens, same) = absurd (cc)
  unfinished_size bytes (short, opens, same) = omega (arith, opens.1)

-- ---- replies

abbrev pub most_unfinished : ℕ
most_unfinished = head_limit + reply_limit

-- what a framer keeps that has no whole reply
pub front_size : (old new : List ℕ) (o : Option Reply) → o ≡ None → TakesReply old new (Ok o) → length old < most_unfinished
front_size old new o is takes = unfinished_size _ _ reply_shape response_grammar old (subst (λ (x : Option Reply). TakesReply old new (Ok x)) is takes).0
