-- A log stays one when it is pushed to, cut and rolled.
use Rattle.std.proofs.Common.{◌+◌, ◌-◌, ◌^◌, ◌<◌, ℕ, List, [], ◌∷◌, ◌++◌, length, take, drop, sym, subst, arith}
use Rattle.std.proofs.lemmas.List.{take-append-drop, length-append, length-take, length-drop}
use Rattle.std.proofs.lemmas.List.Elements.{All-push, All-take, All-drop}
use Rattle.ob_history.specs.Records.{InOrder, MayFollow, IsRecord}
use Rattle.ob_history.specs.Logs.{IsHistory}
use Rattle.ob_history.specs.declared.records.Record.{Record}
use Rattle.circular_buffer.specs.Buffer.{keep_last}
use Rattle.ob_history.proofs.Order.{InOrder-left, InOrder-right, InOrder-more}

pub IsHistory-more : (gone : ℕ) (kept : List Record) (r : Record) → IsHistory gone kept → gone + length kept + 1 < 2 ^ 63 → MayFollow kept r → IsRecord r → IsHistory gone (kept ++ r ∷ [])
IsHistory-more gone kept r h lt follows is = record {
  counted = omega (arith, length-append kept (r ∷ []));
  in_order = InOrder-more kept r h.in_order follows;
  records = All-push IsRecord kept r h.records is;
}

pub IsHistory-cut : (gone : ℕ) (kept : List Record) (len : ℕ) → IsHistory gone kept → IsHistory gone (take len kept)
IsHistory-cut gone kept len h = record {
  counted = let low = h.counted in omega (arith, length-take len kept);
  in_order = InOrder-left (take len kept) (drop len kept) (subst InOrder (sym (take-append-drop len kept)) h.in_order);
  records = All-take IsRecord len kept h.records;
}

pub IsHistory-rolled : (gone : ℕ) (kept : List Record) (limit : ℕ) → IsHistory gone kept → IsHistory (gone + (length kept - limit)) (keep_last limit kept)
IsHistory-rolled gone kept limit h = record {
  counted = let low = h.counted in omega (arith, length-drop (length kept - limit) kept);
  in_order = InOrder-right (take (length kept - limit) kept) (drop (length kept - limit) kept) (subst InOrder (sym (take-append-drop (length kept - limit) kept)) h.in_order);
  records = All-drop IsRecord (length kept - limit) kept h.records;
}
