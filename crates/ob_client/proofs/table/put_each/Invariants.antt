use Rattle.std.proofs.Common.{◌≡◌, ◌≤◌, ◌+◌, length, drop, true}
use Rattle.std.specs.Prelude.{vec_len, vec_capacity}
use Rattle.ob_client.specs.Tables.{texts_of, have_keys, IsIndex, put_all}
use Rattle.ob_client.proofs.table.put_each.Given as goal

abbrev pub invariant-loop-new : goal.invariant-loop-new
invariant-loop-new l = record {
  rest : put_all (drop (length l.yielded) l.fn.news.items) l.kept.items ≡ put_all l.fn.news.items l.fn.kept.items;
  index : IsIndex l.places (texts_of l.kept.items);
  keys : have_keys l.places (texts_of l.fn.news.items) ≡ true;
  room : vec_len l.kept + length l.fn.news.items ≤ vec_capacity l.kept + length l.yielded;
}
