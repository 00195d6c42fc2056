use Rattle.std.proofs.Common.{◌≡◌, ℕ, List, Result, sym}
use Rattle.ob_encoding.proofs.OneParts.{Laws, one_part}
use Rattle.ob_encoding.proofs.laws.one_part.Goals as goal

pub returns : goal.returns
returns c = one_part (record {
  bools = c.one_reading.ensures.bools;
  ints = c.one_reading.ensures.ints;
  decs = c.one_reading.ensures.decs;
  dates = c.one_reading.ensures.dates;
  times = c.one_reading.ensures.times;
  abstimes = c.one_reading.ensures.abstimes;
  reltimes = c.one_reading.ensures.reltimes;
})
