use Rattle.std.proofs.Common.{refl, sym, ap}
use Rattle.jiff.specs.Words.{epoch_day}
use Rattle.ob_weekly.proofs.Dates.{one_instant}
use Rattle.ob_weekly.proofs.laws.once_a_date.Goals as goal

pub returns : goal.returns
returns c = λ zone e at other f g same.
    one_instant zone e (epoch_day f.civil.date) at other
    (record { civil = f.civil; date = refl; weekday = f.weekday; time = f.time; instant = f.instant })
    (record { civil = g.civil; date = ap epoch_day (sym same); weekday = g.weekday; time = g.time; instant = g.instant })
