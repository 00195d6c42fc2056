use Rattle.std.proofs.Common.{subst, Bool, sym}
use Rattle.ob_contracts.specs.Telling.{IsPut}
use Rattle.ob_contracts.proofs.Heads.{put_is}
use Rattle.ob_contracts.proofs.fewer.put_source.Goals as goal

pub returns : goal.returns
returns c = λ P knows.
    subst (λ (b : Bool). IsPut (record { heads = c.put_head.new.heads; names = c.put_names.new.known }) P c.args.source.now b) (sym c.or.ensures)
    (put_is c.args.known.now (record { heads = c.put_head.new.heads; names = c.put_names.new.known }) c.args.source.now P knows c.in_ok-tells.tells c.in_ok-names.names c.in_ok-tells.ensures.0 c.in_ok-tells.ensures.1 c.in_ok-names.ensures)
