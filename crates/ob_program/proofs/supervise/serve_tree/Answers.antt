use Rattle.ob_super.specs.InHand.{upstreams}
use Rattle.ob_program.proofs.StdioLemmas.{served_cause, whole_at}
use Rattle.ob_program.proofs.SuperLemmas.{comes_unfollowed, unfollowed_serves_none, unfollowed_cause}
use Rattle.ob_program.proofs.supervise.serve_tree.Goals as goal

pub returns-in-Ok-clause-comes : goal.returns-in-Ok-clause-comes
returns-in-Ok-clause-comes g c = (upstreams c.in-Ok.made.followed.items, c.in-Ok.ensures.follows, c.supervise-end.ensures.supervises)

pub returns-in-Ok-clause-unused : goal.returns-in-Ok-clause-unused
returns-in-Ok-clause-unused g c = λ none. absurd none

pub returns-in-Ok-clause-cause : goal.returns-in-Ok-clause-cause
returns-in-Ok-clause-cause g c = served_cause _ _ _ _ _ _ _ _ _ c.read_config.ensures.later c.supervise-end.ensures.cause

pub returns-in-Ok-clause-whole : goal.returns-in-Ok-clause-whole
returns-in-Ok-clause-whole g c = λ end is.
    whole_at (g.L.Link.left c.args.relay.now.link.now) (g.L.Link.read_faults c.args.relay.now.link.now) (g.L.Link.read_faults c.supervise-end.new.link)
    (g.L.Link.write_faults c.args.relay.now.link.now) (g.L.Link.write_faults c.supervise-end.new.link) 0 0 c.supervise-end.result end is c.supervise-end.ensures.whole

pub returns-in-Err-clause-comes : goal.returns-in-Err-clause-comes
returns-in-Err-clause-comes g c = comes_unfollowed (g.F.Files.content c.args.files.now c.args.asked.config.now) _ c.in-Err.end _ _ _ _ c.in-Err.ensures.none

pub returns-in-Err-clause-cause : goal.returns-in-Err-clause-cause
returns-in-Err-clause-cause g c = unfollowed_cause (g.F.Files.content c.args.files.now c.args.asked.config.now) c.in-Err.end _ _ _ _ _ c.read_config.ensures.later c.in-Err.ensures.failed c.in-Err.ensures.none

pub returns-in-Err-clause-whole : goal.returns-in-Err-clause-whole
returns-in-Err-clause-whole g c = λ end is. absurd (unfollowed_serves_none (g.F.Files.content c.args.files.now c.args.asked.config.now) c.in-Err.end end c.in-Err.ensures.none is)
