use Rattle.std.proofs.Common.{refl, subst, Option, Some, []}
use Rattle.std.specs.Prelude.{min}
use Rattle.ob_io.specs.Ticks.{ticks, told_ticks, last_moment, Pace, KeepsPace, told_ticks_keep}
use Rattle.ob_program.proofs.StdioLemmas.{whole_since, whole_apart, comes_at, moments_told}
use Rattle.ob_program.proofs.stdio.stdio.Goals as goal

pub returns-in_default-clause-whole : goal.returns-in_default-clause-whole
returns-in_default-clause-whole g c = λ end is.
    whole_since (g.L.Link.left c.args.timed.now.link.now) (g.L.Link.read_faults c.args.timed.now.link.now) (g.L.Link.read_faults c.serve_site.new.timed.link.now)
    (g.L.Link.write_faults c.args.timed.now.link.now) (g.L.Link.write_faults c.serve_site.new.timed.link.now)
    (g.C.Clock.faults c.args.timed.now.clock.now) (g.C.Clock.faults c.now.new.self) (g.C.Clock.faults c.serve_site.new.timed.clock.now) end
    c.now.ensures.cause.later (c.serve_site.ensures.whole end is)

pub returns-clause-comes : goal.returns-clause-comes
unfolding ticks
returns-clause-comes g c =
    let ticked = told_ticks c.serve_site-2.new.timed.clock.now.at c.serve_site-2.new.timed.clock.now.tick c.serve_site-2.new.timed.clock.now.k in
    let comes = comes_at c.args.service.output (g.F.Files.content c.args.files.now c.args.service.site.now) c.moment.result (min c.in-Some.at last_moment) c.serve_site-2.result
    (g.L.Link.left c.args.timed.now.link.now) (g.L.Link.taken c.args.timed.now.link.now) (g.L.Link.left c.serve_site-2.new.timed.link.now) (g.L.Link.taken c.serve_site-2.new.timed.link.now)
    (g.L.Link.held c.args.timed.now.link.now) (g.L.Link.held c.serve_site-2.new.timed.link.now) (Some []) ticked c.moment.ensures c.serve_site-2.ensures.comes in
    rw c.in-Some.is (
      refl,
      (
        ticked,
        comes,
        moments_told c.args.service.output (g.F.Files.content c.args.files.now c.args.service.site.now) (min c.in-Some.at last_moment) c.serve_site-2.result
            (g.L.Link.left c.args.timed.now.link.now) (g.L.Link.taken c.args.timed.now.link.now) (g.L.Link.left c.serve_site-2.new.timed.link.now) (g.L.Link.taken c.serve_site-2.new.timed.link.now)
            (g.L.Link.held c.args.timed.now.link.now) (g.L.Link.held c.serve_site-2.new.timed.link.now) ticked comes,
        subst (λ (p : Option Pace). KeepsPace p ticked) c.serve_site-2.ensures.pace (told_ticks_keep c.serve_site-2.new.timed.clock.now.at c.serve_site-2.new.timed.clock.now.tick c.serve_site-2.new.timed.clock.now.k),
      ),
    )

pub returns-clause-whole : goal.returns-clause-whole
returns-clause-whole g c = λ end is.
    whole_apart (g.L.Link.left c.args.timed.now.link.now) (g.L.Link.read_faults c.args.timed.now.link.now) (g.L.Link.read_faults c.serve_site-2.new.timed.link.now)
    (g.L.Link.write_faults c.args.timed.now.link.now) (g.L.Link.write_faults c.serve_site-2.new.timed.link.now) (g.C.Clock.faults c.args.timed.now.clock.now) end
    (c.serve_site-2.ensures.whole end is)
