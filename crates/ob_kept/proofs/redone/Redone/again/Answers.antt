use Rattle.std.proofs.Common.{◌≡◌, ap, sym, ◌∙◌}
use Rattle.ob_site_laws.specs.SiteLaws.{acts}
use Rattle.ob_site_rules.specs.Sites.{SiteState}
use Rattle.ob_kept.proofs.Doing.{again_so, reply_so}
use Rattle.ob_kept.proofs.redone.Redone.again.Goals as goal

pub returns-clause-done : goal.returns-clause-done
returns-clause-done c =
    let done : acts c.args.self.now c.args.request.now c.args.moment ≡ (c.step.new.self, c.in_ok-reply.reply) =
    ap (λ (s : SiteState). acts s c.args.request.now c.args.moment) (sym c.self.view_is) ∙ c.in_ok-reply.ensures.done in
    again_so c.args.self.now c.step.new.self c.restart.new.self c.args.request.now c.args.moment c.in_ok-reply.reply done c.restart.ensures

pub returns-clause-reply : goal.returns-clause-reply
returns-clause-reply c =
    let done : acts c.args.self.now c.args.request.now c.args.moment ≡ (c.step.new.self, c.in_ok-reply.reply) =
    ap (λ (s : SiteState). acts s c.args.request.now c.args.moment) (sym c.self.view_is) ∙ c.in_ok-reply.ensures.done in
    reply_so c.args.self.now c.step.new.self c.args.request.now c.args.moment c.in_ok-reply.reply done
