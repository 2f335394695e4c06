use Rattle.release.specs.Standing.{answer_view}
use Rattle.release.proofs.Answering.{site_answers}
use Rattle.release.proofs.releases.Releases.answer.Goals as goal

pub returns-clause-ok : goal.returns-clause-ok
returns-clause-ok c =
    site_answers c.args.self.now c.args.n c.args.path.now c.in-Some.site.now (answer_view c.in_ok-page.field-0) c.in-Some.ensures.stands
    c.in-Some.ensures.none.1 c.in_ok-page.ensures
