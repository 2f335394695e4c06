use Rattle.std.proofs.Common.{refl}
use Rattle.release.proofs.Keeping.{whole_passed}
use Rattle.release.proofs.releases.Releases.pass.Goals as goal

pub invariant_of-self-2 : goal.invariant_of-self-2
invariant_of-self-2 c =
    let k = c.self.inside.kept in
    whole_passed k (record k { fed = c.push.new.self }) c.args.value c.args.self.now c.self.view_is refl refl refl c.in_ok-push.ensures.items c.self.invariant c.requires.few c.requires.passes.0 c.requires.passes.1
