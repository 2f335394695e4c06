use Rattle.std.proofs.Common.{◌++◌, ◌∷◌, [], true, false, sym, ap, subst, ◌∙◌}
use Rattle.command.specs.Effective.{effective}
use Rattle.content.specs.Standing.{HasContents}
use Rattle.release.specs.Stepping.{IsStep}
use Rattle.release.proofs.Keeping.{is_kept, repeats, is_first, whole_changed, whole_released}
use Rattle.release.proofs.releases.Releases.feed_command.Goals as goal

pub pass-requires-clause-passes : goal.pass-requires-clause-passes
pass-requires-clause-passes c =
    let o = c.requires.reads in
    let k = c.self.inside.kept in
    let had = is_kept k.fed.items c.args.self.now k.receipts c.args.command.ticket o.0.ticket c.contains_key.result true c.self.view_is c.self.invariant.found c.contains_key.ensures c.if-contains_key.true o.2.0 in
    let repeat = repeats c.args.self.now c.args.value o.0 o.1 had in
    (repeat.1, repeat.2)

pub returns-then-contains_key-clause-ok : goal.returns-then-contains_key-clause-ok
returns-then-contains_key-clause-ok c =
    let o = c.requires.reads in
    let k = c.self.inside.kept in
    let had = is_kept k.fed.items c.args.self.now k.receipts c.args.command.ticket o.0.ticket c.contains_key.result true c.self.view_is c.self.invariant.found c.contains_key.ensures c.if-contains_key.true o.2.0 in
    (c.in_ok-pass.ensures.ok, sym (repeats c.args.self.now c.args.value o.0 o.1 had).0)

pub invariant_of-self-in-Change : goal.invariant_of-self-in-Change
invariant_of-self-in-Change c =
    let o = c.requires.reads in
    let v = c.args.value in
    let k = c.self.inside.kept in
    let had = is_kept k.fed.items c.args.self.now k.receipts c.args.command.ticket o.0.ticket c.contains_key.result false c.self.view_is c.self.invariant.found c.contains_key.ensures c.if-contains_key.false o.2.0 in
    let first = is_first c.args.self.now v o.0 o.1 had in
    let live = subst (λ vs. HasContents k.live (effective vs)) c.self.view_is c.self.invariant.stands in
    let step = subst (λ s. IsStep s (effective c.args.self.now) o.0) c.in-Change.is (c.in-Ok.ensures (effective c.args.self.now) o.0 o.2.1 live) in
    let took = c.in_ok-take-in-Change.ensures in
    whole_changed k c.take.new.self v c.args.self.now o.0 c.args.command.ticket c.in-Change.site c.self.view_is took.fed took.live took.sites took.receipts (sym o.2.0) c.self.invariant c.requires.few o.1
    (step.0 ∙ sym first.0) (subst (HasContents c.in-Change.site) (sym first.1) step.1)

pub returns-in_ok-take-in-Change-clause-ok : goal.returns-in_ok-take-in-Change-clause-ok
returns-in_ok-take-in-Change-clause-ok c =
    let o = c.requires.reads in
    let v = c.args.value in
    let k = c.self.inside.kept in
    let had = is_kept k.fed.items c.args.self.now k.receipts c.args.command.ticket o.0.ticket c.contains_key.result false c.self.view_is c.self.invariant.found c.contains_key.ensures c.if-contains_key.false o.2.0 in
    let first = is_first c.args.self.now v o.0 o.1 had in
    let live = subst (λ vs. HasContents k.live (effective vs)) c.self.view_is c.self.invariant.stands in
    let step = subst (λ s. IsStep s (effective c.args.self.now) o.0) c.in-Change.is (c.in-Ok.ensures (effective c.args.self.now) o.0 o.2.1 live) in
    (c.in_ok-take-in-Change.ensures.fed ∙ ap (λ vs. vs ++ v ∷ []) c.self.view_is, step.0 ∙ sym first.0)

pub invariant_of-self-in-Release : goal.invariant_of-self-in-Release
invariant_of-self-in-Release c =
    let o = c.requires.reads in
    let v = c.args.value in
    let k = c.self.inside.kept in
    let had = is_kept k.fed.items c.args.self.now k.receipts c.args.command.ticket o.0.ticket c.contains_key.result false c.self.view_is c.self.invariant.found c.contains_key.ensures c.if-contains_key.false o.2.0 in
    let first = is_first c.args.self.now v o.0 o.1 had in
    let live = subst (λ vs. HasContents k.live (effective vs)) c.self.view_is c.self.invariant.stands in
    let step = subst (λ s. IsStep s (effective c.args.self.now) o.0) c.in-Release.is (c.in-Ok.ensures (effective c.args.self.now) o.0 o.2.1 live) in
    let took = c.in_ok-take-in-Release.ensures in
    whole_released k c.take-in-Release.new.self v c.args.self.now o.0 c.args.command.ticket c.in-Release.site c.in-Release.copy c.self.view_is took.fed took.live took.sites step.2 took.receipts (sym o.2.0)
    c.self.invariant c.requires.few o.1 (step.0 ∙ sym first.0) (subst (HasContents c.in-Release.site) (sym first.1) step.1)

pub returns-in_ok-take-in-Release-clause-ok : goal.returns-in_ok-take-in-Release-clause-ok
returns-in_ok-take-in-Release-clause-ok c =
    let o = c.requires.reads in
    let v = c.args.value in
    let k = c.self.inside.kept in
    let had = is_kept k.fed.items c.args.self.now k.receipts c.args.command.ticket o.0.ticket c.contains_key.result false c.self.view_is c.self.invariant.found c.contains_key.ensures c.if-contains_key.false o.2.0 in
    let first = is_first c.args.self.now v o.0 o.1 had in
    let live = subst (λ vs. HasContents k.live (effective vs)) c.self.view_is c.self.invariant.stands in
    let step = subst (λ s. IsStep s (effective c.args.self.now) o.0) c.in-Release.is (c.in-Ok.ensures (effective c.args.self.now) o.0 o.2.1 live) in
    (c.in_ok-take-in-Release.ensures.fed ∙ ap (λ vs. vs ++ v ∷ []) c.self.view_is, step.0 ∙ sym first.0)
