use Rattle.std.proofs.Common.{inr, rules, refl, ℕ, List, Option, sym, ap, ◌++◌, [], ◌∷◌, ◌∙◌}
use Rattle.std.proofs.Common.{true}
use Rattle.site_ids.specs.declared.value.Vote.{Vote}
use Rattle.proposer.specs.declared.open_attempt.OpenAttempt.{OpenAttempt}
use Rattle.proposer.specs.Best.{vote_told, value_by}
use Rattle.proposer.proofs.Answering.{KeepsPromise, keeps_better, counts, no_majority, waits, proposes}
use Rattle.proposer.proofs.open_attempt.OpenAttempt.on_promise.Goals as goal

pub returns-then-len-quorum : goal.returns-then-len-quorum
returns-then-len-quorum c a h =
    let prior = vote_told c.args.prior in
    let counted = counts c.args.cluster c.args.self.now a c.args.from c.args.ballot h (search rules) c.if-self.false (λ k. search (rules, c.has_promise_of.ensures.1 k)) in
    let kept : KeepsPromise c.args.self.now c.count.new.self c.args.from prior = keeps_better c.args.self.now c.count.new.self c.args.from prior _ c.count.ensures.ballot c.count.ensures.own
    (c.count.ensures.promised ∙ ap (λ (xs : List ℕ). xs ++ c.args.from ∷ []) c.reserve.ensures.items) c.in_ok-better.ensures.higher c.in_ok-better.ensures.lower c.count.ensures.best in
    inr (
      counted,
      no_majority c.args.cluster c.args.self.now a c.args.from prior h (search rules),
      waits c.args.cluster c.args.self.now c.count.new.self a c.args.from prior h c.requires counted.2 kept c.if-self.false c.count.ensures.proposed,
    )

pub returns : goal.returns
returns c a h =
    let prior = vote_told c.args.prior in
    let counted = counts c.args.cluster c.args.self.now a c.args.from c.args.ballot h (search rules) c.if-self.false (λ k. search (rules, c.has_promise_of.ensures.1 k)) in
    let new : OpenAttempt = record (c.count-2.new.self) { proposed = true } in
    let kept : KeepsPromise c.args.self.now new c.args.from prior = keeps_better c.args.self.now new c.args.from prior _ c.count-2.ensures.ballot c.count-2.ensures.own
    (c.count-2.ensures.promised ∙ ap (λ (xs : List ℕ). xs ++ c.args.from ∷ []) c.reserve.ensures.items) c.in_ok-better.ensures.higher c.in_ok-better.ensures.lower c.count-2.ensures.best in
    let made = proposes c.args.cluster c.args.self.now new a c.args.from prior c.in_ok-value.value h c.requires counted.2 kept (search rules) (c.in_ok-value.ensures ∙ ap (λ (b : Option Vote). value_by c.args.self.now.own b) (sym c.count-2.ensures.best) ∙ ap (λ (o : List ℕ). value_by o new.best) (sym c.count-2.ensures.own)) refl in
    (counted, made.0, made.1, made.2)
