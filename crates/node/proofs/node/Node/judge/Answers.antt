use Rattle.std.proofs.Common.{inl, inr, Option, List, [], ◌∷◌, ◌++◌, refl, sym, ap, subst, ◌∙◌, append-nil}
use Rattle.site_ids.specs.declared.value.Vote.{Vote}
use Rattle.wire.specs.declared.message.Message.{Message}
use Rattle.wire.specs.declared.message.Message.TheVariants.{Promise}
use Rattle.acceptor.specs.declared.slot.Slot.{Slot}
use Rattle.acceptor.specs.declared.judging.PrepareVerdict.TheVariants as verdict
use Rattle.node.specs.declared.to.To.{To}
use Rattle.node.specs.declared.to.To.TheVariants.{One}
use Rattle.node.specs.Judgements.{IsOwed}
use Rattle.node.proofs.Adding.{on_err}
use Rattle.node.proofs.Verdicts.{judged_as, steps_so, promise_changes, owes}
use Rattle.node.proofs.node.Node.judge.Goals as goal

pub returns-in_ok-push-in-Promise-clause-ok : goal.returns-in_ok-push-in-Promise-clause-ok
returns-in_ok-push-in-Promise-clause-ok g c =
    let slot = c.slot-slot.result.now in
    let b = c.args.ballot in
    let before : List (To × Message) = c.args.judgement.now.answers.items in
    record {
      judged = judged_as b slot verdict.Promise;
      of_slot = c.slot-slot.ensures;
      step = steps_so slot b verdict.Promise c.in-Promise.ensures;
      answers = c.in_ok-push-in-Promise.ensures.items
          ∙ ap (λ (x : To × Message). before ++ x ∷ []) (c.promise.ensures ∙ ap (λ (v : Option Vote). (One b.node, Promise c.args.self.now.me c.args.at b v)) c.in_ok-prior-in-Promise.ensures);
      rises = inl (promise_changes slot b c.in-Promise.ensures, refl);
    }

pub returns-in_ok-push-in-Again-clause-ok : goal.returns-in_ok-push-in-Again-clause-ok
returns-in_ok-push-in-Again-clause-ok g c =
    let slot = c.slot-slot.result.now in
    let b = c.args.ballot in
    let before : List (To × Message) = c.args.judgement.now.answers.items in
    record {
      judged = judged_as b slot verdict.Again;
      of_slot = c.slot-slot.ensures;
      step = steps_so slot b verdict.Again c.in-Again.ensures;
      answers = c.in_ok-push-in-Again.ensures.items
          ∙ ap (λ (x : To × Message). before ++ x ∷ []) (c.promise-in-Again.ensures ∙ ap (λ (v : Option Vote). (One b.node, Promise c.args.self.now.me c.args.at b v)) c.in_ok-prior-in-Again.ensures);
      rises = inr (refl, refl);
    }

pub returns-in_ok-push-in-Nack-clause-ok : goal.returns-in_ok-push-in-Nack-clause-ok
returns-in_ok-push-in-Nack-clause-ok g c =
    let slot = c.slot-slot.result.now in
    let b = c.args.ballot in
    let before : List (To × Message) = c.args.judgement.now.answers.items in
    record {
      judged = judged_as b slot (verdict.Nack c.in-Nack.promised);
      of_slot = c.slot-slot.ensures;
      step = steps_so slot b (verdict.Nack c.in-Nack.promised) c.in-Nack.ensures;
      answers = c.in_ok-push-in-Nack.ensures.items ∙ ap (λ (x : To × Message). before ++ x ∷ []) c.nack.ensures;
      rises = inr (refl, refl);
    }

pub returns-in-Silent-clause-ok : goal.returns-in-Silent-clause-ok
returns-in-Silent-clause-ok g c =
    let slot = c.slot-slot.result.now in
    let b = c.args.ballot in
    record {
      judged = judged_as b slot verdict.Silent;
      of_slot = c.slot-slot.ensures;
      step = steps_so slot b verdict.Silent c.in-Silent.ensures;
      answers = sym (append-nil c.args.judgement.now.answers.items);
      rises = inr (refl, refl);
    }

pub returns-in_err-prior-in-Promise-clause-err : goal.returns-in_err-prior-in-Promise-clause-err
returns-in_err-prior-in-Promise-clause-err g c =
    on_err c.from_residual.result (subst (λ (s : Slot). IsOwed s c.args.ballot) c.slot-slot.ensures (owes c.slot-slot.result.now c.args.ballot verdict.Promise c.in-Promise.ensures (λ e. cc)))

pub returns-in_err-push-in-Promise-clause-err : goal.returns-in_err-push-in-Promise-clause-err
returns-in_err-push-in-Promise-clause-err g c =
    on_err c.from_residual-in_err-push-in-Promise.result (subst (λ (s : Slot). IsOwed s c.args.ballot) c.slot-slot.ensures (owes c.slot-slot.result.now c.args.ballot verdict.Promise c.in-Promise.ensures (λ e. cc)))

pub returns-in_err-prior-in-Again-clause-err : goal.returns-in_err-prior-in-Again-clause-err
returns-in_err-prior-in-Again-clause-err g c =
    on_err c.from_residual-in_err-prior-in-Again.result (subst (λ (s : Slot). IsOwed s c.args.ballot) c.slot-slot.ensures (owes c.slot-slot.result.now c.args.ballot verdict.Again c.in-Again.ensures (λ e. cc)))

pub returns-in_err-push-in-Again-clause-err : goal.returns-in_err-push-in-Again-clause-err
returns-in_err-push-in-Again-clause-err g c =
    on_err c.from_residual-in_err-push-in-Again.result (subst (λ (s : Slot). IsOwed s c.args.ballot) c.slot-slot.ensures (owes c.slot-slot.result.now c.args.ballot verdict.Again c.in-Again.ensures (λ e. cc)))

pub returns-in_err-push-in-Nack-clause-err : goal.returns-in_err-push-in-Nack-clause-err
returns-in_err-push-in-Nack-clause-err g c =
    on_err c.from_residual-in_err-push-in-Nack.result (subst (λ (s : Slot). IsOwed s c.args.ballot) c.slot-slot.ensures (owes c.slot-slot.result.now c.args.ballot (verdict.Nack c.in-Nack.promised) c.in-Nack.ensures (λ e. cc)))
