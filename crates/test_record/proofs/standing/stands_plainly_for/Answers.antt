use Rattle.std.proofs.Common.{◌≡◌, ◌++◌, ℕ, List, refl, sym, ◌∙◌, subst}
use Rattle.std.proofs.lemmas.Bool.{false≢true}
use Rattle.durable.specs.Histories.{IsHistory}
use Rattle.durable.specs.Spelling.{head, blocks}
use Rattle.test_record.specs.Gates.{IsShutBehind}
use Rattle.test_record.specs.Meaning.{meanings}
use Rattle.test_record.proofs.Plain.{plain_laid, plain_shut, plain_history}
use Rattle.test_record.proofs.standing.stands_plainly_for.Goals as goal

pub returns-then-not-is_history : goal.returns-then-not-is_history
returns-then-not-is_history c = (
  λ t. absurd (false≢true t),
  λ laid. c.if-not-is_history.ensures.1 (plain_history c.args.node c.args.cluster c.args.file.now (meanings c.args.entries.now) laid),
)

pub returns : goal.returns
returns c =
    let node = c.args.node in
    let cluster = c.args.cluster in
    let file = c.args.file.now in
    let es = meanings c.args.entries.now in
    let bytes : c.deref.result.now ≡ head node cluster ++ blocks es = c.deref.ensures.value ∙ c.in_ok-bytes.ensures in
    let history : IsHistory cluster es = c.if-not-is_history.ensures.0 refl in (
      λ t. plain_laid node cluster file es history (subst (λ (l : List ℕ). IsShutBehind file l) bytes (c.is_shut_behind.ensures.0 t)),
      λ laid. c.is_shut_behind.ensures.1 (subst (λ (l : List ℕ). IsShutBehind file l) (sym bytes) (plain_shut node cluster file es laid)),
    )
