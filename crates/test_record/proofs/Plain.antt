-- Files without a sum.
use Rattle.std.proofs.Common.{ℕ, List, ◌∷◌, ◌++◌, sym, ◌∙◌, ap, subst}
use Rattle.durable.specs.Entries.{Entry}
use Rattle.durable.specs.Histories.{IsHistory}
use Rattle.durable.specs.Items.{puts}
use Rattle.durable.specs.Spelling.{head, blocks}
use Rattle.durable.specs.Standing.{IsLaid}
use Rattle.durable.proofs.Logs.{entries-puts, item_blocks-puts, whole-puts}
use Rattle.test_record.specs.Gates.{IsShutBehind}

pub plain_laid : (node cluster : ℕ) (file : List ℕ) (es : List Entry) → IsHistory cluster es → IsShutBehind file (head node cluster ++ blocks es) → IsLaid node cluster file (puts es)
plain_laid node cluster file es history shut = record {
  log = record { whole = whole-puts es; history = subst (λ (l : List Entry). IsHistory cluster l) (sym (entries-puts es)) history };
  gate = shut.gate;
  rest = shut.rest;
  closed = shut.closed;
  layout = shut.layout ∙ ap (λ (l : List ℕ). (head node cluster ++ l) ++ shut.gate ∷ shut.rest) (sym (item_blocks-puts es));
}

pub plain_shut : (node cluster : ℕ) (file : List ℕ) (es : List Entry) → IsLaid node cluster file (puts es) → IsShutBehind file (head node cluster ++ blocks es)
plain_shut node cluster file es laid = record {
  gate = laid.gate;
  rest = laid.rest;
  closed = laid.closed;
  layout = laid.layout ∙ ap (λ (l : List ℕ). (head node cluster ++ l) ++ laid.gate ∷ laid.rest) (item_blocks-puts es);
}

pub plain_history : (node cluster : ℕ) (file : List ℕ) (es : List Entry) → IsLaid node cluster file (puts es) → IsHistory cluster es
plain_history node cluster file es laid = subst (λ (l : List Entry). IsHistory cluster l) (entries-puts es) laid.log.history
