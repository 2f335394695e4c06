-- What a submission comes to, from the node's event.
use Rattle.std.proofs.Common.{◌≡◌, List, [], Ok, Err, refl, sym, subst, ℕ}
use Rattle.std.specs.Prelude.{OnErr}
use Rattle.std.specs.Result.{IsErrAnd}
use Rattle.command.specs.Written.{value_of}
use Rattle.http_serve.specs.Services.{Outcome}
use Rattle.http_serve.specs.declared.submission.Submission.{Submission}
use Rattle.http_serve.specs.declared.submission.Submission.TheVariants.{Queued, Already}
use Rattle.http_serve.specs.declared.submission.SubmitFault.{SubmitFault}
use Rattle.http_serve.specs.declared.submission.SubmitFault.TheVariants.{Command, Busy, Stopped, OutOfMemory}
use Rattle.node.specs.Calls.{Call, submit, IsAnswered}
use Rattle.node.specs.Endings.{Ending, Whole, Refused, Ends}
use Rattle.node.specs.Nodes.{Node}
use Rattle.node.specs.Standing.{ending_by, IsNodeOf, IsEvent, KeepsOthers}
use Rattle.node.specs.declared.fault.NodeFault.{NodeFault}
use Rattle.node.specs.declared.fault.NodeFault.TheVariants as fault
use Rattle.node.specs.declared.node.Node.{Node as Running}
use Rattle.node.specs.declared.submitted.Submitted.{Submitted}
use Rattle.node.specs.declared.submitted.Submitted.TheVariants as answered
use Rattle.node.specs.declared.to.To.{To}
use Rattle.site_disk.specs.Model.{DiskState}
use Rattle.site_ids.specs.declared.Ticket.{Ticket}
use Rattle.wire.specs.declared.message.Message.{Message}
use Rattle.server_clients.specs.Served.{ComesTo, Takes, Stays}
use Rattle.server_clients.specs.declared.served.Served.{Served}

-- the node's answer that is told as this one
abbrev pub answer_of : Submission → Submitted
answer_of Queued = answered.Queued
answer_of Already = answered.Already

-- the node's cause that is told as this fault
abbrev pub cause_of : SubmitFault → NodeFault
cause_of (Command why) = fault.NotACommand why
cause_of Busy = fault.QueueFull
cause_of Stopped = fault.Stopped
cause_of OutOfMemory = fault.OutOfMemory

is_refusal : (why : SubmitFault) → ending_by (cause_of why) ≡ Refused (cause_of why)
is_refusal (Command why) = refl
is_refusal Busy = refl
is_refusal Stopped = refl
is_refusal OutOfMemory = refl

module _ {D : Type 0} (stands_for : D → DiskState → Type 0) where
  -- where nothing is handed out, an event leads to a node at which the call ends
  ends_at : (old new : Running D) (call : Call) (ending : Ending) → IsEvent stands_for old new call ending [] []
      → (s : Node) → IsNodeOf old s → (next : Node) × Ends old.cluster old.me s call ending [] next × IsNodeOf new next
  ends_at old new call ending event s stands =
      let l = event.leads s stands in
      (l.next, subst (λ (out : List (To × Message)). Ends old.cluster old.me s call ending out l.next) (sym l.outbox) l.ends, l.stands)

  refused_by : (old new : Running D) (call : Call) (x : NodeFault) (why : SubmitFault) → x ≡ cause_of why → IsEvent stands_for old new call (ending_by x) [] [] → IsEvent stands_for old new call (Refused (cause_of why)) [] []
  refused_by old new call x why is event =
      subst (λ (ending : Ending). IsEvent stands_for old new call ending [] []) (is_refusal why) (subst (λ (y : NodeFault). IsEvent stands_for old new call (ending_by y) [] []) is event)

  -- ---- what a submission comes to, for a value

  abbrev LeadsBy : Served D → Served D → List ℕ → Outcome → Type 0
  LeadsBy old new value done = (s : Node) → IsNodeOf old.node s → (next : Node) × ComesTo old.node.cluster old.node.me s value done next × IsNodeOf new.node next

  takes : (old new : Served D) (ticket : Ticket) (text value : List ℕ) (done : Outcome) → value ≡ value_of ticket text → KeepsOthers old.node new.node → new.node.store ≡ old.node.store → LeadsBy old new value done → Takes old ticket text done new
  takes old new ticket text value done named others store leads = record {
    leads = subst (λ (v : List ℕ). LeadsBy old new v done) named leads;
    others = others;
    record_is = store;
  }

  whole : (old new : Served D) (value : List ℕ) (done : Submission) → IsEvent stands_for old.node new.node (submit value) Whole [] [] → ((s : Node) → IsNodeOf old.node s → IsAnswered s value (answer_of done)) → LeadsBy old new value (Ok done)
  whole old new value Queued event answer s stands =
      let e = ends_at old.node new.node (submit value) Whole event s stands in
      (e.0, (e.1, answer s stands), e.2)
  whole old new value Already event answer s stands =
      let e = ends_at old.node new.node (submit value) Whole event s stands in
      (e.0, (e.1, answer s stands), e.2)

  refused : (old new : Served D) (value : List ℕ) (why : SubmitFault) → IsEvent stands_for old.node new.node (submit value) (Refused (cause_of why)) [] [] → LeadsBy old new value (Err why)
  refused old new value (Command why) event s stands = ends_at old.node new.node (submit value) (Refused (fault.NotACommand why)) event s stands
  refused old new value Busy event s stands = ends_at old.node new.node (submit value) (Refused fault.QueueFull) event s stands
  refused old new value Stopped event s stands = ends_at old.node new.node (submit value) (Refused fault.Stopped) event s stands
  refused old new value OutOfMemory event s stands =
      let e = ends_at old.node new.node (submit value) (Refused fault.OutOfMemory) event s stands in
      (e.0, e.1.node, e.2)

  -- ---- from what the node's call ensures

  pub taken : (old new : Served D) (ticket : Ticket) (text value : List ℕ) (x : Submitted) (done : Submission) → x ≡ answer_of done → value ≡ value_of ticket text → KeepsOthers old.node new.node → new.node.store ≡ old.node.store
      → IsEvent stands_for old.node new.node (submit value) Whole [] [] → ((s : Node) → IsNodeOf old.node s → IsAnswered s value x) → Takes old ticket text (Ok done) new
  taken old new ticket text value x done is named others store event answer =
      takes old new ticket text value (Ok done) named others store (whole old new value done event (λ s stands. subst (λ (y : Submitted). IsAnswered s value y) is (answer s stands)))

  pub not_taken : (old new : Served D) (ticket : Ticket) (text value : List ℕ) (x : NodeFault) (why : SubmitFault) → x ≡ cause_of why → value ≡ value_of ticket text → KeepsOthers old.node new.node → new.node.store ≡ old.node.store
      → IsEvent stands_for old.node new.node (submit value) (ending_by x) [] [] → Takes old ticket text (Err why) new
  not_taken old new ticket text value x why is named others store event =
      takes old new ticket text value (Err why) named others store (refused old new value why (refused_by old.node new.node (submit value) x why is event))

  -- a refusal leaves the node as it was
  pub stays : (old new : Served D) (value : List ℕ) (x : NodeFault) (why : SubmitFault) → x ≡ cause_of why → KeepsOthers old.node new.node → new.node.store ≡ old.node.store
      → IsEvent stands_for old.node new.node (submit value) (ending_by x) [] [] → Stays old new
  stays old new value x why is others store event = record {
    same = λ s stands.
        let e = ends_at old.node new.node (submit value) (Refused (cause_of why)) (refused_by old.node new.node (submit value) x why is event) s stands in
        subst (λ (t : Node). IsNodeOf new.node t) e.1.node e.2;
    others = others;
    record_is = store;
  }

-- ---- without memory for the value the node isn't called

keeps : {D : Type 0} (node : Running D) → KeepsOthers node node
keeps node = record { me = refl; cluster = refl; releases = refl }

pub not_made : {D : Type 0} (old : Served D) (ticket : Ticket) (text : List ℕ) (r : Outcome) → IsErrAnd r (λ y. y ≡ OutOfMemory) → Takes old ticket text r old
not_made old ticket text (Ok x) is = absurd is
not_made old ticket text (Err y) is =
    subst (λ (z : SubmitFault). Takes old ticket text (Err z) old) (sym is)
    (record { leads = λ s stands. (s, refl, stands); others = keeps old.node; record_is = refl })

pub unchanged : {D : Type 0} (old : Served D) (r : Outcome) → OnErr r (Stays old old)
unchanged old (Ok x) = tt
unchanged old (Err y) = record { same = λ s stands. stands; others = keeps old.node; record_is = refl }
