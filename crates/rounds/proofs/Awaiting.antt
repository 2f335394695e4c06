-- An attempt that proposed nothing has too few answers, whatever is called.
use Rattle.std.proofs.Common.{◌≡◌, ◌⊎◌, ⊎_elim, ℕ, suc, max, ◌+◌, Option, Some, None, List, []}
use Rattle.std.proofs.Common.{◌∷◌}
use Rattle.std.proofs.Common.{◌++◌, sym, ap, subst, arith}
use Rattle.site_ids.specs.Ids.{BallotOf, IsNode}
use Rattle.site_ids.specs.Lists.{In, Distinct, put_at}
use Rattle.site_ids.specs.Majorities.{Majority}
use Rattle.site_ids.specs.declared.value.Vote.{Vote}
use Rattle.site_ids.proofs.MemberLemmas.{in_push, distinct_push}
use Rattle.wire.specs.declared.message.Message.{Message}
use Rattle.wire.specs.declared.message.Message.TheVariants.{Prepare, Promise, Propose, Accepted, Nack, Ask}
use Rattle.wire.specs.declared.message.Message.TheVariants.{Chosen}
use Rattle.wire.specs.Messages.{IsMessage}
use Rattle.learner.specs.ToldVotes.{told_vote, HasMajority}
use Rattle.proposer.specs.Attempts.{Attempt, Counts, TakesPromise, opened, opened_span, senders, with_answer}
use Rattle.proposer.specs.Attempts.{waiting, proposing}
use Rattle.node.specs.declared.to.To.TheVariants.{One}
use Rattle.node.specs.Nodes.{Value, Node, IsKnown, IsUnknown, IsMute}
use Rattle.node.specs.Effects.{Effect, quiet, says, learned}
use Rattle.node.specs.Calls.{Call, submit, tick, widen, ask, tell, deliver, keep, Does, Ticks, AsksInstead}
use Rattle.node.specs.Calls.{Begins}
use Rattle.node.specs.Calls.{MayWiden, KeepsOne, MayKeep, fresh_ballot, oldest}
use Rattle.node.specs.Deliveries.{OnPrepare, OnPropose, Counted, with_vote, ByKind, reached_by}
use Rattle.node.specs.Ranges.{IsCallInRange}
use Rattle.world.proofs.Lists.{put_at_cases}
use Rattle.rounds.proofs.Promising.{senders_push}

inside_attempt : (a c : Attempt) → Some a ≡ Some c → a ≡ c
inside_attempt a c e = cc

no_attempt : (a : Attempt) → ◌≡◌ {A = Option Attempt} None (Some a) → ⊥
no_attempt a e = cc

no_value : (v : Value) → ◌≡◌ {A = Option Value} (Some v) None → ⊥
no_value v e = cc

-- nodes of the cluster answered it, each once, and too few if it proposed nothing
pub record IsAwaiting (n : ℕ) (a : Attempt) : Type 0 where
  pub few : a.proposal ≡ None → ¬ Majority n (senders a.answers)
  pub nodes : (x : ℕ) → In (senders a.answers) x → IsNode n x
  pub distinct : Distinct (senders a.answers)

abbrev pub AreAwaiting : ℕ → (ℕ → Option Attempt) → Type 0
AreAwaiting n f = (j : ℕ) (a : Attempt) → f j ≡ Some a → IsAwaiting n a

pub none_await : (n : ℕ) → AreAwaiting n (λ j. None)
none_await n j a at = absurd (no_attempt a at)

pub opened_awaits : (n : ℕ) (b : BallotOf) (own : Value) → IsAwaiting n (opened b own)
opened_awaits n b own = record {
  few = λ none many. let enough = many.enough in omega (arith, enough);
  nodes = λ x k. absurd k;
  distinct = tt;
}

put_awaits : (n : ℕ) (f : ℕ → Option Attempt) (j : ℕ) (o : Option Attempt) → AreAwaiting n f
    → ((a : Attempt) → o ≡ Some a → IsAwaiting n a) → AreAwaiting n (put_at f j o)
put_awaits n f j o old new k a at = ⊎_elim (λ (x : (k ≡ j) × (o ≡ Some a)). new a x.1)
    (λ (e : f k ≡ Some a). old k a e) (put_at_cases f j o k a at)

none_put : (n : ℕ) (f : ℕ → Option Attempt) (j : ℕ) → AreAwaiting n f → AreAwaiting n (put_at f j None)
none_put n f j old = put_awaits n f j None old (λ a e. absurd (no_attempt a e))

one_put : (n : ℕ) (f : ℕ → Option Attempt) (j : ℕ) (c : Attempt) → AreAwaiting n f → IsAwaiting n c
    → AreAwaiting n (put_at f j (Some c))
one_put n f j c old new = put_awaits n f j (Some c) old (λ a e. subst (IsAwaiting n) (inside_attempt c a e)
    new)

span_awaits : (n : ℕ) (b : BallotOf) (vs : List Value) (f : ℕ → Option Attempt) (j : ℕ) → AreAwaiting n f
    → AreAwaiting n (opened_span f j b vs)
span_awaits n b [] f j old = old
span_awaits n b (v ∷ vs) f j old = span_awaits n b vs (put_at f j (Some (opened b v))) (suc j)
    (one_put n f j (opened b v) old (opened_awaits n b v))

-- one more answer
pushed : (a : Attempt) (q : ℕ) (prior : Option Vote) → senders (with_answer a q prior)
    ≡ senders a.answers ++ q ∷ []
pushed a q prior = senders_push a.answers (record { sender = q; prior = prior })

more_nodes : (n : ℕ) (a : Attempt) (q : ℕ) (prior : Option Vote) → IsNode n q → IsAwaiting n a → (x : ℕ)
    → In (senders (with_answer a q prior)) x → IsNode n x
more_nodes n a q prior node h x k = ⊎_elim (λ m. h.nodes x m) (λ (e : q ≡ x). subst (IsNode n) e node)
    (in_push (senders a.answers) q x (subst (λ l. In l x) (pushed a q prior) k))

more_distinct : (n : ℕ) (a : Attempt) (q : ℕ) (prior : Option Vote) → IsAwaiting n a
    → ¬ In (senders a.answers) q
    → Distinct (senders (with_answer a q prior))
more_distinct n a q prior h apart = subst Distinct (sym (pushed a q prior))
    (distinct_push (senders a.answers) q h.distinct apart)

promise_awaits : (n : ℕ) (f after : ℕ → Option Attempt) (q j : ℕ) (b : BallotOf) (prior : Option Vote)
    (o : Option Value) → IsNode n q → AreAwaiting n f → TakesPromise n f q j b prior after o
    → AreAwaiting n after
promise_awaits n f after q j b prior None node old how =
    ⊎_elim
    (λ (x : ((c : Attempt) → f j ≡ Some c → ¬ Counts c q b) × (after
    ≡ f)). subst (AreAwaiting n) (sym x.1) old)
    (λ x.
    let h = old j x.0 x.1 in
    subst (AreAwaiting n) (sym x.4) (one_put n f j (waiting x.0 q prior) old (record {
      few = λ none. x.3;
      nodes = more_nodes n x.0 q prior node h;
      distinct = more_distinct n x.0 q prior h x.2.2;
    })))
    how
promise_awaits n f after q j b prior (Some v) node old how =
    let h = old j how.0 how.1 in
    subst (AreAwaiting n) (sym how.5) (one_put n f j (proposing how.0 q prior v) old (record {
      few = λ none. absurd (no_value v none);
      nodes = more_nodes n how.0 q prior node h;
      distinct = more_distinct n how.0 q prior h how.2.2;
    }))

-- ---- calls

after_awaits : (n : ℕ) (effect : Effect) (t : Node) → effect.after ≡ t → AreAwaiting n t.attempts
    → AreAwaiting n effect.after.attempts
after_awaits n effect t is old = subst (λ (x : Node). AreAwaiting n x.attempts) (sym is) old

message_awaits : (n p : ℕ) (s : Node) (m : Message) (effect : Effect) → IsMessage n m
    → AreAwaiting n s.attempts
    → ByKind n p s m effect → AreAwaiting n effect.after.attempts
message_awaits n p s (Prepare q j c k) effect is old how =
    ⊎_elim
    (λ (x : IsMute s j × (effect ≡ quiet s)). after_awaits n effect s (ap (λ (y : Effect). y.after) x.1) old)
    (λ (x : (¬ IsMute s j) × OnPrepare p s j c k effect). after_awaits n effect s
    (ap (λ (y : Effect). y.after) x.1.is) old)
    how
message_awaits n p s (Promise q j c prior) effect is old how = after_awaits n effect
    (record s { attempts = how.attempts }) (ap (λ (y : Effect). y.after) how.is)
    (promise_awaits n s.attempts how.attempts q j c prior how.proposed is.sender old how.step)
message_awaits n p s (Propose q j c u) effect is old how =
    ⊎_elim
    (λ (x : IsMute s j × (effect ≡ quiet s)). after_awaits n effect s (ap (λ (y : Effect). y.after) x.1) old)
    (λ (x : (¬ IsMute s j) × OnPropose p s j c u effect). after_awaits n effect s
    (ap (λ (y : Effect). y.after) x.1.is) old)
    how
message_awaits n p s (Accepted q j c u) effect is old how =
    let t = told_vote q j c u in
    ⊎_elim
    (λ (x : IsUnknown s j × Counted n (with_vote s t) j c u effect).
    ⊎_elim
    (λ (few : (¬ HasMajority n (In (with_vote s t).votes) j c u) × (effect ≡ quiet (with_vote s t))).
    after_awaits n effect (with_vote s t) (ap (λ (y : Effect). y.after) few.1) old)
    (λ (many : HasMajority n (In (with_vote s t).votes) j c u
    × (effect ≡ quiet (learned (with_vote s t) j u))). after_awaits n effect (learned (with_vote s t) j u)
    (ap (λ (y : Effect). y.after) many.1) (none_put n s.attempts j old))
    x.1)
    (λ (x : IsKnown s j × (effect ≡ quiet s)). after_awaits n effect s (ap (λ (y : Effect). y.after) x.1) old)
    how
message_awaits n p s (Nack q j c d) effect is old how = after_awaits n effect
    (record s { heard = max s.heard d.round }) (ap (λ (y : Effect). y.after) how) old
message_awaits n p s (Ask q j) effect is old how =
    ⊎_elim
    (λ (x : (u : Value) × (s.known j ≡ Some u) × (effect ≡ says s (One q) (Chosen p j u))). after_awaits n
    effect s (ap (λ (y : Effect). y.after) x.2) old)
    (λ (x : IsUnknown s j × (effect ≡ quiet s)). after_awaits n effect s (ap (λ (y : Effect). y.after) x.1)
    old)
    how
message_awaits n p s (Chosen q j u) effect is old how =
    ⊎_elim
    (λ (x : IsUnknown s j × (effect ≡ quiet (learned s j u))). after_awaits n effect (learned s j u)
    (ap (λ (y : Effect). y.after) x.1) (none_put n s.attempts j old))
    (λ (x : (s.known j ≡ Some u) × (effect ≡ quiet s)). after_awaits n effect s (ap (λ (y : Effect). y.after)
    x.1)
    old)
    how

pub call_awaits : (n p : ℕ) (s : Node) (call : Call) (effect : Effect) → IsCallInRange n call
    → AreAwaiting n s.attempts → Does n p s call effect → AreAwaiting n effect.after.attempts
call_awaits n p s (submit v) effect is old does = ⊎_elim
    (λ x. after_awaits n effect _ (ap (λ (y : Effect). y.after) x.2) old)
    (λ x. after_awaits n effect _ (ap (λ (y : Effect). y.after) x.3) old) does
call_awaits n p s tick effect is old does =
    ⊎_elim
    (λ (x : Ticks p s effect).
    let a = opened (fresh_ballot p s) (oldest s.pending) in
    after_awaits n effect _ (ap (λ (y : Effect). y.after) x.is)
    (one_put n s.attempts x.instance a old (opened_awaits n (fresh_ballot p s) (oldest s.pending))))
    (λ (x : AsksInstead p s effect). after_awaits n effect s (ap (λ (y : Effect). y.after) x.asks.is) old)
    does
call_awaits n p s widen effect is old does =
    ⊎_elim
    (λ (x : Begins p s effect). after_awaits n effect _ (ap (λ (y : Effect). y.after) x.is)
    (span_awaits n (fresh_ballot p s) x.values s.attempts x.instance old))
    (λ (x : (¬ MayWiden s) × (effect ≡ quiet s)). after_awaits n effect s (ap (λ (y : Effect). y.after) x.1)
    old)
    does
call_awaits n p s ask effect is old does = after_awaits n effect s (ap (λ (y : Effect). y.after) does.is) old
call_awaits n p s (tell to i) effect is old does = after_awaits n effect s (ap (λ (y : Effect). y.after) does)
    old
call_awaits n p s (deliver m) effect is old does = message_awaits n p
    (record s { reached = reached_by s.reached m }) m effect is old does
call_awaits n p s (keep i) effect is old does =
    ⊎_elim
    (λ (x : KeepsOne s i effect). after_awaits n effect s (ap (λ (y : Effect). y.after) x.is) old)
    (λ (x : (¬ MayKeep s i) × (effect ≡ quiet s)). after_awaits n effect s (ap (λ (y : Effect). y.after) x.1)
    old)
    does
