use Rattle.std.proofs.Common.{◌≡◌, ◌+◌, ℕ, None, true, false, sym, ap, subst, ◌∙◌, arith}
use Rattle.site_ids.specs.Ids.{IsInstance}
use Rattle.node.specs.Nodes.{Node, IsUnknown, IsMute}
use Rattle.node.specs.Calls.{IsFree}
use Rattle.node.proofs.Choosing.{one_more_not_free, next_found, mute_takes_none, no_next, past_last, all_seen}
use Rattle.node.proofs.Muting.{so_it_is, so_it_is_not}
use Rattle.node.proofs.Queueing.{is_true, true_is}
use Rattle.node.proofs.node.Node.next_free.Goals as goal

off : true ≡ false → ⊥
off e = cc

pub returns-then-is_mute-clause-least : goal.returns-then-is_mute-clause-least
returns-then-is_mute-clause-least g c s stands first = mute_takes_none s c.args.first first (so_it_is c.args.self.now c.is_mute.result (λ s. IsMute s c.args.first) c.is_mute.ensures c.if-is_mute.true s stands)

pub returns-then-is_full-clause-least : goal.returns-then-is_full-clause-least
returns-then-is_full-clause-least g c s stands first = c.is_full.ensures s stands first (is_true c.is_full.result c.if-is_full.true)

pub returns-in_err-instance-clause-least : goal.returns-in_err-instance-clause-least
returns-in_err-instance-clause-least g c s stands first =
    let l = c.loop-past in
    rw c.from_residual.ensures (no_next s c.args.first l.past first (l.invariant s stands) (past_last c.args.first l.past first.instance c.in_err-instance.ensures))

pub returns-then-is_free-clause-least : goal.returns-then-is_free-clause-least
returns-then-is_free-clause-least g c s stands first =
    let l = c.loop-past in
    next_found s c.args.first l.past c.in_ok-instance.instance first (so_it_is_not c.args.self.now c.is_mute.result (λ s. IsMute s c.args.first) c.is_mute.ensures c.if-is_mute.false s stands) (l.invariant s stands) (omega arith) c.in_ok-instance.ensures.0
    (let free = (c.is_free.ensures s stands).0 (is_true c.is_free.result c.if-is_free.true) in record { instance = subst IsInstance (sym c.in_ok-instance.ensures.0) c.in_ok-instance.ensures.1; unknown = free.0; untried = free.1 })

pub returns-clause-least : goal.returns-clause-least
returns-clause-least g c s stands first =
    let l = c.loop-past in
    no_next s c.args.first l.past first (l.invariant s stands) (all_seen c.args.first l.past (omega arith) (omega arith))

pub loop-past-preserved : goal.loop-past-preserved
loop-past-preserved g c =
    let l = c.loop-past in
    let is : c.args.first + l.past ≡ c.in_ok-instance.instance = sym c.in_ok-instance.ensures.0 in
    let at : (s : Node) → IsFree s (c.args.first + l.past) → IsUnknown s c.in_ok-instance.instance × (s.attempts c.in_ok-instance.instance ≡ None) = λ s free.
    (subst (λ (n : ℕ). s.known n ≡ None) is free.unknown, subst (λ (n : ℕ). s.attempts n ≡ None) is free.untried) in
    λ s stands. one_more_not_free s c.args.first l.past (l.invariant s stands) (λ free. off (sym (true_is c.is_free.result ((c.is_free.ensures s stands).1 (at s free))) ∙ c.if-is_free.false))
