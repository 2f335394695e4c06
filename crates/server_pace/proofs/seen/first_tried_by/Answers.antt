use Rattle.std.proofs.Common.{rules, subst, sym, Some, ℕ, suc, ◌≡◌}
use Rattle.durable.specs.Entries.{IsPromise}
use Rattle.server_pace.proofs.seen.first_tried_by.Goals as goal

-- the slot of the first unknown instance tells its promise
pub returns : goal.returns
returns g c = λ s is.
    let ballot = c.in_ok-ballot.ballot in
    let next : c.in_ok-first.first ≡ suc c.args.known = search rules in
    let told = subst (λ p. IsPromise s.entries c.in_ok-first.first p) c.in_ok-ballot.was (c.slot.ensures s is).promise in
    let promise : IsPromise s.entries (suc c.args.known) (Some ballot) =
    subst (λ (i : ℕ). IsPromise s.entries i (Some ballot)) next told in
    (search rules, (ballot, promise, sym c.node.ensures.is))
