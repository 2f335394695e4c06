use Rattle.std.proofs.Common.{rules, ◌≡◌, ◌≤◌, length, take, codes, ◌∙◌, arith}
use Rattle.durable.proofs.Refusals.{head_there}
use Rattle.durable.proofs.opening.read_head.Goals as goal

pub returns-clause-read : goal.returns-clause-read
returns-clause-read g c = λ d stands.
    let synced = c.in_ok-sync.ensures.synced d stands in
    let measured = c.in_ok-len.ensures.state _ synced in
    let size = c.in_ok-len.ensures.len _ synced in
    let long : 11 ≤ length d.seen = omega (arith, c.if-len-lt11.false, size) in
    let front = c.read_at.new.buf in
    let front_is = c.in_ok-read_at.ensures.read _ measured (omega (arith, long)) in
    let marked : take 8 front ≡ codes "SITEREC1" = search rules in
    let at8 = c.if-head-number.false ∙ c.number.ensures.is in
    let at9 = c.if-head-size.false ∙ c.size.ensures.is in (
      c.in_ok-read_at.ensures.state _ measured,
      head_there c.args.node c.args.cluster d.seen front front_is long marked at8 at9,
      size,
    )
