use Rattle.std.proofs.Common.{◌++◌, take, length, ap, subst, ◌∙◌}
use Rattle.durable.proofs.Results.{on_err}
use Rattle.site_ids.specs.Lists.{In}
use Rattle.site_drive.specs.Drives.{sent_of}
use Rattle.site_drive.proofs.Counting.{counted_on}
use Rattle.site_drive.proofs.Giving.{in_at, next_given, given_begins, all_given}
use Rattle.site_drive.proofs.sending.send_all.Goals as goal

-- src/sending.rt:91:9
pub returns-in_err-send_message-clause-refused : goal.returns-in_err-send_message-clause-refused
returns-in_err-send_message-clause-refused g c = on_err c.from_residual.result λ fits gs h.
    let n = c.args.cluster in
    let items = c.args.outbox.now.items in
    let same = c.as_slice-to-items.ensures.value in
    let i = c.loop-to.to-index in
    let earlier : g.L.Link.given c.loop-to.link (gs ++ sent_of n (take i items)) =
    subst (λ l. g.L.Link.given c.loop-to.link (gs ++ sent_of n (take i l))) same
    (c.loop-to.invariant.given (λ x k. fits x (subst (λ l. In l x) same k)) gs h)
    in (
      length (sent_of n (take i items)),
      c.in_err-send_message.ensures.refused _ (subst (λ l. g.L.Link.given c.loop-to.link (gs ++ l)) (given_begins n items i) earlier),
    )

-- src/sending.rt:91:9
pub returns-in_err-send_message-clause-counted : goal.returns-in_err-send_message-clause-counted
returns-in_err-send_message-clause-counted g c = counted_on _ _ _ _ _ _ c.loop-to.invariant.counted c.send_message.ensures.counted

-- src/sending.rt:90:5
pub loop-to-preserved : goal.loop-to-preserved
loop-to-preserved g c = record {
  received = λ ds h. c.send_message.ensures.received ds (c.loop-to.invariant.received ds h);
  given = λ fits gs h.
      let items = c.as_slice-to-items.result.now in
      let x = c.loop-to-item.result in
      let i = c.loop-to.to-index in
      let there = in_at items i x c.loop-to-test.true c.loop-to-item.is in
      subst (g.L.Link.given c.send_message.new.link) (next_given c.args.cluster items i x gs c.loop-to-test.true c.loop-to-item.is)
      (c.in_ok-send_message.ensures.given (fits x there) _ (c.loop-to.invariant.given fits gs h));
  tried = c.send_message.ensures.tried ∙ c.loop-to.invariant.tried;
  counted = counted_on _ _ _ _ _ _ c.loop-to.invariant.counted c.send_message.ensures.counted;
}

-- src/sending.rt:77:1
pub returns-clause-given : goal.returns-clause-given
returns-clause-given g c = λ fits gs h.
    let same = c.as_slice-to-items.ensures.value in
    let all = all_given c.args.cluster c.as_slice-to-items.result.now c.loop-to.to-index c.loop-to-test.false in
    subst (λ l. g.L.Link.given c.loop-to.link (gs ++ l)) (all ∙ ap (sent_of c.args.cluster) same)
    (c.loop-to.invariant.given (λ x k. fits x (subst (λ l. In l x) same k)) gs h)
