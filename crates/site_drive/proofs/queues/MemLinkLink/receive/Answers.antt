use Rattle.std.proofs.Common.{◌≡◌, ◌<◌, slice_index_or, subst, min, length, take, ap, ◌∙◌}
use Rattle.site_drive.proofs.Receiving.{one_received, cut_to}
use Rattle.site_drive.proofs.queues.MemLinkLink.receive.Goals as goal

-- src/queues.rt:65:5
pub returns-clause-heard : goal.returns-clause-heard
returns-clause-heard c = λ ds is. (
  c.in-Some.datagram.now.items,
  one_received c.args.self.now.queue.items c.args.self.now.taken c.in-Some.datagram.now ds (subst (λ l. c.args.self.now.taken < length l) c.deref.ensures.value c.in-Some.ensures.lookup.3.0) (subst (λ l. c.in-Some.datagram.now ≡ slice_index_or l c.args.self.now.taken c.in-Some.datagram.now) c.deref.ensures.value c.in-Some.ensures.lookup.1) is,
  cut_to c.min-n.result c.in-Some.datagram.now.items c.copy_from_slice.new.self c.args.buf.now (c.min-n.ensures ∙ ap (λ l. min (length l) (length c.args.buf.now)) c.as_slice-bytes.ensures.value) (c.copy_from_slice.ensures.after ∙ ap (λ l. take c.min-n.result l) c.as_slice-bytes.ensures.value),
)
