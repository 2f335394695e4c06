use Rattle.std.proofs.Common.{length, refl}
use Rattle.std.proofs.lemmas.Option.{slice_get_read}
use Rattle.node.proofs.Queueing.{waiting_set}
use Rattle.node.proofs.queue.Queue.take_read.Goals as goal

pub returns : goal.returns
returns c values are =
    let ws = c.args.self.now.items.items in
    let here = slice_get_read ws (length ws) c.in_ok-place.place c.index_mut.result.now refl c.in_ok-place.ensures c.index_mut.ensures.value in
    waiting_set ws values c.in_ok-place.place _ c.index_mut.result.now are here refl refl
