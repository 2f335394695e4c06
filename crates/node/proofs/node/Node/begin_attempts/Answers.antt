use Rattle.std.proofs.Common.{◌≡◌, Ok, ℕ, Some, ◌∷◌, ◌++◌, length, refl, sym, ap, subst, ◌∙◌, arith}
use Rattle.site_ids.specs.Spans.{IsSpan}
use Rattle.durable.specs.Entries.{Round}
use Rattle.durable.specs.Puts.{Puts}
use Rattle.wire.specs.declared.message.Message.TheVariants.{Prepare}
use Rattle.node.specs.declared.to.To.TheVariants.{All}
use Rattle.node.specs.Beginning.{begun}
use Rattle.node.proofs.Starting.{started}
use Rattle.node.proofs.Stepping.{Handed, same_store, unmoved, whole, wants_memory, put_fails}
use Rattle.node.proofs.Adding.{none_more, many_more, not_ok, when_ok}
use Rattle.node.proofs.DeviceCounts.{counts_memory, counts_done, counts_put}
use Rattle.node.proofs.node.Node.begin_attempts.Goals as goal

pub make_room_for_span-requires : goal.make_room_for_span-requires
make_room_for_span-requires g c = subst (λ (k : ℕ). IsSpan c.args.due.first k) (sym (c.len-count.ensures ∙ c.args.due.values.ok.0)) c.requires.span

pub returns-in_err-reserve-clause-event : goal.returns-in_err-reserve-clause-event
returns-in_err-reserve-clause-event g c call by =
    let old = c.args.self.now in
    wants_memory g.D.Disk.stands_for old _ call c.from_residual.result _ _ (record { me = refl; cluster = refl; releases = refl }) by.in_range c.reserve.ensures.items c.from_residual.ensures.1 by.wants
    (same_store old.store old.store refl) (λ s parts. unmoved old _ s (record { me = refl; cluster = refl; releases = refl }) refl (record { learner = refl; known = refl; queue = refl; attempts = λ a are. are; heard = refl }) refl parts)

pub returns-in_err-make_room_for_span-clause-event : goal.returns-in_err-make_room_for_span-clause-event
returns-in_err-make_room_for_span-clause-event g c call by =
    let old = c.args.self.now in
    wants_memory g.D.Disk.stands_for old _ call c.from_residual-in_err-make_room_for_span.result _ _ (record { me = refl; cluster = refl; releases = refl }) by.in_range c.reserve.ensures.items c.from_residual-in_err-make_room_for_span.ensures.1 by.wants
    (same_store old.store old.store refl)
    (λ s parts. unmoved old _ s (record { me = refl; cluster = refl; releases = refl }) refl (record { learner = refl; known = refl; queue = refl; attempts = c.make_room_for_span.ensures.stays.attempts; heard = λ k. (c.make_room_for_span.ensures.stays.only k).heard }) refl parts)

pub returns-in_err-put_round-clause-event : goal.returns-in_err-put_round-clause-event
returns-in_err-put_round-clause-event g c call by =
    let old = c.args.self.now in
    let failed = c.in_err-put_round in
    let told = c.from_residual-in_err-put_round in
    put_fails g.D.Disk.stands_for g.D.Disk.failed old _ (Round c.round.result) (record { me = refl; cluster = refl; releases = refl }) c.requires.running call failed.field-0.0 told.result _ _ by.in_range
    (record { learner = refl; known = refl; queue = refl; attempts = c.make_room_for_span.ensures.stays.attempts; heard = λ k. (c.make_room_for_span.ensures.stays.only k).heard }) refl c.reserve.ensures.items failed.ensures.put told.ensures.1
    (λ s stands. (begun old.me s c.args.due.first c.args.due.ballot c.args.due.values.items c.args.due.again.items, by.does s stands, ap (λ r. Some (Round r)) (sym c.round.ensures.is)))
    by.wants

pub returns-clause-event : goal.returns-clause-event
returns-clause-event g c call by =
    let old = c.args.self.now in
    let i = c.args.due.first in
    let b = c.args.due.ballot in
    let values = c.args.due.values.items in
    let again = c.args.due.again.items in
    let counted : c.len-count.result ≡ length values = c.len-count.ensures ∙ c.args.due.values.ok.0 in
    let out : Handed = (All, Prepare old.me i b (length values)) ∷ again in
    let told : Handed = (All, Prepare old.me i b c.len-count.result) ∷ again in
    whole g.D.Disk.stands_for old _ call _ _ out (record { me = refl; cluster = refl; releases = refl }) c.requires.running by.in_range
    (subst (λ (k : ℕ). c.append.new.self.items ≡ c.args.outbox.now.items ++ ((All, Prepare old.me i b k) ∷ again)) counted
    (many_more c.args.outbox.now.items _ _ _ _ _ c.reserve.ensures.items c.push_reserved.ensures.items (when_ok c.append.result _ _ _ (c.append.ensures.succeeds (omega (arith, c.in_ok-reserve.ensures.ok, c.push_reserved.ensures.len, c.push_reserved.ensures.capacity, c.len.ensures))) c.append.ensures.items)))
    (λ s stands. started g.D.Disk.stands_for g.D.Disk.failed old _ s call i b values again stands c.requires.running (record { me = refl; cluster = refl; releases = refl }) (by.does s stands)
    (record {
      puts = subst (λ (r : ℕ). Puts g.D.Disk.stands_for g.D.Disk.failed old.store c.put_round.new.self (Round r) (Ok tt)) c.round.ensures.is c.in_ok-put_round.ensures.put;
      attempts = λ attempts are. c.open_span.ensures.opened.attempts attempts (c.make_room_for_span.ensures.stays.attempts attempts are);
      heard = (λ k. (c.open_span.ensures.opened.only k).heard) ∙ (λ k. (c.make_room_for_span.ensures.stays.only k).heard);
      learner = refl;
      known = refl;
      queue = refl;
      reached = refl;
    }))

pub returns-clause-grows : goal.returns-clause-grows
returns-clause-grows g c = (_, many_more c.args.outbox.now.items _ _ _ _ _ c.reserve.ensures.items c.push_reserved.ensures.items (when_ok c.append.result _ _ _ (c.append.ensures.succeeds (omega (arith, c.in_ok-reserve.ensures.ok, c.push_reserved.ensures.len, c.push_reserved.ensures.capacity, c.len.ensures))) c.append.ensures.items))

pub returns-in_err-reserve-clause-counts : goal.returns-in_err-reserve-clause-counts
returns-in_err-reserve-clause-counts g c = counts_memory c.from_residual.result _ c.from_residual.ensures.1

pub returns-in_err-make_room_for_span-clause-counts : goal.returns-in_err-make_room_for_span-clause-counts
returns-in_err-make_room_for_span-clause-counts g c = counts_memory c.from_residual-in_err-make_room_for_span.result _ c.from_residual-in_err-make_room_for_span.ensures.1

pub returns-in_err-put_round-clause-counts : goal.returns-in_err-put_round-clause-counts
returns-in_err-put_round-clause-counts g c = counts_put g.D.Disk.stands_for g.D.Disk.failed c.args.self.now.store _ _ _ c.from_residual-in_err-put_round.result c.in_err-put_round.ensures.put c.from_residual-in_err-put_round.ensures.1

pub returns-clause-counts : goal.returns-clause-counts
returns-clause-counts g c = counts_done g.D.Disk.stands_for g.D.Disk.failed c.args.self.now.store _ _ tt c.in_ok-put_round.ensures.put

pub returns-in_err-reserve-clause-grows : goal.returns-in_err-reserve-clause-grows
returns-in_err-reserve-clause-grows g c = none_more _ _ c.reserve.ensures.items

pub returns-in_err-make_room_for_span-clause-grows : goal.returns-in_err-make_room_for_span-clause-grows
returns-in_err-make_room_for_span-clause-grows g c = none_more _ _ c.reserve.ensures.items

pub returns-in_err-put_round-clause-grows : goal.returns-in_err-put_round-clause-grows
returns-in_err-put_round-clause-grows g c = none_more _ _ c.reserve.ensures.items

pub returns-in_err-reserve-clause-rises : goal.returns-in_err-reserve-clause-rises
returns-in_err-reserve-clause-rises g c = not_ok _ c.from_residual.result _ c.from_residual.ensures.1

pub returns-in_err-make_room_for_span-clause-rises : goal.returns-in_err-make_room_for_span-clause-rises
returns-in_err-make_room_for_span-clause-rises g c = not_ok _ c.from_residual-in_err-make_room_for_span.result _ c.from_residual-in_err-make_room_for_span.ensures.1

pub returns-in_err-put_round-clause-rises : goal.returns-in_err-put_round-clause-rises
returns-in_err-put_round-clause-rises g c = not_ok _ c.from_residual-in_err-put_round.result _ c.from_residual-in_err-put_round.ensures.1
