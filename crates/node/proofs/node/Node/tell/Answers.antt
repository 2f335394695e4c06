use Rattle.std.proofs.Common.{[], ◌++◌, refl, sym, ap, ◌∙◌, append-nil, arith}
use Rattle.node.specs.Calls.{tell as telling_of}
use Rattle.node.specs.Tellings.{tells}
use Rattle.node.proofs.Adding.{none_more, when_ok}
use Rattle.node.proofs.Stepping.{Handed, is_up, same_store, stays_there, whole, refused_stopped, wants_memory}
use Rattle.node.proofs.ToldAgain.{none_told, one_told, some_told}
use Rattle.node.proofs.DeviceCounts.{no_device, no_fault}
use Rattle.node.proofs.node.Node.tell.Goals as goal

pub returns-in_err-told-clause-event : goal.returns-in_err-told-clause-event
returns-in_err-told-clause-event g c =
    let old = c.args.self.now in
    let runs = sym c.is_stopped.ensures ∙ c.if-is_stopped.false in
    wants_memory g.D.Disk.stands_for old _ (telling_of c.args.to c.args.first) c.from_residual.result _ _ (record { me = refl; cluster = refl; releases = refl }) tt refl c.from_residual.ensures.1
    (λ s stands. (is_up old s stands.parts runs, c.in_err-told.ensures.wanted s stands)) (same_store old.store old.store refl) (λ s parts. parts)

pub returns-then-is_empty-clause-event : goal.returns-then-is_empty-clause-event
returns-then-is_empty-clause-event g c =
    let old = c.args.self.now in
    let runs = sym c.is_stopped.ensures ∙ c.if-is_stopped.false in
    whole g.D.Disk.stands_for old _ (telling_of c.args.to c.args.first) _ _ [] (record { me = refl; cluster = refl; releases = refl }) runs tt (sym (append-nil c.args.outbox.now.items))
    (λ s stands. record {
      effect = tells old.me s c.args.to c.args.first;
      does = refl;
      handed = sym (c.in_ok-told.ensures.told s stands) ∙ none_told c.in_ok-told.told.items _ (sym c.in_ok-told.told.ok.0) (sym c.is_empty.ensures ∙ c.if-is_empty.true);
      parts = stands.parts;
      stays = stays_there g.D.Disk.stands_for old _ s s (record { me = refl; cluster = refl; releases = refl }) (same_store old.store old.store refl) refl refl;
    })

pub returns-in_err-reserve-clause-event : goal.returns-in_err-reserve-clause-event
returns-in_err-reserve-clause-event g c =
    let old = c.args.self.now in
    let runs = sym c.is_stopped.ensures ∙ c.if-is_stopped.false in
    wants_memory g.D.Disk.stands_for old _ (telling_of c.args.to c.args.first) c.from_residual-in_err-reserve.result _ _ (record { me = refl; cluster = refl; releases = refl }) tt c.reserve.ensures.items c.from_residual-in_err-reserve.ensures.1
    (λ s stands. (is_up old s stands.parts runs, some_told old.me s c.args.to c.args.first c.in_ok-told.told.items (c.in_ok-told.ensures.told s stands) (one_told c.in_ok-told.told.items _ (sym c.in_ok-told.told.ok.0) (sym c.is_empty.ensures ∙ c.if-is_empty.false)))) (same_store old.store old.store refl) (λ s parts. parts)

pub returns-clause-event : goal.returns-clause-event
returns-clause-event g c =
    let old = c.args.self.now in
    let runs = sym c.is_stopped.ensures ∙ c.if-is_stopped.false in
    let out : Handed = c.in_ok-told.told.items in
    whole g.D.Disk.stands_for old _ (telling_of c.args.to c.args.first) _ _ out (record { me = refl; cluster = refl; releases = refl }) runs tt
    (when_ok c.append.result _ _ _ (c.append.ensures.succeeds (omega (arith, c.in_ok-reserve.ensures.ok, c.len.ensures))) c.append.ensures.items ∙ ap (λ (l : Handed). l ++ out) c.reserve.ensures.items)
    (λ s stands. record {
      effect = tells old.me s c.args.to c.args.first;
      does = refl;
      handed = sym (c.in_ok-told.ensures.told s stands);
      parts = stands.parts;
      stays = stays_there g.D.Disk.stands_for old _ s s (record { me = refl; cluster = refl; releases = refl }) (same_store old.store old.store refl) refl refl;
    })

pub returns-then-is_stopped-clause-event : goal.returns-then-is_stopped-clause-event
returns-then-is_stopped-clause-event g c = refused_stopped g.D.Disk.stands_for c.args.self.now (telling_of c.args.to c.args.first) _ tt (sym c.is_stopped.ensures ∙ c.if-is_stopped.true)

pub returns-then-is_stopped-clause-no_put : goal.returns-then-is_stopped-clause-no_put
returns-then-is_stopped-clause-no_put g c = λ device. absurd (cc)

pub returns-in_err-told-clause-no_put : goal.returns-in_err-told-clause-no_put
returns-in_err-told-clause-no_put g c = no_device c.from_residual.result c.from_residual.ensures.1

pub returns-then-is_empty-clause-no_put : goal.returns-then-is_empty-clause-no_put
returns-then-is_empty-clause-no_put g c = no_fault tt

pub returns-in_err-reserve-clause-no_put : goal.returns-in_err-reserve-clause-no_put
returns-in_err-reserve-clause-no_put g c = no_device c.from_residual-in_err-reserve.result c.from_residual-in_err-reserve.ensures.1

pub returns-clause-no_put : goal.returns-clause-no_put
returns-clause-no_put g c = no_fault tt

pub returns-then-is_stopped-clause-grows : goal.returns-then-is_stopped-clause-grows
returns-then-is_stopped-clause-grows g c = none_more _ _ refl

pub returns-in_err-told-clause-grows : goal.returns-in_err-told-clause-grows
returns-in_err-told-clause-grows g c = none_more _ _ refl

pub returns-then-is_empty-clause-grows : goal.returns-then-is_empty-clause-grows
returns-then-is_empty-clause-grows g c = none_more _ _ refl

pub returns-in_err-reserve-clause-grows : goal.returns-in_err-reserve-clause-grows
returns-in_err-reserve-clause-grows g c = none_more _ _ c.reserve.ensures.items

pub returns-clause-grows : goal.returns-clause-grows
returns-clause-grows g c = (
  c.in_ok-told.told.items,
  when_ok c.append.result _ _ _ (c.append.ensures.succeeds (omega (arith, c.in_ok-reserve.ensures.ok, c.len.ensures))) c.append.ensures.items
      ∙ ap (λ (l : Handed). l ++ c.in_ok-told.told.items) c.reserve.ensures.items,
)
