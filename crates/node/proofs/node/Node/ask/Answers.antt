use Rattle.std.proofs.Common.{[], ◌∷◌, ◌++◌, refl, sym, ap, ◌∙◌}
use Rattle.wire.specs.declared.message.Message.TheVariants.{Ask}
use Rattle.node.specs.declared.fault.NodeFault.TheVariants.{InstancesUsedUp}
use Rattle.node.specs.declared.to.To.TheVariants.{All}
use Rattle.node.specs.Calls.{ask as asking}
use Rattle.node.specs.Effects.{says}
use Rattle.node.proofs.Gaps.{first_unknown, all_known, not_all_known}
use Rattle.node.proofs.Stepping.{Handed, is_up, same_store, stays_there, whole, refused, refused_stopped, wants_memory}
use Rattle.node.proofs.Adding.{none_more, one_more}
use Rattle.node.proofs.DeviceCounts.{no_device, no_fault}
use Rattle.node.proofs.node.Node.ask.Goals as goal

pub returns-in_default-clause-event : goal.returns-in_default-clause-event
returns-in_default-clause-event g c =
    let old = c.args.self.now in
    let runs = sym c.is_stopped.ensures ∙ c.if-is_stopped.false in
    refused g.D.Disk.stands_for old _ asking InstancesUsedUp _ _ (record { me = refl; cluster = refl; releases = refl }) tt refl
    (λ s stands. (is_up old s stands.parts runs, all_known old.known.log s stands.parts.known.values c.in_default.ensures)) (same_store old.store old.store refl) (λ s parts. parts)

pub returns-in_err-reserve-clause-event : goal.returns-in_err-reserve-clause-event
returns-in_err-reserve-clause-event g c =
    let old = c.args.self.now in
    let runs = sym c.is_stopped.ensures ∙ c.if-is_stopped.false in
    wants_memory g.D.Disk.stands_for old _ asking c.from_residual.result _ _ (record { me = refl; cluster = refl; releases = refl }) tt c.reserve.ensures.items c.from_residual.ensures.1
    (λ s stands. (is_up old s stands.parts runs, not_all_known s c.in-Some.instance (first_unknown old.known.log s.known c.in-Some.instance stands.parts.known.values c.in-Some.ensures))) (same_store old.store old.store refl) (λ s parts. parts)

pub returns-clause-event : goal.returns-clause-event
returns-clause-event g c =
    let old = c.args.self.now in
    let i = c.in-Some.instance in
    let out : Handed = (All, Ask old.me i) ∷ [] in
    let runs = sym c.is_stopped.ensures ∙ c.if-is_stopped.false in
    whole g.D.Disk.stands_for old _ asking _ _ out (record { me = refl; cluster = refl; releases = refl }) runs tt (c.push_reserved.ensures.items ∙ ap (λ (l : Handed). l ++ out) c.reserve.ensures.items)
    (λ s stands. record {
      effect = says s All (Ask old.me i);
      does = record { instance = i; first = first_unknown old.known.log s.known i stands.parts.known.values c.in-Some.ensures; is = refl };
      handed = refl;
      parts = stands.parts;
      stays = stays_there g.D.Disk.stands_for old _ s s (record { me = refl; cluster = refl; releases = refl }) (same_store old.store old.store refl) refl refl;
    })

pub returns-clause-grows : goal.returns-clause-grows
returns-clause-grows g c = one_more _ _ _ _ c.reserve.ensures.items c.push_reserved.ensures.items

pub returns-then-is_stopped-clause-event : goal.returns-then-is_stopped-clause-event
returns-then-is_stopped-clause-event g c = refused_stopped g.D.Disk.stands_for c.args.self.now asking _ tt (sym c.is_stopped.ensures ∙ c.if-is_stopped.true)

pub returns-then-is_stopped-clause-no_put : goal.returns-then-is_stopped-clause-no_put
returns-then-is_stopped-clause-no_put g c = (λ device. absurd (cc), refl)

pub returns-in_default-clause-no_put : goal.returns-in_default-clause-no_put
returns-in_default-clause-no_put g c = (λ device. absurd (cc), refl)

pub returns-in_err-reserve-clause-no_put : goal.returns-in_err-reserve-clause-no_put
returns-in_err-reserve-clause-no_put g c = (no_device c.from_residual.result c.from_residual.ensures.1, refl)

pub returns-clause-no_put : goal.returns-clause-no_put
returns-clause-no_put g c = (no_fault tt, refl)

pub returns-then-is_stopped-clause-grows : goal.returns-then-is_stopped-clause-grows
returns-then-is_stopped-clause-grows g c = none_more _ _ refl

pub returns-in_default-clause-grows : goal.returns-in_default-clause-grows
returns-in_default-clause-grows g c = none_more _ _ refl

pub returns-in_err-reserve-clause-grows : goal.returns-in_err-reserve-clause-grows
returns-in_err-reserve-clause-grows g c = none_more _ _ c.reserve.ensures.items
