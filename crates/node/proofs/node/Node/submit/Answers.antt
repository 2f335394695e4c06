use Rattle.std.proofs.Common.{◌≡◌, ◌<◌, ◌≤◌, inl, inr, ℕ, Bool, true, false, [], length, refl, sym, subst, ◌∙◌, arith}
use Rattle.std.specs.Prelude.{IsTrue}
use Rattle.site_ids.specs.declared.Ticket.{Ticket}
use Rattle.node.specs.declared.fault.NodeFault.TheVariants.{QueueFull}
use Rattle.node.specs.Nodes.{Value, Node}
use Rattle.node.specs.Calls.{submit as submission, queued}
use Rattle.node.specs.Effects.{quiet}
use Rattle.node.specs.Tickets.{IsHeld, HoldsTicket}
use Rattle.node.specs.Waiting.{AreWaiting}
use Rattle.node.proofs.Queueing.{is_true, true_is, held_by}
use Rattle.node.proofs.Stepping.{is_up, same_store, stays_there, whole, refused, refused_stopped, wants_memory}
use Rattle.node.proofs.Unread.{not_submitted, is_cause}
use Rattle.node.proofs.DeviceCounts.{no_device, no_fault}
use Rattle.node.proofs.node.Node.submit.Goals as goal

off : true ≡ false → ⊥
off e = cc

pub returns-then-holds-clause-answered : goal.returns-then-holds-clause-answered
returns-then-holds-clause-answered g c s stands =
    let o = c.in_ok-command.ensures in
    let holds : HoldsTicket s c.in_ok-command.command.ticket = (c.holds.ensures s stands).0 (is_true c.holds.result c.if-holds.true) in
    (held_by s c.args.value.now o.0 o.1).1 (subst (λ (t : Ticket). HoldsTicket s t) o.2.0 holds)

pub returns-then-holds-clause-event : goal.returns-then-holds-clause-event
returns-then-holds-clause-event g c =
    let stands_for = g.D.Disk.stands_for in
    let old = c.args.self.now in
    let v : Value = c.args.value.now in
    let runs = sym c.is_stopped.ensures ∙ c.if-is_stopped.false in
    let o = c.in_ok-command.ensures in
    whole stands_for old _ (submission v) [] [] [] (record { me = refl; cluster = refl; releases = refl }) runs tt refl
    (λ s stands. record { effect = quiet s; does = inl ((o.0, o.1), returns-then-holds-clause-answered g c s stands, refl); handed = refl; parts = stands.parts; stays = stays_there stands_for old _ s s (record { me = refl; cluster = refl; releases = refl }) (same_store old.store old.store refl) refl refl })

unheld : (s : Node) (v : Value) (b : Bool) (t : Ticket) → b ≡ false → (HoldsTicket s t → IsTrue b) → (IsHeld s v → HoldsTicket s t) → ¬ IsHeld s v
unheld s v b t is tells to held = off (sym (true_is b (tells (to held))) ∙ is)

pub returns-then-is_full-clause-event : goal.returns-then-is_full-clause-event
returns-then-is_full-clause-event g c =
    let stands_for = g.D.Disk.stands_for in
    let old = c.args.self.now in
    let v : Value = c.args.value.now in
    let runs = sym c.is_stopped.ensures ∙ c.if-is_stopped.false in
    let o = c.in_ok-command.ensures in
    refused stands_for old _ (submission v) QueueFull [] [] (record { me = refl; cluster = refl; releases = refl }) tt refl
    (λ s stands.
    let full : 64 ≤ length s.pending = (c.is_full.ensures s.pending stands.parts.pending).0 (is_true c.is_full.result c.if-is_full.true) in
    let few : length s.pending ≤ 64 = stands.tidy.few in (
      is_up old s stands.parts runs,
      (
        (o.0, o.1),
        unheld s v c.holds.result c.in_ok-command.command.ticket c.if-holds.false (c.holds.ensures s stands).1 (λ held. subst (λ (t : Ticket). HoldsTicket s t) (sym o.2.0) ((held_by s v o.0 o.1).0 held)),
        omega (arith, full, few),
      ),
    ))
    (same_store old.store old.store refl) (λ s parts. parts)

below : (n : ℕ) → ¬ (64 ≤ n) → n < 64
below n h = grind arith

pub returns-in_err-command-clause-event : goal.returns-in_err-command-clause-event
returns-in_err-command-clause-event g c =
    let old = c.args.self.now in
    let runs = sym c.is_stopped.ensures ∙ c.if-is_stopped.false in
    not_submitted g.D.Disk.stands_for old _ c.args.value.now c.in_err-command.field-0.0 c.from_residual.result c.from_residual.ensures.1 runs c.in_err-command.ensures (record { me = refl; cluster = refl; releases = refl }) (same_store old.store old.store refl) (λ s parts. parts)

pub returns-clause-answered : goal.returns-clause-answered
returns-clause-answered g c s stands =
    let v : Value = c.args.value.now in
    let o = c.in_ok-command.ensures in
    unheld s v c.holds.result c.in_ok-command.command.ticket c.if-holds.false (c.holds.ensures s stands).1 (λ held. subst (λ (t : Ticket). HoldsTicket s t) (sym o.2.0) ((held_by s v o.0 o.1).0 held))

pub returns-in_err-push-clause-event : goal.returns-in_err-push-clause-event
returns-in_err-push-clause-event g c =
    let old = c.args.self.now in
    let v : Value = c.args.value.now in
    let runs = sym c.is_stopped.ensures ∙ c.if-is_stopped.false in
    let o = c.in_ok-command.ensures in
    wants_memory g.D.Disk.stands_for old _ (submission v) c.from_residual-in_err-push.result [] [] (record { me = refl; cluster = refl; releases = refl }) tt refl c.from_residual-in_err-push.ensures.1
    (λ s stands.
    let parts = stands.parts in
    let room : length s.pending < 64 = below (length s.pending) (λ full. off (sym (true_is c.is_full.result ((c.is_full.ensures s.pending parts.pending).1 full)) ∙ c.if-is_full.false)) in (
      is_up old s parts runs,
      inr (
        (o.0, o.1),
        unheld s v c.holds.result c.in_ok-command.command.ticket c.if-holds.false (c.holds.ensures s stands).1 (λ held. subst (λ (t : Ticket). HoldsTicket s t) (sym o.2.0) ((held_by s v o.0 o.1).0 held)),
        room,
      ),
    ))
    (same_store old.store old.store refl)
    (λ s parts. record {
      on_record = parts.on_record;
      votes = parts.votes;
      known = parts.known;
      attempts = parts.attempts;
      pending = subst (λ ws. AreWaiting ws s.pending) (sym c.in_err-push.ensures.err) parts.pending;
      heard = parts.heard;
      reached = parts.reached;
    })

pub returns-clause-event : goal.returns-clause-event
returns-clause-event g c =
    let stands_for = g.D.Disk.stands_for in
    let old = c.args.self.now in
    let v : Value = c.args.value.now in
    let runs = sym c.is_stopped.ensures ∙ c.if-is_stopped.false in
    let o = c.in_ok-command.ensures in
    whole stands_for old _ (submission v) [] [] [] (record { me = refl; cluster = refl; releases = refl }) runs tt refl
    (λ s stands.
    let parts = stands.parts in
    let room : length s.pending < 64 = below (length s.pending) (λ full. off (sym (true_is c.is_full.result ((c.is_full.ensures s.pending parts.pending).1 full)) ∙ c.if-is_full.false)) in
    record {
      effect = quiet (queued s v);
      does = inr ((o.0, o.1), returns-clause-answered g c s stands, room, refl);
      handed = refl;
      parts = record {
        on_record = parts.on_record;
        votes = parts.votes;
        known = parts.known;
        attempts = parts.attempts;
        pending = c.in_ok-push.ensures.ok s.pending parts.pending;
        heard = parts.heard;
        reached = parts.reached;
      };
      stays = stays_there stands_for old _ s (queued s v) (record { me = refl; cluster = refl; releases = refl }) (same_store old.store old.store refl) refl refl;
    })

pub returns-in_err-command-clause-cause : goal.returns-in_err-command-clause-cause
returns-in_err-command-clause-cause g c = is_cause c.args.value.now c.in_err-command.field-0.0 c.from_residual.result c.from_residual.ensures.1 c.in_err-command.ensures

pub returns-then-is_stopped-clause-event : goal.returns-then-is_stopped-clause-event
returns-then-is_stopped-clause-event g c = refused_stopped g.D.Disk.stands_for c.args.self.now (submission c.args.value.now) _ tt (sym c.is_stopped.ensures ∙ c.if-is_stopped.true)

pub returns-then-is_stopped-clause-no_put : goal.returns-then-is_stopped-clause-no_put
returns-then-is_stopped-clause-no_put g c = (λ device. absurd (cc), refl)

pub returns-then-holds-clause-no_put : goal.returns-then-holds-clause-no_put
returns-then-holds-clause-no_put g c = (no_fault _, refl)

pub returns-then-is_full-clause-no_put : goal.returns-then-is_full-clause-no_put
returns-then-is_full-clause-no_put g c = (λ device. absurd (cc), refl)

pub returns-in_err-push-clause-no_put : goal.returns-in_err-push-clause-no_put
returns-in_err-push-clause-no_put g c = (no_device c.from_residual-in_err-push.result c.from_residual-in_err-push.ensures.1, refl)

pub returns-clause-no_put : goal.returns-clause-no_put
returns-clause-no_put g c = (no_fault _, refl)
