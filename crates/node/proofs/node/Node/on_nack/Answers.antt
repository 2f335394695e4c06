use Rattle.std.proofs.Common.{max, [], refl, sym, ap, subst, ◌∙◌, append-nil}
use Rattle.proposer.specs.declared.proposer.Proposer.{Proposer}
use Rattle.proposer.specs.Standing.{Attempting}
use Rattle.wire.specs.declared.message.Message.TheVariants.{Nack}
use Rattle.node.specs.Effects.{quiet}
use Rattle.node.proofs.Handling.{handled}
use Rattle.node.proofs.Stepping.{same_store, stays_there}
use Rattle.node.proofs.node.Node.on_nack.Goals as goal

pub returns : goal.returns
returns g c from instance asked before in_range =
    let old = c.args.self.now in
    handled g.D.Disk.stands_for g.D.Disk.failed old _ (Nack from instance asked c.args.promised) before before [] (record { me = refl; cluster = refl; releases = refl }) c.requires.running in_range refl (sym (append-nil before))
    (λ s stands.
    let parts = stands.parts in
    record {
      effect = quiet (record s { heard = max s.heard c.args.promised.round });
      does = refl;
      handed = refl;
      parts = record {
        on_record = parts.on_record;
        votes = parts.votes;
        known = parts.known;
        attempts = subst (λ (p : Proposer). Attempting p s.attempts) (sym c.on_nack.ensures) parts.attempts;
        pending = parts.pending;
        heard = ap (λ (p : Proposer). p.heard) c.on_nack.ensures ∙ ap (λ h. max h c.args.promised.round) parts.heard;
        reached = parts.reached;
      };
      stays = stays_there g.D.Disk.stands_for old _ s (record s { heard = max s.heard c.args.promised.round }) (record { me = refl; cluster = refl; releases = refl }) (same_store old.store old.store refl) refl refl;
    })
