use Rattle.std.proofs.Common.{inl, inr, [], ◌∷◌, ◌++◌, refl, sym, ap, ◌∙◌, append-nil}
use Rattle.wire.specs.declared.message.Message.TheVariants.{Ask, Chosen}
use Rattle.node.specs.declared.to.To.TheVariants.{One}
use Rattle.node.specs.Nodes.{Value}
use Rattle.node.specs.Effects.{quiet, says}
use Rattle.node.proofs.Handling.{delivery_wants, handled}
use Rattle.node.proofs.Stepping.{Handed, same_store, stays_there}
use Rattle.node.proofs.node.Node.on_ask.Goals as goal

pub returns-in_default : goal.returns-in_default
returns-in_default g c in_range =
    let old = c.args.self.now in
    let i = c.args.instance in
    handled g.D.Disk.stands_for g.D.Disk.failed old _ (Ask c.args.from i) _ _ [] (record { me = refl; cluster = refl; releases = refl }) c.requires.running in_range refl (sym (append-nil c.args.outbox.now.items))
    (λ s stands. record { effect = quiet s; does = inr (sym (stands.parts.known.values i) ∙ sym c.in_default.ensures, refl); handed = refl; parts = stands.parts; stays = stays_there g.D.Disk.stands_for old _ s s (record { me = refl; cluster = refl; releases = refl }) (same_store old.store old.store refl) refl refl })

pub returns : goal.returns
returns g c in_range =
    let old = c.args.self.now in
    let i = c.args.instance in
    let v : Value = c.in-Some.value.now in
    let out : Handed = (One c.args.from, Chosen old.me i c.in_ok-value.value) ∷ [] in
    handled g.D.Disk.stands_for g.D.Disk.failed old _ (Ask c.args.from i) _ _ out (record { me = refl; cluster = refl; releases = refl }) c.requires.running in_range refl
    (c.push_reserved.ensures.items ∙ ap (λ (l : Handed). l ++ out) c.reserve.ensures.items)
    (λ s stands. record {
      effect = says s (One c.args.from) (Chosen old.me i v);
      does = inl (v, sym (stands.parts.known.values i) ∙ sym c.in-Some.ensures, refl);
      handed = ap (λ (x : Value). (One c.args.from, Chosen old.me i x) ∷ []) (sym c.in_ok-value.ensures);
      parts = stands.parts;
      stays = stays_there g.D.Disk.stands_for old _ s s (record { me = refl; cluster = refl; releases = refl }) (same_store old.store old.store refl) refl refl;
    })

pub returns-in_err-reserve : goal.returns-in_err-reserve
returns-in_err-reserve g c =
    delivery_wants g.D.Disk.stands_for g.D.Disk.failed c.args.self.now (Ask c.args.from c.args.instance) c.from_residual.result _ _ c.requires.running (λ s stands. (c.in-Some.value.now, sym (stands.parts.known.values c.args.instance) ∙ sym c.in-Some.ensures)) c.reserve.ensures.items c.from_residual.ensures.1

pub returns-in_err-value : goal.returns-in_err-value
returns-in_err-value g c =
    delivery_wants g.D.Disk.stands_for g.D.Disk.failed c.args.self.now (Ask c.args.from c.args.instance) c.from_residual-in_err-value.result _ _ c.requires.running (λ s stands. (c.in-Some.value.now, sym (stands.parts.known.values c.args.instance) ∙ sym c.in-Some.ensures)) c.reserve.ensures.items c.from_residual-in_err-value.ensures.1
