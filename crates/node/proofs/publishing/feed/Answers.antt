use Rattle.std.proofs.Common.{◌≡◌, ◌<◌, ◌++◌, ◌∷◌, [], length, append_assoc, sym, ap, ◌∙◌}
use Rattle.std.proofs.lemmas.Bool.Decides.{Decides-ltb}
use Rattle.node.proofs.Published.{begins_more, fed_more}
use Rattle.node.proofs.publishing.feed.Goals as goal

pub loop-value-preserved : goal.loop-value-preserved
loop-value-preserved c =
    let old = c.loop-value in
    let now = c.feed_value.new.releases in
    let v = c.in-Some.value.now in
    let vs = c.args.values.now in
    let before = old.invariant.more in
    let grows : now ≡ old.releases ++ v ∷ [] = c.in_ok-ticket.ensures.ok in
    let within : c.len.result < length vs = (Decides-ltb c.len.result (length vs)).0 (sym c.in-Some.ensures.lookup.0) in
    record {
      more = (before.0 ++ v ∷ [], grows ∙ ap (λ rs. rs ++ v ∷ []) before.1 ∙ append_assoc c.args.releases.now before.0 (v ∷ []));
      begins = λ begins. begins_more old.releases now vs c.len.result v (old.invariant.begins begins) c.len.ensures.is within c.in-Some.ensures.lookup.1 grows;
      tickets = fed_more c.args.tickets.now old.tickets c.drop_published.new.tickets old.releases now (v ∷ []) old.invariant.tickets grows (c.drop_published.ensures now c.in_ok-ticket.ensures.receipt);
    }
