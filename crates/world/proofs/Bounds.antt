-- Rounds on record, and that nobody has voted at a fresh ballot.
use Rattle.std.proofs.Common.{◌≡◌, ◌≢◌, inl, ⊎_elim, ℕ, suc, ◌≤◌, max, Some, List, [], ◌∷◌, sym, ap, subst, arith}
use Rattle.site_ids.specs.Ids.{BallotOf, IsNode, NotAbove}
use Rattle.site_ids.specs.Lists.{In}
use Rattle.site_ids.specs.declared.value.Vote.{Vote}
use Rattle.wire.specs.declared.message.Message.TheVariants.{Propose}
use Rattle.durable.specs.Entries.{Entry, Round, Promised, PromisedSpan, Voted, Floor, Learned, Raises, round_in, round_after, last_round, last_vote, greatest_round}
use Rattle.node.specs.Calls.{fresh_ballot, HasRound}
use Rattle.world.specs.declared.event.Event.{Event}
use Rattle.world.specs.Worlds.{World, Runs, start}
use Rattle.node.proofs.OnRecord.{last_vote-in}
use Rattle.node.specs.Nodes.{IsMute}
use Rattle.site_ids.proofs.MemberLemmas.{in_right}
use Rattle.world.proofs.Invariant.{IsSpent}
use Rattle.world.proofs.Growing.{sound}
use Rattle.world.specs.Quiet.{IsQuiet}

pub last_within : (r : ℕ) (es : List Entry) → round_after r es ≤ max r (greatest_round es)
last_within r [] = omega arith
last_within r (Round s ∷ es) = let h = last_within s es in omega (arith, h)
last_within r (Promised i b ∷ es) = let h = last_within r es in omega (arith, h)
last_within r (PromisedSpan i k b ∷ es) = let h = last_within r es in omega (arith, h)
last_within r (Voted i b v ∷ es) = let h = last_within r es in omega (arith, h)
last_within r (Floor f ∷ es) = let h = last_within r es in omega (arith, h)
last_within r (Learned i v ∷ es) = let h = last_within r es in omega (arith, h)

raised_in : (e : Entry) (i : ℕ) (c : BallotOf) → Raises e i c → c.round ≡ round_in e
raised_in (Round r) i c h = absurd h
raised_in (Promised j d) i c h = ap (λ (x : BallotOf). x.round) (sym h.1)
raised_in (PromisedSpan j k d) i c h = ap (λ (x : BallotOf). x.round) (sym h.1)
raised_in (Voted j d v) i c h = ap (λ (x : BallotOf). x.round) (sym h.1)
raised_in (Floor f) i c h = absurd h
raised_in (Learned j v) i c h = absurd h

pub raised_within : (es : List Entry) (e : Entry) (i : ℕ) (c : BallotOf) → In es e → Raises e i c → c.round ≤ greatest_round es
raised_within [] e i c k h = absurd k
raised_within (x ∷ es) e i c k h =
    ⊎_elim
    (λ (same : x ≡ e). let r = raised_in x i c (subst (λ y. Raises y i c) (sym same) h) in omega (arith, r))
    (λ k. let r = raised_within es e i c k h in omega (arith, r))
    k

pub round_least : (a b : BallotOf) → NotAbove a b → a.round ≤ b.round
round_least a b h = grind arith

module _ (n p : ℕ) (past : List Event) (w : World) (runs : Runs n start past w) (node : IsNode n p) (quiet : IsQuiet n w p) where
  pub last_low : last_round (w.node p).entries ≤ 4294967293
  last_low = let h = last_within 0 (w.node p).entries in let g = (quiet.each p node).rounds in omega (arith, h, g)

  pub heard_low : (w.node p).heard ≤ 4294967293
  heard_low = quiet.heard

  pub has_round : HasRound (w.node p)
  has_round = let a = last_low in let h = heard_low in omega (arith, a, h)

-- a vote was proposed, so its round is on record at the node of its ballot
pub fresh_unvoted : (n p : ℕ) (past : List Event) (w : World) → Runs n start past w → (q i : ℕ) → ¬ IsMute (w.node p) i → (x : Vote) → last_vote i (w.node q).entries ≡ Some x → x.ballot ≢ fresh_ballot p (w.node p)
fresh_unvoted n p past w runs q i not_mute x e same =
    let all = sound n past w runs in
    let good = all.sound in
    let made = (good.nodes q).votes i x.ballot x.value (inl (in_right (all.lost q) (w.node q).entries (Voted i x.ballot x.value) (last_vote-in i (w.node q).entries x e))) in
    let spent : IsSpent i x.ballot (w.node x.ballot.node).entries = (good.messages (Propose made.0 i x.ballot x.value) made.1).0 in
    let here : IsSpent i (fresh_ballot p (w.node p)) (w.node p).entries = subst (λ (c : BallotOf). IsSpent i c (w.node c.node).entries) same spent in
    ⊎_elim (λ low. too_high (last_round (w.node p).entries) (w.node p).heard low) not_mute here
  where
    too_high : (a b : ℕ) → suc (max a b) ≤ a → ⊥
    too_high a b h = omega (arith, h)
