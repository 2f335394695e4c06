-- Looking for the highest promise of the nodes that make a majority.
use Rattle.std.proofs.Common.{◌≡◌, ◌⊎◌, inl, inr, ⊎_elim, ℕ, ◌+◌, ◌≤◌, Option, Some, None, List, refl, sym, subst, arith}
use Rattle.std.specs.Prelude.{MatchOption}
use Rattle.site_ids.specs.Ids.{BallotOf, IsNode, Below, NotAbove}
use Rattle.site_ids.specs.Lists.{In}
use Rattle.acceptor.specs.Judging.{IsFreeAt}
use Rattle.durable.specs.Entries.{Entry, Raises, IsPromise}
use Rattle.world.specs.Bids.{IsHigher}
use Rattle.world.specs.declared.bid.Bid.{Bid}
use Rattle.world.specs.Worlds.{World}
use Rattle.world.specs.Quiet.{quorum, HasNoneAbove, Overbids}
use Rattle.world.proofs.Order.{not_above_itself, not_above_trans, below_is_not_above, below_trans}

-- the entries promise nothing above the ballot at the instance
abbrev pub IsLow : List Entry → ℕ → BallotOf → Type 0
IsLow es i top = (e : Entry) (c : BallotOf) → In es e → Raises e i c → NotAbove c top

-- the top is a node's promise above b, or b itself
abbrev pub IsTop : ℕ → World → ℕ → BallotOf → Option ℕ → BallotOf → Type 0
IsTop n w i b None top = top ≡ b
IsTop n w i b (Some q) top = IsNode (quorum n) q × IsPromise (w.node q).entries i (Some top) × Below b top

-- the top of the nodes 1 to k
pub record Looked (n : ℕ) (w : World) (i : ℕ) (b : BallotOf) (k : ℕ) (found : Option ℕ) (top : BallotOf) : Type 0 where
  pub is : IsTop n w i b found top
  pub low : (q : ℕ) → 1 ≤ q → q ≤ k → IsLow (w.node q).entries i top

none_over : (es : List Entry) (i : ℕ) (b : BallotOf) (o : Option BallotOf) → IsPromise es i o → IsFreeAt o b → IsLow es i b
none_over es i b None is free e c k raised = absurd (is e c k raised)
none_over es i b (Some d) is free e c k raised = not_above_trans c d b (is.1 e c k raised) free

before_or_last : (q k : ℕ) → q ≤ k + 1 → (q ≤ k) ⊎ (q ≡ k + 1)
before_or_last q k h = grind arith

module _ (n : ℕ) (w : World) (i : ℕ) (b : BallotOf) where
  pub none_looked : Looked n w i b 0 None b
  none_looked = record { is = refl; low = λ q one none. absurd (nothing q one none) }
    where
      nothing : (q : ℕ) → 1 ≤ q → q ≤ 0 → ⊥
      nothing q one none = omega (arith, one, none)

  above_start : (found : Option ℕ) (top : BallotOf) → IsTop n w i b found top → NotAbove b top
  above_start None top is = subst (λ x. NotAbove b x) (sym is) (not_above_itself b)
  above_start (Some q) top is = below_is_not_above b top is.2

  passed : (k : ℕ) (found : Option ℕ) (top : BallotOf) (o : Option BallotOf) → Looked n w i b k found top → IsPromise (w.node (k + 1)).entries i o → IsFreeAt o top → Looked n w i b (k + 1) found top
  passed k found top o so is free = record {
    is = so.is;
    low = λ q one few. ⊎_elim
        (λ low. so.low q one low)
        (λ (e : q ≡ k + 1). subst (λ (r : ℕ). IsLow (w.node r).entries i top) (sym e) (none_over (w.node (k + 1)).entries i top o is free))
        (before_or_last q k few);
  }

  topped : (k : ℕ) (found : Option ℕ) (top d : BallotOf) → Looked n w i b k found top → IsNode (quorum n) (k + 1) → IsPromise (w.node (k + 1)).entries i (Some d) → Below top d → Looked n w i b (k + 1) (Some (k + 1)) d
  topped k found top d so node is above = record {
    is = (node, is, below_trans b top d (above_start found top so.is) above);
    low = λ q one few. ⊎_elim
        (λ low e c at raised. not_above_trans c top d (so.low q one low e c at raised) (below_is_not_above top d above))
        (λ (e : q ≡ k + 1). subst (λ (r : ℕ). IsLow (w.node r).entries i d) (sym e) is.1)
        (before_or_last q k few);
  }

  pub one_looked : (k q : ℕ) (bid after : Bid) (o : Option BallotOf) → q ≡ k + 1 → Looked n w i b k bid.node bid.ballot → IsPromise (w.node q).entries i o → IsNode (quorum n) (k + 1) → IsHigher bid q o after → Looked n w i b (k + 1) after.node after.ballot
  one_looked k q bid after o at so is node (inl low) =
      let here : IsPromise (w.node (k + 1)).entries i o = subst (λ (r : ℕ). IsPromise (w.node r).entries i o) at is in
      subst (λ (x : Bid). Looked n w i b (k + 1) x.node x.ballot) (sym low.1) (passed k bid.node bid.ballot o so here low.0)
  one_looked k q bid after o at so is node (inr (d, some, above, this)) =
      let here : IsPromise (w.node (k + 1)).entries i (Some d) = subst (λ (r : ℕ). IsPromise (w.node r).entries i (Some d)) at (subst (λ x. IsPromise (w.node q).entries i x) some is) in
      let more = topped k bid.node bid.ballot d so node here above in
      subst (λ (x : Bid). Looked n w i b (k + 1) x.node x.ballot) (sym this) (subst (λ (r : ℕ). Looked n w i b (k + 1) (Some r) d) (sym at) more)

  pub all_looked : (k : ℕ) (found : Option ℕ) (top : BallotOf) → quorum n ≤ k → Looked n w i b k found top → MatchOption found (HasNoneAbove n w i b) (λ q. Overbids n w i b q)
  all_looked k None top past so = λ q e c node at raised. subst (λ x. NotAbove c x) so.is (so.low q node.0 (let high = node.1 in omega (arith, high, past)) e c at raised)
  all_looked k (Some q) top past so = record {
    node = so.is.0;
    promised = top;
    on_record = so.is.1;
    above = so.is.2;
    highest = λ r e c node at raised. so.low r node.0 (let high = node.1 in omega (arith, high, past)) e c at raised;
  }
