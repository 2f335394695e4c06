-- The calls of a step in which a node may tick: they hand out no value and no vote for another one at the
-- instance.
use Rattle.std.proofs.Common.{◌≡◌, ◌⊎◌, inl, inr, ⊎_elim, ℕ, suc, ◌≤◌, Option, Some, None, List, [], ◌∷◌}
use Rattle.std.proofs.Common.{length, map, refl, sym, ap, subst, ◌∙◌}
use Rattle.std.specs.Prelude.{⊤}
use Rattle.site_ids.specs.Ids.{BallotOf}
use Rattle.site_ids.specs.Lists.{In}
use Rattle.site_ids.specs.declared.value.Vote.{Vote}
use Rattle.wire.specs.declared.message.Message.{Message}
use Rattle.wire.specs.declared.message.Message.TheVariants.{Prepare}
use Rattle.wire.specs.Messages.{kind_of}
use Rattle.durable.specs.Entries.{Round}
use Rattle.proposer.specs.Attempts.{Attempt, latest}
use Rattle.node.specs.declared.to.To.{To}
use Rattle.node.specs.declared.to.To.TheVariants.{All}
use Rattle.node.specs.Nodes.{Value, Node, BeginsKnown}
use Rattle.node.specs.Effects.{Effect, quiet}
use Rattle.node.specs.Calls.{Call, submit, tick, widen, ask, tell, deliver, keep, Does, Ticks, AsksInstead}
use Rattle.node.specs.Calls.{Begins, MayWiden, resent, fresh_ballot}
use Rattle.node.specs.Endings.{Whole}
use Rattle.node.proofs.Knowing.{beginning_stays}
use Rattle.site_drive.specs.declared.last_call.LastCall.{LastCall}
use Rattle.site_drive.specs.declared.last_call.LastCall.TheVariants.{TickOrAsk, Widen, Ask, Tell, Keep}
use Rattle.site_drive.specs.declared.last_call.LastCall.TheVariants.{Nothing}
use Rattle.site_drive.specs.Drives.{EndsTurns}
use Rattle.rounds.proofs.Elsewhere.{IsClean, clean_on, IsFairOr, fair_none, fair_some, fair_round}
use Rattle.rounds.proofs.Besides.{IsBeside, on_ask, on_tell, on_keep}
use Rattle.rounds.proofs.Calling.{IsOf, all_called}
use Rattle.rounds.proofs.Holding.{AreAll, all_none, all_out, IsSaid, IsTellLow}

-- what node q says of others or of its vote, a prepare, or a proposal
abbrev pub IsLoose : ℕ → ℕ → (Vote → Type 0) → To × Message → Type 0
IsLoose q i Mine x = IsSaid q i Mine x ⊎ ((kind_of x.1 ≡ 1) ⊎ (kind_of x.1 ≡ 3))

abbrev pub MayLoosely : Call → Type 0
MayLoosely (submit v) = ⊥
MayLoosely tick = ⊤
MayLoosely widen = ⊤
MayLoosely ask = ⊤
MayLoosely (tell to first) = first ≤ 1000000
MayLoosely (deliver m) = ⊥
MayLoosely (keep j) = ⊤

may_loosely : (last : LastCall) (call : Call) → IsTellLow last → IsOf last call → MayLoosely call
may_loosely last tick low is = tt
may_loosely last widen low is = tt
may_loosely last ask low is = tt
may_loosely last (keep j) low is = tt
may_loosely TickOrAsk (submit v) low is = absurd is
may_loosely Widen (submit v) low is = absurd is
may_loosely Ask (submit v) low is = absurd is
may_loosely (Tell r f) (submit v) low is = absurd is
may_loosely (Keep j k) (submit v) low is = absurd is
may_loosely Nothing (submit v) low is = absurd is
may_loosely TickOrAsk (deliver m) low is = absurd is
may_loosely Widen (deliver m) low is = absurd is
may_loosely Ask (deliver m) low is = absurd is
may_loosely (Tell r f) (deliver m) low is = absurd is
may_loosely (Keep j k) (deliver m) low is = absurd is
may_loosely Nothing (deliver m) low is = absurd is
may_loosely TickOrAsk (tell to first) low is = absurd is
may_loosely Widen (tell to first) low is = absurd is
may_loosely Ask (tell to first) low is = absurd is
may_loosely (Tell r f) (tell to first) low is = subst (λ k. k ≤ 1000000) (sym is) low
may_loosely (Keep j k) (tell to first) low is = absurd is
may_loosely Nothing (tell to first) low is = absurd is

latest_kind : (q j : ℕ) (b : BallotOf) (o : Option Value) → (kind_of (latest q j b o) ≡ 1)
    ⊎ (kind_of (latest q j b o) ≡ 3)
latest_kind q j b None = inl refl
latest_kind q j b (Some v) = inr refl

resent_kind : (q : ℕ) (xs : List (ℕ × Attempt)) (y : To × Message) → In (map (resent q) xs) y
    → (kind_of y.1 ≡ 1) ⊎ (kind_of y.1 ≡ 3)
resent_kind q [] y k = absurd k
resent_kind q (x ∷ xs) y k =
    ⊎_elim
    (λ (e : resent q x ≡ y). subst (λ (z : To × Message). (kind_of z.1 ≡ 1) ⊎ (kind_of z.1 ≡ 3)) e
    (latest_kind q x.0 x.1.ballot x.1.proposal))
    (λ later. resent_kind q xs y later)
    k

module _ (n q : ℕ) (values : List Value) (Only : BallotOf → Type 0) (Mine : Vote → Type 0) where
  abbrev i : ℕ
  i = suc (length values)

  -- the instance is as known, and what goes on record is fair there
  record IsSoft (s : Node) (effect : Effect) : Type 0 where
    pub known : effect.after.known ≡ s.known
    pub entry : IsFairOr i Only Mine effect.entry
    pub out : AreAll (IsLoose q i Mine) effect.out

  soft_of : (s : Node) (effect : Effect) → IsBeside q values Only Mine s effect → IsSoft s effect
  soft_of s effect beside = record {
    known = beside.known;
    entry = beside.entry;
    out = λ x k. inl
        (beside.out x k);
  }

  soft : (s : Node) (call : Call) (effect : Effect) → MayLoosely call → IsClean values Only Mine s
      → Does n q s call effect → IsSoft s effect
  soft s (submit v) effect may clean does = absurd may
  soft s (deliver m) effect may clean does = absurd may
  soft s ask effect may clean does = soft_of s effect (on_ask q values Only Mine s clean effect does)
  soft s (tell to first) effect may clean does = soft_of s effect
      (on_tell q values Only Mine s clean to first effect may does)
  soft s (keep j) effect may clean does = soft_of s effect (on_keep q values Only Mine s clean j effect does)
  soft s tick effect may clean does =
      ⊎_elim
      (λ (x : Ticks q s effect). record {
        known = ap (λ (y : Effect). y.after.known) x.is;
        entry = fair_some i Only Mine effect.entry (Round (fresh_ballot q s).round)
            (ap (λ (y : Effect). y.entry) x.is) (fair_round i Only Mine (fresh_ballot q s).round);
        out = λ y k. ⊎_elim
            (λ (e : (All, Prepare q x.instance (fresh_ballot q s) 1) ≡ y). subst (IsLoose q i Mine) e
            (inr (inl refl)))
            (λ later. inr (resent_kind q x.elsewhere y later))
            (subst (λ (z : Effect). In z.out y) x.is k);
      })
      (λ (x : AsksInstead q s effect). soft_of s effect (on_ask q values Only Mine s clean effect x.asks))
      does
  soft s widen effect may clean does =
      ⊎_elim
      (λ (x : Begins q s effect). record {
        known = ap (λ (y : Effect). y.after.known) x.is;
        entry = fair_some i Only Mine effect.entry (Round (fresh_ballot q s).round)
            (ap (λ (y : Effect). y.entry) x.is) (fair_round i Only Mine (fresh_ballot q s).round);
        out = λ y k. ⊎_elim
            (λ (e : (All, Prepare q x.instance (fresh_ballot q s) (length x.values)) ≡ y). subst
            (IsLoose q i Mine) e (inr (inl refl)))
            (λ none. absurd none)
            (subst (λ (z : Effect). In z.out y) x.is k);
      })
      (λ (x : (¬ MayWiden s) × (effect ≡ quiet s)). record {
        known = ap (λ (y : Effect). y.after.known) x.1;
        entry = fair_none i Only Mine effect.entry (ap (λ (y : Effect). y.entry) x.1);
        out = λ y k. absurd (subst (λ (z : Effect). In z.out y) x.1 k);
      })
      does

  abbrev Holds : Node → List (To × Message) → Type 0
  Holds s l = IsClean values Only Mine s × AreAll (IsLoose q i Mine) l

  pub loosely_called : (last : LastCall) (s t : Node) (out : List (To × Message)) → IsTellLow last
      → IsClean values Only Mine s → EndsTurns last n q s out t → IsClean values Only Mine t
      × AreAll (IsLoose q i Mine) out
  loosely_called last s t out low clean ends =
      all_called n q Holds MayLoosely
      (λ u w before more call may h e.
      let next = soft u call e.effect may h.0 e.does in
      let begins = subst (BeginsKnown values) e.node (beginning_stays n q u w call Whole more e values
      h.0.begins) in
      let after = clean_on values Only Mine u e.effect h.0 next.entry begins
      (ap (λ f. f i) next.known ∙ h.0.unknown) in (
        subst (IsClean values Only Mine) (sym e.node) after,
        all_out (IsLoose q i Mine) before more e.effect
            e.handed_out h.1 next.out,
      ))
      last s t [] out (λ call is. may_loosely last call low is) ends (clean, all_none (IsLoose q i Mine))
