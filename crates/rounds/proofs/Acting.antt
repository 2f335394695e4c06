-- What the messages of the attempt at the instance do: its prepare and its proposal.
use Rattle.std.proofs.Common.{◌≡◌, inl, inr, ⊎_elim, ℕ, suc, max, true, cond, Option, Some, None, List, []}
use Rattle.std.proofs.Common.{◌∷◌, length, refl, sym, ap, subst, ◌∙◌, arith}
use Rattle.std.specs.Prelude.{nat_eq}
use Rattle.std.proofs.lemmas.Bool.Decides.{nat_tests}
use Rattle.site_ids.specs.Ids.{BallotOf, Below, NotAbove}
use Rattle.site_ids.specs.Spans.{last_of}
use Rattle.site_ids.specs.declared.value.Vote.{Vote}
use Rattle.site_ids.proofs.BallotLemmas.{not_itself}
use Rattle.wire.specs.declared.message.Message.{Message}
use Rattle.wire.specs.declared.message.Message.TheVariants.{Prepare, Promise, Propose, Accepted}
use Rattle.acceptor.specs.declared.slot.Slot.{Slot}
use Rattle.acceptor.specs.Judging.{IsVotedAt, IsVotedFor}
use Rattle.acceptor.specs.Steps.{Answer, promise, accepted, nack, no_answer, proposal, Steps}
use Rattle.durable.specs.Entries.{Entry, Promised, Voted, last_vote, IsPromise, IsSlot}
use Rattle.proposer.specs.Attempts.{Attempt}
use Rattle.node.specs.declared.to.To.{To}
use Rattle.node.specs.declared.to.To.TheVariants.{One, All}
use Rattle.node.specs.Nodes.{Value, Node, BeginsKnown}
use Rattle.node.specs.Effects.{Effect, recorded}
use Rattle.node.specs.Calls.{deliver}
use Rattle.node.specs.Deliveries.{Records, OnPropose, propose_out}
use Rattle.node.specs.Endings.{Whole, EndsWhole}
use Rattle.node.proofs.Knowing.{beginning_stays}
use Rattle.world.proofs.Order.{not_above_itself}
use Rattle.world.proofs.QuietAnswers.{IsClear, Promises, promises, heeds}
use Rattle.rounds.proofs.Elsewhere.{IsFair, IsFairOr, fair_none, fair_some, IsClean, clean_on}
use Rattle.rounds.proofs.Holding.{IsHeld, held_on}

-- no vote, or that of the attempt
abbrev pub IsNoVote : Vote → Type 0
IsNoVote x = ⊥

abbrev pub IsVoteOf : BallotOf → Value → Vote → Type 0
IsVoteOf b v x = x ≡ record { ballot = b; value = v }

-- no ballot, or that of the attempt
abbrev pub IsNoBallot : BallotOf → Type 0
IsNoBallot c = ⊥

abbrev pub IsThis : BallotOf → BallotOf → Type 0
IsThis b c = c ≡ b

none_voted : (o : Option Vote) → ((x : Vote) → o ≡ Some x → ⊥) → o ≡ None
none_voted None none = refl
none_voted (Some x) none = absurd (none x refl)

same_itself : (i : ℕ) → nat_eq i i ≡ true
same_itself i = grind (arith, nat_tests)

fair_promised : (i : ℕ) (b : BallotOf) (Mine : Vote → Type 0) → IsFair i (IsThis b) Mine (Promised i b)
fair_promised i b Mine = record {
  raises = λ c h. sym h.1;
  votes = λ last. inl refl;
  learns = refl;
  floor
      = refl;
}

fair_voted : (i : ℕ) (b : BallotOf) (v : Value) → IsFair i (IsThis b) (IsVoteOf b v) (Voted i b v)
fair_voted i b v = record {
  raises = λ c h. sym h.1;
  votes = λ last. inr (
    record { ballot = b; value = v },
    refl,
    ap
        (λ t. cond t (Some (record { ballot = b; value = v })) last) (same_itself i),
  );
  learns = refl;
  floor = refl;
}

module _ (n q p : ℕ) (values : List Value) (b : BallotOf) where
  abbrev i : ℕ
  i = suc (length values)

  -- ---- a prepare is promised

  module _ (of : b.node ≡ p) (o : Option Attempt) where
    abbrev Held : Node → Type 0
    Held s = IsHeld n q values (IsThis b) IsNoVote o s

    clear : (s : Node) → Held s → IsClear s.entries i b
    clear s held = record {
      below = λ e c k r. subst (λ x. NotAbove x b) (sym (held.clean.raised e c k r)) (not_above_itself b);
      unvoted = λ x at same. held.clean.voted x at;
      not_mute = held.clean.not_mute;
    }

    pub on_prepare : (s t : Node) (out : List (To × Message)) → Held s
        → EndsWhole n q s (deliver (Prepare p i b 1)) out t → Held t
        × (out ≡ (One p, Promise q i b None) ∷ [])
    on_prepare s t out held ends =
        let there : Node = record s { reached = max s.reached (last_of i 1) } in
        let told : Promises q there i b ends.effect = promises q there i b ends.effect (clear s held)
        ends.does in
        let none : told.prior ≡ None = told.told ∙ none_voted (last_vote i s.entries) held.clean.voted in
        let begins = subst (BeginsKnown values) ends.node (beginning_stays n q s t (deliver (Prepare p i b 1))
        Whole out ends values held.clean.begins) in
        let fair : IsFairOr i (IsThis b) IsNoVote ends.effect.entry =
        ⊎_elim (λ e. fair_none i (IsThis b) IsNoVote ends.effect.entry e)
        (λ e. fair_some i (IsThis b) IsNoVote ends.effect.entry (Promised i b) e
        (fair_promised i b IsNoVote)) told.entry in
        let clean : IsClean values (IsThis b) IsNoVote (recorded s ends.effect) = clean_on values (IsThis b)
        IsNoVote s ends.effect held.clean fair begins (ap (λ (x : Node). x.known i) told.after
        ∙ held.clean.unknown) in (
          held_on n q values (IsThis b) IsNoVote o s ends.effect t ends.node clean
              (ap (λ (x : Node). x.attempts i) told.after) (λ e. ap (λ (x : Node). x.pending) told.after ∙ e)
              held.busy,
          ends.handed_out ∙ told.out ∙ ap (λ x. (One x, Promise q i b told.prior) ∷ []) of
              ∙ ap (λ x. (One p, Promise q i b x) ∷ []) none,
        )

  -- ---- a proposal is voted for

  module _ (v : Value) (o : Option Attempt) where
    abbrev Voting : Node → Type 0
    Voting s = IsHeld n q values (IsThis b) (IsVoteOf b v) o s

    inside_ballot : (x y : BallotOf) → Some x ≡ Some y → x ≡ y
    inside_ballot x y e = cc

    raised_by : (s : Node) (c : BallotOf) → Voting s → IsPromise s.entries i (Some c) → c ≡ b
    raised_by s c held is = held.clean.raised is.0.0 c is.0.1 is.0.2

    not_refused : (s : Node) (slot : Slot) (c : BallotOf) → Voting s → IsSlot s.entries i slot
        → slot.promised ≡ Some c → Below b c → ⊥
    not_refused s slot c held is promised below = not_itself b
        (subst (Below b) (raised_by s c held (subst (IsPromise s.entries i) promised is.promise)) below)

    voted_for : (x : Option Vote) → ((w : Vote) → x ≡ Some w → IsVoteOf b v w) → IsVotedAt x b
        → IsVotedFor x b v
    voted_for None mine at = absurd at
    voted_for (Some w) mine at = let e = mine w refl in (
      ap (λ (y : Vote). y.ballot) e,
      ap
          (λ (y : Vote). y.value) e,
    )

    accepts : (s : Node) (slot after : Slot) (answer : Answer) → Voting s → IsSlot s.entries i slot
        → Steps slot (proposal b v) after answer → answer ≡ accepted
    accepts s slot after (promise prior) held is step = absurd step
    accepts s slot after accepted held is step = refl
    accepts s slot after (nack c) held is step = absurd (not_refused s slot c held is step.0.0 step.0.1)
    accepts s slot after no_answer held is step = absurd (step.2
        (voted_for slot.vote (λ w e. held.clean.voted w (sym is.vote ∙ e)) step.1))

    entry_of : (slot after : Slot) (x : Option Entry) → Records slot after (Voted i b v) x
        → IsFairOr i (IsThis b) (IsVoteOf b v) x
    entry_of slot after None h = fair_none i (IsThis b) (IsVoteOf b v) None refl
    entry_of slot after (Some e) h = fair_some i (IsThis b) (IsVoteOf b v) (Some e) (Voted i b v)
        (ap Some h.1) (fair_voted i b v)

    pub on_proposal : (s t : Node) (out : List (To × Message)) → Voting s
        → EndsWhole n q s (deliver (Propose p i b v)) out t → Voting t × (out ≡ (All, Accepted q i b v) ∷ [])
    on_proposal s t out held ends =
        let there : Node = record s { reached = max s.reached i } in
        let how : OnPropose q there i b v ends.effect = heeds there i (OnPropose q there i b v ends.effect)
        ends.effect held.clean.not_mute ends.does in
        let yes = accepts s how.slot how.after how.answer held how.on_record how.step in
        let begins = subst (BeginsKnown values) ends.node (beginning_stays n q s t (deliver (Propose p i b v))
        Whole out ends values held.clean.begins) in
        let fair : IsFairOr i (IsThis b) (IsVoteOf b v) ends.effect.entry = subst
        (IsFairOr i (IsThis b) (IsVoteOf b v)) (sym (ap (λ (x : Effect). x.entry) how.is))
        (entry_of how.slot how.after how.entry how.records) in
        let clean : IsClean values (IsThis b) (IsVoteOf b v) (recorded s ends.effect) = clean_on values
        (IsThis b) (IsVoteOf b v) s ends.effect held.clean fair begins
        (ap (λ (x : Effect). x.after.known i) how.is ∙ held.clean.unknown) in (
          held_on n q values (IsThis b) (IsVoteOf b v) o s ends.effect t ends.node clean
              (ap (λ (x : Effect). x.after.attempts i) how.is)
              (λ e. ap (λ (x : Effect). x.after.pending) how.is ∙ e) held.busy,
          ends.handed_out ∙ ap (λ (x : Effect). x.out) how.is ∙ ap (λ x. propose_out q i b v x) yes,
        )
