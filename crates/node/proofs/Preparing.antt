-- What a prepare and a proposal do at a node, by the verdicts on them.
use Rattle.std.proofs.Common.{◌≡◌, ◌≢◌, inl, inr, ℕ, Bool, true, false, Some, None, [], refl, sym, subst, ◌∙◌}
use Rattle.site_ids.specs.Ids.{BallotOf}
use Rattle.site_ids.specs.Spans.{IsInSpan}
use Rattle.acceptor.specs.declared.slot.Slot.{Slot}
use Rattle.acceptor.specs.declared.judging.ProposeVerdict.{ProposeVerdict}
use Rattle.acceptor.specs.declared.judging.ProposeVerdict.TheVariants as to_proposal
use Rattle.acceptor.specs.Judging.{IsFreeBelow, JudgesProposal}
use Rattle.acceptor.specs.Steps.{accepted, nack, no_answer, proposal, with_vote}
use Rattle.durable.specs.Entries.{IsSlot, promise_of}
use Rattle.durable.specs.Slots.{slot_at}
use Rattle.wire.specs.declared.message.Message.TheVariants.{Prepare, Propose}
use Rattle.node.specs.declared.prepared.Judgement.{Judgement}
use Rattle.node.specs.declared.node.Node.{Node as Running}
use Rattle.node.specs.Nodes.{Value, Node, IsMute}
use Rattle.node.specs.Calls.{deliver, Does}
use Rattle.node.specs.Deliveries.{span_out}
use Rattle.node.specs.Endings.{IsAnswered, TakesRoom}
use Rattle.node.specs.Judgements.{Rises, IsJudgement, IsOwed}
use Rattle.node.specs.Standing.{IsNodeOf}
use Rattle.node.proofs.Judging.{judged_by, rising, free_owed, owed_in}
use Rattle.node.proofs.Muting.{Speaks}
use Rattle.node.proofs.Handling.{touched}
use Rattle.node.proofs.Verdicts.{proposes, proposal_effect}

refuses : (c : BallotOf) → nack c ≡ no_answer → ⊥
refuses c e = cc

votes : accepted ≡ no_answer → ⊥
votes e = cc

-- each verdict but silence is an answer
answers_proposal : (s : Node) (i : ℕ) (b : BallotOf) (v : Value) (slot : Slot) (verdict : ProposeVerdict) → IsSlot s.entries i slot → JudgesProposal slot b v verdict → verdict ≢ to_proposal.Silent → IsAnswered s i (proposal b v)
answers_proposal s i b v slot to_proposal.Vote is judged some =
    record { slot = slot; after = with_vote b v; answer = accepted; on_record = is; step = (judged.0, inl (judged.1, refl)); some = votes }
answers_proposal s i b v slot to_proposal.Again is judged some = record { slot = slot; after = slot; answer = accepted; on_record = is; step = (judged.0, inr (judged.1, refl)); some = votes }
answers_proposal s i b v slot (to_proposal.Nack c) is judged some = record { slot = slot; after = slot; answer = nack c; on_record = is; step = (judged, refl); some = refuses c }
answers_proposal s i b v slot to_proposal.Silent is judged some = absurd (some refl)

module _ {D : Type 0} (old : Running D) where
  abbrev pub slots : ℕ → Slot
  slots i = slot_at old.store.recorded.slots i

  -- ---- a prepare of k instances from i on, by the judgement on them

  module _ (i : ℕ) (b : BallotOf) (k : ℕ) where
    -- an instance that is owed an answer has one
    pub prepare_takes : (from : ℕ) → Speaks old i → (at : ℕ) × IsInSpan i k at × IsOwed (slots at) b → (s : Node) → IsNodeOf old s → TakesRoom s (Prepare from i b k)
    prepare_takes from speaks owed s stands = (
      speaks s stands,
      owed.0,
      owed.1,
      record { slot = slots owed.0; after = owed.2.after; answer = owed.2.answer; on_record = stands.parts.on_record.kept.slots owed.0; step = owed.2.step; some = owed.2.some },
    )

    module _ (told : Judgement) (is : IsJudgement slots old.me i b k told) where
      -- so it is if there are answers
      pub answers_take : told.answers.items ≢ [] → (at : ℕ) × IsInSpan i k at × IsOwed (slots at) b
      answers_take some =
          let owed = owed_in slots old.me i b is.judged is.each (λ none. some (is.answers ∙ none)) in
          (owed.0, subst (λ (n : ℕ). IsInSpan i n owed.0) is.counted owed.1, owed.2)

      -- and if a promise rises, which is free there
      pub rises_where : told.rises ≡ true → (at : ℕ) × IsInSpan i k at × IsFreeBelow (slots at).promised b
      rises_where rises =
          let free = rising slots b i is.judged is.each (subst (λ (r : Bool). Rises is.judged r) rises is.rises) in
          (free.0, subst (λ (n : ℕ). IsInSpan i n free.0) is.counted free.1, free.2)

      pub rises_takes : told.rises ≡ true → (at : ℕ) × IsInSpan i k at × IsOwed (slots at) b
      rises_takes rises = let free = rises_where rises in (free.0, free.1, free_owed (slots free.0) b free.2)

      -- it goes on record if it rises, and only then
      pub prepare_rises : (from : ℕ) → Speaks old i → told.rises ≡ true → (s : Node) → IsNodeOf old s
          → Does old.cluster old.me s (deliver (Prepare from i b k)) (record { entry = Some (promise_of i k b); after = touched (Prepare from i b k) s; out = span_out old.me i b is.judged })
      prepare_rises from speaks rises s stands = inr (
        speaks s stands,
        record {
          judged = is.judged;
          entry = Some (promise_of i k b);
          counted = is.counted;
          each = judged_by s.entries slots b i is.judged stands.parts.on_record.kept.slots is.each;
          records = (subst (λ (r : Bool). Rises is.judged r) rises is.rises, refl);
          is = refl;
        },
      )

      pub prepare_stays : (from : ℕ) → Speaks old i → told.rises ≡ false → (s : Node) → IsNodeOf old s
          → Does old.cluster old.me s (deliver (Prepare from i b k)) (record { entry = None; after = touched (Prepare from i b k) s; out = span_out old.me i b is.judged })
      prepare_stays from speaks rises s stands = inr (
        speaks s stands,
        record {
          judged = is.judged;
          entry = None;
          counted = is.counted;
          each = judged_by s.entries slots b i is.judged stands.parts.on_record.kept.slots is.each;
          records = subst (λ (r : Bool). Rises is.judged r) rises is.rises;
          is = refl;
        },
      )

  -- ---- a proposal at an instance

  module _ (i : ℕ) (slot : Slot) (is : slot ≡ slot_at old.store.recorded.slots i) (speaks : Speaks old i) where
    on_record : (s : Node) → IsNodeOf old s → IsSlot s.entries i slot
    on_record s stands = subst (λ (x : Slot). IsSlot s.entries i x) (sym is) (stands.parts.on_record.kept.slots i)

    pub propose_does : (from : ℕ) (b : BallotOf) (v : Value) (verdict : ProposeVerdict) → JudgesProposal slot b v verdict → (s : Node) → IsNodeOf old s
        → Does old.cluster old.me s (deliver (Propose from i b v)) (proposal_effect old.me (touched (Propose from i b v) s) i b v verdict)
    propose_does from b v verdict judged s stands = inr (speaks s stands, proposes old.me (touched (Propose from i b v) s) i b v slot verdict (on_record s stands) judged)

    pub proposal_takes : (b : BallotOf) (v : Value) (verdict : ProposeVerdict) → JudgesProposal slot b v verdict → verdict ≢ to_proposal.Silent → (s : Node) → IsNodeOf old s → (¬ IsMute s i) × IsAnswered s i (proposal b v)
    proposal_takes b v verdict judged some s stands = (speaks s stands, answers_proposal s i b v slot verdict (on_record s stands) judged some)
