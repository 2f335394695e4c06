-- Which entries advance a list, by the slot of their instance.
use Rattle.std.proofs.Common.{◌≡◌, ◌≢◌, ℕ, List, Option, Some, None, refl, sym, ◌∙◌, subst, arith}
use Rattle.site_ids.specs.Ids.{BallotOf, Below, NotAbove}
use Rattle.site_ids.specs.Lists.{In}
use Rattle.site_ids.specs.declared.value.Vote.{Vote}
use Rattle.acceptor.specs.declared.slot.Slot.{Slot}
use Rattle.acceptor.specs.Judging.{IsFreeBelow, IsFreeAt, IsVotedAt}
use Rattle.durable.specs.Entries.{Entry, Promised, PromisedSpan, Voted, Raises, IsPromise, IsSlot}
use Rattle.site_ids.specs.Spans.{IsInSpan}
use Rattle.durable.specs.Histories.{Advances}

below : (a b c : BallotOf) → NotAbove a b → Below b c → Below a c
below a b c = grind arith

not_above : (a b c : BallotOf) → NotAbove a b → NotAbove b c → NotAbove a c
not_above a b c = grind arith

-- no promise at or above a ballot: all that was raised is below it
free_below : (es : List Entry) (i : ℕ) (b : BallotOf) (p : Option BallotOf) → IsPromise es i p → IsFreeBelow p b → Advances es (Promised i b)
free_below es i b None is free = λ e c here raises. absurd (is e c here raises)
free_below es i b (Some p) is free = λ e c here raises. below c p b (is.1 e c here raises) free

must_be_below : (es : List Entry) (i : ℕ) (b : BallotOf) (p : Option BallotOf) → IsPromise es i p → Advances es (Promised i b) → IsFreeBelow p b
must_be_below es i b None is advances = tt
must_be_below es i b (Some p) is advances = advances is.0.0 p is.0.1 is.0.2

pub promise_advances : (es : List Entry) (i : ℕ) (b : BallotOf) (s : Slot) → IsSlot es i s → IsFreeBelow s.promised b → Advances es (Promised i b)
promise_advances es i b s is free = free_below es i b s.promised is.promise free

pub promise_must : (es : List Entry) (i : ℕ) (b : BallotOf) (s : Slot) → IsSlot es i s → Advances es (Promised i b) → IsFreeBelow s.promised b
promise_must es i b s is advances = must_be_below es i b s.promised is.promise advances

-- a span advances where one of its instances rises, and nowhere else
pub span_advances : (es : List Entry) (i k j : ℕ) (b : BallotOf) (s : Slot) → IsInSpan i k j → IsSlot es j s → IsFreeBelow s.promised b → Advances es (PromisedSpan i k b)
span_advances es i k j b s within is free = (j, within, free_below es j b s.promised is.promise free)

pub span_must : (es : List Entry) (i k : ℕ) (b : BallotOf) (slots : ℕ → Slot) → ((j : ℕ) → IsSlot es j (slots j)) → Advances es (PromisedSpan i k b) → (j : ℕ) × IsInSpan i k j × IsFreeBelow (slots j).promised b
span_must es i k b slots are advances = (advances.0, advances.1, must_be_below es advances.0 b (slots advances.0).promised (are advances.0).promise advances.2)

abbrev AllNotAbove : List Entry → ℕ → BallotOf → Type 0
AllNotAbove es i b = (e : Entry) (c : BallotOf) → In es e → Raises e i c → NotAbove c b

free_at : (es : List Entry) (i : ℕ) (b : BallotOf) (p : Option BallotOf) → IsPromise es i p → IsFreeAt p b → AllNotAbove es i b
free_at es i b None is free = λ e c here raises. absurd (is e c here raises)
free_at es i b (Some p) is free = λ e c here raises. not_above c p b (is.1 e c here raises) free

must_be_at : (es : List Entry) (i : ℕ) (b : BallotOf) (p : Option BallotOf) → IsPromise es i p → AllNotAbove es i b → IsFreeAt p b
must_be_at es i b None is all = tt
must_be_at es i b (Some p) is all = all is.0.0 p is.0.1 is.0.2

not_at : (last : Option Vote) (b : BallotOf) → ¬ IsVotedAt last b → (vote : Vote) → last ≡ Some vote → vote.ballot ≢ b
not_at last b none vote is same = none (subst (λ (o : Option Vote). IsVotedAt o b) (sym is) same)

must_not_at : (last : Option Vote) (b : BallotOf) → ((vote : Vote) → last ≡ Some vote → vote.ballot ≢ b) → ¬ IsVotedAt last b
must_not_at None b other at = at
must_not_at (Some vote) b other at = other vote refl at

pub vote_advances : (es : List Entry) (i : ℕ) (b : BallotOf) (v : List ℕ) (s : Slot) → IsSlot es i s → IsFreeAt s.promised b → ¬ IsVotedAt s.vote b → Advances es (Voted i b v)
vote_advances es i b v s is free other = (free_at es i b s.promised is.promise free, λ vote last. not_at s.vote b other vote (is.vote ∙ last))

pub vote_must : (es : List Entry) (i : ℕ) (b : BallotOf) (v : List ℕ) (s : Slot) → IsSlot es i s → Advances es (Voted i b v) → IsFreeAt s.promised b × (¬ IsVotedAt s.vote b)
vote_must es i b v s is advances = (must_be_at es i b s.promised is.promise advances.0, must_not_at s.vote b (λ vote last. advances.1 vote (sym is.vote ∙ last)))
