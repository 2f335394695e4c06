-- A node whose record is lost is replaced. What that record held is at or below the floor, so the invariant
-- is kept.
use Rattle.std.proofs.Common.{◌≡◌, ◌≢◌, ◌⊎◌, inl, inr, ℕ, ◌+◌, ◌-◌, ◌<◌, ◌≤◌, true, false, cond, Option, Some, None, List, [], ◌∷◌, ◌++◌, append-nil, refl, sym, subst, ◌∙◌, ⊎_elim, arith}
use Rattle.std.specs.Prelude.{nat_eq}
use Rattle.site_ids.specs.Ids.{BallotOf}
use Rattle.site_ids.specs.Lists.{In, put_at}
use Rattle.site_ids.specs.declared.value.Vote.{Vote}
use Rattle.wire.specs.declared.message.Message.{Message}
use Rattle.wire.specs.declared.message.Message.TheVariants.{Prepare, Promise, Propose, Accepted, Nack, Ask, Chosen}
use Rattle.durable.specs.Entries.{Entry, Round, Promised, PromisedSpan, Voted, Floor, Learned, Raises, floor_of, reach_of}
use Rattle.proposer.specs.Attempts.{Attempt}
use Rattle.node.specs.Nodes.{Value, Down, Node, opened}
use Rattle.world.specs.Worlds.{World, Replaces}
use Rattle.durable.proofs.Push.{in_reach}
use Rattle.site_ids.proofs.MemberLemmas.{in_left, in_split}
use Rattle.site_ids.proofs.MajorityLemmas.{share_a_node}
use Rattle.world.proofs.Lists.{same_number, other_number}
use Rattle.world.proofs.Invariant.{MayStand, IsTrueBelow, IsInReach, IsSpent, NodeSound, MessageSound, Sound, IsSound}

-- a record reaches its floor
floor_reached : (es : List Entry) → floor_of es ≤ reach_of es
floor_reached [] = omega arith
floor_reached (Round r ∷ es) = omega arith
floor_reached (Promised i b ∷ es) = omega arith
floor_reached (PromisedSpan i k b ∷ es) = omega arith
floor_reached (Voted i b v ∷ es) = omega arith
floor_reached (Learned i v ∷ es) = omega arith
floor_reached (Floor f ∷ es) = omega arith

no_floor_vote : (f i : ℕ) (b : BallotOf) (v : Value) → Floor f ≡ Voted i b v → ⊥
no_floor_vote f i b v e = cc

no_floor_learned : (f i : ℕ) (v : Value) → Floor f ≡ Learned i v → ⊥
no_floor_learned f i v e = cc

no_entry : (e : Entry) → ◌≡◌ {A = Option Entry} None (Some e) → ⊥
no_entry e x = cc

no_attempt : (a : Attempt) → ◌≡◌ {A = Option Attempt} None (Some a) → ⊥
no_attempt a x = cc

no_value : (v : Value) → ◌≡◌ {A = Option Value} None (Some v) → ⊥
no_value v x = cc

above_or_not : (i floor : ℕ) → (i ≤ floor → ⊥) → floor < i
above_or_not i floor h = omega (arith, h)

module _ (n : ℕ) (fair : Value → Type 0) (gone : ℕ → Entry → Type 0) (w after : World) (all : IsSound n fair gone w) (p floor : ℕ) (how : Replaces n w p floor after)
    (is_gone : (e : Entry) → In (w.node p).entries e → gone p e)
  where
    good : Sound n fair all.lost w
    good = all.sound

    abbrev fresh : Node
    fresh = opened Down (Floor floor ∷ []) None

    -- all that was on record, now or before
    abbrev old : List Entry
    old = all.lost p ++ (w.node p).entries

    abbrev lost_now : ℕ → List Entry
    lost_now = put_at all.lost p old

    -- A vote 64 below is on the record of a node that was asked, or at or below its floor
    far : (q j : ℕ) (b : BallotOf) (v : Value) → In how.is_floor.asked q → In (all.lost q ++ (w.node q).entries) (Voted j b v) → j + 64 ≤ floor
    far q j b v asked k =
        let top = how.is_floor.above q asked in
        ⊎_elim
        (λ (x : In (all.lost q) (Voted j b v)).
        let low = (good.nodes q).under (Voted j b v) j b x (refl, refl) in
        let reached = floor_reached (w.node q).entries in
        omega (arith, low, reached, top))
        (λ (x : In (w.node q).entries (Voted j b v)). let reached = in_reach (w.node q).entries (Voted j b v) x in omega (arith, reached, top))
        (in_split (all.lost q) (w.node q).entries (Voted j b v) k)

    -- at least one node was asked
    least : 64 ≤ floor
    least =
        let both = share_a_node n how.is_floor.asked how.is_floor.asked how.is_floor.majority how.is_floor.majority in
        let top = how.is_floor.above both.0 both.1 in
        omega (arith, top)

    -- so what is within reach of an attempt is at or below the new floor
    reach_under : (i : ℕ) → IsInReach n w.sent i → i ≤ floor
    reach_under i reach = ⊎_elim (λ low. low) (λ high. go high) (order i floor)
      where
        order : (i floor : ℕ) → (i ≤ floor) ⊎ (floor < i)
        order i floor = grind arith

        go : floor < i → i ≤ floor
        go high =
            let most = least in
            let d = reach (i - 64) (omega (arith, most, high)) (omega (arith, most, high)) in
            let both = share_a_node n d.1.voters how.is_floor.asked d.1.majority how.is_floor.majority in
            let vote = good.messages (Accepted both.0 (i - 64) d.1.ballot d.0) (d.1.voted both.0 both.1) in
            let at = far both.0 (i - 64) d.1.ballot d.0 both.2 vote in
            omega (arith, at, most, high)

    at_each : (P : ℕ → List Entry → Node → Type 0) → P p old fresh → ((q : ℕ) → q ≢ p → P q (all.lost q) (w.node q)) → (q : ℕ) → P q (lost_now q) (after.node q)
    at_each P here there q =
        elim (nat_eq q p) as (λ b. nat_eq q p ≡ b → P q (cond b old (all.lost q)) (after.node q)) [
          | true ↦ λ is. let e : p ≡ q = sym (same_number q p is) in subst (λ r. P r old (after.node r)) e (subst (P p old) (sym how.becomes.at) here)
          | false ↦ λ is. let apart : q ≢ p = other_number q p is in subst (P q (all.lost q)) (sym (how.becomes.others q apart)) (there q apart)
        ] refl

    in_old : (e : Entry) → In (old ++ Floor floor ∷ []) e → In old e ⊎ (Floor floor ≡ e)
    in_old e k = ⊎_elim (λ x. inl x) (λ (x : In (Floor floor ∷ []) e). ⊎_elim (λ y. inr y) (λ none. absurd none) x) (in_split old (Floor floor ∷ []) e k)

    vote_in_old : (i : ℕ) (b : BallotOf) (v : Value) → MayStand (old ++ Floor floor ∷ []) None (Voted i b v) → In old (Voted i b v)
    vote_in_old i b v k = ⊎_elim
        (λ x. ⊎_elim (λ y. y) (λ y. absurd (no_floor_vote floor i b v y)) (in_old (Voted i b v) x))
        (λ x. absurd (no_entry (Voted i b v) x))
        k

    fresh_sound : NodeSound n fair w.sent old p fresh
    fresh_sound =
        let before = good.nodes p in
        record {
          under = λ e i b k r. reach_under i (before.reach e k i b r);
          reach = λ e k i b r. ⊎_elim (λ x. before.reach e x i b r) (λ x. absurd (subst (λ (y : Entry). Raises y i b) (sym x) r)) (in_old e k);
          votes = λ i b v k. before.votes i b v (inl (vote_in_old i b v k));
          highest = λ i c v k. ⊎_elim (λ x. absurd (no_floor_vote floor i c v x)) (λ none. absurd none) k;
          next = λ e k. absurd (no_entry e k);
          learned = λ i v k. ⊎_elim (λ x. absurd (no_floor_learned floor i v x)) (λ none. absurd none) k;
          settled = λ _. refl;
          attempts = λ i a k. absurd (no_attempt a k);
          told_votes = λ t k. absurd k;
          known = λ i v k. absurd (no_value v k);
          pending = λ v k. absurd k;
          heard = inl refl;
        }

    -- what is said of the messages of node q, and of proposals at its ballots, stays true
    record Stays (q : ℕ) (lost : List Entry) (s : Node) : Type 0 where
      grows : (e : Entry) → In (all.lost q ++ (w.node q).entries) e → In (lost ++ s.entries) e
      back : (i : ℕ) (b : BallotOf) (v : Value) → MayStand (lost ++ s.entries) s.in_flight (Voted i b v) → MayStand (all.lost q ++ (w.node q).entries) (w.node q).in_flight (Voted i b v)
      spent : (i : ℕ) (b : BallotOf) → IsInReach n w.sent i → IsSpent i b (w.node q).entries → IsSpent i b s.entries

    stays : (q : ℕ) → Stays q (lost_now q) (after.node q)
    stays = at_each (λ q l s. Stays q l s)
        (record { grows = λ e k. in_left old (Floor floor ∷ []) e k; back = λ i b v k. inl (vote_in_old i b v k); spent = λ i b reach _. inr (reach_under i reach) })
        (λ q apart. record { grows = λ e k. k; back = λ i b v k. k; spent = λ i b _ k. k })

    told : (q i : ℕ) (b : BallotOf) (prior : Option Vote) → IsTrueBelow (all.lost q ++ (w.node q).entries) (w.node q).in_flight i b prior → IsTrueBelow (lost_now q ++ (after.node q).entries) (after.node q).in_flight i b prior
    told q i b None h = λ c v k low. h c v ((stays q).back i c v k) low
    told q i b (Some x) h = (h.0, (stays q).grows (Voted i x.ballot x.value) h.1, λ c v k low. h.2 c v ((stays q).back i c v k) low)

    message : (m : Message) → MessageSound n fair all.lost w.node w.sent m → MessageSound n fair lost_now after.node w.sent m
    message (Prepare q i b k) h = h
    message (Promise q i b prior) h = record { bound = (h.bound.0, h.bound.1, (stays q).grows h.bound.0 h.bound.2, h.bound.3, h.bound.4); truth = told q i b prior h.truth }
    message (Propose q i b v) h = ((stays b.node).spent i b h.3 h.0, h.1, h.2, h.3)
    message (Accepted q i b v) h = (stays q).grows (Voted i b v) h
    message (Nack q i b c) h = (h.0, (stays q).grows h.0 h.1, h.2)
    message (Ask q i) h = tt
    message (Chosen q i v) h = h

    same_sent : after.sent ≡ w.sent
    same_sent = how.becomes.sent ∙ append-nil w.sent

    pub replaced_kept : IsSound n fair gone after
    replaced_kept = record {
      lost = lost_now;
      sound = record {
        nodes = λ q. subst (λ l. NodeSound n fair l (lost_now q) q (after.node q)) (sym same_sent) (at_each (λ q l s. NodeSound n fair w.sent l q s) fresh_sound (λ q apart. good.nodes q) q);
        messages = λ m h. subst (λ l. MessageSound n fair lost_now after.node l m) (sym same_sent) (message m (good.messages m (subst (λ l. In l m) same_sent h)));
        one_value = λ q r i b v u h k. good.one_value q r i b v u (subst (λ l. In l (Propose q i b v)) same_sent h) (subst (λ l. In l (Propose r i b u)) same_sent k);
      };
      all_gone = λ q e k. at_each (λ q l s. In l e → gone q e)
          (λ (x : In old e). ⊎_elim (λ y. all.all_gone p e y) (λ y. is_gone e y) (in_split (all.lost p) (w.node p).entries e x)) (λ q apart x. all.all_gone q e x) q k;
    }
