-- A proposal that nobody overbids decides in two rounds.
use Rattle.std.proofs.Common.{◌≡◌, inl, ℕ, Some, List, ◌++◌, refl, sym, ap, subst, ◌∙◌, arith}
use Rattle.site_ids.specs.Ids.{BallotOf, IsNode}
use Rattle.site_ids.specs.Lists.{In}
use Rattle.site_ids.proofs.MajorityLemmas.{all_are_many}
use Rattle.site_ids.proofs.MemberLemmas.{in_right}
use Rattle.wire.specs.declared.message.Message.{Message}
use Rattle.wire.specs.declared.message.Message.TheVariants.{Propose, Accepted}
use Rattle.wire.specs.Decoding.{Spells}
use Rattle.wire.specs.Spelling.{spelled}
use Rattle.durable.specs.Entries.{Voted}
use Rattle.node.specs.declared.to.To.TheVariants.{All}
use Rattle.node.specs.Nodes.{Value, Node}
use Rattle.world.specs.declared.event.Event.{Event}
use Rattle.world.specs.Agreement.{WasLost}
use Rattle.world.specs.Batches.{CallsAreEvents, SealedIsARun}
use Rattle.world.specs.Decided.{Decides}
use Rattle.world.specs.Worlds.{start}
use Rattle.world.proofs.Agreed.{knows_decided, decides_once}
use Rattle.world.proofs.Growing.{runs_on, sound, IsGiven}
use Rattle.world.proofs.Invariant.{IsSound}
use Rattle.rounds.specs.Rounds.{Group, IsRound, AreRounds}
use Rattle.rounds.specs.Agreeing.{IsLedTo}
use Rattle.rounds.specs.Proposing.{IsProposed, NobodyOverbids, ProposalDecides}
use Rattle.rounds.proofs.Arriving.{waits_for, in_first}
use Rattle.rounds.proofs.Scheduling.{rounds_go}
use Rattle.rounds.proofs.Telling.{votes_tell, stays_told}
use Rattle.rounds.proofs.Voting.{IsLow, IsBound, voted}

module _ (n d i : ℕ) (b : BallotOf) (v : Value) (events : List Event) (g : Group) (led : IsLedTo n events g)
    (made : IsProposed n i b v g) (none : NobodyOverbids n i b g) where
  abbrev all : IsSound n (IsGiven events) (WasLost n led.world) led.world
  all = sound n events led.world led.runs

  there : (q : ℕ) (here : IsNode n q) → In led.world.sent (Propose made.from i b v)
  there q here = let w = made.waits q here in led.stands.sent q w.0 (Propose made.from i b v) here w.1 w.2

  -- what waits is low
  low : (q : ℕ) (here : IsNode n q) (bytes : List ℕ) (m : Message) → In (g q).waits bytes → Spells n bytes m
      → IsLow n q i b v m
  low q here bytes m k spells = record {
    below = λ c asks. none q here bytes m c k spells asks;
    same = λ r u e. all.sound.one_value r made.from i b u v (subst (In led.world.sent) e
        (led.stands.sent q bytes m here k spells)) (there q here);
  }

  -- and the record is bound
  bound : (q : ℕ) (here : IsNode n q) → IsBound n q i b v (g q).node.entries
  bound q here = record {
    below = made.promised q here;
    votes = λ u k.
        let mine = subst (λ (s : Node). In s.entries (Voted i b u)) (led.stands.nodes q here) k in
        let from = (all.sound.nodes q).votes i b u (inl (in_right (all.lost q) (led.world.node q).entries
        (Voted i b u) mine)) in
        all.sound.one_value from.0 made.from i b u v from.1 (there q here);
    not_mute = made.not_mute q here;
  }

  module _ (mid : Group) (round : IsRound n d g mid) where
    -- each server votes
    votes : (q : ℕ) (here : IsNode n q) → In (round.steps q here).out (All, Accepted q i b v)
    votes q here =
        let st = round.steps q here in
        let works = st.batch.works in
        let w = made.waits q here in
        in_first n d g mid round q here (All, Accepted q i b v) (voted n q i b v made.from w.0 w.2 (g q).waits
        (g q).node works.mid st.malformed works.first w.1 (λ bytes m k spells. low q here bytes m k spells)
        works.takes (bound q here))

    -- and each hears each vote
    hears : (p q : ℕ) (there : IsNode n p) (here : IsNode n q) → (bytes : List ℕ) × In (mid p).waits bytes
        × Spells n bytes (Accepted q i b v)
    hears p q there here =
        let is = (made.waits q here).2.0 in (
          spelled (Accepted q i b v),
          waits_for n d g mid round p q there here (All, Accepted q i b v) (votes q here) refl,
          (
            record { sender = here; instance = is.instance; ballots = is.ballots; fits = is.fits },
            refl,
          ),
        )

    module _ (h : Group) (next : IsRound n d mid h) where
      -- so each knows a value
      knows : (p : ℕ) (there : IsNode n p) → (u : Value) × ((h p).node.known i ≡ Some u)
      knows p there =
          let st = next.steps p there in
          let works = st.batch.works in
          let low = there.0 in
          let high = there.1 in
          let told = votes_tell n p i b v (omega (arith, low, high)) (mid p).waits (mid p).node works.mid
          st.malformed works.first (λ r here. hears p r there here) works.takes in
          (told.0, stays_told n p i b v st.last works.mid (h p).node works.then told.0 works.ends told.1)

  module _ (are_events : CallsAreEvents) (sealed : SealedIsARun) where
    -- which is that of the proposal, as it is decided
    decided : (h : Group) → (rounds : AreRounds n d 2 g h) → (q : ℕ) → IsNode n q
        → (h q).node.known i ≡ Some v
    decided h rounds q here =
        let mid = rounds.0 in
        let last : AreRounds n d 1 mid h = rounds.2 in
        let second : IsRound n d mid h = subst (λ (f : Group). IsRound n d mid f) (sym last.2) last.1 in
        let a = rounds_go are_events sealed n d 1 g mid events led.world led.runs led.stands
        (mid, rounds.1, refl) in
        let runs = runs_on n events a.more start led.world a.after led.runs a.runs in
        let z = rounds_go are_events sealed n d 1 mid h (events ++ a.more) a.after runs a.stands last in
        let u = knows mid rounds.1 h second q here in
        let low = here.0 in
        let high = here.1 in
        let most = all_are_many n (omega (arith, low, high)) in
        let votes : Decides n a.after.sent i v = record {
          ballot = b;
          voters = most.0;
          majority = most.1;
          voted = λ p k.
              let node = most.1.nodes p k in
              let heard = hears mid rounds.1 q p here node in
              a.stands.sent q heard.0 (Accepted p i b v) here heard.1 heard.2;
        } in
        let known : (z.after.node q).known i ≡ Some u.0 = subst (λ (s : Node). s.known i ≡ Some u.0)
        (z.stands.nodes q here) u.1 in
        let told = knows_decided n ((events ++ a.more) ++ z.more) z.after
        (runs_on n (events ++ a.more) z.more start a.after z.after runs z.runs) q i u.0 known in
        let same : v ≡ u.0 = decides_once n a.after z.after
        (inl (record { events = events ++ a.more; more = z.more; first = runs; second = z.runs })) i v u.0
        votes
        told in
        u.1 ∙ ap Some (sym same)

pub proposal_decides : CallsAreEvents → SealedIsARun → ProposalDecides
proposal_decides are_events sealed n d i b v events g h led made none rounds q here = decided n d i b v events
    g
    led made none are_events sealed h rounds q here
