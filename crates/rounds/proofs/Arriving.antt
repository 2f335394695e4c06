-- From what a step hands out to what waits before the next one.
use Rattle.std.proofs.Common.{◌≡◌, ◌⊎◌, inl, inr, ⊎_elim, ℕ, ◌<◌, ◌≤◌, Bool, true, false, cond, None, List}
use Rattle.std.proofs.Common.{[], ◌∷◌, ◌++◌, length, refl, sym, ap, subst, ◌∙◌, arith}
use Rattle.std.specs.Prelude.{◌^◌}
use Rattle.byteorder.specs.Endian.{big_bytes, big_number}
use Rattle.site_ids.specs.Ids.{BallotOf, IsInstance, IsNode}
use Rattle.site_ids.specs.Lists.{In}
use Rattle.site_ids.proofs.MemberLemmas.{in_left, in_right}
use Rattle.wire.specs.declared.message.Message.{Message}
use Rattle.wire.specs.declared.message.Message.TheVariants.{Prepare, Promise, Propose, Accepted}
use Rattle.wire.specs.Messages.{kind_of, instance_of, sender_of, IsMessage}
use Rattle.wire.specs.Decoding.{Spells}
use Rattle.wire.specs.Spelling.{spelled, version_of, fields_of}
use Rattle.wire.proofs.NumberLemmas.{number_back}
use Rattle.wire.proofs.ReadingLemmas.{one_message}
use Rattle.node.specs.declared.to.To.{To}
use Rattle.node.specs.Nodes.{Value}
use Rattle.site_drive.specs.Posting.{spelled_of}
use Rattle.server.specs.Mailing.{is_for, own_of}
use Rattle.rounds.specs.Rounds.{Group, Steps, IsRound}
use Rattle.rounds.proofs.Elsewhere.{IsAside, IsElsewhere, IsLow}
use Rattle.rounds.proofs.Passing.{low_of}
use Rattle.rounds.proofs.Delivering.{AreAllowed}
use Rattle.rounds.proofs.Holding.{AreAll, all_both}

-- ---- letters

own_more : (q : ℕ) (x : To × List ℕ) (xs : List (To × List ℕ)) (d : List ℕ) → In (own_of q xs) d
    → In (own_of q (x ∷ xs)) d
own_more q x xs d k = by (is_for q x.0)
  where
    by : (b : Bool) → In (cond b (x.1 ∷ own_of q xs) (own_of q xs)) d
    by true = inr k
    by false = k

own_here : (q : ℕ) (x : To × List ℕ) (xs : List (To × List ℕ)) → is_for q x.0 ≡ true
    → In (own_of q (x ∷ xs)) x.1
own_here q x xs e = subst (λ b. In (cond b (x.1 ∷ own_of q xs) (own_of q xs)) x.1) (sym e) (inl refl)

own_cases : (q : ℕ) (x : To × List ℕ) (xs : List (To × List ℕ)) (d : List ℕ) → In (own_of q (x ∷ xs)) d
    → ((is_for q x.0 ≡ true) × (d ≡ x.1)) ⊎ In (own_of q xs) d
own_cases q x xs d k = by (is_for q x.0) refl k
  where
    by : (b : Bool) → is_for q x.0 ≡ b → In (cond b (x.1 ∷ own_of q xs) (own_of q xs)) d
        → ((is_for q x.0 ≡ true) × (d ≡ x.1)) ⊎ In (own_of q xs) d
    by true is h = ⊎_elim (λ e. inl (is, sym e)) (λ later. inr later) h
    by false is h = inr h

pub in_own : (q : ℕ) (out : List (To × Message)) (x : To × Message) → In out x → is_for q x.0 ≡ true
    → In (own_of q (spelled_of out)) (spelled x.1)
in_own q [] x k e = absurd k
in_own q (y ∷ out) x k e =
    ⊎_elim
    (λ (same : y ≡ x). subst (λ (z : To × Message). In (own_of q (spelled_of (y ∷ out))) (spelled z.1)) same
    (own_here q (y.0, spelled y.1) (spelled_of out) (ap (λ (z : To × Message). is_for q z.0) same ∙ e)))
    (λ later. own_more q (y.0, spelled y.1) (spelled_of out) (spelled x.1) (in_own q out x later e))
    k

pub own_in : (q : ℕ) (out : List (To × Message)) (d : List ℕ) → In (own_of q (spelled_of out)) d
    → (x : To × Message) × In out x × (is_for q x.0 ≡ true) × (d ≡ spelled x.1)
own_in q [] d k = absurd k
own_in q (y ∷ out) d k =
    ⊎_elim
    (λ (h : (is_for q y.0 ≡ true) × (d ≡ spelled y.1)). (y, inl refl, h.0, h.1))
    (λ (h : In (own_of q (spelled_of out)) d). let r = own_in q out d h in (r.0, inr r.1, r.2, r.3))
    (own_cases q (y.0, spelled y.1) (spelled_of out) d k)

-- ---- what is read of a message

same_kind : (m x : Message) → spelled m ≡ spelled x → kind_of m ≡ kind_of x
same_kind m x e = by (version_of m) (version_of x) (kind_of m) (kind_of x)
    (sender_of m ∷ (big_bytes 4 (instance_of m) ++ fields_of m))
    (sender_of x ∷ (big_bytes 4 (instance_of x) ++ fields_of x)) e
  where
    by : (v w k l : ℕ) (xs ys : List ℕ) → v ∷ k ∷ xs ≡ w ∷ l ∷ ys → k ≡ l
    by v w k l xs ys e = cc

same_rest : (m x : Message) → spelled m ≡ spelled x → big_bytes 4 (instance_of m) ++ fields_of m ≡ big_bytes 4
    (instance_of x) ++ fields_of x
same_rest m x e = by (version_of m) (version_of x) (kind_of m) (kind_of x) (sender_of m) (sender_of x)
    (big_bytes 4 (instance_of m) ++ fields_of m) (big_bytes 4 (instance_of x) ++ fields_of x) e
  where
    by : (v w k l r s : ℕ) (xs ys : List ℕ) → v ∷ k ∷ r ∷ xs ≡ w ∷ l ∷ s ∷ ys → xs ≡ ys
    by v w k l r s xs ys e = cc

same_instance : (m x : Message) → instance_of m < 2 ^ 32 → instance_of x < 2 ^ 32 → spelled m ≡ spelled x
    → instance_of m ≡ instance_of x
same_instance m x low high e = sym (number_back (instance_of m) (fields_of m) low)
    ∙ ap (big_number 4) (same_rest m x e) ∙ number_back (instance_of x) (fields_of x) high

pub read_kind : (n : ℕ) (m x : Message) → Spells n (spelled x) m → kind_of m ≡ kind_of x
read_kind n m x spells = same_kind m x (sym spells.1)

-- what is about others is read so
pub read_aside : (n i : ℕ) (m x : Message) → IsElsewhere i x → IsLow x → Spells n (spelled x) m
    → IsElsewhere i m
read_aside n i m x aside low spells =
    let there = same_instance m x (low_of (instance_of m) spells.0.instance) low (sym spells.1) in
    subst (λ k. IsAside i k (instance_of m)) (sym (read_kind n m x spells))
    (subst (λ j. IsAside i (kind_of x) j) (sym there) aside)

-- a message in range is read as it is
pub read_back : (n : ℕ) (m x : Message) → IsMessage n x → Spells n (spelled x) m → m ≡ x
read_back n m x is spells = one_message n n (spelled x) m x spells (is, refl)

-- ---- the messages of an attempt are in range

module _ (n p i : ℕ) (b : BallotOf) (node : IsNode n p) (instance : IsInstance i) (of : b.node ≡ p)
    (round : (1 ≤ b.round) × (b.round < 2 ^ 32)) where
  pub prepare_is : IsMessage n (Prepare p i b 1)
  prepare_is = record {
    sender = node;
    instance = instance;
    ballots = (round.0, round.1, subst (IsNode n) (sym of) node);
    fits = let low = instance.0 in let high = instance.1 in (
      omega arith,
      omega arith,
      low,
      omega
          (arith, high),
    );
  }

  pub promise_is : (r : ℕ) → IsNode n r → IsMessage n (Promise r i b None)
  promise_is r there = record {
    sender = there;
    instance = instance;
    ballots = ((round.0, round.1, subst (IsNode n) (sym of) node), tt);
    fits = tt;
  }

  pub propose_is : (v : Value) → length v ≤ 32768 → IsMessage n (Propose p i b v)
  propose_is v fits = record {
    sender = node;
    instance = instance;
    ballots = (round.0, round.1, subst (IsNode n) (sym of) node);
    fits = fits;
  }

  pub accepted_is : (r : ℕ) (v : Value) → IsNode n r → length v ≤ 32768 → IsMessage n (Accepted r i b v)
  accepted_is r v there fits = record {
    sender = there;
    instance = instance;
    ballots = (round.0, round.1, subst (IsNode n) (sym of) node);
    fits = fits;
  }

-- ---- a round

module _ (n d : ℕ) (g h : Group) (round : IsRound n d g h) where
  abbrev pub out_of : (r : ℕ) → IsNode n r → List (To × Message)
  out_of r node = (round.steps r node).out

  -- all that waits for node q is such, where all that is handed out to it is read so
  pub waits_are : (P : Message → Type 0) (q : ℕ) → IsNode n q
      → ((r : ℕ) (node : IsNode n r) (x : To × Message) (m : Message) → In (out_of r node) x
      → is_for q x.0 ≡ true → Spells n (spelled x.1) m → P m)
      → AreAllowed n q P (h q).waits
  waits_are P q here each bytes m k spells =
      let from = round.alone q bytes here k in
      let step = round.steps from.0 from.1 in
      let x = own_in q step.out bytes (subst (λ l. In (own_of q l) bytes) step.letters_are from.2) in
      each from.0 from.1 x.0 m x.1 x.2 (subst (λ l. Spells n l m) x.3 spells)

  -- and all that is handed out to it waits
  pub waits_for : (q r : ℕ) → IsNode n q → (node : IsNode n r) → (x : To × Message) → In (out_of r node) x
      → is_for q x.0 ≡ true → In (h q).waits (spelled x.1)
  waits_for q r here node x k e =
      let step = round.steps r node in
      round.arrive q r (spelled x.1) here node (subst (λ l. In (own_of q l) (spelled x.1))
      (sym step.letters_are) (in_own q step.out x k e))

  abbrev step : (q : ℕ) (here : IsNode n q) → Steps n q (g q) (h q) (round.letters q)
  step q here = round.steps q here

  pub later : (q : ℕ) (here : IsNode n q) → (g q).now ≤ (h q).now
  later q here = let c = (round.clocks q here).0 in omega (arith, c)

  -- both parts of what a step hands out
  pub both_parts : (Says : To × Message → Type 0) (q : ℕ) (here : IsNode n q)
      → AreAll Says (step q here).batch.works.first → AreAll Says (step q here).batch.works.then
      → AreAll Says (step q here).out
  both_parts Says q here a b = let w = (step q here).batch.works in subst (AreAll Says) (sym w.out_is)
      (all_both Says w.first w.then a b)

  pub in_first : (q : ℕ) (here : IsNode n q) (x : To × Message) → In (step q here).batch.works.first x
      → In (step q here).out x
  in_first q here x k = let w = (step q here).batch.works in subst (λ l. In l x) (sym w.out_is)
      (in_left w.first w.then x k)

  pub in_then : (q : ℕ) (here : IsNode n q) (x : To × Message) → In (step q here).batch.works.then x
      → In (step q here).out x
  in_then q here x k = let w = (step q here).batch.works in subst (λ l. In l x) (sym w.out_is)
      (in_right w.first w.then x k)
