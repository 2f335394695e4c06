-- Promises in any order: when all nodes promised, the attempt's own value is proposed.
use Rattle.std.proofs.Common.{◌≡◌, ◌≢◌, ◌⊎◌, inl, inr, ⊎_elim, ℕ, suc, ◌≤◌, max, Option, Some, None, List, []}
use Rattle.std.proofs.Common.{◌∷◌, ◌++◌, length, refl, sym, ap, subst, ◌∙◌, arith}
use Rattle.site_ids.specs.Ids.{BallotOf, IsNode}
use Rattle.site_ids.specs.Lists.{In, Distinct}
use Rattle.site_ids.specs.Majorities.{Majority}
use Rattle.site_ids.specs.declared.value.Vote.{Vote}
use Rattle.site_ids.proofs.MapLemmas.{put_here}
use Rattle.site_ids.proofs.MemberLemmas.{in_left, in_right, in_push, distinct_push, distinct_within}
use Rattle.site_ids.proofs.MajorityLemmas.{all_are_many}
use Rattle.wire.specs.declared.message.Message.{Message}
use Rattle.wire.specs.declared.message.Message.TheVariants.{Promise, Propose}
use Rattle.wire.specs.Decoding.{Spells}
use Rattle.wire.specs.Messages.{IsMessage}
use Rattle.proposer.specs.Attempts.{Answer, Attempt, senders, ToldNone, Highest, Chooses, Counts, with_answer}
use Rattle.proposer.specs.Attempts.{waiting, proposing, TakesPromise}
use Rattle.node.specs.declared.to.To.{To}
use Rattle.node.specs.declared.to.To.TheVariants.{All}
use Rattle.node.specs.Nodes.{Value, Node, BeginsKnown}
use Rattle.node.specs.Effects.{Effect, recorded}
use Rattle.node.specs.Calls.{deliver}
use Rattle.node.specs.Deliveries.{promise_out, OnPromise}
use Rattle.node.specs.Endings.{Whole, EndsWhole}
use Rattle.node.proofs.Knowing.{beginning_stays}
use Rattle.site_drive.specs.Batches.{TakesEach}
use Rattle.rounds.proofs.Elsewhere.{IsElsewhere, IsClean, clean_on, fair_none}
use Rattle.rounds.proofs.Besides.{either}
use Rattle.rounds.proofs.Delivering.{Keeps, AreAllowed, all_taken, brought}
use Rattle.rounds.proofs.Holding.{AreAll, all_none, all_out, all_both, quiet_held}
use Rattle.rounds.proofs.Answering.{IsAnswer}
use Rattle.rounds.proofs.Acting.{IsNoVote, IsThis}

-- in a list or not
pub in_or_not : (xs : List ℕ) (x : ℕ) → In xs x ⊎ (¬ In xs x)
in_or_not [] x = inr (λ k. k)
in_or_not (y ∷ xs) x =
    ⊎_elim
    (λ (e : y ≡ x). inl (inl e))
    (λ (apart : y ≢ x). ⊎_elim (λ (k : In xs x). inl (inr k))
    (λ (not : ¬ In xs x). inr (λ h. ⊎_elim (λ e. apart e) (λ k. not k) h)) (in_or_not xs x))
    (either y x)

-- each of them has it, or there is the other thing
pub all_or : (A : ℕ → Type 0) (B : Type 0) (ps : List ℕ) → ((r : ℕ) → In ps r → A r ⊎ B)
    → ((r : ℕ) → In ps r → A r) ⊎ B
all_or A B [] each = inl (λ r k. absurd k)
all_or A B (p ∷ ps) each =
    ⊎_elim
    (λ (here : A p). ⊎_elim
    (λ (rest : (r : ℕ) → In ps r → A r). inl (λ r k. ⊎_elim (λ (e : p ≡ r). subst A e here) (λ m. rest r m)
    k))
    (λ (other : B). inr other)
    (all_or A B ps (λ r k. each r (inr k))))
    (λ (other : B). inr other)
    (each p (inl refl))

pub senders_push : (answers : List Answer) (x : Answer) → senders (answers ++ x ∷ []) ≡ senders answers ++
    x.sender ∷ []
senders_push [] x = refl
senders_push (y ∷ answers) x = ap (λ l. y.sender ∷ l) (senders_push answers x)

no_vote : (x : Vote) → ◌≡◌ {A = Option Vote} None (Some x) → ⊥
no_vote x e = cc

own_chosen : (own : Value) (answers : List Answer) (v : Value) → ToldNone answers → Chooses own answers v
    → v ≡ own
own_chosen own answers v none how =
    ⊎_elim (λ x. x.1) (λ (x : Highest answers v). absurd (no_vote (record { ballot = x.1; value = v })
    (sym (none x.0 x.2) ∙ x.3))) how

pub inside_attempt : (a c : Attempt) → Some a ≡ Some c → a ≡ c
inside_attempt a c e = cc

module _ (n p : ℕ) (values : List Value) (b : BallotOf) (v : Value) where
  abbrev i : ℕ
  i = suc (length values)

  abbrev x0 : To × Message
  x0 = (All, Propose p i b v)

  -- an attempt at this ballot for this value. Nodes answered it, and none told a vote
  pub record IsAsking (a : Attempt) : Type 0 where
    pub ballot : a.ballot ≡ b
    pub own : a.own ≡ v
    pub none : ToldNone a.answers
    pub nodes : (x : ℕ) → In (senders a.answers) x → IsNode n x
    pub distinct : Distinct (senders a.answers)

  -- too few answered, or it has proposed
  abbrev pub IsOpenOr : Attempt → List (To × Message) → Type 0
  IsOpenOr a l = ((a.proposal ≡ None) × (¬ Majority n (senders a.answers))) ⊎ In l x0

  -- what a promise of node r makes of it
  record IsTaken (a : Attempt) (r : ℕ) (l : List (To × Message)) (after : ℕ → Option Attempt)
      (o : Option Value) : Type 0 where
    pub next : Attempt
    pub at : after i ≡ Some next
    pub asking : IsAsking next
    pub grows : (x : ℕ) → In (senders a.answers) x → In (senders next.answers) x
    pub how : ((o ≡ None) × IsOpenOr next l) ⊎ (o ≡ Some v)
    pub here : In (senders next.answers) r ⊎ In l x0

  module _ (r : ℕ) (node : IsNode n r) where
    abbrev more : Attempt → List Answer
    more a = with_answer a r None

    pushed : (a : Attempt) → senders (more a) ≡ senders a.answers ++ r ∷ []
    pushed a = senders_push a.answers (record { sender = r; prior = None })

    told_none : (a : Attempt) → IsAsking a → ToldNone (more a)
    told_none a h x k = ⊎_elim (λ m. h.none x m) (λ (e : record { sender = r; prior = None } ≡ x). ap
        (λ (y : Answer). y.prior) (sym e)) (in_push a.answers (record { sender = r; prior = None }) x k)

    asked_more : (a c : Attempt) → IsAsking a → ¬ In (senders a.answers) r → c.ballot ≡ a.ballot
        → c.own ≡ a.own → c.answers ≡ more a → IsAsking c
    asked_more a c h apart ballot own answers = record {
      ballot = ballot ∙ h.ballot;
      own = own ∙ h.own;
      none = subst ToldNone (sym answers) (told_none a h);
      nodes = λ x k. ⊎_elim (λ m. h.nodes x m) (λ (e : r ≡ x). subst (IsNode n) e node)
          (in_push (senders a.answers) r x (subst (λ l. In l x) (ap senders answers ∙ pushed a) k));
      distinct = subst Distinct (sym (ap senders answers ∙ pushed a))
          (distinct_push (senders a.answers) r h.distinct apart);
    }

    grown : (a c : Attempt) → c.answers ≡ more a → (x : ℕ) → In (senders a.answers) x
        → In (senders c.answers) x
    grown a c answers x k = subst (λ l. In l x) (sym (ap senders answers ∙ pushed a))
        (in_left (senders a.answers) (r ∷ []) x k)

    there : (a c : Attempt) → c.answers ≡ more a → In (senders c.answers) r
    there a c answers = subst (λ l. In l r) (sym (ap senders answers ∙ pushed a))
        (in_right (senders a.answers) (r ∷ []) r (inl refl))

    not_counted : (a : Attempt) (l : List (To × Message)) → IsAsking a → IsOpenOr a l → ¬ Counts a r b
        → In (senders a.answers) r ⊎ In l x0
    not_counted a l h left not =
        ⊎_elim
        (λ x. ⊎_elim (λ (k : In (senders a.answers) r). inl k)
        (λ (apart : ¬ In (senders a.answers) r). absurd (not (h.ballot, x.0, apart)))
        (in_or_not (senders a.answers) r))
        (λ k. inr k)
        left

    takes : (f after : ℕ → Option Attempt) (a : Attempt) (l : List (To × Message)) (o : Option Value)
        → f i ≡ Some a → IsAsking a → IsOpenOr a l → TakesPromise n f r i b None after o
        → IsTaken a r l after o
    takes f after a l None at h left step =
        ⊎_elim
        (λ (x : ((c : Attempt) → f i ≡ Some c → ¬ Counts c r b) × (after ≡ f)). record {
          next = a;
          at = ap (λ (g : ℕ → Option Attempt). g i) x.1 ∙ at;
          asking = h;
          grows = λ y k. k;
          how = inl (refl, left);
          here = not_counted a l h left (x.0 a at);
        })
        (λ x.
        let e : x.0 ≡ a = inside_attempt x.0 a (sym x.1 ∙ at) in
        let counts : Counts a r b = subst (λ c. Counts c r b) e x.2 in
        let few : ¬ Majority n (senders (more a)) = subst (λ c. ¬ Majority n (senders (more c))) e x.3 in
        record {
          next = waiting a r None;
          at = ap (λ (g : ℕ → Option Attempt). g i) x.4 ∙ put_here f i (Some (waiting x.0 r None)) i refl
              ∙ ap (λ c. Some (waiting c r None)) e;
          asking = asked_more a (waiting a r None) h counts.2 refl refl refl;
          grows = grown a (waiting a r None) refl;
          how = inl (refl, inl (counts.1, few));
          here = inl (there a (waiting a r None) refl);
        })
        step
    takes f after a l (Some u) at h left step =
        let e : step.0 ≡ a = inside_attempt step.0 a (sym step.1 ∙ at) in
        let counts : Counts a r b = subst (λ c. Counts c r b) e step.2 in
        let chosen : Chooses a.own (more a) u = subst (λ c. Chooses c.own (more c) u) e step.4 in
        record {
          next = proposing a r None u;
          at = ap (λ (g : ℕ → Option Attempt). g i) step.5 ∙ put_here f i (Some (proposing step.0 r None u)) i
              refl ∙ ap (λ c. Some (proposing c r None u)) e;
          asking = asked_more a (proposing a r None u) h counts.2 refl refl refl;
          grows = grown a (proposing a r None u) refl;
          how = inr (ap Some (own_chosen a.own (more a) u (told_none a h) chosen ∙ h.own));
          here = inl (there a (proposing a r None u) refl);
        }

  -- ---- a batch with promises

  abbrev Clean : Node → Type 0
  Clean s = IsClean values (IsThis b) IsNoVote s

  -- such an attempt stands at the instance
  pub record Asks (s : Node) (l : List (To × Message)) : Type 0 where
    pub attempt : Attempt
    pub at : s.attempts i ≡ Some attempt
    pub asking : IsAsking attempt
    pub left : IsOpenOr attempt l

  abbrev pub Holds : Node → List (To × Message) → Type 0
  Holds s l = Clean s × Asks s l × AreAll (IsAnswer i x0) l

  abbrev pub IsPromised : Message → Type 0
  IsPromised m = IsElsewhere i m ⊎ ((r : ℕ) × IsNode n r × (m ≡ Promise r i b None))

  -- node r's promise was heard, or the value is proposed
  abbrev Heard : ℕ → Node → List (To × Message) → Type 0
  Heard r s l = ((a : Attempt) → s.attempts i ≡ Some a → In (senders a.answers) r) ⊎ In l x0

  open_more : (a : Attempt) (before out : List (To × Message)) → IsOpenOr a before
      → IsOpenOr a (before ++ out)
  open_more a before out left = ⊎_elim (λ x. inl x) (λ k. inr (in_left before out x0 k)) left

  on_aside : (s t : Node) (before out : List (To × Message)) (m : Message) → Holds s before → IsMessage n m
      → IsElsewhere i m → EndsWhole n p s (deliver m) out t → Holds t (before ++ out)
      × (t.attempts i ≡ s.attempts i)
  on_aside s t before out m h is aside ends =
      let a = h.1.attempt in
      let next = quiet_held n p values (IsThis b) IsNoVote (Some a) s t out m
      (record { clean = h.0; busy = h.1.at }) is aside ends in (
        (
          next.0.clean,
          record {
            attempt = a;
            at = next.0.busy;
            asking = h.1.asking;
            left = open_more a before
                out h.1.left;
          },
          all_out (IsAnswer i x0) before out ends.effect ends.handed_out h.2
              (λ x k. inl (next.1.out x k)),
        ),
        next.0.busy ∙ sym h.1.at,
      )

  said_by : (o : Option Value) → (o ≡ None) ⊎ (o ≡ Some v) → (x : To × Message) → In (promise_out p i b o) x
      → x0 ≡ x
  said_by o how x k =
      ⊎_elim
      (λ (e : o ≡ None). absurd (subst (λ y. In (promise_out p i b y) x) e k))
      (λ (e : o ≡ Some v). ⊎_elim (λ (f : x0 ≡ x). f) (λ none. absurd none)
      (subst (λ y. In (promise_out p i b y) x) e k))
      how

  record OnPromised (r : ℕ) (s t : Node) (before after : List (To × Message)) : Type 0 where
    pub holds : Holds t after
    pub heard : Heard r t after
    pub grows : (x : ℕ) → Heard x s before → Heard x t after

  on_promised : (r : ℕ) → IsNode n r → (s t : Node) (before out : List (To × Message)) → Holds s before
      → EndsWhole n p s (deliver (Promise r i b None)) out t → OnPromised r s t before (before ++ out)
  on_promised r node s t before out h ends =
      let how : OnPromise n p (record s { reached = max s.reached i }) r i b None ends.effect = ends.does in
      let taken = takes r node s.attempts how.attempts h.1.attempt before how.proposed h.1.at h.1.asking
      h.1.left how.step in
      let begins = subst (BeginsKnown values) ends.node (beginning_stays n p s t
      (deliver (Promise r i b None)) Whole out ends values h.0.begins) in
      let clean : Clean (recorded s ends.effect) = clean_on values (IsThis b) IsNoVote s ends.effect h.0
      (fair_none i (IsThis b) IsNoVote ends.effect.entry (ap (λ (x : Effect). x.entry) how.is)) begins
      (ap (λ (x : Effect). x.after.known i) how.is ∙ h.0.unknown) in
      let at : t.attempts i ≡ Some taken.next = ap (λ (x : Node). x.attempts i) ends.node
      ∙ ap (λ (x : Effect). x.after.attempts i) how.is ∙ taken.at in
      let out_is : out ≡ promise_out p i b how.proposed = ends.handed_out
      ∙ ap (λ (x : Effect). x.out) how.is in
      let said : (x : To × Message) → In out x → x0 ≡ x =
      λ x k. said_by how.proposed
      (⊎_elim (λ (y : (how.proposed ≡ None) × IsOpenOr taken.next before). inl y.0) (λ y. inr y)
      taken.how) x (subst (λ l. In l x) out_is k) in
      let now : how.proposed ≡ Some v → In (before ++ out) x0 =
      λ e. in_right before out x0 (subst (λ l. In l x0) (sym (out_is ∙ ap (λ y. promise_out p i b y) e))
      (inl refl)) in
      let same : (a : Attempt) → t.attempts i ≡ Some a → taken.next ≡ a = λ a is. inside_attempt taken.next a
      (sym at ∙ is) in
      record {
        holds = (
          subst Clean (sym ends.node) clean,
          record {
            attempt = taken.next;
            at = at;
            asking = taken.asking;
            left = ⊎_elim (λ (y : (how.proposed ≡ None) × IsOpenOr taken.next before). open_more taken.next
                before out y.1) (λ y. inr (now y)) taken.how;
          },
          all_both (IsAnswer i x0) before out h.2 (λ x k. inr (sym (said x k))),
        );
        heard = ⊎_elim (λ k. inl (λ a is. subst (λ (c : Attempt). In (senders c.answers) r) (same a is) k))
            (λ k. inr (in_left before out x0 k)) taken.here;
        grows = λ x old. ⊎_elim
            (λ (k : (a : Attempt) → s.attempts i ≡ Some a → In (senders a.answers) x). inl
            (λ a is. subst (λ (c : Attempt). In (senders c.answers) x) (same a is)
            (taken.grows x (k h.1.attempt h.1.at))))
            (λ k. inr (in_left before out x0 k))
            old;
      }

  holds_on : Keeps n p IsPromised Holds
  holds_on s t before out m h is allowed ends =
      ⊎_elim
      (λ (aside : IsElsewhere i m). (on_aside s t before out m h is aside ends).0)
      (λ (x : (r : ℕ) × IsNode n r × (m ≡ Promise r i b None)).
      (on_promised x.0 x.1 s t before out h (subst (λ y. EndsWhole n p s (deliver y) out t) x.2
      ends)).holds)
      allowed

  heard_on : (r : ℕ) → Keeps n p IsPromised (λ s l. Holds s l × Heard r s l)
  heard_on r s t before out m h is allowed ends = (
    holds_on s t before out m h.0 is allowed ends,
    ⊎_elim
        (λ (aside : IsElsewhere i m).
        let same = (on_aside s t before out m h.0 is aside ends).1 in
        ⊎_elim (λ (k : (a : Attempt) → s.attempts i ≡ Some a → In (senders a.answers) r). inl
        (λ a e. k a (sym same ∙ e))) (λ k. inr (in_left before out x0 k)) h.1)
        (λ (x : (q : ℕ) × IsNode n q × (m ≡ Promise q i b None)).
        (on_promised x.0 x.1 s t before out h.0 (subst (λ y. EndsWhole n p s (deliver y) out t) x.2
        ends)).grows r h.1)
        allowed,
  )

  pub promises_held : (came : List (List ℕ)) (s t : Node) (malformed : ℕ) (out : List (To × Message))
      → AreAllowed n p IsPromised came → TakesEach n p came malformed out s t → Clean s → Asks s []
      → Holds t out
  promises_held came s t malformed out allowed takes clean asks = all_taken n p IsPromised Holds holds_on came
      s t malformed [] out allowed takes (clean, asks, all_none (IsAnswer i x0))

  -- all nodes promised
  pub proposed : 1 ≤ n → (came : List (List ℕ)) (s t : Node) (malformed : ℕ) (out : List (To × Message))
      → ((r : ℕ) → IsNode n r → (d : List ℕ) × In came d × Spells n d (Promise r i b None))
      → AreAllowed n p IsPromised came
      → TakesEach n p came malformed out s t → Clean s → Asks s [] → In out x0
  proposed some came s t malformed out each allowed taken clean asks =
      let held = promises_held came s t malformed out allowed taken clean asks in
      let all = all_are_many n some in
      let heard : (r : ℕ) → In all.0 r → Heard r t out = λ r k.
      let d = each r (all.1.nodes r k) in
      brought n p IsPromised Holds (Heard r) holds_on (heard_on r) d.0 (Promise r i b None) d.2
      (λ u w before more h ends. (on_promised r (all.1.nodes r k) u w before more h ends).heard)
      came s t malformed [] out d.1 allowed taken (clean, asks, all_none (IsAnswer i x0)) in
      ⊎_elim
      (λ (left : (held.1.attempt.proposal ≡ None) × (¬ Majority n (senders held.1.attempt.answers))).
      ⊎_elim
      (λ (in_all : (r : ℕ) → In all.0 r → In (senders held.1.attempt.answers) r).
      let long = distinct_within all.0 (senders held.1.attempt.answers) all.1.distinct in_all in
      let enough = all.1.enough in
      absurd (left.1 (record {
        distinct = held.1.asking.distinct;
        nodes = held.1.asking.nodes;
        enough = omega
            (arith, enough, long);
      })))
      (λ (k : In out x0). k)
      (all_or (λ r. In (senders held.1.attempt.answers) r) (In out x0) all.0
      (λ r k. ⊎_elim (λ (f : (a : Attempt) → t.attempts i ≡ Some a → In (senders a.answers) r). inl
      (f held.1.attempt held.1.at)) (λ m. inr m) (heard r k))))
      (λ (k : In out x0). k)
      held.1.left
