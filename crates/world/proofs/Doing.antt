-- What each call does at a node by tables, computed, and that it does so.
use Rattle.std.proofs.Common.{◌≡◌, ◌≢◌, ◌⊎◌, inl, inr, ℕ, zero, suc, ◌+◌, ◌<◌, ◌≤◌, ◌^◌, max, true, false, not, Option, Some, None, Result, Ok, Err, List, [], ◌∷◌, ◌++◌, filter, length, length-append, append_assoc, refl, sym, ap, subst, ⊎_elim, arith, ◌∙◌}
use Rattle.std.specs.Prelude.{nat_eq}
use Rattle.site_ids.specs.declared.TheConstants.{MAX_INSTANCE}
use Rattle.site_ids.specs.Ids.{BallotOf, IsInstance}
use Rattle.site_ids.specs.Lists.{In}
use Rattle.site_ids.specs.Spans.{IsInSpan}
use Rattle.wire.specs.declared.message.Message.{Message}
use Rattle.wire.specs.declared.message.Message.TheVariants.{Prepare, Promise, Propose, Accepted, Nack, Ask, Chosen}
use Rattle.durable.specs.Entries.{Round, Learned, last_round, floor_of, learned_at}
use Rattle.proposer.specs.declared.TheConstants.{MAX_ATTEMPTS}
use Rattle.proposer.specs.Attempts.{Attempt, opened as opened_attempt, opened_span}
use Rattle.learner.specs.ToldVotes.{ToldVote, told_vote}
use Rattle.command.specs.Action.{Order}
use Rattle.command.specs.Reading.{value_reading}
use Rattle.command.specs.declared.fault.CommandFault.{CommandFault}
use Rattle.node.specs.declared.to.To.{To}
use Rattle.node.specs.declared.to.To.TheVariants.{One, All}
use Rattle.node.specs.Tellings.{tells}
use Rattle.node.specs.Nodes.{Value, IsFirstUnknown, IsMute}
use Rattle.node.specs.Effects.{Effect}
use Rattle.node.specs.Tickets.{IsHeld, has_same_ticket}
use Rattle.node.specs.Deliveries.{UnlessMute, reached_by, OnAccepted, OnAsk, OnChosen, ByKind}
use Rattle.node.specs.Calls.{Call, submit, tick, widen, ask, tell, deliver, keep, MayKeep, oldest, IsFree, IsNextFree, IsTried, AreUntried, IsNextSpan, Does}
use Rattle.node.proofs.Windows.{from_first, untried_stays}
use Rattle.world.proofs.Lists.{put_at_cases}
use Rattle.world.proofs.Told.{Told, both, numbers, no_more, ballots, values, among, are_many}
use Rattle.world.proofs.Tables.{Table, map_of, keys, is_key, NodeBy, node_by}
use Rattle.world.proofs.DoingPromises.{on_promise}
use Rattle.world.proofs.DoingVotes.{Done, no_such, inside, on_prepare, on_propose}

-- ---- the learner

pub same_told_vote : (x y : ToldVote) → x.voter ≡ y.voter → x.instance ≡ y.instance → x.ballot ≡ y.ballot → x.value ≡ y.value → x ≡ y
same_told_vote x y a b c d = λ k. record { voter = a k; instance = b k; ballot = c k; value = d k }

abbrev pub told_votes : (x y : ToldVote) → Told (x ≡ y)
told_votes x y = elim (both (both (numbers x.voter y.voter) (numbers x.instance y.instance)) (both (ballots x.ballot y.ballot) (values x.value y.value))) [
  | inl e ↦ inl (same_told_vote x y e.0.0 e.0.1 e.1.0 e.1.1)
  | inr apart ↦ inr (λ e. apart ((ap (λ (z : ToldVote). z.voter) e, ap (λ (z : ToldVote). z.instance) e), (ap (λ (z : ToldVote). z.ballot) e, ap (λ (z : ToldVote). z.value) e)))
]

-- the value is known, and what has served is dropped
abbrev pub learned_by : NodeBy → ℕ → Value → NodeBy
learned_by t i v = record t {
  votes = filter (λ x. not (nat_eq x.instance i)) t.votes;
  known = (i, Some v) ∷ t.known;
  attempts = (i, None) ∷ t.attempts;
  pending = filter (λ u. not (has_same_ticket u v)) t.pending;
}

abbrev pub on_accepted : (n : ℕ) (t : NodeBy) (q i : ℕ) (b : BallotOf) (v : Value) → Done (OnAccepted n (node_by t) q i b v)
on_accepted n t q i b v = elim (map_of t.known i) as (λ o. map_of t.known i ≡ o → Done (OnAccepted n (node_by t) q i b v)) [
  | Some u ↦ λ is. record { entry = None; after = t; out = []; does = inr ((u, is), refl) }
  | None ↦ λ is.
      let votes : List ToldVote = told_vote q i b v ∷ t.votes in
      elim (are_many (λ p. In votes (told_vote p i b v)) (λ p. among told_votes votes (told_vote p i b v)) n) [
        | inr few ↦ record { entry = None; after = record t { votes = votes }; out = []; does = inl (is, inl (few, refl)) }
        | inl many ↦ record { entry = None; after = learned_by (record t { votes = votes }) i v; out = []; does = inl (is, inr (many, refl)) }
      ]
] refl

abbrev pub on_ask : (p : ℕ) (t : NodeBy) (q i : ℕ) → Done (OnAsk p (node_by t) q i)
on_ask p t q i = elim (map_of t.known i) as (λ o. map_of t.known i ≡ o → Done (OnAsk p (node_by t) q i)) [
  | None ↦ λ is. record { entry = None; after = t; out = []; does = inr (is, refl) }
  | Some v ↦ λ is. record { entry = None; after = t; out = (One q, Chosen p i v) ∷ []; does = inl (v, is, refl) }
] refl

abbrev pub on_chosen : (t : NodeBy) (i : ℕ) (v : Value) → Option (Done (OnChosen (node_by t) i v))
on_chosen t i v = elim (map_of t.known i) as (λ o. map_of t.known i ≡ o → Option (Done (OnChosen (node_by t) i v))) [
  | None ↦ λ is. Some (record { entry = None; after = learned_by t i v; out = []; does = inl (is, refl) })
  | Some u ↦ λ is. elim (values u v) [ inl e ↦ Some (record { entry = None; after = t; out = []; does = inr (is ∙ ap (λ x. Some x) e, refl) }) | inr other ↦ None ]
] refl

-- ---- a delivery

abbrev pub unless : (t : NodeBy) (i : ℕ) {Does : Effect → Type 0} → Done Does → Done (λ effect. UnlessMute (node_by t) i (Does effect) effect)
unless t i did = elim (no_more i (floor_of t.entries)) [
  | inl mute ↦ record { entry = None; after = t; out = []; does = inl (mute, refl) }
  | inr not_mute ↦ record { entry = did.entry; after = did.after; out = did.out; does = inr (not_mute, did.does) }
]

abbrev pub by_kind : (n p : ℕ) (t : NodeBy) (m : Message) → Option (Done (ByKind n p (node_by t) m))
by_kind n p t (Prepare q i b k) = Some (unless t i (on_prepare p t i b k))
by_kind n p t (Promise q i b prior) = Some (on_promise n p t q i b prior)
by_kind n p t (Propose q i b v) = Some (unless t i (on_propose p t i b v))
by_kind n p t (Accepted q i b v) = Some (on_accepted n t q i b v)
by_kind n p t (Nack q i b c) = Some (record { entry = None; after = record t { heard = max t.heard c.round }; out = []; does = refl })
by_kind n p t (Ask q i) = Some (on_ask p t q i)
by_kind n p t (Chosen q i v) = on_chosen t i v

-- ---- a submission

pub never : false ≡ true → ⊥
never e = cc

-- none of the values shares the ticket
abbrev pub apart_from : (v : Value) (us : List Value) → Option ((u : Value) → In us u → ¬ (has_same_ticket u v ≡ true))
apart_from v [] = Some (λ u k. absurd k)
apart_from v (u ∷ us) = elim (has_same_ticket u v) as (λ b. has_same_ticket u v ≡ b → Option ((x : Value) → In (u ∷ us) x → ¬ (has_same_ticket x v ≡ true))) [
  | true ↦ λ is. None
  | false ↦ λ is. elim (apart_from v us) [ None ↦ None | Some later ↦ Some (λ x k. ⊎_elim (λ (e : u ≡ x). subst (λ y. ¬ (has_same_ticket y v ≡ true)) e (λ shares. never (sym is ∙ shares))) (λ k. later x k) k) ]
] refl

-- nor does a known one
abbrev pub unknown_to : (v : Value) (xs : Table Value) → Option ((i : ℕ) (u : Value) → map_of xs i ≡ Some u → ¬ (has_same_ticket u v ≡ true))
unknown_to v [] = Some (λ i u is. absurd (no_such u is))
unknown_to v (x ∷ xs) = elim (unknown_to v xs) [
  | None ↦ None
  | Some later ↦ elim (x.1) as (λ o. x.1 ≡ o → Option ((i : ℕ) (u : Value) → map_of (x ∷ xs) i ≡ Some u → ¬ (has_same_ticket u v ≡ true))) [
    | None ↦ λ is. Some (λ i u there. ⊎_elim (λ (e : (i ≡ x.0) × (x.1 ≡ Some u)). absurd (no_such u (sym is ∙ e.1))) (λ k. later i u k) (put_at_cases (map_of xs) x.0 x.1 i u there))
    | Some w ↦ λ is. elim (apart_from v (w ∷ [])) [
      | None ↦ None
      | Some apart ↦ Some (λ i u there. ⊎_elim (λ (e : (i ≡ x.0) × (x.1 ≡ Some u)). apart u (inl (inside w u (sym is ∙ e.1)))) (λ k. later i u k) (put_at_cases (map_of xs) x.0 x.1 i u there))
    ]
  ] refl
]

pub unheld : (t : NodeBy) (v : Value) → ((u : Value) → In t.pending u → ¬ (has_same_ticket u v ≡ true)) → ((i : ℕ) (u : Value) → map_of t.known i ≡ Some u → ¬ (has_same_ticket u v ≡ true)) → ¬ IsHeld (node_by t) v
unheld t v apart unknown held = ⊎_elim
    (λ (x : (u : Value) × In t.pending u × (has_same_ticket u v ≡ true)). apart x.0 x.1 x.2)
    (λ (x : (i : ℕ) × (u : Value) × (map_of t.known i ≡ Some u) × (has_same_ticket u v ≡ true)). unknown x.0 x.1 x.2 x.3)
    held

abbrev pub submitted : (n p : ℕ) (t : NodeBy) (v : Value) (r : Result Order CommandFault) → value_reading v ≡ r → Option (Done (Does n p (node_by t) (submit v)))
submitted n p t v (Err fault) is = None
submitted n p t v (Ok order_) is = elim (apart_from v t.pending) [
  | None ↦ None
  | Some apart ↦ elim (unknown_to v t.known) [
    | None ↦ None
    | Some unknown ↦ elim (no_more (suc (length t.pending)) 64) [
      | inr full ↦ None
      | inl few ↦ Some (record { entry = None; after = record t { pending = t.pending ++ v ∷ [] }; out = []; does = inr ((order_, is), unheld t v apart unknown, few, refl) })
    ]
  ]
]

-- ---- a tick

pub one_further : (known : ℕ → Option Value) (i : ℕ) (v : Value) → known i ≡ Some v → ((j : ℕ) → IsInstance j → j < i → (u : Value) × (known j ≡ Some u)) → (j : ℕ) → IsInstance j → j < suc i → (u : Value) × (known j ≡ Some u)
one_further known i v is before j at_ low = ⊎_elim (λ (e : j ≡ i). (v, subst (λ k. known k ≡ Some v) (sym e) is)) (λ apart. before j at_ (omega (arith, low, apart))) (numbers j i)

pub none_before : (known : ℕ → Option Value) (j : ℕ) → IsInstance j → j < 1 → (u : Value) × (known j ≡ Some u)
none_before known j at_ low = absurd (omega (arith, at_.0, low))

abbrev pub first_from : (known : ℕ → Option Value) (fuel i : ℕ) → ((j : ℕ) → IsInstance j → j < i → (u : Value) × (known j ≡ Some u)) → Option ((k : ℕ) × IsFirstUnknown known k)
first_from known zero i before = None
first_from known (suc fuel) i before = elim (known i) as (λ o. known i ≡ o → Option ((k : ℕ) × IsFirstUnknown known k)) [
  | None ↦ λ is. elim (both (no_more 1 i) (no_more i MAX_INSTANCE)) [ inl h ↦ Some (i, record { instance = h; unknown = is; before = before }) | inr past ↦ None ]
  | Some v ↦ λ is. first_from known fuel (suc i) (one_further known i v is before)
] refl

abbrev pub first_unknown : (t : NodeBy) → Option ((k : ℕ) × IsFirstUnknown (map_of t.known) k)
first_unknown t = first_from (map_of t.known) (suc (length t.known)) 1 (none_before (map_of t.known))

-- each of the keys is i, or nothing is there
abbrev pub only_at : (xs : Table Attempt) (i : ℕ) (ks : List ℕ) → Option ((j : ℕ) (a : Attempt) → In ks j → j ≢ i → map_of xs j ≡ Some a → ⊥)
only_at xs i [] = Some (λ j a k. absurd k)
only_at xs i (k ∷ ks) = elim (only_at xs i ks) [
  | None ↦ None
  | Some later ↦ elim (numbers k i) [
    | inl e ↦ Some (λ j a there apart is. ⊎_elim (λ (s : k ≡ j). apart (sym s ∙ e)) (λ h. later j a h apart is) there)
    | inr other ↦ elim (map_of xs k) as (λ o. map_of xs k ≡ o → Option ((j : ℕ) (a : Attempt) → In (k ∷ ks) j → j ≢ i → map_of xs j ≡ Some a → ⊥)) [
      | Some a ↦ λ is. None
      | None ↦ λ none. Some (λ j a there apart is. ⊎_elim (λ (s : k ≡ j). no_such a (sym none ∙ subst (λ x. map_of xs x ≡ Some a) (sym s) is)) (λ h. later j a h apart is) there)
    ] refl
  ]
]

abbrev pub fresh_of : ℕ → NodeBy → BallotOf
fresh_of p t = record { round = suc (max (last_round t.entries) t.heard); node = p }

abbrev pub ticked : (n p : ℕ) (t : NodeBy) → Option (Done (Does n p (node_by t) tick))
ticked n p t = elim (first_unknown t) [
  | None ↦ None
  | Some first ↦ elim (no_more (suc (suc (max (last_round t.entries) t.heard))) (2 ^ 32)) [
    | inr used ↦ None
    | inl round ↦ elim (only_at t.attempts first.0 (keys t.attempts)) [
      | None ↦ None
      | Some alone ↦ Some (elim (no_more first.0 (floor_of t.entries)) [
        | inl mute ↦ record { entry = None; after = t; out = (All, Ask p first.0) ∷ []; does = inr (record { asks = record { instance = first.0; first = first.1; is = refl }; mute = mute }) }
        | inr not_mute ↦ record {
          entry = Some (Round (fresh_of p t).round);
          after = record t { attempts = (first.0, Some (opened_attempt (fresh_of p t) (oldest t.pending))) ∷ t.attempts };
          out = (All, Prepare p first.0 (fresh_of p t) 1) ∷ [];
          does = inl (record {
            instance = first.0;
            elsewhere = [];
            first = first.1;
            not_mute = not_mute;
            round = round;
            open_elsewhere = record { rising = tt; each = λ x k. absurd k; whole = λ j a apart is. absurd (alone j a (is_key t.attempts j a is) apart is) };
            is = refl;
          });
        }
      ])
    ]
  ]
]

-- ---- a widening

pub past_known : (t : NodeBy) (j : ℕ) (v : Value) → map_of t.known j ≡ Some v → ((k : ℕ) → IsFree (node_by t) k → j ≤ k) → (k : ℕ) → IsFree (node_by t) k → suc j ≤ k
past_known t j v is from k free =
    let low = from k free in
    ⊎_elim (λ (e : k ≡ j). absurd (no_such v (sym free.unknown ∙ subst (λ i. map_of t.known i ≡ Some v) (sym e) is))) (λ apart. omega (arith, low, apart)) (numbers k j)

pub past_tried : (t : NodeBy) (j : ℕ) (a : Attempt) → map_of t.attempts j ≡ Some a → ((k : ℕ) → IsFree (node_by t) k → j ≤ k) → (k : ℕ) → IsFree (node_by t) k → suc j ≤ k
past_tried t j a is from k free =
    let low = from k free in
    ⊎_elim (λ (e : k ≡ j). absurd (no_such a (sym free.untried ∙ subst (λ i. map_of t.attempts i ≡ Some a) (sym e) is))) (λ apart. omega (arith, low, apart)) (numbers k j)

pub only_one : (i j : ℕ) → IsInSpan i 1 j → i ≡ j
only_one i j within = omega (arith, within.0, within.1)

pub first_near : (i first : ℕ) → i < first + MAX_ATTEMPTS → i + 1 ≤ first + MAX_ATTEMPTS
first_near i first near = omega (arith, near)

pub longer_some : (values : List Value) (v : Value) → 1 ≤ length (values ++ v ∷ [])
longer_some values v = omega (arith, length-append values (v ∷ []))

pub longer_near : (a b i : ℕ) (values : List Value) (v : Value) → a ≤ b → a ≢ b → a ≡ i + length values → i + length (values ++ v ∷ []) ≤ b
longer_near a b i values v near apart is = omega (arith, near, apart, is, length-append values (v ∷ []))

pub longer_free : (t : NodeBy) (i : ℕ) (values : List Value) (v : Value) → ((j : ℕ) → IsInSpan i (length values) j → IsFree (node_by t) j) → IsFree (node_by t) (i + length values)
    → (j : ℕ) → IsInSpan i (length (values ++ v ∷ [])) j → IsFree (node_by t) j
longer_free t i values v free further j within = ⊎_elim (λ inside. free j inside) (λ (e : j ≡ i + length values). subst (IsFree (node_by t)) (sym e) further)
    (by j (length values) (within.0, (let high = within.1 in omega (arith, length-append values (v ∷ []), high))))
  where
    by : (j k : ℕ) → (i ≤ j) × (j < i + (k + 1)) → IsInSpan i k j ⊎ (j ≡ i + k)
    by j k h = grind (arith, h.0, h.1)

abbrev pub free_from : (t : NodeBy) (first : ℕ) → IsFirstUnknown (map_of t.known) first → ¬ IsMute (node_by t) first → (fuel j : ℕ) → ((k : ℕ) → IsFree (node_by t) k → j ≤ k) → Option ((i : ℕ) × IsNextFree (node_by t) i)
free_from t first is not_mute zero j from = None
free_from t first is not_mute (suc fuel) j from = elim (map_of t.known j) as (λ o. map_of t.known j ≡ o → Option ((i : ℕ) × IsNextFree (node_by t) i)) [
  | Some v ↦ λ known. free_from t first is not_mute fuel (suc j) (past_known t j v known from)
  | None ↦ λ unknown. elim (map_of t.attempts j) as (λ o. map_of t.attempts j ≡ o → Option ((i : ℕ) × IsNextFree (node_by t) i)) [
    | Some a ↦ λ tried. free_from t first is not_mute fuel (suc j) (past_tried t j a tried from)
    | None ↦ λ untried. elim (both (both (no_more 1 j) (no_more j MAX_INSTANCE)) (no_more (suc j) (first + MAX_ATTEMPTS))) [
      | inr far ↦ None
      | inl h ↦ Some (j, record { first = first; is_first = is; not_mute = not_mute; near = h.1; free = record { instance = h.0; unknown = unknown; untried = untried }; least = from })
    ]
  ] refl
] refl

-- an attempt at one of the keys has the value as its own, or none
abbrev pub tried_at : (xs : Table Attempt) (v : Value) (ks : List ℕ)
    → ((j : ℕ) × (a : Attempt) × (map_of xs j ≡ Some a) × (a.own ≡ v)) ⊎ ((j : ℕ) (a : Attempt) → In ks j → map_of xs j ≡ Some a → a.own ≡ v → ⊥)
tried_at xs v [] = inr (λ j a k is own. absurd k)
tried_at xs v (k ∷ ks) = elim (tried_at xs v ks) [
  | inl found ↦ inl found
  | inr later ↦ elim (map_of xs k)
      as (λ o. map_of xs k ≡ o → ((j : ℕ) × (a : Attempt) × (map_of xs j ≡ Some a) × (a.own ≡ v)) ⊎ ((j : ℕ) (a : Attempt) → In (k ∷ ks) j → map_of xs j ≡ Some a → a.own ≡ v → ⊥)) [
        | None ↦ λ none. inr (λ j a there is own. ⊎_elim (λ (s : k ≡ j). no_such a (sym none ∙ subst (λ x. map_of xs x ≡ Some a) (sym s) is)) (λ h. later j a h is own) there)
        | Some a ↦ λ open_. elim (values a.own v) [
          | inl own ↦ inl (k, a, open_, own)
          | inr other ↦ inr (λ j c there is own. ⊎_elim
              (λ (s : k ≡ j). other (subst (λ (x : Attempt). x.own ≡ v) (inside c a (sym is ∙ subst (λ x. map_of xs x ≡ Some a) s open_)) own))
              (λ h. later j c h is own)
              there)
        ]
      ] refl
]

abbrev pub tried : (t : NodeBy) (v : Value) → Told (IsTried (node_by t) v)
tried t v = elim (tried_at t.attempts v (keys t.attempts)) [ inl found ↦ inl found | inr none ↦ inr (λ x. none x.0 x.1 (is_key t.attempts x.0 x.1 x.2) x.2 x.3) ]

-- the values that aren't tried
abbrev pub untried_in : (t : NodeBy) (us : List Value) → (left : List Value) × AreUntried (node_by t) us left
untried_in t [] = ([], refl)
untried_in t (u ∷ us) =
    let rest = untried_in t us in
    elim (tried t u) [
      | inl so ↦ (rest.0, inl (so, rest.1))
      | inr none ↦ (u ∷ rest.0, inr (none, (rest.0, refl, rest.1)))
    ]

abbrev pub is_free : (t : NodeBy) (j : ℕ) → Told (IsFree (node_by t) j)
is_free t j = elim (map_of t.known j) as (λ o. map_of t.known j ≡ o → Told (IsFree (node_by t) j)) [
  | Some v ↦ λ known. inr (λ free. no_such v (sym free.unknown ∙ known))
  | None ↦ λ unknown. elim (map_of t.attempts j) as (λ o. map_of t.attempts j ≡ o → Told (IsFree (node_by t) j)) [
    | Some a ↦ λ tries. inr (λ free. no_such a (sym free.untried ∙ tries))
    | None ↦ λ untried. elim (both (no_more 1 j) (no_more j MAX_INSTANCE)) [
      | inl h ↦ inl (record { instance = h; unknown = unknown; untried = untried })
      | inr past ↦ inr (λ free. past free.instance)
    ]
  ] refl
] refl

abbrev pub NextSpan : NodeBy → ℕ → Type 0
NextSpan t i = (values : List Value) × IsNextSpan (node_by t) i values

-- as many instances as are free, for these values and as many of those left
abbrev pub grow : (t : NodeBy) (i : ℕ) (start : IsNextFree (node_by t) i) (values left : List Value) → 1 ≤ length values → AreUntried (node_by t) t.pending (values ++ left)
    → i + length values ≤ start.first + MAX_ATTEMPTS → ((j : ℕ) → IsInSpan i (length values) j → IsFree (node_by t) j) → NextSpan t i
grow t i start values [] some oldest_ near free = (values, record { start = start; some = some; left = []; oldest = oldest_; near = near; free = free; ends = inl refl })
grow t i start values (v ∷ left) some oldest_ near free = elim (numbers (i + length values) (start.first + MAX_ATTEMPTS)) [
  | inl full ↦ (values, record { start = start; some = some; left = v ∷ left; oldest = oldest_; near = near; free = free; ends = inr (inl full) })
  | inr room ↦ elim (is_free t (i + length values)) [
    | inr closed ↦ (values, record { start = start; some = some; left = v ∷ left; oldest = oldest_; near = near; free = free; ends = inr (inr closed) })
    | inl further ↦ grow t i start (values ++ v ∷ []) left (longer_some values v) (subst (λ (l : List Value). AreUntried (node_by t) t.pending l) (sym (append_assoc values (v ∷ []) left)) oldest_)
        (longer_near (i + length values) (start.first + MAX_ATTEMPTS) i values v near room refl) (longer_free t i values v free further)
  ]
]

abbrev pub opened_table : Table Attempt → ℕ → BallotOf → List Value → Table Attempt
opened_table xs i b [] = xs
opened_table xs i b (v ∷ vs) = opened_table ((i, Some (opened_attempt b v)) ∷ xs) (suc i) b vs

pub opened_by_table : (xs : Table Attempt) (i : ℕ) (b : BallotOf) (vs : List Value) → map_of (opened_table xs i b vs) ≡ opened_span (map_of xs) i b vs
opened_by_table xs i b [] = refl
opened_by_table xs i b (v ∷ vs) = opened_by_table ((i, Some (opened_attempt b v)) ∷ xs) (suc i) b vs

abbrev pub begun : (n p : ℕ) (t : NodeBy) (i : ℕ) → NextSpan t i → suc (suc (max (last_round t.entries) t.heard)) ≤ 2 ^ 32 → Done (Does n p (node_by t) widen)
begun n p t i next round = record {
  entry = Some (Round (fresh_of p t).round);
  after = record t { attempts = opened_table t.attempts i (fresh_of p t) next.0 };
  out = (All, Prepare p i (fresh_of p t) (length next.0)) ∷ [];
  does = inl (record {
    instance = i;
    values = next.0;
    span = next.1;
    round = round;
    is = λ m. record {
      entry = Some (Round (fresh_of p t).round);
      after = record (node_by t) { attempts = opened_by_table t.attempts i (fresh_of p t) next.0 m };
      out = (All, Prepare p i (fresh_of p t) (length next.0)) ∷ [];
    };
  });
}

abbrev pub widened : (n p : ℕ) (t : NodeBy) → Option (Done (Does n p (node_by t) widen))
widened n p t = let u = untried_in t t.pending in elim (u.0) as (λ l. AreUntried (node_by t) t.pending l → Option (Done (Does n p (node_by t) widen))) [
  | [] ↦ λ none. Some (record { entry = None; after = t; out = []; does = inr ((λ may. untried_stays (node_by t) t.pending [] may.1.0 none may.1.1.0 may.1.1.1), refl) })
  | v ∷ left ↦ λ are. elim (first_unknown t) [
    | None ↦ None
    | Some first ↦ elim (no_more first.0 (floor_of t.entries)) [
      | inl mute ↦ None
      | inr not_mute ↦ elim (free_from t first.0 first.1 not_mute MAX_ATTEMPTS first.0 (λ k free. from_first (map_of t.known) first.0 k first.1 free.instance free.unknown)) [
        | None ↦ None
        | Some free ↦ elim (no_more (suc (suc (max (last_round t.entries) t.heard))) (2 ^ 32)) [
          | inr used ↦ None
          | inl round ↦ Some (begun n p t free.0 (grow t free.0 free.1 (v ∷ []) left (omega arith) are (first_near free.0 free.1.first free.1.near) (λ j within. subst (IsFree (node_by t)) (only_one free.0 j within) free.1.free)) round)
        ]
      ]
    ]
  ]
] u.1

-- ---- a question

abbrev pub asked : (n p : ℕ) (t : NodeBy) → Option (Done (Does n p (node_by t) ask))
asked n p t = elim (first_unknown t) [
  | None ↦ None
  | Some first ↦ Some (record { entry = None; after = t; out = (All, Ask p first.0) ∷ []; does = record { instance = first.0; first = first.1; is = refl } })
]

-- ---- a telling

abbrev pub told : (n p : ℕ) (t : NodeBy) (to : To) (i : ℕ) → Done (Does n p (node_by t) (tell to i))
told n p t to i = record { entry = None; after = t; out = (tells p (node_by t) to i).out; does = refl }

-- ---- keeping

-- a value that is not kept at the instance, or there is none
abbrev pub unkept : (t : NodeBy) (i : ℕ) → MayKeep (node_by t) i ⊎ (¬ MayKeep (node_by t) i)
unkept t i = elim (learned_at i t.entries) as (λ o. learned_at i t.entries ≡ o → MayKeep (node_by t) i ⊎ (¬ MayKeep (node_by t) i)) [
  | Some u ↦ λ learned. inr (λ x. no_such u (sym x.1.unlearned ∙ learned))
  | None ↦ λ none. elim (map_of t.known i) as (λ o. map_of t.known i ≡ o → MayKeep (node_by t) i ⊎ (¬ MayKeep (node_by t) i)) [
    | None ↦ λ unknown. inr (λ x. no_such x.0 (sym unknown ∙ x.1.known))
    | Some v ↦ λ known. inl (v, record { known = known; unlearned = none })
  ] refl
] refl

abbrev pub kept : (n p : ℕ) (t : NodeBy) (i : ℕ) → Option (Done (Does n p (node_by t) (keep i)))
kept n p t i = elim (unkept t i) [
  | inr none ↦ Some (record { entry = None; after = t; out = []; does = inr (none, refl) })
  | inl x ↦ Some (record { entry = Some (Learned i x.0); after = t; out = []; does = inl (record { value = x.0; unkept = x.1; is = refl }) })
]

-- ---- all calls

-- what the call does, if it is one that is computed here: a ticket that is held, or what has a cause of refusal, isn't
abbrev pub done : (n p : ℕ) (t : NodeBy) (call : Call) → Option (Done (Does n p (node_by t) call))
done n p t (submit v) = submitted n p t v (value_reading v) refl
done n p t tick = ticked n p t
done n p t widen = widened n p t
done n p t ask = asked n p t
done n p t (tell to i) = Some (told n p t to i)
done n p t (keep i) = kept n p t i
done n p t (deliver m) = by_kind n p (record t { reached = reached_by t.reached m }) m
