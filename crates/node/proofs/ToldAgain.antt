-- What a telling consists of, and how it is put together.
use Rattle.std.proofs.Common.{◌≡◌, ◌⊎◌, inl, inr, ⊎_elim, ℕ, zero, suc, ◌+◌, ◌-◌, ◌<◌, ◌≤◌, Bool, true, false, cond, Option, Some, None, List, [], ◌∷◌, ◌++◌, length, map, append-nil, refl, sym, ap, subst, ◌∙◌, arith}
use Rattle.std.specs.Prelude.{nat_eq, nat_le, if◌then◌else◌}
use Rattle.std.proofs.lemmas.Bool.Decides.{nat_tests}
use Rattle.site_ids.specs.Ids.{IsInstance}
use Rattle.site_ids.specs.Lists.{In}
use Rattle.site_ids.specs.Spans.{IsInSpan}
use Rattle.site_ids.specs.declared.value.Vote.{Vote}
use Rattle.wire.specs.declared.message.Message.{Message}
use Rattle.wire.specs.declared.message.Message.TheVariants.{Accepted, Chosen}
use Rattle.durable.specs.Entries.{Voted, Learned, last_vote, learned_at}
use Rattle.durable.specs.Histories.{IsHistory}
use Rattle.node.specs.declared.to.To.{To}
use Rattle.node.specs.Nodes.{Value, Node}
use Rattle.node.specs.Ranges.{HasRanges}
use Rattle.node.specs.Tellings.{or_else, remembered, IsTellable, message_of, telling, with_first, tellings, value_in, fitting, told_from, value_size, told_size, covered, covered_from, addressed, TellsOn}
use Rattle.node.proofs.OnRecord.{last_vote-in, learned_at-in, entry_in_range}

-- ---- what is reported

-- what is remembered is known or was learned
either_from : (known other : Option Value) (v : Value) → or_else known other ≡ Some v → (known ≡ Some v) ⊎ (other ≡ Some v)
either_from (Some u) other v e = inl e
either_from None other v e = inr e

pub remembered_from : (s : Node) (i : ℕ) (v : Value) → remembered s i ≡ Some v → (s.known i ≡ Some v) ⊎ In s.entries (Learned i v)
remembered_from s i v e = ⊎_elim (λ x. inl x) (λ x. inr (learned_at-in i s.entries v x)) (either_from (s.known i) (learned_at i s.entries) v e)

-- a known value or the last vote, of an instance
pub record IsToldOf (p : ℕ) (s : Node) (m : Message) (i : ℕ) : Type 0 where
  pub is : ((v : Value) × (remembered s i ≡ Some v) × (m ≡ Chosen p i v)) ⊎ ((w : Vote) × In s.entries (Voted i w.ballot w.value) × (last_vote i s.entries ≡ Some w) × (remembered s i ≡ None) × (m ≡ Accepted p i w.ballot w.value))

told_of : (p : ℕ) (s : Node) (i : ℕ) (m : Message) (known : Option Value) (vote : Option Vote) → remembered s i ≡ known → last_vote i s.entries ≡ vote → message_of p i known vote ≡ Some m → IsToldOf p s m i
told_of p s i m (Some v) vote k l e = record { is = inl (v, k, cc) }
told_of p s i m None (Some w) k l e = record { is = inr (w, last_vote-in i s.entries w l, l, k, cc) }
told_of p s i m None None k l e = absurd (cc)

in_first : (o : Option Message) (ms : List Message) (m : Message) → In (with_first o ms) m → (o ≡ Some m) ⊎ In ms m
in_first None ms m k = inr k
in_first (Some x) ms m k = ⊎_elim (λ e. inl (ap (λ y. Some y) e)) (λ later. inr later) k

pub in_tellings : (p : ℕ) (s : Node) (k i : ℕ) (m : Message) → In (tellings p s k i) m → (j : ℕ) × IsInSpan i k j × IsToldOf p s m j
in_tellings p s zero i m here = absurd here
in_tellings p s (suc k) i m here =
    ⊎_elim
    (λ (e : telling p s i ≡ Some m). (i, (omega arith, omega arith), told_of p s i m (remembered s i) (last_vote i s.entries) refl refl e))
    (λ (later : In (tellings p s k (suc i)) m). let rest = in_tellings p s k (suc i) m later in (rest.0, (omega (arith, rest.1.0), omega (arith, rest.1.1)), rest.2))
    (in_first (telling p s i) (tellings p s k (suc i)) m here)

pub in_fitting : (ms : List Message) (room : ℕ) (m : Message) → In (fitting room ms) m → In ms m
in_fitting [] room m here = absurd here
in_fitting (x ∷ ms) room m here = by (nat_le (length (value_in x)) room) (λ later. in_fitting ms (room - length (value_in x)) m later) here
  where
    by : (b : Bool) → (In (fitting (room - length (value_in x)) ms) m → In ms m) → In (cond b (x ∷ fitting (room - length (value_in x)) ms) []) m → In (x ∷ ms) m
    by true rest k = ⊎_elim (λ e. inl e) (λ later. inr (rest later)) k
    by false rest k = absurd k

in_addressed : (to : To) (ms : List Message) (x : To × Message) → In (map (addressed to) ms) x → In ms x.1
in_addressed to [] x k = absurd k
in_addressed to (m ∷ ms) x k = ⊎_elim (λ (e : (to, m) ≡ x). inl (ap (λ (y : To × Message). y.1) e)) (λ later. inr (in_addressed to ms x later)) k

-- each message of a telling
pub each_told : (p : ℕ) (s : Node) (to : To) (i : ℕ) (x : To × Message) → In (map (addressed to) (told_from p s i)) x → (j : ℕ) × IsInSpan i 64 j × IsToldOf p s x.1 j
each_told p s to i x k = in_tellings p s 64 i x.1 (in_fitting (tellings p s 64 i) 65536 x.1 (in_addressed to (told_from p s i) x k))

-- ---- how many

few_first : (o : Option Message) (ms : List Message) → length (with_first o ms) ≤ suc (length ms)
few_first None ms = omega arith
few_first (Some m) ms = omega arith

few_tellings : (p : ℕ) (s : Node) (k i : ℕ) → length (tellings p s k i) ≤ k
few_tellings p s zero i = omega arith
few_tellings p s (suc k) i = let first = few_first (telling p s i) (tellings p s k (suc i)) in let rest = few_tellings p s k (suc i) in omega (arith, first, rest)

few_fitting : (ms : List Message) (room : ℕ) → length (fitting room ms) ≤ length ms
few_fitting [] room = omega arith
few_fitting (x ∷ ms) room = by (nat_le (length (value_in x)) room) (few_fitting ms (room - length (value_in x)))
  where
    by : (b : Bool) → length (fitting (room - length (value_in x)) ms) ≤ length ms → length (cond b (x ∷ fitting (room - length (value_in x)) ms) []) ≤ suc (length ms)
    by true rest = omega (arith, rest)
    by false rest = omega arith

as_many : (to : To) (ms : List Message) → length (map (addressed to) ms) ≡ length ms
as_many to [] = refl
as_many to (m ∷ ms) = ap suc (as_many to ms)

pub few_told : (p : ℕ) (s : Node) (to : To) (i : ℕ) → length (map (addressed to) (told_from p s i)) ≤ 64
few_told p s to i =
    let same = as_many to (told_from p s i) in
    let fit = few_fitting (tellings p s 64 i) 65536 in
    let few = few_tellings p s 64 i in
    omega (arith, same, fit, few)

-- whether there is one, by the length that is kept
pub none_told : (told : List (To × Message)) (len : ℕ) → length told ≡ len → nat_eq len 0 ≡ true → told ≡ []
none_told [] len is none = refl
none_told (x ∷ told) len is none = absurd (clash len (length told) is none)
  where
    clash : (len k : ℕ) → suc k ≡ len → nat_eq len 0 ≡ true → ⊥
    clash len k is none = grind (arith, nat_tests, is, none)

pub one_told : (told : List (To × Message)) (len : ℕ) → length told ≡ len → nat_eq len 0 ≡ false → 1 ≤ length told
one_told [] len is some = absurd (clash len is some)
  where
    clash : (len : ℕ) → 0 ≡ len → nat_eq len 0 ≡ false → ⊥
    clash len is some = grind (arith, nat_tests, is, some)
one_told (x ∷ told) len is some = omega arith

-- ---- how it is put together

-- nothing is reported of this instance
skipped : (p : ℕ) (s : Node) (k i : ℕ) → telling p s i ≡ None → tellings p s (suc k) i ≡ tellings p s k (suc i)
skipped p s k i none = ap (λ o. with_first o (tellings p s k (suc i))) none

module _ (p : ℕ) (s : Node) (to : To) (first : ℕ) where
  abbrev left_of : ℕ → ℕ → ℕ → List (To × Message)
  left_of room k i = map (addressed to) (fitting room (tellings p s k i))

  pub begun_telling : (none : List (To × Message)) → none ≡ [] → map (addressed to) (told_from p s first) ≡ none ++ left_of 65536 64 (first + 0)
  begun_telling none is =
      let here : first ≡ first + 0 = omega arith in
      ap (λ i. left_of 65536 64 i) here ∙ ap (λ (l : List (To × Message)). l ++ left_of 65536 64 (first + 0)) (sym is)

  module _ (whole before after : List (To × Message)) (room past k : ℕ) (so_far : whole ≡ before ++ left_of room k (first + past)) where
    -- one instance more
    pub more_telling : (left j : ℕ) → k ≡ suc j → TellsOn p s to (first + past) room before after (Some left) → whole ≡ after ++ left_of left j (first + (past + 1))
    more_telling left j is on =
        let next : suc (first + past) ≡ first + (past + 1) = omega arith in
        so_far ∙ ap (λ n. before ++ left_of room n (first + past)) is ∙ on (tellings p s j (suc (first + past))) ∙ ap (λ i. after ++ left_of left j i) next

    -- there was no room for it
    pub full_telling : (j : ℕ) → k ≡ suc j → TellsOn p s to (first + past) room before after None → after ≡ whole
    full_telling j is on = sym (so_far ∙ ap (λ n. before ++ left_of room n (first + past)) is ∙ on (tellings p s j (suc (first + past))))

    -- all of them were looked at
    pub whole_telling : k ≡ 0 → before ≡ whole
    whole_telling is = sym (so_far ∙ ap (λ n. before ++ left_of room n (first + past)) is ∙ append-nil before)

-- past the last instance nothing is reported
none_past : (n p : ℕ) (s : Node) (i : ℕ) → HasRanges n s → IsHistory n s.entries → ¬ IsInstance i → telling p s i ≡ None
none_past n p s i h history outside = by (remembered s i) (last_vote i s.entries) refl refl
  where
    by : (known : Option Value) (vote : Option Vote) → remembered s i ≡ known → last_vote i s.entries ≡ vote → message_of p i known vote ≡ None
    by (Some v) vote k l = absurd (outside (⊎_elim (λ x. (h.known i v x).0) (λ x. (entry_in_range n s.entries (Learned i v) history x).0) (remembered_from s i v k)))
    by None (Some w) k l = absurd (outside (entry_in_range n s.entries (Voted i w.ballot w.value) history (last_vote-in i s.entries w l)).0)
    by None None k l = refl

pub all_told : (n p : ℕ) (s : Node) (k i : ℕ) → HasRanges n s → IsHistory n s.entries → 1000000 < i → tellings p s k i ≡ []
all_told n p s zero i h history past = refl
all_told n p s (suc k) i h history past =
    skipped p s k i (none_past n p s i h history (λ instance. let high = instance.1 in absurd (omega (arith, past, high)))) ∙ all_told n p s k (suc i) h history (omega (arith, past))

-- ---- when an allocation may fail

pub tellable : (p : ℕ) (s : Node) (m : Message) (i : ℕ) → IsToldOf p s m i → IsTellable s i
tellable p s m i told =
    ⊎_elim
    (λ (x : (v : Value) × (remembered s i ≡ Some v) × (m ≡ Chosen p i v)). inl (λ none. lost x.0 (sym none ∙ x.1)))
    (λ (x : (w : Vote) × In s.entries (Voted i w.ballot w.value) × (last_vote i s.entries ≡ Some w) × (remembered s i ≡ None) × (m ≡ Accepted p i w.ballot w.value)). inr (λ none. clash x.0 (sym none ∙ x.2)))
    told.is
  where
    clash : (w : Vote) → ◌≡◌ {A = Option Vote} None (Some w) → ⊥
    clash w e = cc

    lost : (v : Value) → ◌≡◌ {A = Option Value} None (Some v) → ⊥
    lost v e = cc

pub tellable_one : (p : ℕ) (s : Node) (i : ℕ) (m : Message) → Some m ≡ telling p s i → IsTellable s i
tellable_one p s i m is = tellable p s m i (told_of p s i m (remembered s i) (last_vote i s.entries) refl refl (sym is))

-- a telling of something is of an instance
pub some_told : (p : ℕ) (s : Node) (to : To) (i : ℕ) (told : List (To × Message)) → told ≡ map (addressed to) (told_from p s i) → 1 ≤ length told → (j : ℕ) × IsInSpan i 64 j × IsTellable s j
some_told p s to i [] is some = absurd (omega (arith, some))
some_told p s to i (x ∷ told) is some = let at = each_told p s to i x (subst (λ (l : List (To × Message)). In l x) is (inl refl)) in (at.0, at.1, tellable p s x.1 at.0 at.2)

-- none are left if there is no further instance
pub last_telling : (n p : ℕ) (s : Node) (to : To) (first past k room : ℕ) (whole before : List (To × Message)) → HasRanges n s → IsHistory n s.entries → 1 ≤ first → ¬ IsInstance (first + past)
    → whole ≡ before ++ map (addressed to) (fitting room (tellings p s k (first + past))) → before ≡ whole
last_telling n p s to first past k room whole before h history low outside so_far =
    let none = all_told n p s k (first + past) h history (over (first + past) (omega (arith, low)) outside) in
    sym (so_far ∙ ap (λ l. before ++ map (addressed to) (fitting room l)) none ∙ append-nil before)
  where
    over : (i : ℕ) → 1 ≤ i → ¬ IsInstance i → 1000000 < i
    over i low outside = grind (arith, low, outside)

-- ---- how many instances it covers

at_most : (a b : ℕ) → a ≤ b → nat_le a b ≡ true
at_most a b less = grind (arith, nat_tests, less)

more_than : (a b : ℕ) → ¬ (a ≤ b) → nat_le a b ≡ false
more_than a b more = grind (arith, nat_tests, more)

pub begun_covered : (s : Node) (first : ℕ) → covered_from s first ≡ 0 + covered 65536 s 64 (first + 0)
begun_covered s first =
    let here : first ≡ first + 0 = omega arith in
    let there = ap (λ i. covered 65536 s 64 i) here in
    omega (arith, there)

module _ (s : Node) (first whole room past j k size : ℕ) (is : k ≡ suc j) (so_far : whole ≡ past + covered room s k (first + past)) (here : size ≡ told_size s (first + past)) where
  abbrev by : Bool → ℕ → ℕ
  by b n = if b then suc (covered (room - n) s j (suc (first + past))) else 0

  abbrev there : Bool → Type 0
  there b = whole ≡ past + by b size

  looked_at : (b : Bool) → nat_le size room ≡ b → there b
  looked_at b at = so_far ∙ ap (λ n. past + covered room s n (first + past)) is ∙ ap (λ n. past + by (nat_le n room) n) (sym here) ∙ ap (λ b. past + by b size) at

  -- one instance more
  pub more_covered : size ≤ room → whole ≡ past + 1 + covered (room - size) s j (first + (past + 1))
  more_covered less =
      let next : suc (first + past) ≡ first + (past + 1) = omega arith in
      let left = covered (room - size) s j (suc (first + past)) in
      let turned : past + suc left ≡ past + 1 + left = omega arith in
      looked_at true (at_most size room less) ∙ turned ∙ ap (λ i. past + 1 + covered (room - size) s j i) next

  -- no room for the next
  pub all_covered : ¬ (size ≤ room) → past ≡ whole
  all_covered more = let none = looked_at false (more_than size room more) in omega (arith, none)

-- past the last instance no value is told
pub no_size : (n : ℕ) (s : Node) (i : ℕ) → HasRanges n s → IsHistory n s.entries → ¬ IsInstance i → 0 ≡ told_size s i
no_size n s i h history outside = by (remembered s i) (last_vote i s.entries) refl refl
  where
    by : (known : Option Value) (vote : Option Vote) → remembered s i ≡ known → last_vote i s.entries ≡ vote → 0 ≡ value_size known vote
    by (Some v) vote k l = absurd (outside (⊎_elim (λ x. (h.known i v x).0) (λ x. (entry_in_range n s.entries (Learned i v) history x).0) (remembered_from s i v k)))
    by None (Some w) k l = absurd (outside (entry_in_range n s.entries (Voted i w.ballot w.value) history (last_vote-in i s.entries w l)).0)
    by None None k l = refl
