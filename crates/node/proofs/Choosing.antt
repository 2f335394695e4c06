-- What a widening finds: the least free instance and those after it, and the oldest untried values.
use Rattle.std.proofs.Common.{◌≡◌, ◌≢◌, ◌⊎◌, inl, inr, ⊎_elim, ℕ, zero, suc, ◌+◌, ◌-◌, ◌<◌, ◌≤◌, true, false, Option, Some, None, List, [], ◌∷◌, ◌++◌, length, take, drop, append-nil, take-append-drop, refl, sym, ap, subst, ◌∙◌, arith}
use Rattle.std.specs.Prelude.{slice_get}
use Rattle.std.specs.Str.{bytes_eq}
use Rattle.std.specs.Option.{is_some, option_map}
use Rattle.std.proofs.lemmas.List.{take_all}
use Rattle.std.proofs.lemmas.Slice.Eq.{bytes_eq-Decides}
use Rattle.site_ids.specs.Ids.{IsInstance}
use Rattle.site_ids.specs.Spans.{IsInSpan}
use Rattle.site_ids.proofs.MemberLemmas.{in_get}
use Rattle.proposer.specs.Attempts.{Attempt}
use Rattle.node.specs.declared.queue.Waiting.{Waiting}
use Rattle.node.specs.Nodes.{Value, Node, IsUnknown, IsFirstUnknown, IsMute}
use Rattle.node.specs.Calls.{IsFree, IsNextFree, IsTried, IsUntried, AreUntried, IsNextSpan}
use Rattle.node.specs.Tidy.{IsTidy}
use Rattle.node.specs.Waiting.{AreWaiting}
use Rattle.node.specs.Widening.{IsFreeRun, IsOldestUntried, AreOldest, PushesUntried}
use Rattle.node.proofs.Gaps.{one_first}
use Rattle.node.proofs.Windows.{from_first, within_window, untried_stays}

order : (m n : ℕ) → (m < n) ⊎ (n ≤ m)
order m n = grind arith

last_or_not : (j k : ℕ) → j < k + 1 → (j ≡ k) ⊎ (j < k)
last_or_not j k below = grind (arith, below)

-- ---- an instance

-- none of some instances from the first on is free
abbrev pub NoneFree : Node → ℕ → ℕ → Type 0
NoneFree s first past = (j : ℕ) → first ≤ j → j < first + past → ¬ IsFree s j

pub one_more_not_free : (s : Node) (first past : ℕ) → NoneFree s first past → ¬ IsFree s (first + past) → NoneFree s first (past + 1)
one_more_not_free s first past none here j from below free = ⊎_elim
    (λ (e : j ≡ first + past). here (subst (IsFree s) e free))
    (λ less. none j from less free)
    (last_or_not j (first + past) (omega (arith, below)))

pub next_found : (s : Node) (first past i : ℕ) → IsFirstUnknown s.known first → ¬ IsMute s first → NoneFree s first past → past < 64 → i ≡ first + past → IsFree s i → IsNextFree s i
next_found s first past i is not_mute none near at free = record {
  first = first;
  is_first = is;
  not_mute = not_mute;
  near = omega (arith, at, near);
  free = free;
  least = λ j other. ⊎_elim (λ less. absurd (none j (from_first s.known first j is other.instance other.unknown) (omega (arith, less, at)) other)) (λ more. more) (order j i);
}

-- a node that is mute there takes none
pub mute_takes_none : (s : Node) (first : ℕ) → IsFirstUnknown s.known first → IsMute s first → (i : ℕ) → ¬ IsNextFree s i
mute_takes_none s first is mute i next = next.not_mute (subst (IsMute s) (sym (one_first s.known first next.first is next.is_first)) mute)

-- nor does a node take one that has an attempt at the window's last instance
pub full_takes_none : (s : Node) (first last : ℕ) (a : Attempt) → IsTidy s → IsFirstUnknown s.known first → last ≡ first + 63 → s.attempts last ≡ Some a → (i : ℕ) → ¬ IsNextFree s i
full_takes_none s first last a tidy is far at i next =
    let near = next.near in
    let same : next.first ≡ first = one_first s.known first next.first is next.is_first in
    let free = next.free in
    ⊎_elim
    (λ (e : i ≡ last). taken (s.attempts last) a (sym (subst (λ (n : ℕ). s.attempts n ≡ None) e free.untried)) at)
    (λ (less : i < last). let b = tidy.filled last i a at free.instance free.unknown less in taken (s.attempts i) b.0 (sym free.untried) b.1)
    (last_or_not i last (omega (arith, near, same, far)))
  where
    taken : (o : Option Attempt) (a : Attempt) → None ≡ o → o ≡ Some a → ⊥
    taken o a none some = clash (none ∙ some)
      where
        clash : ◌≡◌ {A = Option Attempt} None (Some a) → ⊥
        clash e = cc

pub attempt_there : {X : Type 0} (f : X → Value) (own : Option X) (o : Option Attempt) → option_map f own ≡ option_map (λ a. a.own) o → is_some own ≡ true → (a : Attempt) × (o ≡ Some a)
attempt_there f None o e is = absurd (cc)
attempt_there f (Some x) None e is = absurd (cc)
attempt_there f (Some x) (Some a) e is = (a, refl)

-- there is no further one
pub no_next : (s : Node) (first past : ℕ) → IsFirstUnknown s.known first → NoneFree s first past → ((j : ℕ) → IsInstance j → j < first + 64 → j < first + past) → (i : ℕ) → ¬ IsNextFree s i
no_next s first past is none short i next =
    let near = next.near in
    let same : next.first ≡ first = one_first s.known first next.first is next.is_first in
    none i (from_first s.known first i is next.free.instance next.free.unknown) (short i next.free.instance (omega (arith, near, same))) next.free

pub past_last : (first past : ℕ) → IsInstance first → ¬ IsInstance (first + past) → (j : ℕ) → IsInstance j → j < first + 64 → j < first + past
past_last first past is none j instance near = ⊎_elim (λ less. less) (λ far. absurd (none (omega (arith, is.0), omega (arith, far, instance.1)))) (order j (first + past))

pub all_seen : (first past : ℕ) → past ≤ 64 → 64 ≤ past → (j : ℕ) → IsInstance j → j < first + 64 → j < first + past
all_seen first past within done j instance near = omega (arith, within, done, near)

-- ---- a value

-- no attempt at some instances from the first on has the value as its own
abbrev NoneTries : Node → Value → ℕ → ℕ → Type 0
NoneTries s v first past = (j : ℕ) (a : Attempt) → first ≤ j → j < first + past → s.attempts j ≡ Some a → a.own ≢ v

one_more_tries_not : (s : Node) (v : Value) (first past : ℕ) → NoneTries s v first past → ((a : Attempt) → s.attempts (first + past) ≡ Some a → a.own ≢ v) → NoneTries s v first (suc past)
one_more_tries_not s v first past none here j a from below is = ⊎_elim
    (λ (e : j ≡ first + past). here a (subst (λ (n : ℕ). s.attempts n ≡ Some a) e is))
    (λ less. none j a from less is)
    (last_or_not j (first + past) (omega (arith, below)))

own_or_not : (o : Option Attempt) (v : Value) → ((a : Attempt) × (o ≡ Some a) × (a.own ≡ v)) ⊎ ((a : Attempt) → o ≡ Some a → a.own ≢ v)
own_or_not None v = inr (λ a e. absurd (cc))
own_or_not (Some a) v =
    let decides = bytes_eq-Decides a.own v in
    elim (bytes_eq a.own v) as (λ t. bytes_eq a.own v ≡ t → ((c : Attempt) × (Some a ≡ Some c) × (c.own ≡ v)) ⊎ ((c : Attempt) → Some a ≡ Some c → c.own ≢ v)) [
      | true ↦ λ is. inl (a, refl, decides.0 is)
      | false ↦ λ is. inr (λ c e own. clash (sym (decides.1 (ap (λ (x : Attempt). x.own) (same a c e) ∙ own)) ∙ is))
    ] refl
  where
    same : (a c : Attempt) → Some a ≡ Some c → a ≡ c
    same a c e = cc

    clash : true ≡ false → ⊥
    clash e = cc

tried_within : (s : Node) (v : Value) (first past : ℕ) → IsTried s v ⊎ NoneTries s v first past
tried_within s v first zero = inr (λ j a from below is. absurd (omega (arith, from, below)))
tried_within s v first (suc past) = ⊎_elim
    (λ tried. inl tried)
    (λ none. ⊎_elim
    (λ (here : (a : Attempt) × (s.attempts (first + past) ≡ Some a) × (a.own ≡ v)). inl (first + past, here.0, here.1, here.2))
    (λ not. inr (one_more_tries_not s v first past none not))
    (own_or_not (s.attempts (first + past)) v))
    (tried_within s v first past)

-- attempts are in the window, so whether one has the value as its own is decided there
pub tried_or_not : (s : Node) (first : ℕ) → IsTidy s → IsFirstUnknown s.known first → (v : Value) → IsTried s v ⊎ (¬ IsTried s v)
tried_or_not s first tidy is v = ⊎_elim
    (λ tried. inl tried)
    (λ none. inr (λ (tried : IsTried s v).
    let at = tidy.attempted tried.0 tried.1 tried.2 in
    none tried.0 tried.1 (from_first s.known first tried.0 is at.instance at.unknown) (within_window s.known first tried.0 is at) tried.2 tried.3))
    (tried_within s v first 64)

-- the own value of an attempt, or none
abbrev pub own_of : Option Attempt → Option Value
own_of o = option_map (λ a. a.own) o

-- ---- what is looked up at an instance

known_or_not : (o : Option Value) (copied : Option Value) → copied ≡ o → copied ≡ None → o ≡ None
known_or_not o copied is none = sym is ∙ none

none_own : (o : Option Attempt) → None ≡ own_of o → o ≡ None
none_own None e = λ _. None
none_own (Some a) e = absurd (cc)

some_own : (o : Option Attempt) (v : Value) → Some v ≡ own_of o → o ≡ None → ⊥
some_own None v e is = cc
some_own (Some a) v e is = cc

pub free_there : (s : Node) (i : ℕ) (copied own : Option Value) → copied ≡ s.known i → own ≡ own_of (s.attempts i) → copied ≡ None → own ≡ None → IsUnknown s i × (s.attempts i ≡ None)
free_there s i copied own known tried none untried = (known_or_not (s.known i) copied known none, none_own (s.attempts i) (sym untried ∙ tried))

pub not_unknown : (s : Node) (i : ℕ) (copied : Option Value) (v : Value) → copied ≡ s.known i → copied ≡ Some v → ¬ IsUnknown s i
not_unknown s i copied v known some none = clash v (sym (sym some ∙ known ∙ none))
  where
    clash : (v : Value) → ◌≡◌ {A = Option Value} None (Some v) → ⊥
    clash v e = cc

pub not_untried : (s : Node) (i : ℕ) (own : Option Value) (v : Value) → own ≡ own_of (s.attempts i) → own ≡ Some v → ¬ (s.attempts i ≡ None)
not_untried s i own v tried some none = some_own (s.attempts i) v (sym some ∙ tried) none

-- ---- instances one after another

-- all of a span
abbrev pub AreFree : Node → ℕ → ℕ → Type 0
AreFree s i k = (j : ℕ) → IsInSpan i k j → IsFree s j

pub free_first : (s : Node) (i : ℕ) → IsNextFree s i → AreFree s i 1
free_first s i is j within = subst (IsFree s) (same i j within) is.free
  where
    same : (i j : ℕ) → IsInSpan i 1 j → i ≡ j
    same i j within = omega (arith, within.0, within.1)

pub free_more : (s : Node) (i k : ℕ) → AreFree s i k → IsFree s (i + k) → AreFree s i (k + 1)
free_more s i k free here j within = ⊎_elim
    (λ (e : j ≡ i + k). subst (IsFree s) (sym e) here)
    (λ less. free j (within.0, less))
    (last_or_not j (i + k) (omega (arith, within.1)))

-- ---- the oldest untried values

-- what waits at a place has its value there
pub value_waits : (ws : List Waiting) (vs : List Value) (n : ℕ) (x : Waiting) → AreWaiting ws vs → slice_get ws n ≡ Some x → slice_get vs n ≡ Some x.value
value_waits [] vs n x are got = absurd (cc)
value_waits (y ∷ ws) [] n x are got = absurd are
value_waits (y ∷ ws) (v ∷ vs) zero x are got = ap Some (sym are.0.value ∙ ap (λ (w : Waiting). w.value) (first x y got))
  where
    first : (x y : Waiting) → Some y ≡ Some x → y ≡ x
    first x y e = cc
value_waits (y ∷ ws) (v ∷ vs) (suc n) x are got = value_waits ws vs n x are.1 got

pub as_many_wait : (ws : List Waiting) (vs : List Value) → AreWaiting ws vs → length ws ≡ length vs
as_many_wait [] [] are = refl
as_many_wait [] (v ∷ vs) are = absurd are
as_many_wait (w ∷ ws) [] are = absurd are
as_many_wait (w ∷ ws) (v ∷ vs) are = ap suc (as_many_wait ws vs are.1)

take_push : (vs : List Value) (n : ℕ) (v : Value) → slice_get vs n ≡ Some v → take (n + 1) vs ≡ take n vs ++ v ∷ []
take_push vs n v got = subst (λ (k : ℕ). take k vs ≡ take n vs ++ v ∷ []) (next n) (by vs n v got)
  where
    next : (n : ℕ) → suc n ≡ n + 1
    next n = omega arith

    by : (vs : List Value) (n : ℕ) (v : Value) → slice_get vs n ≡ Some v → take (suc n) vs ≡ take n vs ++ v ∷ []
    by [] n v got = absurd (cc)
    by (u ∷ vs) zero v got = let e = head u v got in ap (λ (x : Value). x ∷ []) e ∙ sym (nothing_before u v vs)
      where
        head : (u v : Value) → Some u ≡ Some v → u ≡ v
        head u v e = cc

        nothing_before : (u v : Value) (vs : List Value) → take 0 (u ∷ vs) ++ v ∷ [] ≡ v ∷ []
        nothing_before u v vs = refl
    by (u ∷ vs) (suc n) v got = ap (λ (l : List Value). u ∷ l) (by vs n v got)

pub untried_tried : (s : Node) (vs left : List Value) (v : Value) → AreUntried s vs left → IsTried s v → AreUntried s (vs ++ v ∷ []) left
untried_tried s [] left v are tried = inl (tried, are)
untried_tried s (u ∷ vs) left v are tried = ⊎_elim
    (λ (x : IsTried s u × AreUntried s vs left). inl (x.0, untried_tried s vs left v x.1 tried))
    (λ (x : (¬ IsTried s u) × ((rest : List Value) × (left ≡ u ∷ rest) × AreUntried s vs rest)). inr (x.0, (x.1.0, x.1.1, untried_tried s vs x.1.0 v x.1.2 tried)))
    are

-- of two lists, one after another
pub untried_both : (s : Node) (us vs xs ys : List Value) → AreUntried s us xs → AreUntried s vs ys → AreUntried s (us ++ vs) (xs ++ ys)
untried_both s [] vs xs ys a b = subst (λ (l : List Value). AreUntried s vs (l ++ ys)) (sym a) b
untried_both s (u ∷ us) vs xs ys a b = ⊎_elim
    (λ (x : IsTried s u × AreUntried s us xs). inl (x.0, untried_both s us vs xs ys x.1 b))
    (λ (x : (¬ IsTried s u) × ((rest : List Value) × (xs ≡ u ∷ rest) × AreUntried s us rest)).
    inr (x.0, (x.1.0 ++ ys, ap (λ (l : List Value). l ++ ys) x.1.1, untried_both s us vs x.1.0 ys x.1.2 b)))
    a

pub one_untried : (s : Node) (v : Value) → ¬ IsTried s v → AreUntried s (v ∷ []) (v ∷ [])
one_untried s v untried = inr (untried, ([], refl, refl))

-- one value more is looked at
pub untried_more : (s : Node) (n : ℕ) (v : Value) (before after : List Value) → slice_get s.pending n ≡ Some v → AreUntried s (take n s.pending) before → PushesUntried s.attempts v before after → AreUntried s (take (n + 1) s.pending) after
untried_more s n v before after got are pushes =
    subst (λ (l : List Value). AreUntried s l after) (sym (take_push s.pending n v got))
    (⊎_elim
    (λ (x : IsTried s v × (after ≡ before)). subst (λ (l : List Value). AreUntried s (take n s.pending ++ v ∷ []) l) (sym x.1) (untried_tried s (take n s.pending) before v are x.0))
    (λ (x : (¬ IsTried s v) × (after ≡ before ++ v ∷ [])). subst (λ (l : List Value). AreUntried s (take n s.pending ++ v ∷ []) l) (sym x.1) (untried_both s (take n s.pending) (v ∷ []) before (v ∷ []) are (one_untried s v x.0)))
    pushes)

-- the oldest of them is the first that is left
pub untried_first : (s : Node) (n : ℕ) (v : Value) (after : List Value) → slice_get s.pending n ≡ Some v → IsOldestUntried s n → after ≡ v ∷ [] → AreUntried s (take (n + 1) s.pending) after
untried_first s n v after got is one =
    let same : is.value ≡ v = both is.value v (sym is.there ∙ got) in
    untried_more s n v [] after got is.before (inr (subst (λ (x : Value). ¬ IsTried s x) same is.untried, one))
  where
    both : (u v : Value) → Some u ≡ Some v → u ≡ v
    both u v e = cc

pub none_taken : (s : Node) (vs : List Value) → AreUntried s (take 0 vs) []
none_taken s [] = refl
none_taken s (v ∷ vs) = refl

pub tried_more : (s : Node) (n : ℕ) (v : Value) → slice_get s.pending n ≡ Some v → AreUntried s (take n s.pending) [] → IsTried s v → AreUntried s (take (n + 1) s.pending) []
tried_more s n v got are tried = untried_more s n v [] [] got are (inl (tried, refl))

-- those that are left, of any values
rest_untried : (s : Node) → ((v : Value) → IsTried s v ⊎ (¬ IsTried s v)) → (vs : List Value) → (left : List Value) × AreUntried s vs left
rest_untried s decided [] = ([], refl)
rest_untried s decided (v ∷ vs) =
    let rest = rest_untried s decided vs in
    ⊎_elim (λ tried. (rest.0, inl (tried, rest.1))) (λ untried. (v ∷ rest.0, inr (untried, (rest.0, refl, rest.1)))) (decided v)

whole_is : (vs : List Value) (n : ℕ) → take n vs ++ drop n vs ≡ vs
whole_is vs n = take-append-drop n vs

-- so many of them
pub oldest_many : (s : Node) (first n most : ℕ) (values : List Value) → IsTidy s → IsFirstUnknown s.known first → AreUntried s (take n s.pending) values → length values ≡ most → AreOldest s most values
oldest_many s first n most values tidy is are many =
    let rest = rest_untried s (tried_or_not s first tidy is) (drop n s.pending) in
    record {
      left = rest.0;
      oldest = subst (λ (l : List Value). AreUntried s l (values ++ rest.0)) (whole_is s.pending n) (untried_both s (take n s.pending) (drop n s.pending) values rest.0 are rest.1);
      few = omega (arith, many);
      all = inr many;
    }

-- all of them
pub oldest_all : (s : Node) (n most : ℕ) (values : List Value) → length s.pending ≤ n → length values ≤ most → AreUntried s (take n s.pending) values → AreOldest s most values
oldest_all s n most values end few are = record {
  left = [];
  oldest = subst (λ (l : List Value). AreUntried s s.pending l) (sym (append-nil values)) (subst (λ (l : List Value). AreUntried s l values) (take_all n s.pending end) are);
  few = few;
  all = inl refl;
}

-- there is none
pub none_untried : (s : Node) (n : ℕ) → length s.pending ≤ n → AreUntried s (take n s.pending) [] → (v : Value) → ¬ IsUntried s v
none_untried s n end are v untried = untried_stays s s.pending [] v (subst (λ (l : List Value). AreUntried s l []) (take_all n s.pending end) are) untried.0 untried.1

pub oldest_is_untried : (s : Node) (n : ℕ) → IsOldestUntried s n → (v : Value) × IsUntried s v
oldest_is_untried s n is = (is.value, (in_get s.pending n is.value is.there, is.untried))

-- ---- the span

-- the shorter of a run of instances and the values for them
pub next_span : (s : Node) (first i k : ℕ) (values : List Value) → IsFirstUnknown s.known first → IsNextFree s i → IsFreeRun s first i k → AreOldest s k values → 1 ≤ length values → IsNextSpan s i values
next_span s first i k values is next run oldest some =
    let here : next.first ≡ first = one_first s.known first next.first is next.is_first in
    let near = run.near in
    let few = oldest.few in
    record {
      start = next;
      some = some;
      left = oldest.left;
      oldest = oldest.oldest;
      near = omega (arith, here, near, few);
      free = λ j within. run.free j (within.0, omega (arith, within.1, few));
      ends = ⊎_elim
          (λ none. inl none)
          (λ (all : length values ≡ k).
          inr (⊎_elim (λ last. inl (omega (arith, here, last, all))) (λ taken. inr (λ more. taken (subst (λ (n : ℕ). IsFree s (i + n)) all more))) run.ends))
          oldest.all;
    }
