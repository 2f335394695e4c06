-- A batch in which nobody ticks: what holds of its node over deliveries about others, and over its calls.
use Rattle.std.proofs.Common.{◌≡◌, ⊎_elim, ℕ, suc, ◌≤◌, Option, Some, None, List, [], ◌++◌, length, refl, sym}
use Rattle.std.proofs.Common.{ap, subst, ◌∙◌}
use Rattle.std.specs.Prelude.{⊤}
use Rattle.site_ids.specs.Ids.{BallotOf}
use Rattle.site_ids.specs.Lists.{In}
use Rattle.site_ids.specs.declared.value.Vote.{Vote}
use Rattle.site_ids.proofs.MemberLemmas.{in_split}
use Rattle.wire.specs.declared.message.Message.{Message}
use Rattle.wire.specs.Messages.{IsMessage}
use Rattle.proposer.specs.Attempts.{Attempt}
use Rattle.node.specs.declared.to.To.{To}
use Rattle.node.specs.Nodes.{Value, Node, BeginsKnown}
use Rattle.node.specs.Effects.{Effect, recorded}
use Rattle.node.specs.Calls.{Call, submit, tick, widen, ask, tell, deliver, keep, Does}
use Rattle.node.specs.Endings.{Whole, EndsWhole}
use Rattle.node.proofs.Knowing.{beginning_stays}
use Rattle.site_drive.specs.declared.last_call.LastCall.{LastCall}
use Rattle.site_drive.specs.declared.last_call.LastCall.TheVariants.{TickOrAsk, Widen, Ask, Tell, Keep}
use Rattle.site_drive.specs.declared.last_call.LastCall.TheVariants.{Nothing}
use Rattle.site_drive.specs.Drives.{EndsTurns}
use Rattle.rounds.proofs.Elsewhere.{IsElsewhere, IsClean, clean_on}
use Rattle.rounds.proofs.Passing.{IsQuietAt, aside_on}
use Rattle.rounds.proofs.Besides.{IsBusy, IsAsideOr, IsBeside, on_widen, on_ask, on_tell, on_keep}
use Rattle.rounds.proofs.Calling.{IsOf, all_called}

-- all that is handed out is such
abbrev pub AreAll : (To × Message → Type 0) → List (To × Message) → Type 0
AreAll Says out = (x : To × Message) → In out x → Says x

-- node q says what is about others, or its vote at the instance
abbrev pub IsSaid : ℕ → ℕ → (Vote → Type 0) → To × Message → Type 0
IsSaid q i Mine x = IsAsideOr q i Mine x.1

pub all_none : (Says : To × Message → Type 0) → AreAll Says []
all_none Says x k = absurd k

pub all_both : (Says : To × Message → Type 0) (xs ys : List (To × Message)) → AreAll Says xs → AreAll Says ys
    → AreAll Says (xs ++ ys)
all_both Says xs ys a b x k = ⊎_elim (λ here. a x here) (λ here. b x here) (in_split xs ys x k)

-- all that are handed out
pub all_out : (Says : To × Message → Type 0) (before out : List (To × Message)) (effect : Effect)
    → out ≡ effect.out → AreAll Says before → AreAll Says effect.out → AreAll Says (before ++ out)
all_out Says before out effect is a b = all_both Says before out a (subst (AreAll Says) (sym is) b)

-- the call is no tick, submission or delivery; if it is a telling, it begins with an instance
abbrev pub MayBeside : Call → Type 0
MayBeside (submit v) = ⊥
MayBeside tick = ⊥
MayBeside widen = ⊤
MayBeside ask = ⊤
MayBeside (tell to first) = first ≤ 1000000
MayBeside (deliver m) = ⊥
MayBeside (keep j) = ⊤

-- what a telling of this last call begins with is an instance
abbrev pub IsTellLow : LastCall → Type 0
IsTellLow (Tell r first) = first ≤ 1000000
IsTellLow last = ⊤

abbrev pub IsNoTick : LastCall → Type 0
IsNoTick TickOrAsk = ⊥
IsNoTick last = ⊤

pub may_beside : (last : LastCall) (call : Call) → IsNoTick last → IsTellLow last → IsOf last call
    → MayBeside call
may_beside TickOrAsk call idle low is = absurd idle
may_beside Widen (submit v) idle low is = is
may_beside Widen tick idle low is = is
may_beside Widen widen idle low is = tt
may_beside Widen ask idle low is = tt
may_beside Widen (tell to first) idle low is = absurd is
may_beside Widen (deliver m) idle low is = is
may_beside Widen (keep j) idle low is = tt
may_beside Ask (submit v) idle low is = is
may_beside Ask tick idle low is = is
may_beside Ask widen idle low is = tt
may_beside Ask ask idle low is = tt
may_beside Ask (tell to first) idle low is = absurd is
may_beside Ask (deliver m) idle low is = is
may_beside Ask (keep j) idle low is = tt
may_beside (Tell r f) (submit v) idle low is = is
may_beside (Tell r f) tick idle low is = is
may_beside (Tell r f) widen idle low is = tt
may_beside (Tell r f) ask idle low is = tt
may_beside (Tell r f) (tell to first) idle low is = subst (λ k. k ≤ 1000000) (sym is) low
may_beside (Tell r f) (deliver m) idle low is = is
may_beside (Tell r f) (keep j) idle low is = tt
may_beside (Keep j k) (submit v) idle low is = is
may_beside (Keep j k) tick idle low is = is
may_beside (Keep j k) widen idle low is = tt
may_beside (Keep j k) ask idle low is = tt
may_beside (Keep j k) (tell to first) idle low is = absurd is
may_beside (Keep j k) (deliver m) idle low is = is
may_beside (Keep j k) (keep h) idle low is = tt
may_beside Nothing call idle low is = absurd is

module _ (n q : ℕ) (values : List Value) (Only : BallotOf → Type 0) (Mine : Vote → Type 0) where
  abbrev i : ℕ
  i = suc (length values)

  -- a clean node, at which an attempt stands or no value is pending
  pub record IsHeld (o : Option Attempt) (s : Node) : Type 0 where
    pub clean : IsClean values Only Mine s
    pub busy : IsBusy i o s

  busy_on : (o : Option Attempt) (s t : Node) → t.attempts i ≡ s.attempts i
      → (s.pending ≡ [] → t.pending ≡ []) → IsBusy i o s → IsBusy i o t
  busy_on (Some a) s t attempts none busy = attempts ∙ busy
  busy_on None s t attempts none busy = none busy

  pub held_on : (o : Option Attempt) (s : Node) (effect : Effect) (t : Node) → t ≡ recorded s effect
      → IsClean values Only Mine (recorded s effect) → effect.after.attempts i ≡ s.attempts i
      → (s.pending ≡ [] → effect.after.pending ≡ []) → IsBusy i o s → IsHeld o t
  held_on o s effect t is clean attempts none busy = subst (IsHeld o) (sym is)
      (record { clean = clean; busy = busy_on o s (recorded s effect) attempts none busy })

  -- a delivery about others
  pub quiet_clean : (s t : Node) (out : List (To × Message)) (m : Message) → IsClean values Only Mine s
      → IsMessage n m → IsElsewhere i m → (ends : EndsWhole n q s (deliver m) out t)
      → IsClean values Only Mine (recorded s ends.effect) × IsQuietAt values Only Mine s ends.effect
  quiet_clean s t out m clean is aside ends =
      let quiet = aside_on values Only Mine n q s m ends.effect clean.unknown is aside ends.does in
      let begins = subst (BeginsKnown values) ends.node (beginning_stays n q s t (deliver m) Whole out ends
      values clean.begins) in
      (clean_on values Only Mine s ends.effect clean quiet.entry begins (quiet.known ∙ clean.unknown), quiet)

  pub quiet_held : (o : Option Attempt) (s t : Node) (out : List (To × Message)) (m : Message) → IsHeld o s
      → IsMessage n m → IsElsewhere i m → (ends : EndsWhole n q s (deliver m) out t) → IsHeld o t
      × IsQuietAt values Only Mine s ends.effect
  quiet_held o s t out m held is aside ends =
      let next = quiet_clean s t out m held.clean is aside ends in
      (held_on o s ends.effect t ends.node next.0 next.1.attempts next.1.none held.busy, next.1)

  -- and a call that is no tick
  beside_of : (o : Option Attempt) (s : Node) (call : Call) (effect : Effect) → MayBeside call → IsHeld o s
      → Does n q s call effect → IsBeside q values Only Mine s effect
  beside_of o s (submit v) effect may held does = absurd may
  beside_of o s tick effect may held does = absurd may
  beside_of o s widen effect may held does = on_widen q values Only Mine s held.clean o effect held.busy does
  beside_of o s ask effect may held does = on_ask q values Only Mine s held.clean effect does
  beside_of o s (tell to first) effect may held does = on_tell q values Only Mine s held.clean to first effect
      may does
  beside_of o s (deliver m) effect may held does = absurd may
  beside_of o s (keep j) effect may held does = on_keep q values Only Mine s held.clean j effect does

  beside_held : (o : Option Attempt) (s t : Node) (out : List (To × Message)) (call : Call) → MayBeside call
      → IsHeld o s → (ends : EndsWhole n q s call out t) → IsHeld o t
      × IsBeside q values Only Mine s ends.effect
  beside_held o s t out call may held ends =
      let beside = beside_of o s call ends.effect may held ends.does in
      let begins = subst (BeginsKnown values) ends.node (beginning_stays n q s t call Whole out ends values
      held.clean.begins) in (
        held_on o s ends.effect t ends.node (clean_on values Only Mine s ends.effect held.clean beside.entry
            begins (ap (λ f. f i) beside.known ∙ held.clean.unknown)) beside.attempts
            (λ e. beside.pending ∙ e) held.busy,
        beside,
      )

  abbrev Calm : Option Attempt → List Value → ℕ → Node → List (To × Message) → Type 0
  Calm o pending reached s before = IsHeld o s × ((s.pending ≡ pending) × (s.reached ≡ reached))
      × AreAll (IsSaid q i Mine) before

  -- over all of them
  pub calls_held : (o : Option Attempt) (last : LastCall) (s t : Node) (out : List (To × Message))
      → IsNoTick last → IsTellLow last → IsHeld o s → EndsTurns last n q s out t
      → IsHeld o t × ((t.pending ≡ s.pending) × (t.reached ≡ s.reached)) × AreAll (IsSaid q i Mine) out
  calls_held o last s t out idle low held ends =
      all_called n q (Calm o s.pending s.reached) MayBeside
      (λ u w before more call may h e.
      let next = beside_held o u w more call may h.0 e in (
        next.0,
        (
          ap (λ (x : Node). x.pending) e.node ∙ next.1.pending ∙ h.1.0,
          ap (λ (x : Node). x.reached) e.node
              ∙ next.1.reached ∙ h.1.1,
        ),
        all_out (IsSaid q i Mine) before more e.effect e.handed_out h.2 next.1.out,
      ))
      last s t [] out (λ call is. may_beside last call idle low is) ends
      (held, (refl, refl), all_none (IsSaid q i Mine))
