-- Calls of a node, one after another.
use Rattle.std.proofs.Common.{◌≡◌, ◌≢◌, ◌⊎◌, inl, inr, ⊎_elim, ℕ, suc, ◌+◌, ◌<◌, ◌≤◌, List, [], ◌++◌, append-nil, append_assoc, refl, sym, ap, subst, ◌∙◌, arith}
use Rattle.site_ids.specs.Ids.{IsInstance}
use Rattle.site_ids.proofs.MemberLemmas.{in_split}
use Rattle.site_disk.specs.Model.{DiskState}
use Rattle.wire.specs.declared.message.Message.{Message}
use Rattle.node.specs.declared.fault.NodeFault.{NodeFault}
use Rattle.node.specs.declared.fault.NodeFault.TheVariants as fault
use Rattle.node.specs.declared.to.To.{To}
use Rattle.node.specs.declared.to.To.TheVariants.{One}
use Rattle.node.specs.declared.node.Node.{Node as Running}
use Rattle.node.proofs.Windows.{begins_may}
use Rattle.node.specs.Nodes.{Node, WantsTick}
use Rattle.node.specs.Calls.{Call, tick, widen, ask, tell, keep, Begins, MayWiden}
use Rattle.node.specs.Effects.{Effect, quiet}
use Rattle.node.specs.Endings.{Ending, Whole, Ends}
use Rattle.node.specs.Standing.{IsNodeOf, IsEvent, KeepsOthers, ending_by}
use Rattle.site_drive.specs.Drives.{Begin, KeepAll, KeepsEach}
use Rattle.site_drive.specs.Leading.{AllFit, NodeLeads, Called}
use Rattle.site_drive.specs.declared.last_call.LastCall.TheVariants.{TickOrAsk, Widen, Ask, Tell, Keep, Nothing}

pub all_fit : (xs ys : List (To × Message)) → AllFit xs → AllFit ys → AllFit (xs ++ ys)
all_fit xs ys left right x k = ⊎_elim (λ a. left x a) (λ b. right x b) (in_split xs ys x k)

-- one call ends so, from a node that the value stands for; what it hands out comes after what was there
abbrev Calls : {D : Type 0} → Running D → ℕ → ℕ → Call → Ending → List (To × Message) → List (To × Message) → Node → Node → Type 0
Calls code n p call ending before after s next = IsNodeOf code s × ((out : List (To × Message)) × (after ≡ before ++ out) × Ends n p s call ending out next × AllFit out)

-- so many widenings have begun attempts
abbrev pub Widening : ℕ → ℕ → List (To × Message) → List (To × Message) → Node → Node → Type 0
Widening n p before after s next = (count : ℕ) × (out : List (To × Message)) × (after ≡ before ++ out) × Begin n p count s out next × AllFit out

-- where none may be begun, nothing is handed out
pub quiet_out : (n p : ℕ) (s next : Node) (out : List (To × Message)) → ¬ MayWiden s → Ends n p s widen Whole out next → out ≡ []
quiet_out n p s next out none how =
    ⊎_elim
    (λ (x : Begins p s how.effect). absurd (none (begins_may p s how.effect x)))
    (λ (x : (¬ MayWiden s) × (how.effect ≡ quiet s)). how.handed_out ∙ ap (λ (e : Effect). e.out) x.1)
    how.does

pub not_whole : (why : NodeFault) → ending_by why ≢ Whole
not_whole fault.OutOfMemory e = cc
not_whole fault.Device e = cc
not_whole fault.Stopped e = cc
not_whole fault.QueueFull e = cc
not_whole (fault.NotACommand why) e = cc
not_whole fault.InstancesUsedUp e = cc
not_whole fault.RoundsUsedUp e = cc
not_whole fault.Conflict e = cc

module _ {D : Type 0} (stands_for : D → DiskState → Type 0) where
  pub eased : (old new : Running D) (How Other : Node → Node → Type 0) → ((s t : Node) → How s t → Other s t) → NodeLeads stands_for old new How → NodeLeads stands_for old new Other
  eased old new How Other so h = record { leads = λ s stands. let r = h.leads s stands in (r.0, so s r.0 r.1, r.2, r.3, r.4) }

  -- where nothing waited, what is handed out is all that does
  pub alone : (old new : Running D) (before after : List (To × Message)) (How : List (To × Message) → Node → Node → Type 0) → before ≡ []
      → NodeLeads stands_for old new (λ s next. (out : List (To × Message)) × (after ≡ before ++ out) × How out s next × AllFit out)
      → NodeLeads stands_for old new (λ s next. How after s next × AllFit after)
  alone old new before after How empty h =
      eased old new (λ s next. (out : List (To × Message)) × (after ≡ before ++ out) × How out s next × AllFit out) (λ s next. How after s next × AllFit after)
      (λ s next r.
      let out : r.0 ≡ after = sym (r.1 ∙ ap (λ l. l ++ r.0) empty) in
      (subst (λ l. How l s next) out r.2, subst AllFit out r.3)) h

  one_call : (old new : Running D) (call : Call) (ending : Ending) (before after : List (To × Message)) → IsEvent stands_for old new call ending before after
      → NodeLeads stands_for old new (Calls old old.cluster old.me call ending before after)
  one_call old new call ending before after event = record {
    leads = λ s stands.
        let h = event.leads s stands in
        (h.next, (stands, (h.out, h.outbox, h.ends, λ x k. (h.messages x k).fits)), h.stands, (λ d on. let e = h.on_disk d on in (e.0, e.1)), h.ahead);
  }

  pub none_begun : (old : Running D) (n p : ℕ) (before : List (To × Message)) → NodeLeads stands_for old old (Widening n p before before)
  none_begun old n p before = record { leads = λ s stands. (s, (0, [], sym (append-nil before), (refl, refl), λ x k. absurd k), stands, (λ d on. (d, on)), λ b d of. of) }

  pub none_kept : (old : Running D) (n p i : ℕ) → NodeLeads stands_for old old (KeepAll n p i 0)
  none_kept old n p i = record { leads = λ s stands. (s, refl, stands, (λ d on. (d, on)), λ b d of. of) }

  -- all of them are kept, or as far as there are instances
  pub all_kept : (old new : Running D) (n p i count past : ℕ) → past ≤ count → (past ≡ count) ⊎ ¬ IsInstance (i + past) → NodeLeads stands_for old new (KeepAll n p i past)
      → NodeLeads stands_for old new (λ s next. KeepsEach n p i count s Whole next)
  all_kept old new n p i count past few ends h =
      eased old new (KeepAll n p i past) (λ s next. KeepsEach n p i count s Whole next)
      (λ s t kept. record { whole = past; mid = t; few = few; kept = kept; then = inl (refl, refl, ends) }) h

  -- keeping is what is called, and hands out nothing
  pub kept_called : (old new : Running D) (n p i count : ℕ) (ending : Ending) (before : List (To × Message)) → NodeLeads stands_for old new (λ s next. KeepsEach n p i count s ending next)
      → NodeLeads stands_for old new (Called (Keep i count) n p ending before before)
  kept_called old new n p i count ending before h =
      eased old new (λ s next. KeepsEach n p i count s ending next) (Called (Keep i count) n p ending before before)
      (λ s t keeps. ([], sym (append-nil before), (keeps, refl), λ x k. absurd k)) h

  -- after turns that nothing is called after
  pub none_called : (old : Running D) (n p : ℕ) (before : List (To × Message)) → NodeLeads stands_for old old (Called Nothing n p Whole before before)
  none_called old n p before = record { leads = λ s stands. (s, ([], sym (append-nil before), (refl, refl, refl), λ x k. absurd k), stands, (λ d on. (d, on)), λ b d of. of) }

  -- ---- this and then that, of one node

  module _ (old mid new : Running D) (others : KeepsOthers old mid) where
    both : (First : Node → Node → Type 0) (Then : ℕ → ℕ → Node → Node → Type 0) (How : Node → Node → Type 0) → NodeLeads stands_for old mid First
        → NodeLeads stands_for mid new (Then mid.cluster mid.me) → ((s t u : Node) → First s t → Then old.cluster old.me t u → How s u) → NodeLeads stands_for old new How
    both First Then How first then joins =
        let of_same : NodeLeads stands_for mid new (Then old.cluster old.me) =
        subst (λ (p : ℕ). NodeLeads stands_for mid new (Then old.cluster p)) others.me (subst (λ (n : ℕ). NodeLeads stands_for mid new (Then n mid.me)) others.cluster then)
        in
        record {
          leads = λ s stands.
              let a = first.leads s stands in
              let b = of_same.leads a.0 a.2 in
              (b.0, joins s a.0 b.0 a.1 b.1, b.2, (λ d on. let e = a.3 d on in b.3 e.0 e.1), λ base d of. b.4 base d (a.4 base d of));
        }

    module _ (before between after : List (To × Message)) where
      module _ (so_far : NodeLeads stands_for old mid (Widening old.cluster old.me before between)) where
        -- one more attempt
        pub begun_more : IsEvent stands_for mid new widen Whole between after → ((s : Node) → IsNodeOf mid s → MayWiden s) → NodeLeads stands_for old new (Widening old.cluster old.me before after)
        begun_more event may =
            both (Widening old.cluster old.me before between) (λ n p. Calls mid n p widen Whole between after) (Widening old.cluster old.me before after)
            so_far (one_call mid new widen Whole between after event)
            (λ s t u first then. (
              suc first.0,
              first.1 ++ then.1.0,
              then.1.1 ∙ ap (λ l. l ++ then.1.0) first.2 ∙ append_assoc before first.1 then.1.0,
              (t, first.1, then.1.0, first.3, may t then.0, then.1.2, refl),
              all_fit first.1 then.1.0 first.4 then.1.3,
            ))

        -- the last widening, which hands out nothing
        pub ended : (ending : Ending) → IsEvent stands_for mid new widen ending between after → ((n p : ℕ) (s next : Node) (out : List (To × Message)) → IsNodeOf mid s → Ends n p s widen ending out next → out ≡ [])
            → NodeLeads stands_for old new (Called Widen old.cluster old.me ending before after)
        ended ending event nothing =
            both (Widening old.cluster old.me before between) (λ n p. Calls mid n p widen ending between after) (Called Widen old.cluster old.me ending before after)
            so_far (one_call mid new widen ending between after event)
            (λ s t u first then.
            let none : then.1.0 ≡ [] = nothing old.cluster old.me t u then.1.0 then.0 then.1.2 in (
              first.1,
              then.1.1 ∙ ap (λ l. between ++ l) none ∙ append-nil between ∙ first.2,
              record { count = first.0; mid = t; begin = first.3; last = subst (λ l. Ends old.cluster old.me t widen ending l u) none then.1.2 },
              first.4,
            ))

      -- a tick, and then widenings
      pub ticked : (ending : Ending) → ((s : Node) → IsNodeOf old s → WantsTick s) → IsEvent stands_for old mid tick Whole before between
          → NodeLeads stands_for mid new (Called Widen mid.cluster mid.me ending between after) → NodeLeads stands_for old new (Called TickOrAsk old.cluster old.me ending before after)
      ticked ending wants event widened =
          both (Calls old old.cluster old.me tick Whole before between) (λ n p. Called Widen n p ending between after) (Called TickOrAsk old.cluster old.me ending before after)
          (one_call old mid tick Whole before between event) widened
          (λ s t u first then.
          let r = first.1 in (
            r.0 ++ then.0,
            then.1 ∙ ap (λ l. l ++ then.0) r.1 ∙ append_assoc before r.0 then.0,
            inl (wants s first.0, inr (record { mid = t; ticked = r.0; widened = then.0; ticks = r.2; widens = then.2; out_is = refl })),
            all_fit r.0 then.0 r.3 then.3,
          ))

    -- ---- values that are kept

    module _ (i past : ℕ) (so_far : NodeLeads stands_for old mid (KeepAll old.cluster old.me i past)) where
      -- one more
      pub kept_more : IsEvent stands_for mid new (keep (i + past)) Whole [] [] → NodeLeads stands_for old new (KeepAll old.cluster old.me i (suc past))
      kept_more event =
          both (KeepAll old.cluster old.me i past) (λ n p. Calls mid n p (keep (i + past)) Whole [] []) (KeepAll old.cluster old.me i (suc past))
          so_far (one_call mid new (keep (i + past)) Whole [] [] event)
          (λ s t u first then. (t, first, subst (λ out. Ends old.cluster old.me t (keep (i + past)) Whole out u) (sym then.1.1) then.1.2))

      -- the next one ends so
      pub kept_short : (count : ℕ) (ending : Ending) → past < count → ending ≢ Whole → IsEvent stands_for mid new (keep (i + past)) ending [] []
          → NodeLeads stands_for old new (λ s next. KeepsEach old.cluster old.me i count s ending next)
      kept_short count ending within short event =
          both (KeepAll old.cluster old.me i past) (λ n p. Calls mid n p (keep (i + past)) ending [] []) (λ s next. KeepsEach old.cluster old.me i count s ending next)
          so_far (one_call mid new (keep (i + past)) ending [] [] event)
          (λ s t u first then. record {
            whole = past;
            mid = t;
            few = omega (arith, within);
            kept = first;
            then = inr (short, within, subst (λ out. Ends old.cluster old.me t (keep (i + past)) ending out u) (sym then.1.1) then.1.2);
          })

  -- ---- one call alone

  module _ (old new : Running D) (ending : Ending) (before after : List (To × Message)) where
    -- a tick that falls short
    pub tick_short : ending ≢ Whole → ((s : Node) → IsNodeOf old s → WantsTick s) → IsEvent stands_for old new tick ending before after → NodeLeads stands_for old new (Called TickOrAsk old.cluster old.me ending before after)
    tick_short short wants event =
        eased old new (Calls old old.cluster old.me tick ending before after) (Called TickOrAsk old.cluster old.me ending before after)
        (λ s t h. (h.1.0, h.1.1, inl (wants s h.0, inl (short, h.1.2)), h.1.3)) (one_call old new tick ending before after event)

    -- a question, where no tick is wanted
    pub asked_instead : ((s : Node) → IsNodeOf old s → ¬ WantsTick s) → IsEvent stands_for old new ask ending before after → NodeLeads stands_for old new (Called TickOrAsk old.cluster old.me ending before after)
    asked_instead none event =
        eased old new (Calls old old.cluster old.me ask ending before after) (Called TickOrAsk old.cluster old.me ending before after)
        (λ s t h. (h.1.0, h.1.1, inr (none s h.0, h.1.2), h.1.3)) (one_call old new ask ending before after event)

    -- or in any case
    pub asked : IsEvent stands_for old new ask ending before after → NodeLeads stands_for old new (Called Ask old.cluster old.me ending before after)
    asked event =
        eased old new (Calls old old.cluster old.me ask ending before after) (Called Ask old.cluster old.me ending before after) (λ s t h. h.1) (one_call old new ask ending before after event)

    pub told : (q i : ℕ) → IsEvent stands_for old new (tell (One q) i) ending before after → NodeLeads stands_for old new (Called (Tell q i) old.cluster old.me ending before after)
    told q i event =
        eased old new (Calls old old.cluster old.me (tell (One q) i) ending before after) (Called (Tell q i) old.cluster old.me ending before after) (λ s t h. h.1) (one_call old new (tell (One q) i) ending before after event)
