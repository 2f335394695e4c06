-- What an event at a machine makes of the world.
use Rattle.std.proofs.Common.{◌≡◌, ◌≢◌, ◌⊎◌, inl, inr, ⊎_elim, ℕ, zero, suc, ◌<◌, nat_eq, Bool, true, false, get_or, Some, None, List, [], ◌∷◌, ◌++◌, length, refl, sym, ap, subst, ◌∙◌, append-nil, arith}
use Rattle.std.specs.Prelude.{slice_get, slice_set}
use Rattle.std.proofs.lemmas.Bool.Decides.{nat_tests}
use Rattle.site_ids.specs.Ids.{IsNode}
use Rattle.site_ids.specs.Lists.{In, put_at}
use Rattle.site_ids.proofs.MapLemmas.{put_here, put_other}
use Rattle.site_ids.proofs.MemberLemmas.{in_split}
use Rattle.wire.specs.declared.message.Message.{Message}
use Rattle.wire.specs.Messages.{IsMessage}
use Rattle.node.specs.declared.to.To.TheVariants.{All}
use Rattle.node.specs.Nodes.{Up, Down, Node, opened}
use Rattle.node.specs.Effects.{messages_of}
use Rattle.node.specs.Calls.{Call, submit, tick, widen, ask, tell, deliver, keep}
use Rattle.node.specs.declared.fault.NodeFault.TheVariants.{OutOfMemory}
use Rattle.node.specs.Endings.{Refuses}
use Rattle.world.specs.declared.event.Event.{Event}
use Rattle.world.specs.declared.event.Event.TheVariants.{Submit, Tick, Widen, Ask, Tell, Deliver, Arm, Crash, Restart, Replace, Keep}
use Rattle.world.specs.declared.machine.Machine.{Machine}
use Rattle.world.specs.declared.machine.Machine.TheVariants.{Open, Bare}
use Rattle.world.specs.declared.world.World.{World as Code}
use Rattle.durable.specs.Entries.{Floor}
use Rattle.world.specs.Worlds.{World, Moves, Becomes, Calls}
use Rattle.world.specs.Taking.{node_of, IsTaken, Takes, NamesFloor, IsBad, IsRefused}
use Rattle.world.specs.Standing.{IsMachineOf, HasPublished, IsWorldOf, IsPublishedAt, IsUnpublishedAt}
use Rattle.world.specs.Machines.{Handed, AtNode, NodeTakes, Wants, IsUp, RefusesOpening, EventTurns, EventWants, AreMessages}
use Rattle.world.specs.Steps.{LeadsTo, KeepsPublished}
use Rattle.world.proofs.Turning.{not_down}

-- ---- lists

either_of : (j k : ℕ) (b : Bool) → nat_eq j k ≡ b → (j ≡ k) ⊎ (j ≢ k)
either_of j k true is = inl (grind (arith, nat_tests))
either_of j k false is = inr (λ e. grind (arith, nat_tests))

pub either : (j k : ℕ) → (j ≡ k) ⊎ (j ≢ k)
either j k = either_of j k (nat_eq j k) refl

set_same : {X : Type 0} (xs : List X) (k : ℕ) (x : X) → k < length xs → slice_get (slice_set xs k x) k ≡ Some x
set_same [] k x below = absurd (omega (arith, below))
set_same (y ∷ ys) zero x below = refl
set_same (y ∷ ys) (suc k) x below = set_same ys k x (omega (arith, below))

set_other : {X : Type 0} (xs : List X) (k j : ℕ) (x : X) → j ≢ k → slice_get (slice_set xs k x) j ≡ slice_get xs j
set_other [] k j x apart = refl
set_other (y ∷ ys) zero zero x apart = absurd (apart refl)
set_other (y ∷ ys) zero (suc j) x apart = refl
set_other (y ∷ ys) (suc k) zero x apart = refl
set_other (y ∷ ys) (suc k) (suc j) x apart = set_other ys k j x (λ e. apart (ap suc e))

pub got_at : {X : Type 0} (xs : List X) (k : ℕ) (x : X) → k < length xs → x ≡ get_or xs k x → slice_get xs k ≡ Some x
got_at [] k x below is = absurd (omega (arith, below))
got_at (y ∷ ys) zero x below is = ap Some (sym is)
got_at (y ∷ ys) (suc k) x below is = got_at ys k x (omega (arith, below)) is

sent_so : (before out : Handed) → messages_of (before ++ out) ≡ messages_of before ++ messages_of out
sent_so [] out = refl
sent_so (x ∷ before) out = ap (λ l. x.1 ∷ l) (sent_so before out)

-- ---- a world with one node changed

abbrev pub moved : World → ℕ → Node → Handed → World
moved w p next out = record { node = put_at w.node p next; sent = w.sent ++ messages_of out }

module _ (n : ℕ) (w : World) (p : ℕ) (next : Node) (out : Handed) (here : IsNode n p) where
  pub moves : Moves n w p (messages_of out) next (moved w p next out)
  moves = record { in_cluster = here; at = put_here w.node p next p refl; others = λ q apart. put_other w.node p next q apart; sent = refl }

  moves_as : (s : Node) → out ≡ [] → next ≡ s → Becomes n w p s (moved w p next out)
  moves_as s none is = record { in_cluster = here; at = put_here w.node p next p refl ∙ is; others = λ q apart. put_other w.node p next q apart; sent = ap (λ (l : Handed). w.sent ++ messages_of l) none }

  called : (call : Call) → AtNode n p (w.node p) call out next → Calls n IsTaken w p call (moved w p next out)
  called call how = ⊎_elim (λ taken. inl (record { ending = taken.0; out = out; new = next; allowed = taken.1; ends = taken.2; moves = moves })) (λ passed. inr (passed.0, moves_as (w.node p) passed.1 passed.2)) how

  armed : (((w.node p).mode ≢ Down) × (next ≡ record (w.node p) { armed = true })) ⊎ (((w.node p).mode ≡ Down) × (next ≡ w.node p)) → out ≡ []
      → (((w.node p).mode ≢ Down) × Becomes n w p (record (w.node p) { armed = true }) (moved w p next out)) ⊎ (((w.node p).mode ≡ Down) × Becomes n w p (w.node p) (moved w p next out))
  armed how none = ⊎_elim (λ x. inl (x.0, moves_as (record (w.node p) { armed = true }) none x.1)) (λ x. inr (x.0, moves_as (w.node p) none x.1)) how

pub takes_of : (n : ℕ) (w : World) (event : Event) (next : Node) (out : Handed) → IsNode n (node_of event) → NamesFloor n w event → NodeTakes n (node_of event) w.sent (w.node (node_of event)) event out next
    → Takes n w event (moved w (node_of event) next out)
takes_of n w (Submit p v) next out here floor how = called n w p next out here (submit v) how
takes_of n w (Tick p) next out here floor how = called n w p next out here tick how
takes_of n w (Widen p) next out here floor how = called n w p next out here widen how
takes_of n w (Ask p) next out here floor how = called n w p next out here ask how
takes_of n w (Tell p i) next out here floor how = called n w p next out here (tell All i) how
takes_of n w (Deliver p index) next out here floor how = record { message = how.0; was_sent = how.1; calls = called n w p next out here (deliver how.0) how.2 }
takes_of n w (Arm p calls) next out here floor how = armed n w p next out here how.1 how.0
takes_of n w (Crash p choice) next out here floor how = record { entries = how.0; settles = how.1; becomes = moves_as n w p next out here (opened Down how.0 None) how.2 how.3 }
takes_of n w (Keep p i) next out here floor how = called n w p next out here (keep i) how
takes_of n w (Replace p f) next out here floor how = record { is_floor = floor; becomes = moves_as n w p next out here (opened Down (Floor f ∷ []) None) how.0 how.1 }
takes_of n w (Restart p) next out here floor how = record { entries = how.0; settles = how.1; becomes = moves_as n w p next out here (opened Up how.0 None) how.2 how.3 }

-- ---- the value with one machine changed

module _ (old new : Code) (k p : ℕ) (x : Machine) (here : p ≡ suc k) (below : k < length old.machines.items) (machines : new.machines.items ≡ slice_set old.machines.items k x) (same : new.cluster ≡ old.cluster) where
  new_same : slice_get new.machines.items k ≡ Some x
  new_same = ap (λ (l : List Machine). slice_get l k) machines ∙ set_same old.machines.items k x below

  new_other : (j : ℕ) → j ≢ k → slice_get new.machines.items j ≡ slice_get old.machines.items j
  new_other j apart = ap (λ (l : List Machine). slice_get l j) machines ∙ set_other old.machines.items k j x apart

  is_new : (j : ℕ) (machine : Machine) → j ≡ k → slice_get new.machines.items j ≡ Some machine → x ≡ machine
  is_new j machine e got = let at = new_same in cc

  pub world_after : (w after : World) (next : Node) (out : Handed) → Moves old.cluster w p (messages_of out) next after → IsWorldOf old w → IsMachineOf old.cluster p x next → AreMessages old.cluster out
      → new.sent.items ≡ old.sent.items ++ out → IsWorldOf new after
  world_after w after next out moved stands at messages sent = record {
    machines = λ j machine got.
        ⊎_elim
        (λ (e : j ≡ k).
        let P : ℕ → ℕ → Machine → Node → Type 0 = λ n q y s. IsMachineOf n q y s in
        let mine : IsMachineOf new.cluster p machine (after.node p) =
        subst (λ (n : ℕ). IsMachineOf n p machine (after.node p)) (sym same) (subst (λ (y : Machine). IsMachineOf old.cluster p y (after.node p)) (is_new j machine e got) (subst (λ (s : Node). IsMachineOf old.cluster p x s) (sym moved.at) at)) in
        subst (λ (q : ℕ). IsMachineOf new.cluster q machine (after.node q)) (here ∙ ap suc (sym e)) mine)
        (λ (apart : j ≢ k).
        let theirs = stands.machines j machine (sym (new_other j apart) ∙ got) in
        let other : suc j ≢ p = λ e. apart (omega (arith, e, here)) in
        subst (λ (n : ℕ). IsMachineOf n (suc j) machine (after.node (suc j))) (sym same) (subst (λ (s : Node). IsMachineOf old.cluster (suc j) machine s) (sym (moved.others (suc j) other)) theirs))
        (either j k);
    sent = moved.sent ∙ ap (λ l. l ++ messages_of out) stands.sent ∙ sym (sent_so old.sent.items out) ∙ ap (λ (l : Handed). messages_of l) (sym sent);
    messages = λ m told.
        subst (λ (n : ℕ). IsMessage n m) (sym same)
        (⊎_elim (λ a. stands.messages m a) (λ b. messages m b) (in_split w.sent (messages_of out) m (subst (λ l. In l m) moved.sent told)));
  }

  -- a node elsewhere has published all, if it had
  pub keeps_others : (w after : World) (out : List Message) (next : Node) → Moves old.cluster w p out next after → (q : ℕ) → q ≢ p → IsPublishedAt old w q → IsPublishedAt new after q
  keeps_others w after out next moved q apart published j machine is got =
      let other : j ≢ k = λ e. apart (is ∙ ap suc e ∙ sym here) in
      subst (λ (s : Node). HasPublished machine s) (sym (moved.others q apart)) (published j machine is (sym (new_other j other) ∙ got))

  pub published_here : (w after : World) (out : List Message) (next : Node) → Moves old.cluster w p out next after → HasPublished x next → IsPublishedAt new after p
  published_here w after out next moved published j machine is got =
      let e : j ≡ k = omega (arith, is, here) in
      subst (λ (y : Machine). HasPublished y (after.node p)) (is_new j machine e got) (subst (λ (s : Node). HasPublished x s) (sym moved.at) published)

  pub unpublished_here : (w after : World) (out : List Message) (next : Node) → Moves old.cluster w p out next after → ¬ HasPublished x next → ¬ IsPublishedAt new after p
  unpublished_here w after out next moved lacks published = lacks (subst (λ (s : Node). HasPublished x s) moved.at (published k x here new_same))

published_down : (n p : ℕ) (x : Machine) (s : Node) → IsMachineOf n p x s → s.mode ≡ Down → HasPublished x s
published_down n p (Open code armed) s at down = absurd (not_down code.store.stopped s.mode at.stands.parts.on_record.mode_is down)
published_down n p (Bare disk) s at down = tt

module _ (old new : Code) (event : Event) (k : ℕ) (machine mid x : Machine) (here : node_of event ≡ suc k) (below : k < length old.machines.items) (machines : new.machines.items ≡ slice_set old.machines.items k x) (same : new.cluster ≡ old.cluster)
    (at : IsNode old.cluster (node_of event)) (floors : (w : World) → IsWorldOf old w → NamesFloor old.cluster w event) (got : slice_get old.machines.items k ≡ Some machine) where
  abbrev How : (World → Type 0) → World → World → Type 0
  How Published w after = Takes old.cluster w event after × KeepsPublished old new event w after × Published after

  -- the event is taken, and then the machine may publish
  pub stepped : (Published : World → Type 0) → EventTurns old.cluster event machine mid old.sent.items new.sent.items → ((n p : ℕ) (s : Node) → IsMachineOf n p mid s → IsMachineOf n p x s)
      → ((w after : World) (out : List Message) (next : Node) → Moves old.cluster w (node_of event) out next after → IsMachineOf old.cluster (node_of event) mid next → Published after) → LeadsTo old new (How Published)
  stepped Published turns publishes published = record {
    leads = λ w stands.
        let n = old.cluster in
        let p = node_of event in
        let mine : IsMachineOf n p machine (w.node p) = subst (λ (q : ℕ). IsMachineOf n q machine (w.node q)) (sym here) (stands.machines k machine got) in
        let t = (turns (λ m told. stands.messages m (subst (λ l. In l m) (sym stands.sent) told))).leads (w.node p) mine in
        let mv = moves n w p t.next t.out at in
        let after = moved w p t.next t.out in
        record {
          after = after;
          how = (
            takes_of n w event t.next t.out at (floors w stands) (subst (λ l. NodeTakes n p l (w.node p) event t.out t.next) (sym stands.sent) t.does),
            keeps_others old new k p x here below machines same w after (messages_of t.out) t.next mv,
            published w after (messages_of t.out) t.next mv t.stands,
          );
          stands = world_after old new k p x here below machines same w after t.next t.out mv stands (publishes n p t.next t.stands) t.messages t.outbox;
        };
  }

  pub step_taken : EventTurns old.cluster event machine mid old.sent.items new.sent.items → ((n p : ℕ) (s : Node) → IsMachineOf n p mid s → IsMachineOf n p x s) → ((n p : ℕ) (s : Node) → IsMachineOf n p mid s → HasPublished x s)
      → LeadsTo old new (How (λ after. IsPublishedAt new after (node_of event)))
  step_taken turns publishes published =
      stepped (λ after. IsPublishedAt new after (node_of event)) turns publishes
      (λ w after out next mv mine. published_here old new k (node_of event) x here below machines same w after out next mv (published old.cluster (node_of event) next mine))

  pub step_unpublished : EventTurns old.cluster event machine mid old.sent.items new.sent.items → ((n p : ℕ) (s : Node) → IsMachineOf n p mid s → IsMachineOf n p x s)
      → ((n p : ℕ) (s : Node) → IsMachineOf n p mid s → (s.mode ≢ Down) × ¬ HasPublished x s) → LeadsTo old new (How (λ after. IsUnpublishedAt new after (node_of event)))
  step_unpublished turns publishes lacks =
      stepped (λ after. IsUnpublishedAt new after (node_of event)) turns publishes
      (λ w after out next mv mine.
      let told = lacks old.cluster (node_of event) next mine in
      record {
        up = subst (λ (s : Node). s.mode ≢ Down) (sym mv.at) told.0;
        lacks = unpublished_here old new k (node_of event) x here below machines same w after out next mv told.1;
      })

-- ---- an event that isn't taken

abbrev Kept : Code → Code → World → World → Type 0
Kept old new w after = (q : ℕ) → IsPublishedAt old w q → IsPublishedAt new after q

module _ (old new : Code) (p k : ℕ) (machine x : Machine) (here : p ≡ suc k) (below : k < length old.machines.items) (machines : new.machines.items ≡ slice_set old.machines.items k x) (same : new.cluster ≡ old.cluster)
    (at : IsNode old.cluster p) (got : slice_get old.machines.items k ≡ Some machine) where
  mine_of : (w : World) → IsWorldOf old w → IsMachineOf old.cluster p machine (w.node p)
  mine_of w stands = subst (λ (q : ℕ). IsMachineOf old.cluster q machine (w.node q)) (sym here) (stands.machines k machine got)

  pub step_wanted : (May : Node → Type 0) → Wants old.cluster p May machine x old.sent.items new.sent.items → LeadsTo old new (λ w after. (May (w.node p) × (after ≡ w)) × Kept old new w after)
  step_wanted May wants = record {
    leads = λ w stands.
        let led = wants.leads (w.node p) (mine_of w stands) in
        let mv : Moves old.cluster w p (messages_of []) (w.node p) w = record { in_cluster = at; at = refl; others = λ q apart. refl; sent = sym (append-nil w.sent) } in
        let sent : new.sent.items ≡ old.sent.items ++ [] = led.2 ∙ sym (append-nil old.sent.items) in
        record {
          after = w;
          how = (
            (led.0, refl),
            λ q published.
                ⊎_elim
                (λ (e : q ≡ p).
                let was : IsPublishedAt old w p = subst (λ (y : ℕ). IsPublishedAt old w y) e published in
                subst (λ (y : ℕ). IsPublishedAt new w y) (sym e) (published_here old new k p x here below machines same w w [] (w.node p) mv (led.3 (was k machine here got))))
                (λ (apart : q ≢ p). keeps_others old new k p x here below machines same w w [] (w.node p) mv q apart published)
                (either q p),
          );
          stands = world_after old new k p x here below machines same w w (w.node p) [] mv stands led.1 (λ m told. absurd told) sent;
        };
  }

  pub step_refused : RefusesOpening old.cluster p machine x → new.sent.items ≡ old.sent.items
      → LeadsTo old new (λ w after. Becomes old.cluster w p (opened Down (w.node p).entries (w.node p).in_flight) after × Kept old new w after)
  step_refused refuses quiet = record {
    leads = λ w stands.
        let next = opened Down (w.node p).entries (w.node p).in_flight in
        let led : IsMachineOf old.cluster p x next = refuses.leads (w.node p) (mine_of w stands) in
        let after = moved w p next [] in
        let mv = moves old.cluster w p next [] at in
        let sent : new.sent.items ≡ old.sent.items ++ [] = quiet ∙ sym (append-nil old.sent.items) in
        record {
          after = after;
          how = (
            mv,
            λ q published.
                ⊎_elim
                (λ (e : q ≡ p). subst (λ (y : ℕ). IsPublishedAt new after y) (sym e) (published_here old new k p x here below machines same w after [] next mv (published_down old.cluster p x next led refl)))
                (λ (apart : q ≢ p). keeps_others old new k p x here below machines same w after [] next mv q apart published)
                (either q p),
          );
          stands = world_after old new k p x here below machines same w after next [] mv stands led (λ m told. absurd told) sent;
        };
  }

pub step_not_taken : (old new : Code) (event : Event) (k : ℕ) (machine x : Machine) → node_of event ≡ suc k → k < length old.machines.items → new.machines.items ≡ slice_set old.machines.items k x → new.cluster ≡ old.cluster
    → IsNode old.cluster (node_of event) → slice_get old.machines.items k ≡ Some machine → EventWants old.cluster (node_of event) event machine x old.sent.items new.sent.items → LeadsTo old new (λ w after. IsRefused old.cluster w event after × Kept old new w after)
step_not_taken old new (Submit p v) k machine x here below machines same at got wants = step_wanted old new p k machine x here below machines same at got (λ s. Refuses s (submit v) OutOfMemory) wants
step_not_taken old new (Tick p) k machine x here below machines same at got wants = step_wanted old new p k machine x here below machines same at got (λ s. Refuses s tick OutOfMemory) wants
step_not_taken old new (Widen p) k machine x here below machines same at got wants = step_wanted old new p k machine x here below machines same at got (λ s. Refuses s widen OutOfMemory) wants
step_not_taken old new (Ask p) k machine x here below machines same at got wants = step_wanted old new p k machine x here below machines same at got (λ s. Refuses s ask OutOfMemory) wants
step_not_taken old new (Tell p i) k machine x here below machines same at got wants = step_wanted old new p k machine x here below machines same at got (λ s. Refuses s (tell All i) OutOfMemory) wants
step_not_taken old new (Keep p i) k machine x here below machines same at got wants = step_wanted old new p k machine x here below machines same at got (λ s. Refuses s (keep i) OutOfMemory) wants
step_not_taken old new (Deliver p index) k machine x here below machines same at got wants = step_wanted old new p k machine x here below machines same at got IsUp wants
step_not_taken old new (Arm p calls) k machine x here below machines same at got wants = absurd wants
step_not_taken old new (Crash p choice) k machine x here below machines same at got wants = absurd wants
step_not_taken old new (Replace p floor) k machine x here below machines same at got wants =
    let led = step_wanted old new p k machine x here below machines same at got (λ s. Unit {0}) wants in
    record { leads = λ w stands. let l = led.leads w stands in record { after = l.after; how = (l.how.0.1, l.how.1); stands = l.stands } }
step_not_taken old new (Restart p) k machine x here below machines same at got wants = step_refused old new p k machine x here below machines same at got wants.0 wants.1

-- nothing happens at a bad event
pub step_bad : (old new : Code) (event : Event) → new.machines.items ≡ old.machines.items → new.sent.items ≡ old.sent.items → new.cluster ≡ old.cluster
    → ((w : World) → IsWorldOf old w → IsBad old.cluster w event) → LeadsTo old new (λ w after. (IsBad old.cluster w event × (after ≡ w)) × Kept old new w after)
step_bad old new event machines sent same bad = record {
  leads = λ w stands. record {
    after = w;
    how = ((bad w stands, refl), λ q published j machine is got. published j machine is (ap (λ (l : List Machine). slice_get l j) (sym machines) ∙ got));
    stands = record {
      machines = λ j machine got.
          subst (λ (n : ℕ). IsMachineOf n (suc j) machine (w.node (suc j))) (sym same) (stands.machines j machine (ap (λ (l : List Machine). slice_get l j) (sym machines) ∙ got));
      sent = stands.sent ∙ ap (λ (l : Handed). messages_of l) (sym sent);
      messages = λ m told. subst (λ (n : ℕ). IsMessage n m) (sym same) (stands.messages m told);
    };
  };
}
