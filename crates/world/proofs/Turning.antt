-- What a call of one node does at its machine.
use Rattle.std.proofs.Common.{◌≡◌, ◌≢◌, ◌⊎◌, inl, inr, ℕ, zero, suc, get_or, Bool, true, false, if◌then◌else◌, Result, Ok, Err, Some, None, List, [], ◌∷◌, ◌++◌, refl, sym, ap, subst, ◌∙◌, ⊎_elim, append-nil}
use Rattle.std.specs.Prelude.{◌↔◌, not, slice_get, IsTrue, is_err}
use Rattle.std.specs.Result.{OnOk, OnErr}
use Rattle.site_disk.specs.Model.{DiskState, MayLeave, moment, at_rest, after_sync}
use Rattle.site_disk.specs.Memory.{MemoryStandsFor}
use Rattle.site_disk.specs.declared.mem_disk.MemDisk.{MemDisk}
use Rattle.site_ids.specs.Lists.{In}
use Rattle.wire.specs.declared.message.Message.{Message}
use Rattle.wire.specs.Messages.{IsMessage}
use Rattle.durable.specs.Append.{IsSettled}
use Rattle.durable.specs.Standing.{StandsFor}
use Rattle.durable.specs.Entries.{Entry, Floor}
use Rattle.durable.specs.Keeping.{Keeps, Settles}
use Rattle.durable.proofs.Keeping.{crash_settles, settled_keeps, sync_keeps}
use Rattle.node.specs.declared.to.To.{To}
use Rattle.node.specs.declared.node.Node.{Node as Running}
use Rattle.node.specs.declared.fault.NodeFault.TheVariants.{OutOfMemory, Stopped as Stopping}
use Rattle.node.specs.Nodes.{Mode, Up, Stopped, Down, Node, opened, IsKnownPrefix}
use Rattle.node.specs.Effects.{messages_of}
use Rattle.node.specs.Calls.{Call, deliver}
use Rattle.node.specs.Endings.{Ending, Refused, Ends}
use Rattle.node.specs.Standing.{IsNodeOf, IsOnDisk, IsEvent, KeepsOthers, OpensAs}
use Rattle.node.proofs.Knowing.{mark_stays}
use Rattle.world.specs.declared.event.Event.TheVariants.{Arm}
use Rattle.world.specs.declared.machine.Machine.{Machine}
use Rattle.world.specs.declared.machine.Machine.TheVariants.{Open, Bare}
use Rattle.world.specs.Taking.{IsTaken}
use Rattle.world.specs.Standing.{IsOpen, IsBare, IsMachineOf}
use Rattle.world.specs.Machines.{Handed, AtNode, Turns, Wants, IsUp, RefusesOpening, CallTurns, CallWants, NodeTakes, Settled}

abbrev pub Stands : MemDisk → DiskState → Type 0
Stands m d = MemoryStandsFor m d

-- what is handed out are messages of the cluster
each_of : (n : ℕ) (out : Handed) → ((x : To × Message) → In out x → IsMessage n x.1) → (m : Message) → In (messages_of out) m → IsMessage n m
each_of n [] each m k = absurd k
each_of n (x ∷ xs) each m k = ⊎_elim (λ (is : x.1 ≡ m). subst (λ y. IsMessage n y) is (each x (inl refl))) (λ rest. each_of n xs (λ y j. each y (inr j)) m rest) k

-- a call that is taken
pub turned : (n p : ℕ) (call : Call) (old new : Running MemDisk) (armed : Bool) (ending : Ending) (before after : Handed) → IsEvent Stands old new call ending before after → KeepsOthers old new → IsTaken ending
    → CallTurns n p call (Open old armed) (Open new armed) before after
turned n p call old new armed ending before after event others taken = record {
  leads = λ s here.
      let led = event.leads s here.stands in
      let ends : Ends n p s call ending led.out led.next =
      subst (λ (q : ℕ). Ends n q s call ending led.out led.next) here.me (subst (λ (k : ℕ). Ends k old.me s call ending led.out led.next) here.cluster led.ends) in
      let disk = led.on_disk here.state here.on_disk in
      record {
        next = led.next;
        out = led.out;
        does = inl (ending, taken, ends);
        stands = record {
          me = others.me ∙ here.me;
          cluster = others.cluster ∙ here.cluster;
          stands = led.stands;
          mark = mark_stays n p s led.next call ending led.out ends ∙ here.mark;
          state = disk.0;
          on_disk = disk.1;
        };
        outbox = led.outbox;
        messages = each_of n led.out (subst (λ (k : ℕ). (x : To × Message) → In led.out x → IsMessage k x.1) here.cluster led.messages);
      };
}

-- a call that is refused for memory
pub wanted : (n p : ℕ) (call : Call) (old new : Running MemDisk) (armed : Bool) (ending : Ending) (before after : Handed) → IsEvent Stands old new call ending before after → KeepsOthers old new → ending ≡ Refused OutOfMemory
    → CallWants n p call (Open old armed) (Open new armed) before after
wanted n p call old new armed ending before after event others is = record {
  leads = λ s here.
      let led = event.leads s here.stands in
      let ends : Ends old.cluster old.me s call (Refused OutOfMemory) led.out led.next = subst (λ (e : Ending). Ends old.cluster old.me s call e led.out led.next) is led.ends in
      let disk = led.on_disk here.state here.on_disk in (
        ends.refuses,
        record {
          me = others.me ∙ here.me;
          cluster = others.cluster ∙ here.cluster;
          stands = subst (λ (t : Node). IsNodeOf new t) ends.node led.stands;
          mark = here.mark;
          state = disk.0;
          on_disk = subst (λ (t : Node). IsOnDisk Stands new t disk.0) ends.node disk.1;
        },
        led.outbox ∙ ap (λ (l : Handed). before ++ l) ends.nothing ∙ append-nil before,
        (λ published. subst (λ vs. IsKnownPrefix s vs) (sym others.releases) published),
      );
}

-- a call at a node that is down
pub passed_over : (n p : ℕ) (call : Call) (disk : MemDisk) (before : Handed) → CallTurns n p call (Bare disk) (Bare disk) before before
passed_over n p call disk before = record {
  leads = λ s bare. record {
    next = s;
    out = [];
    does = inr (ap (λ (t : Node). t.mode) bare.down, refl, refl);
    stands = bare;
    outbox = sym (append-nil before);
    messages = λ m k. absurd k;
  };
}

-- ---- by what `passed` returned

pub on_ok : {T E A B : Type 0} (r : Result T E) → (A → B) → OnOk r A → OnOk r B
on_ok (Ok x) f a = f a
on_ok (Err y) f a = a

pub on_err : {T E A B : Type 0} (r : Result T E) → (A → B) → OnErr r A → OnErr r B
on_err (Ok x) f a = a
on_err (Err y) f a = f a

pub taken_at : {T E : Type 0} (r : Result T E) (call : Call) (here : Machine) (old new : Running MemDisk) (armed : Bool) (ending : Ending) (before after : Handed) → here ≡ Open old armed → IsEvent Stands old new call ending before after → KeepsOthers old new
    → OnOk r (IsTaken ending) → OnOk r ((n p : ℕ) → CallTurns n p call here (Open new armed) before after)
taken_at r call here old new armed ending before after is event others told =
    on_ok r (λ taken n p. subst (λ (x : Machine). CallTurns n p call x (Open new armed) before after) (sym is) (turned n p call old new armed ending before after event others taken)) told

pub wanted_at : {T E : Type 0} (r : Result T E) (call : Call) (here : Machine) (old new : Running MemDisk) (armed : Bool) (ending : Ending) (before after : Handed) → here ≡ Open old armed → IsEvent Stands old new call ending before after → KeepsOthers old new
    → OnErr r (ending ≡ Refused OutOfMemory) → OnErr r ((n p : ℕ) → CallWants n p call here (Open new armed) before after)
wanted_at r call here old new armed ending before after is event others told =
    on_err r (λ refused n p. subst (λ (x : Machine). CallWants n p call x (Open new armed) before after) (sym is) (wanted n p call old new armed ending before after event others refused)) told

-- ---- an arming

pub is_running : (stopped : Bool) (mode : Mode) → mode ≡ (if stopped then Stopped else Up) → ¬ (mode ≡ Stopped) → mode ≡ Up
is_running false mode is runs = is
is_running true mode is runs = absurd (runs is)

pub not_down : (stopped : Bool) (mode : Mode) → mode ≡ (if stopped then Stopped else Up) → mode ≢ Down
not_down false mode is down = cc
not_down true mode is down = cc

pub armed_at : (n p q calls : ℕ) (here : Machine) (old new : Running MemDisk) (armed : Bool) → here ≡ Open old armed → ((s : Node) → IsNodeOf old s → IsNodeOf new (record s { armed = true }))
    → ((s : Node) (d : DiskState) → IsOnDisk Stands old s d → IsOnDisk Stands new (record s { armed = true }) d) → KeepsOthers old new
    → Turns n p (λ s out next. NodeTakes n p [] s (Arm q calls) out next) here (Open new true) [] []
armed_at n p q calls here old new armed is same on_disk others = subst (λ (x : Machine). Turns n p (λ s out next. NodeTakes n p [] s (Arm q calls) out next) x (Open new true) [] []) (sym is) (record {
  leads = λ s at. record {
    next = record s { armed = true };
    out = [];
    does = (refl, inl (not_down old.store.stopped s.mode at.stands.parts.on_record.mode_is, refl));
    stands = record {
      me = others.me ∙ at.me;
      cluster = others.cluster ∙ at.cluster;
      stands = same s at.stands;
      mark = refl;
      state = at.state;
      on_disk = on_disk s at.state at.on_disk;
    };
    outbox = refl;
    messages = λ m k. absurd k;
  };
})

pub unarmed_at : (n p q calls : ℕ) (here : Machine) (disk : MemDisk) → here ≡ Bare disk → Turns n p (λ s out next. NodeTakes n p [] s (Arm q calls) out next) here here [] []
unarmed_at n p q calls here disk is = subst (λ (x : Machine). Turns n p (λ s out next. NodeTakes n p [] s (Arm q calls) out next) x x [] []) (sym is) (record {
  leads = λ s bare. record {
    next = s;
    out = [];
    does = (refl, inr (ap (λ (t : Node). t.mode) bare.down, refl));
    stands = bare;
    outbox = refl;
    messages = λ m k. absurd k;
  };
})

-- ---- what a machine reports

pub open_in : (n p : ℕ) (here : Machine) (node : Running MemDisk) (armed : Bool) → here ≡ Open node armed → (s : Node) → IsMachineOf n p here s → IsOpen n p node armed s
open_in n p here node armed is s at = subst (λ (x : Machine). IsMachineOf n p x s) is at

pub down_in : (n p : ℕ) (here : Machine) (disk : MemDisk) → here ≡ Bare disk → (s : Node) → IsMachineOf n p here s → s.mode ≡ Down
down_in n p here disk is s at = let mine : IsBare n p disk s = subst (λ (x : Machine). IsMachineOf n p x s) is at in ap (λ (t : Node). t.mode) mine.down

pub not_up_too : (m : Mode) → m ≡ Down → m ≡ Up → ⊥
not_up_too m down up = let both : Down ≡ Up = sym down ∙ up in cc

pub not_down_in : (n p : ℕ) (node : Running MemDisk) (armed : Bool) (s : Node) → IsOpen n p node armed s → s.mode ≢ Down
not_down_in n p node armed s at = not_down node.store.stopped s.mode at.stands.parts.on_record.mode_is

pub opposite : (b : Bool) (P : Type 0) → IsTrue b ↔ P → IsTrue (not b) ↔ (¬ P)
opposite true P told = (λ t. absurd (cc), λ none. absurd (none (told.0 refl)))
opposite false P told = (λ t holds. let on = told.1 holds in cc, λ none. refl)

-- ---- a crash, and an opening

-- the disk that is taken away keeps the node's record
abbrev pub Taken : ℕ → ℕ → Machine → MemDisk → Type 0
Taken n p here disk = (s : Node) → IsMachineOf n p here s → (d : DiskState) × MemoryStandsFor disk d × Keeps p n s.entries s.in_flight d

pub closed_at : (n p : ℕ) (here : Machine) (node : Running MemDisk) (armed : Bool) (disk : MemDisk) → here ≡ Open node armed
    → ((s : Node) (d : DiskState) → IsOnDisk Stands node s d → MemoryStandsFor disk d × Keeps node.me node.cluster s.entries s.in_flight d) → Taken n p here disk
closed_at n p here node armed disk is keeps s at =
    let mine : IsOpen n p node armed s = subst (λ (x : Machine). IsMachineOf n p x s) is at in
    let kept = keeps s mine.state mine.on_disk in
    (mine.state, kept.0, subst (λ (k : ℕ). Keeps p k s.entries s.in_flight mine.state) mine.cluster (subst (λ (q : ℕ). Keeps q node.cluster s.entries s.in_flight mine.state) mine.me kept.1))

pub bare_at : (n p : ℕ) (here : Machine) (disk : MemDisk) → here ≡ Bare disk → Taken n p here disk
bare_at n p here disk is s at = let mine = subst (λ (x : Machine). IsMachineOf n p x s) is at in (mine.state, mine.stands, mine.keeps)

-- so it does once it is disarmed
pub reopened : (n p : ℕ) (here : Machine) (disk disarmed : MemDisk) → Taken n p here disk → ((d : DiskState) → MemoryStandsFor disk d → MemoryStandsFor disarmed d) → Taken n p here disarmed
reopened n p here disk disarmed taken same s at = let kept = taken s at in (kept.0, same kept.0 kept.1, kept.2)

pub crashed : (n p : ℕ) (here : Machine) (disk after : MemDisk) → Taken n p here disk
    → ((d : DiskState) → MemoryStandsFor disk d → (left : List ℕ) × MayLeave (moment d) left × MemoryStandsFor after (at_rest left []))
    → Turns n p (λ s out next. Settled Down s out next) here (Bare after) [] []
crashed n p here disk after taken leaves = record {
  leads = λ s at.
      let kept = taken s at in
      let left = leaves kept.0 kept.1 in
      let settled = crash_settles p n s.entries s.in_flight kept.0 left.0 kept.2 left.1 in
      record {
        next = opened Down settled.0 None;
        out = [];
        does = (settled.0, settled.1, refl, refl);
        stands = record { down = refl; state = at_rest left.0 []; stands = left.2; keeps = settled.2 [] };
        outbox = refl;
        messages = λ m k. absurd k;
      };
}

pub opened_again : (n p : ℕ) (here : Machine) (disk : MemDisk) (new : Running MemDisk) → Taken n p here disk → (entries : List Entry) × OpensAs Stands disk new entries → new.me ≡ p → new.cluster ≡ n
    → Turns n p (λ s out next. Settled Up s out next) here (Open new false) [] []
opened_again n p here disk new taken opens me cluster = record {
  leads = λ s at.
      let kept = taken s at in
      let entries = opens.0 in
      let keeps : Keeps new.me new.cluster s.entries s.in_flight kept.0 =
      subst (λ (k : ℕ). Keeps new.me k s.entries s.in_flight kept.0) (sym cluster) (subst (λ (q : ℕ). Keeps q n s.entries s.in_flight kept.0) (sym me) kept.2) in
      record {
        next = opened Up entries None;
        out = [];
        does = (entries, opens.1.settles kept.0 s.entries s.in_flight kept.1 keeps, refl, refl);
        stands = record { me = me; cluster = cluster; stands = opens.1.stands; mark = refl; state = after_sync kept.0; on_disk = opens.1.on_disk kept.0 kept.1 };
        outbox = refl;
        messages = λ m k. absurd k;
      };
}

pub refused_opening : {A : Type 0} (n p : ℕ) (here : Machine) (disk after : MemDisk) → Taken n p here disk
    → ((d : DiskState) → MemoryStandsFor disk d → MemoryStandsFor after (after_sync d) ⊎ (MemoryStandsFor after d × A)) → RefusesOpening n p here (Bare after)
refused_opening {A} n p here disk after taken refuses = record {
  leads = λ s at.
      let kept = taken s at in
      ⊎_elim
      (λ (synced : MemoryStandsFor after (after_sync kept.0)). record { down = refl; state = after_sync kept.0; stands = synced; keeps = (sync_keeps p n s.entries s.in_flight kept.0 kept.2).0 })
      (λ (same : MemoryStandsFor after kept.0 × A). record { down = refl; state = kept.0; stands = same.0; keeps = kept.2 })
      (refuses kept.0 kept.1);
}

-- ---- a replacement

-- a disk that was just formatted, with only that floor on record
pub replaced : (n p floor : ℕ) (here : Machine) (disk : MemDisk) (d : DiskState) → MemoryStandsFor disk d → IsSettled d → StandsFor p n d.seen (Floor floor ∷ [])
    → Turns n p (λ s out next. (out ≡ []) × (next ≡ opened Down (Floor floor ∷ []) None)) here (Bare disk) [] []
replaced n p floor here disk d stands settled reads = record {
  leads = λ s at. record {
    next = opened Down (Floor floor ∷ []) None;
    out = [];
    does = (refl, refl);
    stands = record { down = refl; state = d; stands = stands; keeps = settled_keeps p n (Floor floor ∷ []) d settled reads };
    outbox = refl;
    messages = λ m k. absurd k;
  };
}

-- ---- a delivery

-- a stopped node refuses it
pub stopped_at : (message : Message) (here : Machine) (node : Running MemDisk) (armed : Bool) (before : Handed) → here ≡ Open node armed → ((s : Node) → IsNodeOf node s → s.mode ≡ Stopped) → (n p : ℕ) → CallTurns n p (deliver message) here (Open node armed) before before
stopped_at message here node armed before is stops n p = subst (λ (x : Machine). Turns n p (λ s out next. AtNode n p s (deliver message) out next) x (Open node armed) before before) (sym is) (record {
  leads = λ s stands. record {
    next = s;
    out = [];
    does = inl (Refused Stopping, tt, record { refuses = stops s stands.stands; nothing = refl; node = refl });
    stands = stands;
    outbox = sym (append-nil before);
    messages = λ m k. absurd k;
  };
})

-- what may want memory runs
pub up_wanting : (n p : ℕ) (call : Call) (old new : Machine) (before after : Handed) → CallWants n p call old new before after → Wants n p IsUp old new before after
up_wanting n p call old new before after wants = record { leads = λ s at. let w = wants.leads s at in (w.0.0, w.1, w.2, w.3) }

-- an allocation for the copy may fail if the node runs
pub copy_wanted : (here : Machine) (node : Running MemDisk) (armed : Bool) (before : Handed) → here ≡ Open node armed → ((s : Node) → IsNodeOf node s → ¬ (s.mode ≡ Stopped)) → (n p : ℕ) → Wants n p IsUp here (Open node armed) before before
copy_wanted here node armed before is runs n p = subst (λ (x : Machine). Wants n p IsUp x (Open node armed) before before) (sym is) (record {
  leads = λ s stands. (is_running node.store.stopped s.mode stands.stands.parts.on_record.mode_is (runs s stands.stands), stands, refl, (λ published. published));
})

-- no message of the cluster is ignored
pub not_passed : (message : Message) (here new : Machine) (node : Running MemDisk) (armed : Bool) (before : Handed) → here ≡ Open node armed → ¬ IsMessage node.cluster message → (n p : ℕ) → IsMessage n message → CallTurns n p (deliver message) here new before before
not_passed message here new node armed before is alien n p mine = subst (λ (x : Machine). Turns n p (λ s out next. AtNode n p s (deliver message) out next) x new before before) (sym is) (record {
  leads = λ s stands. absurd (alien (subst (λ (k : ℕ). IsMessage k message) (sym stands.cluster) mine));
})

-- the message at a place of the list
at_index : (sent : Handed) (k : ℕ) (x : To × Message) (message : Message) → x ≡ get_or sent k x → slice_get (messages_of sent) k ≡ Some message → x.1 ≡ message
at_index [] k x message is got = cc
at_index (y ∷ ys) zero x message is got = cc
at_index (y ∷ ys) (suc k) x message is got = at_index ys k x message is got

-- so is its copy
pub copy_at : (sent : Handed) (k : ℕ) (x : To × Message) (copy message : Message) → copy ≡ x.1 → x ≡ get_or sent k x → slice_get (messages_of sent) k ≡ Some message → copy ≡ message
copy_at sent k x copy message same is got = same ∙ at_index sent k x message is got

pub turns_of : (copy message : Message) (here new : Machine) (before after : Handed) → copy ≡ message → ((n p : ℕ) → IsMessage n copy → CallTurns n p (deliver copy) here new before after)
    → (n p : ℕ) → IsMessage n message → CallTurns n p (deliver message) here new before after
turns_of copy message here new before after same turns n p mine = subst (λ (m : Message). CallTurns n p (deliver m) here new before after) same (turns n p (subst (λ (m : Message). IsMessage n m) (sym same) mine))

pub not_both : (b : Bool) → b ≡ false → IsTrue b → ⊥
not_both b off on = let both : false ≡ true = sym off ∙ on in cc

pub err_of : {T E A : Type 0} (r : Result T E) → true ≡ is_err r → OnErr r A → A
err_of (Ok x) is a = cc
err_of (Err y) is a = a

pub err_given : {T E A : Type 0} (r : Result T E) → A → OnErr r A
err_given (Ok x) a = tt
err_given (Err y) a = a

pub alien : (told : Bool) (message : Message) (n k : ℕ) → n ≡ k → told ≡ false → (IsMessage n message → IsTrue told) → ¬ IsMessage k message
alien told message n k same is tells mine = not_both told is (tells (subst (λ (x : ℕ). IsMessage x message) (sym same) mine))

pub passed_at : (n p : ℕ) (call : Call) (here : Machine) (disk : MemDisk) (before : Handed) → here ≡ Bare disk → CallTurns n p call here here before before
passed_at n p call here disk before is = subst (λ (x : Machine). CallTurns n p call x x before before) (sym is) (passed_over n p call disk before)

-- ---- a fresh node

pub ok_of : {T E A : Type 0} (r : Result T E) → false ≡ is_err r → OnOk r A → A
ok_of (Ok x) is a = a
ok_of (Err y) is a = cc

fresh_entries : (found : List Entry) → Settles [] None found → found ≡ []
fresh_entries found settles = ⊎_elim (λ is. is) (λ is. is) settles

-- a node that opens over a disk just formatted
pub freshly_open : (n p : ℕ) (disk : MemDisk) (new : Running MemDisk) (d : DiskState) → MemoryStandsFor disk d → IsSettled d → StandsFor p n d.seen [] → (entries : List Entry) × OpensAs Stands disk new entries → new.me ≡ p → new.cluster ≡ n
    → IsOpen n p new false (opened Up [] None)
freshly_open n p disk new d stands settled reads opens me cluster =
    let keeps : Keeps new.me new.cluster [] None d =
    subst (λ (k : ℕ). Keeps new.me k [] None d) (sym cluster) (subst (λ (q : ℕ). Keeps q n [] None d) (sym me) (settled_keeps p n [] d settled reads)) in
    let none = fresh_entries opens.0 (opens.1.settles d [] None stands keeps) in
    record {
      me = me;
      cluster = cluster;
      stands = subst (λ (l : List Entry). IsNodeOf new (opened Up l None)) none opens.1.stands;
      mark = refl;
      state = after_sync d;
      on_disk = subst (λ (l : List Entry). IsOnDisk Stands new (opened Up l None) (after_sync d)) none (opens.1.on_disk d stands);
    }
