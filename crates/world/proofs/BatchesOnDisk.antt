-- What an open batch of a running node, its seal and an opening leave on the disk is what the runs of the batch do.
use Rattle.std.proofs.Common.{◌≡◌, inl, inr, ℕ, Option, Some, None, List, [], ◌∷◌, ◌++◌, refl, sym, ap, subst, ◌∙◌, ⊎_elim, append-nil, append_assoc}
use Rattle.site_disk.specs.Model.{DiskState, MayLeave, LeavesOnly, moment}
use Rattle.wire.specs.declared.message.Message.{Message}
use Rattle.durable.specs.Entries.{Entry}
use Rattle.durable.specs.Standing.{StandsFor}
use Rattle.node.specs.declared.node.Node.{Node as Running}
use Rattle.node.specs.declared.to.To.{To}
use Rattle.node.specs.Nodes.{Node}
use Rattle.node.specs.Calls.{Call}
use Rattle.node.specs.Effects.{messages_of}
use Rattle.node.specs.Endings.{Ending, Ends}
use Rattle.node.specs.Batches.{SealsAt, LosesOneOf}
use Rattle.node.specs.Standing.{IsNodeOf, IsOnDisk, IsEither}
use Rattle.world.specs.declared.event.Event.{Event}
use Rattle.world.specs.Worlds.{World}
use Rattle.world.specs.Batches.{AllEnd, IsOpenAt, IsLeft, CrashesAround, CallsGoOn, LeftBefore, LeftSealed, LeftFailed, OpenedOver}
use Rattle.durable.proofs.Moments.{weaker}
use Rattle.durable.proofs.Prefix.{stands_for_one}
use Rattle.durable.proofs.Torn.{settled_leaves}
use Rattle.world.proofs.Batching.{crash_is_a_run}

-- ---- a call more

one_more : (n p : ℕ) (s t : Node) (calls : List Call) (out : List (To × Message)) (call : Call) (ending : Ending) (more : List (To × Message)) (next : Node) → AllEnd n p s calls out t → Ends n p t call ending more next
    → AllEnd n p s (calls ++ call ∷ []) (out ++ more) next
one_more n p s t [] out call ending more next all ends =
    (ending, more, next, [], subst (λ x. Ends n p x call ending more next) all.1 ends, (refl, refl), ap (λ l. l ++ more) all.0 ∙ sym (append-nil more))
one_more n p s t (c ∷ calls) out call ending more next (e, first, mid, then, one, rest, joined) ends =
    (e, first, mid, then ++ more, one, one_more n p mid t calls then call ending more next rest ends, ap (λ l. l ++ more) joined ∙ append_assoc first then more)

some_in_flight : (e : Entry) → ◌≡◌ {A = Option Entry} None (Some e) → ⊥
some_in_flight e x = cc

module _ {D : Type 0} (stands_for : D → DiskState → Type 0) where
  -- a failure would leave an entry in flight
  pub calls_go_on : CallsGoOn stands_for
  calls_go_on old new call ending before after event n p s t calls out d me cluster stands of all =
      let to = event.leads t stands in
      let ahead = to.ahead s d of in
      let ends = subst (λ q. Ends n q t call ending to.out to.next) me (subst (λ k. Ends k old.me t call ending to.out to.next) cluster to.ends) in
      record {
        next = to.next;
        more = to.out;
        ends = one_more n p s t calls out call ending to.out to.next all ends;
        stands = to.stands;
        ahead = ahead;
        outbox = to.outbox;
        unfailed = λ failed.
            let lost = subst (λ x. Ends n p t call x to.out to.next) failed ends in
            some_in_flight lost.entry (sym ahead.after ∙ ap (λ (x : Node). x.in_flight) lost.node);
      }

  -- ---- what is left

  module _ (code : Running D) (n : ℕ) (w : World) (events : List Event) (p : ℕ) (out : List (To × Message)) (next : Node) (d : DiskState) (is : IsOpenAt stands_for code n w events p out next d) where
    abbrev left : (file : List ℕ) → IsEither code.me code.cluster (w.node p) next file → IsLeft n w events p (messages_of out) file
    left file either = crash_is_a_run n w events p out next is.batch file
        (subst (λ q. IsEither q n (w.node p) next file) is.me (subst (λ k. IsEither code.me k (w.node p) next file) is.cluster either))

    before : (file : List ℕ) → MayLeave (moment d) file → IsLeft n w events p (messages_of out) file
    before file may =
        let has = is.ahead.ahead.staged in
        let s : Node = w.node p in
        let here : StandsFor code.store.node code.store.cluster file s.entries = subst (λ (l : List ℕ). StandsFor code.store.node code.store.cluster l s.entries) (sym (settled_leaves d file has.settled may)) has.waits.stands in
        let mine = subst (λ (q : ℕ). StandsFor q code.cluster file s.entries) code.store_node (subst (λ (k : ℕ). StandsFor code.store.node k file s.entries) code.store_cluster here) in
        left file (inl (s.entries, inl refl, mine))

    leaves : (e : DiskState) → LeavesOnly d e (IsEither code.me code.cluster (w.node p) next) → LeavesOnly d e (IsLeft n w events p (messages_of out))
    leaves e only = weaker d e (IsEither code.me code.cluster (w.node p) next) (IsLeft n w events p (messages_of out)) left only

    sealed : (new : Running D) → IsNodeOf code next → SealsAt stands_for code new → (e : DiskState) × IsOnDisk stands_for new next e × LeavesOnly d e (IsLeft n w events p (messages_of out))
    sealed new stands seals = let to = seals (w.node p) next d stands is.ahead in (to.0, to.1, leaves to.0 to.2)

    failed : (disk : D) → LosesOneOf stands_for code disk → (e : DiskState) × stands_for disk e × LeavesOnly d e (IsLeft n w events p (messages_of out)) × IsLeft n w events p (messages_of out) e.seen
    failed disk loses =
        let s : Node = w.node p in
        let to = loses s next d is.ahead in
        let read : IsEither code.me code.cluster s next to.0.seen = ⊎_elim
        (λ none. inl (s.entries, inl refl, none))
        (λ all. inr (next.entries, inl refl, subst (λ (es : List Entry). StandsFor code.me code.cluster to.0.seen es) (sym is.ahead.entries) all))
        to.3.read in
        (to.0, to.1, leaves to.0 to.2, left to.0.seen read)

  pub left_before : LeftBefore stands_for
  left_before = before

  pub left_sealed : LeftSealed stands_for
  left_sealed old new n w events p out next d is = sealed old n w events p out next d is new

  pub left_failed : LeftFailed stands_for
  left_failed old disk n w events p out next d is = failed old n w events p out next d is disk

  -- ---- an opening

  pub opened_over : OpenedOver stands_for
  opened_over disk d code entries opens stands n w events p out me cluster left =
      let here = subst (λ q. StandsFor q n d.seen entries) me (subst (λ k. StandsFor code.me k d.seen entries) cluster (opens.reads d stands)) in
      subst (λ (es : List Entry). CrashesAround n w events p out es) (stands_for_one p n d.seen left.0 entries left.1 here) left.2
