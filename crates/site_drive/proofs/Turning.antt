-- One turn: what was heard, what the node does with it, and what is sent.
use Rattle.std.proofs.Common.{◌≡◌, ◌⊎◌, inl, inr, ⊎_elim, ℕ, zero, suc, ◌+◌, ◌≤◌, ◌<◌, Option, Some, None, List, [], ◌∷◌, ◌++◌, length, take, refl, sym, ap, subst, append-nil, arith}
use Rattle.std.specs.Prelude.{IfSome, IfNone}
use Rattle.std.proofs.lemmas.List.{length-take}
use Rattle.std.proofs.Math.Seq.{take-append_seam}
use Rattle.site_disk.specs.Model.{DiskState}
use Rattle.wire.specs.declared.TheConstants.{MAX_MESSAGE}
use Rattle.wire.specs.declared.message.Message.{Message}
use Rattle.wire.specs.Decoding.{Spells}
use Rattle.wire.proofs.LengthLemmas.{longest_spelling}
use Rattle.node.specs.declared.fault.NodeFault.{NodeFault}
use Rattle.node.specs.declared.fault.NodeFault.TheVariants as fault
use Rattle.node.specs.declared.to.To.{To}
use Rattle.node.specs.declared.node.Node.{Node as Running}
use Rattle.node.specs.Nodes.{Node, IsKnownPrefix}
use Rattle.node.specs.Calls.{Call, deliver}
use Rattle.node.specs.Endings.{Whole, Ends}
use Rattle.node.specs.Standing.{IsNodeOf, IsOnDisk, IsEvent, ending_by}
use Rattle.site_drive.proofs.Giving.{take_past}
use Rattle.site_drive.specs.Drives.{Heard, Takes, datagrams, sent_of, Exchanges, BreaksOff, GivesUp}
use Rattle.site_drive.specs.Leading.{AllFit, NodeLeads, TakesIn, LeadsTo, IsHeldAs}

-- ---- what was heard

pub written_back : (len : ℕ) (buf items : List ℕ) → length buf ≡ len → take len (buf ++ items) ≡ buf
written_back len buf items is = subst (λ k. take k (buf ++ items) ≡ buf) is (take-append_seam buf items)

pub heard_as : (Before After : List (List ℕ) → Type 0) (came : Option ℕ) (buf : List ℕ)
    → IfSome came (λ n. (ds : List (List ℕ)) → Before ds → (d : List ℕ) × After (ds ++ d ∷ []) × (take n buf ≡ take (length buf) d))
    → IfNone came ((ds : List (List ℕ)) → Before ds → After ds)
    → (ds : List (List ℕ)) → Before ds → (h : Heard) × After (ds ++ datagrams (h ∷ [])) × IsHeldAs came buf h
heard_as Before After (Some n) buf some none ds h = let r = some ds h in (Some r.0, r.1, r.2)
heard_as Before After None buf some none ds h = (None, subst After (sym (append-nil ds)) (none ds h), tt)

le_or_above : (a b : ℕ) → (a ≤ b) ⊎ (b < a)
le_or_above zero b = inl (omega arith)
le_or_above (suc a) zero = inr (omega arith)
le_or_above (suc a) (suc b) = ⊎_elim (λ h. inl (omega (arith, h))) (λ h. inr (omega (arith, h))) (le_or_above a b)

-- a datagram that was cut is longer than any spelling
too_long : (n : ℕ) (d : List ℕ) (m : Message) → MAX_MESSAGE < length d → Spells n d m → ⊥
too_long n d m long spells = absurd (omega (arith, long, longest_spelling m spells.0.fits, ap length spells.1))

module _ (n k : ℕ) (d : List ℕ) (room : k ≡ MAX_MESSAGE + 1) where
  cut_or_whole : (take k d ≡ d) ⊎ ((MAX_MESSAGE < length d) × (MAX_MESSAGE < length (take k d)))
  cut_or_whole = elim (le_or_above (length d) k) [
    | inl fits ↦ inl (take_past d k fits)
    | inr long ↦ inr (omega (arith, long, room), omega (arith, length-take k d, long, room))
  ]

  pub spells_whole : (m : Message) → Spells n (take k d) m → Spells n d m
  spells_whole m spells = ⊎_elim (λ same. subst (λ b. Spells n b m) same spells) (λ long. absurd (too_long n (take k d) m long.1 spells)) cut_or_whole

  pub spells_cut : (m : Message) → Spells n d m → Spells n (take k d) m
  spells_cut m spells = ⊎_elim (λ same. subst (λ b. Spells n b m) (sym same) spells) (λ long. absurd (too_long n d m long.0 spells)) cut_or_whole

-- ---- a delivery

pub nothing_out : (n p : ℕ) (s next : Node) (call : Call) (out : List (To × Message)) (why : NodeFault) → Ends n p s call (ending_by why) out next → out ≡ []
nothing_out n p s next call out fault.OutOfMemory h = h.nothing
nothing_out n p s next call out fault.Device h = h.nothing
nothing_out n p s next call out fault.Stopped h = h.nothing
nothing_out n p s next call out fault.QueueFull h = h.nothing
nothing_out n p s next call out (fault.NotACommand why) h = h.nothing
nothing_out n p s next call out fault.InstancesUsedUp h = h.nothing
nothing_out n p s next call out fault.RoundsUsedUp h = h.nothing
nothing_out n p s next call out fault.Conflict h = h.nothing

pub none_out : (n p : ℕ) (s next : Node) (call : Call) (out : List (To × Message)) (why : NodeFault) → Ends n p s call (ending_by why) out next → Ends n p s call (ending_by why) [] next
none_out n p s next call out why h = subst (λ l. Ends n p s call (ending_by why) l next) (nothing_out n p s next call out why h) h

module _ {D : Type 0} (stands_for : D → DiskState → Type 0) (old new : Running D) (bytes : List ℕ) (m : Message) (before after : List (To × Message)) (spells : Spells old.cluster bytes m) where
  pub taken : IsEvent stands_for old new (deliver m) Whole before after → NodeLeads stands_for old new (TakesIn old.cluster old.me (Some bytes) 0 before after)
  taken event = record {
    leads = λ s stands.
        let h = event.leads s stands in
        (h.next, (h.out, h.outbox, inl (m, spells, h.ends, refl), λ x k. (h.messages x k).fits), h.stands, (λ d on. let e = h.on_disk d on in (e.0, e.1)), h.ahead);
  }

  pub broken : (why : NodeFault) → IsEvent stands_for old new (deliver m) (ending_by why) before after
      → NodeLeads stands_for old new (λ s next. BreaksOff old.cluster old.me s bytes why next)
  broken why event = record {
    leads = λ s stands.
        let h = event.leads s stands in (
          h.next,
          (m, spells, inl (none_out old.cluster old.me s h.next (deliver m) h.out why h.ends)),
          h.stands,
          (λ d on. let e = h.on_disk d on in (e.0, e.1)),
          h.ahead,
        );
  }

-- nothing was delivered
pub passed : {D : Type 0} (stands_for : D → DiskState → Type 0) (old : Running D) (bytes : List ℕ) (waits : List (To × Message)) → ((m : Message) → ¬ Spells old.cluster bytes m)
    → NodeLeads stands_for old old (TakesIn old.cluster old.me (Some bytes) 1 waits waits)
passed stands_for old bytes waits none = record {
  leads = λ s stands. (s, ([], sym (append-nil waits), inr (none, refl, refl, refl), λ x k. absurd k), stands, (λ d on. (d, on)), λ b d of. of);
}

-- an allocation failed as it was read
pub unread : {D : Type 0} (stands_for : D → DiskState → Type 0) (old : Running D) (bytes : List ℕ) → ((m : Message) × Spells old.cluster bytes m)
    → NodeLeads stands_for old old (λ s next. BreaksOff old.cluster old.me s bytes fault.OutOfMemory next)
unread stands_for old bytes some = record { leads = λ s stands. (s, (some.0, some.1, inr (refl, refl)), stands, (λ d on. (d, on)), λ b d of. of) }

-- whatever the buffer kept of what was heard
module _ {D : Type 0} (stands_for : D → DiskState → Type 0) (old new : Running D) (buffer : List ℕ) (room : length buffer ≡ MAX_MESSAGE + 1) (k n p : ℕ) where
  takes_heard : (s next : Node) (d : List ℕ) (malformed : ℕ) (out : List (To × Message)) → take k buffer ≡ take (length buffer) d
      → Takes n p s (Some (take k buffer)) malformed out next → Takes n p s (Some d) malformed out next
  takes_heard s next d malformed out is (inl h) = inl (h.0, spells_whole n (length buffer) d room h.0 (subst (λ b. Spells n b h.0) is h.1), h.2, h.3)
  takes_heard s next d malformed out is (inr h) = inr (λ m spells. h.0 m (subst (λ b. Spells n b m) (sym is) (spells_cut n (length buffer) d room m spells)), h.1, h.2, h.3)

  pub took_some : (malformed : ℕ) (before after : List (To × Message)) → NodeLeads stands_for old new (TakesIn n p (Some (take k buffer)) malformed before after)
      → (h : Heard) → IsHeldAs (Some k) buffer h → NodeLeads stands_for old new (TakesIn n p h malformed before after)
  took_some malformed before after leads None is = absurd is
  took_some malformed before after leads (Some d) is = record {
    leads = λ s stands.
        let r = leads.leads s stands in
        (r.0, (r.1.0, r.1.1, takes_heard s r.0 d malformed r.1.0 is r.1.2, r.1.3), r.2, r.3, r.4);
  }

  pub broke_some : (why : NodeFault) → NodeLeads stands_for old new (λ s next. BreaksOff n p s (take k buffer) why next)
      → (h : Heard) → IsHeldAs (Some k) buffer h → NodeLeads stands_for old new (λ s next. (d : List ℕ) × (h ≡ Some d) × BreaksOff n p s d why next)
  broke_some why leads None is = absurd is
  broke_some why leads (Some d) is = record {
    leads = λ s stands.
        let r = leads.leads s stands in
        let o = r.1 in
        (r.0, (d, refl, (o.0, spells_whole n (length buffer) d room o.0 (subst (λ b. Spells n b o.0) is o.1), o.2)), r.2, r.3, r.4);
  }

pub took_none : {D : Type 0} (stands_for : D → DiskState → Type 0) (old : Running D) (n p : ℕ) (waits : List (To × Message)) (buffer : List ℕ) (h : Heard) → IsHeldAs None buffer h
    → NodeLeads stands_for old old (TakesIn n p h 0 waits waits)
took_none stands_for old n p waits buffer None is = record { leads = λ s stands. (s, ([], sym (append-nil waits), (refl, refl, refl), λ x k. absurd k), stands, (λ d on. (d, on)), λ b d of. of) }
took_none stands_for old n p waits buffer (Some d) is = absurd is

-- ---- a turn

module _ {D L : Type 0} (stands_for : D → DiskState → Type 0) (received : L → List (List ℕ) → Type 0) (given : L → List (ℕ × List ℕ) → Type 0)
    (old mid : Running D) (before heard_by : L) (n p : ℕ) (malformed : ℕ) (out : List (To × Message)) (came : Option ℕ) (buffer : List ℕ)
    (hears : (ds : List (List ℕ)) → received before ds → (h : Heard) × received heard_by (ds ++ datagrams (h ∷ [])) × IsHeldAs came buffer h)
    (keeps_given : (gs : List (ℕ × List ℕ)) → given before gs → given heard_by gs)
  where
    abbrev Took : Type 0
    Took = (h : Heard) → IsHeldAs came buffer h → NodeLeads stands_for old mid (λ s next. Takes n p s h malformed out next × AllFit out)

    -- the node publishes, and this is sent
    module _ (took : Took) (new : Running D) (after : L) (same : (s : Node) → IsNodeOf mid s → IsNodeOf new s)
        (same_disk : (s : Node) (d : DiskState) → IsOnDisk stands_for mid s d → IsOnDisk stands_for new s d)
        (keeps_received : (ds : List (List ℕ)) → received heard_by ds → received after ds)
      where
        pub turned : ((s : Node) → IsNodeOf mid s → IsKnownPrefix s new.releases)
            → (AllFit out → (gs : List (ℕ × List ℕ)) → given heard_by gs → given after (gs ++ sent_of n out))
            → LeadsTo stands_for received given old new before after (Exchanges n p 1 malformed new.releases)
        turned fed sends = record {
          leads = λ x at.
              let heard = hears x.received at.heard in
              let r = (took heard.0 heard.2).leads x.node at.node in (
                record { node = r.0; received = x.received ++ datagrams (heard.0 ∷ []); given = x.given ++ sent_of n out },
                record {
                  heard = heard.0 ∷ [];
                  out = out;
                  turns_are = refl;
                  takes = (r.0, malformed, 0, out, [], r.1.0, (refl, refl, refl), omega arith, sym (append-nil out));
                  received = refl;
                  given = refl;
                  fed_is = λ some. fed r.0 r.2;
                },
                record { node = same r.0 r.2; heard = keeps_received _ heard.1; told = sends r.1.1 x.given (keeps_given x.given at.told) },
                λ d on. let e = r.3 d on in (e.0, same_disk r.0 e.0 e.1),
              );
        }

        -- or an allocation fails for it
        pub turned_short : (why : NodeFault) → why ≡ fault.OutOfMemory
            → (AllFit out → (gs : List (ℕ × List ℕ)) → given heard_by gs → (k : ℕ) × given after (gs ++ take k (sent_of n out)))
            → LeadsTo stands_for received given old new before after (GivesUp n p 1 why)
        turned_short why is sends = record {
          leads = λ x at.
              let heard = hears x.received at.heard in
              let r = (took heard.0 heard.2).leads x.node at.node in
              let sent = sends r.1.1 x.given (keeps_given x.given at.told) in (
                record { node = r.0; received = x.received ++ datagrams (heard.0 ∷ []); given = x.given ++ take sent.0 (sent_of n out) },
                record {
                  heard = heard.0 ∷ [];
                  malformed = malformed;
                  out = out;
                  mid = r.0;
                  taken = (r.0, malformed, 0, out, [], r.1.0, (refl, refl, refl), omega arith, sym (append-nil out));
                  given = (sent.0, refl);
                  how = inr (is, refl, refl, omega arith);
                },
                record { node = same r.0 r.2; heard = keeps_received _ heard.1; told = sent.1 },
                λ d on. let e = r.3 d on in (e.0, same_disk r.0 e.0 e.1),
              );
        }

    -- the delivery broke off
    pub turned_off : (why : NodeFault)
        → ((h : Heard) → IsHeldAs came buffer h → NodeLeads stands_for old mid (λ s next. (d : List ℕ) × (h ≡ Some d) × BreaksOff n p s d why next))
        → LeadsTo stands_for received given old mid before heard_by (GivesUp n p 1 why)
    turned_off why off = record {
      leads = λ x at.
          let heard = hears x.received at.heard in
          let r = (off heard.0 heard.2).leads x.node at.node in (
            record { node = r.0; received = x.received ++ datagrams (heard.0 ∷ []); given = x.given },
            record {
              heard = [];
              malformed = 0;
              out = [];
              mid = x.node;
              taken = (refl, refl, refl);
              given = (0, sym (append-nil x.given));
              how = inl (r.1.0, r.1.2, ap (λ h. x.received ++ datagrams (h ∷ [])) r.1.1, omega arith);
            },
            record { node = r.2; heard = heard.1; told = keeps_given x.given at.told },
            r.3,
          );
    }
