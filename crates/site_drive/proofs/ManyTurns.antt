-- Turn after turn.
use Rattle.std.proofs.Common.{◌≡◌, inl, inr, ⊎_elim, ℕ, ◌+◌, ◌<◌, Some, None, List, [], ◌∷◌, ◌++◌, length, take, refl, sym, ap, subst, ◌∙◌, append-nil, append_assoc, arith}
use Rattle.std.proofs.lemmas.List.{length-append}
use Rattle.std.proofs.lemmas.Grind.{flat_map-append}
use Rattle.std.proofs.Math.Seq.{take-append-add}
use Rattle.site_disk.specs.Model.{DiskState}
use Rattle.wire.specs.declared.message.Message.{Message}
use Rattle.node.specs.declared.fault.NodeFault.{NodeFault}
use Rattle.node.specs.declared.fault.NodeFault.TheVariants as fault
use Rattle.node.specs.declared.to.To.{To}
use Rattle.node.specs.declared.node.Node.{Node as Running}
use Rattle.node.specs.Nodes.{Node}
use Rattle.site_drive.specs.Drives.{Heard, TakesAll, datagrams, addressed, sent_of, Scene, Exchanges, GivesUp}
use Rattle.site_drive.specs.Leading.{LeadsTo, StaysWhose}

pub takes_on : (n p : ℕ) (s mid next : Node) (hs ks : List Heard) (a b : ℕ) (first later : List (To × Message))
    → TakesAll n p s hs a first mid → TakesAll n p mid ks b later next → TakesAll n p s (hs ++ ks) (a + b) (first ++ later) next
takes_on n p s mid next [] ks a b first later (none, empty, same) more =
    subst (λ k. TakesAll n p s ks (k + b) (first ++ later) next) (sym none)
    (subst (λ l. TakesAll n p s ks (0 + b) (l ++ later) next) (sym empty) (subst (λ u. TakesAll n p u ks (0 + b) later next) same (subst (λ k. TakesAll n p mid ks k later next) (plus b) more)))
  where
    plus : (k : ℕ) → k ≡ 0 + k
    plus k = omega arith
takes_on n p s mid next (h ∷ hs) ks a b first later (u, one, others, out, then, taken, rest, sum, joined) more =
    (u, one, others + b, out, then ++ later, taken, takes_on n p u mid next hs ks others b then later rest more, omega (arith, sum), ap (λ l. l ++ later) joined ∙ append_assoc out then later)

pub datagrams_on : (hs ks : List Heard) → datagrams (hs ++ ks) ≡ datagrams hs ++ datagrams ks
datagrams_on [] ks = refl
datagrams_on (None ∷ hs) ks = datagrams_on hs ks
datagrams_on (Some d ∷ hs) ks = ap (λ l. d ∷ l) (datagrams_on hs ks)

pub received_on : (ds es fs : List (List ℕ)) (hs ks : List Heard) → es ≡ ds ++ datagrams hs → fs ≡ es ++ datagrams ks → fs ≡ ds ++ datagrams (hs ++ ks)
received_on ds es fs hs ks first then =
    then ∙ ap (λ l. l ++ datagrams ks) first ∙ append_assoc ds (datagrams hs) (datagrams ks) ∙ ap (λ l. ds ++ l) (sym (datagrams_on hs ks))

module _ (n : ℕ) (gs is : List (ℕ × List ℕ)) (first later : List (To × Message)) (begun : is ≡ gs ++ sent_of n first) where
  pub given_on : (js : List (ℕ × List ℕ)) → js ≡ is ++ sent_of n later → js ≡ gs ++ sent_of n (first ++ later)
  given_on js more =
      more ∙ ap (λ l. l ++ sent_of n later) begun ∙ append_assoc gs (sent_of n first) (sent_of n later) ∙ ap (λ l. gs ++ l) (sym (flat_map-append (addressed n) first later))

  pub partly_on : (js : List (ℕ × List ℕ)) (k : ℕ) → js ≡ is ++ take k (sent_of n later) → js ≡ gs ++ take (length (sent_of n first) + k) (sent_of n (first ++ later))
  partly_on js k more =
      more ∙ ap (λ l. l ++ take k (sent_of n later)) begun ∙ append_assoc gs (sent_of n first) (take k (sent_of n later))
      ∙ ap (λ l. gs ++ l) (sym (take-append-add (sent_of n first) (sent_of n later) k))
      ∙ ap (λ l. gs ++ take (length (sent_of n first) + k) l) (sym (flat_map-append (addressed n) first later))

module _ (n p a malformed : ℕ) (fed : List (List ℕ)) (x y : Scene) (earlier : Exchanges n p a malformed fed x y) where
  pub exchanged_on : (one : ℕ) (fed_then : List (List ℕ)) (z : Scene) → Exchanges n p 1 one fed_then y z → Exchanges n p (a + 1) (malformed + one) fed_then x z
  exchanged_on one fed_then z last = record {
    heard = earlier.heard ++ last.heard;
    out = earlier.out ++ last.out;
    turns_are = length-append earlier.heard last.heard ∙ ap (λ k. k + length last.heard) earlier.turns_are ∙ ap (λ k. a + k) last.turns_are;
    takes = takes_on n p x.node y.node z.node earlier.heard last.heard malformed one earlier.out last.out earlier.takes last.takes;
    received = received_on x.received y.received z.received earlier.heard last.heard earlier.received last.received;
    given = given_on n x.given y.given earlier.out last.out earlier.given z.given last.given;
    fed_is = λ some. last.fed_is λ none. absurd (omega (arith, none));
  }

  pub gave_up_on : (turns : ℕ) (why : NodeFault) (z : Scene) → a < turns → GivesUp n p 1 why y z → GivesUp n p turns why x z
  gave_up_on turns why z below last = record {
    heard = earlier.heard ++ last.heard;
    malformed = malformed + last.malformed;
    out = earlier.out ++ last.out;
    mid = last.mid;
    taken = takes_on n p x.node y.node last.mid earlier.heard last.heard malformed last.malformed earlier.out last.out earlier.takes last.taken;
    given = (length (sent_of n earlier.out) + last.given.0, partly_on n x.given y.given earlier.out last.out earlier.given z.given last.given.0 last.given.1);
    how = ⊎_elim
        (λ off. inl (
          off.0,
          off.1,
          subst (λ l. z.received ≡ x.received ++ datagrams l) (sym (append_assoc earlier.heard last.heard (Some off.0 ∷ [])))
              (received_on x.received y.received z.received earlier.heard (last.heard ++ Some off.0 ∷ []) earlier.received off.2),
          omega (arith, length-append earlier.heard last.heard, earlier.turns_are, off.3, below),
        ))
        (λ short. inr (
          short.0,
          short.1,
          received_on x.received y.received z.received earlier.heard last.heard earlier.received short.2,
          omega (arith, length-append earlier.heard last.heard, earlier.turns_are, short.3, below),
        ))
        last.how;
  }

module _ {D L : Type 0} (stands_for : D → DiskState → Type 0) (received : L → List (List ℕ) → Type 0) (given : L → List (ℕ × List ℕ) → Type 0) where
  pub leads_on : (old mid new : Running D) (before between after : L) (First Then All : Scene → Scene → Type 0)
      → LeadsTo stands_for received given old mid before between First → LeadsTo stands_for received given mid new between after Then
      → ((x y z : Scene) → First x y → Then y z → All x z)
      → LeadsTo stands_for received given old new before after All
  leads_on old mid new before between after First Then All first then all = record {
    leads = λ x at.
        let r = first.leads x at in
        let q = then.leads r.0 r.2 in
        (q.0, all x r.0 q.0 r.1 q.1, q.2, λ d on. let e = r.3 d on in q.3 e.0 e.1);
  }

  -- of the same node
  pub of_same : (old mid new : Running D) (between after : L) → StaysWhose old mid → (How : ℕ → ℕ → Scene → Scene → Type 0)
      → LeadsTo stands_for received given mid new between after (How mid.cluster mid.me) → LeadsTo stands_for received given mid new between after (How old.cluster old.me)
  of_same old mid new between after whose How h =
      subst (λ p. LeadsTo stands_for received given mid new between after (How old.cluster p)) whose.me
      (subst (λ n. LeadsTo stands_for received given mid new between after (How n mid.me)) whose.cluster h)

  pub none_yet : (code : Running D) (link : L) (n p : ℕ) → LeadsTo stands_for received given code code link link (Exchanges n p 0 0 code.releases)
  none_yet code link n p = record {
    leads = λ x at. (
      x,
      record {
        heard = [];
        out = [];
        turns_are = refl;
        takes = (refl, refl, refl);
        received = sym (append-nil x.received);
        given = sym (append-nil x.given);
        fed_is = λ some. absurd (some refl);
      },
      at,
      λ d on. (d, on),
    );
  }

  -- one turn more
  module _ (old mid new : Running D) (before between after : L) (whose : StaysWhose old mid) (a malformed : ℕ) (fed : List (List ℕ))
      (earlier : LeadsTo stands_for received given old mid before between (Exchanges old.cluster old.me a malformed fed))
    where
      pub one_turn_more : (one : ℕ) (fed_then : List (List ℕ)) → LeadsTo stands_for received given mid new between after (Exchanges mid.cluster mid.me 1 one fed_then)
          → LeadsTo stands_for received given old new before after (Exchanges old.cluster old.me (a + 1) (malformed + one) fed_then)
      one_turn_more one fed_then h =
          leads_on old mid new before between after (Exchanges old.cluster old.me a malformed fed) (Exchanges old.cluster old.me 1 one fed_then) (Exchanges old.cluster old.me (a + 1) (malformed + one) fed_then)
          earlier (of_same old mid new between after whose (λ n p. Exchanges n p 1 one fed_then) h)
          (λ x y z first last. exchanged_on old.cluster old.me a malformed fed x y first one fed_then z last)

      pub one_turn_too_many : (turns : ℕ) (why told : NodeFault) → told ≡ why → a < turns → LeadsTo stands_for received given mid new between after (GivesUp mid.cluster mid.me 1 why)
          → LeadsTo stands_for received given old new before after (GivesUp old.cluster old.me turns told)
      one_turn_too_many turns why told is below h =
          subst (λ w. LeadsTo stands_for received given old new before after (GivesUp old.cluster old.me turns w)) (sym is)
          (leads_on old mid new before between after (Exchanges old.cluster old.me a malformed fed) (GivesUp old.cluster old.me 1 why) (GivesUp old.cluster old.me turns why)
          earlier (of_same old mid new between after whose (λ n p. GivesUp n p 1 why) h)
          (λ x y z first last. gave_up_on old.cluster old.me a malformed fed x y first turns why z below last))

pub stays_on : {D : Type 0} (old mid new : Running D) → StaysWhose old mid → StaysWhose mid new → StaysWhose old new
stays_on old mid new first then = record {
  me = then.me ∙ first.me;
  cluster = then.cluster ∙ first.cluster;
  more = (first.more.0 ++ then.more.0, then.more.1 ∙ ap (λ l. l ++ then.more.0) first.more.1 ∙ append_assoc old.releases first.more.0 then.more.0);
}

-- an allocation failed before the first turn
pub none_taken : {D L : Type 0} (stands_for : D → DiskState → Type 0) (received : L → List (List ℕ) → Type 0) (given : L → List (ℕ × List ℕ) → Type 0) (code : Running D) (link : L) (n p turns : ℕ)
    (told : NodeFault) → told ≡ fault.OutOfMemory → LeadsTo stands_for received given code code link link (GivesUp n p turns told)
none_taken stands_for received given code link n p turns told is = record {
  leads = λ x at. (
    x,
    record {
      heard = [];
      malformed = 0;
      out = [];
      mid = x.node;
      taken = (refl, refl, refl);
      given = (0, sym (append-nil x.given));
      how = inr (is, refl, sym (append-nil x.received), omega arith);
    },
    at,
    λ d on. (d, on),
  );
}
