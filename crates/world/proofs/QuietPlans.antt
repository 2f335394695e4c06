-- The plan of a quiet state, by what the code of a world reports.
use Rattle.std.proofs.Common.{◌≡◌, ℕ, zero, suc, ◌+◌, Option, List, [], ◌∷◌, ◌++◌, length, refl, sym, ap, ap₂, subst, ◌∙◌, append-nil, inl, inr, arith}
use Rattle.std.specs.Prelude.{MatchOption}
use Rattle.site_ids.specs.Ids.{BallotOf, IsNode}
use Rattle.wire.specs.declared.message.Message.{Message}
use Rattle.proposer.specs.Attempts.{Attempt}
use Rattle.node.specs.declared.to.To.{To}
use Rattle.node.specs.Nodes.{Up, Down, Node, IsFirstUnknown}
use Rattle.node.specs.Effects.{messages_of}
use Rattle.node.specs.Calls.{fresh_ballot, HasRound, AreOpenElsewhere}
use Rattle.node.specs.Tidy.{IsTidy}
use Rattle.node.proofs.SendingAgain.{open_past, all_in_window}
use Rattle.world.specs.declared.event.Event.{Event}
use Rattle.world.specs.declared.machine.Machine.{Machine}
use Rattle.world.specs.declared.machine.Machine.TheVariants.{Open, Bare}
use Rattle.world.specs.declared.world.World.{World as Code}
use Rattle.world.specs.Worlds.{World}
use Rattle.world.specs.Standing.{IsMachineOf, IsWorldOf}
use Rattle.world.specs.Quiet.{AllRun, IsQuiet, IsPlan, IsShort, HasNoneAbove, Overbids, one_attempt, overbid_first}
use Rattle.world.specs.Quieting.{PushesPlan}
use Rattle.world.proofs.Fed.{there_at}
use Rattle.world.proofs.QuietLists.{quorum_within}
use Rattle.world.proofs.Bounds.{raised_within}
use Rattle.world.proofs.Quieting.{attempt_is_short, refused_is_short, some_nodes}

-- ---- a refusal

pub all_run : (n p : ℕ) (w : World) → IsQuiet n w p → AllRun n w
all_run n p w quiet q node = (quiet.each q node).running

-- if the rounds are used up, each promise on record is below the next ballot
pub none_left : (n p i : ℕ) (w : World) → IsNode n p → IsQuiet n w p → ¬ HasRound (w.node p) → HasNoneAbove n w i (fresh_ballot p (w.node p))
none_left n p i w node quiet used q e c at here raised =
    let most = raised_within (w.node q).entries e i c here raised in
    let low = (quiet.each q (quorum_within n q (some_nodes n p node) at)).rounds in
    inl (omega (arith, most, low, used))

pub refusal : (n p i : ℕ) (w : World) (b : BallotOf) (found : Option ℕ) → b ≡ fresh_ballot p (w.node p) → MatchOption found (HasNoneAbove n w i b) (λ q. Overbids n w i b q)
    → MatchOption found (HasNoneAbove n w i (fresh_ballot p (w.node p))) (λ q. Overbids n w i (fresh_ballot p (w.node p)) q)
refusal n p i w b found is told = subst (λ (c : BallotOf). MatchOption found (HasNoneAbove n w i c) (λ q. Overbids n w i c q)) is told

-- ---- attempts elsewhere

no_mode : Down ≡ Up → ⊥
no_mode e = cc

tidy_in : (n p : ℕ) (machine : Machine) (s : Node) → IsMachineOf n p machine s → s.mode ≡ Up → IsTidy s
tidy_in n p (Open code armed) s is up = is.stands.tidy
tidy_in n p (Bare disk) s is up = absurd (no_mode (sym (ap (λ (x : Node). x.mode) is.down) ∙ up))

tidy_at : (code : Code) (w : World) (p : ℕ) → IsNode code.cluster p → IsWorldOf code w → (w.node p).mode ≡ Up → IsTidy (w.node p)
tidy_at code w zero node stands up = absurd (let low = node.0 in omega (arith, low))
tidy_at code w (suc k) node stands up =
    let high = node.1 in
    let machine = there_at code.machines.items k (omega (arith, high, code.all_there)) in
    tidy_in code.cluster (suc k) machine.0 (w.node (suc k)) (stands.machines k machine.0 machine.1) up

-- ---- plans

as_many : (out : List (To × Message)) → length (messages_of out) ≡ length out
as_many [] = refl
as_many (x ∷ out) = ap suc (as_many out)

module _ (code : Code) (p i e : ℕ) (node : IsNode code.cluster p)
    (first : (w : World) → IsWorldOf code w → IsFirstUnknown (w.node p).known i)
    (counted : (w : World) → IsWorldOf code w → IsQuiet code.cluster w p → (elsewhere : List (ℕ × Attempt)) → AreOpenElsewhere (w.node p) i elsewhere → e ≡ length elsewhere)
  where
    abbrev n : ℕ
    n = code.cluster

    abbrev sent : ℕ
    sent = length code.sent.items

    module _ (w : World) (stands : IsWorldOf code w) (quiet : IsQuiet n w p) where
      are : AreOpenElsewhere (w.node p) i (open_past (w.node p).attempts i 63)
      are = all_in_window (w.node p) i (tidy_at code w p node stands (quiet.each p node).running) (first w stands)

      so_many : e ≡ length (open_past (w.node p).attempts i 63)
      so_many = counted w stands quiet (open_past (w.node p).attempts i 63) are

      so_long : sent ≡ length w.sent
      so_long = sym (ap (λ (l : List Message). length l) stands.sent ∙ as_many code.sent.items)

      alone : HasNoneAbove n w i (fresh_ballot p (w.node p)) → IsPlan n w p (one_attempt n p sent e)
      alone none = record {
        instance = i;
        unknown = first w stands;
        elsewhere = open_past (w.node p).attempts i 63;
        open_elsewhere = are;
        is = inl (none, ap₂ (λ (c d : ℕ). one_attempt n p c d) so_long so_many);
      }

      refused : (q : ℕ) → Overbids n w i (fresh_ballot p (w.node p)) q → IsPlan n w p (overbid_first p q sent e (one_attempt n p (sent + 2 + e) e))
      refused q over = record {
        instance = i;
        unknown = first w stands;
        elsewhere = open_past (w.node p).attempts i 63;
        open_elsewhere = are;
        is = inr (q, over, ap₂ (λ (c d : ℕ). overbid_first p q c d (one_attempt n p (c + 2 + d) d)) so_long so_many);
      }

    pub pushed_alone : (old new : List Event) → new ≡ old ++ one_attempt n p sent e
        → ((w : World) → IsWorldOf code w → IsQuiet n w p → HasNoneAbove n w i (fresh_ballot p (w.node p))) → PushesPlan code p old new
    pushed_alone old new is none = record {
      plan = one_attempt n p sent e;
      pushed = is;
      short = attempt_is_short n p sent e (some_nodes n p node);
      is = λ w stands quiet. alone w stands quiet (none w stands quiet);
    }

    pub pushed_refused : (old new : List Event) (q : ℕ) → new ≡ old ++ overbid_first p q sent e (one_attempt n p (sent + 2 + e) e)
        → ((w : World) → IsWorldOf code w → IsQuiet n w p → Overbids n w i (fresh_ballot p (w.node p)) q) → PushesPlan code p old new
    pushed_refused old new q is over = record {
      plan = overbid_first p q sent e (one_attempt n p (sent + 2 + e) e);
      pushed = is;
      short = refused_is_short n p q sent (sent + 2 + e) e (some_nodes n p node);
      is = λ w stands quiet. refused w stands quiet q (over w stands quiet);
    }

-- no events are short
pub no_events : (n : ℕ) → IsShort n []
no_events n = record { calm = tt; ticked = omega arith; delivered = omega arith }

-- outside of a quiet state there are no events
pub pushed_none : (code : Code) (p : ℕ) (events : List Event) → ((w : World) → IsWorldOf code w → ¬ IsQuiet code.cluster w p) → PushesPlan code p events events
pushed_none code p events unquiet = record {
  plan = [];
  pushed = sym (append-nil events);
  short = no_events code.cluster;
  is = λ w stands quiet. absurd (unquiet w stands quiet);
}

-- after no events they are all of the plan
pub all_of_it : (code : Code) (p : ℕ) (old new : List Event) → old ≡ [] → PushesPlan code p old new → (w : World) → IsWorldOf code w → IsQuiet code.cluster w p → IsPlan code.cluster w p new
all_of_it code p old new none pushed w stands quiet = subst (λ (l : List Event). IsPlan code.cluster w p l) (sym (pushed.pushed ∙ ap (λ (l : List Event). l ++ pushed.plan) none)) (pushed.is w stands quiet)
