-- Whether all nodes are quiet, one machine after another.
use Rattle.std.proofs.Common.{◌≡◌, ◌⊎◌, ⊎_elim, ℕ, suc, ◌+◌, ◌<◌, ◌≤◌, min, Bool, true, false, Option, Some, None, List, refl, sym, subst, ◌∙◌, arith}
use Rattle.std.proofs.lemmas.Bool.{false≢true}
use Rattle.std.specs.Prelude.{◌↔◌, IsTrue, MatchOption, length, slice_get}
use Rattle.site_ids.specs.Ids.{IsNode, IsInstance}
use Rattle.node.specs.Nodes.{Value, Node, IsFirstUnknown, IsKnownPrefix, IsMute}
use Rattle.node.proofs.Gaps.{one_first}
use Rattle.node.proofs.Queueing.{is_true, true_is}
use Rattle.world.specs.declared.machine.Machine.{Machine}
use Rattle.world.specs.declared.world.World.{World as Code}
use Rattle.world.specs.Worlds.{World}
use Rattle.world.specs.Standing.{IsMachineOf, IsWorldOf}
use Rattle.world.specs.Quiet.{AllRun, IsQuiet, IsQuietAt, MayDecide}
use Rattle.world.proofs.Bounds.{last_within}
use Rattle.world.proofs.Firsts.{first_after, none_after}

-- nodes 1 to k are quiet, in whichever world the value stands for
abbrev pub AreQuietTo : Code → ℕ → Type 0
AreQuietTo code k = (w : World) → IsWorldOf code w → (q : ℕ) → 1 ≤ q → q ≤ k → IsQuietAt (w.node q)

-- what a machine reports of its node
abbrev pub Tells : Machine → Bool → Type 0
Tells machine told = (n p : ℕ) (s : Node) → IsMachineOf n p machine s → IsTrue told ↔ IsQuietAt s

abbrev pub AllQuiet : ℕ → World → Type 0
AllQuiet n w = (q : ℕ) → IsNode n q → IsQuietAt (w.node q)

pub none_seen : (code : Code) → AreQuietTo code 0
none_seen code w stands q one none = absurd (omega (arith, one, none))

module _ (code : Code) (k : ℕ) (machine : Machine) (told : Bool) (got : slice_get code.machines.items k ≡ Some machine) (tells : Tells machine told) where
  pub one_more : AreQuietTo code k → told ≡ true → AreQuietTo code (k + 1)
  one_more so told_so w stands q one few = ⊎_elim (λ less. so w stands q one less) (λ (e : q ≡ suc k). subst (λ (r : ℕ). IsQuietAt (w.node r)) (sym e) ((tells code.cluster (suc k) (w.node (suc k)) (stands.machines k machine got)).0 told_so)) (before_or_last q k few)
    where
      before_or_last : (q k : ℕ) → q ≤ k + 1 → (q ≤ k) ⊎ (q ≡ suc k)
      before_or_last q k h = grind arith

  pub one_is_not : told ≡ false → k < length code.machines.items → (w : World) → IsWorldOf code w → IsTrue false ↔ AllQuiet code.cluster w
  one_is_not told_not below w stands = (
    λ is. absurd (false≢true is),
    λ all. absurd (false≢true (sym told_not ∙ (tells code.cluster (suc k) (w.node (suc k)) (stands.machines k machine got)).1 (all (suc k) (here k, there)))),
  )
    where
      here : (k : ℕ) → 1 ≤ suc k
      here k = omega arith

      there : suc k ≤ code.cluster
      there = let all = code.all_there in omega (arith, below, all)

pub all_seen : (code : Code) (k : ℕ) → length code.machines.items ≤ k → AreQuietTo code k → (w : World) → IsWorldOf code w → IsTrue true ↔ AllQuiet code.cluster w
all_seen code k past so w stands = (λ is q node. so w stands q node.0 (let high = node.1 in let all = code.all_there in omega (arith, high, past, all)), λ all. refl)

-- ---- with an unknown instance

-- this many values are known without a gap
abbrev pub Knows : Node → ℕ → Type 0
Knows s known = (values : List Value) × IsKnownPrefix s values × (known ≡ length values)

abbrev pub FirstIs : Node → Option ℕ → Type 0
FirstIs s o = MatchOption o ((i : ℕ) → ¬ IsFirstUnknown s.known i) (λ i. IsFirstUnknown s.known i)

pub first_is : (s : Node) (known next : ℕ) (o : Option ℕ) → Knows s known → next ≡ min (known + 1) 4294967295 → MatchOption o (¬ IsInstance next) (λ i. (i ≡ next) × IsInstance next) → FirstIs s o
first_is s known next None (vs, prefix, is) at none = λ i.
    none_after s vs prefix (λ some. let high = some.1 in none (omega (arith, is, at, high), omega (arith, is, at, high))) i
first_is s known next (Some j) (vs, prefix, is) at some =
    let same = some.0 in
    let high = some.1.1 in
    let here : suc (length vs) ≡ j = omega (arith, is, at, same, high) in
    subst (λ (i : ℕ). IsFirstUnknown s.known i) here (first_after s vs prefix (omega arith, omega (arith, here, same, high)))

abbrev pub QuietAt : ℕ → ℕ → World → ℕ → Type 0
QuietAt n p w i = AllQuiet n w × MayDecide n w p i

pub is_quiet_at : (n p i : ℕ) (w : World) → IsNode n p → IsFirstUnknown (w.node p).known i → QuietAt n p w i → IsQuiet n w p
is_quiet_at n p i w node first is = record {
  each = is.0;
  instance = i;
  unknown = first;
  not_mute = is.1.not_mute;
  none_mute = is.1.none_mute;
  heard = let rounds = is.1.rounds in omega (arith, rounds);
}

pub at_quiet : (n p i : ℕ) (w : World) → IsNode n p → IsFirstUnknown (w.node p).known i → IsQuiet n w p → QuietAt n p w i
at_quiet n p i w node first quiet =
    let here : quiet.instance ≡ i = one_first (w.node p).known i quiet.instance first quiet.unknown in (
      quiet.each,
      record {
        not_mute = subst (λ (j : ℕ). ¬ IsMute (w.node p) j) here quiet.not_mute;
        none_mute = λ q at. subst (λ (j : ℕ). ¬ IsMute (w.node q) j) here (quiet.none_mute q at);
        rounds = let last = last_within 0 (w.node p).entries in let all = (quiet.each p node).rounds in let heard = quiet.heard in omega (arith, last, all, heard);
      },
    )

pub all_running : (n : ℕ) (w : World) → AllQuiet n w → AllRun n w
all_running n w all q node = (all q node).running

-- all are quiet, and then nobody who is needed is mute
pub quiet_both : (n p i : ℕ) (w : World) (all may : Bool) → IsNode n p → IsFirstUnknown (w.node p).known i → IsTrue all ↔ AllQuiet n w → (AllRun n w → IsTrue may ↔ MayDecide n w p i) → all ≡ true → IsTrue may ↔ IsQuiet n w p
quiet_both n p i w all may node first tells decides is =
    let each = tells.0 (is_true all is) in
    let told = decides (all_running n w each) in
    (λ t. is_quiet_at n p i w node first (each, told.0 t), λ quiet. told.1 (at_quiet n p i w node first quiet).1)

pub quiet_none : (n p : ℕ) (w : World) (all : Bool) → IsTrue all ↔ AllQuiet n w → all ≡ false → IsTrue false ↔ IsQuiet n w p
quiet_none n p w all tells is = (λ t. absurd (false≢true t), λ quiet. absurd (false≢true (sym is ∙ true_is all (tells.1 quiet.each))))

pub all_known_unquiet : (n p : ℕ) (w : World) → ((i : ℕ) → ¬ IsFirstUnknown (w.node p).known i) → IsTrue false ↔ IsQuiet n w p
all_known_unquiet n p w none = (λ t. absurd (false≢true t), λ quiet. absurd (none quiet.instance quiet.unknown))

-- ---- nobody is mute

-- nodes 1 to k are not mute at the instance, in whichever world of running nodes the value stands for
abbrev pub SpeakTo : Code → ℕ → ℕ → Type 0
SpeakTo code i k = (w : World) → IsWorldOf code w → AllRun code.cluster w → (q : ℕ) → 1 ≤ q → q ≤ k → ¬ IsMute (w.node q) i

pub none_spoke : (code : Code) (i : ℕ) → SpeakTo code i 0
none_spoke code i w stands run q one none = absurd (omega (arith, one, none))

pub one_speaks : (code : Code) (i k q : ℕ) → q ≡ k + 1 → SpeakTo code i k → ((w : World) → IsWorldOf code w → AllRun code.cluster w → ¬ IsMute (w.node q) i) → SpeakTo code i (k + 1)
one_speaks code i k q at so last w stands run r one few = ⊎_elim (λ low. so w stands run r one low) (λ (e : r ≡ q). subst (λ (x : ℕ). ¬ IsMute (w.node x) i) (sym e) (last w stands run)) (before_or_last r k q few at)
  where
    before_or_last : (r k q : ℕ) → r ≤ k + 1 → q ≡ k + 1 → (r ≤ k) ⊎ (r ≡ q)
    before_or_last r k q h e = grind arith
