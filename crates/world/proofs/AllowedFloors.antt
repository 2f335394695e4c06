-- Which floors a world allows, one machine after another.
use Rattle.std.proofs.Common.{◌≡◌, ◌≢◌, ⊎_elim, inl, inr, ◌⊎◌, ℕ, suc, ◌+◌, ◌≤◌, if◌then◌else◌, ◌/◌, Bool, true, false, List, [], ◌∷◌, length, refl, sym, subst, ◌∙◌, arith}
use Rattle.std.proofs.lemmas.Bool.{false≢true}
use Rattle.std.specs.Prelude.{◌↔◌, IsTrue, Some, slice_get}
use Rattle.site_ids.specs.Ids.{IsNode, IsInstance}
use Rattle.site_ids.specs.Lists.{In, Distinct}
use Rattle.site_ids.proofs.MemberLemmas.{distinct_within}
use Rattle.proposer.specs.declared.TheConstants.{MAX_ATTEMPTS}
use Rattle.durable.specs.Entries.{reach_of}
use Rattle.node.specs.Nodes.{Down, Node}
use Rattle.node.proofs.Queueing.{is_true, true_is}
use Rattle.world.specs.declared.event.Event.{Event}
use Rattle.world.specs.declared.event.Event.TheVariants.{Submit, Tick, Widen, Ask, Tell, Deliver, Arm, Crash, Restart, Replace, Keep}
use Rattle.world.specs.declared.machine.Machine.{Machine}
use Rattle.world.specs.declared.world.World.{World as Code}
use Rattle.world.specs.Worlds.{World, IsFloor}
use Rattle.world.specs.Taking.{NamesFloor, NamesNoFloor}
use Rattle.world.specs.Standing.{IsMachineOf, IsWorldOf}

-- the node answers, and its record reaches 64 or more below the floor
abbrev pub IsBelow : ℕ → Node → Type 0
IsBelow floor s = (s.mode ≢ Down) × (reach_of s.entries + MAX_ATTEMPTS ≤ floor)

-- those of the nodes 1 to k of which that is so, each once
pub record BelowTo (w : World) (floor k many : ℕ) : Type 0 where
  pub nodes : List ℕ
  pub distinct : Distinct nodes
  pub each : (q : ℕ) → In nodes q → IsNode k q × IsBelow floor (w.node q)
  pub whole : (q : ℕ) → IsNode k q → IsBelow floor (w.node q) → In nodes q
  pub counted : length nodes ≡ many

-- in whichever world the value stands for
abbrev pub AreBelow : Code → ℕ → ℕ → ℕ → Type 0
AreBelow code floor k many = (w : World) → IsWorldOf code w → BelowTo w floor k many

-- what a machine reports of its node
abbrev pub TellsBelow : ℕ → Machine → Bool → Type 0
TellsBelow floor machine told = (n p : ℕ) (s : Node) → IsMachineOf n p machine s → IsTrue told ↔ IsBelow floor s

before_or_last : (q k : ℕ) → q ≤ k + 1 → (q ≤ k) ⊎ (q ≡ suc k)
before_or_last q k h = grind arith

module _ (code : Code) (floor : ℕ) where
  pub none_below : AreBelow code floor 0 0
  none_below w stands = record { nodes = []; distinct = tt; each = λ q k. absurd k; whole = λ q is below. absurd (no_node q is); counted = refl }
    where
      no_node : (q : ℕ) → ¬ IsNode 0 q
      no_node q is = omega (arith, is.0, is.1)

  module _ (k many : ℕ) (machine : Machine) (told : Bool) (got : slice_get code.machines.items k ≡ Some machine) (tells : TellsBelow floor machine told) (so : AreBelow code floor k many) where
    here : (w : World) → IsWorldOf code w → IsTrue told ↔ IsBelow floor (w.node (suc k))
    here w stands = tells code.cluster (suc k) (w.node (suc k)) (stands.machines k machine got)

    pub one_below : told ≡ true → AreBelow code floor (k + 1) (many + 1)
    one_below is w stands =
        let of = so w stands in
        let last : IsBelow floor (w.node (suc k)) = (here w stands).0 (is_true told is) in
        record {
          nodes = suc k ∷ of.nodes;
          distinct = ((λ again. let high = (of.each (suc k) again).0.1 in absurd (past k high)), of.distinct);
          each = λ q at. ⊎_elim (λ (e : suc k ≡ q). ((omega (arith, e), omega (arith, e)), subst (λ (r : ℕ). IsBelow floor (w.node r)) e last)) (λ early. let x = of.each q early in let high = x.0.1 in ((x.0.0, omega (arith, high)), x.1)) at;
          whole = λ q at below. ⊎_elim (λ low. inr (of.whole q (at.0, low) below)) (λ (e : q ≡ suc k). inl (sym e)) (before_or_last q k at.1);
          counted = let size = of.counted in omega (arith, size);
        }
      where
        past : (k : ℕ) → suc k ≤ k → ⊥
        past k high = omega (arith, high)

    pub one_above : told ≡ false → AreBelow code floor (k + 1) many
    one_above is w stands =
        let of = so w stands in
        record {
          nodes = of.nodes;
          distinct = of.distinct;
          each = λ q at. let x = of.each q at in let high = x.0.1 in ((x.0.0, omega (arith, high)), x.1);
          whole = λ q at below. ⊎_elim
              (λ low. of.whole q (at.0, low) below)
              (λ (e : q ≡ suc k). absurd (false≢true (sym is ∙ true_is told ((here w stands).1 (subst (λ (r : ℕ). IsBelow floor (w.node r)) e below)))))
              (before_or_last q k at.1);
          counted = of.counted;
        }

  pub one_counted : (k many : ℕ) (machine : Machine) (told : Bool) → slice_get code.machines.items k ≡ Some machine → TellsBelow floor machine told → AreBelow code floor k many → AreBelow code floor (k + 1) (if told then many + 1 else many)
  one_counted k many machine true got tells so = one_below k many machine true got tells so refl
  one_counted k many machine false got tells so = one_above k many machine false got tells so refl

  -- a floor is one if they are a majority
  pub all_below : (k many : ℕ) (r : Bool) → IsInstance floor → length code.machines.items ≤ k → k ≤ length code.machines.items → IsTrue r ↔ (code.cluster / 2 + 1 ≤ many) → AreBelow code floor k many → (w : World) → IsWorldOf code w → IsTrue r ↔ IsFloor code.cluster w floor
  all_below k many r instance past within test so w stands =
      let of = so w stands in
      let all : k ≡ code.cluster = let there = code.all_there in omega (arith, there, past, within) in
      let size = of.counted in (
        λ t.
            let enough = test.0 t in
            record {
              instance = instance;
              asked = of.nodes;
              majority = record { distinct = of.distinct; nodes = λ q at. subst (λ (n : ℕ). IsNode n q) all (of.each q at).0; enough = omega (arith, enough, size) };
              answers = λ q at. (of.each q at).1.0;
              above = λ q at. (of.each q at).1.1;
            },
        λ floors.
            let few = distinct_within floors.asked of.nodes floors.majority.distinct (λ q at. of.whole q (subst (λ (n : ℕ). IsNode n q) (sym all) (floors.majority.nodes q at)) (floors.answers q at, floors.above q at)) in
            let enough = floors.majority.enough in
            test.1 (omega (arith, few, enough, size)),
      )

-- ---- by an event

none_named : (n : ℕ) (w : World) (event : Event) → ¬ NamesFloor n w event → NamesNoFloor n w event
none_named n w (Submit p v) none = none tt
none_named n w (Tick p) none = none tt
none_named n w (Widen p) none = none tt
none_named n w (Ask p) none = none tt
none_named n w (Tell p i) none = none tt
none_named n w (Deliver p index) none = none tt
none_named n w (Arm p calls) none = none tt
none_named n w (Crash p choice) none = none tt
none_named n w (Restart p) none = none tt
none_named n w (Keep p i) none = none tt
none_named n w (Replace p floor) none = none

module _ (code : Code) (event : Event) (told : Bool) (tells : (w : World) → IsWorldOf code w → IsTrue told ↔ NamesFloor code.cluster w event) where
  pub names_some : told ≡ true → (w : World) → IsWorldOf code w → NamesFloor code.cluster w event
  names_some is w stands = (tells w stands).0 (is_true told is)

  pub names_none : told ≡ false → (w : World) → IsWorldOf code w → NamesNoFloor code.cluster w event
  names_none is w stands = none_named code.cluster w event (λ names. false≢true (sym is ∙ true_is told ((tells w stands).1 names)))
