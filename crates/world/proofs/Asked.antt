-- What a world is asked of one node.
use Rattle.std.proofs.Common.{◌≡◌, ◌≢◌, ℕ, suc, ◌-◌, ◌≤◌, nat_lt, nat_le, Bool, true, false, Some, List, [], refl, sym, ap, subst, ◌∙◌, arith}
use Rattle.std.specs.Prelude.{slice_get}
use Rattle.std.proofs.lemmas.Bool.Decides.{nat_tests}
use Rattle.site_disk.specs.declared.mem_disk.MemDisk.{MemDisk}
use Rattle.command.specs.Action.{Order}
use Rattle.command.specs.Effective.{effective}
use Rattle.command.specs.Releases.{release_count}
use Rattle.release.specs.Page.{Page, answer, released}
use Rattle.node.specs.declared.node.Node.{Node as Running}
use Rattle.node.specs.Nodes.{Value, Down, Node, BeginsKnown, IsKnownPrefix}
use Rattle.world.specs.declared.event.Event.{Event}
use Rattle.world.specs.declared.machine.Machine.{Machine}
use Rattle.world.specs.declared.machine.Machine.TheVariants.{Open, Bare}
use Rattle.world.specs.declared.world.World.{World as Code}
use Rattle.world.specs.Worlds.{World}
use Rattle.world.specs.Decided.{Decides, AreDecided}
use Rattle.world.specs.Standing.{IsOpen, IsBare, IsMachineOf, IsWorldOf}
use Rattle.world.specs.Steps.{Reached, IsAnswer, AreOfRun}
use Rattle.world.specs.Telling.{fed_in, fed_at}
use Rattle.world.proofs.Turning.{not_down}
use Rattle.world.proofs.Agreed.{decides_submitted, knows_decided}
use Rattle.world.proofs.Published.{place_of, one_list_answers}

-- there is such a release if there is an answer
pub has_release : (orders : List Order) (n : ℕ) (path : List ℕ) (page : Page) → released orders n path ≡ Some page → (1 ≤ n) × (n ≤ release_count orders)
has_release orders n path page is = by_tests orders n path page (nat_lt 0 n) (nat_le n (release_count orders)) refl refl is
  where
    by_tests : (orders : List Order) (n : ℕ) (path : List ℕ) (page : Page) (a b : Bool) → nat_lt 0 n ≡ a → nat_le n (release_count orders) ≡ b → released orders n path ≡ Some page → (1 ≤ n) × (n ≤ release_count orders)
    by_tests orders n path page true true x y is = (grind (arith, nat_tests), grind (arith, nat_tests))
    by_tests orders n path page true false x y is = cc
    by_tests orders n path page false b x y is = cc

module _ (code : Code) (p : ℕ) (here : Machine) (one : 1 ≤ p) (got : slice_get code.machines.items (p - 1) ≡ Some here) where
  pub machine_at : (w : World) → IsWorldOf code w → IsMachineOf code.cluster p here (w.node p)
  machine_at w stands = subst (λ (q : ℕ). IsMachineOf code.cluster q here (w.node q)) (omega (arith, one)) (stands.machines (p - 1) here got)

  pub open_at : (node : Running MemDisk) (armed : Bool) → here ≡ Open node armed → (w : World) → IsWorldOf code w → IsOpen code.cluster p node armed (w.node p)
  open_at node armed is w stands = subst (λ (x : Machine). IsMachineOf code.cluster p x (w.node p)) is (machine_at w stands)

  bare_at : (disk : MemDisk) → here ≡ Bare disk → (w : World) → IsWorldOf code w → IsBare code.cluster p disk (w.node p)
  bare_at disk is w stands = subst (λ (x : Machine). IsMachineOf code.cluster p x (w.node p)) is (machine_at w stands)

  pub down_at : (disk : MemDisk) → here ≡ Bare disk → (w : World) → IsWorldOf code w → (w.node p).mode ≡ Down
  down_at disk is w stands = ap (λ (s : Node). s.mode) (bare_at disk is w stands).down

  pub none_known : (disk : MemDisk) → here ≡ Bare disk → (w : World) → IsWorldOf code w → IsKnownPrefix (w.node p) []
  none_known disk is w stands = record { begins = λ k v lost. cc; gap = ap (λ (s : Node). s.known 1) (bare_at disk is w stands).down }

  pub not_down_at : (node : Running MemDisk) (armed : Bool) → here ≡ Open node armed → (w : World) → IsWorldOf code w → (w.node p).mode ≢ Down
  not_down_at node armed is w stands = not_down node.store.stopped (w.node p).mode (open_at node armed is w stands).stands.parts.on_record.mode_is

  pub fed_open : (node : Running MemDisk) (armed : Bool) → here ≡ Open node armed → fed_at code p ≡ node.releases
  fed_open node armed is = ap fed_in (got ∙ ap Some is)

  pub begins_at : (node : Running MemDisk) (armed : Bool) → here ≡ Open node armed → (w : World) → IsWorldOf code w → BeginsKnown (fed_at code p) (w.node p)
  begins_at node armed is w stands = subst (λ (vs : List Value). BeginsKnown vs (w.node p)) (sym (fed_open node armed is)) (open_at node armed is w stands).stands.fed

  -- the answer of an open node is that of the values decided
  pub answers_at : (node : Running MemDisk) (armed : Bool) → here ≡ Open node armed → (n : ℕ) (path : List ℕ) (page : Page) → answer node.releases n path ≡ Some page → (events : List Event) → Reached code events → IsAnswer code events n path page
  answers_at node armed is n path page told events reached =
      let one_list = one_list_answers code.cluster events reached.world reached.runs in
      let mine = open_at node armed is reached.world reached.stands in
      let has = has_release (effective node.releases) n path page told in
      record {
        values = one_list.values;
        decided = subst (λ l. AreDecided code.cluster l one_list.values) reached.stands.sent one_list.decided;
        submitted = one_list.submitted;
        answers = sym (one_list.answers p n node.releases (record { begins = mine.stands.fed; some = has.0; has = has.1 }) path) ∙ told;
      }

-- what a node knows without a gap is decided, and is the no-op or was submitted
pub of_run : (code : Code) (p : ℕ) (events : List Event) (reached : Reached code events) (values : List Value) → BeginsKnown values (reached.world.node p) → AreOfRun code events values
of_run code p events reached values begins =
    let n = code.cluster in
    let w = reached.world in
    let decided : (k : ℕ) (v : Value) → slice_get values k ≡ Some v → Decides n w.sent (suc k) v = λ k v got. knows_decided n events w reached.runs p (suc k) v (begins k v got) in
    record {
      decided = λ k v got. subst (λ l. Decides n l (suc k) v) reached.stands.sent (decided k v got);
      submitted = λ v told. let at = place_of values v told in decides_submitted n events w reached.runs (suc at.0) v (decided at.0 v at.1);
    }
