-- What requests leave of a node, and steps one after another.
use Rattle.std.proofs.Common.{◌≡◌, ◌⊎◌, inl, inr, ⊎_elim, ℕ, zero, suc, Some, None, List, [], ◌∷◌, ◌++◌, length, Ok, Err, refl, sym, subst, ◌∙◌, false}
use Rattle.site_disk.specs.Model.{DiskState, LeavesOnly}
use Rattle.command.specs.Written.{value_of}
use Rattle.http_serve.specs.Services.{Outcome, MaySubmit, MaySubmitMany}
use Rattle.http_serve.specs.declared.submission.Submission.TheVariants.{Queued, Already}
use Rattle.http_serve.specs.declared.submission.SubmitFault.TheVariants.{Command, Busy, Stopped, OutOfMemory}
use Rattle.site_ids.specs.Lists.{In}
use Rattle.durable.specs.Keeping.{IsFound, Keeps}
use Rattle.durable.specs.Ready.{IsStored}
use Rattle.durable.proofs.Moments.{started, then, weaker}
use Rattle.node.specs.Calls.{submit}
use Rattle.node.specs.Effects.{recorded}
use Rattle.node.specs.Endings.{EndsWhole}
use Rattle.node.specs.Nodes.{Node, Value, IsKnownPrefix}
use Rattle.node.specs.Standing.{IsNodeOf, IsOnDisk, IsEither, KeepsOthers, StaysOnDisk}
use Rattle.node.specs.declared.node.Node.{Node as Running}
use Rattle.site_drive.specs.Batches.{LeadsSealed}
use Rattle.site_drive.specs.Leading.{StaysWhose}
use Rattle.server.specs.Passes.{MayTake, MayTakeMany, AreSteps, last_of, IsOneOf, Led}
use Rattle.server_clients.specs.Served.{ComesTo, offered}
use Rattle.server_clients.specs.declared.served.Served.{Served}

-- ---- requests

-- what a submission leaves
abbrev Leaves : Node → Node → Type 0
Leaves s next = (next.entries ≡ s.entries) × (next.in_flight ≡ s.in_flight) × (next.known ≡ s.known)

alike : (s next : Node) → next ≡ s → Leaves s next
alike s next same = subst (Leaves s) (sym same) (refl, refl, refl)

whole_leaves : (n p : ℕ) (s next : Node) (v : Value) → EndsWhole n p s (submit v) [] next → Leaves s next
whole_leaves n p s next v w =
    subst (Leaves s) (sym w.node)
    (⊎_elim
    (λ held. subst (λ e. Leaves s (recorded s e)) (sym held.2) (refl, refl, refl))
    (λ waits. subst (λ e. Leaves s (recorded s e)) (sym waits.3) (refl, refl, refl))
    w.does)

submission_leaves : (n p : ℕ) (s next : Node) (v : Value) (done : Outcome) → ComesTo n p s v done next → Leaves s next
submission_leaves n p s next v (Ok Queued) h = whole_leaves n p s next v h.0
submission_leaves n p s next v (Ok Already) h = whole_leaves n p s next v h.0
submission_leaves n p s next v (Err (Command why)) h = alike s next h.node
submission_leaves n p s next v (Err Busy) h = alike s next h.node
submission_leaves n p s next v (Err Stopped) h = alike s next h.node
submission_leaves n p s next v (Err OutOfMemory) h = alike s next h

request_leaves : (n p : ℕ) (s next : Node) → MayTake n p s next → Leaves s next
request_leaves n p s next (inl same) = alike s next same
request_leaves n p s next (inr one) = submission_leaves n p s next (value_of one.0 one.1) one.2 one.3

requests_leave : (n p k : ℕ) (s next : Node) → MayTakeMany n p k s next → Leaves s next
requests_leave n p zero s next same = alike s next same
requests_leave n p (suc k) s next (mid, earlier, one) =
    let a = requests_leave n p k s mid earlier in
    let b = request_leaves n p mid next one in
    (b.0 ∙ a.0, b.1 ∙ a.1, b.2 ∙ a.2)

pub still_published : (n p k : ℕ) (s next : Node) (fed : List (List ℕ)) → MayTakeMany n p k s next → IsKnownPrefix s fed → IsKnownPrefix next fed
still_published n p k s next fed takes h =
    let known = (requests_leave n p k s next takes).2 in
    record {
      begins = λ k v is. subst (λ f. f (suc k) ≡ Some v) (sym known) (h.begins k v is);
      gap = subst (λ f. f (suc (length fed)) ≡ None) (sym known) h.gap;
    }

pub others_on : {D : Type 0} (old mid new : Running D) → KeepsOthers old mid → KeepsOthers mid new → KeepsOthers old new
others_on old mid new first then = record { me = then.me ∙ first.me; cluster = then.cluster ∙ first.cluster; releases = then.releases ∙ first.releases }

request_others : {D : Type 0} (old new : Served D) → MaySubmit offered old new → KeepsOthers old.node new.node
request_others old new (inl same) = subst (λ (t : Served _). KeepsOthers old.node t.node) (sym same) (record { me = refl; cluster = refl; releases = refl })
request_others old new (inr (ticket, text, done, one)) = one.taken.others

pub many_others : {D : Type 0} (k : ℕ) (old new : Served D) → MaySubmitMany offered k old new → KeepsOthers old.node new.node
many_others zero old new same = subst (λ (t : Served _). KeepsOthers old.node t.node) (sym same) (record { me = refl; cluster = refl; releases = refl })
many_others (suc k) old new (mid, earlier, one) = others_on old.node mid.node new.node (many_others k old mid earlier) (request_others mid new one)

-- what the disk keeps of one node it keeps of the other, without a call
abbrev Rests : {D : Type 0} → (D → DiskState → Type 0) → Running D → Running D → Node → Node → Type 0
Rests stands_for old new s next = (d : DiskState) → IsOnDisk stands_for old s d → IsOnDisk stands_for new next d

module _ {D : Type 0} (stands_for : D → DiskState → Type 0) where
  still_on_disk : (old new : Running D) (s next : Node) → KeepsOthers old new → new.store ≡ old.store → Leaves s next → Rests stands_for old new s next
  still_on_disk old new s next others store left d on = record {
    stands = subst (λ r. stands_for r.disk d) (sym store) on.stands;
    keeps =
        subst (λ e. Keeps new.me new.cluster e next.in_flight d) (sym left.0)
        (subst (λ i. Keeps new.me new.cluster s.entries i d) (sym left.1)
        (subst (λ n. Keeps new.me n s.entries s.in_flight d) (sym others.cluster)
        (subst (λ p. Keeps p old.cluster s.entries s.in_flight d) (sym others.me) on.keeps)));
    stored = λ running.
        subst (λ e. IsStored stands_for new.store d e) (sym left.0)
        (subst (λ r. r.stopped ≡ false → IsStored stands_for r d s.entries) (sym store) on.stored running);
  }

  -- from each node that the old value stands for, a request leads to one that the new value stands for
  takes_on : (old new : Served D) → MaySubmit offered old new → (s : Node) → IsNodeOf old.node s
      → (next : Node) × MayTake old.node.cluster old.node.me s next × IsNodeOf new.node next × Rests stands_for old.node new.node s next
  takes_on old new (inl same) s stands =
      subst (λ (t : Served D). (next : Node) × MayTake old.node.cluster old.node.me s next × IsNodeOf t.node next × Rests stands_for old.node t.node s next) (sym same)
      (s, inl refl, stands, λ d on. on)
  takes_on old new (inr (ticket, text, done, one)) s stands =
      let l = one.taken.leads s stands in
      let takes : MayTake old.node.cluster old.node.me s l.0 = inr (ticket, text, done, l.1) in
      (l.0, takes, l.2, still_on_disk old.node new.node s l.0 one.taken.others one.taken.record_is (request_leaves old.node.cluster old.node.me s l.0 takes))

  -- so do many
  takes_many_on : (k : ℕ) (old new : Served D) → MaySubmitMany offered k old new → (s : Node) → IsNodeOf old.node s
      → (next : Node) × MayTakeMany old.node.cluster old.node.me k s next × IsNodeOf new.node next × Rests stands_for old.node new.node s next
  takes_many_on zero old new same s stands =
      subst (λ (t : Served D). (next : Node) × (next ≡ s) × IsNodeOf t.node next × Rests stands_for old.node t.node s next) (sym same)
      (s, refl, stands, λ d on. on)
  takes_many_on (suc k) old new (mid, earlier, one) s stands =
      let a = takes_many_on k old mid earlier s stands in
      let b = takes_on mid new one a.0 a.2 in
      let others = many_others k old mid earlier in
      let takes : MayTake old.node.cluster old.node.me a.0 b.0 =
      subst (λ p. MayTake old.node.cluster p a.0 b.0) others.me (subst (λ n. MayTake n mid.node.me a.0 b.0) others.cluster b.1) in
      (b.0, (a.0, a.1, takes), b.2, λ d on. b.3 d (a.3 d on))

  -- a file with what either of two nodes has on record is one also where requests came after the second
  behind_requests : (n p k : ℕ) (s t u : Node) → MayTakeMany n p k t u → (q m : ℕ) (file : List ℕ) → IsEither q m s t file → IsEither q m s u file
  behind_requests n p k s t u takes q m file either =
      let left = requests_leave n p k t u takes in
      subst (λ i. IsFound q m s.entries s.in_flight file ⊎ IsFound q m u.entries i file) (sym left.1)
      (subst (λ e. IsFound q m s.entries s.in_flight file ⊎ IsFound q m e t.in_flight file) (sym left.0) either)

  -- a batch that is sealed, and then so many requests
  pub requests_on : (old : Running D) (mid new : Served D) (A B : Node → Node → Type 0) (k : ℕ)
      → StaysWhose old mid.node → MaySubmitMany offered k mid new
      → ((s t u : Node) → A s t → MayTakeMany old.cluster old.me k t u → B s u)
      → LeadsSealed stands_for old mid.node A → LeadsSealed stands_for old new.node B
  requests_on old mid new A B k whose taken so batch = record {
    leads = λ s stands.
        let r = batch.leads s stands in
        let q = takes_many_on k mid new taken r.0 r.2 in
        let takes : MayTakeMany old.cluster old.me k r.0 q.0 =
        subst (λ p. MayTakeMany old.cluster p k r.0 q.0) whose.me (subst (λ n. MayTakeMany n mid.node.me k r.0 q.0) whose.cluster q.1) in (
          q.0,
          so s r.0 q.0 r.1 takes,
          q.2,
          λ d on.
              let e = r.3 d on in
              (e.0, q.3 e.0 e.1, weaker d e.0 (IsEither old.me old.cluster s r.0) (IsEither old.me old.cluster s q.0) (behind_requests old.cluster old.me k s r.0 q.0 takes old.me old.cluster) e.2),
        );
  }

-- ---- steps one after another

pub steps_on : (Step : Node → Node → Type 0) (s : Node) (ys : List Node) (z : Node) → AreSteps Step s ys → Step (last_of s ys) z → AreSteps Step s (ys ++ z ∷ [])
steps_on Step s [] z each one = (one, tt)
steps_on Step s (y ∷ ys) z each one = (each.0, steps_on Step y ys z each.1 one)

pub last_on : (s : Node) (ys : List Node) (z : Node) → z ≡ last_of s (ys ++ z ∷ [])
last_on s [] z = refl
last_on s (y ∷ ys) z = last_on y ys z

-- ---- members of lists

in_front : {X : Type 0} (xs ys : List X) (x : X) → In xs x → In (xs ++ ys) x
in_front [] ys x h = absurd h
in_front (y ∷ xs) ys x (inl same) = inl same
in_front (y ∷ xs) ys x (inr h) = inr (in_front xs ys x h)

in_end : {X : Type 0} (xs : List X) (x : X) → In (xs ++ x ∷ []) x
in_end [] x = inl refl
in_end (y ∷ xs) x = inr (in_end xs x)

last_in : (s : Node) (ys : List Node) → In (s ∷ ys) (last_of s ys)
last_in s [] = inl refl
last_in s (y ∷ ys) = inr (last_in y ys)

module _ {D : Type 0} (stands_for : D → DiskState → Type 0) where
  -- nothing was done
  rests : (code : Running D) (s : Node) → StaysOnDisk stands_for code code s s
  rests code s d on = (d, on, started d (IsEither code.me code.cluster s s) (λ left may. inl (on.keeps.left left may)))

  pub none_sealed : (code : Running D) (How : Node → Node → Type 0) → ((s : Node) → How s s) → LeadsSealed stands_for code code How
  none_sealed code How how = record { leads = λ s stands. (s, how s, stands, rests code s) }

  pub none_led : (code : Running D) (How : List Node → Node → Node → Type 0) → ((s : Node) → How [] s s) → Led stands_for code code How
  none_led code How how = record {
    leads = λ s stands. (
      [],
      s,
      how s,
      stands,
      λ d on.
          (d, on, started d (IsOneOf code.me code.cluster (s ∷ [])) (λ left may. (s, inl refl, on.keeps.left left may))),
    );
  }

  -- led by one relation, so by a wider one
  pub sealed_as : (old new : Running D) (How Wider : Node → Node → Type 0) → ((s t : Node) → How s t → Wider s t) → LeadsSealed stands_for old new How → LeadsSealed stands_for old new Wider
  sealed_as old new How Wider wider h = record { leads = λ s stands. let l = h.leads s stands in (l.0, wider s l.0 l.1, l.2, l.3) }

  pub widened : (old new : Running D) (How Wider : List Node → Node → Node → Type 0) → ((through : List Node) (s t : Node) → How through s t → Wider through s t) → Led stands_for old new How → Led stands_for old new Wider
  widened old new How Wider wider h = record { leads = λ s stands. let l = h.leads s stands in (l.0, l.1, wider l.0 s l.1 l.2, l.3, l.4) }

  -- of the same node
  pub of_same : (old mid new : Running D) → StaysWhose old mid → (How : ℕ → ℕ → Node → Node → Type 0) → LeadsSealed stands_for mid new (How mid.cluster mid.me) → LeadsSealed stands_for mid new (How old.cluster old.me)
  of_same old mid new whose How h =
      subst (λ p. LeadsSealed stands_for mid new (How old.cluster p)) whose.me (subst (λ n. LeadsSealed stands_for mid new (How n mid.me)) whose.cluster h)

  -- what one of the nodes so far, or the next one, has on record
  either_more : (p n : ℕ) (all : List Node) (t u : Node) → In all t → (file : List ℕ) → IsEither p n t u file → IsOneOf p n (all ++ u ∷ []) file
  either_more p n all t u is file (inl before) = (t, in_front all (u ∷ []) t is, before)
  either_more p n all t u is file (inr behind) = (u, in_end all u, behind)

  one_more : (p n : ℕ) (all : List Node) (u : Node) (file : List ℕ) → IsOneOf p n all file → IsOneOf p n (all ++ u ∷ []) file
  one_more p n all u file (x, is, found) = (x, in_front all (u ∷ []) x is, found)

  -- and then on to one node more
  pub led_on : (old mid new : Running D) → StaysWhose old mid → (A C : List Node → Node → Node → Type 0) (B : Node → Node → Type 0)
      → ((through : List Node) (s t : Node) → A through s t → t ≡ last_of s through)
      → ((through : List Node) (s t u : Node) → A through s t → B t u → C (through ++ u ∷ []) s u)
      → Led stands_for old mid A → LeadsSealed stands_for mid new B → Led stands_for old new C
  led_on old mid new whose A C B last so first then_sealed = record {
    leads = λ s stands.
        let a = first.leads s stands in
        let b = then_sealed.leads a.1 a.3 in
        let is : In (s ∷ a.0) a.1 = subst (In (s ∷ a.0)) (sym (last a.0 s a.1 a.2)) (last_in s a.0) in (
          a.0 ++ b.0 ∷ [],
          b.0,
          so a.0 s a.1 b.0 a.2 b.1,
          b.2,
          λ d on.
              let e = a.4 d on in
              let f = b.3 e.0 e.1 in
              let All : List ℕ → Type 0 = IsOneOf old.me old.cluster (s ∷ (a.0 ++ b.0 ∷ [])) in
              let mine : LeavesOnly e.0 f.0 (IsEither old.me old.cluster a.1 b.0) =
              subst (λ p. LeavesOnly e.0 f.0 (IsEither p old.cluster a.1 b.0)) whose.me (subst (λ n. LeavesOnly e.0 f.0 (IsEither mid.me n a.1 b.0)) whose.cluster f.2) in (
                f.0,
                f.1,
                then d e.0 f.0 All
                    (weaker d e.0 (IsOneOf old.me old.cluster (s ∷ a.0)) All (one_more old.me old.cluster (s ∷ a.0) b.0) e.2)
                    (weaker e.0 f.0 (IsEither old.me old.cluster a.1 b.0) All (either_more old.me old.cluster (s ∷ a.0) a.1 b.0 is) mine),
              ),
        );
  }
