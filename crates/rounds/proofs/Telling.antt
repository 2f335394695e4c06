-- Votes of all servers make their value known, whatever else comes.
use Rattle.std.proofs.Common.{◌≡◌, ◌≢◌, ◌⊎◌, inl, inr, ⊎_elim, ℕ, max, ◌≤◌, Some, None, List, [], ◌∷◌}
use Rattle.std.proofs.Common.{not, refl, sym, ap, subst, ◌∙◌, arith}
use Rattle.std.specs.Prelude.{nat_eq, ⊤}
use Rattle.site_ids.specs.Ids.{BallotOf, IsNode}
use Rattle.site_ids.specs.Lists.{In}
use Rattle.site_ids.proofs.MapLemmas.{put_here, put_other}
use Rattle.site_ids.proofs.MajorityLemmas.{all_are_many}
use Rattle.wire.specs.declared.message.Message.{Message}
use Rattle.wire.specs.declared.message.Message.TheVariants.{Prepare, Promise, Propose, Accepted, Nack, Ask}
use Rattle.wire.specs.declared.message.Message.TheVariants.{Chosen}
use Rattle.wire.specs.Decoding.{Spells}
use Rattle.learner.specs.ToldVotes.{ToldVote, told_vote, HasMajority}
use Rattle.node.specs.declared.to.To.{To}
use Rattle.node.specs.declared.to.To.TheVariants.{One}
use Rattle.node.specs.Nodes.{Value, Node, IsKnown, IsUnknown, IsMute}
use Rattle.node.specs.Effects.{Effect, quiet, says, learned}
use Rattle.node.specs.Calls.{Call}
use Rattle.node.specs.Deliveries.{with_vote, Counted, OnPrepare, OnPropose, ByKind, reached_by}
use Rattle.node.specs.Endings.{Whole}
use Rattle.node.proofs.Knowing.{known_stays}
use Rattle.site_drive.specs.declared.last_call.LastCall.{LastCall}
use Rattle.site_drive.specs.Drives.{EndsTurns}
use Rattle.site_drive.specs.Batches.{TakesEach}
use Rattle.rounds.proofs.Counting.{in_filtered, out_of_filter, not_equal}
use Rattle.rounds.proofs.Delivering.{Keeps, brought}
use Rattle.rounds.proofs.Calling.{all_called}
use Rattle.rounds.proofs.Promising.{all_or}

-- against a contradiction anything holds or does not
cases : {P : Type 0} → ((P ⊎ (¬ P)) → ⊥) → ⊥
cases h = h (inr (λ p. h (inl p)))

equal_or : (a b : ℕ) → (a ≡ b) ⊎ (a ≢ b)
equal_or a b = grind arith

abbrev any_message : Message → Type 0
any_message m = ⊤

abbrev any_call : Call → Type 0
any_call call = ⊤

module _ (n q i : ℕ) (b : BallotOf) (v : Value) where
  abbrev vote : ℕ → ToldVote
  vote r = told_vote r i b v

  abbrev IsMany : List ToldVote → Type 0
  IsMany votes = HasMajority n (In votes) i b v

  -- a value is known; or node r's vote is among those counted, which are too few
  abbrev Counts : ℕ → Node → Type 0
  Counts r s = ((u : Value) × (s.known i ≡ Some u))
      ⊎ ((s.known i ≡ None) × In s.votes (vote r) × (¬ IsMany s.votes))

  same_as : (r : ℕ) (s t : Node) (effect : Effect) → effect.after ≡ t → t.known i ≡ s.known i
      → t.votes ≡ s.votes → Counts r s → Counts r effect.after
  same_as r s t effect is known votes counts = subst (Counts r) (sym is)
      (⊎_elim
      (λ (x : (u : Value) × (s.known i ≡ Some u)). inl (x.0, known ∙ x.1))
      (λ (x : (s.known i ≡ None) × In s.votes (vote r) × (¬ IsMany s.votes)). inr (
        known ∙ x.0,
        subst (λ l. In l (vote r)) (sym votes) x.1,
        subst (λ l. ¬ IsMany l) (sym votes) x.2,
      ))
      counts)

  -- one vote more does not make them many, if they are few at its own instance, ballot and value
  still_few : (votes : List ToldVote) (t : ToldVote)
      → ¬ HasMajority n (In (t ∷ votes)) t.instance t.ballot t.value → ¬ IsMany votes → ¬ IsMany (t ∷ votes)
  still_few votes t few old many = cases (λ (either : (t ≡ vote t.voter) ⊎ (¬ (t ≡ vote t.voter))).
      ⊎_elim
      (λ (same : t ≡ vote t.voter). few (subst
      (λ (x : ToldVote). HasMajority n (In (t ∷ votes)) x.instance x.ballot x.value) (sym same) many))
      (λ (apart : ¬ (t ≡ vote t.voter)). old (
        many.0,
        many.1,
        λ p k. ⊎_elim
            (λ (e : t ≡ vote p). absurd (apart (e ∙ ap vote (sym (ap (λ (x : ToldVote). x.voter) e)))))
            (λ later. later)
            (many.2 p k),
      ))
      either)

  -- a value becomes known at an instance
  learned_there : (r : ℕ) (s : Node) (j : ℕ) (u : Value) → Counts r s → Counts r (learned s j u)
  learned_there r s j u counts =
      ⊎_elim
      (λ (e : i ≡ j). inl (u, put_here s.known j (Some u) i e))
      (λ (apart : i ≢ j).
      let same : (learned s j u).known i ≡ s.known i = put_other s.known j (Some u) i apart in
      ⊎_elim
      (λ (x : (w : Value) × (s.known i ≡ Some w)). inl (x.0, same ∙ x.1))
      (λ (x : (s.known i ≡ None) × In s.votes (vote r) × (¬ IsMany s.votes)). inr (
        same ∙ x.0,
        in_filtered (λ (t : ToldVote). not (nat_eq t.instance j)) s.votes (vote r) x.1
            (not_equal i j apart),
        λ many. x.2 (
          many.0,
          many.1,
          λ p k. out_of_filter (λ (t : ToldVote). not (nat_eq t.instance j)) s.votes (vote p) (many.2 p k),
        ),
      ))
      counts)
      (equal_or i j)

  with_more : (r : ℕ) (s : Node) (t : ToldVote)
      → ¬ HasMajority n (In (with_vote s t).votes) t.instance t.ballot t.value → Counts r s
      → Counts r (with_vote s t)
  with_more r s t few counts =
      ⊎_elim
      (λ (x : (w : Value) × (s.known i ≡ Some w)). inl x)
      (λ (x : (s.known i ≡ None) × In s.votes (vote r) × (¬ IsMany s.votes)). inr (
        x.0,
        inr x.1,
        still_few s.votes t few x.2,
      ))
      counts

  -- a vote that makes many: its value becomes known
  many_there : (r : ℕ) (s : Node) (t : ToldVote) (u : Value) → Counts r s
      → Counts r (learned (with_vote s t) t.instance u)
  many_there r s t u counts =
      ⊎_elim
      (λ (e : i ≡ t.instance). inl (u, put_here s.known t.instance (Some u) i e))
      (λ (apart : i ≢ t.instance).
      let same : (learned (with_vote s t) t.instance u).known i ≡ s.known i
      = put_other s.known t.instance (Some u) i apart in
      ⊎_elim
      (λ (x : (w : Value) × (s.known i ≡ Some w)). inl (x.0, same ∙ x.1))
      (λ (x : (s.known i ≡ None) × In s.votes (vote r) × (¬ IsMany s.votes)). inr (
        same ∙ x.0,
        in_filtered (λ (y : ToldVote). not (nat_eq y.instance t.instance)) (t ∷ s.votes) (vote r) (inr x.1)
            (not_equal i t.instance apart),
        λ many. x.2 (
          many.0,
          many.1,
          λ p k. ⊎_elim
              (λ (e : t ≡ vote p). absurd (apart (sym (ap (λ (y : ToldVote). y.instance) e))))
              (λ later. later)
              (out_of_filter (λ (y : ToldVote). not (nat_eq y.instance t.instance)) (t ∷ s.votes) (vote p)
              (many.2 p k)),
        ),
      ))
      counts)
      (equal_or i t.instance)

  on_any : (r p : ℕ) (s : Node) (m : Message) (effect : Effect) → ByKind n p s m effect → Counts r s
      → Counts r effect.after
  on_any r p s (Prepare x j c k) effect how counts =
      ⊎_elim
      (λ (y : IsMute s j × (effect ≡ quiet s)). same_as r s s effect (ap (λ (z : Effect). z.after) y.1) refl
      refl counts)
      (λ (y : (¬ IsMute s j) × OnPrepare p s j c k effect). same_as r s s effect
      (ap (λ (z : Effect). z.after) y.1.is) refl refl counts)
      how
  on_any r p s (Promise x j c prior) effect how counts = same_as r s (record s { attempts = how.attempts })
      effect (ap (λ (z : Effect). z.after) how.is) refl refl counts
  on_any r p s (Propose x j c u) effect how counts =
      ⊎_elim
      (λ (y : IsMute s j × (effect ≡ quiet s)). same_as r s s effect (ap (λ (z : Effect). z.after) y.1) refl
      refl counts)
      (λ (y : (¬ IsMute s j) × OnPropose p s j c u effect). same_as r s s effect
      (ap (λ (z : Effect). z.after) y.1.is) refl refl counts)
      how
  on_any r p s (Accepted x j c u) effect how counts =
      let t = told_vote x j c u in
      ⊎_elim
      (λ (y : IsUnknown s j × Counted n (with_vote s t) j c u effect).
      ⊎_elim
      (λ (few : (¬ HasMajority n (In (with_vote s t).votes) j c u) × (effect ≡ quiet (with_vote s t))).
      subst (Counts r) (sym (ap (λ (z : Effect). z.after) few.1)) (with_more r s t few.0 counts))
      (λ (many : HasMajority n (In (with_vote s t).votes) j c u
      × (effect ≡ quiet (learned (with_vote s t) j u))).
      subst (Counts r) (sym (ap (λ (z : Effect). z.after) many.1)) (many_there r s t u counts))
      y.1)
      (λ (y : IsKnown s j × (effect ≡ quiet s)). same_as r s s effect (ap (λ (z : Effect). z.after) y.1) refl
      refl counts)
      how
  on_any r p s (Nack x j c d) effect how counts = same_as r s (record s { heard = max s.heard d.round })
      effect
      (ap (λ (z : Effect). z.after) how) refl refl counts
  on_any r p s (Ask x j) effect how counts =
      ⊎_elim
      (λ (y : (u : Value) × (s.known j ≡ Some u) × (effect ≡ says s (One x) (Chosen p j u))). same_as r s s
      effect (ap (λ (z : Effect). z.after) y.2) refl refl counts)
      (λ (y : IsUnknown s j × (effect ≡ quiet s)). same_as r s s effect (ap (λ (z : Effect). z.after) y.1)
      refl
      refl counts)
      how
  on_any r p s (Chosen x j u) effect how counts =
      ⊎_elim
      (λ (y : IsUnknown s j × (effect ≡ quiet (learned s j u))). subst (Counts r)
      (sym (ap (λ (z : Effect). z.after) y.1)) (learned_there r s j u counts))
      (λ (y : (s.known j ≡ Some u) × (effect ≡ quiet s)). same_as r s s effect
      (ap (λ (z : Effect). z.after) y.1) refl refl counts)
      how

  -- the vote itself
  on_vote : (r p : ℕ) (s : Node) (effect : Effect) → ByKind n p s (Accepted r i b v) effect
      → Counts r effect.after
  on_vote r p s effect how =
      ⊎_elim
      (λ (y : IsUnknown s i × Counted n (with_vote s (vote r)) i b v effect).
      ⊎_elim
      (λ (few : (¬ HasMajority n (In (with_vote s (vote r)).votes) i b v)
      × (effect ≡ quiet (with_vote s (vote r)))).
      subst (Counts r) (sym (ap (λ (z : Effect). z.after) few.1)) (inr (y.0, inl refl, few.0)))
      (λ (many : HasMajority n (In (with_vote s (vote r)).votes) i b v
      × (effect ≡ quiet (learned (with_vote s (vote r)) i v))).
      subst (Counts r) (sym (ap (λ (z : Effect). z.after) many.1))
      (inl (v, put_here s.known i (Some v) i refl)))
      y.1)
      (λ (y : IsKnown s i × (effect ≡ quiet s)). subst (Counts r) (sym (ap (λ (z : Effect). z.after) y.1))
      (inl y.0))
      how

  abbrev Nothing : Node → List (To × Message) → Type 0
  Nothing s l = ⊤

  counts_on : (r : ℕ) → Keeps n q any_message (λ s l. Nothing s l × Counts r s)
  counts_on r s t before out m h is allowed ends = (
    tt,
    subst (Counts r) (sym ends.node)
        (on_any r q (record s { reached = reached_by s.reached m }) m ends.effect ends.does h.1),
  )

  -- all servers voted, so a value is known
  pub votes_tell : 1 ≤ n → (came : List (List ℕ)) (s t : Node) (malformed : ℕ) (out : List (To × Message))
      → ((r : ℕ) → IsNode n r → (d : List ℕ) × In came d × Spells n d (Accepted r i b v))
      → TakesEach n q came malformed out s t → (u : Value) × (t.known i ≡ Some u)
  votes_tell some came s t malformed out each taken =
      let all = all_are_many n some in
      let counted : (r : ℕ) → IsNode n r → Counts r t = λ r node.
      let d = each r node in
      brought n q any_message Nothing (λ u l. Counts r u) (λ u w before more m h is ok ends. tt) (counts_on r)
      d.0 (Accepted r i b v) d.2
      (λ u w before more h ends. subst (Counts r) (sym ends.node)
      (on_vote r q (record u { reached = max u.reached i }) ends.effect ends.does))
      came s t malformed [] out d.1 (λ e m k spells. tt) taken tt in
      ⊎_elim
      (λ (e : (u : Value) × (t.known i ≡ Some u)). e)
      (λ (y : (t.known i ≡ None) × In t.votes (vote 1) × (¬ IsMany t.votes)).
      ⊎_elim
      (λ (told : (r : ℕ) → In all.0 r → In t.votes (vote r)). absurd (y.2 (all.0, all.1, told)))
      (λ (e : (u : Value) × (t.known i ≡ Some u)). e)
      (all_or (λ r. In t.votes (vote r)) ((u : Value) × (t.known i ≡ Some u)) all.0
      (λ r k. ⊎_elim (λ (e : (u : Value) × (t.known i ≡ Some u)). inr e)
      (λ (z : (t.known i ≡ None) × In t.votes (vote r) × (¬ IsMany t.votes)). inl z.1)
      (counted r (all.1.nodes r k)))))
      (counted 1 (omega arith, some))

  pub stays_told : (last : LastCall) (s t : Node) (out : List (To × Message)) (u : Value)
      → EndsTurns last n q s out t → s.known i ≡ Some u → t.known i ≡ Some u
  stays_told last s t out u ends known =
      all_called n q (λ x l. x.known i ≡ Some u) any_call
      (λ x w before more call may h e. known_stays n q x w call Whole more e i u h)
      last s t [] out (λ call is. tt) ends known
