-- Datagrams that came, delivered one after another, and the last call.
use Rattle.std.proofs.Common.{◌≡◌, ◌≢◌, inl, inr, ℕ, suc, ◌+◌, ◌<◌, ◌≤◌, Some, List, [], ◌∷◌, ◌++◌, length, map, take, drop, slice_index_or, refl, sym, ap, subst, ◌∙◌, append-nil, append_assoc, arith}
use Rattle.std.proofs.lemmas.List.{map-append, take-append-drop}
use Rattle.site_disk.specs.Model.{DiskState}
use Rattle.wire.specs.declared.message.Message.{Message}
use Rattle.node.specs.declared.fault.NodeFault.{NodeFault}
use Rattle.node.specs.declared.fault.NodeFault.TheVariants as fault
use Rattle.node.specs.declared.to.To.{To}
use Rattle.node.specs.declared.node.Node.{Node as Running}
use Rattle.node.specs.Nodes.{Node}
use Rattle.node.specs.Standing.{KeepsOthers, ending_by}
use Rattle.site_drive.specs.declared.last_call.LastCall.{LastCall}
use Rattle.site_drive.specs.Drives.{TakesAll, EndsLast, EndsTurns, BreaksOff}
use Rattle.site_drive.specs.Leading.{AllFit, NodeLeads, TakesIn}
use Rattle.site_drive.specs.Batches.{TakesEach, Works, GivesUpTaking, GivesUpWork}
use Rattle.site_drive.proofs.Calling.{all_fit}
use Rattle.site_drive.proofs.Giving.{take_more, take_past}
use Rattle.site_drive.proofs.ManyTurns.{takes_on}

-- ---- the first so many, and one more

module _ {X : Type 0} (bytes : X → List ℕ) (xs : List X) (i : ℕ) (x : X) where
  first_more : i < length xs → x ≡ slice_index_or xs i x → map Some (map bytes (take (i + 1) xs)) ≡ map Some (map bytes (take i xs)) ++ Some (bytes x) ∷ []
  first_more below got =
      let next : suc i ≡ i + 1 = omega arith in
      ap (λ k. map Some (map bytes (take k xs))) (sym next) ∙ ap (λ l. map Some (map bytes l)) (take_more xs i x below got)
      ∙ ap (map Some) (map-append bytes (take i xs) (x ∷ [])) ∙ map-append Some (map bytes (take i xs)) (bytes x ∷ [])

  -- those before it, it, and those after
  split_at : i < length xs → x ≡ slice_index_or xs i x → map bytes xs ≡ map bytes (take i xs) ++ bytes x ∷ map bytes (drop (suc i) xs)
  split_at below got =
      ap (map bytes) (sym (take-append-drop (suc i) xs)) ∙ ap (λ l. map bytes (l ++ drop (suc i) xs)) (take_more xs i x below got)
      ∙ map-append bytes (take i xs ++ x ∷ []) (drop (suc i) xs) ∙ ap (λ l. l ++ map bytes (drop (suc i) xs)) (map-append bytes (take i xs) (x ∷ []))
      ∙ append_assoc (map bytes (take i xs)) (bytes x ∷ []) (map bytes (drop (suc i) xs))

-- of the same node
pub of_same_node : {D : Type 0} (stands_for : D → DiskState → Type 0) (old mid new : Running D) → KeepsOthers old mid → (How : ℕ → ℕ → Node → Node → Type 0)
    → NodeLeads stands_for mid new (How mid.cluster mid.me) → NodeLeads stands_for mid new (How old.cluster old.me)
of_same_node stands_for old mid new others How h =
    subst (λ p. NodeLeads stands_for mid new (How old.cluster p)) others.me (subst (λ n. NodeLeads stands_for mid new (How n mid.me)) others.cluster h)

module _ {D : Type 0} (stands_for : D → DiskState → Type 0) where
  -- and then
  then_leads : (old mid new : Running D) (A B C : Node → Node → Type 0) → ((s t u : Node) → A s t → B t u → C s u) → NodeLeads stands_for old mid A → NodeLeads stands_for mid new B → NodeLeads stands_for old new C
  then_leads old mid new A B C so first then = record {
    leads = λ s stands.
        let r = first.leads s stands in
        let t = then.leads r.0 r.2 in
        (t.0, so s r.0 t.0 r.1 t.1, t.2, λ d on. let e = r.3 d on in t.3 e.0 e.1, λ b d of. t.4 b d (r.4 b d of));
  }

  -- what of these datagrams was taken so far
  abbrev pub TakenSoFar : ℕ → ℕ → List (List ℕ) → ℕ → List (To × Message) → Node → Node → Type 0
  TakenSoFar n p came malformed out s next = TakesEach n p came malformed out s next × AllFit out

  pub none_taken : (code : Running D) (n p : ℕ) (out : List (To × Message)) → out ≡ [] → NodeLeads stands_for code code (TakenSoFar n p [] 0 out)
  none_taken code n p out empty = record { leads = λ s stands. (s, ((refl, empty, refl), subst AllFit (sym empty) (λ m k. absurd k)), stands, (λ d on. (d, on)), λ b d of. of) }

  module _ {X : Type 0} (bytes : X → List ℕ) (xs : List X) (i : ℕ) (x : X) (below : i < length xs) (got : x ≡ slice_index_or xs i x)
      (old mid new : Running D) (n p malformed : ℕ) (out : List (To × Message)) (earlier : NodeLeads stands_for old mid (TakenSoFar n p (map bytes (take i xs)) malformed out))
    where
      pub one_more : (one : ℕ) (after : List (To × Message)) → NodeLeads stands_for mid new (TakesIn n p (Some (bytes x)) one out after)
          → NodeLeads stands_for old new (TakenSoFar n p (map bytes (take (i + 1) xs)) (malformed + one) after)
      one_more one after taken =
          then_leads old mid new (TakenSoFar n p (map bytes (take i xs)) malformed out) (TakesIn n p (Some (bytes x)) one out after) (TakenSoFar n p (map bytes (take (i + 1) xs)) (malformed + one) after)
          (λ s t u before r. (
            subst (λ hs. TakesAll n p s hs (malformed + one) after u) (sym (first_more bytes xs i x below got)) (subst (λ l. TakesAll n p s (map Some (map bytes (take i xs)) ++ Some (bytes x) ∷ []) (malformed + one) l u) (sym r.1)
                (takes_on n p s t u (map Some (map bytes (take i xs))) (Some (bytes x) ∷ []) malformed one out r.0 before.0 (u, one, 0, r.0, [], r.2, (refl, refl, refl), omega arith, sym (append-nil r.0)))),
            subst AllFit (sym r.1) (all_fit out r.0 before.1 r.3),
          ))
          earlier taken

      pub breaks_off : (why : NodeFault) → NodeLeads stands_for mid new (λ s next. BreaksOff n p s (bytes x) why next) → NodeLeads stands_for old new (GivesUpTaking n p (map bytes xs) why)
      breaks_off why broken =
          then_leads old mid new (TakenSoFar n p (map bytes (take i xs)) malformed out) (λ s next. BreaksOff n p s (bytes x) why next) (GivesUpTaking n p (map bytes xs) why)
          (λ s t u before off. record {
            front = map bytes (take i xs);
            bytes = bytes x;
            behind = map bytes (drop (suc i) xs);
            came_is = split_at bytes xs i x below got;
            mid = t;
            malformed = malformed;
            out = out;
            takes = before.0;
            breaks = off;
          })
          earlier broken

  pub all_taken : {X : Type 0} (bytes : X → List ℕ) (xs : List X) (i : ℕ) (old new : Running D) (n p malformed : ℕ) (out : List (To × Message)) → length xs ≤ i
      → NodeLeads stands_for old new (TakenSoFar n p (map bytes (take i xs)) malformed out) → NodeLeads stands_for old new (TakenSoFar n p (map bytes xs) malformed out)
  all_taken bytes xs i old new n p malformed out past h = subst (λ l. NodeLeads stands_for old new (TakenSoFar n p (map bytes l) malformed out)) (take_past xs i past) h

  -- ---- then the last call is made

  module _ (old mid new : Running D) (last : LastCall) (n p malformed : ℕ) (came : List (List ℕ)) (first : List (To × Message)) (taken : NodeLeads stands_for old mid (TakenSoFar n p came malformed first)) where
    pub worked : (out : List (To × Message)) → NodeLeads stands_for mid new (λ s next. (then : List (To × Message)) × (out ≡ first ++ then) × EndsTurns last n p s then next × AllFit then)
        → NodeLeads stands_for old new (Works last n p came malformed out)
    worked out called =
        then_leads old mid new (TakenSoFar n p came malformed first) (λ s next. (then : List (To × Message)) × (out ≡ first ++ then) × EndsTurns last n p s then next × AllFit then) (Works last n p came malformed out)
        (λ s t u before r. record {
          mid = t;
          first = first;
          then = r.0;
          takes = before.0;
          ends = r.2;
          fits = subst AllFit (sym r.1) (all_fit first r.0 before.1 r.3);
          out_is = r.1;
        })
        taken called

    pub called_off : (why : NodeFault) → why ≢ fault.InstancesUsedUp → NodeLeads stands_for mid new (λ s next. (then : List (To × Message)) × EndsLast last n p s (ending_by why) then next)
        → NodeLeads stands_for old new (GivesUpWork last n p came why)
    called_off why other called =
        then_leads old mid new (TakenSoFar n p came malformed first) (λ s next. (then : List (To × Message)) × EndsLast last n p s (ending_by why) then next) (GivesUpWork last n p came why)
        (λ s t u before r. inr (record { mid = t; malformed = malformed; first = first; then = r.0; takes = before.0; ends = r.1; other = other }))
        taken called

  pub given_up_taking : (old new : Running D) (last : LastCall) (n p : ℕ) (came : List (List ℕ)) (why told : NodeFault) → told ≡ why → NodeLeads stands_for old new (GivesUpTaking n p came why)
      → NodeLeads stands_for old new (GivesUpWork last n p came told)
  given_up_taking old new last n p came why told is h =
      subst (λ w. NodeLeads stands_for old new (GivesUpWork last n p came w)) (sym is) (record { leads = λ s stands. let r = h.leads s stands in (r.0, inl r.1, r.2, r.3, r.4) })
