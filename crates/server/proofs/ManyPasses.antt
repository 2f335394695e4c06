-- Steps, and passes one after another.
use Rattle.std.proofs.Common.{◌≡◌, ◌⊎◌, inl, inr, ⊎_elim, ℕ, ◌+◌, ◌<◌, ◌≤◌, List, [], ◌∷◌, ◌++◌, length, take, Result, Ok, Err, refl, sym, ap, subst, ◌∙◌, arith}
use Rattle.std.proofs.lemmas.List.{length-append}
use Rattle.std.proofs.Math.Seq.{take-length}
use Rattle.std.specs.Result.{IsErrAnd, IfErr}
use Rattle.site_disk.specs.Model.{DiskState}
use Rattle.wire.specs.declared.message.Message.{Message}
use Rattle.http_serve.specs.Services.{MaySubmitMany}
use Rattle.node.specs.Nodes.{Node, IsKnownPrefix}
use Rattle.node.specs.declared.fault.NodeFault.{NodeFault}
use Rattle.node.specs.declared.fault.NodeFault.TheVariants as node_fault
use Rattle.node.specs.declared.node.Node.{Node as Running}
use Rattle.node.specs.declared.to.To.{To}
use Rattle.site_drive.specs.Batches.{TakesBatch, GivesUpBatch, LosesBatch, LeadsSealed, IsStop}
use Rattle.site_drive.specs.Leading.{AllFit, StaysWhose}
use Rattle.site_drive.specs.Posting.{spelled_of}
use Rattle.site_drive.specs.declared.last_call.LastCall.{LastCall}
use Rattle.server_faults.specs.ServerFaults.{of_node, EndsLaps}
use Rattle.server.specs.Passes.{TakesStep, BreaksStep, TakesPass, TakesPasses, BreaksPass, BreaksPasses, BreaksWork, EndsWork, Led, IsBatched, IsBatchOf, LosesStep, EndsByStep, LosesPass, LosesPasses}
use Rattle.server_clients.specs.Served.{offered}
use Rattle.server_faults.specs.declared.server_fault.ServerFault.{ServerFault}
use Rattle.server_faults.specs.declared.server_fault.ServerFault.TheVariants as server_fault
use Rattle.server_clients.specs.declared.served.Served.{Served}
use Rattle.server.proofs.ManySteps.{still_published, steps_on, last_on, none_sealed, none_led, sealed_as, widened, led_on, of_same, requests_on, many_others}

-- ---- what is published

step_fed : (n p : ℕ) (came : List (List ℕ)) (letters : List (To × List ℕ)) (fed : List (List ℕ)) (s next : Node) → TakesStep n p came letters fed s next → IsKnownPrefix next fed
step_fed n p came letters fed s next h = still_published n p h.requests h.mid next fed h.takes h.batch.fed_is

passes_on : (n p k : ℕ) (fed then : List (List ℕ)) (through : List Node) (s t u : Node) → TakesPasses n p k fed through s t → TakesPass n p then t u → TakesPasses n p (k + 1) then (through ++ u ∷ []) s u
passes_on n p k fed then through s t u earlier last = record {
  as_many = length-append through (u ∷ []) ∙ ap (λ m. m + 1) earlier.as_many;
  each = steps_on _ s through u earlier.each (subst (λ w. (more : List (List ℕ)) × TakesPass n p more w u) earlier.last (then, last));
  last = last_on s through u;
  fed_is = λ _. step_fed n p last.0 last.1 then t u last.2;
}

-- ---- a fault that ends it

stops : (why : NodeFault) → IsStop why → of_node why ≡ server_fault.Stopped
stops why (inl device) = ap of_node device
stops why (inr stopped) = ap of_node stopped

ends_laps : (why : NodeFault) → EndsLaps (of_node why)
ends_laps node_fault.Device = tt
ends_laps node_fault.Stopped = tt
ends_laps node_fault.RoundsUsedUp = tt
ends_laps node_fault.Conflict = tt
ends_laps _ = tt

module _ {D : Type 0} (stands_for : D → DiskState → Type 0) where
  -- ---- a batch, and its letters

  module _ (old new : Running D) (last : LastCall) (came : List (List ℕ)) (malformed : ℕ) (out : List (To × Message)) (batch : LeadsSealed stands_for old new (TakesBatch last old.cluster old.me came malformed out new.releases)) where
    pub posted : (letters : List (To × List ℕ)) → (AllFit out → letters ≡ spelled_of out) → IsBatchOf stands_for last came malformed letters old new
    posted letters are = (out, record { leads = λ s stands. let r = batch.leads s stands in (r.0, (r.1, are r.1.works.fits), r.2, r.3) })

    -- an allocation failed as they were spelled, or after that: a beginning of them may be sent
    pub not_posted : (letters : List (To × List ℕ)) (told : ServerFault) → told ≡ server_fault.OutOfMemory
        → (AllFit out → (k : ℕ) × (letters ≡ take k (spelled_of out))) → EndsByStep stands_for came letters old new told
    not_posted letters told is are = record {
      leaves = inl (sealed_as stands_for old new (TakesBatch last old.cluster old.me came malformed out new.releases) (BreaksStep old.cluster old.me came told)
          (λ s t h. inr (
            is,
            (spelled_of out, new.releases, record { last = last; malformed = malformed; out = out; mid = t; batch = h; letters_are = refl; requests = 0; few = omega arith; takes = refl }),
          ))
          batch);
      may_send = inr (is, new, last, malformed, out, record { leads = λ s stands. let r = batch.leads s stands in (r.0, (r.1, are r.1.works.fits), r.2, r.3) });
      ends = subst EndsLaps (sym is) tt;
    }

  -- a batch that ends its server
  pub batch_broke : (old new : Running D) (last : LastCall) (came : List (List ℕ)) (letters : List (To × List ℕ)) (why : NodeFault) (told : ServerFault) → told ≡ of_node why → letters ≡ []
      → LeadsSealed stands_for old new (GivesUpBatch last old.cluster old.me came why) ⊎ (IsStop why × LosesBatch stands_for last came old new) → EndsByStep stands_for came letters old new told
  batch_broke old new last came letters why told is none broke = record {
    leaves = ⊎_elim
        (λ h. inl (sealed_as stands_for old new (GivesUpBatch last old.cluster old.me came why) (BreaksStep old.cluster old.me came told) (λ s t g. inl (last, why, is, g)) h))
        (λ h. inr (is ∙ stops why h.0, (last, h.1)))
        broke;
    may_send = inl none;
    ends = subst EndsLaps (sym is) (ends_laps why);
  }

  -- ---- then requests are answered

  module _ (old : Running D) (mid new : Served D) (came : List (List ℕ)) (malformed : ℕ) (letters : List (To × List ℕ)) (whose : StaysWhose old mid.node) (batched : IsBatched stands_for came malformed letters old mid.node)
      (k : ℕ) (few : k ≤ 6400) (taken : MaySubmitMany offered k mid new)
    where
      pub answered : LeadsSealed stands_for old new.node (TakesStep old.cluster old.me came letters new.node.releases)
      answered =
          let b = batched in
          let Batch : Node → Node → Type 0 = λ s next. TakesBatch b.0 old.cluster old.me came malformed b.1.0 mid.node.releases s next × (letters ≡ spelled_of b.1.0) in
          let others = many_others k mid new taken in
          subst (λ vs. LeadsSealed stands_for old new.node (TakesStep old.cluster old.me came letters vs)) (sym others.releases)
          (requests_on stands_for old mid new Batch (TakesStep old.cluster old.me came letters mid.node.releases) k whose taken
          (λ s t u h takes. record { last = b.0; malformed = malformed; out = b.1.0; mid = t; batch = h.0; letters_are = h.1; requests = k; few = few; takes = takes })
          b.1.1)

      -- an allocation failed for one: all letters of the batch may be sent
      pub not_answered : (told : ServerFault) → told ≡ server_fault.OutOfMemory → EndsByStep stands_for came letters old new.node told
      not_answered told is =
          let b = batched in
          let all = spelled_of b.1.0 in
          record {
            leaves = inl (sealed_as stands_for old new.node (TakesStep old.cluster old.me came letters new.node.releases) (BreaksStep old.cluster old.me came told) (λ s t h. inr (is, (letters, new.node.releases, h))) answered);
            may_send = inr (is, mid.node, b.0, malformed, b.1.0, record { leads = λ s stands. let r = b.1.1.leads s stands in (r.0, (r.1.0, (length all, r.1.1 ∙ sym (take-length all))), r.2, r.3) });
            ends = subst EndsLaps (sym is) tt;
          }

  -- ---- a pass

  pub passed : (old new : Running D) (n p : ℕ) (came : List (List ℕ)) (letters : List (To × List ℕ)) (fed : List (List ℕ)) → LeadsSealed stands_for old new (TakesStep n p came letters fed) → LeadsSealed stands_for old new (TakesPass n p fed)
  passed old new n p came letters fed h = sealed_as stands_for old new (TakesStep n p came letters fed) (TakesPass n p fed) (λ s t step. (came, letters, step)) h

  pub step_broke : (old new : Running D) (n p : ℕ) (came : List (List ℕ)) (why told : ServerFault) → told ≡ why → LeadsSealed stands_for old new (BreaksStep n p came why) ⊎ LosesStep stands_for came old new why
      → LeadsSealed stands_for old new (BreaksPass n p told) ⊎ LosesPass stands_for old new told
  step_broke old new n p came why told is (inl h) = inl (sealed_as stands_for old new (BreaksStep n p came why) (BreaksPass n p told) (λ s t b. inl (came, subst (λ w. BreaksStep n p came w s t) (sym is) b)) h)
  step_broke old new n p came why told is (inr h) = inr (came, (is ∙ h.0, h.1))

  pub not_begun : (code : Running D) (n p : ℕ) (told : ServerFault) → told ≡ server_fault.OutOfMemory → LeadsSealed stands_for code code (BreaksPass n p told)
  not_begun code n p told is = none_sealed stands_for code (BreaksPass n p told) (λ s. inr (is, refl))

  -- ---- passes

  pub no_passes : (code : Running D) (n p : ℕ) (fed : List (List ℕ)) → Led stands_for code code (TakesPasses n p 0 fed)
  no_passes code n p fed = none_led stands_for code (TakesPasses n p 0 fed) (λ s. record { as_many = refl; each = tt; last = refl; fed_is = λ some. absurd (some refl) })

  module _ (old mid new : Running D) (whose : StaysWhose old mid) (k : ℕ) (fed : List (List ℕ)) (earlier : Led stands_for old mid (TakesPasses old.cluster old.me k fed)) where
    pub one_pass_more : (then : List (List ℕ)) → LeadsSealed stands_for mid new (TakesPass mid.cluster mid.me then) → Led stands_for old new (TakesPasses old.cluster old.me (k + 1) then)
    one_pass_more then last =
        led_on stands_for old mid new whose (TakesPasses old.cluster old.me k fed) (TakesPasses old.cluster old.me (k + 1) then) (TakesPass old.cluster old.me then)
        (λ through s t taken. taken.last)
        (passes_on old.cluster old.me k fed then)
        earlier (of_same stands_for old mid new whose (λ n p. TakesPass n p then) last)

    pub pass_ends : (count : ℕ) (why told : ServerFault) → told ≡ why → k < count → LeadsSealed stands_for mid new (BreaksPass mid.cluster mid.me why) ⊎ LosesPass stands_for mid new why
        → Led stands_for old new (BreaksPasses old.cluster old.me count told) ⊎ LosesPasses stands_for old new count told
    pass_ends count why told is below (inl breaks) =
        inl (led_on stands_for old mid new whose (TakesPasses old.cluster old.me k fed) (BreaksPasses old.cluster old.me count told) (BreaksPass old.cluster old.me why)
        (λ through s t taken. taken.last)
        (λ through s t u taken b. record { whole = k; fewer = below; mid = t; fed = fed; front = through; taken = taken; breaks = subst (λ w. BreaksPass old.cluster old.me w t u) (sym is) b; through_is = refl })
        earlier (of_same stands_for old mid new whose (λ n p. BreaksPass n p why) breaks))
    pass_ends count why told is below (inr loses) =
        inr (record { whole = k; fewer = below; mid = mid; fed = fed; taken = earlier; loses = (loses.0, (is ∙ loses.1.0, loses.1.1)) })

  -- ---- a server's work

  module _ (old new : Running D) (count : ℕ) where
    pub halts : {T : Type 0} (r : Result T ServerFault) (why : ServerFault) → IsErrAnd r (λ y. y ≡ why) → Led stands_for old new (BreaksWork old.cluster old.me count why) ⊎ LosesPasses stands_for old new count why
        → EndsWork stands_for count old new r
    halts (Ok x) why told how = absurd told
    halts (Err y) why told how = record { passes = tt; halted = subst (λ w. Led stands_for old new (BreaksWork old.cluster old.me count w) ⊎ LosesPasses stands_for old new count w) (sym told) how }

    pub passes_end : (why : ServerFault) → Led stands_for old new (BreaksPasses old.cluster old.me count why) ⊎ LosesPasses stands_for old new count why
        → Led stands_for old new (BreaksWork old.cluster old.me count why) ⊎ LosesPasses stands_for old new count why
    passes_end why (inl h) = inl (widened stands_for old new (BreaksPasses old.cluster old.me count why) (BreaksWork old.cluster old.me count why) (λ through s t b. inr (inl b)) h)
    passes_end why (inr h) = inr h

    pub all_told : {T : Type 0} (r : Result T ServerFault) → IfErr r (λ why. why ≡ server_fault.Write) → Led stands_for old new (TakesPasses old.cluster old.me count new.releases) → EndsWork stands_for count old new r
    all_told (Ok x) told led = record { passes = led; halted = tt }
    all_told (Err why) told led = record {
      passes = tt;
      halted = inl (widened stands_for old new (TakesPasses old.cluster old.me count new.releases) (BreaksWork old.cluster old.me count why) (λ through s t r. inr (inr (told, new.releases, r))) led);
    }

  pub not_ready : (code : Running D) (n p count : ℕ) (why : ServerFault) → (why ≡ server_fault.OutOfMemory) ⊎ (why ≡ server_fault.Write) → Led stands_for code code (BreaksWork n p count why)
  not_ready code n p count why cause = none_led stands_for code (BreaksWork n p count why) (λ s. inl (cause, refl, refl))
