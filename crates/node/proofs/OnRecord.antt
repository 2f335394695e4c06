-- What is on record: the last vote is an entry, and each entry is in its ranges.
use Rattle.std.proofs.Common.{◌≡◌, ◌⊎◌, inl, inr, ℕ, Bool, true, false, cond, Option, Some, None, List, [], ◌∷◌, ◌++◌, refl, ap, ⊎_elim, arith}
use Rattle.std.specs.Prelude.{nat_eq}
use Rattle.std.proofs.lemmas.Bool.Decides.{nat_tests}
use Rattle.site_ids.specs.Lists.{In}
use Rattle.site_ids.specs.declared.value.Vote.{Vote}
use Rattle.durable.specs.Entries.{Entry, Round, Promised, PromisedSpan, Voted, Floor, Learned, vote_after, learned_at, last_vote}
use Rattle.durable.specs.Histories.{IsInRange, IsHistory}

same_number : (a b : ℕ) → nat_eq a b ≡ true → a ≡ b
same_number a b = grind (arith, nat_tests)

-- it is one of them, or the given one
pub vote_after-in : (i : ℕ) (last : Option Vote) (es : List Entry) (w : Vote) → vote_after i last es ≡ Some w → In es (Voted i w.ballot w.value) ⊎ (last ≡ Some w)
vote_after-in i last [] w e = inr e
vote_after-in i last (Round s ∷ es) w e = ⊎_elim (λ h. inl (inr h)) (λ h. inr h) (vote_after-in i last es w e)
vote_after-in i last (Promised j b ∷ es) w e = ⊎_elim (λ h. inl (inr h)) (λ h. inr h) (vote_after-in i last es w e)
vote_after-in i last (PromisedSpan j k b ∷ es) w e = ⊎_elim (λ h. inl (inr h)) (λ h. inr h) (vote_after-in i last es w e)
vote_after-in i last (Floor f ∷ es) w e = ⊎_elim (λ h. inl (inr h)) (λ h. inr h) (vote_after-in i last es w e)
vote_after-in i last (Learned j v ∷ es) w e = ⊎_elim (λ h. inl (inr h)) (λ h. inr h) (vote_after-in i last es w e)
vote_after-in i last (Voted j b v ∷ es) w e =
    ⊎_elim (λ h. inl (inr h)) (λ h. go (nat_eq j i) refl h) (vote_after-in i (cond (nat_eq j i) (Some (record { ballot = b; value = v })) last) es w e)
  where
    go : (t : Bool) → nat_eq j i ≡ t → cond t (Some (record { ballot = b; value = v })) last ≡ Some w → In (Voted j b v ∷ es) (Voted i w.ballot w.value) ⊎ (last ≡ Some w)
    go true is h =
        let at : j ≡ i = same_number j i is in
        let same : ◌≡◌ {A = Vote} (record { ballot = b; value = v }) w = cc in
        inl (inl (λ k. Voted (at k) (same k).ballot (same k).value))
    go false is h = inr h

pub last_vote-in : (i : ℕ) (es : List Entry) (w : Vote) → last_vote i es ≡ Some w → In es (Voted i w.ballot w.value)
last_vote-in i es w e = ⊎_elim (λ k. k) (λ (none : ◌≡◌ {A = Option Vote} None (Some w)). absurd (cc)) (vote_after-in i None es w e)

-- a learned value is an entry
pub learned_at-in : (i : ℕ) (es : List Entry) (v : List ℕ) → learned_at i es ≡ Some v → In es (Learned i v)
learned_at-in i [] v e = absurd (cc)
learned_at-in i (Round s ∷ es) v e = inr (learned_at-in i es v e)
learned_at-in i (Promised j b ∷ es) v e = inr (learned_at-in i es v e)
learned_at-in i (PromisedSpan j k b ∷ es) v e = inr (learned_at-in i es v e)
learned_at-in i (Voted j b u ∷ es) v e = inr (learned_at-in i es v e)
learned_at-in i (Floor f ∷ es) v e = inr (learned_at-in i es v e)
learned_at-in i (Learned j u ∷ es) v e = go (λ h. learned_at-in i es v h) (nat_eq j i) refl e
  where
    go : (learned_at i es ≡ Some v → In es (Learned i v)) → (t : Bool) → nat_eq j i ≡ t → cond t (Some u) (learned_at i es) ≡ Some v → In (Learned j u ∷ es) (Learned i v)
    go later true is h =
        let at : j ≡ i = same_number j i is in
        let same : u ≡ v = cc in
        inl (λ k. Learned (at k) (same k))
    go later false is h = inr (later h)

at_member : {X : Type 0} (xs : List X) (x : X) → In xs x → (before : List X) × (after : List X) × (xs ≡ before ++ x ∷ after)
at_member [] x h = absurd h
at_member {X = X} (y ∷ xs) x h =
    let rest : In xs x → (before : List X) × (after : List X) × (xs ≡ before ++ x ∷ after) = at_member xs x in
    ⊎_elim (λ (e : y ≡ x). ([], xs, ap (λ z. z ∷ xs) e)) (λ k. let r = rest k in (y ∷ r.0, r.1, ap (λ zs. y ∷ zs) r.2)) h

pub entry_in_range : (n : ℕ) (es : List Entry) (e : Entry) → IsHistory n es → In es e → IsInRange n e
entry_in_range n es e history here = let at = at_member es e here in (history at.0 e at.1 at.2).in_range
