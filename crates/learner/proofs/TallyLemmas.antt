-- What tallies say.
use Rattle.std.proofs.Common.{◌≡◌, ◌⊎◌, inl, inr, ℕ, zero, suc, ◌+◌, ◌<◌, Some, List, [], ◌∷◌, ◌++◌, length, take, get_or, refl, sym, ap, subst, ◌∙◌, ⊎_elim}
use Rattle.std.specs.Prelude.{◌↔◌, slice_get, slice_set}
use Rattle.std.proofs.lemmas.List.{take_more}
use Rattle.std.proofs.lemmas.Option.{get_or_from_slice_get}
use Rattle.site_ids.specs.Ids.{BallotOf}
use Rattle.site_ids.specs.Lists.{In}
use Rattle.site_ids.proofs.MemberLemmas.{in_push}
use Rattle.learner.specs.declared.node_mask.NodeMask.{NodeMask}
use Rattle.learner.specs.declared.tally.Tally.{Tally}
use Rattle.learner.specs.Masks.{HasNode}
use Rattle.learner.specs.Tallies.{IsOf, HasNoneOf, IsFirstOf, HasTold, AddsTold}

-- two tallies of one value at one ballot are of the same
same_of : (x y : Tally) (b c : BallotOf) (v w : List ℕ) → IsOf x b v → IsOf y b v → IsOf x c w → IsOf y c w
same_of x y b c v w of_x of_y at = (of_y.0 ∙ (sym of_x.0 ∙ at.0), of_y.1 ∙ (sym of_x.1 ∙ at.1))

-- if none is of v at b, no node reported it
pub none_told : (xs : List Tally) (p : ℕ) (b : BallotOf) (v : List ℕ) → HasNoneOf xs b v → ¬ HasTold xs p b v
none_told [] p b v none h = h
none_told (x ∷ xs) p b v none h = ⊎_elim (λ k. none x (inl refl) k.0) (λ k. none_told xs p b v (λ y i. none y (inr i)) k.1) h

-- the first of v at b has those that reported it
pub first_told : (xs : List Tally) (k p : ℕ) (b : BallotOf) (v : List ℕ) (x : Tally) → slice_get xs k ≡ Some x → IsOf x b v → HasNoneOf (take k xs) b v → HasNode x.nodes p ↔ HasTold xs p b v
first_told [] k p b v x at of none = absurd (cc)
first_told (y ∷ xs) zero p b v x at of none =
    let same : y ≡ x = cc in
    let here : IsOf y b v = subst (λ (z : Tally). IsOf z b v) (sym same) of in (
      λ h. inl (here, subst (λ (z : Tally). HasNode z.nodes p) (sym same) h),
      λ h. ⊎_elim (λ k. subst (λ (z : Tally). HasNode z.nodes p) same k.1) (λ k. absurd (k.0 here)) h,
    )
first_told (y ∷ xs) (suc k) p b v x at of none =
    let apart : ¬ IsOf y b v = none y (inl refl) in
    let rest = first_told xs k p b v x at of (λ z i. none z (inr i)) in (
      λ h. inr (apart, rest.0 h),
      λ h. ⊎_elim (λ j. absurd (apart j.0)) (λ j. rest.1 j.1) h,
    )

-- a tally of v at b that is pushed after others adds its node
pub told_pushed : (xs : List Tally) (y : Tally) (p : ℕ) (b : BallotOf) (v : List ℕ) → HasNoneOf xs b v → IsOf y b v → ((q : ℕ) → HasNode y.nodes q ↔ (q ≡ p)) → AddsTold xs (xs ++ y ∷ []) p b v
told_pushed [] y p b v none of has q c w = (
  λ h. ⊎_elim (λ k. inr ((has q).0 k.1, sym k.0.0 ∙ of.0, sym k.0.1 ∙ of.1)) (λ k. absurd k.1) h,
  λ h. ⊎_elim (λ k. absurd k) (λ k. inl ((of.0 ∙ sym k.1, of.1 ∙ sym k.2), (has q).1 k.0)) h,
)
told_pushed (x ∷ xs) y p b v none of has q c w =
    let apart : ¬ IsOf x b v = none x (inl refl) in
    let rest = told_pushed xs y p b v (λ z i. none z (inr i)) of has q c w in (
      λ h. ⊎_elim (λ k. inl (inl k)) (λ k. ⊎_elim (λ j. inl (inr (k.0, j))) (λ j. inr j) (rest.0 k.1)) h,
      λ h. ⊎_elim (λ k. ⊎_elim (λ j. inl j) (λ j. inr (j.0, rest.1 (inl j.1))) k) (λ k. inr (λ at. apart (at.0 ∙ k.1, at.1 ∙ k.2), rest.1 (inr k))) h,
    )

-- a node more at the first tally of v at b adds that node
told_marked : (xs : List Tally) (k : ℕ) (x y : Tally) (p : ℕ) (b : BallotOf) (v : List ℕ) → slice_get xs k ≡ Some x → IsOf x b v → HasNoneOf (take k xs) b v → IsOf y b v
    → ((q : ℕ) → HasNode y.nodes q ↔ (HasNode x.nodes q ⊎ (q ≡ p))) → AddsTold xs (slice_set xs k y) p b v
told_marked [] k x y p b v at of none new has q c w = absurd (cc)
told_marked (z ∷ xs) zero x y p b v at of none new has q c w =
    let same : z ≡ x = cc in
    let here : IsOf z b v = subst (λ (t : Tally). IsOf t b v) (sym same) of in
    let in_z = λ (h : HasNode x.nodes q). subst (λ (t : Tally). HasNode t.nodes q) (sym same) h in
    let in_x = λ (h : HasNode z.nodes q). subst (λ (t : Tally). HasNode t.nodes q) same h in
    let to_z = same_of y z b c v w new here in
    let to_y = same_of z y b c v w here new in (
      λ h.
          ⊎_elim (λ k. ⊎_elim (λ j. inl (inl (to_z k.0, in_z j))) (λ j. inr (j, sym k.0.0 ∙ new.0, sym k.0.1 ∙ new.1)) ((has q).0 k.1))
          (λ k. inl (inr (λ j. k.0 (to_y j), k.1))) h,
      λ h.
          ⊎_elim (λ k. ⊎_elim (λ j. inl (to_y j.0, (has q).1 (inl (in_x j.1)))) (λ j. inr (λ i. j.0 (to_z i), j.1)) k)
          (λ k. inl ((new.0 ∙ sym k.1, new.1 ∙ sym k.2), (has q).1 (inr k.0))) h,
    )
told_marked (z ∷ xs) (suc k) x y p b v at of none new has q c w =
    let apart : ¬ IsOf z b v = none z (inl refl) in
    let rest = told_marked xs k x y p b v at of (λ t i. none t (inr i)) new has q c w in (
      λ h. ⊎_elim (λ j. inl (inl j)) (λ j. ⊎_elim (λ i. inl (inr (j.0, i))) (λ i. inr i) (rest.0 j.1)) h,
      λ h. ⊎_elim (λ j. ⊎_elim (λ i. inl i) (λ i. inr (i.0, rest.1 (inl i.1))) j) (λ j. inr (λ i. apart (i.0 ∙ j.1, i.1 ∙ j.2), rest.1 (inr j))) h,
    )

-- the same as the code marks it: what is read at its place, with other nodes, is written there
pub first_marked : (xs shown : List Tally) (k : ℕ) (x : Tally) (nodes : NodeMask) (p : ℕ) (b : BallotOf) (v : List ℕ) → shown ≡ xs → IsFirstOf shown k b v → x ≡ get_or xs k x
    → ((q : ℕ) → HasNode nodes q ↔ (HasNode x.nodes q ⊎ (q ≡ p))) → AddsTold xs (slice_set xs k (record x { nodes = nodes })) p b v
first_marked xs shown k x nodes p b v is shown_first read has =
    let first : IsFirstOf xs k b v = subst (λ (ys : List Tally). IsFirstOf ys k b v) is shown_first in
    let same : first.0 ≡ x = sym (read ∙ get_or_from_slice_get xs k first.0 x first.1) in
    let of : IsOf x b v = subst (λ (y : Tally). IsOf y b v) same first.2 in
    told_marked xs k x (record x { nodes = nodes }) p b v (first.1 ∙ ap Some same) of first.3 of has

-- none up to the next one
pub none_yet : (xs : List Tally) (k : ℕ) (x : Tally) (b : BallotOf) (v : List ℕ) → k < length xs → x ≡ get_or xs k x → ¬ IsOf x b v → HasNoneOf (take k xs) b v → HasNoneOf (take (k + 1) xs) b v
none_yet xs k x b v low is apart before y h =
    ⊎_elim (before y) (λ (e : get_or xs k x ≡ y). λ at. apart (subst (λ (z : Tally). IsOf z b v) (sym (is ∙ e)) at)) (in_push (take k xs) (get_or xs k x) y (subst (λ (zs : List Tally). In zs y) (take_more xs k x low) h))
