use Rattle.std.proofs.Common.{◌≡◌, ◌++◌, ◌∷◌, [], List, length, ◌∙◌, ap, subst, arith, inl, inr, ⊎_elim}
use Rattle.site_disk.specs.Model.{IsWithin}
use Rattle.site_disk.specs.Memory.{after_calls}
use Rattle.site_disk.specs.declared.mem_disk.Call.{Call}
use Rattle.site_disk.specs.declared.mem_disk.Call.TheVariants.{Len, Read, Write, Sync}
use Rattle.site_disk.proofs.Ranges.{is_outside_or_not, none_within}
use Rattle.site_disk.proofs.Replay.{outside_before, within_before}
use Rattle.site_disk.proofs.crash.fill_unsynced.Goals as goal

pub returns-in-Sync-clause-outside : goal.returns-in-Sync-clause-outside
returns-in-Sync-clause-outside c = λ d place out. (c.loop-last.invariant.outside d place out).1

pub returns-in-Sync-clause-within : goal.returns-in-Sync-clause-within
returns-in-Sync-clause-within c = λ d place none lt within.
    let split = c.in-Some.ensures.cases.0 ∙ ap (λ (call : Call). c.in-Some.earlier.now ++ call ∷ []) c.in-Sync.is in
    ⊎_elim (λ there. absurd (within_before d c.in-Some.earlier.now c.loop-last.rest.now Sync place split there)) (λ is. is) (c.loop-last.invariant.within d place lt within)

pub loop-last-preserved-in-Write : goal.loop-last-preserved-in-Write
loop-last-preserved-in-Write c =
    let split = c.in-Some.ensures.cases.0 ∙ ap (λ (call : Call). c.in-Some.earlier.now ++ call ∷ []) c.in-Write.is in
    let noted = Write c.in-Write.at c.in-Write.written in
    let size = c.loop-last.invariant.size in
    record {
      outside = λ d place out.
          let was = c.loop-last.invariant.outside d place out in
          let here = outside_before d c.in-Some.earlier.now c.loop-last.rest.now noted place split was.0 in
          (here.1, c.fill.ensures.outside place (⊎_elim (λ l. inl l) (λ r. inr (omega (arith, c.len.ensures, r))) here.0) ∙ was.1);
      within = λ d place lt within. ⊎_elim
          (λ there. ⊎_elim (λ here. inr (c.fill.ensures.within place (omega (arith, lt, size)) here.0 (omega (arith, here.1, c.len.ensures)))) (λ earlier. inl earlier)
          (within_before d c.in-Some.earlier.now c.loop-last.rest.now noted place split there))
          (λ is. ⊎_elim (λ out. inr (c.fill.ensures.outside place out ∙ is)) (λ here. inr (c.fill.ensures.within place (omega (arith, lt, size)) here.0 here.1)) (is_outside_or_not c.in-Write.at c.len.result place))
          (c.loop-last.invariant.within d place lt within);
      size = omega (arith, size, c.fill.auto.bytes);
    }

pub loop-last-preserved-in-Len : goal.loop-last-preserved-in-Len
loop-last-preserved-in-Len c =
    let split = c.in-Some.ensures.cases.0 ∙ ap (λ (call : Call). c.in-Some.earlier.now ++ call ∷ []) c.in-Len.is in
    record {
      outside = λ d place out. let was = c.loop-last.invariant.outside d place out in (outside_before d c.in-Some.earlier.now c.loop-last.rest.now Len place split was.0, was.1);
      within = λ d place lt within. ⊎_elim (λ there. inl (within_before d c.in-Some.earlier.now c.loop-last.rest.now Len place split there)) (λ is. inr is) (c.loop-last.invariant.within d place lt within);
      size = c.loop-last.invariant.size;
    }

pub loop-last-preserved : goal.loop-last-preserved
loop-last-preserved c =
    let split = c.in-Some.ensures.cases.0 ∙ ap (λ (call : Call). c.in-Some.earlier.now ++ call ∷ []) c.in-Read.is in
    record {
      outside = λ d place out. let was = c.loop-last.invariant.outside d place out in (outside_before d c.in-Some.earlier.now c.loop-last.rest.now Read place split was.0, was.1);
      within = λ d place lt within. ⊎_elim (λ there. inl (within_before d c.in-Some.earlier.now c.loop-last.rest.now Read place split there)) (λ is. inr is) (c.loop-last.invariant.within d place lt within);
      size = c.loop-last.invariant.size;
    }

pub returns-clause-within : goal.returns-clause-within
returns-clause-within c = λ d place none lt within.
    ⊎_elim (λ there. absurd (none_within _ place none (subst (λ (l : List Call). IsWithin place (after_calls d l).written) (empty _ c.in_default.ensures.cases) there))) (λ is. is) (c.loop-last.invariant.within d place lt within)
  where
    empty : (xs : List Call) → length xs ≡ 0 → xs ≡ []
    empty [] is = search arith
    empty (x ∷ xs) is = absurd (omega (arith, is))
