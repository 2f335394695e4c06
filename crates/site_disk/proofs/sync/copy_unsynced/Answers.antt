use Rattle.std.proofs.Common.{◌≡◌, ◌<◌, ◌++◌, ◌∷◌, [], List, length, ◌∙◌, ap, subst, arith, inl, inr, ⊎_elim}
use Rattle.std.proofs.lemmas.List.{ext_get_or}
use Rattle.site_disk.specs.Model.{IsWithin}
use Rattle.site_disk.specs.Memory.{after_calls}
use Rattle.site_disk.specs.declared.mem_disk.Call.{Call}
use Rattle.site_disk.specs.declared.mem_disk.Call.TheVariants.{Len, Read, Write, Sync}
use Rattle.site_disk.proofs.Ranges.{outside_or_within, none_within}
use Rattle.site_disk.proofs.Replay.{within_before}
use Rattle.site_disk.proofs.sync.copy_unsynced.Goals as goal

pub returns-in-Sync : goal.returns-in-Sync
returns-in-Sync c = λ d none agree.
    let split = c.in-Some.ensures.cases.0 ∙ ap (λ (call : Call). c.in-Some.earlier.now ++ call ∷ []) c.in-Sync.is in
    let inside = c.loop-last.invariant in
    ext_get_or 0 _ c.args.from.now inside.size (λ place lt.
    let here : place < length c.args.from.now = omega (arith, lt, inside.size) in
    ⊎_elim (λ out. inside.stays place (agree place here out))
    (λ within. ⊎_elim (λ there. absurd (within_before d c.in-Some.earlier.now c.loop-last.rest.now Sync place split there)) (λ is. is) (inside.within d place here within))
    (outside_or_within place (after_calls d c.args.calls.now).written))

pub loop-last-preserved-in-Write : goal.loop-last-preserved-in-Write
loop-last-preserved-in-Write c =
    let split = c.in-Some.ensures.cases.0 ∙ ap (λ (call : Call). c.in-Some.earlier.now ++ call ∷ []) c.in-Write.is in
    let inside = c.loop-last.invariant in
    record {
      size = omega (arith, inside.size, c.copy_range.auto.to);
      within = λ d place lt within. ⊎_elim
          (λ there. ⊎_elim (λ here. inr (c.copy_range.ensures.within place lt here.0 (omega (arith, here.1, c.len.ensures)))) (λ earlier. inl earlier)
          (within_before d c.in-Some.earlier.now c.loop-last.rest.now (Write c.in-Write.at c.in-Write.bytes) place split there))
          (λ is. inr (c.copy_range.ensures.stays place is)) (inside.within d place lt within);
      stays = λ place same. c.copy_range.ensures.stays place (inside.stays place same);
    }

pub loop-last-preserved-in-Len : goal.loop-last-preserved-in-Len
loop-last-preserved-in-Len c =
    let split = c.in-Some.ensures.cases.0 ∙ ap (λ (call : Call). c.in-Some.earlier.now ++ call ∷ []) c.in-Len.is in
    let inside = c.loop-last.invariant in
    record {
      size = inside.size;
      within = λ d place lt within. ⊎_elim (λ there. inl (within_before d c.in-Some.earlier.now c.loop-last.rest.now Len place split there)) (λ is. inr is) (inside.within d place lt within);
      stays = inside.stays;
    }

pub loop-last-preserved : goal.loop-last-preserved
loop-last-preserved c =
    let split = c.in-Some.ensures.cases.0 ∙ ap (λ (call : Call). c.in-Some.earlier.now ++ call ∷ []) c.in-Read.is in
    let inside = c.loop-last.invariant in
    record {
      size = inside.size;
      within = λ d place lt within. ⊎_elim (λ there. inl (within_before d c.in-Some.earlier.now c.loop-last.rest.now Read place split there)) (λ is. inr is) (inside.within d place lt within);
      stays = inside.stays;
    }

pub returns : goal.returns
returns c = λ d none agree.
    let inside = c.loop-last.invariant in
    ext_get_or 0 _ c.args.from.now inside.size (λ place lt.
    let here : place < length c.args.from.now = omega (arith, lt, inside.size) in
    ⊎_elim (λ out. inside.stays place (agree place here out))
    (λ within. ⊎_elim (λ there. absurd (none_within _ place none (subst (λ (l : List Call). IsWithin place (after_calls d l).written) (empty _ c.in_default.ensures.cases) there))) (λ is. is) (inside.within d place here within))
    (outside_or_within place (after_calls d c.args.calls.now).written))
  where
    empty : (xs : List Call) → length xs ≡ 0 → xs ≡ []
    empty [] is = search arith
    empty (x ∷ xs) is = absurd (omega (arith, is))
