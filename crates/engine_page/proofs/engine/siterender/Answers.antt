use Rattle.std.proofs.Common.{sym, inl, inr, refl, subst}
use Rattle.std.proofs.KnownBytes.{Keeps-refl}
use Rattle.http_read.specs.Bytes.{end_of, IsWritten, IsBroken}
use Rattle.release.specs.Standing.{answer_view}
use Rattle.engine_page.specs.View.{verdict_view}
use Rattle.engine_page.specs.Verdict.{IsVerdict, shows, says}
use Rattle.engine_page.proofs.engine.siterender.Goals as goal

pub returns-in-Err-Read : goal.returns-in-Err-Read
returns-in-Err-Read g c = inr (inr (record {
  line = _;
  why = inr (inl (refl, c.in-Err-Read.ensures.read cc));
  silent = record { kept = Keeps-refl _; sound = refl };
  said = c.say.ensures.said;
  status_is = c.say.ensures.status;
}))

pub returns-in-Err-OutOfMemory : goal.returns-in-Err-OutOfMemory
returns-in-Err-OutOfMemory g c = inr (inr (record {
  line = _;
  why = inr (inr refl);
  silent = record { kept = Keeps-refl _; sound = refl };
  said = c.say-in-Err-OutOfMemory.ensures.said;
  status_is = c.say-in-Err-OutOfMemory.ensures.status;
}))

pub returns-in-Err : goal.returns-in-Err
returns-in-Err g c = inr (inr (record {
  line = _;
  why = inr (inr refl);
  silent = record { kept = Keeps-refl _; sound = refl };
  said = c.say-in-Err.ensures.said;
  status_is = c.say-in-Err.ensures.status;
}))

pub returns-in-Ok-Says : goal.returns-in-Ok-Says
returns-in-Ok-Says g c =
    let rel = c.args.release in
    let path = c.args.path.now in
    let v = subst (λ xs. IsVerdict xs rel path (says c.as_str.result.now)) c.deref.ensures.value
    (subst (λ l. IsVerdict c.deref.result.now rel path (says l)) (sym c.as_str.ensures.value) (subst (λ o. IsVerdict c.deref.result.now rel path (verdict_view o)) c.in-Ok-Says.field-0-is c.in-Ok-Says.ensures)) in
    inr (inr (record {
      line = _;
      why = inl (c.in-Ok.input.items, c.in-Ok.ensures.ok, v);
      silent = record { kept = Keeps-refl _; sound = refl };
      said = c.say-in-Ok-Says.ensures.said;
      status_is = c.say-in-Ok-Says.ensures.status;
    }))

pub returns-in-Ok-write_all : goal.returns-in-Ok-write_all
returns-in-Ok-write_all g c =
    let rel = c.args.release in
    let path = c.args.path.now in
    let p = c.in-Ok-Shows.page in
    let v = subst (λ xs. IsVerdict xs rel path (shows (answer_view p))) c.deref.ensures.value (subst (λ o. IsVerdict c.deref.result.now rel path (verdict_view o)) c.in-Ok-Shows.field-0-is c.in-Ok-Shows.ensures) in
    inl (record {
      input = c.in-Ok.input.items;
      read = c.in-Ok.ensures.ok;
      page = answer_view p;
      is = v;
      written = subst (IsWritten (end_of g.W.Write.contents c.args.out.now c.write_all.new.out)) c.as_bytes.ensures.value c.in-Ok-write_all.ensures.ok;
      silent = record { kept = Keeps-refl _; sound = refl };
      status_is = c.exit_status.ensures;
    })

pub returns : goal.returns
returns g c =
    let rel = c.args.release in
    let path = c.args.path.now in
    let p = c.in-Ok-Shows.page in
    let v = subst (λ xs. IsVerdict xs rel path (shows (answer_view p))) c.deref.ensures.value (subst (λ o. IsVerdict c.deref.result.now rel path (verdict_view o)) c.in-Ok-Shows.field-0-is c.in-Ok-Shows.ensures) in
    inr (inl (record {
      input = c.in-Ok.input.items;
      read = c.in-Ok.ensures.ok;
      page = answer_view p;
      is = v;
      broken = subst (IsBroken (end_of g.W.Write.contents c.args.out.now c.write_all.new.out)) c.as_bytes.ensures.value c.in-Err-write_all.ensures.err;
      said = c.say-in-Err-write_all.ensures.said;
      status_is = c.say-in-Err-write_all.ensures.status;
    }))
