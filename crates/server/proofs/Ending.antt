-- Whole runs of a server.
use Rattle.std.proofs.Common.{◌≡◌, ◌⊎◌, Bool, true, false, refl, ℕ, List, ◌++◌, Option, Result, Ok, Err, sym, ap, subst, ◌∙◌, inl, inr, append_assoc, codes}
use Rattle.std.specs.Result.{IsErrAnd, IfErr}
use Rattle.std.proofs.KnownBytes.{Appends-trans}
use Rattle.http_read.specs.Bytes.{End, IsWritten, IsGiven}
use Rattle.http_read.specs.Counted.{RoseByOne}
use Rattle.server_faults.specs.ServerFaults.{IsSaid}
use Rattle.server.specs.Noted.{GivesNotes, HasNoted}
use Rattle.server.specs.Placing.{IsPlaced}
use Rattle.server.specs.Running.{ready_line, done_line, HaltsAt, HaltsReady, DoneEnds, HaltsWork, WorkEnds, RunEnds, HasServed}
use Rattle.server_faults.specs.Why.{GivesNone, SaysWhyIf, GivesFault}
use Rattle.server_faults.specs.declared.server_fault.ServerFault.{ServerFault}
use Rattle.server_faults.specs.declared.server_fault.ServerFault.TheVariants as server_fault
use Rattle.server_faults.specs.declared.serve_options.ServeOptions.{ServeOptions}
use Rattle.server.proofs.Noting.{ends_by, alone, ended}

-- it was not ready, as an allocation or the writer failed
pub not_ready : (asked : Bool) (out err : End) (p : ℕ) (why : ServerFault) → GivesNotes 0 err → HaltsReady out p why → HaltsWork asked out err p why
not_ready asked out err p why none (inl (same, silent)) = inl (same, silent, none)
not_ready asked out err p why none (inr (same, broken)) = inr (inr (
  same,
  record {
    part = (broken.part.0, broken.part.1 ++ done_line, ap (λ t. t ++ done_line) broken.part.2 ∙ append_assoc broken.part.0 broken.part.1 done_line, broken.part.3);
    failed = broken.failed;
  },
  (0, (λ no. refl), none),
))

-- it was ready, and its last line was written or not
pub ends_done : {T : Type 0} (asked : Bool) (a b c : Option (List ℕ)) (f g h : ℕ) (err : End) (p : ℕ) (r : Result T ServerFault) → HasNoted asked err
    → IsWritten (record { before = a; after = b; failures = f; failures_after = g }) (ready_line p)
    → DoneEnds (record { before = b; after = c; failures = g; failures_after = h }) r
    → WorkEnds asked (record { before = a; after = c; failures = f; failures_after = h }) err p r
ends_done asked a b c f g h err p (Ok u) noted ready done = (
  record {
    whole = Appends-trans a b c (ready_line p) done_line ready.whole done.whole;
    sound = done.sound ∙ ready.sound;
  },
  noted,
)
ends_done asked a b c f g h err p (Err why) noted ready (same, broken) =
    let front = broken.part.0 in
    let rest = broken.part.1 in
    inr (inr (
      same,
      record {
        part = (ready_line p ++ front, rest, ap (λ t. ready_line p ++ t) broken.part.2 ∙ sym (append_assoc (ready_line p) front rest), Appends-trans a b c (ready_line p) front ready.whole broken.part.3);
        failed = subst (λ u. RoseByOne u h) ready.sound broken.failed;
      },
      noted,
    ))

-- memory or the writer keeps the first line from being written
pub ready_halts : (out : End) (p : ℕ) (why : ServerFault) → HaltsReady out p why → (why ≡ server_fault.OutOfMemory) ⊎ (why ≡ server_fault.Write)
ready_halts out p why (inl (same, silent)) = inl same
ready_halts out p why (inr (same, broken)) = inr same

-- only the writer keeps the last line from being written
pub done_halts : {T : Type 0} (out : End) (r : Result T ServerFault) → DoneEnds out r → IfErr r (λ why. why ≡ server_fault.Write)
done_halts out (Ok u) done = tt
done_halts out (Err why) (same, broken) = same

-- the fault that a `?` passes on
pub passed_on : {T : Type 0} (asked : Bool) (out err : End) (p : ℕ) (r : Result T ServerFault) (why : ServerFault) → IsErrAnd r (λ y. y ≡ why) → HaltsWork asked out err p why → WorkEnds asked out err p r
passed_on asked out err p (Ok x) why none ends = absurd none
passed_on asked out err p (Err y) why same ends = subst (HaltsWork asked out err p) (sym same) ends

-- a placed server's work is its run
pub has_worked : {T : Type 0} (out err : End) (o : ServeOptions) (r : Result T ServerFault) → IsPlaced o → WorkEnds o.verbose out err o.id r → RunEnds out err o r
has_worked out err o (Ok u) placed (written, noted) = (placed, written, noted)
has_worked out err o (Err why) placed (inl (same, silent, none)) = inl (inr (inr same), silent, none)
has_worked out err o (Err why) placed (inr (inl (ends, written, noted))) = inr (inl (placed, ends, written, noted))
has_worked out err o (Err why) placed (inr (inr (same, broken, noted))) = inr (inr (placed, same, broken, noted))

-- after the line of a writer that failed nothing is said
none_behind : (asked : Bool) (e : End) (o : ServeOptions) → SaysWhyIf asked e o server_fault.Write → GivesNone e
none_behind true e o says = says
none_behind false e o says = says

-- what was said is the line of the fault, at its place, and why
pub has_halted : (out : End) (a b c d : Option (List ℕ)) (f g h k : ℕ) (o : ServeOptions) (why : ServerFault) (said : List ℕ) (status : ℕ)
    → HaltsAt out (record { before = a; after = b; failures = f; failures_after = g }) o why → IsSaid why said → IsGiven (record { before = b; after = c; failures = g; failures_after = h }) said
    → SaysWhyIf o.verbose (record { before = c; after = d; failures = h; failures_after = k }) o why → status ≡ 1
    → HasServed out (record { before = a; after = d; failures = f; failures_after = k }) o status
has_halted out a b c d f g h k o why said status (inl (before, silent, none)) is given says one =
    inr (inl (record { why = why; ends = before; silent = silent; said = said; is_said = is; given = alone a b d f g k (λ e. GivesFault e o why said) none (c, h, given, says); status_is = one }))
has_halted out a b c d f g h k o why said status (inr (inl (placed, ends, written, noted))) is given says one =
    inr (inr (inl (record { placed = placed; why = why; ends = ends; written = written; said = said; is_said = is; given = ends_by o.verbose a b d f g k (λ e. GivesFault e o why said) noted (c, h, given, says); status_is = one })))
has_halted out a b c d f g h k o why said status (inr (inr (placed, same, broken, noted))) is given says one =
    let line = subst (λ w. IsSaid w said) same is in
    let whole = ended b c d g h k (λ e. IsGiven e said) given (none_behind o.verbose (record { before = c; after = d; failures = h; failures_after = k }) o (subst (SaysWhyIf o.verbose (record { before = c; after = d; failures = h; failures_after = k }) o) same says)) in
    let last = subst (IsGiven (record { before = b; after = d; failures = g; failures_after = k })) line whole in
    inr (inr (inr (record { placed = placed; broken = broken; given = ends_by o.verbose a b d f g k (λ e. IsGiven e (codes "write failed\n")) noted last; status_is = one })))
