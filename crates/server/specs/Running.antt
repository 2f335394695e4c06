-- How a run of a server ends.
use Rattle.std.specs.Prelude.{ℕ, ◌≡◌, ◌⊎◌, List, ◌++◌, codes, decimal, Bool, Result, Ok, Err}
use Rattle.http_read.specs.Bytes.{End, IsSilent, IsWritten, IsBroken, IsGiven}
use Rattle.server_faults.specs.ServerFaults.{IsSaid, EndsOpening, EndsBinding, EndsLaps}
use Rattle.server.specs.Noted.{GivesNotes, HasNoted, EndsBy}
use Rattle.server.specs.Making.{HasNoFloor}
use Rattle.server.specs.Placing.{IsPlaced}
use Rattle.server_faults.specs.Why.{GivesFault}
use Rattle.server_faults.specs.declared.server_fault.ServerFault.{ServerFault}
use Rattle.server_faults.specs.declared.server_fault.ServerFault.TheVariants as server_fault
use Rattle.server_faults.specs.declared.serve_options.ServeOptions.{ServeOptions}

abbrev pub ready_line : ℕ → List ℕ
ready_line p = codes "node " ++ (decimal p ++ codes " ready\n")

abbrev pub done_line : List ℕ
done_line = codes "rounds done\n"

-- what a whole run prints
abbrev pub printed : ℕ → List ℕ
printed p = ready_line p ++ done_line

-- how it ends before it is ready: the options are not valid; or they are, and the record or the sockets are
-- not opened, or the reaches give no floor; or an allocation failed
abbrev pub EndsBefore : ServeOptions → ServerFault → Type 0
EndsBefore o why = ((why ≡ server_fault.BadAddress) × ¬ IsPlaced o)
    ⊎ (IsPlaced o × (EndsOpening why ⊎ EndsBinding why ⊎ HasNoFloor o why)) ⊎ (why ≡ server_fault.OutOfMemory)

-- it was ready, and did all its laps. On standard error there are lines of notes, if they were asked for, and
-- nothing else
pub record Finished (out err : End) (o : ServeOptions) (status : ℕ) : Type 0 where
  pub placed : IsPlaced o
  pub written : IsWritten out (printed o.id)
  pub noted : HasNoted o.verbose err
  pub status_is : status ≡ 0

-- before it was ready: one line, and perhaps a line that says why
pub record Refused (out err : End) (o : ServeOptions) (status : ℕ) : Type 0 where
  pub why : ServerFault
  pub ends : EndsBefore o why
  pub silent : IsSilent out
  pub said : List ℕ
  pub is_said : IsSaid why said
  pub given : GivesFault err o why said
  pub status_is : status ≡ 1

-- it was ready. After the lines of notes one line says what ended its laps, and perhaps one more line says
-- why
pub record Halted (out err : End) (o : ServeOptions) (status : ℕ) : Type 0 where
  pub placed : IsPlaced o
  pub why : ServerFault
  pub ends : EndsLaps why
  pub written : IsWritten out (ready_line o.id)
  pub said : List ℕ
  pub is_said : IsSaid why said
  pub given : EndsBy o.verbose err (λ e. GivesFault e o why said)
  pub status_is : status ≡ 1

-- the writer failed, and a beginning of what a whole run prints was written. After the lines of notes one
-- line says so
pub record Broken (out err : End) (o : ServeOptions) (status : ℕ) : Type 0 where
  pub placed : IsPlaced o
  pub broken : IsBroken out (printed o.id)
  pub given : EndsBy o.verbose err (λ e. IsGiven e (codes "write failed\n"))
  pub status_is : status ≡ 1

abbrev pub HasServed : End → End → ServeOptions → ℕ → Type 0
HasServed out err o status = Finished out err o status ⊎ Refused out err o status ⊎ Halted out err o status
    ⊎ Broken out err o status

-- ---- the parts of a run

-- where a fault ends it: before it is ready, without a note; in its laps; or as it writes
abbrev pub HaltsAt : End → End → ServeOptions → ServerFault → Type 0
HaltsAt out err o why =
    (EndsBefore o why × IsSilent out × GivesNotes 0 err)
    ⊎ (IsPlaced o × EndsLaps why × IsWritten out (ready_line o.id) × HasNoted o.verbose err)
    ⊎ (IsPlaced o × (why ≡ server_fault.Write) × IsBroken out (printed o.id) × HasNoted o.verbose err)

-- the line `node P ready` could not be made, or not be written whole
abbrev pub HaltsReady : End → ℕ → ServerFault → Type 0
HaltsReady out p why = ((why ≡ server_fault.OutOfMemory) × IsSilent out)
    ⊎ ((why ≡ server_fault.Write) × IsBroken out (ready_line p))

abbrev pub ReadyEnds : {T : Type 0} → End → ℕ → Result T ServerFault → Type 0
ReadyEnds out p (Ok _) = IsWritten out (ready_line p)
ReadyEnds out p (Err why) = HaltsReady out p why

abbrev pub DoneEnds : {T : Type 0} → End → Result T ServerFault → Type 0
DoneEnds out (Ok _) = IsWritten out done_line
DoneEnds out (Err why) = (why ≡ server_fault.Write) × IsBroken out done_line

-- where the work of an opened server ends: at ready, in its laps, or at done
abbrev pub HaltsWork : Bool → End → End → ℕ → ServerFault → Type 0
HaltsWork asked out err p why =
    ((why ≡ server_fault.OutOfMemory) × IsSilent out × GivesNotes 0 err)
    ⊎ (EndsLaps why × IsWritten out (ready_line p) × HasNoted asked err)
    ⊎ ((why ≡ server_fault.Write) × IsBroken out (printed p) × HasNoted asked err)

abbrev pub WorkEnds : {T : Type 0} → Bool → End → End → ℕ → Result T ServerFault → Type 0
WorkEnds asked out err p (Ok _) = IsWritten out (printed p) × HasNoted asked err
WorkEnds asked out err p (Err why) = HaltsWork asked out err p why

abbrev pub RunEnds : {T : Type 0} → End → End → ServeOptions → Result T ServerFault → Type 0
RunEnds out err o (Ok _) = IsPlaced o × IsWritten out (printed o.id) × HasNoted o.verbose err
RunEnds out err o (Err why) = HaltsAt out err o why
