-- What an empty or absent file of a record becomes.
use Rattle.std.specs.Prelude.{◌≡◌, ◌⊎◌, ◌<◌, ℕ, List, [], map, length, Bool, true, false}
use Rattle.site_disk.specs.Model.{DiskState}
use Rattle.durable.specs.Append.{IsSettled}
use Rattle.durable.specs.Formatting.{FormatsAbove}
use Rattle.durable.specs.Standing.{StandsFor}
use Rattle.server_floor.specs.Floors.{NamesFloor, RefusesWords}
use Rattle.server_floor.specs.declared.fault.FloorFault.{FloorFault}
use Rattle.server_faults.specs.declared.server_fault.ServerFault.{ServerFault}
use Rattle.server_faults.specs.declared.server_fault.ServerFault.TheVariants as server_fault
use Rattle.server_faults.specs.declared.serve_options.ServeOptions.{ServeOptions}
use Rattle.server.specs.declared.making.Making.{Making}
use Rattle.server.specs.declared.making.Making.TheVariants.{Nothing, Empty, Above}

-- what the options say about the reaches of others
abbrev pub told_by : ServeOptions → List (List ℕ)
told_by o = map (λ text. text.now) o.above.items

-- a record with the floor that the reaches give, if the options name some; otherwise an empty record, if the
-- options ask for one
abbrev pub Makes : ServeOptions → Making → Type 0
Makes o Nothing = (o.above.items ≡ []) × (o.format ≡ false)
Makes o Empty = (o.above.items ≡ []) × (o.format ≡ true)
Makes o (Above floor) = NamesFloor (length o.peers.items) o.id (told_by o) floor

-- the reaches give no floor
abbrev pub HasNoFloor : ServeOptions → ServerFault → Type 0
HasNoFloor o why = (fault : FloorFault) × (why ≡ server_fault.BadFloor fault)
    × RefusesWords (length o.peers.items) o.id (told_by o) fault

abbrev pub MakesNone : ServeOptions → ServerFault → Type 0
MakesNone o why = HasNoFloor o why ⊎ (why ≡ server_fault.OutOfMemory)

-- The disk of node p of n becomes what is asked for. If an empty record is asked for, an empty disk becomes
-- one, and any other disk stays as it is. If a floor is asked for, the disk was empty, and it now holds a
-- record with only that floor
abbrev pub IsMade : {D : Type 0} → (D → DiskState → Type 0) → D → D → ℕ → ℕ → Making → Bool
    → Type 0
IsMade stands_for old new n p Nothing made = (made ≡ false) × (new ≡ old)
IsMade stands_for old new n p Empty true = (d : DiskState) → stands_for old d
    → (d.seen ≡ []) × (e : DiskState) × stands_for new e × IsSettled e × StandsFor p n e.seen []
IsMade stands_for old new n p Empty false = (d : DiskState) → stands_for old d
    → stands_for new d × (0 < length d.seen)
IsMade stands_for old new n p (Above floor) made = (made ≡ true) × FormatsAbove stands_for old new p n floor
