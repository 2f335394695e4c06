-- Lines of notes, and more of them.
use Rattle.std.proofs.Common.{◌≡◌, ℕ, zero, suc, ◌+◌, List, Option, Bool, true, false, sym, subst, refl, arith}
use Rattle.http_read.specs.Bytes.{End, IsGiven}
use Rattle.server_notes.specs.Lines.{line_of_note}
use Rattle.server_notes.specs.declared.note.Note.{Note}
use Rattle.server.specs.Noted.{GivesNotes, HasNoted, EndsBy}

pub none_noted : (asked : Bool) (e : End) → e.after ≡ e.before → e.failures_after ≡ e.failures → HasNoted asked e
none_noted asked e same sound = (0, (λ no. refl), (same, sound))

yes_asked : {X : Type 0} → true ≡ false → X
yes_asked e = absurd (cc)

pub one_noted : (e : End) (note : Note) → IsGiven e (line_of_note note) → HasNoted true e
one_noted e note given = (1, (λ no. yes_asked no), (e.before, e.failures, note, (refl, refl), given))

module _ (a b : Option (List ℕ)) (f g : ℕ) (k : ℕ) (earlier : GivesNotes k (record { before = a; after = b; failures = f; failures_after = g })) where
  more : (n : ℕ) (c : Option (List ℕ)) (h : ℕ) → GivesNotes n (record { before = b; after = c; failures = g; failures_after = h })
      → (m : ℕ) × (m ≡ n + k) × GivesNotes m (record { before = a; after = c; failures = f; failures_after = h })
  more zero c h (same, sound) = (
    k,
    omega arith,
    subst (λ w. GivesNotes k (record { before = a; after = w; failures = f; failures_after = h })) (sym same)
        (subst (λ w. GivesNotes k (record { before = a; after = b; failures = f; failures_after = w })) (sym sound) earlier),
  )
  more (suc n) c h (held, failures, note, before, given) =
      let (m, sum, those) = more n held failures before in
      (suc m, omega (arith, sum), (held, failures, note, those, given))

-- these and those
pub noted_on : (asked : Bool) (a b c : Option (List ℕ)) (f g h : ℕ) → HasNoted asked (record { before = a; after = b; failures = f; failures_after = g })
    → HasNoted asked (record { before = b; after = c; failures = g; failures_after = h }) → HasNoted asked (record { before = a; after = c; failures = f; failures_after = h })
noted_on asked a b c f g h (k, none, earlier) (n, no_more, later) =
    let (m, sum, all) = more a b f g k earlier n c h later in
    (m, (λ no. let first = none no in let then = no_more no in omega (arith, first, then, sum)), all)

-- and then what was last
pub ends_by : (asked : Bool) (a b c : Option (List ℕ)) (f g h : ℕ) (Last : End → Type 0) → HasNoted asked (record { before = a; after = b; failures = f; failures_after = g }) → Last (record { before = b; after = c; failures = g; failures_after = h })
    → EndsBy asked (record { before = a; after = c; failures = f; failures_after = h }) Last
ends_by asked a b c f g h Last noted last = (b, g, noted, last)

-- what was done after none
pub alone : (a b c : Option (List ℕ)) (f g h : ℕ) (P : End → Type 0) → GivesNotes 0 (record { before = a; after = b; failures = f; failures_after = g }) → P (record { before = b; after = c; failures = g; failures_after = h })
    → P (record { before = a; after = c; failures = f; failures_after = h })
alone a b c f g h P (same, sound) done =
    subst (λ w. P (record { before = w; after = c; failures = f; failures_after = h })) same (subst (λ w. P (record { before = b; after = c; failures = w; failures_after = h })) sound done)

-- and before none
pub ended : (a b c : Option (List ℕ)) (f g h : ℕ) (P : End → Type 0) → P (record { before = a; after = b; failures = f; failures_after = g }) → GivesNotes 0 (record { before = b; after = c; failures = g; failures_after = h })
    → P (record { before = a; after = c; failures = f; failures_after = h })
ended a b c f g h P done (same, sound) =
    subst (λ w. P (record { before = a; after = w; failures = f; failures_after = h })) (sym same) (subst (λ w. P (record { before = a; after = b; failures = f; failures_after = w })) (sym sound) done)
