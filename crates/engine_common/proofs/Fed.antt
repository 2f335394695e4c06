-- Readings one after another.
use Rattle.std.proofs.Common.{◌≡◌, ◌≢◌, ◌==◌, ◌-◌, ℕ, ◌+◌, List, [], ◌∷◌, ◌++◌, length, drop, Option, Bool, true, false, true≢false, Result, Ok, Err, is_err, OnOk, OnErr, refl, sym, ap, subst, ◌∙◌, arith, append_assoc, length-append}
use Rattle.std.proofs.Math.Seq.{drop-append_seam}
use Rattle.std.proofs.lemmas.Bool.{ne_eqb}
use Rattle.std.proofs.KnownBytes.{Consumes-trans, Keeps-refl}
use Rattle.std.specs.Io.KnownBytes.{IsAtEnd}
use Rattle.http_read.specs.Bytes.{End, IsSound, IsSilent}
use Rattle.http_read.specs.Counted.{RoseByOne}
use Rattle.engine_common.specs.declared.ends.InputFault.{InputFault}
use Rattle.engine_common.specs.declared.ends.InputFault.TheVariants as input
use Rattle.engine_common.specs.Feeds.{Grown, HasTaken, ReadEnds}
use Rattle.engine_common.specs.Filling.{FillEnds}

-- the reader is at its end
pub ended : (reader : End) (old new : List ℕ) (b : Bool) → b ≡ false → ReadEnds reader old new (Ok b) → Grown reader old new × IsSound reader × IsAtEnd reader.after × (new ≡ old)
ended reader old new true is h = cc
ended reader old new false is h = h

pub some_held : (xs held : List ℕ) (b : Bool) → b ≡ false → b ≡ (length held == 0) → held ≡ xs → xs ≢ []
some_held xs held b other is same empty = let none : length held ≡ 0 = ap length (same ∙ empty) in grind (arith, none, is, other)

pub none_held : (xs held : List ℕ) (b : Bool) → b ≡ true → b ≡ (length held == 0) → held ≡ xs → xs ≡ []
none_held xs [] b is empty same = sym same
none_held xs (x ∷ held) b is empty same = absurd (true≢false (sym is ∙ (empty ∙ ne_eqb (length (x ∷ held)) 0 (λ e. omega (arith, e)))))

pub grown_then : (a b d : Option (List ℕ)) (f g h : ℕ) (old mid new : List ℕ) → Grown (record { before = a; after = b; failures = f; failures_after = g }) old mid
    → Grown (record { before = b; after = d; failures = g; failures_after = h }) mid new → Grown (record { before = a; after = d; failures = f; failures_after = h }) old new
grown_then a b d f g h old mid new p q = record {
  more = p.more ++ q.more;
  taken = Consumes-trans a b d p.more q.more p.taken q.taken;
  longer = q.longer ∙ (ap (λ t. t ++ q.more) p.longer ∙ append_assoc old p.more q.more);
}

pub taken_then : (a b d : Option (List ℕ)) (f g h k : ℕ) (old mid : List ℕ) → Grown (record { before = a; after = b; failures = f; failures_after = g }) old mid
    → HasTaken (record { before = b; after = d; failures = g; failures_after = h }) → HasTaken (record { before = a; after = d; failures = f; failures_after = k })
taken_then a b d f g h k old mid p q = (p.more ++ q.0, Consumes-trans a b d p.more q.0 p.taken q.1)

-- a reading that fails after others
pub fault_then : (IsEnough : List ℕ → Type 0) (a b d : Option (List ℕ)) (f g h : ℕ) (old mid new : List ℕ) (e : InputFault) (r : Result Unit InputFault) → r ≡ Err e
    → Grown (record { before = a; after = b; failures = f; failures_after = g }) old mid → g ≡ f → ReadEnds (record { before = b; after = d; failures = g; failures_after = h }) mid new (Err e)
    → FillEnds IsEnough (record { before = a; after = d; failures = f; failures_after = h }) old new r
fault_then IsEnough a b d f g h old mid new input.Read r is p sound q = rw is (taken_then a b d f g h h old mid p q.0, subst (λ n. RoseByOne n h) sound q.1)
fault_then IsEnough a b d f g h old mid new input.OutOfMemory r is p sound q = rw is (taken_then a b d f g h h old mid p q)

-- what is left after a front that was used
pub used_front : (front rest feed held new : List ℕ) → held ≡ front ++ rest → held ≡ feed → new ≡ drop (length held - length rest) feed → feed ≡ front ++ new
used_front front rest feed held new whole same left =
    let long : length held ≡ length front + length rest = ap length whole ∙ length-append front rest in
    let used : length held - length rest ≡ length front = omega (arith, long) in
    let back : new ≡ rest = left ∙ (ap (λ n. drop n feed) used ∙ (ap (drop (length front)) (sym same ∙ whole) ∙ drop-append_seam front rest)) in
    sym same ∙ (whole ∙ ap (λ t. front ++ t) (sym back))

pub on_err : {T E : Type 0} (r : Result T E) (P : Type 0) → OnErr r P → is_err r ≡ true → P
on_err (Ok x) P h is = cc
on_err (Err e) P h is = h

pub on_ok : {T E : Type 0} (r : Result T E) (P : Type 0) → OnOk r P → is_err r ≡ false → P
on_ok (Ok x) P h is = h
on_ok (Err e) P h is = cc

pub silent : (a : Option (List ℕ)) (f : ℕ) → IsSilent (record { before = a; after = a; failures = f; failures_after = f })
silent a f = record { kept = Keeps-refl a; sound = refl }
