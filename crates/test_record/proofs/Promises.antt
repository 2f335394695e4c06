-- The greatest ballot among promises and votes, with one entry more.
use Rattle.std.proofs.Common.{◌≡◌, ⊎_elim, ℕ, List, [], ◌∷◌, ◌++◌, Option, Some, None, refl, sym, subst, arith}
use Rattle.std.specs.Prelude.{◌↔◌}
use Rattle.site_ids.specs.Ids.{BallotOf, NotAbove}
use Rattle.site_ids.specs.Lists.{In}
use Rattle.acceptor.specs.Judging.{IsFreeAt}
use Rattle.durable.specs.Entries.{Entry, Raises, IsPromise}
use Rattle.durable.proofs.Push.{in_push, in_left, promise_kept, promise_raised}

-- the only ballot that an entry raises at an instance, if there is one
abbrev pub RaisesOnly : Entry → ℕ → Option BallotOf → Type 0
RaisesOnly e i raised = (b : BallotOf) → Raises e i b ↔ (raised ≡ Some b)

none_is_some : (b : BallotOf) → None ≡ Some b → ⊥
none_is_some b same = cc

same_in : (b c : BallotOf) → Some b ≡ Some c → c ≡ b
same_in b c same = cc

not_above : (a b c : BallotOf) → NotAbove a b → NotAbove b c → NotAbove a c
not_above a b c = grind arith

pub unraised : (es : List Entry) (e : Entry) (i : ℕ) (p : Option BallotOf) → RaisesOnly e i None → IsPromise es i p → IsPromise (es ++ e ∷ []) i p
unraised es e i p none is = promise_kept es e i p (λ c raises. none_is_some c ((none c).0 raises)) is

-- a ballot that isn't above the promise leaves it
lower : (es : List Entry) (e : Entry) (i : ℕ) (b p : BallotOf) → RaisesOnly e i (Some b) → NotAbove b p → IsPromise es i (Some p) → IsPromise (es ++ e ∷ []) i (Some p)
lower es e i b p only low is = (
  (is.0.0, in_left es (e ∷ []) is.0.0 is.0.1, is.0.2),
  λ f c k r. ⊎_elim
      (λ x. is.1 f c x r)
      (λ x. subst (λ (y : BallotOf). NotAbove y p) (sym (same_in b c ((only c).0 (subst (λ (y : Entry). Raises y i c) (sym x) r)))) low)
      (in_push es e f k),
)

above_all : (es : List Entry) (i : ℕ) (b : BallotOf) (p : Option BallotOf) → IsFreeAt p b → IsPromise es i p → (f : Entry) (c : BallotOf) → In es f → Raises f i c → NotAbove c b
above_all es i b None free is = λ f c k r. absurd (is f c k r)
above_all es i b (Some p) free is = λ f c k r. not_above c p b (is.1 f c k r) free

-- one that isn't below it is the promise then
pub raised_higher : (es : List Entry) (e : Entry) (i : ℕ) (b : BallotOf) (p : Option BallotOf) → RaisesOnly e i (Some b) → IsFreeAt p b → IsPromise es i p → IsPromise (es ++ e ∷ []) i (Some b)
raised_higher es e i b p only free is =
    promise_raised es e i b ((only b).1 refl) (λ c raises. same_in b c ((only c).0 raises)) (above_all es i b p free is)

other_way : (p b : BallotOf) → ¬ (NotAbove p b) → NotAbove b p
other_way p b above = grind arith

-- and one below it leaves it
pub raised_lower : (es : List Entry) (e : Entry) (i : ℕ) (b : BallotOf) (p : Option BallotOf) → RaisesOnly e i (Some b) → ¬ (IsFreeAt p b) → IsPromise es i p → IsPromise (es ++ e ∷ []) i p
raised_lower es e i b None only above is = absurd (above tt)
raised_lower es e i b (Some p) only above is = lower es e i b p only (other_way p b above) is
