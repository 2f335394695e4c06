-- The reading of an input, from what each value was answered with as it was fed.
use Rattle.std.proofs.Common.{◌≡◌, ◌==◌, ◌<◌, ◌≤◌, ℕ, List, [], ◌∷◌, ◌++◌, Bool, true, false, cond, map, length, Option, Some, None, unwrap_or, Result, Ok, Err, refl, sym, ap, ◌∙◌, arith, subst}
use Rattle.std.proofs.lemmas.List.{map-append}
use Rattle.std.specs.Option.{MatchOption}
use Rattle.command.specs.Action.{Action, put_template, put_partial, put_data, put_route, put_redirect, remove, release, Order}
use Rattle.command.specs.Effective.{has_ticket, effective}
use Rattle.command.specs.Releases.{release_count}
use Rattle.command.specs.declared.fault.CommandFault.{CommandFault}
use Rattle.content.specs.Answered.{applied_after, answered}
use Rattle.content.specs.declared.applied.Applied.TheVariants.{Repeat, NotACommand}
use Rattle.release.specs.Page.{asked}
use Rattle.engine_page.specs.Framed.{FramedCommand}
use Rattle.engine_page.specs.Verdict.{framed_value}

answered_so : (b : Bool) (a : Action) → cond b Repeat (answered a) ≡ NotACommand → ⊥
answered_so true a is = cc
answered_so false (put_template n x) is = cc
answered_so false (put_partial n x) is = cc
answered_so false (put_data n w) is = cc
answered_so false (put_route p s f) is = cc
answered_so false (put_redirect p t) is = cc
answered_so false (remove k n) is = cc
answered_so false release is = cc

-- what is answered as no command reads as none
pub no_order : (orders : List Order) (r : Result Order CommandFault) → applied_after orders r ≡ NotACommand → (order : Order) → r ≡ Ok order → ⊥
no_order orders (Ok o) is order e = answered_so (has_ticket o.ticket orders) o.action is
no_order orders (Err f) is order e = cc

-- and what is answered otherwise as one
pub some_order : (orders : List Order) (r : Result Order CommandFault) → (applied_after orders r ≡ NotACommand → ⊥) → (order : Order) × (r ≡ Ok order)
some_order orders (Ok o) other = (o, refl)
some_order orders (Err f) other = absurd (other refl)

pub values_more : (es : List FramedCommand) (e : FramedCommand) (v : List ℕ) → v ≡ framed_value e → map framed_value es ++ v ∷ [] ≡ map framed_value (es ++ e ∷ [])
values_more es e v is = ap (λ x. map framed_value es ++ x ∷ []) is ∙ sym (map-append framed_value es (e ∷ []))

-- the release that is asked for
pub asked_is : (values : List (List ℕ)) (release : Option ℕ) (newest n : ℕ) → newest ≡ release_count (effective values) → n ≡ unwrap_or release newest → n ≡ asked values release
asked_is values None newest n count is = is ∙ count
asked_is values (Some k) newest n count is = is

pub nothing_left : (rest : List ℕ) → length rest ≤ 0 → rest ≡ []
nothing_left [] empty = refl
nothing_left (b ∷ rest) empty = absurd (omega arith)

pub some_left : (rest : List ℕ) → (length rest == 0) ≡ false → 0 < length rest
some_left [] none = absurd (let never : true ≡ false = none in cc)
some_left (b ∷ rest) none = omega arith

-- what holds where there is none, and where there is one
pub where_none : {X : Type 0} (A : Type 0) (B : X → Type 0) (o : Option X) → MatchOption o A B → o ≡ None → A
where_none A B o holds is = subst (λ x. MatchOption x A B) is holds

pub where_some : {X : Type 0} (A : Type 0) (B : X → Type 0) (o : Option X) (x : X) → MatchOption o A B → o ≡ Some x → B x
where_some A B o x holds is = subst (λ y. MatchOption y A B) is holds
