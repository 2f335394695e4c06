-- An input is answered in one way.
use Rattle.std.proofs.Common.{◌≡◌, ℕ, List, map, Option, Result, Ok, Err, refl, sym, ap, ◌∙◌, inl, inr}
use Rattle.command.specs.Action.{Order}
use Rattle.release.specs.Page.{answer, asked}
use Rattle.engine_page.specs.Reading.{HasReading}
use Rattle.engine_page.specs.Verdict.{Verdict, says, or_no_release, framed_value, HasValues, IsVerdict}
use Rattle.engine_page.proofs.OneReading.{one_reading, same_framed}
use Rattle.engine_page.proofs.SomeReading.{some_reading}

same_values : (input : List ℕ) (vs ws : List (List ℕ)) → HasValues input vs → HasValues input ws → vs ≡ ws
same_values input vs ws v w = v.are ∙ ap (map framed_value) (same_framed input v.orders w.orders v.whole w.whole) ∙ sym w.are

pub one_verdict : (input : List ℕ) (release : Option ℕ) (path : List ℕ) (one other : Verdict) → IsVerdict input release path one → IsVerdict input release path other → one ≡ other
one_verdict input release path one other (inl p) (inl q) =
    let lines = one_reading input (Err p.0) (Err q.0) p.1 q.1 in let line : p.0 ≡ q.0 = cc in p.2 ∙ ap says line ∙ sym q.2
one_verdict input release path one other (inl p) (inr q) = let apart = one_reading input (Err p.0) (Ok q.1.orders) p.1 q.1.whole in cc
one_verdict input release path one other (inr p) (inl q) = let apart = one_reading input (Ok p.1.orders) (Err q.0) p.1.whole q.1 in cc
one_verdict input release path one other (inr p) (inr q) =
    p.2 ∙ ap (λ vs. or_no_release (answer vs (asked vs release) path)) (same_values input p.0 q.0 p.1 q.1) ∙ sym q.2

verdict_of : (input : List ℕ) (release : Option ℕ) (path : List ℕ) (reading : Result (List Order) (List ℕ)) → HasReading input reading → (verdict : Verdict) × IsVerdict input release path verdict
verdict_of input release path (Ok orders) h =
    let values = map framed_value h.framed in
    (or_no_release (answer values (asked values release) path), inr (values, record { orders = orders; whole = h; are = refl }, refl))
verdict_of input release path (Err line) h = (says line, inl (line, h, refl))

pub some_verdict : (input : List ℕ) (release : Option ℕ) (path : List ℕ) → (verdict : Verdict) × IsVerdict input release path verdict
some_verdict input release path = let r = some_reading input in verdict_of input release path r.0 r.1
