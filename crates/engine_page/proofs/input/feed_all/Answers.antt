use Rattle.std.proofs.Common.{◌≡◌, ◌⊎◌, ◌+◌, ◌++◌, ◌∷◌, [], ◌∙◌, true, sym, ap, arith, inl, inr, length, length-append, refl, rules, codes, string_bytes}
use Rattle.std.proofs.lemmas.List.{length-map}
use Rattle.command.specs.Written.{line_of}
use Rattle.engine_page.specs.declared.input.TheConstants.{MAX_COMMANDS}
use Rattle.engine_page.specs.Framed.{HasNoFrame}
use Rattle.engine_page.specs.Standing.{IsFaultLine, IsFed}
use Rattle.engine_page.specs.View.{framed_view}
use Rattle.engine_page.specs.Reading.{fault_at}
use Rattle.engine_page.specs.Verdict.{framed_value}
use Rattle.engine_page.proofs.Feeding.{values_more, nothing_left, some_left, where_none, where_some}
use Rattle.engine_page.proofs.Inputs.{begins_with_frame, begins_more}
use Rattle.engine_page.proofs.input.feed_all.Goals as goal
use Rattle.engine_page.proofs.input.feed_all.Goals.{in_default-via-in-Some+else-place-le-MAX_COMMANDS, in_default-via-in_default}

pub loop-rest-init : goal.loop-rest-init
loop-rest-init c = record {
  framed = [];
  orders = [];
  begins = record { whole = refl; each = tt; commands = tt };
  few = omega arith;
  fed = c.requires;
}

pub returns-in_default : goal.returns-in_default
returns-in_default c =
    let i = c.loop-rest.invariant in
    let count : c.len-place.result ≡ length i.framed = c.len-place.ensures.is ∙ (ap length i.fed ∙ length-map i.framed framed_value) in
    let stops : (length i.framed ≡ MAX_COMMANDS) ⊎ HasNoFrame c.loop-rest.rest.now = elim c.in_default.branch [
      | in_default-via-in-Some+else-place-le-MAX_COMMANDS w ↦ inl (omega (arith, count, i.few, w.if-place-le-MAX_COMMANDS))
      | in_default-via-in_default w ↦ inr w.in_default.ensures
    ] in
    inr (record {
      framed = i.framed;
      orders = i.orders;
      rest = c.loop-rest.rest.now;
      begins = i.begins;
      few = i.few;
      some = some_left c.loop-rest.rest.now (sym c.is_empty.ensures ∙ c.loop-rest-test.true);
      stops = stops;
      line_is = c.in_ok-line_at-in_default.ensures ∙ ap (λ k. fault_at (k + 1) (codes "framing")) count;
    })

pub returns-in-Some-2 : goal.returns-in-Some-2
returns-in-Some-2 c =
    let i = c.loop-rest.invariant in
    let count : c.len-place.result ≡ length i.framed = c.len-place.ensures.is ∙ (ap length i.fed ∙ length-map i.framed framed_value) in
    let e = framed_view c.in-Some.framed in
    let one = where_some (IsFed e c.loop-rest.releases c.feed_one.new.releases) (λ line. IsFaultLine e (c.len-place.result + 1) (string_bytes line)) c.in_ok-line.field-0 c.in-Some-2.line c.in_ok-line.ensures c.in-Some-2.is in
    inl (record {
      framed = i.framed;
      orders = i.orders;
      command = e;
      rest = c.in-Some.framed.rest.now;
      fault = one.fault;
      begins = begins_with_frame _ _ _ _ _ i.begins c.in-Some.ensures.0;
      few = omega (arith, count, c.if-place-le-MAX_COMMANDS.true);
      fits = c.in-Some.ensures.1;
      is = one.reads;
      line_is = one.told ∙ ap (λ k. fault_at (k + 1) (line_of one.fault)) count;
    })

pub loop-rest-preserved : goal.loop-rest-preserved
loop-rest-preserved c =
    let i = c.loop-rest.invariant in
    let count : c.len-place.result ≡ length i.framed = c.len-place.ensures.is ∙ (ap length i.fed ∙ length-map i.framed framed_value) in
    let e = framed_view c.in-Some.framed in
    let longer : length (i.framed ++ e ∷ []) ≡ length i.framed + 1 = length-append i.framed (e ∷ []) in
    let one = where_none (IsFed e c.loop-rest.releases c.feed_one.new.releases) (λ line. IsFaultLine e (c.len-place.result + 1) (string_bytes line)) c.in_ok-line.field-0 c.in_ok-line.ensures c.in-None.is in
    record {
      framed = i.framed ++ e ∷ [];
      orders = i.orders ++ one.order ∷ [];
      begins = begins_more _ _ _ _ e _ one.order i.begins c.in-Some.ensures.0 c.in-Some.ensures.1 one.reads;
      few = omega (arith, longer, count, c.if-place-le-MAX_COMMANDS.true);
      fed = one.fed ∙ (ap (λ vs. vs ++ framed_value e ∷ []) i.fed ∙ values_more i.framed e (framed_value e) refl);
    }

pub returns : goal.returns
returns c =
    let i = c.loop-rest.invariant in
    record {
      orders = i.orders;
      whole = record { framed = i.framed; begins = begins_with_frame _ _ _ _ _ i.begins (nothing_left c.loop-rest.rest.now (search rules)); few = i.few };
      are = i.fed;
    }
