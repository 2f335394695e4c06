use Rattle.std.proofs.Common.{◌≡◌, ◌∙◌, ◌++◌, ◌∷◌, [], true, false, sym, ap}
use Rattle.command.specs.Effective.{commands_of}
use Rattle.command.specs.Reading.{value_reading}
use Rattle.engine_page.specs.View.{framed_view}
use Rattle.engine_page.specs.Verdict.{framed_value}
use Rattle.engine_page.proofs.Feeding.{no_order, some_order}
use Rattle.engine_page.proofs.input.feed_one.Goals as goal
use Rattle.engine_page.proofs.input.feed_one.Goals.{in-NotACommand, in_default}

pub fault_at-requires : goal.fault_at-requires
fault_at-requires c = elim c.match-matches.branch [
  | in-NotACommand w ↦ λ order reads. no_order (commands_of c.args.releases.now) (value_reading c.deref.result.now)
      (sym c.in_ok-feed.ensures.ok.1 ∙ w.in-NotACommand.is) order (ap value_reading (c.deref.ensures.value ∙ sym c.deref-then-matches.ensures.value) ∙ reads)
  | in_default w ↦ let bad : true ≡ false = sym c.if-matches.true ∙ w.matches-is in cc
]

pub returns-then-matches : goal.returns-then-matches
returns-then-matches c =
    let fault = c.in_ok-fault_at.ensures in
    record { fault = fault.0; reads = ap value_reading (sym (c.deref-then-matches.ensures.value ∙ c.in_ok-value.ensures)) ∙ fault.1; told = fault.2 }

pub returns : goal.returns
returns c =
    let value : c.deref.result.now ≡ framed_value (framed_view c.args.framed) = c.deref.ensures.value ∙ c.in_ok-value.ensures in
    elim c.match-matches.branch [
      | in-NotACommand w ↦ let bad : true ≡ false = sym w.matches-is ∙ c.if-matches.false in cc
      | in_default w ↦
          let read = some_order (commands_of c.args.releases.now) (value_reading c.deref.result.now) (λ none. w.in_default.not-NotACommand (c.in_ok-feed.ensures.ok.1 ∙ none)) in
          record { order = read.0; reads = ap value_reading (sym value) ∙ read.1; fed = c.in_ok-feed.ensures.ok.0 ∙ ap (λ v. c.args.releases.now ++ v ∷ []) value }
    ]
