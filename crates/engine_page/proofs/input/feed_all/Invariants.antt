use Rattle.std.proofs.Common.{◌≡◌, ◌≤◌, List, length, map}
use Rattle.command.specs.Action.{Order}
use Rattle.engine_page.specs.declared.input.TheConstants.{MAX_COMMANDS}
use Rattle.engine_page.specs.Framed.{FramedCommand}
use Rattle.engine_page.specs.Reading.{Begins}
use Rattle.engine_page.specs.Verdict.{framed_value}
use Rattle.engine_page.proofs.input.feed_all.Given as goal

-- the input begins with the commands fed so far, and goes on with the rest
abbrev pub invariant-loop-rest : goal.invariant-loop-rest
invariant-loop-rest l = record {
  framed : List FramedCommand;
  orders : List Order;
  begins : Begins l.input framed orders l.rest;
  few : length framed ≤ MAX_COMMANDS;
  fed : l.releases ≡ map framed_value framed;
}

abbrev pub decreases-loop-rest : goal.decreases-loop-rest
decreases-loop-rest l = length l.rest
