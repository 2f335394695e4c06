-- What a client still has to read: what is held, and what the reader has left.
use Rattle.std.specs.Prelude.{ℕ, List, Option}
use Rattle.std.specs.Io.KnownBytes.{Consumes}
use Rattle.editor_http.specs.Answers.{IsOf}
use Rattle.editor_http.specs.declared.node_answer.NodeAnswer.{NodeAnswer}

-- an answer was taken from the front of it
pub record Takes (old new : Option (List ℕ)) (answer : NodeAnswer) : Type 0 where
  pub bytes : List ℕ
  pub taken : Consumes old new bytes
  pub is : IsOf bytes answer
