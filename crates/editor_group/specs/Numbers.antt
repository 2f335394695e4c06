-- The number that a node answers.
use Rattle.std.specs.Prelude.{◌≡◌, ℕ, ◌<◌, ◌^◌, List, IsUtf8}
use Rattle.std.specs.Str.{trim_end}
use Rattle.std.specs.Str.Parse.{IsNumeral, digits_value, without_leading_plus}
use Rattle.editor_http.specs.declared.node_answer.NodeAnswer.{NodeAnswer}

-- a text without blanks at its end and a plus at its front
abbrev pub numeral : List ℕ → List ℕ
numeral text = without_leading_plus (trim_end text)

-- the text is this number below 2 ^ 64
pub record Spells (text : List ℕ) (n : ℕ) : Type 0 where
  pub digits : IsNumeral 10 (numeral text)
  pub value : digits_value 10 (numeral text) ≡ n
  pub small : n < 2 ^ 64

-- the answer has status 200, and its body is the text of this number
pub record Numbers (answer : NodeAnswer) (n : ℕ) : Type 0 where
  pub status : answer.status ≡ 200
  pub text : IsUtf8 answer.body.items
  pub spells : Spells answer.body.items n
