-- What a command is about, as its first line says it.
use Rattle.std.specs.Prelude.{ℕ, List, [], ◌∷◌, ◌++◌, codes, ◌==◌, ◌&&◌, Bool, false, Option, Some, None}
use Rattle.std.specs.Prelude.{option_map, option_and_then}
use Rattle.std.specs.List.{before_first}
use Rattle.std.specs.Str.{bytes_eq}
use Rattle.command.specs.Cuts.{cut_at}

-- the first three words of a command: what is done, to which kind, under which name
pub record Head : Type 0 where
  pub verb : List ℕ
  pub kind : List ℕ
  pub name : List ℕ

-- the words after the verb: the kind, and the name up to the next space
abbrev pub head_with : List ℕ → List ℕ × List ℕ → Head
head_with verb p = record { verb = verb; kind = p.0; name = before_first (λ b. b == 32) p.1 }

-- the words of the first line, with a space between each; a release has no head
abbrev pub head_of : List ℕ → Option Head
head_of text =
    option_and_then (λ p. option_map (head_with p.0) (cut_at 32 p.1))
    (cut_at 32 (before_first (λ b. b == 10) text))

-- the head has that kind and that name
abbrev pub is_about : Head → Option Head → Bool
is_about head (Some other) = bytes_eq head.kind other.kind && bytes_eq head.name other.name
is_about head None = false

-- both texts are about one kind and name
abbrev pub is_same_subject : Option Head → Option Head → Bool
is_same_subject (Some head) other = is_about head other
is_same_subject None other = false

abbrev pub are_about_one : List ℕ → List ℕ → Bool
are_about_one t u = is_same_subject (head_of t) (head_of u)

abbrev pub puts : Head → Bool
puts head = bytes_eq head.verb (codes "put")

abbrev pub puts_by : Option Head → Bool
puts_by (Some head) = puts head
puts_by None = false

-- the text puts something
abbrev pub is_put : List ℕ → Bool
is_put text = puts_by (head_of text)

-- the command that removes what a head names
abbrev pub removal : Head → List ℕ
removal head = codes "remove " ++ (head.kind ++ (32 ∷ (head.name ++ (10 ∷ []))))

abbrev pub release_text : List ℕ
release_text = codes "release\n"
