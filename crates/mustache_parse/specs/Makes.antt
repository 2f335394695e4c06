-- Which tokens make which tree: a section is its opening tag, the tokens of its block, and an end tag of its
-- name.
use Rattle.std.specs.Prelude.{◌≡◌, ℕ, ◌+◌, max, List, [], ◌∷◌, ◌++◌}
use Rattle.mustache_scan.specs.Standalone.{TokenSeen}
use Rattle.mustache_scan.specs.declared.token.TokenKind.TheVariants.{Literal, Variable, Raw, Section}
use Rattle.mustache_scan.specs.declared.token.TokenKind.TheVariants.{Inverted, End, Comment, Partial}
use Rattle.mustache_scan.specs.declared.token.TokenKind.TheVariants.{Delimiters}
use Rattle.mustache_parse.specs.Tree.{Tree, nothing, text, variable, raw, partial, section, inverted}

-- an end tag of the name
pub record Ends (name : List ℕ) (t : TokenSeen) : Type 0 where
  pub is_end : t.kind ≡ End
  pub named : t.inside ≡ name

pub data Makes : List TokenSeen → Tree → Type 0 where
  none : Makes [] nothing
  a_text : (t : TokenSeen) (ts : List TokenSeen) (rest : Tree) → t.kind ≡ Literal → Makes ts rest
      → Makes (t ∷ ts) (text t.text rest)
  a_variable : (t : TokenSeen) (ts : List TokenSeen) (rest : Tree) → t.kind ≡ Variable → Makes ts rest
      → Makes (t ∷ ts) (variable t.inside rest)
  a_raw : (t : TokenSeen) (ts : List TokenSeen) (rest : Tree) → t.kind ≡ Raw → Makes ts rest
      → Makes (t ∷ ts) (raw t.inside rest)
  a_partial : (t : TokenSeen) (ts : List TokenSeen) (rest : Tree)
      → t.kind ≡ Partial → Makes ts rest → Makes (t ∷ ts) (partial t.inside t.indent rest)
  a_section : (t : TokenSeen) (inner : List TokenSeen) (block : Tree) (e : TokenSeen) (after : List TokenSeen)
      (rest : Tree)
      → t.kind ≡ Section → Makes inner block → Ends t.inside e → Makes after rest
      → Makes (t ∷ (inner ++ e ∷ after)) (section t.inside block rest)
  an_inverted : (t : TokenSeen) (inner : List TokenSeen) (block : Tree) (e : TokenSeen)
      (after : List TokenSeen) (rest : Tree)
      → t.kind ≡ Inverted → Makes inner block → Ends t.inside e → Makes after rest
      → Makes (t ∷ (inner ++ e ∷ after)) (inverted t.inside block rest)
  a_comment : (t : TokenSeen) (ts : List TokenSeen) (rest : Tree) → t.kind ≡ Comment → Makes ts rest
      → Makes (t ∷ ts) rest
  delimiters : (t : TokenSeen) (ts : List TokenSeen) (rest : Tree) → t.kind ≡ Delimiters → Makes ts rest
      → Makes (t ∷ ts) rest

-- how many sections are open at once, at most
abbrev pub depth : Tree → ℕ
depth nothing = 0
depth (text t rest) = depth rest
depth (variable name rest) = depth rest
depth (raw name rest) = depth rest
depth (partial name indent rest) = depth rest
depth (section name block rest) = max (depth block + 1) (depth rest)
depth (inverted name block rest) = max (depth block + 1) (depth rest)
