-- A stack of open sections beside the levels of what is left to read.
use Rattle.std.proofs.Common.{◌≡◌, List, [], ◌∷◌, refl, sym, ap}
use Rattle.mustache_parse.specs.Tree.{Tree, nothing, Levels, last, up_to_end, onto, closing}

-- an open section: what its block makes of the rest of a list, and the nodes that are before it in its list
pub record Waiting : Type 0 where
  pub make : Tree → Tree → Tree
  pub before : Tree → Tree

-- The levels that come of a stack, of the nodes since the innermost section opened, and of what is left.
abbrev pub onto_stack : List Waiting → (Tree → Tree) → Levels → Levels
onto_stack [] nodes ls = onto nodes ls
onto_stack (s ∷ stack) nodes ls = onto_stack stack s.before (closing s.make (onto nodes ls))

pub onto-onto : (f g : Tree → Tree) (ls : Levels) → onto f (onto g ls) ≡ onto (λ t. f (g t)) ls
onto-onto f g (last nodes) = refl
onto-onto f g (up_to_end nodes more) = refl

-- a node more
pub more-nodes : (stack : List Waiting) (nodes node : Tree → Tree) (ls : Levels) → onto_stack stack nodes (onto node ls) ≡ onto_stack stack (λ t. nodes (node t)) ls
more-nodes [] nodes node ls = onto-onto nodes node ls
more-nodes (s ∷ stack) nodes node ls = ap (λ l. onto_stack stack s.before (closing s.make l)) (onto-onto nodes node ls)

pub onto-same : (ls : Levels) → onto (λ t. t) ls ≡ ls
onto-same (last nodes) = refl
onto-same (up_to_end nodes more) = refl

-- a section opens
pub opens : (stack : List Waiting) (nodes : Tree → Tree) (make : Tree → Tree → Tree) (ls : Levels)
    → onto_stack stack nodes (closing make ls) ≡ onto_stack (record { make = make; before = nodes } ∷ stack) (λ t. t) ls
opens stack nodes make ls = ap (λ l. onto_stack stack nodes (closing make l)) (sym (onto-same ls))

-- and ends
pub ends : (s : Waiting) (stack : List Waiting) (nodes : Tree → Tree) (ls : Levels)
    → onto_stack (s ∷ stack) nodes (up_to_end nothing ls) ≡ onto_stack stack (λ t. s.before (s.make (nodes nothing) t)) ls
ends s stack nodes ls = more-nodes stack s.before (s.make (nodes nothing)) ls
