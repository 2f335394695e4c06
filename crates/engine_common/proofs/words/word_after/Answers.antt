use Rattle.std.proofs.Common.{◌≡◌, ◌≢◌, ◌++◌, ◌∷◌, ◌∙◌, ℕ, List, ap, Option, Some, None, MatchOption, Bor}
use Rattle.engine_common.proofs.LineLemmas.{behind}
use Rattle.engine_common.proofs.CutLemmas.{no_cut}
use Rattle.engine_common.specs.Cuts.{Lacks, IsCut}
use Rattle.engine_common.proofs.words.word_after.Goals as goal

cut_behind : (front head rest : List ℕ) (r : Option (Bor (List ℕ) × Bor (List ℕ))) → head ≡ front ++ rest → MatchOption r (Lacks 32 rest) (λ p. IsCut 32 rest p.0.now p.1.now)
    → MatchOption r ((word later : List ℕ) → Lacks 32 word → head ≢ front ++ (word ++ (32 ∷ later))) (λ p. Lacks 32 p.0.now × (head ≡ front ++ (p.0.now ++ (32 ∷ p.1.now))))
cut_behind front head rest None is h = λ word later none e. no_cut 32 rest word later h (record { whole = behind front head rest _ is e; first = none })
cut_behind front head rest (Some p) is h = (h.first, is ∙ ap (λ t. front ++ t) h.whole)

pub returns : goal.returns
returns c = cut_behind c.args.front.now c.args.head.now c.in_ok-after.field-0.now c.cut.result c.in_ok-after.ensures c.cut.ensures
