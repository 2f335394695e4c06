-- A frame's line has its words in one way.
use Rattle.std.proofs.Common.{◌≡◌, ℕ, List}
use Rattle.engine_common.specs.Cuts.{Lacks, IsCut}
use Rattle.engine_common.proofs.CutLemmas.{no_cut, one_cut}
use Rattle.engine_page.specs.Words.{Words, HasWords}

pub no_line : (bytes : List ℕ) (w : Words) → Lacks 10 bytes → ¬ HasWords bytes w
no_line bytes w none words = no_cut 10 bytes _ _ none words.ends

pub no_first : (bytes line after : List ℕ) (w : Words) → IsCut 10 bytes line after → Lacks 32 line → ¬ HasWords bytes w
no_first bytes line after w ends none words =
    let same : line ≡ words.line = (one_cut 10 bytes line after words.line w.after ends words.ends).front in
    no_cut 32 words.line _ _ (rw same at none) words.first

pub no_second : (bytes line after editor others : List ℕ) (w : Words) → IsCut 10 bytes line after → IsCut 32 line editor others → Lacks 32 others → ¬ HasWords bytes w
no_second bytes line after editor others w ends first none words =
    let same : line ≡ words.line = (one_cut 10 bytes line after words.line w.after ends words.ends).front in
    let left : others ≡ words.others = (one_cut 32 words.line editor others w.editor words.others (rw same at first) words.first).back in
    no_cut 32 words.others _ _ (rw left at none) words.second

pub one_words : (bytes : List ℕ) (v w : Words) → HasWords bytes v → HasWords bytes w → v ≡ w
one_words bytes v w p q =
    let lines = one_cut 10 bytes p.line v.after q.line w.after p.ends q.ends in
    let line : p.line ≡ q.line = lines.front in
    let after : v.after ≡ w.after = lines.back in
    let firsts = one_cut 32 q.line v.editor p.others w.editor q.others (rw line at p.first) q.first in
    let editor : v.editor ≡ w.editor = firsts.front in
    let others : p.others ≡ q.others = firsts.back in
    let seconds = one_cut 32 q.others v.number v.length_word w.number w.length_word (rw others at p.second) q.second in
    λ i. record { editor = editor i; number = seconds.front i; length_word = seconds.back i; after = after i }
