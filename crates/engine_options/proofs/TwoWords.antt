-- A name and one word more.
use Rattle.std.proofs.Common.{◌≡◌, ℕ, ◌<◌, ◌≤◌, slice_index_or, List, [], ◌∷◌, length, String, string_bytes, codes, sym, ap, ◌∙◌, arith}
use Rattle.std.specs.declared.alloc.Global.{Global}
use Rattle.engine_options.specs.Options.{words_of}
use Rattle.engine_options.specs.Versions.{AskVersion}

second : {x y : List ℕ} {a b : List ℕ} → x ∷ y ∷ [] ≡ a ∷ b ∷ [] → y ≡ b
second is = cc

pub two_words : (words : List (String Global)) (word : String Global) → 2 ≤ length words → length words < 3 → word ≡ slice_index_or words 1 word
    → (string_bytes word ≡ codes "--version" → AskVersion (words_of words)) × (AskVersion (words_of words) → string_bytes word ≡ codes "--version")
two_words [] word least most is = absurd (omega (arith, least))
two_words (x ∷ []) word least most is = absurd (omega (arith, least))
two_words (x ∷ y ∷ []) word least most is = (
  λ same. (string_bytes x, ap (λ b. string_bytes x ∷ b ∷ []) (ap string_bytes (sym is) ∙ same)),
  λ asks. ap string_bytes is ∙ second asks.1,
)
two_words (x ∷ y ∷ z ∷ words) word least most is = absurd (omega (arith, most))
