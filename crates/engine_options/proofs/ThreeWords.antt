-- A name and two words more.
use Rattle.std.proofs.Common.{◌≡◌, ◌<◌, ◌≤◌, slice_index_or, List, [], ◌∷◌, length, String, string_bytes, codes, sym, ap, ap₂, ◌∙◌, arith}
use Rattle.std.specs.declared.alloc.Global.{Global}
use Rattle.engine_options.specs.Options.{words_of}
use Rattle.engine_options.specs.Inspections.{AskInspection}

pub three_words : (words : List (String Global)) (word file : String Global) → 3 ≤ length words → length words < 4
    → word ≡ slice_index_or words 1 word → file ≡ slice_index_or words 2 file → string_bytes word ≡ codes "--inspect" → AskInspection (string_bytes file) (words_of words)
three_words [] word file least most second third same = absurd (omega (arith, least))
three_words (x ∷ []) word file least most second third same = absurd (omega (arith, least))
three_words (x ∷ y ∷ []) word file least most second third same = absurd (omega (arith, least))
three_words (x ∷ y ∷ z ∷ []) word file least most second third same =
    (string_bytes x, ap₂ (λ a b. string_bytes x ∷ a ∷ b ∷ []) (ap string_bytes (sym second) ∙ same) (ap string_bytes (sym third)))
three_words (x ∷ y ∷ z ∷ w ∷ words) word file least most second third same = absurd (omega (arith, most))
