-- The reading of bytes, from what `serde_json` says of them.
use Rattle.std.proofs.Common.{◌≡◌, ◌≢◌, ◌⊎◌, inl, inr, ℕ, List, Bool, true, false, Some, None, Result, Ok, Err, IfOk, IfErr, MatchResult, refl, ap, ◌∙◌}
use Rattle.std.specs.Str.{IsUtf8, is_utf8}
use Rattle.std.proofs.lemmas.Str.{is_utf8-from_IsUtf8, IsUtf8-from_is_utf8}
use Rattle.serde_json.specs.Data as json
use Rattle.serde_json.specs.Read.{read}
use Rattle.context.specs.Whole.{whole, whole_or_not, data_reading}
use Rattle.context.specs.View.{data_view}
use Rattle.context.specs.declared.tree.Data.{Data}
use Rattle.context.specs.declared.fault.DataFault.{DataFault}
use Rattle.context.specs.declared.fault.DataFault.TheVariants.{NotJson, NotWhole, OutOfMemory}

pub read_value : (bytes : List ℕ) (j : json.Data) → IsUtf8 bytes → read bytes ≡ Some j → data_reading bytes ≡ whole_or_not (whole j)
read_value bytes j text e = rw (is_utf8-from_IsUtf8 bytes text, e)

refused : (b : Bool) (bytes : List ℕ) → is_utf8 bytes ≡ b → (IsUtf8 bytes → read bytes ≡ None) → data_reading bytes ≡ Err NotJson
refused true bytes text none = rw (text, none (IsUtf8-from_is_utf8 bytes text))
refused false bytes no_text none = rw no_text

pub read_none : (bytes : List ℕ) → (IsUtf8 bytes → read bytes ≡ None) → data_reading bytes ≡ Err NotJson
read_none bytes none = refused (is_utf8 bytes) bytes refl none

abbrev Converts : json.Data → Result Data DataFault → Type 0
Converts j r = MatchResult r (λ d. whole j ≡ Some (data_view d)) (λ e. ((e ≡ NotWhole) × (whole j ≡ None)) ⊎ (e ≡ OutOfMemory))

pub converted_ok : (r : Result Data DataFault) (bytes : List ℕ) (j : json.Data) → data_reading bytes ≡ whole_or_not (whole j) → Converts j r
    → IfOk r (λ d. data_reading bytes ≡ Ok (data_view d))
converted_ok (Ok d) bytes j reading is = reading ∙ ap whole_or_not is
converted_ok (Err e) bytes j reading why = tt

pub converted_err : (r : Result Data DataFault) (bytes : List ℕ) (j : json.Data) → data_reading bytes ≡ whole_or_not (whole j) → Converts j r
    → IfErr r (λ e. e ≢ OutOfMemory → data_reading bytes ≡ Err e)
converted_err (Ok d) bytes j reading is = tt
converted_err (Err e) bytes j reading (inl fault) = λ other. rw fault.0 (reading ∙ ap whole_or_not fault.1)
converted_err (Err e) bytes j reading (inr memory) = λ other. absurd (other memory)
