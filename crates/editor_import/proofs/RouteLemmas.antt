-- The path of a file's page, by whether its name is that of an index.
use Rattle.std.proofs.Common.{◌≡◌, ◌≢◌, ℕ, List, ◌∷◌, ◌++◌, codes, Result, Ok, Err, String, string_bytes, sym, ap, ◌∙◌}
use Rattle.std.proofs.lemmas.List.{append_cancel_right}
use Rattle.std.specs.Global.{Global}
use Rattle.std.specs.Prelude.{IfOk}
use Rattle.editor_import.specs.Routes.{IsRoute}

abbrev pub index_name : List ℕ
index_name = codes "/index.html"

pub route_folder : (file path folder made : List ℕ) → path ≡ 47 ∷ file → path ≡ folder ++ index_name → made ≡ folder ++ codes "/" → IsRoute made file
route_folder file path folder made at ends is = record {
  of_index = λ front there. is ∙ ap (λ l. l ++ codes "/") (append_cancel_right folder front index_name (sym ends ∙ at ∙ there));
  of_other = λ none. absurd (none folder (sym at ∙ ends));
}

pub route_file : (file path : List ℕ) → path ≡ 47 ∷ file → ((front : List ℕ) → path ≢ front ++ index_name) → IsRoute path file
route_file file path at none = record {
  of_index = λ front there. absurd (none front (at ∙ there));
  of_other = λ _. at;
}

-- the same of what a call gave
pub made : {E : Type 0} (r : Result (String Global) E) (file path folder : List ℕ) → path ≡ 47 ∷ file → path ≡ folder ++ index_name
    → IfOk r (λ s. string_bytes s ≡ folder ++ codes "/") → IfOk r (λ s. IsRoute (string_bytes s) file)
made (Ok s) file path folder at ends is = route_folder file path folder (string_bytes s) at ends is
made (Err e) file path folder at ends is = tt
