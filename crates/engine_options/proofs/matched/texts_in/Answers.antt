use Rattle.std.proofs.Common.{◌≡◌, ◌∙◌, ap, sym, map, List, [], ℕ, Option, Some, None}
use Rattle.std.specs.Prelude.{option_map, unwrap_or}
use Rattle.std.specs.Borrow.{Bor}
use Rattle.std.proofs.lemmas.Result.{IfOk-weaker}
use Rattle.clap.specs.Words.{found_of, matched_of, raw_values, rows_of, all_of}
use Rattle.clap.specs.declared.parser.matches.Found.{Found}
use Rattle.clap.proofs.WalkLemmas.{raw_values-rows}
use Rattle.engine_options.proofs.matched.texts_in.Goals as goal

abbrev texts : List (Bor (List ℕ)) → List (List ℕ)
texts = map (λ v. v.now)

abbrev shown : Option (Bor (List (Bor (List ℕ)))) → Option (List (List ℕ))
shown = option_map (λ s. texts s.now)

read : (f : Found) (id : List ℕ) (got want : Option (Bor (List (Bor (List ℕ))))) → shown got ≡ option_map raw_values (matched_of f id) → got ≡ want
    → unwrap_or (shown want) [] ≡ unwrap_or (all_of id (rows_of f)) []
read f id got want gives is = ap (λ o. unwrap_or (shown o) []) (sym is) ∙ ap (λ o. unwrap_or o []) (gives ∙ raw_values-rows f id)

pub returns-in-Some : goal.returns-in-Some
returns-in-Some c =
    IfOk-weaker c.from_slice.result _ _ (λ v items. ap texts items ∙ read (found_of c.args.matches.now) c.args.id.now c.get_strs.result (Some c.in-Some.given) c.get_strs.ensures c.in-Some.is) c.from_slice.ensures.items

pub returns-in-None : goal.returns-in-None
returns-in-None c =
    ap texts c.new.ensures.items ∙ read (found_of c.args.matches.now) c.args.id.now c.get_strs.result None c.get_strs.ensures c.in-None.is
