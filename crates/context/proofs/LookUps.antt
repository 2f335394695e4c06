-- A `BTreeMap` beside the members that it stands for.
use Rattle.std.proofs.Common.{◌≡◌, ℕ, List, [], ◌∷◌, Option, Some, None, option_map, Bool, true, false, cond, string_bytes, nat_cmp, bytes_eq, Bor, refl, ap}
use Rattle.std.proofs.lemmas.Map.Text.{is_eq-slice_cmp}
use Rattle.std.specs.Cmp.Lexicographic.{slice_cmp}
use Rattle.std.specs.Map.{lookup}
use Rattle.std.specs.BTreeMap.{is_at}
use Rattle.context.specs.Whole.{Whole}
use Rattle.context.specs.LookUp.{at_key, to_list}
use Rattle.context.specs.View.{data_view, items_of, members_view}
use Rattle.context.specs.declared.tree.Data.{Data}
use Rattle.context.proofs.Copies.{Entry}

found_or : (b : Bool) (v : Data) (rest : Option Data) (d : Option Whole) → option_map data_view rest ≡ d → option_map data_view (cond b (Some v) rest) ≡ elim b [ true ↦ Some (data_view v) | false ↦ d ]
found_or true v rest d e = refl
found_or false v rest d e = e

-- what a map has at a key is what its members have there
pub data_view-lookup : (key : List ℕ) (es : List Entry) → option_map data_view (lookup (is_at (λ k. slice_cmp nat_cmp key (string_bytes k))) es) ≡ at_key key (members_view es)
data_view-lookup key [] = refl
data_view-lookup key (e ∷ es) = rw is_eq-slice_cmp (found_or (bytes_eq key (string_bytes e.0)) e.1 _ _ (data_view-lookup key es))

pub view_of_ref : (r : Option (Bor Data)) → option_map (λ x. data_view x.now) r ≡ option_map data_view (option_map (λ x. x.now) r)
view_of_ref None = refl
view_of_ref (Some x) = refl

pub to_list-items_of : (ds : List Whole) → to_list (items_of ds) ≡ ds
to_list-items_of [] = refl
to_list-items_of (d ∷ ds) = ap (λ es. d ∷ es) (to_list-items_of ds)
