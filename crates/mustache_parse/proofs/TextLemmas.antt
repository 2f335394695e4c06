-- The tree of a text, by what its scan gives.
use Rattle.std.proofs.Common.{◌≡◌, ℕ, List, Result, Ok, Err, ap, ◌∙◌}
use Rattle.mustache_scan.specs.Standalone.{TokenSeen, scanned}
use Rattle.mustache_scan.specs.declared.fault.TemplateFault.{TemplateFault}
use Rattle.mustache_parse.specs.Tree.{Tree, nested, tree_of_scanned, tree_of}

-- what the tokens of a text nest into is the text's
pub tree_is : (t : List ℕ) (ts : List TokenSeen) (r : Result Tree TemplateFault) → scanned t ≡ Ok ts → nested ts ≡ r → tree_of t ≡ r
unfolding tree_of
tree_is t ts r is nests = ap tree_of_scanned is ∙ nests

-- a fault of the scan is the text's
pub scan_fault : (t : List ℕ) (f : TemplateFault) → scanned t ≡ Err f → tree_of t ≡ Err f
unfolding tree_of
scan_fault t f h = ap tree_of_scanned h
