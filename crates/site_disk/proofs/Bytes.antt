-- Bytes that are written over.
use Rattle.std.proofs.Common.{◌≡◌, ℕ, ◌+◌, ◌≤◌, ◌<◌, max, List, length, get_or, rules}
use Rattle.std.proofs.lemmas.List.{places}
use Rattle.site_disk.specs.Model.{overwritten}

pub length-overwritten : (old : List ℕ) (at : ℕ) (bytes : List ℕ) → at ≤ length old → length (overwritten old at bytes) ≡ max (length old) (at + length bytes)
length-overwritten old at bytes le = search (rules, places)

pub overwritten_before : (old : List ℕ) (at : ℕ) (bytes : List ℕ) (place : ℕ) → at ≤ length old → place < at → get_or (overwritten old at bytes) place 0 ≡ get_or old place 0
overwritten_before old at bytes place le lt = search (rules, places)

pub overwritten_after : (old : List ℕ) (at : ℕ) (bytes : List ℕ) (place : ℕ) → at ≤ length old → at + length bytes ≤ place → get_or (overwritten old at bytes) place 0 ≡ get_or old place 0
overwritten_after old at bytes place le past = search (rules, places)
