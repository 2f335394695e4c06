-- Letters, one more.
use Rattle.std.proofs.Common.{◌≡◌, ℕ, suc, ◌+◌, ◌<◌, slice_index_or, List, [], ◌∷◌, ◌++◌, length, take, sym, ap, ◌∙◌, arith}
use Rattle.std.proofs.lemmas.List.{map-append, take-map}
use Rattle.site_drive.proofs.Giving.{take_more}
use Rattle.wire.specs.declared.message.Message.{Message}
use Rattle.wire.specs.Spelling.{spelled}
use Rattle.node.specs.declared.to.To.{To}
use Rattle.site_drive.specs.Posting.{spelled_of}

-- what is spelled so far, and one more
pub one_spelled : (items : List (To × Message)) (i : ℕ) (x : To × Message) → i < length items → x ≡ slice_index_or items i x → spelled_of (take (i + 1) items) ≡ spelled_of (take i items) ++ (x.0, spelled x.1) ∷ []
one_spelled items i x below got =
    let next : suc i ≡ i + 1 = omega arith in
    ap (λ k. spelled_of (take k items)) (sym next) ∙ ap spelled_of (take_more items i x below got) ∙ map-append (λ y. (y.0, spelled y.1)) (take i items) (x ∷ [])

-- so far it is a beginning of all
pub spelled_begins : (items : List (To × Message)) (i : ℕ) → spelled_of (take i items) ≡ take i (spelled_of items)
spelled_begins items i = sym (take-map (λ y. (y.0, spelled y.1)) i items)
