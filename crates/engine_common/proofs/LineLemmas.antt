-- The words of a schedule's line, from its bytes.
use Rattle.std.proofs.Common.{◌≡◌, ◌≢◌, ℕ, suc, ◌<◌, ◌^◌, ◌+◌, List, [], ◌∷◌, ◌++◌, take, drop, length, true, false, decimal, Option, Some, None, Bor, MatchOption, is_some, Result, Ok, Err, refl, sym, ap, ap₂, ◌∙◌, arith, take-append-drop, nat_eq}
use Rattle.std.specs.Cmp.Lexicographic.{pointwise}
use Rattle.std.proofs.lemmas.List.{append_cancel_left}
use Rattle.std.proofs.lemmas.Slice.Eq.{bytes_eq-Decides}
use Rattle.std.proofs.Math.Seq.{take-append_seam}
use Rattle.std.specs.Result.{OkIff, result_ok}
use Rattle.site_ids.specs.declared.Ticket.{Ticket}
use Rattle.engine_common.specs.Cuts.{Lacks, IsCut}
use Rattle.engine_common.specs.Submissions.{numbers, joined, FitsSubmission}
use Rattle.engine_common.proofs.CutLemmas.{Same, no_cut, one_cut}
use Rattle.engine_common.proofs.CutLemmas.{lacks-decimal}

-- ---- fronts

strips_front-some : (p xs rest : List ℕ) → pointwise nat_eq (take (length p) xs) p ≡ true → rest ≡ drop (length p) xs → xs ≡ p ++ rest
strips_front-some p xs rest same is =
    let front : take (length p) xs ≡ p = (bytes_eq-Decides (take (length p) xs) p).0 same in
    sym (take-append-drop (length p) xs) ∙ ap₂ (λ a b. a ++ b) front (sym is)

strips_front-none : (p xs rest : List ℕ) → pointwise nat_eq (take (length p) xs) p ≡ false → xs ≡ p ++ rest → ⊥
strips_front-none p xs rest other is =
    let front : take (length p) xs ≡ p = ap (take (length p)) is ∙ take-append_seam p rest in
    let same : pointwise nat_eq (take (length p) xs) p ≡ true = (bytes_eq-Decides (take (length p) xs) p).1 front in
    cc

pub strips_front : (p xs : List ℕ) (r : Option (Bor (List ℕ)))
    → MatchOption r (pointwise nat_eq (take (length p) xs) p ≡ false) (λ x. (pointwise nat_eq (take (length p) xs) p ≡ true) × (x.now ≡ drop (length p) xs) × (length x.now + length p ≡ length xs))
    → MatchOption r ((rest : List ℕ) → xs ≢ p ++ rest) (λ x. xs ≡ p ++ x.now)
strips_front p xs None other = λ rest is. strips_front-none p xs rest other is
strips_front p xs (Some x) found = strips_front-some p xs x.now found.0 found.1

-- what follows the same front is the same
pub behind : (front bytes rest later : List ℕ) → bytes ≡ front ++ rest → bytes ≡ front ++ later → rest ≡ later
behind front bytes rest later a b = append_cancel_left front rest later (sym a ∙ b)

-- ---- numbers

-- a number that fits is itself
pub fitted : {E : Type 0} (r : Result ℕ E) (P : Type 0) (v x : ℕ) → OkIff r P v → Some x ≡ result_ok r → x ≡ v
fitted (Ok y) P v x h is = let same : x ≡ y = cc in same ∙ h.1
fitted (Err e) P v x h is = cc

pub number_cut : (n : ℕ) (later : List ℕ) → n < 2 ^ 64 → IsCut 32 (decimal n ++ (32 ∷ later)) (decimal n) later
number_cut n later small = record { whole = refl; first = lacks-decimal 32 n (omega arith) small }

-- a number and a space are cut at the space
pub no_number_cut : (bytes : List ℕ) (n : ℕ) (later : List ℕ) → Lacks 32 bytes → n < 2 ^ 64 → bytes ≡ decimal n ++ (32 ∷ later) → ⊥
no_number_cut bytes n later none small is = no_cut 32 bytes (decimal n) later none (rw is (number_cut n later small))

pub one_number_cut : (bytes word back : List ℕ) (n : ℕ) (later : List ℕ) → IsCut 32 bytes word back → n < 2 ^ 64 → bytes ≡ decimal n ++ (32 ∷ later) → Same word back (decimal n) later
one_number_cut bytes word back n later cut small is = one_cut 32 bytes word back (decimal n) later cut (rw is (number_cut n later small))

-- a word after a front, where a number stands there
pub one_word : (front head word rest : List ℕ) (n : ℕ) (later : List ℕ) → Lacks 32 word → head ≡ front ++ (word ++ (32 ∷ rest)) → n < 2 ^ 64 → head ≡ front ++ (decimal n ++ (32 ∷ later)) → Same word rest (decimal n) later
one_word front head word rest n later none a small b = one_number_cut (word ++ (32 ∷ rest)) word rest n later (record { whole = refl; first = none }) small (behind front head _ _ a b)

pub no_word_behind : (front head : List ℕ) (n : ℕ) (later : List ℕ) → ((word rest : List ℕ) → Lacks 32 word → head ≢ front ++ (word ++ (32 ∷ rest))) → n < 2 ^ 64 → head ≢ front ++ (decimal n ++ (32 ∷ later))
no_word_behind front head n later none small is = none (decimal n) later (lacks-decimal 32 n (omega arith) small) is

-- ---- paths

pub holds_space : (xs : List ℕ) (r : Option (Bor (List ℕ) × Bor (List ℕ))) → MatchOption r (Lacks 32 xs) (λ p. IsCut 32 xs p.0.now p.1.now) → is_some r ≡ true → Lacks 32 xs → ⊥
holds_space xs None h e none = cc
holds_space xs (Some p) h e none = no_cut 32 xs p.0.now p.1.now none h

pub lacks_space : (xs : List ℕ) (r : Option (Bor (List ℕ) × Bor (List ℕ))) → MatchOption r (Lacks 32 xs) (λ p. IsCut 32 xs p.0.now p.1.now) → is_some r ≡ false → Lacks 32 xs
lacks_space xs None h e = h
lacks_space xs (Some p) h e = cc

lacks-tail : (b x : ℕ) (xs : List ℕ) → Lacks b (x ∷ xs) → Lacks b xs
lacks-tail b x xs h i l = h (suc i) (omega arith)

pub lacks-back : (b : ℕ) (xs ys : List ℕ) → Lacks b (xs ++ ys) → Lacks b ys
lacks-back b [] ys h = h
lacks-back b (x ∷ xs) ys h = lacks-back b xs ys (lacks-tail b x (xs ++ ys) h)

-- what follows a word of a line without a newline has none
pub lacks-target : (front head word rest : List ℕ) → Lacks 10 head → head ≡ front ++ (word ++ (32 ∷ rest)) → Lacks 10 rest
lacks-target front head word rest h is = lacks-tail 10 32 rest (lacks-back 10 word (32 ∷ rest) (lacks-back 10 front _ (rw is at h)))

-- nor has what follows two words of it
pub lacks-path : (front head word number path : List ℕ) → Lacks 10 head → head ≡ front ++ (word ++ (32 ∷ (number ++ (32 ∷ path)))) → Lacks 10 path
lacks-path front head word number path h is = lacks-tail 10 32 path (lacks-back 10 number (32 ∷ path) (lacks-target front head word (number ++ (32 ∷ path)) h is))

-- ---- submissions

-- what follows a submission's node
pub record SameWords (word rest : List ℕ) (p : ℕ) (ticket : Ticket) (len : ℕ) : Type 0 where
  pub node_is : word ≡ decimal p
  pub later : rest ≡ decimal ticket.editor ++ (32 ∷ (decimal ticket.number ++ (32 ∷ decimal len)))

pub behind_node : (front head word rest : List ℕ) (p : ℕ) (ticket : Ticket) (len : ℕ) → Lacks 32 word → FitsSubmission p ticket len → head ≡ front ++ (word ++ (32 ∷ rest)) → head ≡ front ++ joined (numbers p ticket len) → SameWords word rest p ticket len
behind_node front head word rest p ticket len none fits a b =
    let same = one_word front head word rest p _ none a (omega arith) b in record { node_is = same.front; later = same.back }

-- what follows its editor
pub record SameEditor (word editor back : List ℕ) (p : ℕ) (ticket : Ticket) (len : ℕ) : Type 0 where
  pub node_is : word ≡ decimal p
  pub editor_is : editor ≡ decimal ticket.editor
  pub later : back ≡ decimal ticket.number ++ (32 ∷ decimal len)

pub behind_editor : (front head word rest editor back : List ℕ) (p : ℕ) (ticket : Ticket) (len : ℕ) → Lacks 32 word → FitsSubmission p ticket len → head ≡ front ++ (word ++ (32 ∷ rest)) → head ≡ front ++ joined (numbers p ticket len)
    → IsCut 32 rest editor back → SameEditor word editor back p ticket len
behind_editor front head word rest editor back p ticket len none fits a b cut =
    let n = behind_node front head word rest p ticket len none fits a b in
    let same = one_number_cut rest editor back ticket.editor _ cut (omega arith) n.later in
    record { node_is = n.node_is; editor_is = same.front; later = same.back }

-- all its words
pub record SameSubmission (word editor number length_word : List ℕ) (p : ℕ) (ticket : Ticket) (len : ℕ) : Type 0 where
  pub node_is : word ≡ decimal p
  pub editor_is : editor ≡ decimal ticket.editor
  pub number_is : number ≡ decimal ticket.number
  pub length_is : length_word ≡ decimal len

pub same_submission : (front head word rest editor back number length_word : List ℕ) (p : ℕ) (ticket : Ticket) (len : ℕ) → Lacks 32 word → FitsSubmission p ticket len → head ≡ front ++ (word ++ (32 ∷ rest)) → head ≡ front ++ joined (numbers p ticket len)
    → IsCut 32 rest editor back → IsCut 32 back number length_word → SameSubmission word editor number length_word p ticket len
same_submission front head word rest editor back number length_word p ticket len none fits a b first second =
    let e = behind_editor front head word rest editor back p ticket len none fits a b first in
    let same = one_number_cut back number length_word ticket.number _ second (omega arith) e.later in
    record { node_is = e.node_is; editor_is = e.editor_is; number_is = same.front; length_is = same.back }
