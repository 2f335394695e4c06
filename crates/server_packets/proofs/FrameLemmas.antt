-- Frames: a length, a datagram, and what follows.
use Rattle.std.proofs.Common.{◌≡◌, ℕ, ◌+◌, ◌<◌, ◌^◌, List, [], ◌∷◌, ◌++◌, length, take, drop, refl, sym, ap, ◌∙◌, arith}
use Rattle.std.proofs.Math.Seq.{take-append_seam, drop-append_seam}
use Rattle.std.proofs.lemmas.List.{length-append}
use Rattle.byteorder.specs.Endian.{big_bytes, big_number}
use Rattle.byteorder.specs.Numbers.{big_number-reads_back}
use Rattle.server_packets.specs.Packets.{framed, framed_all}

-- one number is in front
front_is_one : (a b : ℕ) (x y : List ℕ) → a < 2 ^ 32 → b < 2 ^ 32 → big_bytes 4 a ++ x ≡ big_bytes 4 b ++ y → a ≡ b
front_is_one a b x y la lb e = sym (big_number-reads_back 4 a x la) ∙ ap (big_number 4) e ∙ big_number-reads_back 4 b y lb

-- so one datagram does, whose length it is
part_is_one : (d e x y : List ℕ) → length d ≡ length e → d ++ x ≡ e ++ y → d ≡ e
part_is_one d e x y l same = sym (take-append_seam d x) ∙ (λ i. take (l i) (same i)) ∙ take-append_seam e y

rest_is_one : (d e x y : List ℕ) → length d ≡ length e → d ++ x ≡ e ++ y → x ≡ y
rest_is_one d e x y l same = sym (drop-append_seam d x) ∙ (λ i. drop (l i) (same i)) ∙ drop-append_seam e y

pub first_is_one : (d e x y : List ℕ) → length d < 2 ^ 32 → length e < 2 ^ 32 → framed d ++ x ≡ framed e ++ y → (d ≡ e) × (x ≡ y)
first_is_one d e x y ld le same =
    let l = front_is_one (length d) (length e) (d ++ x) (e ++ y) ld le same in
    let behind : d ++ x ≡ e ++ y = ap (drop 4) same in
    (part_is_one d e x y l behind, rest_is_one d e x y l behind)

-- a datagram is shorter than frames that begin with it
pub first_is_shorter : (d x : List ℕ) → length d + 4 + length x ≡ length (framed d ++ x)
first_is_shorter d x = let more = length-append d x in omega arith

pub list_is_one : (ds es : List (List ℕ)) → length (framed_all ds) < 2 ^ 32 → framed_all ds ≡ framed_all es → ds ≡ es
list_is_one [] [] short same = refl
list_is_one [] (e ∷ es) short same = absurd (let l = ap length same in let m = first_is_shorter e (framed_all es) in omega arith)
list_is_one (d ∷ ds) [] short same = absurd (let l = ap length same in let m = first_is_shorter d (framed_all ds) in omega arith)
list_is_one (d ∷ ds) (e ∷ es) short same =
    let l = ap length same in
    let m = first_is_shorter d (framed_all ds) in
    let n = first_is_shorter e (framed_all es) in
    let one = first_is_one d e (framed_all ds) (framed_all es) (omega arith) (omega arith) same in
    let more = list_is_one ds es (omega arith) one.1 in
    λ i. one.0 i ∷ more i

-- frames that begin with a datagram are it and what follows
pub frames_behind : (d rest : List ℕ) (ds : List (List ℕ)) → length (framed d ++ rest) < 2 ^ 32 → framed d ++ rest ≡ framed_all ds → (es : List (List ℕ)) × (ds ≡ d ∷ es) × (rest ≡ framed_all es)
frames_behind d rest [] short same = absurd (let l = ap length same in let m = first_is_shorter d rest in omega arith)
frames_behind d rest (e ∷ es) short same =
    let m = first_is_shorter d rest in
    let l = ap length same in
    let n = first_is_shorter e (framed_all es) in
    let one = first_is_one d e rest (framed_all es) (omega arith) (omega arith) same in
    (es, ap (λ x. x ∷ es) (sym one.0), one.1)

-- what begins with no datagram is frames of none
pub none_left : (rest : List ℕ) (ds : List (List ℕ)) → ((d behind : List ℕ) → length d < 2 ^ 32 → rest ≡ framed d ++ behind → ⊥) → length rest < 2 ^ 32 → rest ≡ framed_all ds → ds ≡ []
none_left rest [] none short same = refl
none_left rest (d ∷ ds) none short same = absurd (let l = ap length same in let m = first_is_shorter d (framed_all ds) in none d (framed_all ds) (omega arith) same)
