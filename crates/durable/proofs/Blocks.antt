-- The block of an entry, put together from its length and its payload.
use Rattle.std.proofs.Common.{◌≡◌, ℕ, suc, ◌+◌, ◌-◌, ◌*◌, ◌/◌, ◌%◌, ◌<◌, ◌≤◌, List, [], ◌∷◌, ◌++◌, length, get_or, take, drop, sym, ◌∙◌, ap, arith}
use Rattle.std.proofs.Math.Seq.{take-length}
use Rattle.byteorder.specs.Endian.{big_bytes}

highest : (a b c d : ℕ) → a < 256 → b < 256 → c < 256 → d < 256 → (a * 16777216 + b * 65536 + c * 256 + d) / 16777216 % 256 ≡ a
highest a b c d la lb lc ld = omega arith

second : (a b c d : ℕ) → a < 256 → b < 256 → c < 256 → d < 256 → (a * 16777216 + b * 65536 + c * 256 + d) / 65536 % 256 ≡ b
second a b c d la lb lc ld = omega arith

third : (a b c d : ℕ) → a < 256 → b < 256 → c < 256 → d < 256 → (a * 16777216 + b * 65536 + c * 256 + d) / 256 % 256 ≡ c
third a b c d la lb lc ld = omega arith

lowest : (a b c d : ℕ) → a < 256 → b < 256 → c < 256 → d < 256 → (a * 16777216 + b * 65536 + c * 256 + d) % 256 ≡ d
lowest a b c d la lb lc ld = omega arith

-- four bytes are those of their number
four_back : (a b c d : ℕ) → a < 256 → b < 256 → c < 256 → d < 256 → big_bytes 4 (a * 16777216 + b * 65536 + c * 256 + d) ≡ a ∷ b ∷ c ∷ d ∷ []
four_back a b c d la lb lc ld = λ i. highest a b c d la lb lc ld i ∷ second a b c d la lb lc ld i ∷ third a b c d la lb lc ld i ∷ lowest a b c d la lb lc ld i ∷ []

all_of : (n : ℕ) (rest : List ℕ) → n ≡ length rest → take n rest ≡ rest
all_of n rest is = ap (λ (k : ℕ). take k rest) is ∙ take-length rest

-- an open gate, a length and as many bytes
pub block_front : (bytes payload : List ℕ) (size : ℕ) → 5 ≤ length bytes → ((k : ℕ) → get_or bytes k 0 < 256) → get_or bytes 0 0 ≡ 1
    → size ≡ get_or bytes 1 0 * 16777216 + get_or bytes 2 0 * 65536 + get_or bytes 3 0 * 256 + get_or bytes 4 0 → size ≡ length payload
    → take size (take (length bytes - 5) (drop 5 bytes)) ≡ payload → take (size + 5) bytes ≡ 1 ∷ big_bytes 4 (length payload) ++ payload
block_front [] payload size long small one number is spelled = absurd (omega (arith, long))
block_front (g ∷ []) payload size long small one number is spelled = absurd (omega (arith, long))
block_front (g ∷ a ∷ []) payload size long small one number is spelled = absurd (omega (arith, long))
block_front (g ∷ a ∷ b ∷ []) payload size long small one number is spelled = absurd (omega (arith, long))
block_front (g ∷ a ∷ b ∷ c ∷ []) payload size long small one number is spelled = absurd (omega (arith, long))
block_front (g ∷ a ∷ b ∷ c ∷ d ∷ rest) payload size long small one number is spelled =
    let five : size + 5 ≡ suc (suc (suc (suc (suc size)))) = omega arith in
    let behind : take size rest ≡ payload = ap (λ (l : List ℕ). take size l) (sym (all_of (length (g ∷ a ∷ b ∷ c ∷ d ∷ rest) - 5) rest (omega arith))) ∙ spelled in
    let four : a ∷ b ∷ c ∷ d ∷ [] ≡ big_bytes 4 (length payload) = sym (four_back a b c d (small 1) (small 2) (small 3) (small 4)) ∙ ap (λ (n : ℕ). big_bytes 4 n) (sym number ∙ is) in
    ap (λ (k : ℕ). take k (g ∷ a ∷ b ∷ c ∷ d ∷ rest)) five ∙ (λ i. one i ∷ (four i ++ behind i))
