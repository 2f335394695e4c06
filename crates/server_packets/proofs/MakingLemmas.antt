-- A datagram more in a packet that is made.
use Rattle.std.proofs.Common.{◌≡◌, inl, inr, ℕ, ◌+◌, ◌≤◌, List, [], ◌∷◌, ◌++◌, length, drop, refl, sym, ap, ◌∙◌, arith, append_assoc, append-nil}
use Rattle.std.proofs.lemmas.List.{length-append}
use Rattle.byteorder.specs.Endian.{big_bytes}
use Rattle.server_packets.specs.Packets.{framed, framed_all}
use Rattle.server_packets.specs.Making.{HasRoom, IsMadeOf}
use Rattle.server_packets.specs.declared.TheConstants.{MARK, MAX_PACKET}

-- one more comes after the others
framed_more : (ds : List (List ℕ)) (d : List ℕ) → framed_all (ds ++ d ∷ []) ≡ framed_all ds ++ framed d
framed_more [] d = append-nil (framed d)
framed_more (e ∷ ds) d = ap (λ x. framed e ++ x) (framed_more ds d) ∙ sym (append_assoc (framed e) (framed_all ds) (framed d))

-- of what is one datagram, nothing is before it
is_alone : (ds : List (List ℕ)) (d e : List ℕ) → ds ++ d ∷ [] ≡ e ∷ [] → (ds ≡ []) × (d ≡ e)
is_alone [] d e same = (refl, ap head_of same)
  where
    head_of : List (List ℕ) → List ℕ
    head_of [] = []
    head_of (x ∷ xs) = x
is_alone (x ∷ ds) d e same = absurd (let l = ap length same in let m = length-append ds (d ∷ []) in omega arith)

none_framed : (frames : List ℕ) (ds : List (List ℕ)) → ds ≡ [] → length frames ≡ length (framed_all ds) → frames ≡ []
none_framed [] ds none sized = refl
none_framed (x ∷ frames) ds none sized = absurd (let n = ap (λ x. length (framed_all x)) none in omega arith)

behind_four : (len d : List ℕ) → length len ≡ 4 → drop 4 (len ++ d) ≡ d
behind_four (a ∷ b ∷ c ∷ e ∷ []) d four = refl
behind_four [] d four = absurd (omega arith)
behind_four (a ∷ []) d four = absurd (omega arith)
behind_four (a ∷ b ∷ []) d four = absurd (omega arith)
behind_four (a ∷ b ∷ c ∷ []) d four = absurd (omega arith)
behind_four (a ∷ b ∷ c ∷ e ∷ f ∷ xs) d four = absurd (omega arith)

-- no more than may stand in a packet: there is room, and not for the first alone
pub fits : (ds : List (List ℕ)) (len : ℕ) → 1 ≤ length ds → HasRoom ds len → length (framed_all ds) + 5 + len ≤ MAX_PACKET
fits ds len some (inl none) = absurd (let n = ap length none in omega arith)
fits ds len some (inr room) = room

pub one_more : (bytes : List ℕ) (count : ℕ) (ds : List (List ℕ)) (len d : List ℕ)
    → IsMadeOf bytes count ds → HasRoom ds (length d) → length len ≡ 4 → (length d ≤ MAX_PACKET → len ≡ big_bytes 4 (length d))
    → IsMadeOf ((bytes ++ len) ++ d) (count + 1) (ds ++ d ∷ [])
one_more bytes count ds len d m room four is_len =
    let new = m.frames ++ (len ++ d) in
    let marked : (bytes ++ len) ++ d ≡ MARK ∷ new = append_assoc bytes len d ∙ ap (λ x. x ++ (len ++ d)) m.marked in
    let l1 = length-append bytes len in
    let l2 = length-append (bytes ++ len) d in
    let l3 = length-append m.frames (len ++ d) in
    let l4 = length-append len d in
    let l5 = ap length (framed_more ds d) in
    let l6 = length-append (framed_all ds) (framed d) in
    let l7 = ap length m.marked in
    let l8 = length-append ds (d ∷ []) in
    record {
      counted = omega (arith, m.counted);
      frames = new;
      marked = marked;
      sized = omega (arith, m.sized);
      framed = λ short. (λ i. m.framed (omega arith) i ++ (is_len (omega arith) i ++ d)) ∙ sym (framed_more ds d);
      several = λ two. let f = fits ds (length d) (omega (arith, m.counted)) room in omega (arith, m.sized);
      alone = λ e same. let w = is_alone ds d e same in
          (λ i. drop 4 (none_framed m.frames ds w.0 m.sized i ++ (len ++ d))) ∙ behind_four len d four ∙ w.1;
    }
