use Rattle.std.proofs.Common.{◌≡◌, inl, inr, ℕ, List, length, sym, ap, ◌∙◌, drop, arith}
use Rattle.server_packets.specs.Packets.{Holds, IsPacketOf}
use Rattle.server_packets.proofs.FrameLemmas.{list_is_one}
use Rattle.server_packets.proofs.laws.packets_hold_one_list.Goals as goal

one_packet : (bytes : List ℕ) (ds es : List (List ℕ)) → IsPacketOf ds bytes → IsPacketOf es bytes → ds ≡ es
one_packet bytes ds es p q = let l = ap length p.is in list_is_one ds es (omega (arith, p.short)) (ap (drop 1) (sym p.is ∙ q.is))

one : (bytes : List ℕ) (ds es : List (List ℕ)) → Holds bytes ds → Holds bytes es → ds ≡ es
one bytes ds es (inl p) (inl q) = one_packet bytes ds es p q
one bytes ds es (inl p) (inr q) = absurd (q.0 (ds, p))
one bytes ds es (inr p) (inl q) = absurd (p.0 (es, q))
one bytes ds es (inr p) (inr q) = p.1 ∙ sym q.1

pub returns : goal.returns
returns c = one
