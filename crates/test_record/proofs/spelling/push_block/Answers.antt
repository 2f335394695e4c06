use Rattle.std.proofs.Common.{◌≡◌, ℕ, ◌+◌, List, ◌∷◌, ◌++◌, length, sym, ◌∙◌, ap, arith, append_assoc}
use Rattle.std.proofs.lemmas.Grind.{common_steps}
use Rattle.byteorder.specs.Endian.{big_bytes}
use Rattle.site_ids.specs.Ids.{BallotOf}
use Rattle.site_ids.specs.Spelling.{ballot_bytes}
use Rattle.durable.specs.Entries.{Voted, Learned}
use Rattle.durable.specs.Spelling.{block, payload}
use Rattle.test_record.specs.declared.entry.Entry.{Entry}
use Rattle.test_record.specs.Meaning.{meaning}
use Rattle.test_record.proofs.spelling.push_block.Goals as goal

pub returns-in-Promised : goal.returns-in-Promised
returns-in-Promised c =
    let spelled : c.front.result ≡ block (meaning c.args.entry.now) = c.front.ensures ∙ ap (λ (e : Entry). block (meaning e)) (sym c.in-Promised.is) in
    grind (arith, common_steps)

vote_spelled : (i : ℕ) (b : BallotOf) (v : List ℕ) (size : ℕ) → size ≡ length v + 10 → (1 ∷ big_bytes 4 size ++ 3 ∷ big_bytes 4 i ++ ballot_bytes b) ++ v ≡ block (Voted i b v)
vote_spelled i b v size is =
    let long : size ≡ length (payload (Voted i b v)) = omega arith in
    ap (λ (n : ℕ). 1 ∷ big_bytes 4 n ++ payload (Voted i b v)) long

pub returns-in_ok-extend_from_slice-in-Voted : goal.returns-in_ok-extend_from_slice-in-Voted
returns-in_ok-extend_from_slice-in-Voted c =
    let value = c.as_bytes-value.result.now in
    let vote = c.in-Voted.vote in
    let spelled : c.front-in-Voted.result ++ value ≡ block (meaning c.args.entry.now)
    = ap (λ (l : List ℕ). l ++ value) c.front-in-Voted.ensures ∙ ap (λ (v : List ℕ). (1 ∷ big_bytes 4 (length value + 10) ++ 3 ∷ big_bytes 4 c.in-Voted.instance ++ ballot_bytes vote.ballot) ++ v) c.as_bytes-value.ensures
    ∙ vote_spelled c.in-Voted.instance vote.ballot vote.value (length value + 10) (omega (arith, ap length c.as_bytes-value.ensures)) ∙ ap (λ (e : Entry). block (meaning e)) (sym c.in-Voted.is) in
    grind (arith, common_steps, append_assoc)

learned_spelled : (i : ℕ) (v : List ℕ) (size : ℕ) → size ≡ length v + 5 → (1 ∷ big_bytes 4 size ++ 6 ∷ big_bytes 4 i) ++ v ≡ block (Learned i v)
learned_spelled i v size is =
    let long : size ≡ length (payload (Learned i v)) = omega arith in
    ap (λ (n : ℕ). 1 ∷ big_bytes 4 n ++ payload (Learned i v)) long

pub returns-in_ok-extend_from_slice-in-Learned : goal.returns-in_ok-extend_from_slice-in-Learned
returns-in_ok-extend_from_slice-in-Learned c =
    let value = c.as_bytes-value-in-Learned.result.now in
    let i = c.in-Learned.instance in
    let spelled : c.learned_front.result ++ value ≡ block (meaning c.args.entry.now)
    = ap (λ (l : List ℕ). l ++ value) c.learned_front.ensures ∙ ap (λ (v : List ℕ). (1 ∷ big_bytes 4 (length value + 5) ++ 6 ∷ big_bytes 4 i) ++ v) c.as_bytes-value-in-Learned.ensures
    ∙ learned_spelled i c.in-Learned.value (length value + 5) (omega (arith, ap length c.as_bytes-value-in-Learned.ensures)) ∙ ap (λ (e : Entry). block (meaning e)) (sym c.in-Learned.is) in
    grind (arith, common_steps, append_assoc)
