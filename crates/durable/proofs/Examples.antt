-- Records of files, computed from the definitions.
use Rattle.std.proofs.Common.{◌≡◌, ◌≢◌, ℕ, List, [], ◌∷◌, ◌++◌, Option, Some, None, ⊎_elim, length, refl, sym, ap, subst, arith, codes}
use Rattle.site_ids.specs.Ids.{BallotOf}
use Rattle.site_ids.specs.declared.value.Vote.{Vote}
use Rattle.durable.specs.Entries.{Entry, Round, Promised, Voted, Learned, Floor, last_round, last_vote, learned_at, floor_of, reach_of, Raises}
use Rattle.durable.specs.Histories.{IsHistory}
use Rattle.durable.specs.Items.{Batch, puts, item_blocks, sum_of}
use Rattle.durable.specs.Spelling.{head, blocks}
use Rattle.durable.specs.Standing.{StandsFor}
use Rattle.md5.specs.Md5.{block_words, rounds, compress, hash_after, digest_bytes, md5}
use Rattle.durable.proofs.Logs.{entries-puts, whole-puts}
use Rattle.durable.proofs.Push.{history-none, history-push}

abbrev at : ℕ → ℕ → BallotOf
at round node = record { round = round; node = node }

-- a file without sums
plain : (file : List ℕ) (entries : List Entry) (gate : ℕ) (rest : List ℕ) → IsHistory 3 entries → gate ≢ 1 → file ≡ head 2 3 ++ item_blocks (puts entries) ++ gate ∷ rest → StandsFor 2 3 file entries
plain file entries gate rest history closed layout = record {
  items = puts entries;
  laid = record {
    log = record { whole = whole-puts entries; history = subst (λ (l : List Entry). IsHistory 3 l) (sym (entries-puts entries)) history };
    gate = gate;
    rest = rest;
    closed = closed;
    layout = layout;
  };
  same = entries-puts entries;
}

-- node 2 of 3 has promised ballot (1, 1) at instance 1
abbrev promise_record : ℕ → List ℕ
promise_record gate = 83 ∷ 73 ∷ 84 ∷ 69 ∷ 82 ∷ 69 ∷ 67 ∷ 49 ∷ 2 ∷ 3 ∷ gate ∷ 0 ∷ 0 ∷ 0 ∷ 10 ∷ 2 ∷ 0 ∷ 0 ∷ 0 ∷ 1 ∷ 0 ∷ 0 ∷ 0 ∷ 1 ∷ 1 ∷ 0 ∷ []

promised : IsHistory 3 (Promised 1 (at 1 1) ∷ [])
promised = history-push 3 [] (Promised 1 (at 1 1)) (history-none 3) (record { in_range = ((omega arith, omega arith), (omega arith, omega arith, (omega arith, omega arith))); advances = λ e c here raises. absurd here })

promise_stands : StandsFor 2 3 (promise_record 1) (Promised 1 (at 1 1) ∷ [])
promise_stands = plain _ (Promised 1 (at 1 1) ∷ []) 0 ([]) promised (λ one. omega (arith, one)) refl

-- a gate that isn't open ends the list
closed_stands : StandsFor 2 3 (promise_record 7) []
closed_stands = plain _ ([]) 7 (0 ∷ 0 ∷ 0 ∷ 10 ∷ 2 ∷ 0 ∷ 0 ∷ 0 ∷ 1 ∷ 0 ∷ 0 ∷ 0 ∷ 1 ∷ 1 ∷ 0 ∷ []) (history-none 3) (λ one. omega (arith, one)) refl

-- the sum of that promise
abbrev its_sum : List ℕ
its_sum = 37 ∷ 113 ∷ 81 ∷ 172 ∷ 60 ∷ 210 ∷ 217 ∷ 122 ∷ []

promise_is_summed : sum_of (blocks (Promised 1 (at 1 1) ∷ [])) ≡ its_sum
unfolding block_words rounds compress hash_after digest_bytes md5
promise_is_summed = refl

-- a batch of it alone, after its sum
summed_record : head 2 3 ++ item_blocks (Batch (Promised 1 (at 1 1) ∷ []) ∷ []) ++ 0 ∷ []
    ≡ codes "SITEREC1" ++ 2 ∷ 3 ∷ 1 ∷ 0 ∷ 0 ∷ 0 ∷ 13 ∷ 24 ∷ 0 ∷ 0 ∷ 0 ∷ 15 ∷ its_sum ++ 1 ∷ 0 ∷ 0 ∷ 0 ∷ 10 ∷ 2 ∷ 0 ∷ 0 ∷ 0 ∷ 1 ∷ 0 ∷ 0 ∷ 0 ∷ 1 ∷ 1 ∷ 0 ∷ []
unfolding block_words rounds compress hash_after digest_bytes md5
summed_record = refl

-- a file with a sum stands for the entries alone
summed_stands : StandsFor 2 3 (head 2 3 ++ item_blocks (Batch (Promised 1 (at 1 1) ∷ []) ∷ []) ++ 0 ∷ []) (Promised 1 (at 1 1) ∷ [])
summed_stands = record {
  items = Batch (Promised 1 (at 1 1) ∷ []) ∷ [];
  laid = record {
    log = record { whole = (((λ none. omega (arith, ap length none)), omega arith), tt); history = promised };
    gate = 0;
    rest = [];
    closed = λ one. omega (arith, one);
    layout = refl;
  };
  same = refl;
}

-- a round after the head takes eleven bytes, the next gate among them
round_record : head 2 3 ++ blocks (Round 1 ∷ []) ++ 0 ∷ [] ≡ codes "SITEREC1" ++ 2 ∷ 3 ∷ 1 ∷ 0 ∷ 0 ∷ 0 ∷ 5 ∷ 1 ∷ 0 ∷ 0 ∷ 0 ∷ 1 ∷ 0 ∷ []
round_record = refl

-- node 2 of 3 learned a byte at instance 1
abbrev learned_record : List ℕ
learned_record = 83 ∷ 73 ∷ 84 ∷ 69 ∷ 82 ∷ 69 ∷ 67 ∷ 49 ∷ 2 ∷ 3 ∷ 1 ∷ 0 ∷ 0 ∷ 0 ∷ 6 ∷ 6 ∷ 0 ∷ 0 ∷ 0 ∷ 1 ∷ 7 ∷ 0 ∷ []

learned : IsHistory 3 (Learned 1 (7 ∷ []) ∷ [])
learned = history-push 3 [] (Learned 1 (7 ∷ [])) (history-none 3) (record { in_range = ((omega arith, omega arith), omega arith); advances = refl })

learned_stands : StandsFor 2 3 learned_record (Learned 1 (7 ∷ []) ∷ [])
learned_stands = plain _ (Learned 1 (7 ∷ []) ∷ []) 0 ([]) learned (λ one. omega (arith, one)) refl

-- a vote for another value may follow it
voted_later : IsHistory 3 (Learned 1 (7 ∷ []) ∷ Voted 1 (at 1 1) (8 ∷ []) ∷ [])
voted_later = history-push 3 (Learned 1 (7 ∷ []) ∷ []) (Voted 1 (at 1 1) (8 ∷ [])) learned (record {
  in_range = ((omega arith, omega arith), (omega arith, omega arith, (omega arith, omega arith)), omega arith);
  advances = ((λ e c here raises. ⊎_elim (λ (same : Learned 1 (7 ∷ []) ≡ e). absurd (subst (λ (x : Entry). Raises x 1 c) (sym same) raises)) (λ none. absurd none) here), λ vote last. absurd (no_vote_yet vote last));
})
  where
    no_vote_yet : (vote : Vote) → ◌≡◌ {A = Option Vote} None (Some vote) → ⊥
    no_vote_yet vote e = cc

-- node 2 of 3 took the place of a lost one: its floor is 65
abbrev floor_record : List ℕ
floor_record = 83 ∷ 73 ∷ 84 ∷ 69 ∷ 82 ∷ 69 ∷ 67 ∷ 49 ∷ 2 ∷ 3 ∷ 1 ∷ 0 ∷ 0 ∷ 0 ∷ 5 ∷ 5 ∷ 0 ∷ 0 ∷ 0 ∷ 65 ∷ 0 ∷ []

floor_alone : IsHistory 3 (Floor 65 ∷ [])
floor_alone = history-push 3 [] (Floor 65) (history-none 3) (record { in_range = (omega arith, omega arith); advances = refl })

floor_stands : StandsFor 2 3 floor_record (Floor 65 ∷ [])
floor_stands = plain _ (Floor 65 ∷ []) 0 ([]) floor_alone (λ one. omega (arith, one)) refl

-- a floor after another entry is no floor, but damage
late_floor : ¬ IsHistory 3 (Round 1 ∷ Floor 65 ∷ [])
late_floor history = omega (arith, ap length (history (Round 1 ∷ []) (Floor 65) [] refl).advances)

-- a vote promises its ballot, and the last one counts; what is learned does neither
abbrev entries : List Entry
entries = Round 4 ∷ Promised 1 (at 1 1) ∷ Voted 1 (at 1 3) (7 ∷ []) ∷ Voted 2 (at 1 1) [] ∷ Voted 1 (at 2 1) (8 ∷ []) ∷ Learned 1 (9 ∷ []) ∷ Round 5 ∷ []

its_round : last_round entries ≡ 5
its_round = refl

its_vote : last_vote 1 entries ≡ Some (record { ballot = at 2 1; value = 8 ∷ [] })
its_vote = refl

no_vote : last_vote 3 entries ≡ None
no_vote = refl

its_value : learned_at 1 entries ≡ Some (9 ∷ [])
its_value = refl

no_value : learned_at 2 entries ≡ None
no_value = refl

its_reach : reach_of entries ≡ 2
its_reach = refl

no_floor : floor_of entries ≡ 0
no_floor = refl

-- a floor reaches to itself, a vote above it further; what is learned reaches nowhere
abbrev above : List Entry
above = Floor 65 ∷ Learned 70 (9 ∷ []) ∷ Voted 66 (at 1 1) (7 ∷ []) ∷ []

reach_above : reach_of above ≡ 66
reach_above = refl

floor_below : floor_of above ≡ 65
floor_below = refl
