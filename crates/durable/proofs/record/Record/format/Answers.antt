use Rattle.std.proofs.Common.{◌≡◌, ℕ, List, [], ◌∷◌, ◌++◌, length, drop, refl, ◌∙◌, ap, arith}
use Rattle.site_disk.specs.Model.{overwritten}
use Rattle.durable.specs.Spelling.{head}
use Rattle.durable.proofs.Logs.{log-none}
use Rattle.durable.proofs.record.Record.format.Goals as goal

empty_of : (xs : List ℕ) → length xs ≡ 0 → xs ≡ []
empty_of [] is = refl
empty_of (x ∷ xs) is = absurd (omega (arith, is))

pub returns-clause-formatted : goal.returns-clause-formatted
returns-clause-formatted g c = λ d stands.
    let empty = c.in_ok-len.ensures.state d stands in
    let written = c.in_ok-write_at.ensures.written d empty (omega arith) in
    let none : d.seen ≡ [] = empty_of d.seen (omega (arith, c.in_ok-len.ensures.len d stands)) in
    let bytes = c.empty_record.ensures in
    let front = head c.args.node c.args.cluster ++ 0 ∷ [] in (
      none,
      _,
      c.in_ok-sync.ensures.synced _ written,
      record { all_synced = refl; none_written = refl },
      ap (λ (l : List ℕ). overwritten d.seen 0 l) bytes ∙ ap (λ (l : List ℕ). front ++ drop 11 l) none,
      record {
        items = [];
        laid = record { log = log-none c.args.cluster; gate = 0; rest = drop 11 d.seen; closed = λ one. omega (arith, one); layout = ap (λ (l : List ℕ). overwritten d.seen 0 l) bytes };
        same = refl;
      },
    )
