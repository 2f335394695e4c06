use Rattle.std.proofs.Common.{ℕ, List, length, get_or, ◌∙◌, ap, arith}
use Rattle.std.proofs.lemmas.List.{take_at}
use Rattle.site_disk.proofs.Ranges.{agree_grown}
use Rattle.site_disk.proofs.sync.catch_up.Goals as goal

pub returns-then-len-bytes-clause-items : goal.returns-then-len-bytes-clause-items
returns-then-len-bytes-clause-items c = λ d none short room agree.
    let grown = c.deref_mut.ensures.value ∙ c.grow.ensures.items short room in
    let same = c.copy_unsynced.ensures d none (λ place lt out. ap (λ (l : List ℕ). get_or l place 0) grown ∙ agree_grown c.args.kept.now.items c.args.bytes.now place lt (λ here. agree place here out)) in
    take_at c.copy_unsynced.new.to _ c.grow.new.kept.len (omega (arith, ap length same, c.if-len-bytes.true, c.len.ensures)) ∙ same
