use Rattle.std.proofs.Common.{◌≡◌, true}
use Rattle.serde_json.specs.View.{view}
use Rattle.context.proofs.Reading.{read_value, read_none, converted_ok, converted_err}
use Rattle.context.proofs.tree.Data.from_json.Goals as goal

pub returns-in-Ok-clause-ok : goal.returns-in-Ok-clause-ok
returns-in-Ok-clause-ok c = converted_ok _ _ (view c.in-Ok.value) (read_value _ _ c.in-Ok.ensures.ok.0 c.in-Ok.ensures.ok.1) c.data_of.ensures

pub returns-in-Ok-clause-err : goal.returns-in-Ok-clause-err
returns-in-Ok-clause-err c = converted_err _ _ (view c.in-Ok.value) (read_value _ _ c.in-Ok.ensures.ok.0 c.in-Ok.ensures.ok.1) c.data_of.ensures

pub returns-else-is_memory-clause-err : goal.returns-else-is_memory-clause-err
returns-else-is_memory-clause-err c other =
    read_none _ (c.in-Err.ensures.err (λ is. let memory : c.is_memory.result ≡ true = c.is_memory.ensures.1 is in cc))
