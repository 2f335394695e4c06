use Rattle.std.proofs.Common.{Some, cond, string_bytes, ap, ◌∙◌}
use Rattle.shared_map.specs.Searches.{text_search}
use Rattle.content.specs.View.{at_name}
use Rattle.content.proofs.Names.{on_ok, by_bytes, same_bytes}
use Rattle.content.proofs.maps.put.Goals as goal

pub returns-clause-ok : goal.returns-clause-ok
returns-clause-ok g c =
    on_ok c.put.result
    (λ finds n. finds (by_bytes n) (text_search n) ∙ ap (λ b. cond b (Some c.args.value) (at_name n c.args.map.now)) (same_bytes n (string_bytes c.args.name))) c.put.ensures.finds
