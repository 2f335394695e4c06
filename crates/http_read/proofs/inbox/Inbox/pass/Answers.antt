use Rattle.std.proofs.Common.{rules, sym, ap, ◌∙◌, drop}
use Rattle.std.proofs.lemmas.List.{places}
use Rattle.http_read.proofs.Held.{drop-slice_range}
use Rattle.http_read.proofs.inbox.Inbox.pass.Goals as goal

pub returns : goal.returns
returns c =
    let b = c.self.inside in
    sym (drop-slice_range b.buffer.items b.start b.end c.args.n (search (rules, places))) ∙ ap (drop c.args.n) c.self.view_is
