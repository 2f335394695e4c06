use Rattle.editor_import.proofs.SortLemmas.{leaves}
use Rattle.editor_import.proofs.imported.Gathering.leave_out.Goals as goal

pub returns : goal.returns
returns c =
    leaves c.args.self.now.candidates.items c.args.self.now.left_out.items c.args.file.now (record { file = c.in_ok-file.file; why = c.args.why }) c.push.new.self.items
    c.in_ok-push.ensures.items c.in_ok-file.ensures.cases c.requires
