use Rattle.editor_import.proofs.SortLemmas.{takes}
use Rattle.editor_import.proofs.imported.Gathering.add.Goals as goal

pub returns : goal.returns
returns c =
    takes c.args.self.now.candidates.items c.args.self.now.left_out.items c.args.file.now (record { file = c.in_ok-file.file; page = c.args.page; leads = c.in_ok-leads.leads }) c.push.new.self.items
    c.in_ok-push.ensures.items c.in_ok-file.ensures.cases c.requires.html c.requires.page
