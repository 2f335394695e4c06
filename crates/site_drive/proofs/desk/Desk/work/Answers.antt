use Rattle.std.proofs.Common.{◌≡◌, ◌++◌, Ok, List, sym, subst, ◌∙◌}
use Rattle.wire.specs.declared.message.Message.{Message}
use Rattle.node.specs.declared.to.To.{To}
use Rattle.node.specs.Standing.{ending_by}
use Rattle.site_drive.specs.Delivering.{NotesBatch}
use Rattle.site_drive.specs.Drives.{EndsLast, EndsTurns}
use Rattle.site_drive.specs.Leading.{AllFit, NodeLeads}
use Rattle.site_drive.specs.Posting.{bytes_of}
use Rattle.site_drive.proofs.Batching.{of_same_node, worked, called_off, given_up_taking}
use Rattle.site_drive.proofs.Results.{err_gives}
use Rattle.site_drive.proofs.desk.Desk.work.Goals as goal

pub returns-in_err-malformed-clause-fault : goal.returns-in_err-malformed-clause-fault
returns-in_err-malformed-clause-fault g c = err_gives c.from_residual.result c.from_residual.ensures.1 λ e is.
    given_up_taking g.D.Disk.stands_for c.args.node.now c.take_each.new.node c.args.last _ _ (bytes_of c.args.came.now) _ e is c.in_err-malformed.ensures.fault

pub returns-in_err-last_call-clause-fault : goal.returns-in_err-last_call-clause-fault
returns-in_err-last_call-clause-fault g c = err_gives c.from_residual-in_err-last_call.result c.from_residual-in_err-last_call.ensures.1 λ e is.
    let old = c.args.node.now in
    let mid = c.take_each.new.node in
    called_off g.D.Disk.stands_for old mid c.last_call.new.node c.args.last old.cluster old.me c.in_ok-malformed.malformed (bytes_of c.args.came.now) c.take_each.new.self.outbox.items
    c.in_ok-malformed.ensures.ok e (λ used. c.in_err-last_call.ensures.other (sym is ∙ used))
    (of_same_node g.D.Disk.stands_for old mid c.last_call.new.node c.take_each.ensures.others (λ n p s next. (then : List (To × Message)) × EndsLast c.args.last n p s (ending_by e) then next)
    (subst (λ w. NodeLeads g.D.Disk.stands_for mid c.last_call.new.node (λ s next. (then : List (To × Message)) × EndsLast c.args.last mid.cluster mid.me s (ending_by w) then next)) (sym is)
    c.in_err-last_call.ensures.fault))

pub returns-clause-ok : goal.returns-clause-ok
returns-clause-ok g c =
    let old = c.args.node.now in
    let mid = c.take_each.new.node in
    worked g.D.Disk.stands_for old mid c.last_call.new.node c.args.last old.cluster old.me c.in_ok-malformed.malformed (bytes_of c.args.came.now) c.take_each.new.self.outbox.items
    c.in_ok-malformed.ensures.ok c.last_call.new.self.outbox.items
    (of_same_node g.D.Disk.stands_for old mid c.last_call.new.node c.take_each.ensures.others
    (λ n p s next. (then : List (To × Message)) × (c.last_call.new.self.outbox.items ≡ c.take_each.new.self.outbox.items ++ then) × EndsTurns c.args.last n p s then next × AllFit then)
    c.in_ok-last_call.ensures.ok)

pub returns-clause-noted : goal.returns-clause-noted
returns-clause-noted g c =
    subst (λ d. NotesBatch c.args.node.now.cluster c.args.came.now c.args.self.now.delivered d (Ok c.in_ok-malformed.malformed)) (sym c.last_call.ensures.delivered) c.in_ok-malformed.ensures.noted
