use Rattle.std.proofs.Common.{ap, ◌∙◌}
use Rattle.content.specs.View.{keys}
use Rattle.content.specs.Standing.{is_held}
use Rattle.shared_map.specs.Entries.{put}
use Rattle.content.proofs.Tickets.{ticket_cmp, put_held}
use Rattle.content.proofs.site.with_ticket.Goals as goal

pub returns : goal.returns
returns c t =
    let same = c.in_ok-put.ensures.ok ∙ ap (put ticket_cmp (c.args.ticket, tt)) c.in_ok-more.ensures in
    ap (λ m. is_held t (keys m)) same ∙ put_held c.args.ticket t c.args.tickets.now
