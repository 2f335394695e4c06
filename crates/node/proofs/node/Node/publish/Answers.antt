use Rattle.std.proofs.Common.{refl}
use Rattle.node.proofs.Adding.{on_err}
use Rattle.node.proofs.Published.{known_published}
use Rattle.node.proofs.Gaps.{items_begin, fed_items, taken_known, all_taken, not_all}
use Rattle.node.proofs.node.Node.publish.Goals as goal

pub returns-in_err-feed-clause-same : goal.returns-in_err-feed-clause-same
returns-in_err-feed-clause-same g c s stands =
    let parts = stands.parts in
    let log = c.args.self.now.known.log in
    let prefix = c.prefix.result.now in
    let old = items_begin c.args.self.now.releases prefix (fed_items log s prefix c.args.self.now.releases parts.known.values c.prefix.ensures.each c.prefix.ensures.gap stands.fed) in
    let begins = taken_known log s prefix c.feed.new.releases parts.known.values c.prefix.ensures.each c.prefix.ensures.gap (c.feed.ensures.begins old) in
    record {
      parts = record { on_record = parts.on_record; votes = parts.votes; known = known_published (c.args.self.now).known (record (c.args.self.now).known { unpublished = c.feed.new.unpublished; tickets = c.feed.new.tickets }) s c.args.self.now.releases c.feed.ensures.more.0 c.feed.new.releases refl c.feed.ensures.more.1 c.feed.ensures.tickets begins parts.known; attempts = parts.attempts; pending = parts.pending; heard = parts.heard; reached = parts.reached };
      tidy = stands.tidy;
      ranges = stands.ranges;
      fed = begins;
    }

pub returns-clause-same : goal.returns-clause-same
returns-clause-same g c s stands =
    let parts = stands.parts in
    let log = c.args.self.now.known.log in
    let prefix = c.prefix.result.now in
    let old = items_begin c.args.self.now.releases prefix (fed_items log s prefix c.args.self.now.releases parts.known.values c.prefix.ensures.each c.prefix.ensures.gap stands.fed) in
    let begins = taken_known log s prefix c.feed.new.releases parts.known.values c.prefix.ensures.each c.prefix.ensures.gap (c.feed.ensures.begins old) in
    record {
      parts = record { on_record = parts.on_record; votes = parts.votes; known = known_published (c.args.self.now).known (record (c.args.self.now).known { unpublished = c.feed.new.unpublished; tickets = c.feed.new.tickets }) s c.args.self.now.releases c.feed.ensures.more.0 c.feed.new.releases refl c.feed.ensures.more.1 c.feed.ensures.tickets begins parts.known; attempts = parts.attempts; pending = parts.pending; heard = parts.heard; reached = parts.reached };
      tidy = stands.tidy;
      ranges = stands.ranges;
      fed = begins;
    }

pub returns-clause-ok : goal.returns-clause-ok
returns-clause-ok g c = (
  c.newest.ensures,
  λ s stands.
      let parts = stands.parts in
      let log = c.args.self.now.known.log in
      let prefix = c.prefix.result.now in
      let old = items_begin c.args.self.now.releases prefix (fed_items log s prefix c.args.self.now.releases parts.known.values c.prefix.ensures.each c.prefix.ensures.gap stands.fed) in
      all_taken log s prefix c.feed.new.releases parts.known.values c.prefix.ensures.each c.prefix.ensures.gap (c.feed.ensures.begins old) c.in_ok-feed.ensures.all,
)

pub returns-in_err-feed-clause-short : goal.returns-in_err-feed-clause-short
returns-in_err-feed-clause-short g c =
    on_err c.from_residual.result (λ s stands. not_all c.args.self.now.known.log s c.prefix.result.now c.feed.new.releases stands.parts.known.values c.prefix.ensures.each c.in_err-feed.ensures.short)

pub returns-in_err-feed-clause-on_disk : goal.returns-in_err-feed-clause-on_disk
returns-in_err-feed-clause-on_disk g c s d on = record { stands = on.stands; keeps = on.keeps; stored = on.stored }

pub returns-clause-on_disk : goal.returns-clause-on_disk
returns-clause-on_disk g c s d on = record { stands = on.stands; keeps = on.keeps; stored = on.stored }

pub returns-in_err-feed-clause-more : goal.returns-in_err-feed-clause-more
returns-in_err-feed-clause-more g c = c.feed.ensures.more

pub returns-clause-more : goal.returns-clause-more
returns-clause-more g c = c.feed.ensures.more
