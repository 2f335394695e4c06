use Rattle.std.proofs.Common.{◌++◌, length, take, sym, ap, subst, ◌∙◌}
use Rattle.std.proofs.Math.Seq.{take-length}
use Rattle.site_drive.specs.Delivering.{none_noted, AreNoted}
use Rattle.site_drive.specs.Posting.{bytes_of, letters_of, spelled_of}
use Rattle.site_drive.proofs.Results.{err_gives}
use Rattle.server.specs.Mailing.{waiting_of}
use Rattle.server.specs.Passes.{EndsByStep, IsBatchOf}
use Rattle.server.proofs.ManyPasses.{posted, not_posted, batch_broke}
use Rattle.server.proofs.server.Server.take_batch.Goals as goal

pub returns-in_err-malformed-clause-fault : goal.returns-in_err-malformed-clause-fault
returns-in_err-malformed-clause-fault g c = err_gives c.from_residual.result c.from_residual.ensures.1 λ e is.
    let old = c.args.self.now.served.node in
    let new = c.take_batch.new.node in
    let letters = letters_of c.clear.new.self.items in
    subst (λ l. EndsByStep g.D.Disk.stands_for (bytes_of l) letters old new e) c.as_slice-came.ensures.value
    (batch_broke g.D.Disk.stands_for old new c.due-last.result (bytes_of c.as_slice-came.result.now) letters _ e is (ap letters_of c.clear.ensures.items) c.in_err-malformed.ensures.ends.fault)

pub returns-in_err-post-clause-fault : goal.returns-in_err-post-clause-fault
returns-in_err-post-clause-fault g c = err_gives c.from_residual-in_err-post.result c.from_residual-in_err-post.ensures.1 λ e is.
    let old = c.args.self.now.served.node in
    let new = c.take_batch.new.node in
    let out = c.take_batch.new.self.outbox.items in
    let letters = letters_of c.post.new.letters.items in
    subst (λ l. EndsByStep g.D.Disk.stands_for (bytes_of l) letters old new e) c.as_slice-came.ensures.value
    (not_posted g.D.Disk.stands_for old new c.due-last.result (bytes_of c.as_slice-came.result.now) _ out c.in_ok-malformed.ensures.ends.ok letters e is (λ fits.
    let r = c.in_err-post.ensures.refused fits in
    (r.0, r.1 ∙ ap (λ l. letters_of l ++ take r.0 (spelled_of out)) c.clear.ensures.items)))

pub returns-in_err-keep_own-clause-fault : goal.returns-in_err-keep_own-clause-fault
returns-in_err-keep_own-clause-fault g c = err_gives c.from_residual-in_err-keep_own.result c.from_residual-in_err-keep_own.ensures.1 λ e is.
    let old = c.args.self.now.served.node in
    let new = c.take_batch.new.node in
    let out = c.take_batch.new.self.outbox.items in
    let letters = letters_of c.keep_own.new.self.letters.items in
    subst (λ l. EndsByStep g.D.Disk.stands_for (bytes_of l) letters old new e) c.as_slice-came.ensures.value
    (not_posted g.D.Disk.stands_for old new c.due-last.result (bytes_of c.as_slice-came.result.now) _ out c.in_ok-malformed.ensures.ends.ok letters e is (λ fits.
    (length (spelled_of out), ap (λ v. letters_of v.items) c.keep_own.ensures.same ∙ c.in_ok-post.ensures.ok fits ∙ ap (λ l. letters_of l ++ spelled_of out) c.clear.ensures.items ∙ sym (take-length (spelled_of out)))))

pub returns-clause-ok : goal.returns-clause-ok
returns-clause-ok g c =
    let old = c.args.self.now.served.node in
    let new = c.take_batch.new.node in
    let last = c.due-last.result in
    let out = c.take_batch.new.self.outbox.items in
    let letters = letters_of c.keep_own.new.self.letters.items in
    let came = bytes_of c.as_slice-came.result.now in (
      last,
      subst (λ l. IsBatchOf g.D.Disk.stands_for last (bytes_of l) c.in_ok-malformed.malformed letters old new) c.as_slice-came.ensures.value
          (posted g.D.Disk.stands_for old new last came _ out c.in_ok-malformed.ensures.ends.ok
          letters (λ fits. ap (λ v. letters_of v.items) c.keep_own.ensures.same ∙ c.in_ok-post.ensures.ok fits ∙ ap (λ l. letters_of l ++ spelled_of out) c.clear.ensures.items)),
      record {
        drained = c.has_room-drained.result;
        drained_is = c.has_room-drained.ensures;
        mid = c.due-last.new.self;
        calls = c.due-last.ensures.due;
        delivered = c.delivered-delivered.result;
        noted =
            subst (λ d. AreNoted old.cluster (waiting_of c.args.self.now.mail) none_noted d) (sym c.delivered-delivered.ensures)
            (subst (λ l. AreNoted old.cluster (bytes_of l) none_noted c.take_batch.new.self.delivered) c.as_slice-came.ensures.value c.in_ok-malformed.ensures.noted.noted);
        hears = c.hear.ensures;
      },
    )

pub returns-clause-heard : goal.returns-clause-heard
returns-clause-heard g c =
    let old = c.args.self.now.served.node in (
      c.delivered-delivered.result,
      subst (λ d. AreNoted old.cluster (waiting_of c.args.self.now.mail) none_noted d) (sym c.delivered-delivered.ensures)
          (subst (λ l. AreNoted old.cluster (bytes_of l) none_noted c.take_batch.new.self.delivered) c.as_slice-came.ensures.value c.in_ok-malformed.ensures.noted.noted),
      c.heard.ensures,
    )
