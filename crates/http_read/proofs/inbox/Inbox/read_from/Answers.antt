use Rattle.std.proofs.Common.{rules, ap, ◌∙◌, ◌++◌, ◌≡◌, ◌+◌, ◌-◌, take, length, slice_range, append-nil}
use Rattle.std.proofs.lemmas.List.{with_items_is, places, take-append-le}
use Rattle.std.proofs.lemmas.Slice.{between_is}
use borrow.Rule.Slice.PartMut.{put_mid, post_of}
use Rattle.http_read.proofs.Held.{held_in_front, take-append_past}
use Rattle.http_read.proofs.inbox.Inbox.read_from.Goals as goal

pub returns-in-Ok-clause-came : goal.returns-in-Ok-clause-came
returns-in-Ok-clause-came g c =
    let b = c.self.inside in
    let n = c.in-Ok.n in
    let held = b.end - b.start in
    let all = c.as_mut_slice.result.now in
    let got = c.read.new.buf in
    let after = put_mid held (length all - held) all got in
    let front : take (held + n) after ≡ take held all ++ take n got =
    take-append_past _ _ n _ (search (rules, places))
    ∙ (λ i. take held all ++ take-append-le n got (post_of held (length all - held) all) c.in-Ok.ensures.bound.0 i) in
    let whole = with_items_is c.move_down.new.buffer after (search (rules, places)) in
    let moved : take held all ≡ c.args.self.now =
    held_in_front b.buffer.items _ _ all _ b.start b.end _ c.in_ok-make_buffer.ensures.front c.self.invariant.1 c.move_down.ensures.front
    c.as_mut_slice.ensures.value c.self.view_is in (
      take n got,
      search (rules, places),
      ap (λ l. slice_range l 0 (held + n)) whole ∙ between_is after 0 _ ∙ front ∙ ap (λ l. l ++ take n got) moved,
      c.in-Ok.ensures.bytes.0,
    )

pub returns-in-Err-clause-unread : goal.returns-in-Err-clause-unread
returns-in-Err-clause-unread g c =
    let b = c.self.inside in
    let held = b.end - b.start in
    let all = c.as_mut_slice.result.now in
    let after = put_mid held (length all - held) all c.read.new.buf in
    let front : take held after ≡ take held all = take-append_past _ _ 0 _ (search (rules, places)) ∙ append-nil _ in
    let whole = with_items_is c.move_down.new.buffer after (search (rules, places)) in
    let moved : take held all ≡ c.args.self.now =
    held_in_front b.buffer.items _ _ all _ b.start b.end _ c.in_ok-make_buffer.ensures.front c.self.invariant.1 c.move_down.ensures.front
    c.as_mut_slice.ensures.value c.self.view_is in
    (ap (λ l. slice_range l 0 held) whole ∙ between_is after 0 _ ∙ front ∙ moved, c.in-Err.ensures.bytes)
