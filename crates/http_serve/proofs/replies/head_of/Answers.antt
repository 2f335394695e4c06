use Rattle.std.proofs.Common.{◌≡◌, List, ℕ, [], ◌++◌, length, refl, arith, append_assoc}
use Rattle.http_serve.specs.Replies.{OwnLine, no_line, location, allow, line_before}
use Rattle.http_serve.proofs.replies.head_of.Goals as goal

line_then : (own : OwnLine) (rest : List ℕ) → line_before own [] ++ rest ≡ line_before own rest
line_then no_line rest = refl
line_then (location path) rest = simp append_assoc
line_then (allow methods) rest = simp append_assoc

pub returns : goal.returns
returns c =
    let size : c.len-size.result ≡ length c.args.response.now.body.items = omega (arith, c.len-size.ensures) in
    rw (← c.reason_of-reason.ensures, ← c.media_of-media.ensures, ← c.end_of_head-end.ensures.value, ← size, ← line_then, ← c.in_ok-own.ensures) c.format.ensures.ok
