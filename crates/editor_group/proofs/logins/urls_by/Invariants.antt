use Rattle.std.proofs.Common.{◌≡◌, vec_len}
use Rattle.editor_group.proofs.logins.urls_by.Given as goal

abbrev pub invariant-loop-url : goal.invariant-loop-url
invariant-loop-url l = vec_len l.found ≡ l.url-index
