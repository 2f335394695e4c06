use Rattle.std.proofs.Common.{◌≡◌, map, take, vec_len, string_bytes}
use Rattle.editor_group.proofs.logins.urls_given.Given as goal

abbrev pub invariant-loop-url : goal.invariant-loop-url
invariant-loop-url l = record {
  as_many : vec_len l.found ≡ l.url-index;
  same : map string_bytes l.found.items ≡ map (λ url. url.now) (take l.url-index l.urls);
}
