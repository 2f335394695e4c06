use Rattle.std.proofs.Common.{◌∙◌, sym, arith}
use Rattle.engine_script.proofs.ScriptLemmas.{one_post}
use Rattle.engine_script.proofs.script.post_in.Goals.{then-number-gt-SERVERS-via-then-number-gt-SERVERS, then-number-gt-SERVERS-via-else-number-gt-SERVERS+then-post-gt-MAX_POST}
use Rattle.engine_script.proofs.script.post_in.Goals as goal

pub returns-then-number-gt-SERVERS : goal.returns-then-number-gt-SERVERS
returns-then-number-gt-SERVERS c p ticket len ok is =
    let s = c.in_ok-post.post in
    let fits = c.in_ok-post.ensures.0 in
    let same = one_post s.node p s.ticket ticket s.text_len len fits.0 fits.1 fits.2 fits.3 ok (sym c.in_ok-post.ensures.1 ∙ is) in
    elim c.then-number-gt-SERVERS.branch [
      | then-number-gt-SERVERS-via-then-number-gt-SERVERS w ↦ omega (arith, same.node_is, ok.0.1, c.number.ensures.is, w.if-number-gt-SERVERS.true)
      | then-number-gt-SERVERS-via-else-number-gt-SERVERS+then-post-gt-MAX_POST w ↦ omega (arith, same.length_is, ok.3, w.if-post-gt-MAX_POST.true)
    ]
