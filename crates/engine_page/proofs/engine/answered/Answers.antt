use Rattle.std.proofs.Common.{◌≡◌, None, Err, ◌∙◌, sym, ap, subst}
use Rattle.release.specs.Page.{answer, asked}
use Rattle.release.proofs.Answering.{answer_is_none}
use Rattle.engine_page.specs.Verdict.{says, or_no_release}
use Rattle.engine_page.proofs.Feeding.{asked_is}
use Rattle.engine_page.proofs.engine.answered.Goals as goal

pub returns-in-Ok : goal.returns-in-Ok
returns-in-Ok c =
    let values = c.args.releases.now in
    let n : c.unwrap_or-n.result ≡ asked values c.args.release = asked_is values c.args.release _ _ c.newest.ensures c.unwrap_or-n.ensures in
    sym (ap or_no_release (sym (ap (λ k. answer values k c.args.path.now) n) ∙ c.in-Ok.ensures.ok))

pub returns-in_ok-from_str-in-Err-NoSuchRelease : goal.returns-in_ok-from_str-in-Err-NoSuchRelease
returns-in_ok-from_str-in-Err-NoSuchRelease c =
    let values = c.args.releases.now in
    let n : c.unwrap_or-n.result ≡ asked values c.args.release = asked_is values c.args.release _ _ c.newest.ensures c.unwrap_or-n.ensures in
    let none : answer values (asked values c.args.release) c.args.path.now ≡ None =
    subst (λ k. answer values k c.args.path.now ≡ None) n ((answer_is_none values c.unwrap_or-n.result c.args.path.now).1 (c.in-Err-NoSuchRelease.ensures.none.0 (ap Err c.in-Err-NoSuchRelease.field-0-is))) in
    ap says c.in_ok-from_str-in-Err-NoSuchRelease.ensures.ok ∙ sym (ap or_no_release none)
