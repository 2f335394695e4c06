use Rattle.std.proofs.Common.{inl, inr, List, ℕ, Option, Bor, MatchOption, sym, ◌∙◌, subst}
use Rattle.std.proofs.lemmas.Bool.{false≢true}
use Rattle.editor_group.specs.Addresses.{HasByte, HasNoText, HasText}
use Rattle.editor_group.proofs.Addresses.{has_text, none_after}
use Rattle.editor_group.proofs.address.authority_of.Goals as goal
use Rattle.editor_group.proofs.address.authority_of.Goals.{then-has-via-then-has, then-has-via-else-has+then-has-2}

pub returns-in_err-text : goal.returns-in_err-text
returns-in_err-text c =
    let P : Option (Bor (List ℕ)) → Type 0 = λ o. MatchOption o (HasNoText c.args.url.now) (λ text. HasText c.args.url.now text.now) in
    subst P (sym c.from_residual.ensures) (none_after c.args.url.now c.without_slash.result.now c.without_slash.ensures c.in_err-text.ensures.cases)

pub returns-then-has : goal.returns-then-has
returns-then-has c =
    let h = c.in_ok-text.ensures.cases in
    let only = has_text c.args.url.now c.without_slash.result.now c.in_ok-text.text.now h.0 c.without_slash.ensures h.1.1 h.2 in
    elim c.then-has.branch [
      | then-has-via-then-has w ↦ λ text is. inl (subst (λ (l : List ℕ). HasByte l 47) (sym (only.1 text is)) (c.has.ensures.0 w.if-has.true))
      | then-has-via-else-has+then-has-2 w ↦ λ text is. inr (subst (λ (l : List ℕ). HasByte l 32) (sym (only.1 text is)) (w.has-else-has.ensures.0 w.if-has-2.true))
    ]

pub returns : goal.returns
returns c =
    let h = c.in_ok-text.ensures.cases in
    let only = has_text c.args.url.now c.without_slash.result.now c.in_ok-text.text.now h.0 c.without_slash.ensures h.1.1 h.2 in
    record {
      http = only.0;
      no_slash = λ it. false≢true (sym c.if-has.false ∙ c.has.ensures.1 it);
      no_blank = λ it. false≢true (sym c.if-has-2.false ∙ c.has-else-has.ensures.1 it);
      only = only.1;
    }
