use Rattle.std.proofs.Common.{sym, ◌∙◌, codes}
use Rattle.std.proofs.lemmas.Slice.Eq.{bytes_eq-Decides}
use Rattle.engine_options.proofs.TwoWords.{two_words}
use Rattle.engine_options.proofs.version.asks_version.Goals as goal

pub returns-in-len2 : goal.returns-in-len2
returns-in-len2 c =
    let two = two_words c.args.words.now c.word-item.result c.in-len2.len_at_least c.in-len2.len_below c.word-item.is in
    let decides = bytes_eq-Decides c.as_str.result.now (codes "--version") in
    (λ yes. two.0 (sym c.as_str.ensures.value ∙ decides.0 (sym c.eq.ensures ∙ yes)), λ asks. c.eq.ensures ∙ decides.1 (c.as_str.ensures.value ∙ two.1 asks))
