use Rattle.std.proofs.Common.{inl, inr, Some, None, refl, arith}
use Rattle.std.proofs.lemmas.Str.Pattern.{strip_suffix_char}
use Rattle.editor_group.proofs.address.without_slash.Goals as goal

pub returns-in-Some : goal.returns-in-Some
returns-in-Some c = inl (strip_suffix_char 47 c.args.url.now (Some c.in-Some.bare) c.in-Some.ensures.cases (omega arith))

pub returns-in-None : goal.returns-in-None
returns-in-None c = inr (refl, strip_suffix_char 47 c.args.url.now None c.in-None.ensures.cases (omega arith))
