use Rattle.mustache_parse.proofs.LeafLemmas.{reads_variable, reads_raw, reads_partial}
use Rattle.mustache_parse.proofs.nesting.Nesting.read_tag.Goals as goal

pub returns-in_ok-from_str-in-Variable-clause-ok : goal.returns-in_ok-from_str-in-Variable-clause-ok
returns-in_ok-from_str-in-Variable-clause-ok c =
    let a = c.add in
    reads_variable c.args.token.now c.args.self.now a.new.self c.in_ok-from_str-in-Variable.field-0 a.result c.in-Variable.is c.in_ok-from_str-in-Variable.ensures.ok
    (a.ensures.opened, a.ensures.nodes)

pub returns-in_ok-from_str-in-Raw-clause-ok : goal.returns-in_ok-from_str-in-Raw-clause-ok
returns-in_ok-from_str-in-Raw-clause-ok c =
    let a = c.add-in-Raw in
    reads_raw c.args.token.now c.args.self.now a.new.self c.in_ok-from_str-in-Raw.field-0 a.result c.in-Raw.is c.in_ok-from_str-in-Raw.ensures.ok
    (a.ensures.opened, a.ensures.nodes)

pub returns-in_ok-own-in-Partial-clause-ok : goal.returns-in_ok-own-in-Partial-clause-ok
returns-in_ok-own-in-Partial-clause-ok c =
    let a = c.add-in-Partial in
    reads_partial c.args.token.now c.args.self.now a.new.self c.in_ok-name-in-Partial.name c.in_ok-own-in-Partial.own a.result c.in-Partial.is
    c.in_ok-name-in-Partial.ensures.ok
    c.in_ok-own-in-Partial.ensures.ok
    (a.ensures.opened, a.ensures.nodes)
