use Rattle.std.proofs.Common.{◌≡◌, ◌≢◌, ℕ, List, [], Err, IfErr, true, false, refl, sym, subst}
use Rattle.mustache_scan.specs.Standalone.{is_literal}
use Rattle.mustache_scan.specs.declared.fault.FaultKind.TheVariants.{OutOfMemory}
use Rattle.mustache_scan.specs.declared.token.TokenKind.{TokenKind}
use Rattle.mustache_scan.specs.declared.token.TokenKind.TheVariants.{Literal}
use Rattle.mustache_parse.specs.Margin.{literal_under, text_onto}
use Rattle.mustache_parse.specs.Stack.{levels_with}
use Rattle.mustache_parse.specs.Tree.{Levels, nest, onto}
use Rattle.mustache_parse.proofs.LeafLemmas.{reads_text, reads_tag}
use Rattle.mustache_parse.proofs.StackLemmas.{opens-same}
use Rattle.mustache_parse.proofs.nesting.Nesting.read.Goals as goal

pub returns-in_ok-text-in-Literal-clause-ok : goal.returns-in_ok-text-in-Literal-clause-ok
returns-in_ok-text-in-Literal-clause-ok c =
    reads_text c.args.token.now c.args.leads c.args.trails c.args.self.now c.add.new.self c.in_ok-text-in-Literal.text c.add.result c.in-Literal.is c.in_ok-text-in-Literal.ensures.ok (c.add.ensures.opened, c.add.ensures.nodes)

other : (kind : TokenKind) → kind ≢ Literal → is_literal kind ≡ false
other Literal h = absurd (h refl)
other _ h = refl

pub returns-in_ok-begin_line-in_default : goal.returns-in_ok-begin_line-in_default
returns-in_ok-begin_line-in_default c =
    let t = c.args.token.now in
    let same = opens-same c.args.self.now c.begin_line.new.self c.in_ok-begin_line-in_default.ensures.opened in
    record {
      ok = reads_tag t c.args.leads c.args.trails c.args.self.now c.begin_line.new.self c.read_tag.new.self c.read_tag.result (other t.kind c.in_default.not-Literal) same
          (subst (λ leads. (w : List ℕ) (ls : Levels) → levels_with w c.args.self.now (onto (text_onto (literal_under w leads true [])) ls) ≡ levels_with w c.begin_line.new.self ls) c.stands_first.ensures c.in_ok-begin_line-in_default.ensures.levels)
          c.read_tag.ensures.ok;
      fault = subst (λ o. IfErr c.read_tag.result (λ f. f.kind ≢ OutOfMemory → nest t.kind t.inside.now t.place o ≡ Err f)) (sym same) c.read_tag.ensures.fault;
      memory = c.read_tag.ensures.memory;
    }
