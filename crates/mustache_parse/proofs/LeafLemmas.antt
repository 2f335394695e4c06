-- What a token reads that is a node by itself: its node, with the token's own texts.
use Rattle.std.proofs.Common.{◌≡◌, ◌++◌, ℕ, Bool, true, false, not, ◌&&◌, List, [], ◌∷◌, Option, String, Global, Result, Ok, Err, OnOk, string_bytes, refl, sym, ap, ap₂, ◌∙◌}
use Rattle.mustache_scan.specs.Standalone.{is_literal}
use Rattle.mustache_scan.specs.View.{token_view}
use Rattle.mustache_scan.specs.declared.fault.TemplateFault.{TemplateFault}
use Rattle.mustache_scan.specs.declared.token.Token.{Token}
use Rattle.mustache_scan.specs.declared.token.TokenKind.TheVariants as kind
use Rattle.mustache_parse.specs.Margin.{literal_under, text_onto, indent_under, tag_under, with_marked}
use Rattle.mustache_parse.specs.Stack.{marked_view, tag_makes, token_makes, levels_with, opens_view, Reads}
use Rattle.mustache_parse.specs.Tree.{variable, raw, partial, nest, Levels, onto, with_token}
use Rattle.mustache_parse.specs.View.{own_under}
use Rattle.mustache_parse.specs.declared.nesting.Nesting.{Nesting}
use Rattle.mustache_parse.specs.declared.node.Node.{Node}
use Rattle.mustache_parse.specs.declared.node.Node.TheVariants.{Text, Variable, Raw, Partial}
use Rattle.mustache_parse.proofs.MarginLevelLemmas.{with-tag}
use Rattle.mustache_parse.proofs.MarginTextLemmas.{no_lines}
use Rattle.mustache_parse.proofs.StackLemmas.{reads_leaf, levels-push}
use Rattle.mustache_parse.proofs.ViewLemmas.{onto_text, onto_variable, onto_raw, onto_partial}

-- a call that puts the node after the others
abbrev pub Adds : Nesting → Nesting → Node → Result (Unit {0}) TemplateFault → Type 0
Adds old new n r = OnOk r (new.opened.items ≡ old.opened.items) × OnOk r (new.nodes.items ≡ old.nodes.items ++ n ∷ [])

pub reads_text : (t : Token) (leads trails : Bool) (old new : Nesting) (s : String Global) (r : Result (Unit {0}) TemplateFault)
    → t.kind ≡ kind.Literal → string_bytes s ≡ t.text.now → Adds old new (Text s leads trails) r → OnOk r (Reads (token_view t) (token_makes t leads trails) old new)
reads_text t leads trails old new s r is same adds =
    reads_leaf (token_view t) (token_makes t leads trails) old new (Text s leads trails) r
    (λ above. ap (λ k. nest k t.inside.now t.place above) is)
    (λ w ls. ap (λ k. with_marked w leads trails (marked_view t) k ls) is ∙ ap (λ f. onto f ls) (sym (onto_text w s leads trails ∙ ap (λ b. text_onto (literal_under w leads trails b)) same)))
    adds.0
    adds.1

pub reads_variable : (t : Token) (old new : Nesting) (s : String Global) (r : Result (Unit {0}) TemplateFault)
    → t.kind ≡ kind.Variable → string_bytes s ≡ t.inside.now → Adds old new (Variable s) r → OnOk r (Reads (token_view t) (tag_makes t) old new)
reads_variable t old new s r is same adds =
    reads_leaf (token_view t) (tag_makes t) old new (Variable s) r
    (λ above. ap (λ k. nest k t.inside.now t.place above) is)
    (λ w ls. ap (λ k. with_token (tag_under w (marked_view t)) k ls) is ∙ ap (λ f. onto f ls) (sym (onto_variable w s ∙ ap (λ b u. variable b u) same)))
    adds.0
    adds.1

pub reads_raw : (t : Token) (old new : Nesting) (s : String Global) (r : Result (Unit {0}) TemplateFault)
    → t.kind ≡ kind.Raw → string_bytes s ≡ t.inside.now → Adds old new (Raw s) r → OnOk r (Reads (token_view t) (tag_makes t) old new)
reads_raw t old new s r is same adds =
    reads_leaf (token_view t) (tag_makes t) old new (Raw s) r
    (λ above. ap (λ k. nest k t.inside.now t.place above) is)
    (λ w ls. ap (λ k. with_token (tag_under w (marked_view t)) k ls) is ∙ ap (λ f. onto f ls) (sym (onto_raw w s ∙ ap (λ b u. raw b u) same)))
    adds.0
    adds.1

pub reads_partial : (t : Token) (old new : Nesting) (name : String Global) (own : Option (String Global)) (r : Result (Unit {0}) TemplateFault)
    → t.kind ≡ kind.Partial → string_bytes name ≡ t.inside.now → ((w : List ℕ) → own_under w own ≡ indent_under w t.is_alone t.indent.now) → Adds old new (Partial name own) r
    → OnOk r (Reads (token_view t) (tag_makes t) old new)
reads_partial t old new name own r is same_name same_indent adds =
    reads_leaf (token_view t) (tag_makes t) old new (Partial name own) r
    (λ above. ap (λ k. nest k t.inside.now t.place above) is)
    (λ w ls. ap (λ k. with_token (tag_under w (marked_view t)) k ls) is ∙ ap (λ f. onto f ls) (sym (onto_partial w name own ∙ ap₂ (λ a b u. partial a b u) same_name (same_indent w))))
    adds.0
    adds.1

-- the beginning of a line before a tag
pub begins-line : (old new : Nesting) (s : String Global) (r : Result (Unit {0}) TemplateFault) → string_bytes s ≡ [] → Adds old new (Text s true true) r
    → OnOk r ((w : List ℕ) (ls : Levels) → levels_with w old (onto (text_onto (literal_under w true true [])) ls) ≡ levels_with w new ls)
begins-line old new s (Err f) none adds = tt
begins-line old new s (Ok u) none adds =
    λ w ls. ap (λ f. levels_with w old (onto f ls)) (sym (onto_text w s true true ∙ ap (λ b. text_onto (literal_under w true true b)) none)) ∙ levels-push w old new (Text s true true) adds.0 adds.1 ls

-- a tag, after the beginning of its line where it has one
pub reads_tag : (t : Token) (leads trails : Bool) (old mid new : Nesting) (r : Result (Unit {0}) TemplateFault) → is_literal t.kind ≡ false → opens_view old ≡ opens_view mid
    → ((w : List ℕ) (ls : Levels) → levels_with w old (onto (text_onto (literal_under w (leads && not t.is_alone) true [])) ls) ≡ levels_with w mid ls)
    → OnOk r (Reads (token_view t) (tag_makes t) mid new) → OnOk r (Reads (token_view t) (token_makes t leads trails) old new)
reads_tag t leads trails old mid new (Err f) tag same begun h = tt
reads_tag t leads trails old mid new (Ok u) tag same begun h = record {
  nests = ap (nest t.kind t.inside.now t.place) same ∙ h.nests;
  levels_are = λ w ls.
      ap (levels_with w old) (with-tag w leads trails (marked_view t) t.kind ls tag ∙ ap (λ l. onto (text_onto l) (tag_makes t w ls)) (lead-same w leads t.is_alone))
      ∙ begun w (tag_makes t w ls) ∙ h.levels_are w ls;
}
  where
    lead-same : (w : List ℕ) (leads alone : Bool) → literal_under w leads (not alone) [] ≡ literal_under w (leads && not alone) true []
    lead-same w true true = no_lines w
    lead-same w true false = refl
    lead-same w false true = refl
    lead-same w false false = refl
