-- What a look-up lends, from what there is.
use Rattle.std.proofs.Common.{◌≡◌, ℕ, List, Option, Some, None, MatchOption, option_map, Bor, sym, ap, subst}
use Rattle.std.specs.Option.{option_copied}
use Rattle.mustache_parse.specs.Template.{TemplateSeen, IsTemplateOf}
use Rattle.content.specs.Standing.{IsOfText}

pub lent_text : (r : Option (Bor TemplateSeen)) (found : Option TemplateSeen) (text : Option (List ℕ)) → option_copied r ≡ found → IsOfText found text
    → MatchOption r (text ≡ None) (λ t. (x : List ℕ) × (text ≡ Some x) × IsTemplateOf t.now x)
lent_text None found text e of = subst (λ f. IsOfText f text) (sym e) of
lent_text (Some t) found text e of = subst (λ f. IsOfText f text) (sym e) of

pub lent_view : {V W : Type 0} (f : V → W) (r : Option (Bor V)) (found : Option V) → option_copied r ≡ found → option_map (λ v. f v.now) r ≡ option_map f found
lent_view f None found e = ap (option_map f) e
lent_view f (Some v) found e = ap (option_map f) e
