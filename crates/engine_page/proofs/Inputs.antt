-- One more command of an input.
use Rattle.std.proofs.Common.{◌≡◌, ℕ, List, [], ◌∷◌, ◌++◌, sym, ap, ◌∙◌, append_assoc, append-nil}
use Rattle.std.specs.List.{flat_map, AllByRecursion, AllZip}
use Rattle.std.proofs.lemmas.List.Concat.{flat_map-append}
use Rattle.command.specs.Action.{Order}
use Rattle.engine_page.specs.Framed.{FramedCommand, frame, Fits}
use Rattle.engine_page.specs.Reading.{Begins, HasOrder}

each_more : (es : List FramedCommand) (e : FramedCommand) → AllByRecursion Fits es → Fits e → AllByRecursion Fits (es ++ e ∷ [])
each_more [] e each ok = (ok, tt)
each_more (x ∷ es) e each ok = (each.0, each_more es e each.1 ok)

pub zip_more : {A B : Type 0} (R : A → B → Type 0) (xs : List A) (ys : List B) (x : A) (y : B) → AllZip R xs ys → R x y → AllZip R (xs ++ x ∷ []) (ys ++ y ∷ [])
zip_more R [] [] x y h r = (r, tt)
zip_more R [] (b ∷ ys) x y h r = absurd h
zip_more R (a ∷ xs) [] x y h r = absurd h
zip_more R (a ∷ xs) (b ∷ ys) x y h r = (h.0, zip_more R xs ys x y h.1 r)

pub begins_with_frame : (input : List ℕ) (framed : List FramedCommand) (orders : List Order) (rest front : List ℕ) → Begins input framed orders rest → rest ≡ front → Begins input framed orders front
begins_with_frame input framed orders rest front b is =
    record { whole = b.whole ∙ ap (λ r. flat_map frame framed ++ r) is; each = b.each; commands = b.commands }

pub begins_more : (input : List ℕ) (framed : List FramedCommand) (orders : List Order) (rest : List ℕ) (e : FramedCommand) (after : List ℕ) (order : Order)
    → Begins input framed orders rest → rest ≡ frame e ++ after → Fits e → HasOrder e order → Begins input (framed ++ e ∷ []) (orders ++ order ∷ []) after
begins_more input framed orders rest e after order b is ok reading =
    let more : flat_map frame (framed ++ e ∷ []) ≡ flat_map frame framed ++ frame e = flat_map-append frame framed (e ∷ []) ∙ ap (λ xs. flat_map frame framed ++ xs) (append-nil (frame e)) in
    record {
      whole = b.whole ∙ ap (λ r. flat_map frame framed ++ r) is ∙ sym (append_assoc (flat_map frame framed) (frame e) after) ∙ ap (λ xs. xs ++ after) (sym more);
      each = each_more framed e b.each ok;
      commands = zip_more HasOrder framed orders e order b.commands reading;
    }
