-- Lines of messages, one after another.
use Rattle.std.proofs.Common.{◌≡◌, ℕ, zero, suc, List, [], ◌∷◌, ◌++◌, take, slice_get, refl, sym, ap, subst, ◌∙◌, append-nil, append_assoc}
use Rattle.std.specs.List.{flat_map}
use Rattle.wire.specs.declared.message.Message.{Message}
use Rattle.engine_schedule.specs.Tracing.{message_line, line_or_nothing}

line_more : (ms : List Message) (k : ℕ) → flat_map message_line (take (suc k) ms) ≡ flat_map message_line (take k ms) ++ line_or_nothing (slice_get ms k)
line_more [] zero = refl
line_more [] (suc k) = refl
line_more (m ∷ ms) zero = append-nil (message_line m)
line_more (m ∷ ms) (suc k) =
    ap (λ t. message_line m ++ t) (line_more ms k) ∙ sym (append_assoc (message_line m) (flat_map message_line (take k ms)) (line_or_nothing (slice_get ms k)))

-- one message more, if there is one
pub one_more_line : (ms : List Message) (k next : ℕ) → next ≡ suc k → flat_map message_line (take k ms) ++ line_or_nothing (slice_get ms k) ≡ flat_map message_line (take next ms)
one_more_line ms k next is = subst (λ n. flat_map message_line (take k ms) ++ line_or_nothing (slice_get ms k) ≡ flat_map message_line (take n ms)) (sym is) (sym (line_more ms k))
