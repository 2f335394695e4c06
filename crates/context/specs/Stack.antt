-- The list of data that a frame stands for, its top first.
use Rattle.std.specs.Prelude.{List, [], ◌∷◌, Option, None, Some}
use Rattle.std.specs.Borrow.{Bor}
use Rattle.context.specs.Whole.{Whole}
use Rattle.context.specs.View.{data_view}
use Rattle.context.specs.declared.look_up.Frame.{Frame, fold-Frame}
use Rattle.context.specs.declared.look_up.Frame.TheOpen.{Frame-F}

abbrev pub below_of : Option (Bor (List Whole)) → List Whole
below_of None = []
below_of (Some x) = x.now

abbrev pub stack_step : Frame-F (List Whole) → List Whole
stack_step f = data_view f.data.now ∷ below_of f.below

abbrev pub stack_of : Frame → List Whole
stack_of = fold-Frame (List Whole) stack_step
