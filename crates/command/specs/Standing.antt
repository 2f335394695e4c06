-- Which actions and commands of the definitions those of the code stand for.
use Rattle.std.specs.Prelude.{◌≡◌, Result, Ok, string_bytes, ⊤}
use Rattle.context.specs.View.{data_view}
use Rattle.mustache_parse.specs.Template.{IsTemplateOf}
use Rattle.command.specs.Action.{Action, put_template, put_partial, put_data, put_route, put_redirect, remove}
use Rattle.command.specs.Action.{release, Order}
use Rattle.command.specs.View.{kind_view}
use Rattle.command.specs.declared.commands.Command.{Command}
use Rattle.command.specs.declared.commands.Action.{Action as CodeAction}
use Rattle.command.specs.declared.commands.Action.TheVariants.{PutTemplate, PutPartial, PutData, PutRoute}
use Rattle.command.specs.declared.commands.Action.TheVariants.{PutRedirect, Remove, Release}
use Rattle.command.specs.declared.fault.CommandFault.{CommandFault}

abbrev pub StandsAs : CodeAction → Action → Type 0
StandsAs (PutTemplate name t) (put_template n body) = (string_bytes name ≡ n) × IsTemplateOf t body
StandsAs (PutPartial name t) (put_partial n body) = (string_bytes name ≡ n) × IsTemplateOf t body
StandsAs (PutData name d) (put_data n whole) = (string_bytes name ≡ n) × (data_view d ≡ whole)
StandsAs (PutRoute path shows fills) (put_route p s f) =
    (string_bytes path ≡ p) × (string_bytes shows ≡ s) × (string_bytes fills ≡ f)
StandsAs (PutRedirect path target) (put_redirect p t) = (string_bytes path ≡ p) × (string_bytes target ≡ t)
StandsAs (Remove kind name) (remove k n) = (kind_view kind ≡ k) × (string_bytes name ≡ n)
StandsAs Release release = ⊤
StandsAs _ _ = ⊥

-- the reading gives an action, and the code's action stands for it
abbrev pub IsActionOf : CodeAction → Result Action CommandFault → Type 0
IsActionOf a reading = (o : Action) × (reading ≡ Ok o) × StandsAs a o

-- the code's command stands for the order
abbrev pub StandsFor : Command → Order → Type 0
StandsFor c o = (c.ticket ≡ o.ticket) × StandsAs c.action o.action
