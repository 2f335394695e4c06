use Rattle.command.proofs.SiteLemmas.{standing_is_last, template_is_last, partial_is_last, data_is_last, route_is_last, redirect_is_last}
use Rattle.command.proofs.laws.the_last_command_counts.Goals as goal

pub returns-clause-standing : goal.returns-clause-standing
returns-clause-standing c = standing_is_last

pub returns-clause-template : goal.returns-clause-template
returns-clause-template c = template_is_last

pub returns-clause-partial : goal.returns-clause-partial
returns-clause-partial c = partial_is_last

pub returns-clause-page_data : goal.returns-clause-page_data
returns-clause-page_data c = data_is_last

pub returns-clause-route : goal.returns-clause-route
returns-clause-route c = route_is_last

pub returns-clause-redirect : goal.returns-clause-redirect
returns-clause-redirect c = redirect_is_last
