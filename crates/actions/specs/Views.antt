-- What the code lets an expression see, as the definitions have it.
use Rattle.rules.specs.Values as Values
use Rattle.actions.specs.declared.View.{View}

abbrev pub seen : View → Values.View
seen v = record { variables = v.variables.now; locals = v.locals.now; arguments = v.arguments.now; context = v.context }
