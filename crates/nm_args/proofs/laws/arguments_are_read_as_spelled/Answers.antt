use Rattle.nm_xdr.proofs.ExactLaws.{exact_of}
use Rattle.nm_args.specs.declared.parts.Clientids.TheVariants.{Any}
use Rattle.nm_args.proofs.OpItems.{args_item}
use Rattle.nm_args.proofs.laws.arguments_are_read_as_spelled.Goals as goal

pub returns-clause-items : goal.returns-clause-items
returns-clause-items c = args_item Any

pub returns-clause-exact : goal.returns-clause-exact
returns-clause-exact c = λ code. exact_of (args_item Any code)
