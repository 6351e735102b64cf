-- What a request's attributes ask for, in the words of the definitions.
use Rattle.nm_rules.specs.Attributes.{Asks}
use Rattle.nm_state.specs.declared.attributes.Asked.{Asked}
use Rattle.nm_state.specs.declared.attributes.Asked.TheVariants.{Unsupported, Invalid, Sets}

abbrev pub asks_of_code : Asked → Asks
asks_of_code Unsupported = Asks.Unsupported
asks_of_code Invalid = Asks.Invalid
asks_of_code (Sets size mode) = Asks.Sets size mode
