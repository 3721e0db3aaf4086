-- A place of the code, as one of the definitions.
use Rattle.awk_kinds.specs.definitions.Placed.{Place}
use Rattle.awk_kinds.specs.declared.placed.Place.{Place as CodePlace}

abbrev pub place_of : CodePlace → Place
place_of place = record { a_loop = place.a_loop; a_function = place.a_function; a_record = place.a_record }
