-- B6, from RoundTrips.antt. Assumes nothing.
use Rattle.description.specs.RoundTrip.{OfValues, OfEntities, RoundTrip}
use Rattle.description.proofs.RoundTrips.{read_write, write_read, read_write_entity, write_read_entity}

of_values : OfValues
of_values = record { written_is_read = read_write; read_is_written = write_read }

of_entities : OfEntities
of_entities = record { written_is_read = read_write_entity; read_is_written = write_read_entity }

pub round_trip : RoundTrip
round_trip = record { values = of_values; entities = of_entities }
