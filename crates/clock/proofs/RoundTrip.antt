-- B9, of timestamps, from Back.antt and Successor.antt. Assumes nothing.
use Rattle.clock.specs.RoundTrip.{RoundTrip, Successor}
use Rattle.clock.proofs.Back.{decode_encode, encode_decode}
use Rattle.clock.proofs.Successor.{next_later, strictly_later, next_within}

pub round_trip : RoundTrip
round_trip = record { written_is_read = decode_encode; read_is_written = encode_decode }

pub successor : Successor
successor = record { later = next_later; strictly = strictly_later; within = next_within }
